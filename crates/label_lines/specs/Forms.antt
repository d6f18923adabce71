-- The forms that a line may have, and how far it fits one. They are this project's own.
use Rattle.std.specs.Prelude.{ℕ, ◌+◌, Bool, ◌==◌, if◌then◌else◌, List, [], ◌∷◌, max, map}
use Rattle.tc_address.specs.declared.count.Count.{Count}
use Rattle.tc_address.specs.declared.count.Count.TheVariants.{Drop30}
use Rattle.tc_address.specs.Spelling.{is_digit}
use Rattle.label_lines.specs.declared.forms.TheConstants.{DROP_FORM, FORMS, LABEL_FORM}

-- the form of the labels of a count
abbrev pub label_form : Count → List ℕ
label_form Drop30 = DROP_FORM.now
label_form count = LABEL_FORM.now

-- the forms of numbers and seconds
abbrev pub forms : List (List ℕ)
forms = map (λ form. form.now) FORMS

-- a byte may stand where this one stands in a form: a digit where it is 0, and else the same byte
abbrev pub may_stand : ℕ → ℕ → Bool
may_stand place byte = if place == 48 then is_digit byte else byte == place

-- how many bytes of a line fit a form, from the first on
unfoldable pub fitting : List ℕ → List ℕ → ℕ
fitting [] line = 0
fitting (place ∷ form) [] = 0
fitting (place ∷ form) (byte ∷ line) = if may_stand place byte then 1 + fitting form line else 0

-- how many fit one of the forms, at most
unfoldable pub fitting_one : List (List ℕ) → List ℕ → ℕ
fitting_one [] line = 0
fitting_one (form ∷ others) line = max (fitting form line) (fitting_one others line)

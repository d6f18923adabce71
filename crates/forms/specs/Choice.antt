-- The words of which one is given, and what each says.
use Rattle.std.specs.Prelude.{◌≡◌, ◌⊎◌, ℕ, List, [], ◌∷◌, map, slice_get, Option, Some, None}
use Rattle.std.specs.Prelude.{if◌then◌else◌, option_and_then, IfSome}
use Rattle.std.specs.Str.{bytes_eq}
use Rattle.forms.specs.declared.choices.TheConstants.{CHOICES}
use Rattle.forms.specs.declared.value.Said.{Said}
use Rattle.forms.specs.Number.{Word}

-- what a word says, if it is one of these
abbrev pub said_in : List (Word × Said) → Word → Option Said
said_in [] word = None
said_in (row ∷ rows) word = if bytes_eq word row.0 then Some row.1 else said_in rows word

-- one of these words says so
abbrev pub IsAmong : List (Word × Said) → Said → Type 0
IsAmong [] said = ⊥
IsAmong (row ∷ rows) said = (said ≡ row.1) ⊎ IsAmong rows said

-- the choices, each with its words and what they say
unfoldable pub choices : List (List (Word × Said))
choices = map (λ words. map (λ w. (w.0.now, w.1)) words.now) CHOICES

-- what a word of the choice at a place says
abbrev pub said_at : List (List (Word × Said)) → ℕ → Word → Option Said
said_at rows place word = option_and_then (λ words. said_in words word) (slice_get rows place)

unfoldable pub said_by : ℕ → Word → Option Said
said_by choice word = said_at choices choice word

-- a word of the choice at a place says so
abbrev pub IsSaidAt : List (List (Word × Said)) → ℕ → Said → Type 0
IsSaidAt rows place said = IfSome (slice_get rows place) (λ words. IsAmong words said)

unfoldable pub IsSaidIn : ℕ → Said → Type 0
IsSaidIn choice said = IsSaidAt choices choice said

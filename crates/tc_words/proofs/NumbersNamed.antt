-- A number that a slot takes is named by a text that names its range.
use Rattle.std.proofs.Common.{◌≡◌, ◌≤◌, ◌<◌, ℕ, Bool, true, false, not, ◌&&◌, ◌||◌, List, [], ◌∷◌, Some, None, refl}
use Rattle.std.proofs.Common.{◌^◌, arith, cond, nat_lt, le-leb, inl, inr}
use Rattle.std.specs.Prelude.{nat_le, option_and_then}
use Rattle.std.specs.declared.option.Option.{Option}
use Rattle.std.specs.List.{list_any}
use Rattle.std.specs.Option.{is_some}
use Rattle.std.specs.Str.Parse.{digits_value}
use Rattle.std.proofs.lemmas.Bool.Decides.{nat_tests}
use Rattle.std.proofs.lemmas.Bool.{and_parts, leb-true, or_cases}
use Rattle.forms.specs.Number.{Word, between, is_number, number_spelled}
use Rattle.forms.specs.Slot.{columns_read}
use Rattle.tc_words.specs.Forms.{between_bars}
use Rattle.tc_words.specs.Pages.{are_digits, between_spaces, is_among, is_label, is_named, is_named_by, is_of_columns}
use Rattle.tc_words.specs.Pages.{is_of_labels}

-- the text names each number of a range
abbrev names_numbers : ℕ → ℕ → List Word → Bool
names_numbers least most (one ∷ []) = false
names_numbers least most (first ∷ to ∷ last ∷ []) =
    not (are_digits last) || nat_le (digits_value 10 first) least && nat_le most (digits_value 10 last)
names_numbers least most _ = true

-- one text does
abbrev names_them : ℕ → ℕ → List ℕ → Bool
names_them least most text =
    not (is_of_labels text) && (not (is_of_columns text) && names_numbers least most (between_spaces text))

-- and one of some texts with bars between them
abbrev pub names_range : ℕ → ℕ → List ℕ → Bool
names_range least most named = list_any (names_them least most) (between_bars named)

-- if one has the one property, and each that has it has the other, then one has that
pub one_of : {X : Type 0} (p q : X → Bool) (xs : List X) → ((x : X) → p x ≡ true → q x ≡ true)
    → list_any p xs ≡ true → list_any q xs ≡ true
one_of p q [] each any = absurd cc
one_of p q (x ∷ xs) each any = elim (or_cases (p x) _ any) [
  | inl this ↦ rw (each x this) refl
  | inr later ↦ either (q x) _ (one_of p q xs each later)
]
  where
    either : (a b : Bool) → b ≡ true → (a || b) ≡ true
    either true b is = refl
    either false b is = is

pub first_some : {X Y : Type 0} (f : X → Option Y) (o : Option X) (y : Y) → option_and_then f o ≡ Some y
    → (x : X) × (o ≡ Some x) × (f x ≡ Some y)
first_some f None y is = absurd cc
first_some f (Some x) y is = (x, refl, is)

pub small : (word : Word) (n : ℕ) → number_spelled word ≡ Some n → n ≤ 18446744073709551615
unfolding number_spelled
small word n is = go (is_number word && nat_lt (digits_value 10 word) (2 ^ 64)) refl is
  where
    go : (b : Bool) → (is_number word && nat_lt (digits_value 10 word) (2 ^ 64)) ≡ b
        → cond b (Some (digits_value 10 word)) None ≡ Some n → n ≤ 18446744073709551615
    go true tests at =
        let same : digits_value 10 word ≡ n = grind (arith, at) in
        let test = (and_parts (is_number word) _ tests).1 in
        let below : digits_value 10 word < 2 ^ 64 = grind (arith, nat_tests, test) in
        omega (arith, same, below)
    go false tests at = absurd cc

pub between_is : (least most : ℕ) (word : Word) (n : ℕ) → between least most word ≡ Some n
    → (number_spelled word ≡ Some n) × (least ≤ n) × (n ≤ most)
unfolding between
between_is least most word n is =
    let (m, spelled, at) = first_some _ (number_spelled word) n is in
    go m (nat_le least m && nat_le m most) spelled refl at
  where
    go : (m : ℕ) (b : Bool) → number_spelled word ≡ Some m → (nat_le least m && nat_le m most) ≡ b
        → cond b (Some m) None ≡ Some n → (number_spelled word ≡ Some n) × (least ≤ n) × (n ≤ most)
    go m true spelled tests at =
        let same : m ≡ n = grind (arith, at) in
        let parts = and_parts (nat_le least m) _ tests in
        rw (← same) (spelled, leb-true least m parts.0, leb-true m most parts.1)
    go m false spelled tests at = absurd cc

in_between : (least most : ℕ) (word : Word) (n : ℕ) → number_spelled word ≡ Some n → least ≤ n → n ≤ most
    → is_some (between least most word) ≡ true
unfolding between
in_between least most word n spelled low high = rw (spelled, le-leb least n low, le-leb n most high) refl

among : (least most : ℕ) (texts : List Word) (word : Word) (n : ℕ) → names_numbers least most texts ≡ true
    → number_spelled word ≡ Some n → least ≤ n → n ≤ most → is_among texts word ≡ true
among least most [] word n names spelled low high = rw spelled refl
among least most (one ∷ []) word n names spelled low high = absurd cc
among least most (first ∷ to ∷ []) word n names spelled low high = rw spelled refl
among least most (first ∷ to ∷ last ∷ []) word n names spelled low high = go (are_digits last) refl names
  where
    go : (digits : Bool) → are_digits last ≡ digits → (not digits || nat_le (digits_value 10 first) least
        && nat_le most (digits_value 10 last)) ≡ true
        → cond digits (is_some (between (digits_value 10 first) (digits_value 10 last) word))
        (is_some (number_spelled word)) ≡ true
    go true is tests =
        let parts = and_parts (nat_le (digits_value 10 first) least) _ tests in
        let from = leb-true (digits_value 10 first) least parts.0 in
        let till = leb-true most (digits_value 10 last) parts.1 in
        in_between (digits_value 10 first) (digits_value 10 last) word n spelled (omega (arith, from, low))
        (omega (arith, till, high))
    go false is tests = rw spelled refl
among least most (first ∷ to ∷ last ∷ more ∷ rest) word n names spelled low high = rw spelled refl

text_names : (least most : ℕ) (text : List ℕ) (word : Word) (n : ℕ) → names_them least most text ≡ true
    → number_spelled word ≡ Some n → least ≤ n → n ≤ most → is_named_by word text ≡ true
text_names least most text word n names spelled low high =
    let all = and_parts (not (is_of_labels text)) _ names in
    let others = and_parts (not (is_of_columns text)) _ all.1 in
    go (is_of_labels text) (is_of_columns text) all.0 others.0
    (among least most (between_spaces text) word n others.1 spelled low high)
  where
    go : (labels columns : Bool) → not labels ≡ true → not columns ≡ true
        → is_among (between_spaces text) word ≡ true
        → cond labels (is_label word) (cond columns (is_some (columns_read word)) (is_among (between_spaces text) word))
        ≡ true
    go true columns other more is = absurd cc
    go false true other more is = absurd cc
    go false false other more is = is

pub number_named : (least most : ℕ) (named : List ℕ) (word : Word) (n : ℕ) → names_range least most named ≡ true
    → number_spelled word ≡ Some n → least ≤ n → n ≤ most → is_named named word ≡ true
number_named least most named word n names spelled low high =
    one_of (names_them least most) (is_named_by word) (between_bars named)
    (λ text is. text_names least most text word n is spelled low high) names

-- The first word with a dash is found by the bytes of the words, and if there is none no word has one.
use Rattle.std.proofs.Common.{◌≡◌, ◌+◌, ◌≤◌, ℕ, Bool, cond, true, false, not, inl, inr, refl, ap₂}
use Rattle.std.proofs.Common.{arith, List, [], ◌∷◌, map, length, Some, None, nat_lt, lt-ltb}
use Rattle.std.specs.List.{position, position_or_len, prefix_len}
use Rattle.std.proofs.lemmas.Bool.{cases_lt}
use Rattle.std.proofs.lemmas.List.{length-map}
use Rattle.command_words.specs.CommandLine.{NoDash, NoDashes, begins_with_dash}

prefix_len-map : {X Y : Type 0} (p : Y → Bool) (f : X → Y) (xs : List X)
    → prefix_len p (map f xs) ≡ prefix_len (λ x. p (f x)) xs
prefix_len-map p f [] = refl
prefix_len-map p f (x ∷ xs) = rw (prefix_len-map p f xs) refl

pub position-map : {X Y : Type 0} (p : Y → Bool) (f : X → Y) (xs : List X)
    → position p (map f xs) ≡ position (λ x. p (f x)) xs
position-map p f xs =
    ap₂ (λ first len. cond (nat_lt first len) (Some first) None) (prefix_len-map (λ y. not (p y)) f xs)
    (length-map xs f)

none_within : (words : List (List ℕ)) → length words ≤ position_or_len begins_with_dash words → NoDashes words
none_within [] all = tt
none_within (word ∷ words) all = go (begins_with_dash word) refl all (none_within words)
  where
    go : (dash : Bool) → begins_with_dash word ≡ dash
        → length (word ∷ words) ≤ cond (not dash) (1 + position_or_len begins_with_dash words) 0
        → (length words ≤ position_or_len begins_with_dash words → NoDashes words) → NoDash word × NoDashes words
    go true is within rest = absurd (omega arith)
    go false is within rest = (is, rest (omega arith))

pub no_dashes : (words : List (List ℕ)) → position begins_with_dash words ≡ None → NoDashes words
no_dashes words none = elim (cases_lt (position_or_len begins_with_dash words) (length words)) [
  | inl found ↦
      let some : Some (position_or_len begins_with_dash words) ≡ None =
      rw (lt-ltb (position_or_len begins_with_dash words) (length words) found) at none in
      cc some
  | inr past ↦ none_within words past
]

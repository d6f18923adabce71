-- Calls go on, one after another: what they write is what is given of all that they take.
use Rattle.std.proofs.Common.{◌≡◌, ℕ, ◌+◌, ◌-◌, List, [], ◌++◌, length, map, take, drop}
use Rattle.std.proofs.Common.{refl, sym, ap, ◌∙◌, append_assoc, append-nil}
use Rattle.std.proofs.lemmas.List.{map-append, take_rest}
use Rattle.std.proofs.Math.Seq.{take-add, drop-drop}
use Rattle.tc_c.specs.Write.{GoesBy}

-- a front, and the front of what is left
pub front_longer : {A : Type 0} (at n : ℕ) (s : List A)
    → take (at + n) s ≡ take at s ++ take n (take (length s - at) (drop at s))
front_longer at n s = rw (take_rest s at) (take-add at n s)

-- where two lists are the same from a place on, they are from a later one on
same_later : {C : Type 0} (m k n : ℕ) (xs ys : List C) → n ≡ m + k → drop m xs ≡ drop m ys → drop n xs ≡ drop n ys
same_later {C = C} m k n xs ys later same =
    rw later rw (← drop-drop k m xs) rw (← drop-drop k m ys) (ap (λ (l : List C). drop k l) same)

-- behind what is written, nothing was changed
pub rest_on : {C : Type 0} (made k next : ℕ) (old now one : List C) → next ≡ made + k → drop made now ≡ drop made old
    → drop next one ≡ drop next now → drop next one ≡ drop next old
rest_on made k next old now one more rest same = same ∙ same_later made k next now old more rest

module _ {S A E C : Type 0} (Stands : S → List A → List E → Type 0) (number : E → C) where
  -- from one state to a later one, what was given is these more
  abbrev Gives : S → S → List A → List E → Type 0
  Gives old new taken own = (front : List A) (given : List E) → Stands old front given
      → Stands new (front ++ taken) (given ++ own)

  -- nothing was taken yet
  pub goes_nowhere : (a : S) → GoesBy Stands number a a [] []
  goes_nowhere a = ([], refl, λ front given h. rw (append-nil front) rw (append-nil given) h)

  -- something was written behind the rest
  pub written_on : (before between after : List C) (xs ys : List E) → between ≡ before ++ map number xs
      → after ≡ between ++ map number ys → after ≡ before ++ map number (xs ++ ys)
  written_on before between after xs ys one other =
      other ∙ ap (λ (l : List C). l ++ map number ys) one
      ∙ append_assoc before (map number xs) (map number ys)
      ∙ ap (λ (l : List C). before ++ l) (sym (map-append number xs ys))

  -- and then more was taken, and what it gave is written
  goes_on : (a b c : S) (s t : List A) (written more : List C) (own : List E) → GoesBy Stands number a b s written
      → Gives b c t own → more ≡ written ++ map number own → GoesBy Stands number a c (s ++ t) more
  goes_on a b c s t written more own first gives is = (
    first.0 ++ own,
    is ∙ ap (λ (l : List C). l ++ map number own) first.1 ∙ sym (map-append number first.0 own),
    λ front given h. rw (← append_assoc front s t) rw (← append_assoc given first.0 own)
        (gives (front ++ s) (given ++ first.0) (first.2 front given h)),
  )

  -- so many were taken behind those, and what they gave is written
  pub step_on : (a b c : S) (at n : ℕ) (s : List A) (before after : List C) (own : List E)
      → GoesBy Stands number a b (take at s) before → Gives b c (take n (take (length s - at) (drop at s))) own
      → after ≡ before ++ map number own → GoesBy Stands number a c (take (at + n) s) after
  step_on a b c at n s before after own first gives is =
      rw (front_longer at n s)
      (goes_on a b c (take at s) (take n (take (length s - at) (drop at s))) before after own first gives is)

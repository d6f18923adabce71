-- Fronts of lists, cuts, what is counted along them, and facts of each item.
use Rattle.std.proofs.Common.{◌≡◌, ℕ, zero, suc, ◌+◌, ◌-◌, ◌<◌, ◌≤◌, Bool, true, cond}
use Rattle.std.proofs.Common.{List, [], ◌∷◌, ◌++◌, length, take}
use Rattle.std.proofs.Common.{drop, get_or, length-append, take-add, refl, sym, ap, ◌∙◌, arith}
use Rattle.std.specs.Prelude.{count_by}
use Rattle.std.specs.List.{AllByRecursion, take_while}
use Rattle.std.proofs.lemmas.Grind.{common_steps}
use Rattle.std.proofs.lemmas.List.{take_all, take_rest}
use Rattle.std.proofs.lemmas.List.Sums.{sum_by-append, sum_by-cons, take_while-cons}

-- ---- one item more, and the first one

pub length-last : {A : Type 0} (xs : List A) (x : A) → length (xs ++ x ∷ []) ≡ length xs + 1
length-last xs x = length-append xs (x ∷ [])

-- a list that is not empty is its first item and the rest
pub first_and_rest : (xs : List ℕ) → 0 < length xs → get_or xs 0 0 ∷ drop 1 xs ≡ xs
first_and_rest [] some = absurd (omega (arith, some))
first_and_rest (x ∷ xs) some = refl

-- and its front of one
pub first_only : (xs : List ℕ) → 0 < length xs → get_or xs 0 0 ∷ [] ≡ take 1 xs
first_only [] some = absurd (omega (arith, some))
first_only (x ∷ xs) some = refl

-- ---- fronts

-- the first n items of a longer list begin with those of the shorter one
pub first_items : {A : Type 0} (n : ℕ) (xs ys : List A) → (rest : List A) × (take n (xs ++ ys) ≡ take n xs ++ rest)
first_items n [] ys = (take n ys, ap (λ l. l ++ take n ys) (sym (take_all n [] (omega arith))))
first_items zero (x ∷ xs) ys = ([], refl)
first_items (suc n) (x ∷ xs) ys = let more = first_items n xs ys in (more.0, ap (λ l. x ∷ l) more.1)

-- what holds of each item holds of each in front
pub front_keeps : {A : Type 0} (P : A → Type 0) (n : ℕ) (xs : List A) → AllByRecursion P xs
    → AllByRecursion P (take n xs)
front_keeps P zero xs all = tt
front_keeps P (suc n) [] all = tt
front_keeps P (suc n) (x ∷ xs) all = (all.0, front_keeps P n xs all.1)

-- the first items that pass a test, where the first of all does
pub take_while-on : {A : Type 0} (p : A → Bool) (x : A) (xs : List A) → p x ≡ true
    → take_while p (x ∷ xs) ≡ x ∷ take_while p xs
take_while-on p x xs on = take_while-cons p x xs ∙ rw on refl

-- ---- cuts

-- a list is what stands before a place, and the rest
pub cut_at : (k : ℕ) (xs : List ℕ) → k ≤ length xs → take k xs ++ take (length xs - k) (drop k xs) ≡ xs
cut_at k xs within = grind (arith, common_steps)

-- what is taken of the rest is no more than that
pub within_rest : (k n : ℕ) (xs : List ℕ) → k ≤ length xs → n ≤ length (take (length xs - k) (drop k xs))
    → k + n ≤ length xs
within_rest k n xs within less = grind (arith, common_steps)

-- what stands before a place, and what is taken of the rest
pub cut_more : (k n : ℕ) (xs : List ℕ) → take k xs ++ take n (take (length xs - k) (drop k xs)) ≡ take (k + n) xs
cut_more k n xs = ap (λ (l : List ℕ). take k xs ++ take n l) (take_rest xs k) ∙ sym (take-add k n xs)

-- ---- counts

-- two lists one after the other have the items of both
pub count_by-append : {A : Type 0} (p : A → Bool) (xs ys : List A)
    → count_by p (xs ++ ys) ≡ count_by p xs + count_by p ys
count_by-append {A} p xs ys = sum_by-append (λ (x : A). cond (p x) 1 0) xs ys

-- and of one item more in front
pub count_by-cons : {A : Type 0} (p : A → Bool) (x : A) (xs : List A)
    → count_by p (x ∷ xs) ≡ cond (p x) 1 0 + count_by p xs
count_by-cons {A} p x xs = sum_by-cons (λ (y : A). cond (p y) 1 0) x xs

-- ---- facts of each item

-- of one item, and of those behind it
pub also : {Held Rest : Type 0} → Held → Rest → Held × Rest
also held rest = (held, rest)

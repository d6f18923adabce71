-- What is cut at twenty at each step is what is cut once, at the end.
use Rattle.std.proofs.Common.{◌≡◌, ℕ, ◌+◌, ◌-◌, ◌<◌, ◌≤◌, ◌⊎◌, inl, inr, List, [], ◌∷◌, ◌++◌, length, get_or, take}
use Rattle.std.proofs.Common.{drop, refl, ap, sym, ◌∙◌, arith}
use Rattle.std.proofs.Common.{append_assoc, length-take, map}
use Rattle.std.specs.List.{flat_map}
use Rattle.std.proofs.lemmas.Grind.{flat_map-append}
use Rattle.std.proofs.lemmas.List.{append-nil, drop_all, drop_more, take_rest, flat_map_more, length-take-le}
use Rattle.std.proofs.lemmas.List.{take-append-le, take-take, take_all, take_more}
use Rattle.std.proofs.lemmas.List.Folds.{flat_map-map}
use Rattle.luma_field.specs.Field.{pairs}

pub all_stay : {X : Type 0} (xs ys : List X) → length xs ≡ 20 → xs ≡ take 20 (xs ++ ys)
all_stay xs ys h = sym (take-append-le 20 xs ys (omega (arith, h)) ∙ take_all 20 xs (omega (arith, h)))

pub full_stays : (xs ys : List ℕ) → length xs ≡ 20 → xs ≡ take 20 (xs ++ ys)
full_stays xs ys h = sym (take-append-le 20 xs ys (omega arith) ∙ take_all 20 xs (omega arith))

pub none_comes : {X : Type 0} (xs : List X) → length xs ≤ 20 → xs ≡ take 20 (xs ++ [])
none_comes xs h = sym (ap (take 20) (append-nil xs) ∙ take_all 20 xs h)

pub found_stays : {X : Type 0} (inside now : List X) → inside ≡ now → length inside ≤ 20 → inside ≡ take 20 (now ++ [])
found_stays inside now same h = none_comes inside h ∙ ap (λ xs. take 20 (xs ++ [])) same

pub few : {X : Type 0} (xs ys : List X) → xs ≡ take 20 ys → length xs ≤ 20
few xs ys is = let l = length-take 20 ys in let e = ap length is in omega (arith, l, e)

pub cut_twice : {X : Type 0} (n : ℕ) (xs ys : List X) → take n (take n xs ++ ys) ≡ take n (xs ++ ys)
cut_twice n xs ys =
    let cases : (length xs ≤ n) ⊎ (n ≤ length xs) = grind arith in
    elim cases [
      | inl short ↦ rw (take_all n xs short) refl
      | inr long ↦
          let l : length (take n xs) ≡ n = length-take-le n xs long in
          take-append-le n (take n xs) ys (omega (arith, l))
          ∙ (take-take n n xs (omega arith) ∙ sym (take-append-le n xs ys long))
    ]

pub none_yet : {X : Type 0} (f : X → List ℕ) (rows : List X) (start : List ℕ) → length start ≤ 20
    → start ≡ take 20 (start ++ flat_map f (take 0 rows))
none_yet f rows start h = none_comes start h

pub one_more : {X : Type 0} (f : X → List ℕ) (rows : List X) (k : ℕ) (d : X) (start lines new : List ℕ)
    → k < length rows
    → lines ≡ take 20 (start ++ flat_map f (take k rows)) → new ≡ take 20 (lines ++ f (get_or rows k d))
    → new ≡ take 20 (start ++ flat_map f (take (k + 1) rows))
one_more f rows k d start lines new h first then =
    let x = get_or rows k d in
    then ∙ (ap (λ ls. take 20 (ls ++ f x)) first ∙ (cut_twice 20 (start ++ flat_map f (take k rows)) (f x)
    ∙ (ap (take 20) (flat_map_more f start (take k rows) x)
    ∙ ap (λ xs. take 20 (start ++ flat_map f xs)) (sym (take_more rows k d h)))))

-- the pairs of some rows are the first one with each behind it, and the pairs of these
pairs_of_first : {X : Type 0} (g : X × X → List ℕ) (x : X) (xs : List X)
    → flat_map g (pairs (x ∷ xs)) ≡ flat_map (λ y. g (x, y)) xs ++ flat_map g (pairs xs)
unfolding pairs
pairs_of_first g x xs =
    flat_map-append g (map (λ y. (x, y)) xs) (pairs xs)
    ∙ ap (λ l. l ++ flat_map g (pairs xs)) (flat_map-map g (λ y. (x, y)) xs)

first_and_rest : {X : Type 0} (g : X × X → List ℕ) (rows : List X) (k : ℕ) (d : X) → k < length rows
    → flat_map g (pairs (drop k rows))
    ≡ flat_map (λ y. g (get_or rows k d, y)) (drop (k + 1) rows) ++ flat_map g (pairs (drop (k + 1) rows))
first_and_rest g rows k d h =
    ap (λ l. flat_map g (pairs l)) (drop_more rows k d h) ∙ pairs_of_first g (get_or rows k d) (drop (k + 1) rows)

pub one_more_first : {X : Type 0} (f : X → X → List ℕ) (rows : List X) (k : ℕ) (d : X) (lines new whole : List ℕ)
    → k < length rows → take 20 (lines ++ flat_map (λ both. f both.0 both.1) (pairs (drop k rows))) ≡ whole
    → new ≡ take 20 (lines ++ flat_map (f (get_or rows k d)) (take (length rows - (k + 1)) (drop (k + 1) rows)))
    → take 20 (new ++ flat_map (λ both. f both.0 both.1) (pairs (drop (k + 1) rows))) ≡ whole
one_more_first {X} f rows k d lines new whole h first then =
    let g : X × X → List ℕ = λ both. f both.0 both.1 in
    let here = f (get_or rows k d) in
    let a = flat_map here (drop (k + 1) rows) in
    let b = flat_map g (pairs (drop (k + 1) rows)) in
    let is : new ≡ take 20 (lines ++ a) =
    then ∙ ap (λ xs. take 20 (lines ++ flat_map here xs)) (take_rest rows (k + 1)) in
    ap (λ xs. take 20 (xs ++ b)) is ∙ (cut_twice 20 (lines ++ a) b ∙ (ap (take 20) (append_assoc lines a b)
    ∙ (ap (λ xs. take 20 (lines ++ xs)) (sym (first_and_rest g rows k d h)) ∙ first)))

-- the last row has none behind it
pub no_pairs : {X : Type 0} (g : X × X → List ℕ) (rows : List X) (k : ℕ) (lines whole : List ℕ) → length rows ≤ k
    → length lines ≤ 20 → take 20 (lines ++ flat_map g (pairs (drop k rows))) ≡ whole → lines ≡ whole
unfolding pairs
no_pairs g rows k lines whole h short is =
    let none : flat_map g (pairs (drop k rows)) ≡ [] = ap (λ xs. flat_map g (pairs xs)) (drop_all k rows h) in
    none_comes lines short ∙ (ap (λ xs. take 20 (lines ++ xs)) (sym none) ∙ is)

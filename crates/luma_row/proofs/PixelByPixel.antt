-- With one more pixel the table has one more sum: the one before it and this pixel. A sum of n pixels is 255 n at most.
use Rattle.std.proofs.Common.{◌≡◌, ℕ, ◌+◌, ◌*◌, ◌/◌, ◌%◌, ◌<◌, ◌≤◌, ◌⊎◌, inl, inr, List, length, get_or, take, refl, ap}
use Rattle.std.proofs.Common.{sym, subst, ◌∙◌, arith}
use Rattle.std.specs.List.{sum}
use Rattle.std.specs.Prelude.{set}
use Rattle.std.proofs.lemmas.List.{get_or_past, get_or-set_same, get_or-set_other, length-set, take_all}
use Rattle.std.proofs.lemmas.List.Sums.{sum_by_more}
use Rattle.luma_row.specs.KeptLight.{AreSumsTo, SumsSoFar}
use Rattle.luma_row.specs.Light.{light}

sum_more : (row : List ℕ) (n : ℕ) → n < length row → sum (take (n + 1) row) ≡ sum (take n row) + get_or row n 0
sum_more row n h = sum_by_more (λ x. x) row n 0 h

more_sums : (row table : List ℕ) (n x : ℕ) → n < length row → n + 1 < length table → x ≡ get_or row n 0 → x ≤ 255
    → AreSumsTo row table n → AreSumsTo row (set table (n + 1) (get_or table n 0 + x)) (n + 1)
more_sums row table n x h room is small t =
    let new = get_or table n 0 + x in
    let here = get_or-set_same table (n + 1) new 0 room in
    let old = t.sums n (omega arith) in
    let few = t.most n (omega arith) in
    let next = sum_more row n h in
    let before : (pixel : ℕ) → pixel ≤ n → get_or (set table (n + 1) new) pixel 0 ≡ get_or table pixel 0 =
    λ pixel b. get_or-set_other table (n + 1) pixel new 0 (λ e. omega arith) in
    let cases : (pixel : ℕ) → pixel ≤ n + 1 → (pixel ≤ n) ⊎ (pixel ≡ n + 1) = λ pixel b. grind arith in
    record {
      sums = λ pixel b. elim (cases pixel b) [
        | inl less ↦ before pixel less ∙ t.sums pixel less
        | inr same ↦ subst (λ p. get_or (set table (n + 1) new) p 0 ≡ sum (take p row)) (sym same)
            (here ∙ (ap (λ a. a + x) old ∙ (ap (λ a. sum (take n row) + a) is ∙ sym next)))
      ];
      most = λ pixel b. elim (cases pixel b) [
        | inl less ↦ let e = before pixel less in let m = t.most pixel less in omega (arith, e, m)
        | inr same ↦ subst (λ p. get_or (set table (n + 1) new) p 0 ≤ 255 * p) (sym same)
            (omega (arith, here, few, small))
      ];
    }

pub one_more_pixel : (row table : List ℕ) (total n x : ℕ) → SumsSoFar row table total n → n < length row
    → length row ≤ 4096
    → x ≡ get_or row n 0 → x ≤ 255 → SumsSoFar row (set table (n + 1) (total + x)) (total + x) (n + 1)
one_more_pixel row table total n x s h short is small =
    let long = s.long in
    let sums = more_sums row table n x h (omega arith) is small s.are in
    let same : get_or table n 0 + x ≡ total + x = ap (λ a. a + x) (sym s.latest) in
    record {
      long = length-set table (n + 1) (total + x) ∙ s.long;
      within = omega arith;
      latest = sym (get_or-set_same table (n + 1) (total + x) 0 (omega arith));
      are = subst (λ a. AreSumsTo row (set table (n + 1) a) (n + 1)) same sums;
    }

-- before the first pixel
pub no_pixel : (row table : List ℕ) → length table ≡ 4097 → SumsSoFar row (set table 0 0) 0 0
no_pixel row table long =
    let z = get_or-set_same table 0 0 0 (omega arith) in
    record {
      long = length-set table 0 0 ∙ long;
      within = omega arith;
      latest = sym z;
      are = record {
        sums = λ pixel b. let e : pixel ≡ 0 = omega arith in
            subst (λ p. get_or (set table 0 0) p 0 ≡ sum (take p row)) (sym e) z;
        most = λ pixel b. let e : pixel ≡ 0 = omega arith in
            subst (λ p. get_or (set table 0 0) p 0 ≤ 255 * p) (sym e) (omega (arith, z));
      };
    }

-- the light up to so many sixteenths of a pixel, out of the table; sixteen of them are the next pixel
pub light_to_part : (row table : List ℕ) (pixel part x : ℕ) → pixel < length row → part ≤ 16
    → AreSumsTo row table (length row) → x ≡ get_or row pixel 0
    → 16 * get_or table pixel 0 + part * x ≡ light row (16 * pixel + part)
unfolding light
light_to_part row table pixel part x within few t is =
    let before = t.sums pixel (omega arith) in
    let cases : (part < 16) ⊎ (part ≡ 16) = grind arith in
    elim cases [
      | inl less ↦
          let p : (16 * pixel + part) / 16 ≡ pixel = omega arith in
          let r : (16 * pixel + part) % 16 ≡ part = omega arith in
          rw (before, is, p, r) refl
      | inr same ↦
          let p : (16 * pixel + part) / 16 ≡ pixel + 1 = omega arith in
          let r : (16 * pixel + part) % 16 ≡ 0 = omega arith in
          let next = sum_more row pixel within in
          rw (before, is, p, r, next, same) (omega arith)
    ]

-- the light up to a place in the row, out of the table
pub light_in : (row table : List ℕ) (place pixel : ℕ) → place / 16 < length row → AreSumsTo row table (length row)
    → pixel ≡ get_or row (place / 16) 0
    → 16 * get_or table (place / 16) 0 + place % 16 * pixel ≡ light row place
unfolding light
light_in row table place pixel within t is =
    let before = t.sums (place / 16) (omega arith) in
    rw (before, is) refl

-- and up to one behind it
pub light_behind : (row table : List ℕ) (place : ℕ) → length row ≤ place / 16 → AreSumsTo row table (length row)
    → 16 * get_or table (length row) 0 ≡ light row place
unfolding light
light_behind row table place behind t =
    let all = t.sums (length row) (omega arith) in
    let whole = take_all (length row) row (omega arith) in
    let more = take_all (place / 16) row behind in
    let dark = get_or_past row (place / 16) 0 behind in
    rw (all, whole, more, dark) (omega arith)

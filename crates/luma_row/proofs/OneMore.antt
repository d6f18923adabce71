-- With one more the first of the greatest stays the first, unless the new one is greater.
use Rattle.std.proofs.Common.{◌≡◌, ℕ, zero, suc, ◌+◌, ◌<◌, ◌≤◌, max, ◌⊎◌, inl, inr, refl, sym, subst, arith}
use Rattle.luma_row.specs.Choice.{greatest, IsFirstBest}
use Rattle.luma_row.specs.KeptBest.{IsBestOf}

last_or_below : (other most : ℕ) → other < most + 1 → (other < most) ⊎ (other ≡ most)
last_or_below other most h = grind arith

pub first_of_one : (worth : ℕ → ℕ) (sum : ℕ) → sum ≡ worth 0 → IsBestOf 1 worth sum 0
first_of_one worth sum is = record {
  sum_is = is;
  best = record {
    below = omega arith;
    greatest = λ other h. let e : other ≡ 0 = omega arith in subst (λ n. worth n ≤ worth 0) (sym e) (omega arith);
    first = λ other h. absurd (omega arith);
  };
}

pub stays : (most : ℕ) (worth : ℕ → ℕ) (sum number new : ℕ) → IsBestOf most worth sum number → new ≡ worth most
    → new ≤ sum
    → IsBestOf (most + 1) worth sum number
stays most worth sum number new b is less =
    let s = b.sum_is in
    record {
      sum_is = b.sum_is;
      best = record {
        below = let h = b.best.below in omega arith;
        greatest = λ other h. elim (last_or_below other most h) [
          | inl below ↦ b.best.greatest other below
          | inr last ↦ subst (λ n. worth n ≤ worth number) (sym last) (omega arith)
        ];
        first = b.best.first;
      };
    }

pub comes : (most : ℕ) (worth : ℕ → ℕ) (sum number new : ℕ) → IsBestOf most worth sum number → new ≡ worth most
    → sum < new
    → IsBestOf (most + 1) worth new most
comes most worth sum number new b is more =
    let s = b.sum_is in
    record {
      sum_is = is;
      best = record {
        below = omega arith;
        greatest = λ other h. elim (last_or_below other most h) [
          | inl below ↦ let g = b.best.greatest other below in omega arith
          | inr last ↦ subst (λ n. worth n ≤ worth most) (sym last) (omega arith)
        ];
        first = λ other h. let g = b.best.greatest other h in omega arith;
      };
    }

pub greatest_more : (n : ℕ) (worth : ℕ → ℕ) → greatest (n + 1) worth ≡ max (greatest n worth) (worth n)
unfolding greatest
greatest_more n worth = let e : n + 1 ≡ suc n = omega arith in rw e refl

pub greatest_none : (worth : ℕ → ℕ) → greatest 0 worth ≡ 0
unfolding greatest
greatest_none worth = refl

greatest_bound : (most : ℕ) (worth : ℕ → ℕ) (other : ℕ) → other < most → worth other ≤ greatest most worth
unfolding greatest
greatest_bound zero worth other h = absurd (omega arith)
greatest_bound (suc n) worth other h = elim (last_or_below other n (omega arith)) [
  | inl below ↦ let g = greatest_bound n worth other below in omega arith
  | inr last ↦ subst (λ m. worth m ≤ max (greatest n worth) (worth n)) (sym last) (omega arith)
]

greatest_below : (most : ℕ) (worth : ℕ → ℕ) (bound : ℕ) → ((other : ℕ) → other < most → worth other ≤ bound)
    → greatest most worth ≤ bound
unfolding greatest
greatest_below zero worth bound all = omega arith
greatest_below (suc n) worth bound all =
    let g = greatest_below n worth bound (λ other h. all other (omega arith)) in
    let l = all n (omega arith) in
    omega arith

-- the first of the greatest is the greatest
pub first_is_greatest : (most : ℕ) (worth : ℕ → ℕ) (sum number : ℕ) → IsBestOf most worth sum number
    → sum ≡ greatest most worth
first_is_greatest most worth sum number b =
    let s = b.sum_is in
    let l = greatest_bound most worth number b.best.below in
    let g = greatest_below most worth (worth number) b.best.greatest in
    omega arith

-- there is one first of the greatest
pub one_first : (most : ℕ) (worth : ℕ → ℕ) (number other : ℕ) → IsFirstBest most worth number
    → IsFirstBest most worth other
    → number ≡ other
one_first most worth number other a b =
    let p = a.greatest other b.below in
    let q = b.greatest number a.below in
    let less : number < other → ⊥ = λ h. let c = b.first number h in omega arith in
    let more : other < number → ⊥ = λ h. let c = a.first other h in omega arith in
    let cases : (number < other) ⊎ (other ≤ number) = grind arith in
    elim cases [
      | inl h ↦ absurd (less h)
      | inr h ↦ let others : (other < number) ⊎ (number ≡ other) = grind arith in
          elim others [ inl k ↦ absurd (more k) | inr same ↦ same ]
    ]

use Rattle.std.proofs.Common.{◌≡◌, [], ◌∷◌, subst, arith, refl}
use Rattle.biphase.specs.declared.cell.Cell.TheVariants.{One}
use Rattle.biphase.specs.declared.profile.Profile.TheVariants.{Rough}
use Rattle.cell_tracker.specs.Lock.{IsLock, IsUnequalAt}
use Rattle.cell_tracker.proofs.Computed.{run, stretches_of, computed_are}
use Rattle.cell_tracker.proofs.laws.rough_recordings_are_found_behind_even_ones_alone.Goals as goal

pub returns-clause-run : goal.returns-clause-run
returns-clause-run c = record {
  before = [];
  first = 32;
  ones = One 16 16 ∷ One 16 16 ∷ One 16 16 ∷ One 16 16 ∷ One 16 16 ∷ One 16 16 ∷ One 16 16 ∷ One 16 16 ∷ One 16 16 ∷ [];
  whole = 32;
  after = [];
  are = refl;
  many = omega arith;
  within = omega arith;
  place = refl;
  inside = omega arith;
  even = 32;
  some = omega arith;
  even_ones = (search arith);
  even_whole = (omega arith, omega arith);
}

-- the first pair falls
first : IsLock Rough (24 ∷ 12 ∷ 12 ∷ 24 ∷ 24 ∷ 12 ∷ 12 ∷ 24 ∷ []) 0 0
first = record {
  pair = 0;
  within = omega arith;
  unequal = (omega arith, ((λ equal. omega (arith, equal)), omega arith));
  none_before = λ k from less unequal. omega (arith, less);
  rising = λ rises. absurd (omega (arith, rises));
  falling = λ _. refl;
}

-- the halves of the first one are equal, and the pair behind them rises
next : IsLock Rough (24 ∷ 12 ∷ 12 ∷ 24 ∷ 24 ∷ 12 ∷ 12 ∷ 24 ∷ []) 1 3
next = record {
  pair = 2;
  within = omega arith;
  unequal = (omega arith, ((λ equal. omega (arith, equal)), omega arith));
  none_before = λ k from less unequal.
      let one : k ≡ 1 = omega (arith, from, less) in
      (subst (λ n. IsUnequalAt Rough (24 ∷ 12 ∷ 12 ∷ 24 ∷ 24 ∷ 12 ∷ 12 ∷ 24 ∷ []) n) one unequal).1.0 (omega arith);
  rising = λ _. refl;
  falling = λ falls. absurd (omega (arith, falls));
}

pub returns-clause-second : goal.returns-clause-second
unfolding first
returns-clause-second c = record { first = 0; lock = first; next = next }

pub returns-clause-other_phase : goal.returns-clause-other_phase
unfolding stretches_of run
returns-clause-other_phase c =
    computed_are Rough (18 ∷ 36 ∷ 36 ∷ 36 ∷ 36 ∷ 24 ∷ 12 ∷ 12 ∷ 24 ∷ 24 ∷ 12 ∷ 12 ∷ 24 ∷ []) _ refl

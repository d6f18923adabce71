use Rattle.std.proofs.Common.{◌≡◌, [], ◌∷◌, subst, arith, refl}
use Rattle.biphase.specs.declared.profile.Profile.TheVariants.{Normal}
use Rattle.cell_tracker.specs.Lock.{IsLock, IsUnequalAt}
use Rattle.cell_tracker.proofs.laws.a_small_recording_is_kept_in_both_orders.Goals as goal

-- the first pair falls
first : IsLock Normal (24 ∷ 12 ∷ 12 ∷ 24 ∷ 24 ∷ 12 ∷ 12 ∷ []) 0 0
first = record {
  pair = 0;
  within = omega arith;
  unequal = (omega arith, ((λ equal. omega (arith, equal)), omega arith));
  none_before = λ k from less unequal. omega (arith, less);
  rising = λ rises. absurd (omega (arith, rises));
  falling = λ _. refl;
}

-- the halves of the first one are equal, and the pair behind them rises
next : IsLock Normal (24 ∷ 12 ∷ 12 ∷ 24 ∷ 24 ∷ 12 ∷ 12 ∷ []) 1 3
next = record {
  pair = 2;
  within = omega arith;
  unequal = (omega arith, ((λ equal. omega (arith, equal)), omega arith));
  none_before = λ k from less unequal.
      let one : k ≡ 1 = omega (arith, from, less) in
      (subst (λ n. IsUnequalAt Normal (24 ∷ 12 ∷ 12 ∷ 24 ∷ 24 ∷ 12 ∷ 12 ∷ []) n) one unequal).1.0 (omega arith);
  rising = λ _. refl;
  falling = λ falls. absurd (omega (arith, falls));
}

pub returns-clause-second : goal.returns-clause-second
unfolding first
returns-clause-second c = record { first = 0; lock = first; next = next }

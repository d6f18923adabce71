use Rattle.std.proofs.Common.{◌≡◌, ℕ, max, pos, ◌≤ℤ◌, subst, sym, arith}
use Rattle.std.specs.Prelude.{◌+ℤ◌}
use Rattle.tape_sound.proofs.InNumbers.{even_normal, even_rough, even_worn}
use Rattle.tape_sound.proofs.MadeMargin.{fixed_margin}
use Rattle.biphase.specs.declared.profile.Profile.TheVariants.{Normal, Worn, Rough}
use Rattle.tape_sound.proofs.number_laws.a_margin_in_numbers.Goals as goal

-- the noise in a step is the same at both samples
same : (noise : ℕ) → max noise noise ≡ noise
same noise = omega arith

pub returns-clause-bounds : goal.returns-clause-bounds
returns-clause-bounds c =
    λ profile fineness delay start noise threshold low high tape clean sound some above below long near over steady.
    record {
      delay = delay;
      start = start;
      noise = λ place. noise;
      low = λ place. low;
      high = λ place. high;
      clean = clean;
      noisy = record { long = long; near = near };
      stays = λ place in_sound. record {
        some = some;
        above = subst (λ n. (low +ℤ pos n) ≤ℤ pos threshold) (sym (same noise)) above;
        below = subst (λ n. (pos threshold +ℤ pos n) ≤ℤ high) (sym (same noise)) below;
      };
      goes_over = over;
      steady = steady;
    }

pub returns-clause-made : goal.returns-clause-made
returns-clause-made c = λ fineness size noise threshold half tape noisy fine some room are runs. (
  λ fits. fixed_margin Normal fineness size noise threshold tape noisy fine some room are
      (even_normal half 1 tape runs (omega (arith, fits))),
  λ fits. fixed_margin Worn fineness size noise threshold tape noisy fine some room are
      (even_worn half 1 tape runs (omega (arith, fits))),
  λ fits. fixed_margin Rough fineness size noise threshold tape noisy fine some room are
      (even_rough half 1 tape runs (omega (arith, fits))),
)

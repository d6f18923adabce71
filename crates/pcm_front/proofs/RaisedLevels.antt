-- A level that stands higher, and a size that stands as much higher, give the level after the sample.
use Rattle.std.proofs.Common.{◌≡◌, ℕ, ◌+◌, ◌-◌, ◌<◌, ◌≤◌, ℤ, pos, List, get_or, length, ap, ap₂, sym, ◌∙◌, arith}
use Rattle.std.specs.List.{fold}
use Rattle.std.specs.Prelude.{slice_range, unsigned_abs}
use Rattle.pcm_front.specs.declared.level.Level.{Level}
use Rattle.pcm_front.specs.Level.{level_after}
use Rattle.pcm_front.specs.Sizes.{level_grown, size_at}
use Rattle.pcm_front.proofs.QuietRuns.{fold_range}

-- one sample more
pub one_more : (start level next : Level) (xs : List ℤ) (at place more size : ℕ) → at ≤ place → place < length xs
    → more ≡ place + 1 → size ≡ size_at xs place → level ≡ fold level_after start (slice_range xs at place)
    → next ≡ level_grown level (size - 1_023)
    → next ≡ fold level_after start (slice_range xs at more)
one_more start level next xs at place more size order within more_is size_is so_far grows =
    let sized : size - 1_023 ≡ unsigned_abs (get_or xs place (pos 0)) = omega (arith, size_is) in
    grows ∙ ap₂ level_grown so_far sized ∙ sym (fold_range level_after start xs at place order within)
    ∙ ap (λ n. fold level_after start (slice_range xs at n)) (sym more_is)

-- Clipping spikes and clicks: no sample counts for more than an eighth above the peak of those before it, as they were
-- clipped; but up to the mean size of the latest 512 each does, and above three times that none. Lists begin with the
-- latest. The rule is this project's own.
use Rattle.std.specs.Prelude.{ℕ, ◌*◌, ◌/◌, min, max, leb, cond, ℤ, pos, neg_ℤ, int_le, unsigned_abs, List, [], ◌∷◌, map}
use Rattle.path_front.specs.declared.clip.TheConstants.{CLIP}
use Rattle.path_front.specs.Hold.{loudness_of}
use Rattle.path_front.specs.Sizes.{mean_size}

-- the sizes of samples
abbrev pub sizes_of : List ℤ → List ℕ
sizes_of samples = map unsigned_abs samples

-- no greater than this: above it is the number of that size on the same side
abbrev pub clipped_to : ℕ → ℤ → ℤ
clipped_to most sample =
    cond (leb (unsigned_abs sample) most) sample (cond (int_le (pos 0) sample) (pos most) (neg_ℤ (pos most)))

-- where the latest of some samples is clipped, if those before it have this peak
abbrev pub clip_at : ℕ → List ℤ → ℕ
clip_at peak samples = max (mean_size 1 (sizes_of samples)) (min (mean_size CLIP (sizes_of samples)) (9 * peak / 8))

-- what clipping leaves of the samples: of each by those up to it
unfoldable pub clipped : List ℤ → List ℤ
clipped [] = []
clipped (sample ∷ before) =
    clipped_to (clip_at (loudness_of (clipped before)).peak (sample ∷ before)) sample ∷ clipped before

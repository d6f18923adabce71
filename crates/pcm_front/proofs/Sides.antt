-- A sample that lies on no side is no crossing, and if the sound stays on its side nothing else changes.
use Rattle.std.specs.Option.{option_or}
use Rattle.std.proofs.Common.{◌≡◌, true, false, Option, Some, None, refl}
use Rattle.pcm_front.specs.declared.side.Side.{Side}
use Rattle.pcm_front.specs.declared.side.Side.TheVariants.{High, Low}
use Rattle.pcm_front.specs.Side.{differs, stays}

pub differs_none : (before : Option Side) → differs before None ≡ false
differs_none None = refl
differs_none (Some High) = refl
differs_none (Some Low) = refl

-- the side is the same
pub stays_there : (before now : Option Side) → stays before now ≡ true → option_or now before ≡ before
stays_there None None is = refl
stays_there None (Some now) is = absurd (cc)
stays_there (Some before) None is = refl
stays_there (Some High) (Some High) is = refl
stays_there (Some High) (Some Low) is = absurd (cc)
stays_there (Some Low) (Some High) is = absurd (cc)
stays_there (Some Low) (Some Low) is = refl

-- and there is no crossing
pub stays_apart : (before now : Option Side) → stays before now ≡ true → differs before now ≡ false
stays_apart None None is = refl
stays_apart None (Some now) is = absurd (cc)
stays_apart (Some before) None is = differs_none (Some before)
stays_apart (Some High) (Some High) is = refl
stays_apart (Some High) (Some Low) is = absurd (cc)
stays_apart (Some Low) (Some High) is = absurd (cc)
stays_apart (Some Low) (Some Low) is = refl

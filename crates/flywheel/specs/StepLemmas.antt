-- No step leads nowhere, for the proofs of the crates above. No promise speaks of it.
use Rattle.std.proofs.Common.{◌≡◌, pos, refl}
use Rattle.tc_address.specs.declared.direction.Direction.{Direction}
use Rattle.tc_address.specs.declared.direction.Direction.TheVariants.{Forward, Backward}
use Rattle.flywheel.specs.Frames.{steps_in}

pub no_steps : (direction : Direction) → steps_in direction 0 ≡ pos 0
no_steps Forward = refl
no_steps Backward = refl

-- What a state says of its mode, and what pulling leaves, for the proofs of the crates above. No promise speaks of it.
use Rattle.std.proofs.Common.{◌≡◌, ℤ, None, refl, arith}
use Rattle.std.proofs.lemmas.Grind.{common_steps}
use Rattle.tc_address.specs.declared.direction.Direction.{Direction}
use Rattle.chase_core.specs.declared.mode.Mode.{Mode}
use Rattle.chase_core.specs.declared.mode.Mode.TheVariants.{Waiting, Locating, Pulling, Locked}
use Rattle.chase_core.specs.declared.report.State.TheVariants as states
use Rattle.chase_core.specs.Step.{pulled, state_of}

pub state_locked : (mode : Mode) → state_of mode ≡ states.Locked → mode ≡ Locked
state_locked Waiting e = absurd (cc)
state_locked (Locating n) e = absurd (cc)
state_locked Pulling e = absurd (cc)
state_locked Locked e = refl

-- pulling loses no lock
pub pulled_quiet : (direction : Direction) (e : ℤ) → (pulled direction e).loss ≡ None
pulled_quiet direction e = grind (arith, common_steps)

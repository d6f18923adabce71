-- A window loss comes from a chase that was locked, has a master, and finds it more than half a frame away.
use Rattle.std.proofs.Common.{◌≡◌, ℕ, ◌<◌, ◌↔◌, ℤ, Option, Some, None, refl, arith}
use Rattle.std.specs.Prelude.{unsigned_abs, IsSomeAnd}
use Rattle.std.proofs.lemmas.Grind.{common_steps}
use Rattle.tc_address.specs.declared.count.Count.{Count}
use Rattle.tc_address.specs.declared.direction.Direction.{Direction}
use Rattle.chase_core.specs.declared.command.Master.{Master}
use Rattle.chase_core.specs.declared.mode.Mode.{Mode}
use Rattle.chase_core.specs.declared.mode.Mode.TheVariants.{Waiting, Locating, Pulling, Locked}
use Rattle.chase_core.specs.declared.report.Loss.TheVariants.{Window}
use Rattle.chase_core.specs.Step.{error_to, located, pulled, kept, outcome_of}

loss_kept : (direction : Direction) (e error : ℤ) → ((kept direction e).loss ≡ Some (Window error)) ↔
    ((error ≡ e) × (40 < unsigned_abs error))
loss_kept direction e error = grind (arith, common_steps)

loss_located : (n : ℕ) (e error : ℤ) → (located n e).loss ≡ Some (Window error) → ⊥
loss_located n e error h = grind (arith, common_steps)

loss_pulled : (direction : Direction) (e error : ℤ) → (pulled direction e).loss ≡ Some (Window error) → ⊥
loss_pulled direction e error h = grind (arith, common_steps)

pub window_cause : (count : Count) (mode : Mode) (master : Option Master) (position : ℕ) (error : ℤ) →
    ((outcome_of count mode master position).loss ≡ Some (Window error)) ↔
    ((mode ≡ Locked) × IsSomeAnd master (λ m. (error ≡ error_to count position m.number) × (40 < unsigned_abs error)))
window_cause count Waiting master position error = (λ h. absurd (cc), λ h. absurd (cc))
window_cause count (Locating n) master position error =
    (λ h. absurd (loss_located n (error_to count position n) error h), λ h. absurd (cc))
window_cause count Pulling None position error = (λ h. absurd (cc), λ h. absurd (cc))
window_cause count Pulling (Some m) position error =
    (λ h. absurd (loss_pulled m.direction (error_to count position m.number) error h), λ h. absurd (cc))
window_cause count Locked None position error = (λ h. absurd (cc), λ h. absurd h.1)
window_cause count Locked (Some m) position error =
    let k = loss_kept m.direction (error_to count position m.number) error in
    (λ h. (refl, k.0 h), λ h. k.1 h.1)

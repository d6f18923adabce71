use Rattle.std.proofs.Common.{◌≡◌, ◌∙◌, ◌+◌, ◌-◌, ◌++◌, ℕ, List, Bool, ap, arith, w64, to_z, of_z}
use Rattle.std.specs.Prelude.{ℤ}
use Rattle.direction_reader.specs.Played.{low_bits}
use Rattle.flywheel.specs.Frames.{steps_in}
use Rattle.tc_address.specs.Label.{IsLabel}
use Rattle.tc_address.specs.Numbering.{step}
use Rattle.ltc_jam.specs.Word.{time_bits}
use Rattle.made_commands.specs.KeptStriping.{cell_bytes}
use Rattle.made_commands.proofs.MadeInPieces.{frame_written, one_step_fits}
use Rattle.made_commands.proofs.ltc_make.UnmadeRecording.frame.Goals as goal

-- the frame was written, and the next ones are left
pub returns-clause-rest : goal.returns-clause-rest
returns-clause-rest c =
    let direction = c.args.self.now.direction in
    let label = c.args.self.now.label in
    let old = c.args.room.now.items in
    let new = c.write_bits.new.room.items in
    let shape = c.args.self.now.shaper in
    let later = c.write_bits.new.shaper in
    let fits = ap (λ (j : ℤ). step label (to_z w64 (of_z w64 j))) c.one_step.ensures
    ∙ ap (λ (j : ℤ). step label j) (one_step_fits direction) in
    let next : c.advance-self.result ≡ step label (steps_in direction 1) = c.advance-self.ensures.label ∙ fits in
    let valid : IsLabel label = c.played_bits-bits.ensures.valid.label in
    let count : c.args.self.now.frames - 1 + 1 ≡ c.args.self.now.frames = omega arith in
    let written : (tail : List Bool) → new ++ cell_bytes later tail ≡ old
    ++ cell_bytes shape (low_bits 80 (time_bits direction label) ++ tail) =
    λ tail. c.write_bits.ensures.cells tail
    ∙ ap (λ (n : ℕ). old ++ cell_bytes shape (low_bits 80 n ++ tail)) c.played_bits-bits.ensures.value in
    rw next (frame_written c.steps_add_up.ensures.none c.steps_add_up.ensures.sum direction label
    (c.args.self.now.frames - 1) c.args.self.now.frames
    old new shape later valid count written)

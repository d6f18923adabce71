-- A recording that is made has one interval for its first cell, and two at most for each other, so it is within the
-- limit of a reading.
use Rattle.std.proofs.Common.{◌≡◌, ℕ, ◌+◌, ◌*◌, ◌≤◌, Bool, true, false, List, [], ◌∷◌, length}
use Rattle.std.proofs.Common.{◌∙◌, ap, arith}
use Rattle.std.specs.List.{range_with_len}
use Rattle.std.proofs.lemmas.List.{length-map}
use Rattle.std.proofs.lemmas.List.FromFn.{length-range_with_len}
use Rattle.direction_reader.specs.PlayedLemmas.{length-bits_of_words}
use Rattle.biphase.specs.declared.cell.Cell.{Cell}
use Rattle.biphase.specs.declared.cell.Cell.TheVariants.{Zero, One}
use Rattle.biphase.specs.Chain.{bits, flat}
use Rattle.direction_reader.specs.Played.{bits_of_words}
use Rattle.flywheel.specs.Frames.{steps_in}
use Rattle.tc_address.specs.declared.direction.Direction.{Direction}
use Rattle.tc_address.specs.Label.{Address}
use Rattle.tc_address.specs.Numbering.{step}
use Rattle.tc_job.specs.Stripe.{IsStripe, Striping}
use Rattle.made_commands.specs.Made.{frames_from, made_cells, made_frames}
use Rattle.ltc_jam.specs.Word.{played_as}
use Rattle.made_commands.proofs.MadeIsRead.{ShapesHaveBits}

length-frames_from : (direction : Direction) (label : Address) (frames : ℕ)
    → length (frames_from direction label frames) ≡ frames
unfolding frames_from
length-frames_from direction label frames =
    length-map (range_with_len 0 frames) (λ (k : ℕ). played_as direction (step label (steps_in direction k)))
    ∙ length-range_with_len 0 frames

-- two intervals a cell at most
two_a_cell : (cells : List Cell) → length (flat cells) ≤ 2 * length (bits cells)
two_a_cell [] = omega arith
two_a_cell (Zero x ∷ more) = let rest = two_a_cell more in omega (arith, rest)
two_a_cell (One a b ∷ more) = let rest = two_a_cell more in omega (arith, rest)

zero_first : (cells : List Cell) (rest : List Bool) → bits cells ≡ false ∷ rest
    → length (flat cells) ≤ 1 + 2 * length rest
zero_first [] rest e = absurd (cc)
zero_first (Zero x ∷ more) rest e =
    let others = two_a_cell more in
    let long : length (false ∷ bits more) ≡ length (false ∷ rest) = ap length e in
    omega (arith, others, long)
zero_first (One a b ∷ more) rest e = absurd (cc)

pub made_is_short : ShapesHaveBits → (s : Striping) → IsStripe s → length (flat (made_cells s)) ≤ 160000003
made_is_short have_bits s is =
    let rest = true ∷ bits_of_words (made_frames s) in
    let few = zero_first (made_cells s) rest (have_bits s.shape (false ∷ rest)) in
    let words = length-bits_of_words (made_frames s) in
    let frames = length-frames_from s.direction s.label s.frames in
    let most = is.not_too_many in
    omega (arith, few, words, frames, most)

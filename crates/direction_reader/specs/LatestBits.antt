-- The latest bits of the stretch that is open.
use Rattle.std.specs.Prelude.{Bool}
use Rattle.direction_reader.specs.declared.latest_bits.LatestBits.{LatestBits}
use Rattle.direction_reader.specs.declared.latest_bits.LatestBits.TheVariants as latest
use Rattle.direction_reader.specs.declared.window.FromFilling.{FromFilling}
use Rattle.direction_reader.specs.declared.window.FromFilling.TheVariants as filled
use Rattle.direction_reader.specs.Candidate.{IsCandidate}
use Rattle.direction_reader.specs.Window.{with_bit, slid_by}

-- what a bit made of a window that was not full
abbrev pub of_filling : FromFilling → LatestBits
of_filling (filled.Filling f) = latest.Filling f
of_filling (filled.Full bits) = latest.Full bits

-- one bit more at the end
abbrev pub after_bit : LatestBits → Bool → LatestBits
after_bit (latest.Full bits) bit = latest.Full (slid_by bits bit)
after_bit (latest.Filling f) bit = of_filling (with_bit f bit)

-- they are a window, and it is a candidate
abbrev pub EndsInCandidate : LatestBits → Type 0
EndsInCandidate (latest.Full bits) = IsCandidate bits
EndsInCandidate (latest.Filling f) = ⊥

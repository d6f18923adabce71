use Rattle.std.proofs.Common.{ap, subst, slice_index, ◌≡◌, None, ℕ, List}
use Rattle.mtc_reader.specs.declared.message.Message.TheVariants.{QuarterFrame}
use Rattle.mtc_reader.specs.Events.{event_of}
use Rattle.mtc_reader.proofs.row.Row.pass_window.Goals as goal

-- the first one was passed
pub returns-clause-none : goal.returns-clause-none
returns-clause-none c = λ _ before place keeps.
    subst (λ q. event_of (QuarterFrame q) before place ≡ None) (ap (λ (l : List ℕ). slice_index l 0) c.numbers.ensures)
    (c.pass.ensures.none c.if-not-pass.false before place keeps)

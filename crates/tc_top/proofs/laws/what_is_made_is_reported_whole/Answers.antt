use Rattle.std.proofs.Common.{◌∙◌, ◌++◌, List, ap, subst}
use Rattle.biphase.specs.declared.profile.Profile.TheVariants.{Normal}
use Rattle.biphase.specs.Chain.{flat}
use Rattle.direction_reader.specs.declared.event.Event.{Event}
use Rattle.interval_file.specs.Recording.{Recording}
use Rattle.interval_engine.specs.Along.{IsWholeOf}
use Rattle.interval_commands.specs.LtcRead.{last_line, lines, report}
use Rattle.made_commands.specs.Made.{made_cells, made_header}
use Rattle.tc_top.proofs.laws.what_is_made_is_reported_whole.Goals as goal

-- the events of the report are those of the frames
pub returns : goal.returns
returns c = λ s written is output.
    let back = c.what_is_made_is_read_whole.ensures.back s is in
    let read = c.what_is_made_is_read_whole.ensures.read s is in
    let whole = subst (λ (r : Recording). IsWholeOf (report Normal) r written) read.0 output in
    let same = c.a_list_has_one_list_of_events.ensures (made_header s).system Normal (flat (made_cells s)) whole.events
    _ whole.are_events back.events in
    whole.are ∙ ap (λ (events : List Event). lines (made_header s) events ++ last_line (flat (made_cells s)) events)
    same

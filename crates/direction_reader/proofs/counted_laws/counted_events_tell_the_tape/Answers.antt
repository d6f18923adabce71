use Rattle.std.proofs.Common.{ap, ◌∙◌}
use Rattle.direction_reader.specs.Counted.{counted}
use Rattle.direction_reader.proofs.counted_laws.counted_events_tell_the_tape.Goals as goal

pub returns : goal.returns
returns c = λ system profile intervals events are.
    let plain = c.events_tell_the_tape.ensures system profile intervals are.0 are.1 in
    record {
      nothing = λ none. are.2 ∙ ap counted (plain.nothing none);
      words = λ tape cut lock piece at. are.2 ∙ ap counted (plain.words tape cut lock piece at);
    }

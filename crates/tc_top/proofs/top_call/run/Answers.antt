use Rattle.std.proofs.Common.{inl, [], refl, map, string_bytes, subst, sym}
use Rattle.std.proofs.KnownBytes.{Appends-nil, Consumes-nil}
use Rattle.tc_job.specs.declared.job.Task.TheVariants.{Stream}
use Rattle.tc_command.specs.WholeInput.{HasStatus}
use Rattle.tc_top.specs.Commands.{meaning_of}
use Rattle.tc_command.specs.Exchange.{Exchange}
use Rattle.tc_top.proofs.WordsAnswer.{fault_answers, named, same_job}
use Rattle.tc_top.proofs.top_call.run.Goals as goal

-- the fault of the words
pub returns-in-Err-clause-answer : goal.returns-in-Err-clause-answer
returns-in-Err-clause-answer g c =
    let words = map string_bytes c.args.words.now in
    let went : Exchange = record {
      pulled = [];
      left = g.S.Source.left c.args.source.now;
      written = [];
      note =
          c.usage_note.result.items;
    } in (
      went,
      record { bytes = Consumes-nil _; left = refl },
      Appends-nil _,
      record { front = c.push_note.ensures.front; all = c.push_note.ensures.all },
      rw c.of_words.ensures
          (fault_answers words c.in-Err.fault _ c.usage_note.result.items
          (rw c.in-Err.is at c.read_words.ensures.answer) c.usage_note.ensures),
    )

-- the whole input leaves the status: the job is the one that the words name
pub returns-in-Stream-clause-status : goal.returns-in-Stream-clause-status
returns-in-Stream-clause-status g c = λ job input says told no_read no_write.
    let words = map string_bytes c.args.words.now in
    let own = named words (Stream c.in-Stream.job) (rw (c.in-Ok.is, c.in-Stream.is) at c.read_words.ensures.answer) in
    inl (subst (λ j. HasStatus (meaning_of j) input c.stream.result) (sym (same_job words job c.in-Stream.job says own))
    (c.stream.ensures.status input told no_read no_write))

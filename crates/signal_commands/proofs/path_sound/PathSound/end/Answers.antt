use Rattle.std.proofs.Common.{reverse}
use Rattle.interval_file.specs.declared.header.FileVersion.TheVariants.{One}
use Rattle.interval_file.specs.Grammar.{intervals_bytes}
use Rattle.signal_commands.proofs.PathEnds.{all_written, ends_of_words, has_drained, is_over}
use Rattle.signal_commands.proofs.path_sound.PathSound.end.Goals as goal

-- all were written
pub returns : goal.returns
returns g c = record {
  ends = λ samples written hears.
      let s = c.args.self.now in
      let f = c.finish.ensures in
      let e = c.write_due.ensures in
      let w = e.all (reverse samples) hears.given (f.stands (reverse samples) hears.given hears.front) in (
        intervals_bytes One w.0,
        w.1,
        all_written s c.write_due.new.self samples written w.0 hears w.2
            (ends_of_words s c.write_due.new.self c.finish.new.self c.requires.going.words f.same f.ticks e.goes e.path)
            e.path
            (has_drained c.write_due.new.self.front (λ sound. is_over _ f.phase (e.goes.ended sound)) e.settled),
      );
}

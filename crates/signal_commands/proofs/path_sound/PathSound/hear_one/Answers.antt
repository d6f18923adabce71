use Rattle.std.proofs.Common.{rules, ◌∷◌, reverse, FitsSigned, to_z-of_z, ap, sym, ◌∙◌}
use Rattle.std.specs.Int.{w16}
use Rattle.interval_file.specs.declared.header.FileVersion.TheVariants.{One}
use Rattle.interval_file.specs.Grammar.{intervals_bytes}
use Rattle.tc_job.specs.PathSlicing.{SlicesPath}
use Rattle.signal_commands.specs.KeptPath.{IsOfWords}
use Rattle.signal_commands.proofs.PathOn.{hear_works}
use Rattle.signal_commands.proofs.path_sound.PathSound.hear_one.Given.{Over}
use Rattle.signal_commands.proofs.path_sound.PathSound.hear_one.Goals as goal

-- the front is still that of the words
words : (g : Over) (c : goal.After-write_due g) → IsOfWords c.write_due.new.self
words g c =
    let going = c.requires.going.words in
    let e = c.write_due.ensures in
    let path = sym e.path in
    record {
      grid = e.goes.same.grid ∙ c.feed.ensures.grid ∙ going.grid ∙ ap (λ (p : SlicesPath). p.grid) path;
      ticks = e.goes.ticks ∙ c.feed.ensures.ticks ∙ going.ticks ∙ ap (λ (p : SlicesPath). p.ticks) path;
      least = e.goes.same.least ∙ c.feed.ensures.least ∙ going.least ∙ ap (λ (p : SlicesPath). p.least) path;
    }

-- what the sample brings was written
pub returns-clause-works : goal.returns-clause-works
returns-clause-works g c = λ samples written hears.
    let s = c.args.self.now in
    let e = c.write_due.ensures in
    let a : FitsSigned w16 c.args.sample = search rules in
    let fed = rw (to_z-of_z a) at c.feed.ensures.stands in
    let w = e.all (c.args.sample ∷ reverse samples) hears.given (fed (reverse samples) hears.given hears.front) in (
      intervals_bytes One w.0,
      w.1,
      hear_works s c.write_due.new.self samples c.args.sample written w.0 hears w.2 (words g c)
          (e.goes.same.count ∙ c.feed.ensures.count) e.path
          (e.goes.sound (c.feed.ensures.phase ∙ c.requires.going.ready.phase)),
    )

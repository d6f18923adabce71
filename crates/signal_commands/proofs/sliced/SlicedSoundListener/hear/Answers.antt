use Rattle.std.proofs.Common.{length, refl}
use Rattle.signal_commands.proofs.SlicedOn.{sliced_on, ticks_fit}
use Rattle.signal_commands.proofs.sliced.SlicedSoundListener.hear.Goals as goal

pub slice-requires-clause-room : goal.slice-requires-clause-room
slice-requires-clause-room g c =
    let r = c.requires.room in
    let hears = r.4 in
    ticks_fit c.args.self.now.slicer r.2 (length c.args.samples.now) hears.stands hears.fine r.5

-- the intervals that they bring were written
pub returns : goal.returns
returns g c = λ cut format before written hears.
    let s = c.args.self.now in
    let e = c.slice.ensures in
    let all = e.all before hears.stands in (
      all.0,
      all.2,
      sliced_on s (record s { slicer = c.slice.new.slicer }) cut format before c.args.samples.now written all.0 hears
          refl e.settings (e.stands before hears.stands) all.1,
    )

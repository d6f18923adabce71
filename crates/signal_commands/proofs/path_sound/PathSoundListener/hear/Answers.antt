use Rattle.std.proofs.Common.{Some, ap, sym, ◌∙◌}
use Rattle.signal_commands.proofs.path_sound.PathSoundListener.hear.Goals as goal

pub returns : goal.returns
returns g c = λ words format before written hears.
    let e = c.hear_all.ensures in
    let w = e.works before written hears.hears in
    (w.0, w.1, record { path = hears.path ∙ ap Some (sym e.path); going = e.going; hears = w.2 })

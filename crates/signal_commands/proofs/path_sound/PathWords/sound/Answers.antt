use Rattle.std.proofs.Common.{◌≡◌, None, sym, ◌∙◌}
use Rattle.tc_job.specs.TrackPath.{sound_of}
use Rattle.signal_commands.proofs.path_sound.PathWords.sound.Goals as goal

-- a track has a sound from its least rate on
pub unreachable-requires : goal.unreachable-requires
unreachable-requires c =
    let track = c.in-Track-Some.track in
    let rate = c.in-Track-Some.format.rate in
    let fits = rw (c.in-Track-Some.is-0, c.in-Track-Some.is-1) at c.requires in
    let some = c.a_sound_file_has_steps_from_its_least_rate_on.ensures.from track rate fits.1 fits.2 in
    let none : sound_of track rate ≡ None = sym c.sound.ensures ∙ c.in-None.is in
    absurd cc

use Rattle.wave_file.proofs.WhatStays.{reading_goes_on}
use Rattle.wave_file.proofs.laws.what_a_sound_file_shows_stays.Goals as goal

pub returns : goal.returns
returns c = λ asked bytes more. reading_goes_on asked bytes more

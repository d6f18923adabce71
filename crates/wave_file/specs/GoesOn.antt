-- What holds of whatever bytes say of a sound file, and what more bytes may change of it: nothing that is shown.
use Rattle.std.specs.Prelude.{◌≡◌, ◌⊎◌, ◌≤◌, ℤ, false, List, [], ◌++◌, length, None}
use Rattle.file_faults.specs.declared.sound.WaveFault.{WaveFault}
use Rattle.wave_file.specs.declared.format.Asked.{Asked}
use Rattle.wave_file.specs.Wave.{Reading}
use Rattle.tc_io.specs.Verdict.{refused, past_limit}

-- a format that is there stays, and so do a fault and the limit; and the samples come first
pub record GoesOn (front whole : Reading) : Type 0 where
  pub format : (front.format ≡ None) ⊎ (whole.format ≡ front.format)
  pub samples : (more : List ℤ) × (whole.samples ≡ front.samples ++ more)
  pub fault : (f : WaveFault) → front.verdict ≡ refused f → whole.verdict ≡ refused f
  pub limit : front.verdict ≡ past_limit → whole.verdict ≡ past_limit

-- no more samples than are asked; and none, and no end of the input, before a format
pub record IsWithin (asked : Asked) (r : Reading) : Type 0 where
  pub few : length r.samples ≤ asked.most_samples
  pub none : r.format ≡ None → r.samples ≡ []
  pub ends : r.format ≡ None → r.may_end ≡ false

use Rattle.std.proofs.Common.{◌≡◌, ℕ, List, Some, true}
use Rattle.csv.specs.Reading.{Ready, default_config, source_of}
use Rattle.csv.specs.declared.reader.Trim.TheVariants as trim
use Rattle.chase_script.specs.Answer.{AreRowsFor}
use Rattle.chase_script.proofs.WhatIsLeft.{IsLeft}
use Rattle.chase_script.proofs.script.script_rows.Given as goal

-- the text gives these rows and then those of what the reader has left
abbrev pub invariant-records : goal.invariant-records
invariant-records l = record {
  trim : l.reader.trim ≡ trim.None;
  ready : Ready l.reader;
  config : l.reader.config ≡ default_config;
  flexible : l.reader.flexible ≡ true;
  fit : AreRowsFor l.fn.count l.rows.items;
  left : List ℕ;
  source : source_of (λ s. Some s.now) l.reader ≡ Some left;
  are : IsLeft l.fn.count l.fn.bytes l.rows.items l.reader.state left;
}

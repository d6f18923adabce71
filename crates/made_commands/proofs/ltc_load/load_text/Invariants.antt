use Rattle.std.proofs.Common.{◌≡◌, ◌≤◌, ◌+◌, ◌*◌, ◌-◌, ◌++◌, List, ℕ}
use Rattle.biphase.specs.Chain.{flat}
use Rattle.tc_address.specs.Label.{IsLabel}
use Rattle.tc_address.specs.declared.count.Count.TheVariants.{C25}
use Rattle.made_commands.specs.KeptLoad.{FitsTally, HasRead}
use Rattle.made_commands.specs.Load.{IsChance, load_cells, word_cells_by}
use Rattle.made_commands.proofs.ltc_load.load_text.Given as goal

-- what was read and the cells of the words that are left are the whole
abbrev pub invariant-words : goal.invariant-words
invariant-words l = record {
  chance : IsChance l.chance;
  label : IsLabel l.label;
  count : l.label.count ≡ C25;
  fits : FitsTally l.tally;
  few : l.tally.reader.intervals ≤ 4 + 160 * l._done;
  reads : (fed : List ℕ) × HasRead l.tally fed
      × (fed ++ flat (word_cells_by l.chance l.label (l.run.words - l._done)) ≡ flat (load_cells l.run));
}

-- What drop-frame counting drops, by closed arithmetic. The crate's own small steps are said in these words, and the law
-- of a label's number by its digits: the other public clauses speak of the list of the day's labels.
use Rattle.std.specs.Prelude.{ℕ, ◌+◌, ◌-◌, ◌*◌, ◌/◌, ◌%◌}
use Rattle.tc_address.specs.declared.count.Count.{Count}
use Rattle.tc_address.specs.declared.count.Count.TheVariants.{C24, C25, C30, Drop30}

-- how many addresses are dropped up to the first label of a minute of the day
abbrev pub dropped_before : Count → ℕ → ℕ
dropped_before C24 minutes = 0
dropped_before C25 minutes = 0
dropped_before C30 minutes = 0
dropped_before Drop30 minutes = 2 * (minutes - minutes / 10)

-- how many addresses are dropped before the label of a number: 18 in ten minutes, which have 17,982
-- labels, and 2 in each minute but the first of these, which has 1,798
abbrev pub dropped_until : Count → ℕ → ℕ
dropped_until C24 number = 0
dropped_until C25 number = 0
dropped_until C30 number = 0
dropped_until Drop30 number = 18 * (number / 17_982) + 2 * ((number % 17_982 - 2) / 1_798)

-- The label of a sum says the sum: whole days, and the number of the label behind them.
use Rattle.std.proofs.Common.{◌≡◌, ℕ, ◌+◌, ◌*◌, ◌/◌, ◌%◌, ◌<◌, ◌++◌, refl, sym, ap, ◌∙◌, arith}
use Rattle.std.specs.Prelude.{decimal, drop, pos}
use Rattle.std.proofs.lemmas.Nat.{div-add-mod'}
use Rattle.std.proofs.Math.Nat.{mod-lt}
use Rattle.tc_address.specs.Circle.{moved}
use Rattle.tc_address.specs.declared.count.Count.{Count}
use Rattle.tc_address.specs.declared.count.Count.TheVariants.{C24, C25, C30, Drop30}
use Rattle.tc_address.specs.Label.{Address, IsLabel, address}
use Rattle.tc_address.specs.Numbering.{day_length, number_of}
use Rattle.tc_address.specs.Spelling.{text_of}
use Rattle.label_lines.specs.Answer.{label_from_midnight}
use Rattle.label_command.specs.Sums.{rest_of, whole_label}
use Rattle.label_command.proofs.BackFromAFaster.{StepLaws, forward, midnight_is_first}

some_day : (c : Count) → 0 < day_length c
some_day C24 = omega arith
some_day C25 = omega arith
some_day C30 = omega arith
some_day Drop30 = omega arith

number_from_midnight : StepLaws → (c : Count) (n : ℕ) → n < day_length c → number_of (label_from_midnight c n) ≡ n
number_from_midnight laws c n within =
    laws.number (address c 0 0 0 0) (pos n)
    ∙ ap (λ (place : ℕ). moved (day_length c) place (pos n)) (midnight_is_first c) ∙ forward n (day_length c) within

pub said_again : StepLaws → (count : Count) (frames : ℕ) → (days : ℕ) × ((label : Address) × IsLabel label
    × (label.count ≡ count) × (frames ≡ days * day_length count + number_of label)
    × (whole_label count frames ≡ decimal (24 * days + label.hours) ++ drop 2 (text_of label)))
said_again laws count frames =
    let day = day_length count in
    let n = frames % day in
    let there = laws.stepped (address count 0 0 0 0) (pos n) in
    let number = number_from_midnight laws count n (mod-lt frames (some_day count)) in (
      frames / day,
      (
        rest_of count frames,
        there.1,
        there.0,
        sym (div-add-mod' frames day) ∙ ap (λ (k : ℕ). frames / day * day + k) (sym number),
        refl,
      ),
    )

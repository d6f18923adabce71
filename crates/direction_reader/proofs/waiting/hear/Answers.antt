use Rattle.std.proofs.Common.{◌≤◌, ℕ, Option, Some, None, IfSome, arith}
use Rattle.direction_reader.specs.declared.firm_event.FirmEvent.{FirmEvent}
use Rattle.direction_reader.specs.FirmStep.{or_else, IsToldAt, IsToldWithin}
use Rattle.direction_reader.proofs.waiting.hear.Goals as goal

-- what came behind the word, or comes now
second_within : (before tick : ℕ) (a b : Option FirmEvent) → before ≤ tick → IfSome a (IsToldWithin before)
    → IfSome b (IsToldAt tick) → IfSome (or_else a b) (IsToldWithin tick)
second_within before tick None None late one two = tt
second_within before tick None (Some e) late one two = (omega (arith, two.0), two.1)
second_within before tick (Some e) b late one two = (omega (arith, one.0, late), one.1)

-- the word that waited is told, and what came behind it
pub returns-in-Some-2-clause-within : goal.returns-in-Some-2-clause-within
returns-in-Some-2-clause-within c = λ before tick late within one back played.
    let w = c.in-Some-2.w in
    let waits = rw c.in-Some-2.is at within in
    let same = c.judge.ensures.tick in
    let word = waits.word in
    let behind = second_within before tick w.behind c.args.forward late waits.behind one in
    c.begin-in-Some-2.ensures.within tick (omega (arith, same, word, late), c.judge.ensures.long waits.long)
    (c.judge.ensures.played waits.played) (rw c.or-in-Some-2.ensures behind) back played

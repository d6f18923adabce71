-- Events that come behind a front of a list come at its tick or later.
use Rattle.std.proofs.Common.{◌≡◌, ◌<◌, ◌≤◌, ℕ, ◌+◌, zero, suc, List, [], ◌∷◌, length, take, sum}
use Rattle.std.proofs.Common.{get_or}
use Rattle.std.proofs.Common.{arith, All}
use Rattle.biphase.specs.declared.cell.Cell.{Cell}
use Rattle.biphase.specs.declared.cell.Cell.TheVariants.{Zero, One}
use Rattle.biphase.specs.Chain.{flat}
use Rattle.direction_reader.specs.declared.event.Event.{Event}
use Rattle.direction_reader.specs.declared.event.Event.TheVariants.{Word, Refused, Lost}
use Rattle.direction_reader.specs.Events.{tick_of}
use Rattle.direction_reader.specs.ListEvents.{duration}
use Rattle.direction_reader.specs.Tape.{ComesBehind}
use Rattle.direction_reader.proofs.WindowsFromCells.{duration_of}
use Rattle.direction_reader.proofs.WindowsFrom.{IsFrom}
use Rattle.direction_reader.proofs.LaterWindows.{Positive}

comes_behind : (front : List ℕ) (e : Event) → IsFrom (length front) (sum front) e → ComesBehind front e
comes_behind front (Word d w t n) is = is
comes_behind front (Refused d f t) is = is
comes_behind front (Lost p t) is = is.0

comes_later : (n tick : ℕ) (e : Event) → IsFrom n tick e → tick ≤ tick_of e
comes_later n tick (Word d w t m) is = omega (arith, is)
comes_later n tick (Refused d f t) is = omega (arith, is)
comes_later n tick (Lost p t) is = is.1

pub all_behind : (front : List ℕ) (es : List Event) → All (IsFrom (length front) (sum front)) es
    → All (ComesBehind front) es
all_behind front es is k d within = comes_behind front (get_or es k d) (is k d within)

-- and when it has ended, or later
pub all_later : (n tick : ℕ) (es : List Event) → All (IsFrom n tick) es → All (λ event. tick ≤ tick_of event) es
all_later n tick es is k d within = comes_later n tick (get_or es k d) (is k d within)

-- if no event is a break, all have later ticks
later_than : (tick : ℕ) (e : Event) → ((m : ℕ) → IsFrom m tick e) → tick < tick_of e
later_than tick (Word d w t n) is = is 0
later_than tick (Refused d f t) is = is 0
later_than tick (Lost p t) is = let above = is (p + 1) in absurd (omega (arith, above.0))

pub all_later_than : (tick : ℕ) (es : List Event) → ((m : ℕ) → All (IsFrom m tick) es)
    → All (λ event. tick < tick_of event) es
all_later_than tick es is k d within = later_than tick (get_or es k d) (λ m. is m k d within)

-- a front of more cells lasts longer
pub front_lasts_longer : (cells : List Cell) (a b : ℕ) → Positive (flat cells) → a < b → b ≤ length cells
    → duration (take a cells) < duration (take b cells)
front_lasts_longer [] a b is less within = absurd (omega arith)
front_lasts_longer (cell ∷ cells) a zero is less within = absurd (omega arith)
front_lasts_longer (Zero x ∷ cells) zero (suc b) is less within =
    let most = is.0 in
    let one : duration (Zero x ∷ []) ≡ x = omega arith in
    omega (arith, duration_of (Zero x) (take b cells), one, most)
front_lasts_longer (One x y ∷ cells) zero (suc b) is less within =
    let most = is.0 in
    let one : duration (One x y ∷ []) ≡ x + y = omega arith in
    omega (arith, duration_of (One x y) (take b cells), one, most)
front_lasts_longer (Zero x ∷ cells) (suc a) (suc b) is less within =
    omega (
      arith,
      duration_of (Zero x) (take a cells),
      duration_of (Zero x) (take b cells),
      front_lasts_longer cells a b is.1 (omega arith) (omega arith),
    )
front_lasts_longer (One x y ∷ cells) (suc a) (suc b) is less within =
    omega (
      arith,
      duration_of (One x y) (take a cells),
      duration_of (One x y) (take b cells),
      front_lasts_longer cells a b is.1.1 (omega arith) (omega arith),
    )

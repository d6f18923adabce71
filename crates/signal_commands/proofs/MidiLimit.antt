-- Bytes past the limit stay past it whatever follows, and within it all of them count.
use Rattle.std.proofs.Common.{◌≡◌, ℕ, List, ◌++◌, ◌<◌, ◌≤◌, ◌∙◌, length, nat_lt, cond, Bool, true, false, refl, ap}
use Rattle.std.proofs.Common.{arith, take}
use Rattle.std.proofs.lemmas.Bool.{ltb-true, lt-ltb}
use Rattle.std.proofs.lemmas.List.{length-append, length-take, take_all, take-append-le, take-take}
use Rattle.tc_command.specs.declared.input_fault.InputFault.{InputFault}
use Rattle.tc_io.specs.Verdict.{Verdict, good, refused, past_limit}
use Rattle.mtc_reader.specs.Events.{events_in}
use Rattle.signal_commands.specs.MtcRead.{event_lines, lines_within, verdict_within}

abbrev pub verdict_by : Bool → Verdict InputFault
verdict_by b = cond b past_limit good

pub not_refused : (b : Bool) (f : InputFault) → ¬ (verdict_by b ≡ refused f)
not_refused true f e = absurd cc
not_refused false f e = absurd cc

-- nothing is refused
pub never_refused : (most : ℕ) (bytes : List ℕ) (f : InputFault) → ¬ (verdict_within most bytes ≡ refused f)
never_refused most bytes f e = not_refused (nat_lt most (length bytes)) f e

pub past_by : (most n : ℕ) (b : Bool) → nat_lt most n ≡ b → verdict_by b ≡ past_limit → most < n
past_by most n true is e = ltb-true most n is
past_by most n false is e = absurd cc

-- more bytes than these are past the limit
pub is_past : (most : ℕ) (bytes : List ℕ) → most < length bytes → verdict_within most bytes ≡ past_limit
is_past most bytes more = ap verdict_by (lt-ltb most (length bytes) more)

-- what is past the limit stays so
pub past_within : (most : ℕ) (front rest : List ℕ) → verdict_within most front ≡ past_limit
    → verdict_within most (front ++ rest) ≡ past_limit
past_within most front rest e =
    let more = past_by most (length front) (nat_lt most (length front)) refl e in
    is_past most (front ++ rest) (omega (arith, length-append front rest))

-- and if the bytes reach it, whatever follows
pub lines_at_limit : (most : ℕ) (front more : List ℕ) → length front ≡ most
    → lines_within most (front ++ more) ≡ event_lines (events_in front)
lines_at_limit most front more is =
    ap (λ (l : List ℕ). event_lines (events_in l)) (take-append-le most front more (omega (arith, is))
    ∙ take_all most front (omega (arith, is)))

-- what is taken of the first bytes is taken of all
pub same_front : (n count : ℕ) (bytes inner : List ℕ) → inner ≡ take n bytes → count ≤ length inner
    → take count inner ≡ take count bytes
same_front n count bytes inner is within =
    ap (take count) is ∙ take-take count n bytes (omega (arith, within, ap length is, length-take n bytes))

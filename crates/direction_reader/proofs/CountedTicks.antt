-- The numbers of what is given where a word counts only with one that counts on: they are those of the events as they
-- came, and come in turn. Two events of one window end at one tick, so that neither counts on from the other.
use Rattle.std.proofs.Common.{◌≡◌, ◌≤◌, ℕ, Bool, true, false, List, [], ◌∷◌, ◌++◌, map, All, Option, Some}
use Rattle.std.proofs.Common.{None, IfSome, sym, refl, subst, arith}
use Rattle.std.specs.Prelude.{if◌then◌else◌}
use Rattle.std.proofs.lemmas.List.{map-append}
use Rattle.std.proofs.lemmas.List.Elements.{All-nil, All-cons, All-append, All-head, All-tail}
use Rattle.flywheel.specs.declared.heard.HeardWord.{HeardWord}
use Rattle.direction_reader.specs.declared.counting.Counting.{Counting}
use Rattle.direction_reader.specs.declared.event.Event.{Event}
use Rattle.direction_reader.specs.declared.event.Event.TheVariants.{Word, Refused, Lost}
use Rattle.direction_reader.specs.declared.event.Events.{Events}
use Rattle.direction_reader.specs.declared.firm_event.FirmEvent.{FirmEvent}
use Rattle.direction_reader.specs.declared.firm_event.FirmEvent.TheVariants.{Told}
use Rattle.direction_reader.specs.Brings.{Brings, IsLatest}
use Rattle.direction_reader.specs.Consecutive.{heard_as}
use Rattle.direction_reader.specs.Counted.{counts_on, heard_of}
use Rattle.direction_reader.specs.CountedStep.{heard_with, heard_with_all, released, told_with, told_with_all, IsHeldBy}
use Rattle.direction_reader.specs.CountedTold.{told_without, undecided, until_held}
use Rattle.direction_reader.specs.Events.{event_list, listed, tick_of}
use Rattle.direction_reader.specs.Firm.{judged, told_tick, DoNotFall}
use Rattle.direction_reader.specs.FirmReader.{IsToldBy}
use Rattle.direction_reader.proofs.InOrder.{in_turn_append}

-- ---- what is told of an event

held_told : (n s : ℕ) (counts : Bool) (e : Event) → IsHeldBy s e → IsToldBy n s (judged counts e)
held_told n s true (Word d w t l) is = is
held_told n s false (Word d w t l) is = is
held_told n s counts (Refused d f t) is = absurd is
held_told n s counts (Lost p t) is = absurd is

latest_told : (n s : ℕ) (e : Event) → IsLatest n s e → IsToldBy n s (Told e)
latest_told n s (Word d w t l) is = let tick = is.0 in (omega (arith, tick), is.1, is.2)
latest_told n s (Refused d f t) is = omega (arith, is)
latest_told n s (Lost p t) is = is

pub released_told : (n s : ℕ) (held : Option Event) (e : Event) → IfSome held (IsHeldBy s)
    → All (IsToldBy n s) (released held e)
released_told n s None e is = All-nil (IsToldBy n s)
released_told n s (Some h) e is =
    All-cons (IsToldBy n s) (judged (counts_on (heard_of h) (heard_of e)) h) []
    (held_told n s (counts_on (heard_of h) (heard_of e)) h is) (All-nil (IsToldBy n s))

pub own_told : (n s : ℕ) (held : Option Event) (e : Event) → IsLatest n s e → All (IsToldBy n s) (told_without held e)
own_told n s None e is = All-cons (IsToldBy n s) (Told e) [] (latest_told n s e is) (All-nil (IsToldBy n s))
own_told n s (Some h) e is = All-nil (IsToldBy n s)

-- a word that is held is the latest
if_held : (counts : Bool) (s : ℕ) (e : Event) → IsHeldBy s e
    → (let held : Option Event = if counts then None else Some e in IfSome held (IsHeldBy s))
if_held true s e is = tt
if_held false s e is = is

pub still_held : (n s : ℕ) (before : Option HeardWord) (e : Event) → IsLatest n s e
    → IfSome (undecided before e) (IsHeldBy s)
still_held n s before (Word d w t l) is =
    let tick = is.0 in
    if_held (counts_on before (Some (heard_as d w t l))) s (Word d w t l) (omega (arith, tick), is.1, is.2)
still_held n s before (Refused d f t) is = tt
still_held n s before (Lost p t) is = tt

-- ---- of all that come with an interval

as_list : (n s : ℕ) (o : Option Event) → IfSome o (IsLatest n s) → All (IsLatest n s) (listed o)
as_list n s None is = All-nil (IsLatest n s)
as_list n s (Some e) is = All-cons (IsLatest n s) e [] is (All-nil (IsLatest n s))

pub all_latest : (n s : ℕ) (events : Events) → Brings n s events → All (IsLatest n s) (event_list events)
all_latest n s events is =
    All-append (IsLatest n s) (listed events.first) (listed events.second) (as_list n s events.first is.first)
    (as_list n s events.second is.second)

pub all_told : (n s : ℕ) (c : Counting) (es : List Event) → IfSome c.held (IsHeldBy s) → All (IsLatest n s) es
    → All (IsToldBy n s) (told_with_all c es)
all_told n s c [] held all = All-nil (IsToldBy n s)
all_told n s c (e ∷ es) held all =
    let is = All-head (IsLatest n s) e es all in
    All-append (IsToldBy n s) (told_with c e) (told_with_all (heard_with c e) es)
    (All-append (IsToldBy n s) (released c.held e) (told_without (undecided c.word e) e)
    (released_told n s c.held e held) (own_told n s (undecided c.word e) e is))
    (all_told n s (heard_with c e) es (still_held n s c.word e is) (All-tail (IsLatest n s) e es all))

pub all_held : (n s : ℕ) (c : Counting) (es : List Event) → IfSome c.held (IsHeldBy s) → All (IsLatest n s) es
    → IfSome (heard_with_all c es).held (IsHeldBy s)
all_held n s c [] held all = held
all_held n s c (e ∷ es) held all =
    let is = All-head (IsLatest n s) e es all in
    all_held n s (heard_with c e) es (still_held n s c.word e is) (All-tail (IsLatest n s) e es all)

pub later_held : (u s : ℕ) (o : Option Event) → u ≤ s → IfSome o (IsHeldBy u) → IfSome o (IsHeldBy s)
later_held u s None late is = tt
later_held u s (Some (Word d w t l)) late is = let by = is.0 in (omega (arith, by, late), is.1, is.2)
later_held u s (Some (Refused d f t)) late is = absurd is
later_held u s (Some (Lost p t)) late is = absurd is

-- ---- in turn

abbrev ticks : List FirmEvent → List ℕ
ticks ts = map told_tick ts

pub judged_tick : (counts : Bool) (e : Event) → told_tick (judged counts e) ≡ tick_of e
judged_tick true (Word d w t l) = refl
judged_tick false (Word d w t l) = refl
judged_tick counts (Refused d f t) = refl
judged_tick counts (Lost p t) = refl

latest_tick : (n s : ℕ) (e : Event) → IsLatest n s e → tick_of e ≡ s
latest_tick n s (Word d w t l) is = is.0
latest_tick n s (Refused d f t) is = is
latest_tick n s (Lost p t) is = is.1

held_tick : (u : ℕ) (e : Event) → IsHeldBy u e → tick_of e ≤ u
held_tick u (Word d w t l) is = is.0
held_tick u (Refused d f t) is = absurd is
held_tick u (Lost p t) is = absurd is

pub until_by : (u : ℕ) (o : Option Event) → IfSome o (IsHeldBy u) → until_held u o ≤ u
until_by u None is = omega arith
until_by u (Some e) is = held_tick u e is

-- what is held is given no later
released_turn : (u s : ℕ) (o : Option Event) (e : Event) → u ≤ s → IfSome o (IsHeldBy u)
    → DoNotFall (until_held u o) (ticks (released o e)) s
released_turn u s None e late is = late
released_turn u s (Some h) e late is =
    let by = held_tick u h is in
    let same = judged_tick (counts_on (heard_of h) (heard_of e)) h in
    (omega (arith, same), omega (arith, same, by, late))

own_turn : (s : ℕ) (o : Option Event) (e : Event) → tick_of e ≡ s → IfSome o (λ h. tick_of h ≡ s)
    → DoNotFall s (ticks (told_without o e)) (until_held s o)
own_turn s None e tick held = (omega (arith, tick), omega (arith, tick))
own_turn s (Some h) e tick held = omega (arith, held)

if_at : (counts : Bool) (s : ℕ) (e : Event) → tick_of e ≡ s
    → (let held : Option Event = if counts then None else Some e in IfSome held (λ h. tick_of h ≡ s))
if_at true s e is = tt
if_at false s e is = is

held_at : (s : ℕ) (before : Option HeardWord) (e : Event) → tick_of e ≡ s
    → IfSome (undecided before e) (λ h. tick_of h ≡ s)
held_at s before (Word d w t l) is = if_at (counts_on before (Some (heard_as d w t l))) s (Word d w t l) is
held_at s before (Refused d f t) is = tt
held_at s before (Lost p t) is = tt

waits_on : (u s : ℕ) (o : Option Event) → u ≤ s → until_held u o ≤ until_held s o
waits_on u s None late = late
waits_on u s (Some h) late = omega arith

pub in_turn : (n u s : ℕ) (c : Counting) (es : List Event) → u ≤ s → IfSome c.held (IsHeldBy u)
    → All (IsLatest n s) es
    → DoNotFall (until_held u c.held) (ticks (told_with_all c es)) (until_held s (heard_with_all c es).held)
in_turn n u s c [] late held all = waits_on u s c.held late
in_turn n u s c (e ∷ es) late held all =
    let is = All-head (IsLatest n s) e es all in
    let tick = latest_tick n s e is in
    let first = released c.held e in
    let own = told_without (undecided c.word e) e in
    let rest = told_with_all (heard_with c e) es in
    let from = until_held u c.held in
    let until = until_held s (undecided c.word e) in
    let end = until_held s (heard_with_all c (e ∷ es)).held in
    let one : DoNotFall from (ticks (first ++ own)) until =
    subst (λ (ns : List ℕ). DoNotFall from ns until) (sym (map-append told_tick first own))
    (in_turn_append (ticks first) (ticks own) from s until (released_turn u s c.held e late held)
    (own_turn s (undecided c.word e) e tick (held_at s c.word e tick))) in
    subst (λ (ns : List ℕ). DoNotFall from ns end) (sym (map-append told_tick (first ++ own) rest))
    (in_turn_append (ticks (first ++ own)) (ticks rest) from until end one
    (in_turn n s s (heard_with c e) es (omega arith) (still_held n s c.word e is)
    (All-tail (IsLatest n s) e es all)))

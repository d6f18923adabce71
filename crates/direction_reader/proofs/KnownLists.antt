-- What is told comes first among events of which some are known, and what follows ends no sooner than the first word
-- that waits. If more becomes known, and other events follow, it stays so.
use Rattle.std.proofs.Common.{◌≡◌, ◌≤◌, ◌⊎◌, ℕ, ◌+◌, List, [], ◌∷◌, ◌++◌, length, map, All, inl, inr, ap, ap₂, ◌∙◌}
use Rattle.std.proofs.Common.{arith, refl, drop}
use Rattle.std.proofs.lemmas.List.Elements.{All-nil, All-cons}
use Rattle.direction_reader.specs.declared.firm_event.FirmEvent.{FirmEvent}
use Rattle.direction_reader.specs.declared.firm_event.FirmEvent.TheVariants.{Told}
use Rattle.direction_reader.specs.Events.{tick_of}
use Rattle.direction_reader.specs.Firm.{told_tick, DoNotFall}
use Rattle.direction_reader.specs.FirmKnown.{Known, Sure, Open, all_sure, told_of, told_to, closed}
use Rattle.direction_reader.specs.FirmTold.{ComesFirst}
use Rattle.direction_reader.proofs.FirmTicks.{IsFrom}

-- ---- events of which all is known

pub closed_sure : (es : List FirmEvent) → map closed (all_sure es) ≡ es
closed_sure [] = refl
closed_sure (e ∷ es) = ap (λ (more : List FirmEvent). e ∷ more) (closed_sure es)

pub told_behind : (es : List FirmEvent) (more : List Known) → told_of (all_sure es ++ more) ≡ es ++ told_of more
told_behind [] more = refl
told_behind (e ∷ es) more = ap (λ (told : List FirmEvent). e ∷ told) (told_behind es more)

pub to_behind : (now : ℕ) (es : List FirmEvent) (more : List Known)
    → told_to now (all_sure es ++ more) ≡ told_to now more
to_behind now [] more = refl
to_behind now (e ∷ es) more = to_behind now es more

-- ---- in turn

abbrev pub told_ticks : List FirmEvent → List ℕ
told_ticks fs = map told_tick fs

-- their ticks do not fall, from a tick to another
abbrev pub AreInTurn : ℕ → List Known → ℕ → Type 0
AreInTurn a known b = DoNotFall a (told_ticks (map closed known)) b

pub turn_ends : (a b : ℕ) (ticks : List ℕ) → DoNotFall a ticks b → a ≤ b
turn_ends a b [] turn = turn
turn_ends a b (t ∷ ticks) turn = let first = turn.0 in omega (arith, first, turn_ends t b ticks turn.1)

pub all_from : (a b c : ℕ) (es : List FirmEvent) → a ≤ b → DoNotFall b (told_ticks es) c → All (IsFrom a) es
all_from a b c [] late turn = All-nil (IsFrom a)
all_from a b c (e ∷ es) late turn =
    let first = turn.0 in
    All-cons (IsFrom a) e es (omega (arith, first, late))
    (all_from a (told_tick e) c es (omega (arith, first, late)) turn.1)

told_from : (a b c : ℕ) (known : List Known) → a ≤ b → AreInTurn b known c → All (IsFrom a) (told_of known)
told_from a b c [] late turn = All-nil (IsFrom a)
told_from a b c (Sure e ∷ more) late turn =
    let first = turn.0 in
    All-cons (IsFrom a) e (told_of more) (omega (arith, first, late))
    (told_from a (told_tick e) c more (omega (arith, first, late)) turn.1)
told_from a b c (Open w ∷ more) late turn = All-nil (IsFrom a)

to_from : (a c : ℕ) (known : List Known) → AreInTurn a known c → a ≤ told_to c known
to_from a c [] turn = turn
to_from a c (Sure e ∷ more) turn = let first = turn.0 in omega (arith, first, to_from (told_tick e) c more turn.1)
to_from a c (Open w ∷ more) turn = turn.0

-- ---- what follows, if nothing more comes

-- what is told ends at a tick, and the first of what follows ends there
pub record Ends (told : List FirmEvent) (until : ℕ) (events : List FirmEvent) (now : ℕ) : Type 0 where
  pub rest : List FirmEvent
  pub are : events ≡ told ++ rest
  pub later : All (IsFrom until) rest
  pub before : until ≤ now
  pub next : (until ≡ now) ⊎ ((e : FirmEvent) × (more : List FirmEvent) × (rest ≡ e ∷ more) × (told_tick e ≡ until))

pub known_ends : (a now : ℕ) (known : List Known) → AreInTurn a known now
    → Ends (told_of known) (told_to now known) (map closed known) now
known_ends a now [] turn =
    record { rest = []; are = refl; later = All-nil (IsFrom now); before = omega arith; next = inl refl }
known_ends a now (Sure e ∷ more) turn =
    let rest = known_ends (told_tick e) now more turn.1 in
    record {
      rest = rest.rest;
      are = ap (λ (es : List FirmEvent). e ∷ es) rest.are;
      later = rest.later;
      before = rest.before;
      next = rest.next;
    }
known_ends a now (Open w ∷ more) turn =
    let behind = map closed more in
    record {
      rest = Told w ∷ behind;
      are = refl;
      later = All-cons (IsFrom (tick_of w)) (Told w) behind (omega arith)
          (all_from (tick_of w) (tick_of w) now behind (omega arith) turn.1);
      before = turn_ends (tick_of w) now (told_ticks behind) turn.1;
      next = inr (Told w, behind, refl, refl);
    }

-- ---- more becomes known

-- an event of which all is known stays, and a word that waits is told with its tick
abbrev pub Becomes : Known → Known → Type 0
Becomes (Sure e) later = later ≡ Sure e
Becomes (Open w) later = told_tick (closed later) ≡ tick_of w

-- each of them does so, and others may follow
abbrev pub GrowKnown : List Known → List Known → Type 0
GrowKnown [] later = Unit {0}
GrowKnown (k ∷ known) [] = ⊥
GrowKnown (k ∷ known) (l ∷ later) = Becomes k l × GrowKnown known later

-- what comes behind them, from a tick on
abbrev pub FollowsFrom : ℕ → List Known → List Known → ℕ → Type 0
FollowsFrom now known later last = AreInTurn now (drop (length known) later) last

-- what was told comes first in all
pub first_of_all : (a now last : ℕ) (known later : List Known) → GrowKnown known later → AreInTurn a later last
    → FollowsFrom now known later last → ComesFirst (told_of known) (told_to now known) (map closed later) last
first_of_all a now last [] later grow turn behind =
    record {
      rest = map closed later;
      are = refl;
      later = all_from now now last (map closed later) (omega arith) behind;
      before = turn_ends now last (told_ticks (map closed later)) behind;
    }
first_of_all a now last (k ∷ known) [] grow turn behind = absurd grow
first_of_all a now last (Sure e ∷ known) (l ∷ later) grow turn behind =
    let rest = first_of_all (told_tick (closed l)) now last known later grow.1 turn.1 behind in
    let same : closed l ≡ e = ap closed grow.0 in
    record {
      rest = rest.rest;
      are = ap₂ (λ (x : FirmEvent) (es : List FirmEvent). x ∷ es) same rest.are;
      later = rest.later;
      before = rest.before;
    }
first_of_all a now last (Open w ∷ known) (l ∷ later) grow turn behind =
    let until = tick_of w in
    let tick : told_tick (closed l) ≡ until = grow.0 in
    let rest = map closed later in
    let from : DoNotFall until (told_ticks rest) last = rw tick at turn.1 in
    record {
      rest = closed l ∷ rest;
      are = refl;
      later = All-cons (IsFrom until) (closed l) rest (omega (arith, tick))
          (all_from until until last rest (omega arith) from);
      before = turn_ends until last (told_ticks rest) from;
    }

-- and in what is told later
pub first_of_told : (a now last : ℕ) (known later : List Known) → GrowKnown known later → AreInTurn a later last
    → FollowsFrom now known later last
    → ComesFirst (told_of known) (told_to now known) (told_of later) (told_to last later)
first_of_told a now last [] later grow turn behind =
    record {
      rest = told_of later;
      are = refl;
      later = told_from now now last later (omega arith) behind;
      before = to_from now last later behind;
    }
first_of_told a now last (k ∷ known) [] grow turn behind = absurd grow
first_of_told a now last (Sure e ∷ known) (l ∷ later) grow turn behind =
    let rest = first_of_told (told_tick (closed l)) now last known later grow.1 turn.1 behind in
    let same : l ≡ Sure e = grow.0 in
    let all : ComesFirst (e ∷ told_of known) (told_to now known) (e ∷ told_of later) (told_to last later) =
    record {
      rest = rest.rest;
      are = ap (λ (es : List FirmEvent). e ∷ es) rest.are;
      later = rest.later;
      before = rest.before;
    } in
    rw same all
first_of_told a now last (Open w ∷ known) (l ∷ later) grow turn behind =
    let until = tick_of w in
    let tick : told_tick (closed l) ≡ until = grow.0 in
    let from : AreInTurn until (l ∷ later) last = (omega (arith, tick), turn.1) in
    record {
      rest = told_of (l ∷ later);
      are = refl;
      later = told_from until until last (l ∷ later) (omega arith) from;
      before = to_from until last (l ∷ later) from;
    }

-- ---- lists that grow

pub grow_refl : (known : List Known) → GrowKnown known known
grow_refl [] = tt
grow_refl (Sure e ∷ known) = (refl, grow_refl known)
grow_refl (Open w ∷ known) = (refl, grow_refl known)

-- of the same length
abbrev pub BecomeKnown : List Known → List Known → Type 0
BecomeKnown known later = GrowKnown known later × (length later ≡ length known)

pub grow_append : (a b c d : List Known) → BecomeKnown a b → GrowKnown c d → GrowKnown (a ++ c) (b ++ d)
grow_append [] [] c d one two = two
grow_append [] (l ∷ b) c d one two = let none = one.1 in absurd (omega (arith, none))
grow_append (k ∷ a) [] c d one two = absurd one.0
grow_append (k ∷ a) (l ∷ b) c d one two =
    let count = one.1 in (one.0.0, grow_append a b c d (one.0.1, omega (arith, count)) two)

pub grow_front : (a b more : List Known) → GrowKnown a b → GrowKnown a (b ++ more)
grow_front [] b more one = tt
grow_front (k ∷ a) [] more one = absurd one
grow_front (k ∷ a) (l ∷ b) more one = (one.0, grow_front a b more one.1)

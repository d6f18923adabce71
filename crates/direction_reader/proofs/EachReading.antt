-- What holds of each reading, by what its words are asked for: where it is nothing, of the events as they are.
use Rattle.std.proofs.Common.{◌≡◌, ℕ, ◌≤◌, List, ◌++◌, All, sum}
use Rattle.std.proofs.Common.{refl, subst, sym, ap, ◌∙◌, arith}
use Rattle.std.proofs.lemmas.List.{map-append}
use Rattle.std.proofs.lemmas.List.Elements.{All-map}
use Rattle.std.proofs.lemmas.List.Sums.{sum_by-append}
use Rattle.biphase.specs.declared.profile.Profile.{Profile}
use Rattle.tc_address.specs.declared.system.System.{System}
use Rattle.direction_reader.specs.declared.event.Event.{Event}
use Rattle.direction_reader.specs.declared.firm_event.FirmEvent.{FirmEvent}
use Rattle.direction_reader.specs.declared.firm_event.FirmEvent.TheVariants.{Told}
use Rattle.direction_reader.specs.declared.witness.Witness.{Witness}
use Rattle.direction_reader.specs.declared.witness.Witness.TheVariants.{NotAsked, Asked, Consecutive, Counted}
use Rattle.direction_reader.specs.Consecutive.{AreConsecutiveEvents}
use Rattle.direction_reader.specs.ConsecutiveTold.{AreConsecutiveTold}
use Rattle.direction_reader.specs.Counted.{AreCountedEvents}
use Rattle.direction_reader.specs.CountedTold.{AreCountedTold}
use Rattle.direction_reader.specs.Events.{tick_of}
use Rattle.direction_reader.specs.Firm.{told_tick, AreFirmEvents}
use Rattle.direction_reader.specs.FirmTold.{AreTold, ComesFirst}
use Rattle.direction_reader.specs.ListEvents.{AreEvents}
use Rattle.direction_reader.specs.Reading.{as_told, AreEventsAsked, AreToldAsked}

-- the events of a list of intervals, and those that are told while more may follow, up to some tick
abbrev Whole : Type 1
Whole = System → Profile → List ℕ → List FirmEvent → Type 0

abbrev Yet : Type 1
Yet = System → Profile → List ℕ → List FirmEvent → ℕ → Type 0

-- ---- one list

abbrev HasSome : Whole → Type 0
HasSome are = (system : System) (profile : Profile) (l : List ℕ) → (events : List FirmEvent) × are system profile l events

abbrev HasOne : Whole → Type 0
HasOne are = (system : System) (profile : Profile) (l : List ℕ) (events others : List FirmEvent)
    → are system profile l events → are system profile l others → events ≡ others

abbrev HasSomeYet : Yet → Type 0
HasSomeYet told = (system : System) (profile : Profile) (l : List ℕ)
    → (events : List FirmEvent) × (until : ℕ) × told system profile l events until

abbrev HasOneYet : Yet → Type 0
HasOneYet told = (system : System) (profile : Profile) (l : List ℕ) (events others : List FirmEvent) (until another : ℕ)
    → told system profile l events until → told system profile l others another → (events ≡ others) × (until ≡ another)

-- what is known of the events as they are
pub record Plain : Type 0 where
  pub some : (system : System) (profile : Profile) (l : List ℕ) → (events : List Event) × AreEvents system profile l events
  pub one : (system : System) (profile : Profile) (l : List ℕ) (events others : List Event)
      → AreEvents system profile l events → AreEvents system profile l others → events ≡ others

plain_some : Plain → HasSome (AreEventsAsked NotAsked)
plain_some plain system profile l =
    let found = plain.some system profile l in (as_told found.0, (found.0, refl, found.1))

plain_one : Plain → HasOne (AreEventsAsked NotAsked)
plain_one plain system profile l events others one two =
    one.1 ∙ ap as_told (plain.one system profile l one.0 two.0 one.2 two.2) ∙ sym two.1

pub some_of : Plain → HasSome AreFirmEvents → HasSome AreConsecutiveEvents → HasSome AreCountedEvents → (w : Witness)
    → HasSome (AreEventsAsked w)
some_of plain firm next count NotAsked = plain_some plain
some_of plain firm next count Asked = firm
some_of plain firm next count Consecutive = next
some_of plain firm next count Counted = count

pub one_of : Plain → HasOne AreFirmEvents → HasOne AreConsecutiveEvents → HasOne AreCountedEvents → (w : Witness)
    → HasOne (AreEventsAsked w)
one_of plain firm next count NotAsked = plain_one plain
one_of plain firm next count Asked = firm
one_of plain firm next count Consecutive = next
one_of plain firm next count Counted = count

pub some_yet : Plain → HasSomeYet AreTold → HasSomeYet AreConsecutiveTold → HasSomeYet AreCountedTold → (w : Witness)
    → HasSomeYet (AreToldAsked w)
some_yet plain firm next count NotAsked =
    λ system profile l. let found = plain_some plain system profile l in (found.0, sum l, (found.1, refl))
some_yet plain firm next count Asked = firm
some_yet plain firm next count Consecutive = next
some_yet plain firm next count Counted = count

pub one_yet : Plain → HasOneYet AreTold → HasOneYet AreConsecutiveTold → HasOneYet AreCountedTold → (w : Witness)
    → HasOneYet (AreToldAsked w)
one_yet plain firm next count NotAsked = λ system profile l events others until another one two.
    (plain_one plain system profile l events others one.0 two.0, one.1 ∙ sym two.1)
one_yet plain firm next count Asked = firm
one_yet plain firm next count Consecutive = next
one_yet plain firm next count Counted = count

-- ---- what comes first

pub record PlainFirst : Type 0 where
  pub first : (system : System) (profile : Profile) (front more : List ℕ) (events all : List Event)
      → AreEvents system profile front events → AreEvents system profile (front ++ more) all
      → (rest : List Event) × (all ≡ events ++ rest)
  pub later : (system : System) (profile : Profile) (front more : List ℕ) (events rest : List Event)
      → AreEvents system profile front events → AreEvents system profile (front ++ more) (events ++ rest)
      → All (λ event. sum front ≤ tick_of event) rest

plain_first : PlainFirst → (system : System) (profile : Profile) (front more : List ℕ)
    (one all : List Event) → AreEvents system profile front one → AreEvents system profile (front ++ more) all
    → ComesFirst (as_told one) (sum front) (as_told all) (sum (front ++ more))
plain_first laws system profile front more one all h g =
    let found = laws.first system profile front more one all h g in
    let rest = found.0 in
    record {
      rest = as_told rest;
      are = ap as_told found.1 ∙ map-append (λ (event : Event). Told event) one rest;
      later = All-map (λ event. sum front ≤ told_tick event) (λ (event : Event). Told event) rest
          (laws.later system profile front more one rest h
          (subst (λ (l : List Event). AreEvents system profile (front ++ more) l) found.1 g));
      before = omega (arith, sum_by-append (λ (x : ℕ). x) front more);
    }

abbrev AllComeFirst : Whole → Yet → Type 0
AllComeFirst are yet = (system : System) (profile : Profile) (front more : List ℕ) (told events : List FirmEvent)
    (until : ℕ) → yet system profile front told until → are system profile (front ++ more) events
    → ComesFirst told until events (sum (front ++ more))

abbrev YetComeFirst : Yet → Type 0
YetComeFirst yet = (system : System) (profile : Profile) (front more : List ℕ) (told later : List FirmEvent)
    (until now : ℕ) → yet system profile front told until → yet system profile (front ++ more) later now
    → ComesFirst told until later now

pub all_first : PlainFirst → AllComeFirst AreFirmEvents AreTold → AllComeFirst AreConsecutiveEvents AreConsecutiveTold
    → AllComeFirst AreCountedEvents AreCountedTold → (w : Witness) → AllComeFirst (AreEventsAsked w) (AreToldAsked w)
all_first laws firm next count NotAsked = λ system profile front more told events until h g.
    rw (h.0.1, g.1, h.1) (plain_first laws system profile front more h.0.0 g.0 h.0.2 g.2)
all_first laws firm next count Asked = firm
all_first laws firm next count Consecutive = next
all_first laws firm next count Counted = count

pub yet_first : PlainFirst → YetComeFirst AreTold → YetComeFirst AreConsecutiveTold → YetComeFirst AreCountedTold
    → (w : Witness) → YetComeFirst (AreToldAsked w)
yet_first laws firm next count NotAsked = λ system profile front more told later until now h g.
    rw (h.0.1, g.0.1, h.1, g.1) (plain_first laws system profile front more h.0.0 g.0.0 h.0.2 g.0.2)
yet_first laws firm next count Asked = firm
yet_first laws firm next count Consecutive = next
yet_first laws firm next count Counted = count

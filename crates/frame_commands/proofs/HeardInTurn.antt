-- The events that are heard come first, with witnesses as without: a reader of all words has given all of them, and one
-- that needs witnesses all but a word that waits and what comes behind it.
use Rattle.std.proofs.Common.{◌≡◌, ℕ, ◌≤◌, List, [], ◌∷◌, ◌++◌, refl, sym, ◌∙◌, ap, arith, subst, All, sum}
use Rattle.std.proofs.lemmas.List.Elements.{All-nil, All-cons, All-head, All-tail}
use Rattle.std.proofs.lemmas.List.Sums.{sum_by-append}
use Rattle.biphase.specs.declared.profile.Profile.{Profile}
use Rattle.tc_address.specs.declared.system.System.{System}
use Rattle.tc_job.specs.declared.witness.Witness.{Witness}
use Rattle.tc_job.specs.declared.witness.Witness.TheVariants.{NotAsked, Asked, Consecutive, Counted}
use Rattle.direction_reader.specs.declared.event.Event.{Event}
use Rattle.direction_reader.specs.declared.firm_event.FirmEvent.{FirmEvent}
use Rattle.direction_reader.specs.declared.firm_event.FirmEvent.TheVariants.{Told, Alone}
use Rattle.direction_reader.specs.Events.{tick_of}
use Rattle.direction_reader.specs.Consecutive.{AreConsecutiveEvents}
use Rattle.direction_reader.specs.Counted.{AreCountedEvents}
use Rattle.direction_reader.specs.CountedTold.{AreCountedTold}
use Rattle.direction_reader.specs.ConsecutiveTold.{AreConsecutiveTold}
use Rattle.direction_reader.specs.Firm.{AreFirmEvents, told_tick}
use Rattle.direction_reader.specs.FirmTold.{AreTold, ComesFirst}
use Rattle.direction_reader.specs.ListEvents.{AreEvents}
use Rattle.frame_commands.specs.Heard.{told_events}
use Rattle.frame_commands.specs.KeptHeard.{GoOnBehind, HeardInOrder}
use Rattle.frame_commands.proofs.HeardWords.{told_events-append}

-- ---- without witnesses

pub record PlainLaws : Type 0 where
  pub some : (system : System) (profile : Profile) (intervals : List ℕ)
      → (events : List Event) × AreEvents system profile intervals events
  pub one : (system : System) (profile : Profile) (intervals : List ℕ) (events others : List Event)
      → AreEvents system profile intervals events → AreEvents system profile intervals others → events ≡ others
  pub first : (system : System) (profile : Profile) (front more : List ℕ) (events all : List Event)
      → AreEvents system profile front events → AreEvents system profile (front ++ more) all
      → (rest : List Event) × (all ≡ events ++ rest)
  pub later : (system : System) (profile : Profile) (front more : List ℕ) (events rest : List Event)
      → AreEvents system profile front events → AreEvents system profile (front ++ more) (events ++ rest)
      → All (λ event. sum front ≤ tick_of event) rest

plain_behind : PlainLaws → (system : System) (profile : Profile) (front more : List ℕ) (events all : List Event)
    (until now : ℕ) → AreEvents system profile front events → until ≡ sum front
    → AreEvents system profile (front ++ more) all → now ≡ sum (front ++ more) → GoOnBehind events until all now
plain_behind laws system profile front more events all until now are at are_all at_all =
    let first = laws.first system profile front more events all are are_all in
    let later = laws.later system profile front more events first.0 are
    (subst (λ (es : List Event). AreEvents system profile (front ++ more) es) first.1 are_all) in
    let total = sum_by-append (λ n. n) front more in
    record {
      rest = first.0;
      are = first.1;
      later = subst (λ (n : ℕ). All (λ (e : Event). n ≤ tick_of e) first.0) (sym at) later;
      before = omega (arith, at, at_all, total);
    }

pub plain_in_order : PlainLaws → HeardInOrder NotAsked
plain_in_order laws = record {
  some_yet = λ system profile intervals.
      let events = laws.some system profile intervals in (events.0, sum intervals, (events.1, refl));
  some = laws.some;
  one_yet = λ system profile intervals events others until another one two. (
    laws.one system profile intervals events others one.0 two.0,
    one.1 ∙ sym two.1,
  );
  one = laws.one;
  more = λ system profile front more events later until now one two.
      plain_behind laws system profile front more events later until now one.0 one.1 two.0 two.1;
  all = λ system profile front more events all until one are.
      plain_behind laws system profile front more events all until (sum (front ++ more)) one.0 one.1 are refl;
}

-- ---- with witnesses

-- the events of a list, and those that are told while more may follow, up to some tick
abbrev pub Whole : Type 1
Whole = System → Profile → List ℕ → List FirmEvent → Type 0

abbrev pub Yet : Type 1
Yet = System → Profile → List ℕ → List FirmEvent → ℕ → Type 0

pub record ToldLaws (are : Whole) (are_told : Yet) : Type 0 where
  pub some_yet : (system : System) (profile : Profile) (intervals : List ℕ)
      → (told : List FirmEvent) × (until : ℕ) × are_told system profile intervals told until
  pub some : (system : System) (profile : Profile) (intervals : List ℕ)
      → (events : List FirmEvent) × are system profile intervals events
  pub one_yet : (system : System) (profile : Profile) (intervals : List ℕ) (told others : List FirmEvent)
      (until another : ℕ) → are_told system profile intervals told until
      → are_told system profile intervals others another → (told ≡ others) × (until ≡ another)
  pub one : (system : System) (profile : Profile) (intervals : List ℕ) (events others : List FirmEvent)
      → are system profile intervals events → are system profile intervals others → events ≡ others
  pub more : (system : System) (profile : Profile) (front more : List ℕ) (told later : List FirmEvent)
      (until now : ℕ) → are_told system profile front told until
      → are_told system profile (front ++ more) later now → ComesFirst told until later now
  pub all : (system : System) (profile : Profile) (front more : List ℕ) (told events : List FirmEvent)
      (until : ℕ) → are_told system profile front told until → are system profile (front ++ more) events
      → ComesFirst told until events (sum (front ++ more))

later_events : (until : ℕ) (fs : List FirmEvent) → All (λ (f : FirmEvent). until ≤ told_tick f) fs
    → All (λ (e : Event). until ≤ tick_of e) (told_events fs)
later_events until [] all = All-nil (λ (e : Event). until ≤ tick_of e)
later_events until (Told e ∷ fs) all =
    All-cons (λ (x : Event). until ≤ tick_of x) e (told_events fs)
    (All-head (λ (f : FirmEvent). until ≤ told_tick f) (Told e) fs all)
    (later_events until fs (All-tail (λ (f : FirmEvent). until ≤ told_tick f) (Told e) fs all))
later_events until (Alone d w t l ∷ fs) all =
    later_events until fs (All-tail (λ (f : FirmEvent). until ≤ told_tick f) (Alone d w t l) fs all)

firm_behind : (told later : List FirmEvent) (events all : List Event) (until now : ℕ) → ComesFirst told until later now
    → events ≡ told_events told → all ≡ told_events later → GoOnBehind events until all now
firm_behind told later events all until now first are are_all = record {
  rest = told_events first.rest;
  are = are_all ∙ ap told_events first.are ∙ told_events-append told first.rest
      ∙ ap (λ (es : List Event). es ++ told_events first.rest) (sym are);
  later = later_events until first.rest first.later;
  before = first.before;
}

pub firm_in_order : ToldLaws AreFirmEvents AreTold → HeardInOrder Asked
firm_in_order laws = record {
  some_yet = λ system profile intervals.
      let told = laws.some_yet system profile intervals in
      (told_events told.0, told.1, (told.0, told.2, refl));
  some = λ system profile intervals.
      let told = laws.some system profile intervals in (told_events told.0, (told.0, told.1, refl));
  one_yet = λ system profile intervals events others until another one two.
      let same = laws.one_yet system profile intervals one.0 two.0 until another one.1 two.1 in
      (one.2 ∙ ap told_events same.0 ∙ sym two.2, same.1);
  one = λ system profile intervals events others one two.
      one.2 ∙ ap told_events (laws.one system profile intervals one.0 two.0 one.1 two.1) ∙ sym two.2;
  more = λ system profile front more events later until now one two.
      firm_behind one.0 two.0 events later until now
      (laws.more system profile front more one.0 two.0 until now one.1 two.1) one.2 two.2;
  all = λ system profile front more events all until one two.
      firm_behind one.0 two.0 events all until (sum (front ++ more))
      (laws.all system profile front more one.0 two.0 until one.1 two.1) one.2 two.2;
}

pub consecutive_in_order : ToldLaws AreConsecutiveEvents AreConsecutiveTold → HeardInOrder Consecutive
consecutive_in_order laws = record {
  some_yet = λ system profile intervals.
      let told = laws.some_yet system profile intervals in
      (told_events told.0, told.1, (told.0, told.2, refl));
  some = λ system profile intervals.
      let told = laws.some system profile intervals in (told_events told.0, (told.0, told.1, refl));
  one_yet = λ system profile intervals events others until another one two.
      let same = laws.one_yet system profile intervals one.0 two.0 until another one.1 two.1 in
      (one.2 ∙ ap told_events same.0 ∙ sym two.2, same.1);
  one = λ system profile intervals events others one two.
      one.2 ∙ ap told_events (laws.one system profile intervals one.0 two.0 one.1 two.1) ∙ sym two.2;
  more = λ system profile front more events later until now one two.
      firm_behind one.0 two.0 events later until now
      (laws.more system profile front more one.0 two.0 until now one.1 two.1) one.2 two.2;
  all = λ system profile front more events all until one two.
      firm_behind one.0 two.0 events all until (sum (front ++ more))
      (laws.all system profile front more one.0 two.0 until one.1 two.1) one.2 two.2;
}

pub counted_in_order : ToldLaws AreCountedEvents AreCountedTold → HeardInOrder Counted
counted_in_order laws = record {
  some_yet = λ system profile intervals.
      let told = laws.some_yet system profile intervals in
      (told_events told.0, told.1, (told.0, told.2, refl));
  some = λ system profile intervals.
      let told = laws.some system profile intervals in (told_events told.0, (told.0, told.1, refl));
  one_yet = λ system profile intervals events others until another one two.
      let same = laws.one_yet system profile intervals one.0 two.0 until another one.1 two.1 in
      (one.2 ∙ ap told_events same.0 ∙ sym two.2, same.1);
  one = λ system profile intervals events others one two.
      one.2 ∙ ap told_events (laws.one system profile intervals one.0 two.0 one.1 two.1) ∙ sym two.2;
  more = λ system profile front more events later until now one two.
      firm_behind one.0 two.0 events later until now
      (laws.more system profile front more one.0 two.0 until now one.1 two.1) one.2 two.2;
  all = λ system profile front more events all until one two.
      firm_behind one.0 two.0 events all until (sum (front ++ more))
      (laws.all system profile front more one.0 two.0 until one.1 two.1) one.2 two.2;
}

pub in_order : PlainLaws → ToldLaws AreFirmEvents AreTold → ToldLaws AreConsecutiveEvents AreConsecutiveTold
    → ToldLaws AreCountedEvents AreCountedTold → (witness : Witness) → HeardInOrder witness
in_order plain told next count NotAsked = plain_in_order plain
in_order plain told next count Asked = firm_in_order told
in_order plain told next count Consecutive = consecutive_in_order next
in_order plain told next count Counted = counted_in_order count

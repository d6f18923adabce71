-- Of a sound, what is told later ends later.
use Rattle.std.proofs.Common.{◌≡◌, ℕ, ℤ, ◌≤◌, List, ◌++◌, All, sum}
use Rattle.std.proofs.Common.{subst, sym, ap, ◌∙◌, append_assoc, append-nil}
use Rattle.biphase.specs.declared.profile.Profile.{Profile}
use Rattle.direction_reader.specs.declared.event.Event.{Event}
use Rattle.direction_reader.specs.Events.{tick_of}
use Rattle.direction_reader.specs.ListEvents.{AreEvents}
use Rattle.direction_reader.specs.Reader.{ReaderState}
use Rattle.direction_reader.specs.StandsFor as reader
use Rattle.direction_reader.specs.Tracker.{profile_of}
use Rattle.pcm_front.specs.declared.pace.Pace.{Pace}
use Rattle.pcm_front.specs.Pace.{intervals_at, intervals_in, IsPace}
use Rattle.pcm_front.specs.Settings.{Settings}
use Rattle.tc_address.specs.declared.system.System.{System}
use Rattle.sound_reader.specs.Settings.{slicing, AreInRange}
use Rattle.sound_reader.specs.Sound.{intervals_of, AllElseIsLater, IsSettled, SoundState, StandsFor}

-- what the definitions below say of events, and of intervals, that come first
pub record ComeFirst : Type 0 where
  pub events : (r : ReaderState) (l : List ℕ) (events : List Event) → reader.StandsFor r l events
      → AreEvents r.system (profile_of r.tracker) l events
  pub first : (system : System) (profile : Profile) (front more : List ℕ) (events all : List Event)
      → AreEvents system profile front events → AreEvents system profile (front ++ more) all
      → (rest : List Event) × (all ≡ events ++ rest)
  pub later : (system : System) (profile : Profile) (front more : List ℕ) (events rest : List Event)
      → AreEvents system profile front events → AreEvents system profile (front ++ more) (events ++ rest)
      → All (λ event. sum front ≤ tick_of event) rest
  pub grow : (pace : Pace) (settings : Settings) (front more : List ℤ) → IsPace pace
      → (rest : List ℕ) × (intervals_at pace settings (front ++ more) ≡ intervals_at pace settings front ++ rest)

-- the events of the intervals that were read, under the reader's settings
read_of : ComeFirst → (s : SoundState) (samples : List ℤ) (told : List Event) → (h : StandsFor s samples told)
    → AreEvents s.settings.system s.settings.profile h.intervals told
read_of laws s samples told h =
    let own = laws.events s.reader h.intervals told h.read in
    let of_system = subst (λ (sys : System). AreEvents sys (profile_of s.reader.tracker) h.intervals told) h.system own in
    subst (λ (p : Profile). AreEvents s.settings.system p h.intervals told) h.profile of_system

-- all intervals begin with those that were read
grown : ComeFirst → (s : SoundState) (samples more : List ℤ) (told : List Event) → AreInRange s.settings
    → (h : StandsFor s samples told)
    → (rest : List ℕ) × (intervals_of s.settings (samples ++ more) ≡ h.intervals ++ rest)
grown laws s samples more told range h =
    let g = laws.grow s.settings.pace (slicing s.settings) samples more range.pace in (
      intervals_in s.waiting ++ g.0,
      g.1 ∙ ap (λ (l : List ℕ). l ++ g.0) (sym h.all) ∙ append_assoc h.intervals (intervals_in s.waiting) g.0,
    )

pub all_else : ComeFirst → (s : SoundState) → AreInRange s.settings → AllElseIsLater s s.reader.tick
all_else laws s range = λ samples more told events h are.
    let g = grown laws s samples more told range h in
    let system = s.settings.system in
    let profile = s.settings.profile in
    let own = read_of laws s samples told h in
    let all = subst (λ (l : List ℕ). AreEvents system profile l events) g.1 are in
    let found = laws.first system profile h.intervals g.0 told events own all in
    record {
      rest = found.0;
      are = found.1;
      later = subst (λ (tick : ℕ). All (λ event. tick ≤ tick_of event) found.0) (sym h.read.sum_is)
          (laws.later system profile h.intervals g.0 told found.0 own
          (subst (λ (l : List Event). AreEvents system profile (h.intervals ++ g.0) l) found.1 all));
    }

pub settled_sum : (s : SoundState) (samples : List ℤ) (told : List Event) → StandsFor s samples told → IsSettled s
    → s.reader.tick ≡ sum (intervals_of s.settings samples)
settled_sum s samples told h settled =
    h.read.sum_is ∙ ap (λ (l : List ℕ). sum l) (sym (append-nil h.intervals)
    ∙ ap (λ (l : List ℕ). h.intervals ++ l) (sym settled) ∙ h.all)

-- The events that a reader stands for are those of the stretches that its tracker stands for.
use Rattle.std.proofs.Common.{◌≡◌, ℕ, List, [], ◌∷◌, ◌++◌, ap, sym, ◌∙◌, append-nil, refl, Some, None, Option, subst}
use Rattle.cell_tracker.specs.Stretch.{Stretch}
use Rattle.direction_reader.specs.declared.event.Event.{Event}
use Rattle.direction_reader.specs.Tracking.{Tracking}
use Rattle.direction_reader.specs.Tracking.{AtCell, MidCell, Hunting}
use Rattle.direction_reader.specs.Gathered.{AreEventsOfStretch, AreEventsOfStretches, AreGathered}
use Rattle.direction_reader.specs.ListEvents.{break_events}
use Rattle.direction_reader.specs.Reader.{ReaderState}
use Rattle.direction_reader.specs.StandsFor.{TrackerStandsFor, LatestStandsFor, OpenStandsFor, StandsFor}
use Rattle.direction_reader.specs.Tracker.{profile_of}
use Rattle.direction_reader.proofs.EventsJoin.{stretch_more}

-- an open stretch has no break
open_events : (r : ReaderState) (l : List ℕ) (s : Stretch) (es : List Event) → s.broken_at ≡ None
    → OpenStandsFor r l s es
    → AreEventsOfStretch r.system l s es
open_events r l s es open_yet is =
    let none : break_events l s.broken_at ≡ [] = rw open_yet refl in
    (es, is.events_are, sym (ap (λ e. es ++ e) none ∙ append-nil es))

the_events : (r : ReaderState) (t : Tracking) (l : List ℕ) (es past latest : List Event) (earlier : List Stretch)
    (o : Option Stretch)
    → TrackerStandsFor t l earlier o → AreEventsOfStretches r.system l earlier past → LatestStandsFor r l o latest
    → es ≡ past ++ latest
    → AreGathered r.system (profile_of t) l es
the_events r (AtCell a) l es past latest earlier None is past_are latest_are all = absurd is
the_events r (AtCell a) l es past latest earlier (Some s) is past_are latest_are all =
    let own = open_events r l s latest is.open_yet latest_are in
    let are = stretch_more r.system l earlier s past latest past_are own in (
      earlier ++ s ∷ [],
      is.stretches_are,
      subst (λ e. AreEventsOfStretches r.system l (earlier ++ s ∷ []) e) (sym all)
          are,
    )
the_events r (MidCell m) l es past latest earlier None is past_are latest_are all = absurd is
the_events r (MidCell m) l es past latest earlier (Some s) is past_are latest_are all =
    let own = open_events r l s latest is.open_yet latest_are in
    let are = stretch_more r.system l earlier s past latest past_are own in (
      earlier ++ s ∷ [],
      is.stretches_are,
      subst (λ e. AreEventsOfStretches r.system l (earlier ++ s ∷ []) e) (sym all)
          are,
    )
the_events r (Hunting h) l es past latest earlier None is past_are latest_are all =
    let same : past ≡ es = sym (append-nil past) ∙ ap (λ e. past ++ e) (sym latest_are) ∙ sym all in
    (earlier, is.stretches_are, subst (λ e. AreEventsOfStretches r.system l earlier e) same past_are)
the_events r (Hunting h) l es past latest earlier (Some s) is past_are latest_are all = absurd is

pub reader_events : (r : ReaderState) (l : List ℕ) (es : List Event) → StandsFor r l es
    → AreGathered r.system (profile_of r.tracker) l es
reader_events r l es is =
    the_events r r.tracker l es is.past is.latest is.earlier is.open_yet is.tracker is.past_are is.latest_are is.all

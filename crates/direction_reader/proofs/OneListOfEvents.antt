-- A list has one list of stretches, a stretch has one list of windows and one break, and a window has one list of
-- events. So a list has one list of events.
use Rattle.std.proofs.Common.{◌≡◌, ℕ, List, [], ◌∷◌, ◌++◌, ap, ap₂, sym, ◌∙◌}
use Rattle.std.specs.List.{flat_map}
use Rattle.biphase.specs.declared.profile.Profile.{Profile}
use Rattle.cell_tracker.specs.Stretch.{Stretch, AreStretches}
use Rattle.tc_address.specs.declared.system.System.{System}
use Rattle.direction_reader.specs.declared.event.Event.{Event}
use Rattle.direction_reader.specs.Events.{event_list}
use Rattle.direction_reader.specs.Gathered.{AreEventsOfWindows, AreEventsOfStretch}
use Rattle.direction_reader.specs.Gathered.{begin_of}
use Rattle.direction_reader.specs.Windows.{CellWindow, windows}
use Rattle.direction_reader.specs.ListEvents.{break_events}
use Rattle.direction_reader.specs.ListEvents.{AreEvents, events_of_stretch}
use Rattle.direction_reader.proofs.OneList.{IsExact, one_list}

-- a list of intervals has one list of stretches
abbrev pub HasOneList : Type 0
HasOneList = (profile : Profile) (intervals : List ℕ) (stretches others : List Stretch)
    → AreStretches profile intervals stretches
    → AreStretches profile intervals others → stretches ≡ others

pub of_windows : IsExact → (system : System) (ws : List CellWindow) (es fs : List Event)
    → AreEventsOfWindows system ws es
    → AreEventsOfWindows system ws fs → es ≡ fs
of_windows exact system [] es fs are too = are ∙ sym too
of_windows exact system (w ∷ more) es fs (own, rest, is, others, join) (own', rest', is', others', join') =
    let same : own ≡ own' = one_list exact system w.bits w.end w.length own own' is is' in
    let same_rest : rest ≡ rest' = of_windows exact system more rest rest' others others' in
    let joined : List Event → List Event → List Event = λ a b. a ++ b in
    join ∙ ap₂ joined (ap event_list same) same_rest ∙ sym join'

pub of_stretch : IsExact → (system : System) (l : List ℕ) (s : Stretch) (es fs : List Event)
    → AreEventsOfStretch system l s es
    → AreEventsOfStretch system l s fs → es ≡ fs
of_stretch exact system l s es fs (own, are, join) (own', are', join') =
    join ∙ ap (λ own. own ++ break_events l s.broken_at) (of_windows exact system (windows (begin_of l s) s.cells) own
    own' are are') ∙ sym join'

pub one_list_of_events : HasOneList → (system : System) (profile : Profile) (l : List ℕ) (es fs : List Event)
    → AreEvents system profile l es → AreEvents system profile l fs → es ≡ fs
one_list_of_events one system profile l es fs (ss, stretches, are) (tt', others, too) =
    are ∙ ap (λ (s : List Stretch). flat_map (events_of_stretch system l) s) (one profile l ss tt' stretches others)
    ∙ sym too

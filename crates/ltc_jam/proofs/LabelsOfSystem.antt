-- Each word that is read at a system has a label of it, and a step from a label leads to one of its count, so each
-- frame has a label of the system.
use Rattle.std.proofs.Common.{◌≡◌, ℕ, ◌+◌, Bool, true, false, cond, List, [], ◌∷◌, ◌++◌, length, map, Some, None}
use Rattle.std.proofs.Common.{inl, inr}
use Rattle.std.proofs.Common.{refl, sym, subst, ap, ◌∙◌, IsSomeAnd}
use Rattle.std.specs.Prelude.{ℤ, slice_get}
use Rattle.std.specs.Option.{unwrap_or}
use Rattle.std.specs.declared.option.Option.{Option}
use Rattle.ltc_word.specs.SyncLemmas.{in_sync_or_not}
use Rattle.biphase.specs.declared.profile.Profile.{Profile}
use Rattle.cell_tracker.specs.Stretch.{Stretch}
use Rattle.tc_address.specs.declared.count.Count.{Count}
use Rattle.tc_address.specs.declared.direction.Direction.{Direction}
use Rattle.tc_address.specs.declared.direction.Direction.TheVariants.{Forward, Backward}
use Rattle.tc_address.specs.declared.system.System.{System}
use Rattle.tc_address.specs.Circle.{moved}
use Rattle.tc_address.specs.Count.{system_with}
use Rattle.tc_address.specs.Label.{Address, IsLabel, labels}
use Rattle.tc_address.specs.Numbering.{number_of, step}
use Rattle.ltc_word.specs.Reversal.{reversed_bits}
use Rattle.direction_reader.specs.declared.event.Event.{Event}
use Rattle.direction_reader.specs.declared.event.Event.TheVariants.{Word, Refused, Lost}
use Rattle.direction_reader.specs.declared.event.Events.{Events}
use Rattle.direction_reader.specs.Candidate as candidate
use Rattle.direction_reader.specs.Events.{event_list, listed}
use Rattle.direction_reader.specs.Gathered.{AreEventsOfWindows, AreEventsOfStretch, AreEventsOfStretches, AreGathered}
use Rattle.direction_reader.specs.Gathered.{begin_of}
use Rattle.direction_reader.specs.Windows.{CellWindow, windows}
use Rattle.direction_reader.specs.ListEvents.{break_events}
use Rattle.flywheel.specs.declared.frame.Frame.{Frame}
use Rattle.flywheel.specs.declared.frame.Frame.TheVariants.{Gone}
use Rattle.flywheel.specs.declared.heard.HeardWord.{HeardWord}
use Rattle.flywheel.specs.Frames.{due_steps, frames, frames_after, frames_between, invented_after, is_gone, steps_in}
use Rattle.flywheel.specs.Frames.{tick_after}
use Rattle.ltc_jam.specs.Labels.{AreEventsOf, AreFramesOf, AreHeardOf, IsEventOf, IsLabelOf}

-- ---- events

events_join : (system : System) (a b : List Event) → AreEventsOf system a → AreEventsOf system b
    → AreEventsOf system (a ++ b)
events_join system [] b first more = more
events_join system (event ∷ a) b first more = (first.0, events_join system a b first.1 more)

event_is : (system : System) (direction : Direction) (bits end length : ℕ) (event : Event)
    → candidate.IsEventOf system direction bits end length event
    → IsEventOf system event
event_is system direction bits end length (Word d w t n) is = let spells = is.1 in (spells.valid.label, spells.count)
event_is system direction bits end length (Refused d f t) is = tt
event_is system direction bits end length (Lost i t) is = tt

some_is : (system : System) (direction : Direction) (bits end length : ℕ) (event : Option Event)
    → IsSomeAnd event (candidate.IsEventOf system direction bits end length) → AreEventsOf system (listed event)
some_is system direction bits end length None is = tt
some_is system direction bits end length (Some event) is = (event_is system direction bits end length event is, tt)

none_is : (system : System) (event : Option Event) → event ≡ None → AreEventsOf system (listed event)
none_is system event e = subst (λ (o : Option Event). AreEventsOf system (listed o)) (sym e) tt

both_are : (system : System) (events : Events) → AreEventsOf system (listed events.first)
    → AreEventsOf system (listed events.second)
    → AreEventsOf system (event_list events)
both_are system events first second = events_join system (listed events.first) (listed events.second) first second

of_window : (system : System) (bits end length : ℕ) (events : Events)
    → candidate.AreEventsOf system bits end length events
    → AreEventsOf system (event_list events)
of_window system bits end length events are =
    let back = reversed_bits bits in
    elim (in_sync_or_not bits) [
      | inl forward ↦ (
          let first = some_is system Forward bits end length events.first (are.forward forward) in
          elim (in_sync_or_not back) [
            | inl backward ↦ both_are system events first
                (some_is system Backward back end length events.second (are.both forward backward))
            | inr not_back ↦ both_are system events first (none_is system events.second (are.one forward not_back))
          ])
      | inr not_forward ↦ elim (in_sync_or_not back) [
        | inl backward ↦ (
            let both = are.backward backward not_forward in
            both_are system events (some_is system Backward back end length events.first both.0)
            (none_is system events.second both.1))
        | inr not_back ↦ (
            let both = are.none not_forward not_back in
            both_are system events (none_is system events.first both.0) (none_is system events.second both.1))
      ]
    ]

of_windows : (system : System) (list : List CellWindow) (events : List Event) → AreEventsOfWindows system list events
    → AreEventsOf system events
of_windows system [] events are = subst (λ (es : List Event). AreEventsOf system es) (sym are) tt
of_windows system (window ∷ more) events are =
    let own = of_window system window.bits window.end window.length are.0 are.2 in
    let rest = of_windows system more are.1 are.3 in
    subst (λ (es : List Event). AreEventsOf system es) (sym are.4)
    (events_join system (event_list are.0) are.1 own rest)

of_break : (system : System) (intervals : List ℕ) (place : Option ℕ) → AreEventsOf system (break_events intervals place)
of_break system intervals None = tt
of_break system intervals (Some place) = (tt, tt)

of_stretch : (system : System) (intervals : List ℕ) (stretch : Stretch) (events : List Event)
    → AreEventsOfStretch system intervals stretch events
    → AreEventsOf system events
of_stretch system intervals stretch events are =
    let own = of_windows system (windows (begin_of intervals stretch) stretch.cells) are.0 are.1 in
    subst (λ (es : List Event). AreEventsOf system es) (sym are.2)
    (events_join system are.0 (break_events intervals stretch.broken_at) own
    (of_break system intervals stretch.broken_at))

of_stretches : (system : System) (intervals : List ℕ) (stretches : List Stretch) (events : List Event)
    → AreEventsOfStretches system intervals stretches events
    → AreEventsOf system events
of_stretches system intervals [] events are = subst (λ (es : List Event). AreEventsOf system es) (sym are) tt
of_stretches system intervals (stretch ∷ more) events are =
    let own = of_stretch system intervals stretch are.0 are.2 in
    let rest = of_stretches system intervals more are.1 are.3 in
    subst (λ (es : List Event). AreEventsOf system es) (sym are.4) (events_join system are.0 are.1 own rest)

pub of_events : (system : System) (profile : Profile) (intervals : List ℕ) (events : List Event)
    → AreGathered system profile intervals events
    → AreEventsOf system events
of_events system profile intervals events are = of_stretches system intervals are.0 events are.2

-- ---- steps

abbrev pub LabelsAreValid : Type 0
LabelsAreValid = (c : Count) (n : ℕ) (a : Address) → slice_get (labels c) n ≡ Some a
    → (number_of a ≡ n) × (a.count ≡ c) × IsLabel a

found : LabelsAreValid → (a : Address) (n : ℕ) (o : Option Address) → slice_get (labels a.count) n ≡ o → IsLabel a
    → IsLabel (unwrap_or o a) × ((unwrap_or o a).count ≡ a.count)
found law a n None e valid = (valid, refl)
found law a n (Some b) e valid = let h = law a.count n b e in (h.2, h.1)

pub step_valid : LabelsAreValid → (a : Address) (k : ℤ) → IsLabel a → IsLabel (step a k) × ((step a k).count ≡ a.count)
unfolding step
step_valid law a k valid = found law a (moved (length (labels a.count)) (number_of a) k) _ refl valid

-- ---- frames

abbrev pub StepsAreValid : Type 0
StepsAreValid = (a : Address) (k : ℤ) → IsLabel a → IsLabel (step a k) × ((step a k).count ≡ a.count)

frames_join : (system : System) (a b : List Frame) → AreFramesOf system a → AreFramesOf system b
    → AreFramesOf system (a ++ b)
frames_join system [] b first more = more
frames_join system (frame ∷ a) b first more = (first.0, frames_join system a b first.1 more)

of_steps : StepsAreValid → (system : System) (word : HeardWord) (steps : List ℕ) → IsLabelOf system word.label
    → AreFramesOf system (map (invented_after word) steps)
of_steps law system word [] is = tt
of_steps law system word (k ∷ more) is =
    let there = law word.label (steps_in word.direction k) is.0 in
    ((there.0, ap system_with there.1 ∙ is.1), of_steps law system word more is)

of_gone : (system : System) (gone : Bool) (tick : ℕ) → AreFramesOf system (cond gone (Gone tick ∷ []) [])
of_gone system true tick = (tt, tt)
of_gone system false tick = tt

of_between : StepsAreValid → (system : System) (limit : ℕ) (word : HeardWord) (tick : ℕ) → IsLabelOf system word.label
    → AreFramesOf system (frames_between limit word tick)
of_between law system limit word tick is =
    frames_join system (map (invented_after word) (due_steps limit word tick))
    (cond (is_gone limit word tick) (Gone (tick_after word (limit + 1)) ∷ []) [])
    (of_steps law system word (due_steps limit word tick) is)
    (of_gone system (is_gone limit word tick) (tick_after word (limit + 1)))

of_words_after : StepsAreValid → (system : System) (limit : ℕ) (word : HeardWord) (more : List HeardWord) (last : ℕ)
    → IsLabelOf system word.label
    → AreHeardOf system more → AreFramesOf system (frames_after limit word more last)
of_words_after law system limit word [] last is are = of_between law system limit word last is
of_words_after law system limit word (next ∷ more) last is are =
    frames_join system (frames_between limit word next.tick) _ (of_between law system limit word next.tick is)
    (are.0, of_words_after law system limit next more last are.0 are.1)

pub of_words : StepsAreValid → (system : System) (limit : ℕ) (words : List HeardWord) (last : ℕ)
    → AreHeardOf system words
    → AreFramesOf system (frames limit words last)
of_words law system limit [] last are = tt
of_words law system limit (word ∷ more) last are = (are.0, of_words_after law system limit word more last are.0 are.1)

-- What is known of the stretches of a list stays where more intervals follow, and of a word that waits its witness may
-- become known.
use Rattle.std.proofs.Common.{◌≡◌, ℕ, true, List, [], ◌∷◌, ◌++◌, length, map, Option, Some, None, MatchOption}
use Rattle.std.proofs.Common.{ap, ap₂, sym, ◌∙◌, refl, append-nil, sum, take}
use Rattle.std.specs.List.{flat_map}
use Rattle.std.proofs.lemmas.List.{map-append}
use Rattle.biphase.specs.declared.cell.Cell.{Cell}
use Rattle.biphase.specs.declared.profile.Profile.{Profile}
use Rattle.cell_tracker.specs.Growing.{GrowsTo, GrowTo}
use Rattle.cell_tracker.specs.Stretch.{Stretch, AreStretchesFrom}
use Rattle.tc_address.specs.declared.system.System.{System}
use Rattle.direction_reader.specs.declared.event.Event.{Event}
use Rattle.direction_reader.specs.declared.firm_event.FirmEvent.{FirmEvent}
use Rattle.direction_reader.specs.declared.firm_event.FirmEvent.TheVariants.{Told}
use Rattle.direction_reader.specs.Firm.{firm_events_of_cells, firm_events_of_stretch}
use Rattle.direction_reader.specs.FirmKnown.{Known, all_sure, closed, has_no_break, known_of, known_of_cells}
use Rattle.direction_reader.specs.FirmKnown.{known_of_stretch}
use Rattle.direction_reader.specs.Gathered.{begin_of}
use Rattle.direction_reader.specs.ListEvents.{break_events}
use Rattle.direction_reader.specs.StandsFor.{AreInside, IsInside}
use Rattle.direction_reader.proofs.EventsJoin.{begin_stays, break_stays}
use Rattle.direction_reader.proofs.KnownCells.{cells_grow, cells_sure, closed_cells, sure_append}
use Rattle.direction_reader.proofs.KnownLists.{GrowKnown, closed_sure, grow_append, grow_front, grow_refl}

pub open_known : (system : System) (l : List ℕ) (s : Stretch) → s.broken_at ≡ None
    → known_of_stretch system l s ≡ known_of_cells true system (begin_of l s) s.cells
open_known system l s at = rw at (append-nil (known_of_cells true system (begin_of l s) s.cells))

-- all is known of a stretch that is broken
pub broken_known : (system : System) (l : List ℕ) (s : Stretch) (place : ℕ) → s.broken_at ≡ Some place
    → known_of_stretch system l s ≡ all_sure (firm_events_of_stretch system l s)
broken_known system l s place at =
    let cells = firm_events_of_cells system (begin_of l s) s.cells in
    let lost = map (λ (e : Event). Told e) (break_events l (Some place)) in
    rw at (ap (λ (ks : List Known). ks ++ all_sure lost) (cells_sure system (begin_of l s) s.cells)
    ∙ sym (sure_append cells lost))

pub closed_stretch : (system : System) (l : List ℕ) (s : Stretch)
    → map closed (known_of_stretch system l s) ≡ firm_events_of_stretch system l s
closed_stretch system l s =
    let lost = map (λ (e : Event). Told e) (break_events l s.broken_at) in
    map-append closed (known_of_cells (has_no_break s.broken_at) system (begin_of l s) s.cells) (all_sure lost)
    ∙ ap₂ (λ (a b : List FirmEvent). a ++ b)
    (closed_cells (has_no_break s.broken_at) system (begin_of l s) s.cells) (closed_sure lost)

pub closed_of : (system : System) (l : List ℕ) (ss : List Stretch)
    → map closed (known_of system l ss) ≡ flat_map (firm_events_of_stretch system l) ss
closed_of system l [] = refl
closed_of system l (s ∷ ss) =
    map-append closed (known_of_stretch system l s) (known_of system l ss)
    ∙ ap₂ (λ (a b : List FirmEvent). a ++ b) (closed_stretch system l s) (closed_of system l ss)

-- ---- more intervals

pub known_stays : (system : System) (l more : List ℕ) (s : Stretch) → IsInside (length l) s
    → known_of_stretch system (l ++ more) s ≡ known_of_stretch system l s
known_stays system l more s inside =
    ap₂ (λ (n : ℕ) (es : List Event). known_of_cells (has_no_break s.broken_at) system n s.cells
    ++ all_sure (map (λ (e : Event). Told e) es)) (begin_stays l more s inside.lock)
    (break_stays l more s.broken_at inside.broken)

pub all_stay : (system : System) (l more : List ℕ) (ss : List Stretch) → AreInside (length l) ss
    → known_of system (l ++ more) ss ≡ known_of system l ss
all_stay system l more [] inside = refl
all_stay system l more (s ∷ ss) inside =
    ap₂ (λ (ks ls : List Known). ks ++ ls) (known_stays system l more s inside.0) (all_stay system l more ss inside.1)

grow_step : (profile : Profile) (system : System) (l more : List ℕ) (s t : Stretch) (ss ts : List Stretch)
    (o : Option ℕ) → s.broken_at ≡ o → IsInside (length l) s → GrowsTo s t
    → MatchOption o (ss ≡ []) (λ place. AreStretchesFrom profile l place ss)
    → ((place : ℕ) → AreStretchesFrom profile l place ss
    → GrowKnown (known_of system l ss) (known_of system (l ++ more) ts))
    → GrowKnown (known_of system l (s ∷ ss)) (known_of system (l ++ more) (t ∷ ts))
grow_step profile system l more s t ss ts None at inside goes next again =
    let all = l ++ more in
    let tick = begin_of l s in
    let cells = goes.cells in
    let open_yet = has_no_break t.broken_at in
    let known = known_of_cells true system tick s.cells in
    let later = known_of_cells open_yet system tick (s.cells ++ cells.0) in
    let lost = all_sure (map (λ (e : Event). Told e) (break_events all t.broken_at)) in
    let is : known_of system l (s ∷ ss) ≡ known =
    ap (λ (us : List Stretch). known_of_stretch system l s ++ known_of system l us) next
    ∙ append-nil (known_of_stretch system l s) ∙ open_known system l s at in
    let begin : begin_of all t ≡ tick =
    ap (λ (k : ℕ). sum (take k all)) goes.lock ∙ begin_stays l more s inside.lock in
    let own : known_of system all (t ∷ ts) ≡ (later ++ lost) ++ known_of system all ts =
    ap₂ (λ (n : ℕ) (cs : List Cell). (known_of_cells open_yet system n cs ++ lost) ++ known_of system all ts) begin
    cells.1 in
    rw (is, own) (grow_front known (later ++ lost) (known_of system all ts)
    (grow_front known later lost (cells_grow open_yet system tick s.cells cells.0)))
grow_step profile system l more s t ss ts (Some place) at inside goes next again =
    let same : t ≡ s = goes.broken (rw at refl) in
    let here = known_of_stretch system l s in
    let stays : known_of_stretch system (l ++ more) t ≡ here =
    ap (known_of_stretch system (l ++ more)) same ∙ known_stays system l more s inside in
    rw stays (grow_append here here (known_of system l ss) (known_of system (l ++ more) ts) (grow_refl here, refl)
    (again place next))

pub list_grows : (profile : Profile) (system : System) (l more : List ℕ) (start : ℕ) (ss ts : List Stretch)
    → AreStretchesFrom profile l start ss → AreInside (length l) ss → GrowTo ss ts
    → GrowKnown (known_of system l ss) (known_of system (l ++ more) ts)
list_grows profile system l more start [] ts stretches inside go = tt
list_grows profile system l more start (s ∷ ss) [] stretches inside go = absurd go
list_grows profile system l more start (s ∷ ss) (t ∷ ts) stretches inside go =
    grow_step profile system l more s t ss ts s.broken_at refl inside.0 go.0 stretches.2
    (λ place after. list_grows profile system l more place ss ts after inside.1 go.1)

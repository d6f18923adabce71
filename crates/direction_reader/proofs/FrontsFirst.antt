-- The stretches of the front of a list go on in those of the list: a broken one keeps its events, and the windows of
-- the open one come first among its windows. So the events of the front come first.
use Rattle.std.proofs.Common.{◌≡◌, ◌<◌, ◌≤◌, ℕ, ◌+◌, ◌-◌, List, [], ◌∷◌, ◌++◌, length, take, drop, Option, Some, None}
use Rattle.std.proofs.Common.{IfSome, MatchOption}
use Rattle.std.proofs.Common.{ap, arith, append_assoc, append-nil, length-append, inl, inr, refl, subst, sym, ◌∙◌}
use Rattle.std.specs.List.{slice_index}
use Rattle.std.proofs.lemmas.List.{length-drop, take-append-drop}
use Rattle.std.proofs.lemmas.List.FromFn.{take-map-range_with_len}
use Rattle.biphase.specs.declared.cell.Cell.{Cell}
use Rattle.biphase.specs.declared.cell.Cell.TheVariants.{Zero}
use Rattle.biphase.specs.declared.profile.Profile.{Profile}
use Rattle.biphase.specs.Latest.{Latest}
use Rattle.biphase.specs.Chain.{Begins, flat, kept_of}
use Rattle.biphase.specs.ToleranceLemmas.{half_or_not}
use Rattle.cell_tracker.specs.Growing.{GrowsTo, GrowTo}
use Rattle.cell_tracker.specs.Stretch.{Stretch, IsBreak, IsStretch, AreStretches, AreStretchesFrom, end_of}
use Rattle.tc_address.specs.declared.system.System.{System}
use Rattle.direction_reader.specs.declared.event.Event.{Event}
use Rattle.direction_reader.specs.Events.{event_list}
use Rattle.direction_reader.specs.Gathered.{AreEventsOfWindows, AreEventsOfStretch, AreEventsOfStretches, AreGathered}
use Rattle.direction_reader.specs.Gathered.{begin_of}
use Rattle.direction_reader.specs.Windows.{CellWindow, window_at, windows}
use Rattle.direction_reader.specs.ListEvents.{break_events}
use Rattle.direction_reader.specs.StandsFor.{IsInside}
use Rattle.direction_reader.proofs.EventsJoin.{begin_stays, stretch_stays}
use Rattle.direction_reader.proofs.OneList.{IsExact, one_list}
use Rattle.direction_reader.proofs.OneListOfEvents.{of_stretch}
use Rattle.direction_reader.proofs.WindowsGrow.{windows_stay}

-- the stretches of the front of a list go on in those of the list
abbrev pub StretchesGoOn : Type 0
StretchesGoOn = (profile : Profile) (front more : List ℕ) (stretches later : List Stretch)
    → AreStretches profile front stretches
    → AreStretches profile (front ++ more) later → GrowTo stretches later

-- ---- the windows of a front of cells

pub windows_split : (tick : ℕ) (cells more : List Cell)
    → windows tick (cells ++ more) ≡ windows tick cells ++ drop (length cells - 79) (windows tick (cells ++ more))
windows_split tick cells more =
    let all = windows tick (cells ++ more) in
    let n = length cells - 79 in
    let fewer : n ≤ length (cells ++ more) - 79 = omega (arith, length-append cells more) in
    let front : take n all ≡ windows tick cells =
    take-map-range_with_len (window_at tick (cells ++ more)) 0 (length (cells ++ more) - 79) n fewer
    ∙ windows_stay tick cells more in
    sym (take-append-drop n all) ∙ ap (λ ws. ws ++ drop n all) front

pub windows_first : (tick : ℕ) (cells more : List Cell) → Begins (windows tick cells) (windows tick (cells ++ more))
windows_first tick cells more = (drop (length cells - 79) (windows tick (cells ++ more)), windows_split tick cells more)

-- the events of one list, and those of it and a longer one
joined : (own own' rest rest' all : List Event) → own' ≡ own → Begins rest rest' → all ≡ own' ++ rest'
    → Begins (own ++ rest) all
joined own own' rest rest' all same (more, is) join =
    (more, join ∙ ap (λ e. e ++ rest') same ∙ ap (λ e. own ++ e) is ∙ sym (append_assoc own rest more))

pub events_of_windows : IsExact → (system : System) (ws vs : List CellWindow) (es fs : List Event)
    → AreEventsOfWindows system ws es
    → AreEventsOfWindows system (ws ++ vs) fs → Begins es fs
events_of_windows exact system [] vs es fs are too = (fs, ap (λ e. e ++ fs) (sym are))
events_of_windows exact system (w ∷ ws) vs es fs (own, rest, is, others, join) (own', rest', is', others', join') =
    let same = one_list exact system w.bits w.end w.length own' own is' is in
    let more = events_of_windows exact system ws vs rest rest' others others' in
    subst (λ e. Begins e fs) (sym join) (joined (event_list own) (event_list own') rest rest' fs
    (ap event_list same) more join')

-- ---- stretches lie within their list

not_empty : (x : ℕ) (more rest xs : List ℕ) → xs ≡ (x ∷ more) ++ rest → 0 < length xs
not_empty x more rest xs is = rw is (omega arith)

pub lock_inside : (profile : Profile) (l : List ℕ) (s : Stretch) → IsStretch profile l s → s.lock < length l
lock_inside profile l s is =
    let first = is.chain.first in
    let front = is.chain.front in
    let zero = slice_index l s.lock in
    let begins : drop s.lock l ≡ flat (Zero zero ∷ first.0) ++ front.0 =
    subst (λ (cells : List Cell). drop s.lock l ≡ flat cells ++ front.0) first.1 front.1 in
    let some = not_empty zero (flat first.0) front.0 (drop s.lock l) begins in
    omega (arith, length-drop s.lock l)

is_place : (n p : ℕ) (place : Option ℕ) → place ≡ Some p → p < n → IfSome place (λ q. q < n)
is_place n p place is within = rw is within

break_inside : (profile : Profile) (c : Latest) (after n : ℕ) (rest : List ℕ) (place : Option ℕ)
    → length rest ≡ n - after
    → IsBreak profile c after rest place → IfSome place (λ p. p < n)
break_inside profile c after n [] place count is = rw is tt
break_inside profile c after n (x ∷ []) place count is = elim (half_or_not profile c x) [
  | inl half ↦ rw (is.0 half) tt
  | inr no_half ↦ is_place n after place (is.1 no_half) (omega arith)
]
break_inside profile c after n (x ∷ y ∷ rest) place count is = elim (half_or_not profile c x) [
  | inl half ↦ is_place n (after + 1) place (is.0 half) (omega arith)
  | inr no_half ↦ is_place n after place (is.1 no_half) (omega arith)
]

pub stretch_inside : (profile : Profile) (l : List ℕ) (s : Stretch) → IsStretch profile l s → IsInside (length l) s
stretch_inside profile l s is =
    let lock = lock_inside profile l s is in
    record {
      lock = omega arith;
      broken = break_inside profile (kept_of profile s.cells) (end_of s) (length l) (drop (end_of s) l) s.broken_at
          (length-drop (end_of s) l) is.broken;
    }

-- ---- a stretch that goes on

-- the open stretch
open_first : IsExact → (system : System) (l more : List ℕ) (s t : Stretch) (es fs : List Event) → s.lock ≤ length l
    → s.broken_at ≡ None
    → GrowsTo s t → AreEventsOfStretch system l s es → AreEventsOfStretch system (l ++ more) t fs → Begins es fs
open_first exact system l more s t es fs within open_yet go (own, are, join) (own', are', join') =
    let begin : begin_of (l ++ more) t ≡ begin_of l s =
    ap (λ k. begin_of (l ++ more) (record { lock = k; cells = t.cells; broken_at = None })) go.lock
    ∙ begin_stays l more s within in
    let cells = go.cells in
    let first = windows_first (begin_of l s) s.cells cells.0 in
    let same : windows (begin_of (l ++ more) t) t.cells ≡ windows (begin_of l s) s.cells ++ first.0 =
    ap (λ tick. windows tick t.cells) begin ∙ ap (λ (xs : List Cell). windows (begin_of l s) xs) cells.1 ∙ first.1 in
    let whole = subst (λ (ws : List CellWindow). AreEventsOfWindows system ws own') same are' in
    let mine = events_of_windows exact system (windows (begin_of l s) s.cells) first.0 own own' are whole in
    let none : break_events l s.broken_at ≡ [] = rw open_yet refl in
    let is : es ≡ own = join ∙ ap (λ e. own ++ e) none ∙ append-nil own in
    let last = break_events (l ++ more) t.broken_at in
    subst (λ e. Begins e fs) (sym is) (
      mine.0 ++ last,
      join' ∙ ap (λ e. e ++ last) mine.1
          ∙ append_assoc own mine.0 last,
    )

-- a broken stretch
pub broken_same : IsExact → (system : System) (l more : List ℕ) (s t : Stretch) (es fs : List Event)
    → IsInside (length l) s → t ≡ s
    → AreEventsOfStretch system l s es → AreEventsOfStretch system (l ++ more) t fs → fs ≡ es
broken_same exact system l more s t es fs inside same are too =
    let stays = stretch_stays system l more s es inside are in
    let here = subst (λ (r : Stretch). AreEventsOfStretch system (l ++ more) r fs) same too in
    of_stretch exact system (l ++ more) s fs es here stays

-- ---- all stretches

-- what follows a stretch, if the events of the stretches behind it come first
behind : IsExact → (profile : Profile) (system : System) (l more : List ℕ) (s t : Stretch) (ss ts : List Stretch)
    (place : Option ℕ)
    (own own' rest rest' all : List Event) → s.broken_at ≡ place
    → ((start : ℕ) → AreStretchesFrom profile l start ss → Begins rest rest')
    → IsStretch profile l s → MatchOption place (ss ≡ []) (λ start. AreStretchesFrom profile l start ss) → GrowsTo s t
    → AreEventsOfStretch system l s own → AreEventsOfStretch system (l ++ more) t own'
    → AreEventsOfStretches system l ss rest → all ≡ own' ++ rest' → Begins (own ++ rest) all
behind exact profile system l more s t ss ts None own own' rest rest' all at again is last go are too others join =
    let inside = stretch_inside profile l s is in
    let first = open_first exact system l more s t own own' inside.lock at go are too in
    let none : rest ≡ [] = subst (λ (xs : List Stretch). AreEventsOfStretches system l xs rest) last others in
    let mine : own ++ rest ≡ own = ap (λ e. own ++ e) none ∙ append-nil own in
    subst (λ e. Begins e all) (sym mine) (
      first.0 ++ rest',
      join ∙ ap (λ e. e ++ rest') first.1
          ∙ append_assoc own first.0 rest',
    )
behind exact profile system l more s t ss ts
    (Some start) own own' rest rest' all at again is next go are too others join =
    let inside = stretch_inside profile l s is in
    let same = go.broken (rw at refl) in
    joined own own' rest rest' all (broken_same exact system l more s t own own' inside same are too)
    (again start next) join

stretches_first : IsExact → (profile : Profile) (system : System) (l more : List ℕ) (start : ℕ) (ss ts : List Stretch)
    (es fs : List Event)
    → AreStretchesFrom profile l start ss → GrowTo ss ts → AreEventsOfStretches system l ss es
    → AreEventsOfStretches system (l ++ more) ts fs
    → Begins es fs
stretches_first exact profile system l more start [] ts es fs from go are too = (fs, ap (λ e. e ++ fs) (sym are))
stretches_first exact profile system l more start (s ∷ ss) [] es fs from go are too = absurd go
stretches_first exact profile system l more start (s ∷ ss) (t ∷ ts) es fs from go (own, rest, is, others, join)
    (own', rest', is', others', join') =
    let again : (next : ℕ) → AreStretchesFrom profile l next ss → Begins rest rest' =
    λ next after. stretches_first exact profile system l more next ss ts rest rest' after go.1 others others' in
    subst (λ e. Begins e fs) (sym join)
    (behind exact profile system l more s t ss ts s.broken_at own own' rest rest' fs refl again from.1 from.2 go.0 is
    is' others join')

-- the events of the front of a list come first
pub front_first : IsExact → StretchesGoOn → (system : System) (profile : Profile) (l more : List ℕ) (es fs : List Event)
    → AreGathered system profile l es → AreGathered system profile (l ++ more) fs
    → (rest : List Event) × (fs ≡ es ++ rest)
front_first exact go_on system profile l more es fs (ss, stretches, are) (ts, later, too) =
    stretches_first exact profile system l more 0 ss ts es fs stretches
    (go_on profile l more ss ts stretches later) are too

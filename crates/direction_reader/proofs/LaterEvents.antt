-- What follows the events of the first intervals of a list comes behind these. Their open stretch has the longest chain
-- that is in them, so each further window of it ends behind them. It breaks at their end at the earliest. And a
-- further stretch locks at the last of them at the earliest, so its windows and its break come when they have ended.
use Rattle.std.proofs.Common.{◌≡◌, ◌<◌, ◌≤◌, ℕ, ◌+◌, ◌-◌, List, [], ◌∷◌, ◌++◌, length, take, drop, sum}
use Rattle.std.proofs.Common.{Option, Some, None, MatchOption}
use Rattle.std.proofs.Common.{ap, arith, append_assoc, append-nil, length-append, inl, inr, refl, subst, sym, ◌∙◌}
use Rattle.std.proofs.Common.{All}
use Rattle.std.proofs.Math.Seq.{take-append_seam}
use Rattle.std.proofs.lemmas.Bool.{cases_lt}
use Rattle.std.proofs.lemmas.Grind.{flat_map-append}
use Rattle.std.proofs.lemmas.Option.{MatchOption-at_some}
use Rattle.std.proofs.lemmas.List.{append_cancel_left, take-append-drop, take-append-le, drop-append-le, length-take}
use Rattle.std.proofs.lemmas.List.{length-drop, drop_at}
use Rattle.std.proofs.lemmas.List.{get_or_append_left}
use Rattle.std.proofs.lemmas.List.Elements.{All-append, All-same}
use Rattle.std.proofs.lemmas.List.FromFn.{length-map-range_with_len}
use Rattle.biphase.specs.ChainLemmas.{fewer_cells}
use Rattle.biphase.specs.declared.cell.Cell.{Cell}
use Rattle.biphase.specs.declared.cell.Cell.TheVariants.{Zero}
use Rattle.biphase.specs.declared.profile.Profile.{Profile}
use Rattle.biphase.specs.Latest.{Latest}
use Rattle.biphase.specs.Tolerance.{IsFirstHalf}
use Rattle.biphase.specs.Chain.{Begins, intervals_of, flat, kept_of}
use Rattle.biphase.specs.ToleranceLemmas.{half_or_not}
use Rattle.cell_tracker.specs.Growing.{GrowsTo, GrowTo}
use Rattle.cell_tracker.specs.Stretch.{Stretch, IsBreak, IsChainFrom, IsStretch, AreStretchesFrom, end_of}
use Rattle.tc_address.specs.declared.system.System.{System}
use Rattle.direction_reader.specs.declared.event.Event.{Event}
use Rattle.direction_reader.specs.Gathered.{AreEventsOfWindows, AreEventsOfStretch, AreEventsOfStretches, AreGathered}
use Rattle.direction_reader.specs.Gathered.{begin_of}
use Rattle.direction_reader.specs.Windows.{CellWindow, window_at, windows}
use Rattle.direction_reader.specs.ListEvents.{break_events}
use Rattle.direction_reader.proofs.EventsJoin.{begin_stays}
use Rattle.direction_reader.proofs.FindsTheTape.{break_behind}
use Rattle.direction_reader.proofs.FrontsFirst.{StretchesGoOn, windows_first, lock_inside, stretch_inside}
use Rattle.direction_reader.proofs.FrontsFirst.{broken_same}
use Rattle.direction_reader.proofs.OneList.{IsExact}
use Rattle.direction_reader.proofs.OneListOfEvents.{of_windows}
use Rattle.direction_reader.proofs.WindowsFrom.{EndsFrom, IsFrom, both_windows, windows_from}
use Rattle.direction_reader.proofs.LaterWindows.{late_windows, taken}
use Rattle.direction_reader.proofs.LateStretches.{break_from, late_behind, late_lock, late_stretches, lock_from}

-- ---- the open stretch goes on

-- a front that is in a list, if more follows it, is in the list
stands_in : (xs more ys rest : List ℕ) → xs ++ more ≡ ys ++ rest → length ys ≤ length xs → Begins ys xs
stands_in xs more ys rest same fits =
    let front : take (length ys) xs ≡ ys =
    sym (take-append-le (length ys) xs more fits) ∙ ap (take (length ys)) same ∙ take-append_seam ys rest in
    (drop (length ys) xs, sym (take-append-drop (length ys) xs) ∙ ap (λ (zs : List ℕ). zs ++ drop (length ys) xs) front)

-- a chain with more cells than a stretch ends behind the list
ends_behind : (profile : Profile) (l more : List ℕ) (s : Stretch) (others : List Cell) → IsStretch profile l s
    → IsChainFrom profile (l ++ more) s.lock others → length s.cells < length others
    → length l < s.lock + length (flat others)
ends_behind profile l more s others is chain longer =
    elim (cases_lt (length l) (s.lock + length (flat others))) [
      | inl behind ↦ behind
      | inr within ↦ (
          let lock = lock_inside profile l s is in
          let same : drop s.lock l ++ more ≡ flat others ++ chain.front.0 =
          sym (drop-append-le s.lock l more (omega arith)) ∙ chain.front.1 in
          let here : IsChainFrom profile l s.lock others = record {
            first = (
              chain.first.0,
              chain.first.1 ∙ ap (λ x. Zero x ∷ chain.first.0)
                  (get_or_append_left l more 0 s.lock lock),
            );
            chain = chain.chain;
            front = stands_in (drop s.lock l) more (flat others) chain.front.0 same
                (omega (arith, length-drop s.lock l, within));
          } in
          absurd (omega (arith, is.longest others here, longer)))
    ]

-- behind an open stretch comes a waiting half at most
waits : (profile : Profile) (c : Latest) (after : ℕ) (rest : List ℕ) → IsBreak profile c after rest None
    → length rest ≤ 1
waits profile c after [] is = omega arith
waits profile c after (x ∷ []) is = omega arith
waits profile c after (x ∷ y ∷ rest) is = elim (half_or_not profile c x) [
  | inl half ↦ let there = is.0 half in absurd cc
  | inr no_half ↦ let there = is.1 no_half in absurd cc
]

-- the events of one list, and of one that has later events behind them
record GoesOnLater (n tick : ℕ) (es fs : List Event) : Type 0 where
  rest : List Event
  are : fs ≡ es ++ rest
  late : All (IsFrom n tick) rest

-- the events of the open stretch, and of what it goes on to
open_later : IsExact → (profile : Profile) (system : System) (l more : List ℕ) (s t : Stretch) (es fs : List Event)
    → IsStretch profile l s
    → IsStretch profile (l ++ more) t → s.broken_at ≡ None → GrowsTo s t
    → ((p : ℕ) → t.broken_at ≡ Some p → length l ≤ p) → AreEventsOfStretch system l s es
    → AreEventsOfStretch system (l ++ more) t fs → GoesOnLater (length l) (sum (take (length l) (l ++ more))) es fs
open_later exact profile system l more s t es fs is goes open_yet go end (own, are, join) (own', are', join') =
    let whole = l ++ more in
    let n = length l in
    let tick = sum (take n whole) in
    let lock = lock_inside profile l s is in
    let begin : begin_of whole t ≡ begin_of l s =
    ap (λ k. sum (take k whole)) go.lock ∙ begin_stays l more s (omega arith) in
    let cells = go.cells in
    let ws = windows (begin_of l s) s.cells in
    let first = windows_first (begin_of l s) s.cells cells.0 in
    let same : windows (begin_of whole t) t.cells ≡ ws ++ first.0 =
    ap (λ tick. windows tick t.cells) begin ∙ ap (λ (cs : List Cell). windows (begin_of l s) cs) cells.1 ∙ first.1 in
    let both = both_windows system ws first.0 own' (subst
    (λ (vs : List CellWindow). AreEventsOfWindows system vs own') same are') in
    let mine : both.one ≡ own = of_windows exact system ws both.one own both.ones are in
    let k = length s.cells - 79 in
    let count : length ws ≡ k = length-map-range_with_len (window_at (begin_of l s) s.cells) 0 k in
    let ends : (j : ℕ) → k ≤ j → j + 80 ≤ length t.cells → n < t.lock + length (flat (take (j + 80) t.cells)) =
    λ j low high. (
    let chain = taken profile whole t.lock (j + 80) t.cells (omega arith) goes.chain in
    let here = subst (λ at. IsChainFrom profile whole at (take (j + 80) t.cells)) go.lock chain in
    let behind = ends_behind profile l more s (take (j + 80) t.cells) is here
    (omega (arith, length-take (j + 80) t.cells)) in
    omega (arith, behind, go.lock)) in
    let those : drop k (windows (begin_of whole t) t.cells) ≡ first.0 = ap (drop k) same ∙ drop_at ws first.0 k count in
    let late = All-same (EndsFrom tick) first.0 _ (sym those) (late_windows profile whole t n k goes.chain ends) in
    let words = windows_from system n tick first.0 both.two late both.twos in
    let last = break_events whole t.broken_at in
    let breaks = break_from whole n t.broken_at end in
    let all : es ≡ own = join ∙ ap (λ o. own ++ break_events l o) open_yet ∙ append-nil own in
    record {
      rest = both.two ++ last;
      are = join' ∙ ap (λ (e : List Event). e ++ last) (both.are
          ∙ ap (λ (e : List Event). e ++ both.two) (mine ∙ sym all))
          ∙ append_assoc es both.two last;
      late = All-append (IsFrom n tick) both.two last words breaks;
    }

-- behind a first half no break comes before the interval after it
at_half : (profile : Profile) (c : Latest) (after x : ℕ) (more : List ℕ) (place : Option ℕ) (p : ℕ)
    → IsFirstHalf profile c x
    → IsBreak profile c after (x ∷ more) place → place ≡ Some p → p ≡ after + 1
at_half profile c after x [] place p half is at = let none = is.0 half in absurd cc
at_half profile c after x (y ∷ more) place p half is at = let some = is.0 half in let same : p ≡ after + 1 = cc in same

-- what waits behind an open stretch is a first half
waits_half : (profile : Profile) (c : Latest) (after x : ℕ) → IsBreak profile c after (x ∷ []) None
    → IsFirstHalf profile c x
waits_half profile c after x is = elim (half_or_not profile c x) [
  | inl half ↦ half
  | inr no_half ↦ let there = is.1 no_half in absurd cc
]

-- one interval, or none
one_of : (rest : List ℕ) → length rest ≡ 1 → (x : ℕ) × (rest ≡ x ∷ [])
one_of [] is = absurd (omega arith)
one_of (x ∷ []) is = (x, refl)
one_of (x ∷ y ∷ rest) is = absurd (omega arith)

no_cells_more : (cells more : List Cell) → length (flat more) ≡ 0 → cells ++ more ≡ cells
no_cells_more cells [] is = append-nil cells
no_cells_more cells (cell ∷ more) is = absurd (omega (arith, fewer_cells (cell ∷ more)))

-- what it goes on to breaks behind the list
open_break : (profile : Profile) (l more : List ℕ) (s t : Stretch) → IsStretch profile l s
    → IsStretch profile (l ++ more) t → s.broken_at ≡ None
    → GrowsTo s t → (p : ℕ) → t.broken_at ≡ Some p → length l ≤ p
open_break profile l more s t is goes open_yet go p at =
    let c = kept_of profile s.cells in
    let rest = drop (end_of s) l in
    let none : IsBreak profile c (end_of s) rest None =
    subst (λ (o : Option ℕ). IsBreak profile c (end_of s) rest o) open_yet is.broken in
    let one = waits profile c (end_of s) rest none in
    let long = length-drop (end_of s) l in
    let cells = go.cells in
    let grown : flat t.cells ≡ flat s.cells ++ flat cells.0 = ap flat cells.1
    ∙ flat_map-append intervals_of s.cells cells.0 in
    let count : length (flat t.cells) ≡ length (flat s.cells) + length (flat cells.0) = ap length grown
    ∙ length-append (flat s.cells) (flat cells.0) in
    let lock = go.lock in
    let behind = break_behind profile (kept_of profile t.cells) (end_of t)
    (drop (end_of t) (l ++ more)) t.broken_at p goes.broken at in
    elim (cases_lt (end_of t) (length l)) [
      | inr past ↦ omega (arith, past, behind)
      | inl before ↦ (
          let nothing : length (flat cells.0) ≡ 0 = omega (arith, one, long, count, lock, before) in
          let same : t.cells ≡ s.cells = cells.1 ∙ no_cells_more s.cells cells.0 nothing in
          let place : end_of t ≡ end_of s = omega (arith, count, nothing, lock) in
          let half = one_of rest (omega (arith, one, long, place, before)) in
          let waiting = waits_half profile c (end_of s) half.0 (rw half.1 at none) in
          let there : drop (end_of t) (l ++ more) ≡ half.0 ∷ more =
          ap (λ (k : ℕ). drop k (l ++ more)) place ∙ drop-append-le (end_of s) l more (omega (arith, place, before))
          ∙ ap (λ (xs : List ℕ). xs ++ more) half.1 in
          let broken : IsBreak profile c (end_of s) (half.0 ∷ more) t.broken_at =
          subst (λ (k : ℕ). IsBreak profile c k (half.0 ∷ more) t.broken_at) place
          (subst (λ (cs : List Cell). IsBreak profile (kept_of profile cs) (end_of t) (half.0 ∷ more) t.broken_at) same
          (subst (λ (xs : List ℕ). IsBreak profile (kept_of profile t.cells)
          (end_of t) xs t.broken_at) there goes.broken)) in
          let next = at_half profile c (end_of s) half.0 more t.broken_at p waiting broken at in
          omega (arith, next, place, long, one, ap length half.1))
    ]

-- ---- all stretches

-- what follows the events of a stretch and of those behind it
later_step : IsExact → (profile : Profile) (system : System) (l more : List ℕ) (s t : Stretch) (ss ts : List Stretch)
    (place : Option ℕ)
    (own own' those those' rest : List Event) → s.broken_at ≡ place
    → ((start : ℕ) → AreStretchesFrom profile l start ss → AreStretchesFrom profile (l ++ more) start ts
    → AreEventsOfStretches system (l ++ more) ts (those ++ rest)
    → All (IsFrom (length l) (sum (take (length l) (l ++ more)))) rest)
    → IsStretch profile l s → MatchOption place (ss ≡ []) (λ start. AreStretchesFrom profile l start ss)
    → IsStretch profile (l ++ more) t → MatchOption t.broken_at (ts ≡ [])
    (λ start. AreStretchesFrom profile (l ++ more) start ts)
    → GrowsTo s t → AreEventsOfStretch system l s own → AreEventsOfStretch system (l ++ more) t own'
    → AreEventsOfStretches system l ss those → AreEventsOfStretches system (l ++ more) ts those'
    → (own ++ those) ++ rest ≡ own' ++ those'
    → All (IsFrom (length l) (sum (take (length l) (l ++ more)))) rest
later_step exact profile system l more s t ss ts None own own' those those' rest at again is last goes next go are too
    others others' join =
    let whole = l ++ more in
    let n = length l in
    let tick = sum (take n whole) in
    let end = open_break profile l more s t is goes at go in
    let first = open_later exact profile system l more s t own own' is goes at go end are too in
    let none : those ≡ [] = subst (λ (xs : List Stretch). AreEventsOfStretches system l xs those) last others in
    let mine : own ++ those ≡ own = ap (λ (e : List Event). own ++ e) none ∙ append-nil own in
    let follows : rest ≡ first.rest ++ those' =
    append_cancel_left own rest (first.rest ++ those') (ap (λ (e : List Event). e ++ rest) (sym mine) ∙ join
    ∙ ap (λ (e : List Event). e ++ those') first.are ∙ append_assoc own first.rest those') in
    let behind = late_behind profile system whole n t.broken_at ts those' end
    (λ p place stretches. late_stretches profile system whole n p ts those'
    (λ k lock. lock_from profile whole n p k (omega arith) lock) stretches others')
    next others' in
    All-same (IsFrom n tick) rest (first.rest ++ those') follows
    (All-append (IsFrom n tick) first.rest those' first.late behind)
later_step exact profile system l more s t ss ts
    (Some start) own own' those those' rest at again is stretches goes next go are too others others' join =
    let same = go.broken (rw at refl) in
    let mine : own' ≡ own = broken_same exact system l more s t own own' (stretch_inside profile l s is) same are too in
    let broken : t.broken_at ≡ Some start = ap (λ (r : Stretch). r.broken_at) same ∙ at in
    let from = MatchOption-at_some (ts ≡ []) (λ place. AreStretchesFrom profile
    (l ++ more) place ts) start broken next in
    let follows : those' ≡ those ++ rest =
    append_cancel_left own those' (those ++ rest) (ap (λ (e : List Event). e ++ those') (sym mine) ∙ sym join
    ∙ append_assoc own those rest) in
    again start stretches from (subst (λ (e : List Event).
    AreEventsOfStretches system (l ++ more) ts e) follows others')

-- what follows the events of some stretches
pub later : IsExact → (profile : Profile) (system : System) (l more : List ℕ) (start : ℕ) (ss ts : List Stretch)
    (es rest : List Event)
    → AreStretchesFrom profile l start ss → AreStretchesFrom profile (l ++ more) start ts → GrowTo ss ts
    → AreEventsOfStretches system l ss es
    → AreEventsOfStretches system (l ++ more) ts (es ++ rest)
    → All (IsFrom (length l) (sum (take (length l) (l ++ more)))) rest
later exact profile system l more start [] ts es rest none from go are too =
    late_stretches profile system (l ++ more) (length l) start ts rest
    (λ lock at. late_lock profile l more start lock none at) from
    (subst (λ (e : List Event). AreEventsOfStretches system (l ++ more) ts (e ++ rest)) are too)
later exact profile system l more start (s ∷ ss) [] es rest stretches from go are too = absurd go
later exact profile system l more start (s ∷ ss) (t ∷ ts) es rest stretches from go (own, those, is, others, join)
    (own', those', is', others', join') =
    later_step exact profile system l more s t ss ts s.broken_at own own' those those' rest refl
    (λ next after after_too are.
    later exact profile system l more next ss ts those rest after after_too go.1 others are)
    stretches.1 stretches.2 from.1 from.2 go.0 is is' others others' (ap (λ (e : List Event). e ++ rest) (sym join)
    ∙ join')

-- the events that follow those of the front of a list come behind it
pub events_behind : IsExact → StretchesGoOn → (system : System) (profile : Profile) (l more : List ℕ)
    (es rest : List Event)
    → AreGathered system profile l es → AreGathered system profile (l ++ more) (es ++ rest)
    → All (IsFrom (length l) (sum l)) rest
events_behind exact go_on system profile l more es rest (ss, stretches, are) (ts, from, too) =
    subst (λ tick. All (IsFrom (length l) tick) rest) (ap sum (take-append_seam l more))
    (later exact profile system l more 0 ss ts es rest stretches from
    (go_on profile l more ss ts stretches from) are too)

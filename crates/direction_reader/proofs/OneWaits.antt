-- At most one word waits, since sync words in one direction are at least 16 cells apart. So all is told where none waits,
-- and else what comes before the one that does.
use Rattle.std.proofs.Common.{◌≡◌, ◌<◌, ◌≤◌, ◌⊎◌, ℕ, zero, suc, ◌+◌, ◌-◌, Bool, true, false, List, [], ◌∷◌, ◌++◌}
use Rattle.std.proofs.Common.{length, take, drop, map, inl, inr, ap, ap₂, sym, ◌∙◌, arith, refl, append_assoc, append-nil}
use Rattle.std.specs.List.{flat_map, range_with_len}
use Rattle.std.proofs.lemmas.Bool.{cases_lt}
use Rattle.std.proofs.lemmas.List.{length-drop, map-append}
use Rattle.biphase.specs.declared.cell.Cell.{Cell}
use Rattle.ltc_word.specs.Reversal.{reversed_bits, ends_in_sync}
use Rattle.tc_address.specs.declared.direction.Direction.TheVariants.{Forward, Backward}
use Rattle.tc_address.specs.declared.system.System.{System}
use Rattle.direction_reader.specs.declared.event.Event.{Event}
use Rattle.direction_reader.specs.declared.event.Event.TheVariants.{Word, Refused, Lost}
use Rattle.direction_reader.specs.declared.firm_event.FirmEvent.{FirmEvent}
use Rattle.direction_reader.specs.Candidate.{candidate_in, event_of}
use Rattle.direction_reader.specs.Events.{is_word, tick_of}
use Rattle.direction_reader.specs.Firm.{candidate_at, firm_candidate_at, firm_events_at, firm_events_of_cells}
use Rattle.direction_reader.specs.FirmKnown.{Known, Sure, Open, Sight, Judged, Beside, all_sure, closed, known}
use Rattle.direction_reader.specs.FirmKnown.{known_of_cells, sights_at, sights_from, sights_of, told_of, told_to}
use Rattle.direction_reader.specs.FirmTold.{IsWaiting, end_of_window}
use Rattle.direction_reader.specs.ListEvents.{bits_in, duration}
use Rattle.direction_reader.proofs.FirmTicks.{candidate_ticks, EndsAt}
use Rattle.direction_reader.proofs.KnownCells.{AreSure, closed_at, ends_append, ends_as, sights_join, sure_append}
use Rattle.direction_reader.proofs.KnownCells.{witness_old, witness_young}
use Rattle.direction_reader.proofs.KnownLists.{told_behind, to_behind}
use Rattle.direction_reader.proofs.KnownSteps.{open_word, sure_both, sure_judged}
use Rattle.direction_reader.proofs.SyncInTime.{WordLaws}
use Rattle.direction_reader.proofs.WindowCandidates.{apart, some_backward}
use Rattle.std.proofs.lemmas.List.Elements.{All-head}
use Rattle.std.proofs.Common.{subst, All}

-- ---- a window that does not wait

-- bits are one candidate, or none
one_at_most : (system : System) (bits end n : ℕ) (sync : Bool) → ends_in_sync bits ≡ sync
    → (candidate_in system Backward bits end n ≡ [])
    ⊎ ((e : Event) × (candidate_in system Backward bits end n ≡ e ∷ []))
one_at_most system bits end n true is = inr (event_of system Backward bits end n, rw is refl)
one_at_most system bits end n false is = inl (rw is refl)

some_or_none : (system : System) (tick : ℕ) (cells : List Cell) (k : ℕ)
    → (candidate_at system tick cells k Backward ≡ [])
    ⊎ ((e : Event) × (candidate_at system tick cells k Backward ≡ e ∷ []))
some_or_none system tick cells k =
    let window = take 80 (drop k cells) in
    let bits = reversed_bits (bits_in window) in
    one_at_most system bits (end_of_window tick cells k) (duration window) (ends_in_sync bits) refl

word_or_not : (b : Bool) → (b ≡ true) ⊎ (b ≡ false)
word_or_not true = inl refl
word_or_not false = inr refl

-- candidates of which all is known
abbrev AreKnown : List Sight → Type 0
AreKnown ss = AreSure ss (ends_as true ss)

known_append : (ss ts : List Sight) → AreKnown ss → AreKnown ts → AreKnown (ss ++ ts)
known_append ss ts one two =
    sure_both ss ts (ends_as true ss) (ends_as true ts) one two ∙ ap all_sure (sym (ends_append true ss ts))

judged_known : (fs : List FirmEvent) → AreKnown (map (λ (e : FirmEvent). Judged e) fs)
judged_known [] = refl
judged_known (f ∷ fs) = ap (λ (ks : List Known). Sure f ∷ ks) (judged_known fs)

-- all is known of a candidate that is no word
no_word : (e : Event) (behind : List Cell) → is_word e ≡ false → length behind < 16
    → known true (Beside e behind) ≡ Sure (closed (known true (Beside e behind)))
no_word (Word d w t n) behind other young = absurd cc
no_word (Refused d f t) behind other young = let none = witness_young behind young in rw none refl
no_word (Lost p t) behind other young = let none = witness_young behind young in rw none refl

beside_sure : (system : System) (tick : ℕ) (cells : List Cell) (k : ℕ) (e : Event) → k + 80 ≤ length cells
    → candidate_at system tick cells k Backward ≡ e ∷ [] → (IsWaiting system tick cells k → ⊥)
    → known true (Beside e (drop (k + 80) cells)) ≡ Sure (closed (known true (Beside e (drop (k + 80) cells))))
beside_sure system tick cells k e within there none =
    let behind = drop (k + 80) cells in
    let long = length-drop (k + 80) cells in
    elim (cases_lt (length behind) 16) [
      | inl young ↦ elim (word_or_not (is_word e)) [
        | inl word ↦ absurd (none (record {
          within = within;
          young = omega (arith, within, young, long);
          word = e;
          there = there;
          is = word;
        }))
        | inr other ↦ no_word e behind other young
      ]
      | inr old ↦ (let some = witness_old true behind old in rw some refl)
    ]

calm_at : (system : System) (tick : ℕ) (cells : List Cell) (k : ℕ) → k + 80 ≤ length cells
    → (IsWaiting system tick cells k → ⊥) → AreSure (sights_at system tick cells k) (firm_events_at system tick cells k)
unfolding sights_at
calm_at system tick cells k within none =
    let f = firm_candidate_at system tick cells k Forward in
    let js = map (λ (e : FirmEvent). Judged e) f in
    let behind = drop (k + 80) cells in
    let is : AreKnown (js ++ map (λ (e : Event). Beside e behind) (candidate_at system tick cells k Backward)) =
    elim (some_or_none system tick cells k) [
      | inl nothing ↦ subst (λ (es : List Event). AreKnown (js ++ map (λ (e : Event). Beside e behind) es)) (sym nothing)
          (known_append js [] (judged_known f) refl)
      | inr some ↦ subst (λ (es : List Event). AreKnown (js ++ map (λ (e : Event). Beside e behind) es)) (sym some.1)
          (known_append js (Beside some.0 behind ∷ []) (judged_known f)
          (ap (λ (k : Known). k ∷ []) (beside_sure system tick cells k some.0 within some.1 none)))
    ] in
    is ∙ ap all_sure (closed_at true system tick cells k)

calm_from : (system : System) (tick : ℕ) (cells : List Cell) (a n : ℕ)
    → ((k : ℕ) → a ≤ k → k < a + n → (k + 80 ≤ length cells) × (IsWaiting system tick cells k → ⊥))
    → AreSure (sights_from system tick cells a n) (flat_map (firm_events_at system tick cells) (range_with_len a n))
calm_from system tick cells a zero calm = refl
calm_from system tick cells a (suc n) calm =
    let here = calm a (omega arith) (omega arith) in
    sure_both (sights_at system tick cells a) (sights_from system tick cells (a + 1) n)
    (firm_events_at system tick cells a) (flat_map (firm_events_at system tick cells) (range_with_len (a + 1) n))
    (calm_at system tick cells a here.0 here.1)
    (calm_from system tick cells (a + 1) n (λ k low high. calm k (omega arith) (omega arith)))

-- ---- none waits, or one

pub none_waiting : (system : System) (tick now : ℕ) (cells : List Cell)
    → ((k : ℕ) → IsWaiting system tick cells k → ⊥)
    → (told_of (known_of_cells true system tick cells) ≡ firm_events_of_cells system tick cells)
    × (told_to now (known_of_cells true system tick cells) ≡ now)
none_waiting system tick now cells none =
    let events = firm_events_of_cells system tick cells in
    let is : known_of_cells true system tick cells ≡ all_sure events ++ [] =
    calm_from system tick cells 0 (length cells - 79) (λ k low high. (omega arith, none k))
    ∙ sym (append-nil (all_sure events)) in
    (ap told_of is ∙ told_behind events [] ∙ append-nil events, ap (told_to now) is ∙ to_behind now events [])

one_waiting : WordLaws → (system : System) (tick : ℕ) (cells : List Cell) (j k : ℕ) → IsWaiting system tick cells j
    → IsWaiting system tick cells k → j ≡ k
one_waiting laws system tick cells j k one two =
    let a = one.within in
    let b = one.young in
    let c = two.within in
    let d = two.young in
    let first = some_backward system tick cells j one.word [] one.there in
    let second = some_backward system tick cells k two.word [] two.there in
    elim (cases_lt j k) [
      | inl before ↦ absurd (apart laws cells j k before (omega arith) first second)
      | inr from ↦ elim (cases_lt k j) [
        | inl behind ↦ absurd (apart laws cells k j behind (omega arith) second first)
        | inr same ↦ omega arith
      ]
    ]

waiting_at : (system : System) (tick : ℕ) (cells : List Cell) (k : ℕ) (is : IsWaiting system tick cells k)
    → map (known true) (sights_at system tick cells k)
    ≡ all_sure (firm_candidate_at system tick cells k Forward) ++ Open is.word ∷ []
unfolding sights_at
waiting_at system tick cells k is =
    let f = firm_candidate_at system tick cells k Forward in
    let js = map (λ (e : FirmEvent). Judged e) f in
    let there = is.there in
    let within = is.within in
    let young = is.young in
    let behind = drop (k + 80) cells in
    ap (λ (es : List Event). map (known true) (js ++ map (λ (e : Event). Beside e behind) es)) there
    ∙ map-append (known true) js (Beside is.word behind ∷ [])
    ∙ ap₂ (λ (ks : List Known) (k : Known). ks ++ k ∷ []) (sure_judged f)
    (open_word is.word behind is.is (omega (arith, within, young, length-drop (k + 80) cells)))

pub one_waits : WordLaws → (system : System) (tick now : ℕ) (cells : List Cell) (k : ℕ) → IsWaiting system tick cells k
    → (told_of (known_of_cells true system tick cells)
    ≡ flat_map (firm_events_at system tick cells) (range_with_len 0 k) ++ firm_candidate_at system tick cells k Forward)
    × (told_to now (known_of_cells true system tick cells) ≡ end_of_window tick cells k)
one_waits laws system tick now cells k is =
    let within = is.within in
    let n = length cells - 80 - k in
    let count : length cells - 79 ≡ k + (1 + n) = omega (arith, within) in
    let zero_more : 0 + k ≡ k = omega arith in
    let front = flat_map (firm_events_at system tick cells) (range_with_len 0 k) in
    let f = firm_candidate_at system tick cells k Forward in
    let before = sights_from system tick cells 0 k in
    let here = sights_at system tick cells k in
    let later = map (known true) (sights_from system tick cells (k + 1) n) in
    let calm : AreSure before front = calm_from system tick cells 0 k (λ j low high. (
      omega (arith, within, high),
      λ other. (let same = one_waiting laws system tick cells j k other is in absurd (omega (arith, same, high))),
    )) in
    let split : sights_of system tick cells ≡ before ++ (here ++ sights_from system tick cells (k + 1) n) =
    ap (λ (m : ℕ). sights_from system tick cells 0 m) count ∙ sights_join system tick cells 0 k (1 + n)
    ∙ ap (λ (m : ℕ). before ++ sights_from system tick cells m (1 + n)) zero_more
    ∙ ap (λ (ss : List Sight). before ++ ss) (sights_join system tick cells k 1 n
    ∙ ap (λ (ss : List Sight). ss ++ sights_from system tick cells (k + 1) n) (append-nil here)) in
    let whole : known_of_cells true system tick cells ≡ all_sure (front ++ f) ++ Open is.word ∷ later =
    ap (map (known true)) split ∙ map-append (known true) before (here ++ sights_from system tick cells (k + 1) n)
    ∙ ap₂ (λ (ks ls : List Known). ks ++ ls) calm (map-append (known true) here
    (sights_from system tick cells (k + 1) n) ∙ ap (λ (ks : List Known). ks ++ later) (waiting_at system tick cells k is)
    ∙ append_assoc (all_sure f) (Open is.word ∷ []) later)
    ∙ sym (append_assoc (all_sure front) (all_sure f) (Open is.word ∷ later))
    ∙ ap (λ (ks : List Known). ks ++ Open is.word ∷ later) (sym (sure_append front f)) in
    let end : tick_of is.word ≡ end_of_window tick cells k = All-head (EndsAt (end_of_window tick cells k)) is.word []
    (subst (λ (es : List Event). All (EndsAt (end_of_window tick cells k)) es) is.there
    (candidate_ticks system tick cells k Backward)) in (
      ap told_of whole ∙ told_behind (front ++ f) (Open is.word ∷ later) ∙ append-nil (front ++ f),
      ap (told_to now) whole ∙ to_behind now (front ++ f) (Open is.word ∷ later) ∙ end,
    )

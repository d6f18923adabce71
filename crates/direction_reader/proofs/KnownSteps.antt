-- One cell more ends one window more, and each candidate before has one cell more behind it. So a word that waits waits
-- on, or is decided by its sixteen cells, and what comes in the meantime comes behind it, one event at most.
use Rattle.std.proofs.Common.{◌≡◌, ◌<◌, ◌≤◌, ◌⊎◌, ℕ, ◌+◌, ◌-◌, Bool, true, false, List, [], ◌∷◌, ◌++◌}
use Rattle.std.proofs.Common.{length, take, drop, map, Option, Some, None, inl, inr, ap, ap₂, sym, ◌∙◌}
use Rattle.std.proofs.Common.{arith, refl, append_assoc, append-nil, length-append}
use Rattle.std.specs.Prelude.{nat_lt, ◌==◌}
use Rattle.std.specs.Option.{option_map}
use Rattle.std.proofs.lemmas.Bool.{cases_lt}
use Rattle.std.proofs.lemmas.Grind.{common_steps}
use Rattle.std.proofs.lemmas.List.{drop-append-le, drop_all, length-drop, map-append}
use Rattle.biphase.specs.declared.cell.Cell.{Cell}
use Rattle.ltc_word.specs.SyncLemmas.{in_sync_or_not}
use Rattle.tc_address.specs.declared.direction.Direction.TheVariants.{Forward, Backward}
use Rattle.tc_address.specs.declared.system.System.{System}
use Rattle.direction_reader.specs.declared.event.Event.{Event}
use Rattle.direction_reader.specs.declared.event.Event.TheVariants.{Word, Refused, Lost}
use Rattle.direction_reader.specs.declared.firm_event.FirmEvent.{FirmEvent}
use Rattle.direction_reader.specs.declared.firm_event.FirmEvent.TheVariants.{Told}
use Rattle.direction_reader.specs.declared.waiting.Waiting.{Waiting}
use Rattle.direction_reader.specs.Events.{is_word, listed}
use Rattle.direction_reader.specs.Firm.{judged, candidate_at, firm_candidate_at, firm_events_of_cells, sync_in_time}
use Rattle.direction_reader.specs.FirmKnown.{Known, Sure, Open, Sight, Judged, Beside, all_sure, closed, known}
use Rattle.direction_reader.specs.FirmKnown.{known_by, known_of_cells, sights_at, sights_from, sights_of}
use Rattle.direction_reader.specs.FirmStandsFor.{OneWaits, WaitsFor}
use Rattle.direction_reader.specs.FirmStep.{firm_listed, firm_list, heard, began, ended, or_else, nothing_told}
use Rattle.direction_reader.specs.ListEvents.{bits_in}
use Rattle.direction_reader.proofs.FirmWindows.{candidate_stays, taken_stays}
use Rattle.direction_reader.proofs.KnownCells.{AreSure, closed_cells, extended, sights_more, sure_append, sure_stay}
use Rattle.direction_reader.proofs.KnownCells.{witness_old, witness_young}
use Rattle.direction_reader.proofs.KnownLists.{closed_sure}
use Rattle.direction_reader.proofs.SyncInTime.{WordLaws}
use Rattle.direction_reader.proofs.WindowCandidates.{IsForward, alone_behind, forward_apart, no_forward, some_backward}

abbrev pub More : List Cell → Cell → List Cell
More cells cell = cells ++ cell ∷ []

-- ---- the window that ends with the cell

-- what is found of it
pub record AreFound (system : System) (tick : ℕ) (cells : List Cell) (cell : Cell) (forward : Option FirmEvent)
    (backward : Option Event)
    : Type 0 where
  pub forward_is : 79 ≤ length cells → firm_listed forward ≡ firm_candidate_at system tick (More cells cell) (length
      cells - 79) Forward
  pub backward_is : 79 ≤ length cells → listed backward ≡ candidate_at system tick (More cells cell) (length cells -
      79) Backward
  pub no_forward_yet : length cells < 79 → forward ≡ None
  pub no_backward_yet : length cells < 79 → backward ≡ None

-- the forward candidate, as it is judged
pub forward_listed : (firm : Bool) (o : Option Event)
    → firm_listed (option_map (judged firm) o) ≡ map (judged firm) (listed o)
forward_listed firm None = refl
forward_listed firm (Some event) = refl

-- its candidates, with nothing behind them yet
abbrev begun_of : Option Event → List Sight
begun_of o = map (λ (e : Event). Beside e []) (listed o)

last_window : (system : System) (tick : ℕ) (cells : List Cell) (cell : Cell) (forward : Option FirmEvent)
    (backward : Option Event) → AreFound system tick cells cell forward backward → 79 ≤ length cells
    → sights_of system tick (More cells cell) ≡ map (extended (cell ∷ [])) (sights_of system tick cells)
    ++ (map (λ (e : FirmEvent). Judged e) (firm_listed forward) ++ begun_of backward)
unfolding sights_at
last_window system tick cells cell forward backward found many =
    let all = More cells cell in
    let long = length-append cells (cell ∷ []) in
    let k = length cells - 79 in
    let one : (length all - 79) - k ≡ 1 = omega (arith, long, many) in
    let none : drop (k + 80) all ≡ [] = drop_all (k + 80) all (omega (arith, long, many)) in
    let own : sights_from system tick all k 1
    ≡ map (λ (e : FirmEvent). Judged e) (firm_listed forward) ++ begun_of backward =
    append-nil (sights_at system tick all k)
    ∙ ap (λ (cs : List Cell). map (λ (e : FirmEvent). Judged e) (firm_candidate_at system tick all k Forward)
    ++ map (λ (e : Event). Beside e cs) (candidate_at system tick all k Backward)) none
    ∙ sym (ap₂ (λ (fs : List FirmEvent) (es : List Event). map (λ (e : FirmEvent). Judged e) fs
    ++ map (λ (e : Event). Beside e []) es) (found.forward_is many) (found.backward_is many)) in
    sights_more system tick cells (cell ∷ [])
    ∙ ap (λ (n : ℕ). map (extended (cell ∷ [])) (sights_of system tick cells) ++ sights_from system tick all k n) one
    ∙ ap (λ (ss : List Sight). map (extended (cell ∷ [])) (sights_of system tick cells) ++ ss) own

-- ---- what is known of candidates

pub sure_both : (ss ts : List Sight) (es fs : List FirmEvent) → AreSure ss es → AreSure ts fs
    → AreSure (ss ++ ts) (es ++ fs)
sure_both ss ts es fs one two =
    map-append (known true) ss ts ∙ ap₂ (λ (ks ls : List Known). ks ++ ls) one two ∙ sym (sure_append es fs)

pub sure_judged : (fs : List FirmEvent) → AreSure (map (λ (e : FirmEvent). Judged e) fs) fs
sure_judged [] = refl
sure_judged (f ∷ fs) = ap (λ (ks : List Known). Sure f ∷ ks) (sure_judged fs)

-- with one cell more, and with the window that ends with it
sure_then : (cell : Cell) (front : List Sight) (told fs : List FirmEvent) → AreSure front told
    → AreSure (map (extended (cell ∷ [])) front ++ map (λ (e : FirmEvent). Judged e) fs) (told ++ fs)
sure_then cell front told fs sure =
    sure_both (map (extended (cell ∷ [])) front) (map (λ (e : FirmEvent). Judged e) fs) told fs
    (sure_stay (cell ∷ []) front told sure) (sure_judged fs)

-- a candidate that needs no witness is told
told_now : (system : System) (tick : ℕ) (cells : List Cell) (told pair : List FirmEvent) (e : Event)
    (front : List Sight) → sights_of system tick cells ≡ front ++ Beside e [] ∷ [] → known_by None e ≡ Sure (Told e)
    → AreSure front (told ++ pair) → WaitsFor None system tick cells (told ++ (pair ++ Told e ∷ []))
told_now system tick cells told pair e front are is sure = record {
  front = front ++ Beside e [] ∷ [];
  sure = sure_both front (Beside e [] ∷ []) (told ++ pair) (Told e ∷ []) sure (ap (λ (k : Known). k ∷ []) is)
      ∙ ap all_sure (append_assoc told pair (Told e ∷ []));
  before = are;
}

-- a word that is read backward waits, and all else is told
began_waits : (system : System) (tick : ℕ) (cells : List Cell) (k : ℕ) (told : List FirmEvent)
    (first second : Option FirmEvent) (backward : Option Event) (front : List Sight) → length cells ≡ k + 80
    → listed backward ≡ candidate_at system tick cells k Backward
    → sights_of system tick cells ≡ front ++ begun_of backward
    → AreSure front (told ++ (firm_listed first ++ firm_listed second))
    → WaitsFor (began first second backward).waiting system tick cells
    (told ++ firm_list (began first second backward).told)
began_waits system tick cells k told first second None front count found are sure =
    let pair = firm_listed first ++ firm_listed second in
    record {
      front = front;
      sure = sure ∙ ap (λ (es : List FirmEvent). all_sure (told ++ es)) (sym (append-nil pair));
      before = are ∙ append-nil front;
    }
began_waits system tick cells k told first second (Some (Word d w t n)) front count found are sure =
    let pair = firm_listed first ++ firm_listed second in
    let none : drop (k + 80) cells ≡ [] = drop_all (k + 80) cells (omega (arith, count)) in
    record {
      front = front;
      sure = sure ∙ ap (λ (es : List FirmEvent). all_sure (told ++ es)) (sym (append-nil pair));
      before = record {
        place = k;
        age = omega arith;
        young = omega arith;
        word = sym found;
        is = refl;
        rest = [];
        are = are ∙ ap (λ (cs : List Cell). front ++ Beside (Word d w t n) cs ∷ []) (sym none);
        sure = refl;
        behind = inl refl;
      };
    }
began_waits system tick cells k told first second (Some (Refused d f t)) front count found are sure =
    told_now system tick cells told (firm_listed first ++ firm_listed second) (Refused d f t) front are refl sure
began_waits system tick cells k told first second (Some (Lost p t)) front count found are sure =
    told_now system tick cells told (firm_listed first ++ firm_listed second) (Lost p t) front are refl sure

-- ---- one cell more, if none waits

none_heard : (system : System) (tick : ℕ) (cells : List Cell) (cell : Cell) (told : List FirmEvent)
    (sync : Bool) (forward : Option FirmEvent) (backward : Option Event)
    → AreFound system tick cells cell forward backward → WaitsFor None system tick cells told
    → WaitsFor (heard None sync forward backward).waiting system tick (More cells cell)
    (told ++ firm_list (heard None sync forward backward).told)
none_heard system tick cells cell told sync forward backward found waits = elim (cases_lt (length cells) 79) [
  | inl early ↦ (
      let long = length-append cells (cell ∷ []) in
      let no_forward_is = found.no_forward_yet early in
      let no_backward_is = found.no_backward_yet early in
      let zero_now : length (More cells cell) - 79 ≡ 0 = omega (arith, long, early) in
      let zero_before : length cells - 79 ≡ 0 = omega (arith, early) in
      let is : WaitsFor None system tick (More cells cell) (told ++ firm_list nothing_told) = record {
        front = waits.front;
        sure = waits.sure ∙ ap all_sure (sym (append-nil told));
        before = ap (λ (n : ℕ). sights_from system tick (More cells cell) 0 n) zero_now
            ∙ ap (λ (n : ℕ). sights_from system tick cells 0 n) (sym zero_before) ∙ waits.before;
      } in
      rw (no_forward_is, no_backward_is) is)
  | inr many ↦ (
      let long = length-append cells (cell ∷ []) in
      let f = firm_listed forward in
      let front = map (extended (cell ∷ [])) waits.front in
      let is = last_window system tick cells cell forward backward found many
      ∙ ap (λ (ss : List Sight). map (extended (cell ∷ [])) ss
      ++ (map (λ (e : FirmEvent). Judged e) f ++ begun_of backward)) waits.before
      ∙ sym (append_assoc front (map (λ (e : FirmEvent). Judged e) f) (begun_of backward)) in
      began_waits system tick (More cells cell) (length cells - 79) told None forward backward
      (front ++ map (λ (e : FirmEvent). Judged e) f) (omega (arith, long, many)) (found.backward_is many) is
      (sure_then cell waits.front told f waits.sure))
]

-- ---- one cell more, if a word waits

-- of two that may be there, one is not
one_of_two : (a b : Option FirmEvent) → (firm_listed a ≡ []) ⊎ (firm_listed b ≡ [])
    → firm_listed (or_else a b) ≡ firm_listed a ++ firm_listed b
one_of_two None b either = refl
one_of_two (Some e) None either = refl
one_of_two (Some e) (Some f) (inl none) = absurd cc
one_of_two (Some e) (Some f) (inr none) = absurd cc

-- a window that was there is the same candidate still
forward_still : (cells : List Cell) (cell : Cell) (j : ℕ) → j + 80 ≤ length cells → IsForward cells j
    → IsForward (More cells cell) j
forward_still cells cell j within is =
    let same = taken_stays 80 j cells (cell ∷ []) (omega (arith, within)) in
    rw same is

-- behind a word at most one forward candidate comes
abbrev IsBehind : List Cell → ℕ → Option FirmEvent → Type 0
IsBehind cells place b = (firm_listed b ≡ []) ⊎ ((j : ℕ) × (place < j) × (j + 80 ≤ length cells) × IsForward cells j)

one_behind : (system : System) (tick : ℕ) (cells : List Cell) (cell : Cell) (place : ℕ) (b forward : Option FirmEvent)
    → 79 ≤ length cells → length cells ≤ place + 95
    → firm_listed forward ≡ firm_candidate_at system tick (More cells cell) (length cells - 79) Forward
    → IsBehind cells place b → (firm_listed b ≡ []) ⊎ (firm_listed forward ≡ [])
one_behind system tick cells cell place b forward many near is (inl none) = inl none
one_behind system tick cells cell place b forward many near is (inr (j, low, within, there)) =
    let all = More cells cell in
    let k = length cells - 79 in
    elim (in_sync_or_not (bits_in (take 80 (drop k all)))) [
      | inl sync ↦ absurd (forward_apart all j k (omega (arith, within, many)) (omega (arith, near, low, many))
          (forward_still cells cell j within there) sync)
      | inr none ↦ inr (is ∙ (let no = no_forward system tick all k none in rw no refl))
    ]

more_behind : (system : System) (tick : ℕ) (cells : List Cell) (cell : Cell) (place : ℕ) (b forward : Option FirmEvent)
    → 79 ≤ length cells → place + 79 < length cells
    → firm_listed forward ≡ firm_candidate_at system tick (More cells cell) (length cells - 79) Forward
    → firm_listed (or_else b forward) ≡ firm_listed b ++ firm_listed forward
    → IsBehind cells place b → IsBehind (More cells cell) place (or_else b forward)
more_behind system tick cells cell place b forward many far is joined (inr (j, low, within, there)) = inr (
  j,
  low,
  omega (arith, within, length-append cells (cell ∷ [])),
  forward_still cells cell j within there,
)
more_behind system tick cells cell place b forward many far is joined (inl none) =
    let all = More cells cell in
    let k = length cells - 79 in
    elim (in_sync_or_not (bits_in (take 80 (drop k all)))) [
      | inl sync ↦ inr (k, omega (arith, far), omega (arith, many, length-append cells (cell ∷ [])), sync)
      | inr other ↦ inl (joined ∙ ap₂ (λ (es fs : List FirmEvent). es ++ fs) none
          (is ∙ (let nothing = no_forward system tick all k other in rw nothing refl)))
    ]

-- all windows, with the word and what comes behind it
waits_more : (system : System) (tick : ℕ) (cells : List Cell) (cell : Cell) (w : Waiting) (front : List Sight)
    (waits : OneWaits w system tick cells front) (forward : Option FirmEvent) (backward : Option Event)
    → AreFound system tick cells cell forward backward
    → sights_of system tick (More cells cell) ≡ map (extended (cell ∷ [])) front
    ++ Beside w.word (drop (waits.place + 80) (More cells cell)) ∷ ((map (extended (cell ∷ [])) waits.rest
    ++ map (λ (e : FirmEvent). Judged e) (firm_listed forward)) ++ begun_of backward)
waits_more system tick cells cell w front waits forward backward found =
    let more = cell ∷ [] in
    let p = waits.place in
    let age = waits.age in
    let many : 79 ≤ length cells = omega (arith, age) in
    let e = extended more in
    let js = map (λ (e : FirmEvent). Judged e) (firm_listed forward) in
    let last = js ++ begun_of backward in
    let behind : drop (p + 80) (cells ++ more) ≡ drop (p + 80) cells ++ more =
    drop-append-le (p + 80) cells more (omega (arith, age)) in
    let one : List Sight = Beside w.word (drop (p + 80) cells ++ more) ∷ map e waits.rest in
    last_window system tick cells cell forward backward found many
    ∙ ap (λ (ss : List Sight). map e ss ++ last) waits.are
    ∙ ap (λ (ss : List Sight). ss ++ last) (map-append e front (Beside w.word (drop (p + 80) cells) ∷ waits.rest))
    ∙ append_assoc (map e front) one last
    ∙ ap (λ (ss : List Sight). map e front ++ Beside w.word (drop (p + 80) cells ++ more) ∷ ss)
    (sym (append_assoc (map e waits.rest) js (begun_of backward)))
    ∙ ap (λ (cs : List Cell). map e front ++ Beside w.word cs ∷ ((map e waits.rest ++ js) ++ begun_of backward))
    (sym behind)

-- it waits on
waits_on : WordLaws → (system : System) (tick : ℕ) (cells : List Cell) (cell : Cell) (w : Waiting)
    (told : List FirmEvent) (forward : Option FirmEvent) (backward : Option Event)
    → AreFound system tick cells cell forward backward → w.age < 15 → WaitsFor (Some w) system tick cells told
    → firm_listed (or_else w.behind forward) ≡ firm_listed w.behind ++ firm_listed forward
    → WaitsFor (Some (record { word = w.word; age = w.age + 1; behind = or_else w.behind forward })) system tick
    (More cells cell) (told ++ firm_list nothing_told)
waits_on laws system tick cells cell w told forward backward found young kept joined =
    let all = More cells cell in
    let waits = kept.before in
    let p = waits.place in
    let age = waits.age in
    let long = length-append cells (cell ∷ []) in
    let many : 79 ≤ length cells = omega (arith, age) in
    let k = length cells - 79 in
    let word : candidate_at system tick all p Backward ≡ w.word ∷ [] =
    candidate_stays system tick cells (cell ∷ []) p Backward (omega (arith, age)) ∙ waits.word in
    let alone : listed backward ≡ [] =
    found.backward_is many ∙ alone_behind laws system tick all p k (omega (arith, age)) (omega (arith, age, young))
    (some_backward system tick all p w.word [] word) in
    let front = map (extended (cell ∷ [])) kept.front in
    let rest = map (extended (cell ∷ [])) waits.rest ++ map (λ (e : FirmEvent). Judged e) (firm_listed forward) in
    let here = Beside w.word (drop (p + 80) all) in
    record {
      front = front;
      sure = sure_stay (cell ∷ []) kept.front told kept.sure ∙ ap all_sure (sym (append-nil told));
      before = record {
        place = p;
        age = omega (arith, age, long);
        young = omega (arith, young);
        word = word;
        is = waits.is;
        rest = rest;
        are = waits_more system tick cells cell w kept.front waits forward backward found
            ∙ ap (λ (es : List Event). front ++ here ∷ (rest ++ map (λ (e : Event). Beside e []) es)) alone
            ∙ ap (λ (ss : List Sight). front ++ here ∷ ss) (append-nil rest);
        sure = sure_then cell waits.rest (firm_listed w.behind) (firm_listed forward) waits.sure
            ∙ ap all_sure (sym joined);
        behind = more_behind system tick cells cell p w.behind forward many (omega (arith, age)) (found.forward_is many)
            joined waits.behind;
      };
    }

-- its sixteen cells are there
decides : (system : System) (tick : ℕ) (cells : List Cell) (cell : Cell) (w : Waiting)
    (told : List FirmEvent) (sync : Bool) (forward : Option FirmEvent) (backward : Option Event)
    → AreFound system tick cells cell forward backward
    → (95 ≤ length cells → sync ≡ (bits_in (take 16 (drop (length cells - 15) (More cells cell))) == sync_in_time
    Backward))
    → w.age ≡ 15 → WaitsFor (Some w) system tick cells told
    → firm_listed (or_else w.behind forward) ≡ firm_listed w.behind ++ firm_listed forward
    → WaitsFor (began (Some (judged sync w.word)) (or_else w.behind forward) backward).waiting system tick
    (More cells cell) (told ++ firm_list (began (Some (judged sync w.word)) (or_else w.behind forward) backward).told)
decides system tick cells cell w told sync forward backward found sync_is old kept joined =
    let all = More cells cell in
    let waits = kept.before in
    let p = waits.place in
    let age = waits.age in
    let long = length-append cells (cell ∷ []) in
    let many : 79 ≤ length cells = omega (arith, age) in
    let there : length cells - 15 ≡ p + 80 = omega (arith, age, old) in
    let f = firm_listed forward in
    let b = firm_listed w.behind in
    let v = judged sync w.word in
    let front = map (extended (cell ∷ [])) kept.front in
    let rest = map (extended (cell ∷ [])) waits.rest ++ map (λ (e : FirmEvent). Judged e) f in
    let here = Beside w.word (drop (p + 80) all) in
    let decided : AreSure (here ∷ []) (v ∷ []) =
    ap (λ (o : Option Bool). known_by o w.word ∷ []) (witness_old true (drop (p + 80) all)
    (omega (arith, age, old, long, length-drop (p + 80) all))
    ∙ ap (λ (m : ℕ). Some (bits_in (take 16 (drop m all)) == sync_in_time Backward)) (sym there)
    ∙ ap (λ (x : Bool). Some x) (sym (sync_is (omega (arith, age, old))))) in
    let sure : AreSure (front ++ (here ∷ [] ++ rest)) (told ++ (v ∷ [] ++ (b ++ f))) =
    sure_both front (here ∷ [] ++ rest) told (v ∷ [] ++ (b ++ f)) (sure_stay (cell ∷ []) kept.front told kept.sure)
    (sure_both (here ∷ []) rest (v ∷ []) (b ++ f) decided (sure_then cell waits.rest b f waits.sure)) in
    began_waits system tick all (length cells - 79) told (Some v) (or_else w.behind forward) backward
    (front ++ here ∷ rest) (omega (arith, long, many)) (found.backward_is many)
    (waits_more system tick cells cell w kept.front waits forward backward found
    ∙ sym (append_assoc front (here ∷ rest) (begun_of backward)))
    (sure ∙ ap (λ (es : List FirmEvent). all_sure (told ++ v ∷ es)) (sym joined))

one_heard : WordLaws → (system : System) (tick : ℕ) (cells : List Cell) (cell : Cell) (w : Waiting)
    (told : List FirmEvent) (sync : Bool) (forward : Option FirmEvent) (backward : Option Event)
    → AreFound system tick cells cell forward backward
    → (95 ≤ length cells → sync ≡ (bits_in (take 16 (drop (length cells - 15) (More cells cell))) == sync_in_time
    Backward))
    → WaitsFor (Some w) system tick cells told
    → WaitsFor (heard (Some w) sync forward backward).waiting system tick (More cells cell)
    (told ++ firm_list (heard (Some w) sync forward backward).told)
one_heard laws system tick cells cell w told sync forward backward found sync_is kept =
    let waits = kept.before in
    let age = waits.age in
    let young = waits.young in
    let many : 79 ≤ length cells = omega (arith, age) in
    let joined = one_of_two w.behind forward (one_behind system tick cells cell waits.place w.behind forward many
    (omega (arith, age, young)) (found.forward_is many) waits.behind) in
    elim (cases_lt w.age 15) [
      | inl less ↦ (
          let test : nat_lt w.age 15 ≡ true = grind (arith, common_steps) in
          let is = waits_on laws system tick cells cell w told forward backward found less kept joined in
          rw test is)
      | inr last ↦ (
          let test : nat_lt w.age 15 ≡ false = grind (arith, common_steps) in
          let is = decides system tick cells cell w told sync forward backward found sync_is
          (omega (arith, last, young)) kept joined in
          rw test is)
    ]

pub heard_stands : WordLaws → (system : System) (tick : ℕ) (cells : List Cell) (cell : Cell) (waits : Option Waiting)
    (told : List FirmEvent) (sync : Bool) (forward : Option FirmEvent) (backward : Option Event)
    → AreFound system tick cells cell forward backward
    → (95 ≤ length cells → sync ≡ (bits_in (take 16 (drop (length cells - 15) (More cells cell))) == sync_in_time
    Backward))
    → WaitsFor waits system tick cells told
    → WaitsFor (heard waits sync forward backward).waiting system tick (More cells cell)
    (told ++ firm_list (heard waits sync forward backward).told)
heard_stands laws system tick cells cell None told sync forward backward found sync_is waits =
    none_heard system tick cells cell told sync forward backward found waits
heard_stands laws system tick cells cell (Some w) told sync forward backward found sync_is waits =
    one_heard laws system tick cells cell w told sync forward backward found sync_is waits

-- ---- what is known of the cells

-- a word that waits, and what comes behind it
abbrev pub pending : Option Waiting → List Known
pending None = []
pending (Some w) = Open w.word ∷ all_sure (firm_listed w.behind)

pub open_word : (w : Event) (behind : List Cell) → is_word w ≡ true → length behind < 16
    → known true (Beside w behind) ≡ Open w
open_word (Word d w t n) behind is young = let none = witness_young behind young in rw none refl
open_word (Refused d f t) behind is young = absurd cc
open_word (Lost p t) behind is young = absurd cc

pub known_is : (system : System) (tick : ℕ) (cells : List Cell) (told : List FirmEvent) (waits : Option Waiting)
    → WaitsFor waits system tick cells told → known_of_cells true system tick cells ≡ all_sure told ++ pending waits
known_is system tick cells told None kept =
    ap (map (known true)) kept.before ∙ kept.sure ∙ sym (append-nil (all_sure told))
known_is system tick cells told (Some w) kept =
    let waits = kept.before in
    let age = waits.age in
    let young = waits.young in
    let behind = drop (waits.place + 80) cells in
    ap (map (known true)) waits.are ∙ map-append (known true) kept.front (Beside w.word behind ∷ waits.rest)
    ∙ ap₂ (λ (ks ls : List Known). ks ++ ls) kept.sure
    (ap₂ (λ (k : Known) (ks : List Known). k ∷ ks) (open_word w.word behind waits.is
    (omega (arith, age, young, length-drop (waits.place + 80) cells))) waits.sure)

closed_pending : (waits : Option Waiting) → map closed (pending waits) ≡ firm_list (ended waits)
closed_pending None = refl
closed_pending (Some w) =
    let b = firm_listed w.behind in
    ap (λ (es : List FirmEvent). Told w.word ∷ es) (closed_sure b ∙ sym (append-nil b))

pub ended_is : (told : List FirmEvent) (waits : Option Waiting)
    → map closed (all_sure told ++ pending waits) ≡ told ++ firm_list (ended waits)
ended_is told waits =
    map-append closed (all_sure told) (pending waits)
    ∙ ap₂ (λ (es fs : List FirmEvent). es ++ fs) (closed_sure told) (closed_pending waits)

-- a word that waits is at the edge of its stretch
pub end_stands : (system : System) (tick : ℕ) (cells : List Cell) (told : List FirmEvent) (waits : Option Waiting)
    → WaitsFor waits system tick cells told → told ++ firm_list (ended waits) ≡ firm_events_of_cells system tick cells
end_stands system tick cells told waits stands =
    sym (ended_is told waits) ∙ ap (map closed) (sym (known_is system tick cells told waits stands))
    ∙ closed_cells true system tick cells

-- The candidates of cells stay where more cells follow, with more cells behind them; and those of cells that end there
-- are their events.
use Rattle.std.proofs.Common.{◌≡◌, ◌<◌, ◌≤◌, ℕ, zero, suc, ◌+◌, ◌-◌, Bool, true, false, List, [], ◌∷◌, ◌++◌}
use Rattle.std.proofs.Common.{length, take, drop, map, Option, Some, None, inl, inr, ap, ap₂, sym, ◌∙◌}
use Rattle.std.proofs.Common.{arith, refl, append_assoc, length-append}
use Rattle.std.specs.Prelude.{nat_lt, ◌==◌, if◌then◌else◌}
use Rattle.std.specs.List.{flat_map, range_with_len}
use Rattle.std.proofs.lemmas.Bool.{cases_lt}
use Rattle.std.proofs.lemmas.Grind.{common_steps}
use Rattle.std.proofs.lemmas.List.{drop-append-le, length-drop, map-append, take-append-le}
use Rattle.biphase.specs.declared.cell.Cell.{Cell}
use Rattle.tc_address.specs.declared.direction.Direction.TheVariants.{Forward, Backward}
use Rattle.tc_address.specs.declared.system.System.{System}
use Rattle.direction_reader.specs.declared.event.Event.{Event}
use Rattle.direction_reader.specs.declared.event.Event.TheVariants.{Word, Refused, Lost}
use Rattle.direction_reader.specs.declared.firm_event.FirmEvent.{FirmEvent}
use Rattle.direction_reader.specs.Firm.{is_firm, judged, candidate_at, firm_candidate_at, firm_events_at, sync_in_time}
use Rattle.direction_reader.specs.Firm.{firm_events_of_cells}
use Rattle.direction_reader.specs.FirmKnown.{Known, Sure, Open, Sight, Judged, Beside, all_sure, closed, known}
use Rattle.direction_reader.specs.FirmKnown.{known_by, known_of_cells, sights_at, sights_from, sights_of, witness_in}
use Rattle.direction_reader.specs.ListEvents.{bits_in}
use Rattle.direction_reader.proofs.FirmTicks.{judged_tick}
use Rattle.direction_reader.proofs.FirmWindows.{candidate_stays, forward_stays}
use Rattle.direction_reader.proofs.KnownLists.{Becomes, GrowKnown}

-- ---- more cells

-- a candidate with more cells behind it
abbrev pub extended : List Cell → Sight → Sight
extended more (Judged e) = Judged e
extended more (Beside e behind) = Beside e (behind ++ more)

judged_stay : (more : List Cell) (fs : List FirmEvent)
    → map (extended more) (map (λ (e : FirmEvent). Judged e) fs) ≡ map (λ (e : FirmEvent). Judged e) fs
judged_stay more [] = refl
judged_stay more (f ∷ fs) = ap (λ (ss : List Sight). Judged f ∷ ss) (judged_stay more fs)

beside_more : (more behind : List Cell) (es : List Event)
    → map (extended more) (map (λ (e : Event). Beside e behind) es) ≡ map (λ (e : Event). Beside e (behind ++ more)) es
beside_more more behind [] = refl
beside_more more behind (e ∷ es) = ap (λ (ss : List Sight). Beside e (behind ++ more) ∷ ss) (beside_more more behind es)

at_more : (system : System) (tick : ℕ) (cells more : List Cell) (k : ℕ) → k + 80 ≤ length cells
    → sights_at system tick (cells ++ more) k ≡ map (extended more) (sights_at system tick cells k)
unfolding sights_at
at_more system tick cells more k within =
    let f = firm_candidate_at system tick cells k Forward in
    let es = candidate_at system tick cells k Backward in
    let behind = drop (k + 80) cells in
    let front = forward_stays system tick cells more k within in
    let back = candidate_stays system tick cells more k Backward within in
    let rest : drop (k + 80) (cells ++ more) ≡ behind ++ more = drop-append-le (k + 80) cells more within in
    let all : sights_at system tick (cells ++ more) k
    ≡ map (λ (e : FirmEvent). Judged e) f ++ map (λ (e : Event). Beside e (behind ++ more)) es =
    rw (front, back, rest) refl in
    all ∙ sym (map-append (extended more) (map (λ (e : FirmEvent). Judged e) f)
    (map (λ (e : Event). Beside e behind) es)
    ∙ ap₂ (λ (a b : List Sight). a ++ b) (judged_stay more f) (beside_more more behind es))

from_more : (system : System) (tick : ℕ) (cells more : List Cell) (a n : ℕ) → a + n + 79 ≤ length cells
    → sights_from system tick (cells ++ more) a n ≡ map (extended more) (sights_from system tick cells a n)
from_more system tick cells more a zero within = refl
from_more system tick cells more a (suc n) within =
    ap₂ (λ (ss ts : List Sight). ss ++ ts) (at_more system tick cells more a (omega arith))
    (from_more system tick cells more (a + 1) n (omega arith))
    ∙ sym (map-append (extended more) (sights_at system tick cells a) (sights_from system tick cells (a + 1) n))

pub sights_join : (system : System) (tick : ℕ) (cells : List Cell) (a n m : ℕ)
    → sights_from system tick cells a (n + m)
    ≡ sights_from system tick cells a n ++ sights_from system tick cells (a + n) m
sights_join system tick cells a zero m =
    let e : zero + m ≡ m = omega arith in let f : a + zero ≡ a = omega arith in rw (e, f) refl
sights_join system tick cells a (suc n) m =
    let e : suc n + m ≡ suc (n + m) = omega arith in
    let f : a + suc n ≡ a + 1 + n = omega arith in
    let here = sights_at system tick cells a in
    rw (e, f) (ap (λ (ss : List Sight). here ++ ss) (sights_join system tick cells (a + 1) n m)
    ∙ sym (append_assoc here (sights_from system tick cells (a + 1) n)
    (sights_from system tick cells (a + 1 + n) m)))

-- those of all cells: before the first window is full there are none
few_more : (system : System) (tick : ℕ) (cells more : List Cell) (n : ℕ) → n ≡ length cells - 79
    → sights_from system tick (cells ++ more) 0 n ≡ map (extended more) (sights_from system tick cells 0 n)
few_more system tick cells more zero is = refl
few_more system tick cells more (suc n) is = from_more system tick cells more 0 (suc n) (omega (arith, is))

pub sights_more : (system : System) (tick : ℕ) (cells more : List Cell)
    → sights_of system tick (cells ++ more) ≡ map (extended more) (sights_of system tick cells)
    ++ sights_from system tick (cells ++ more) (length cells - 79) ((length (cells ++ more) - 79) - (length cells - 79))
sights_more system tick cells more =
    let all = cells ++ more in
    let a = length cells - 79 in
    let n = (length all - 79) - a in
    let count : length all - 79 ≡ a + n = omega (arith, length-append cells more) in
    let zero_more : 0 + a ≡ a = omega arith in
    ap (λ (m : ℕ). sights_from system tick all 0 m) count ∙ sights_join system tick all 0 a n
    ∙ ap₂ (λ (ss : List Sight) (m : ℕ). ss ++ sights_from system tick all m n) (few_more system tick cells more a refl)
    zero_more

-- ---- what is known of a candidate

pub witness_young : (behind : List Cell) → length behind < 16 → witness_in true behind ≡ None
witness_young behind young = let test : nat_lt (length behind) 16 ≡ true = grind (arith, common_steps) in rw test refl

pub witness_old : (goes_on : Bool) (behind : List Cell) → 16 ≤ length behind
    → witness_in goes_on behind ≡ Some (bits_in (take 16 behind) == sync_in_time Backward)
witness_old goes_on behind old =
    let test : nat_lt (length behind) 16 ≡ false = grind (arith, common_steps) in rw test refl

becomes_none : (o : Option Bool) (e : Event) → Becomes (known_by None e) (known_by o e)
becomes_none None (Word d w t n) = refl
becomes_none (Some b) (Word d w t n) = judged_tick b (Word d w t n)
becomes_none None (Refused d f t) = refl
becomes_none (Some b) (Refused d f t) = refl
becomes_none None (Lost p t) = refl
becomes_none (Some b) (Lost p t) = refl

sight_grows : (goes_on : Bool) (more : List Cell) (s : Sight) → Becomes (known true s) (known goes_on (extended more s))
sight_grows goes_on more (Judged e) = refl
sight_grows goes_on more (Beside e behind) = elim (cases_lt (length behind) 16) [
  | inl young ↦ (let one = witness_young behind young in
      rw one (becomes_none (witness_in goes_on (behind ++ more)) e))
  | inr old ↦ (
      let one = witness_old true behind old in
      let two = witness_old goes_on (behind ++ more) (omega (arith, old, length-append behind more)) in
      let same : take 16 (behind ++ more) ≡ take 16 behind = take-append-le 16 behind more old in
      rw (one, two, same) refl)
]

pub sights_grow : (goes_on : Bool) (more : List Cell) (ss : List Sight) (later : List Known)
    → GrowKnown (map (known true) ss) (map (known goes_on) (map (extended more) ss) ++ later)
sights_grow goes_on more [] later = tt
sights_grow goes_on more (s ∷ ss) later = (sight_grows goes_on more s, sights_grow goes_on more ss later)

pub cells_grow : (goes_on : Bool) (system : System) (tick : ℕ) (cells more : List Cell)
    → GrowKnown (known_of_cells true system tick cells) (known_of_cells goes_on system tick (cells ++ more))
cells_grow goes_on system tick cells more =
    let a = length cells - 79 in
    let rest = sights_from system tick (cells ++ more) a ((length (cells ++ more) - 79) - a) in
    let is = ap (map (known goes_on)) (sights_more system tick cells more)
    ∙ map-append (known goes_on) (map (extended more) (sights_of system tick cells)) rest in
    rw is (sights_grow goes_on more (sights_of system tick cells) (map (known goes_on) rest))

-- events of which all is known stay
abbrev pub AreSure : List Sight → List FirmEvent → Type 0
AreSure ss es = map (known true) ss ≡ all_sure es

becomes_sure : (k : Known) (e : FirmEvent) (l : Known) → k ≡ Sure e → Becomes k l → l ≡ Sure e
becomes_sure (Sure f) e l is becomes = becomes ∙ is
becomes_sure (Open w) e l is becomes = absurd cc

pub sure_stay : (more : List Cell) (ss : List Sight) (es : List FirmEvent) → AreSure ss es
    → AreSure (map (extended more) ss) es
sure_stay more [] [] is = refl
sure_stay more [] (e ∷ es) is = absurd cc
sure_stay more (s ∷ ss) [] is = absurd cc
sure_stay more (s ∷ ss) (e ∷ es) is =
    let head : known true s ≡ Sure e = cc in
    let tail : AreSure ss es = cc in
    ap₂ (λ (k : Known) (ks : List Known). k ∷ ks)
    (becomes_sure (known true s) e (known true (extended more s)) head (sight_grows true more s))
    (sure_stay more ss es tail)

-- ---- where no cell follows

nat_less : (a b : ℕ) → a < b → nat_lt a b ≡ true
nat_less a b less = grind (arith, common_steps)

-- at the edge
closed_edge : (goes_on : Bool) (e : Event) → closed (known_by (if goes_on then None else Some true) e) ≡ judged true e
closed_edge false e = refl
closed_edge true (Word d w t n) = refl
closed_edge true (Refused d f t) = refl
closed_edge true (Lost p t) = refl

closed_one : (goes_on : Bool) (cells : List Cell) (k : ℕ) (e : Event)
    → closed (known goes_on (Beside e (drop (k + 80) cells))) ≡ judged (is_firm Backward cells k) e
closed_one goes_on cells k e = elim (cases_lt (length cells) (k + 96)) [
  | inl young ↦ (
      let test : nat_lt (length cells) (k + 96) ≡ true = grind (arith, common_steps) in
      let few : nat_lt (length (drop (k + 80) cells)) 16 ≡ true = nat_less (length (drop (k + 80) cells)) 16
      (omega (arith, young, length-drop (k + 80) cells)) in
      rw (test, few) (closed_edge goes_on e))
  | inr old ↦ (
      let test : nat_lt (length cells) (k + 96) ≡ false = grind (arith, common_steps) in
      let is = witness_old goes_on (drop (k + 80) cells) (omega (arith, old, length-drop (k + 80) cells)) in
      rw (test, is) refl)
]

closed_beside : (goes_on : Bool) (cells : List Cell) (k : ℕ) (es : List Event)
    → map closed (map (known goes_on) (map (λ (e : Event). Beside e (drop (k + 80) cells)) es))
    ≡ map (judged (is_firm Backward cells k)) es
closed_beside goes_on cells k [] = refl
closed_beside goes_on cells k (e ∷ es) =
    ap₂ (λ (f : FirmEvent) (fs : List FirmEvent). f ∷ fs) (closed_one goes_on cells k e)
    (closed_beside goes_on cells k es)

closed_judged : (goes_on : Bool) (fs : List FirmEvent)
    → map closed (map (known goes_on) (map (λ (e : FirmEvent). Judged e) fs)) ≡ fs
closed_judged goes_on [] = refl
closed_judged goes_on (f ∷ fs) = ap (λ (es : List FirmEvent). f ∷ es) (closed_judged goes_on fs)

-- what a list of candidates is, where no cell follows
abbrev pub ends_as : Bool → List Sight → List FirmEvent
ends_as goes_on ss = map closed (map (known goes_on) ss)

pub ends_append : (goes_on : Bool) (ss ts : List Sight)
    → ends_as goes_on (ss ++ ts) ≡ ends_as goes_on ss ++ ends_as goes_on ts
ends_append goes_on ss ts =
    ap (map closed) (map-append (known goes_on) ss ts)
    ∙ map-append closed (map (known goes_on) ss) (map (known goes_on) ts)

pub closed_at : (goes_on : Bool) (system : System) (tick : ℕ) (cells : List Cell) (k : ℕ)
    → ends_as goes_on (sights_at system tick cells k) ≡ firm_events_at system tick cells k
unfolding sights_at firm_events_at
closed_at goes_on system tick cells k =
    let f = firm_candidate_at system tick cells k Forward in
    let es = candidate_at system tick cells k Backward in
    ends_append goes_on (map (λ (e : FirmEvent). Judged e) f) (map (λ (e : Event). Beside e (drop (k + 80) cells)) es)
    ∙ ap₂ (λ (a b : List FirmEvent). a ++ b) (closed_judged goes_on f) (closed_beside goes_on cells k es)

closed_windows : (goes_on : Bool) (system : System) (tick : ℕ) (cells : List Cell) (ks : List ℕ)
    → ends_as goes_on (flat_map (sights_at system tick cells) ks) ≡ flat_map (firm_events_at system tick cells) ks
closed_windows goes_on system tick cells [] = refl
closed_windows goes_on system tick cells (k ∷ ks) =
    ends_append goes_on (sights_at system tick cells k) (flat_map (sights_at system tick cells) ks)
    ∙ ap₂ (λ (a b : List FirmEvent). a ++ b) (closed_at goes_on system tick cells k)
    (closed_windows goes_on system tick cells ks)

pub closed_cells : (goes_on : Bool) (system : System) (tick : ℕ) (cells : List Cell)
    → map closed (known_of_cells goes_on system tick cells) ≡ firm_events_of_cells system tick cells
closed_cells goes_on system tick cells =
    closed_windows goes_on system tick cells (range_with_len 0 (length cells - 79))

-- and of cells that do not go on all is known
sure_false : (s : Sight) → known false s ≡ Sure (closed (known false s))
sure_false (Judged e) = refl
sure_false (Beside e behind) = elim (cases_lt (length behind) 16) [
  | inl young ↦ (let test = nat_less (length behind) 16 young in rw test refl)
  | inr old ↦ (let is = witness_old false behind old in rw is refl)
]

sights_sure : (ss : List Sight) → map (known false) ss ≡ all_sure (ends_as false ss)
sights_sure [] = refl
sights_sure (s ∷ ss) = ap₂ (λ (k : Known) (ks : List Known). k ∷ ks) (sure_false s) (sights_sure ss)

pub cells_sure : (system : System) (tick : ℕ) (cells : List Cell)
    → known_of_cells false system tick cells ≡ all_sure (firm_events_of_cells system tick cells)
cells_sure system tick cells =
    sights_sure (sights_of system tick cells) ∙ ap all_sure (closed_cells false system tick cells)

pub sure_append : (es fs : List FirmEvent) → all_sure (es ++ fs) ≡ all_sure es ++ all_sure fs
sure_append es fs = map-append (λ (e : FirmEvent). Sure e) es fs

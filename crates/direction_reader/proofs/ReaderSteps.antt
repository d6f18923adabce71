-- Each step of the tracker takes the reader from a list with its events to the list with one interval more, with the
-- events that are new.
use Rattle.std.proofs.Common.{◌≡◌, ◌<◌, ◌≤◌, ℕ, ◌+◌, ◌-◌, List, [], ◌∷◌, ◌++◌, length, take, sum, ap, sym, ◌∙◌, arith}
use Rattle.std.proofs.Common.{refl, subst}
use Rattle.std.proofs.Common.{append-nil, append_assoc, length-append, Some, None, Option, IsSome, false, get_or, Bool}
use Rattle.std.proofs.Common.{inl, inr}
use Rattle.std.proofs.lemmas.List.{take-append-le, take_all, take_more}
use Rattle.std.proofs.lemmas.Option.{slice_get_within, get_or_from_slice_get}
use Rattle.std.proofs.lemmas.List.Sums.{sum_by-append}
use Rattle.lemmas.specs.Lists.{length-last}
use Rattle.biphase.specs.declared.cell.Cell.{Cell}
use Rattle.biphase.specs.declared.cell.Cell.TheVariants as cell
use Rattle.biphase.specs.Tolerance.{length_of}
use Rattle.biphase.specs.Chain.{bit_of}
use Rattle.cell_tracker.specs.Stretch.{Stretch, begun, with_cell, with_break}
use Rattle.tc_address.specs.declared.system.System.{System}
use Rattle.direction_reader.specs.declared.event.Event.{Event}
use Rattle.direction_reader.specs.declared.event.Event.TheVariants.{Lost}
use Rattle.direction_reader.specs.declared.event.Events.{Events}
use Rattle.direction_reader.specs.declared.latest_bits.LatestBits.{LatestBits}
use Rattle.direction_reader.specs.declared.latest_bits.LatestBits.TheVariants as latest
use Rattle.direction_reader.specs.declared.state.Step.TheVariants.{Nothing, FirstZero, ZeroBefore, Break}
use Rattle.direction_reader.specs.declared.state.Step.{Step}
use Rattle.direction_reader.specs.Events.{event_list, no_events, one_event}
use Rattle.direction_reader.specs.LatestBits.{after_bit, EndsInCandidate}
use Rattle.direction_reader.specs.LatestCells.{Cells, no_cells, with_boundary, AreWindowEvents, CellBrings}
use Rattle.direction_reader.specs.Gathered.{AreEventsOfWindows, AreEventsOfStretch}
use Rattle.direction_reader.specs.Gathered.{begin_of}
use Rattle.direction_reader.specs.Windows.{windows}
use Rattle.direction_reader.specs.ListEvents.{duration}
use Rattle.direction_reader.specs.Reader.{ReaderState, Takes}
use Rattle.direction_reader.specs.StandsFor.{waiting, CellsStandFor, OpenStandsFor, LatestStandsFor, TrackerStandsFor}
use Rattle.direction_reader.specs.StandsFor.{StandsFor, StandsAfter}
use Rattle.direction_reader.specs.StandsFor.{BitsStandFor, MayBreak, IsLastZero, Tells}
use Rattle.direction_reader.specs.declared.brought.Brought.{Brought}
use Rattle.direction_reader.specs.declared.brought.Brought.TheVariants.{Candidate}
use Rattle.direction_reader.proofs.CellsGrow.{cell_more, none_yet, kept_events, duration_more}
use Rattle.direction_reader.proofs.EventsJoin.{window_more, stretch_more, begin_stays, stretches_stay, all_inside}
use Rattle.direction_reader.proofs.EventsJoin.{one_inside}
use Rattle.direction_reader.proofs.WindowsGrow.{few, one_more}

-- the sum of one interval more
pub sum_more : (l : List ℕ) (x : ℕ) → sum (l ++ x ∷ []) ≡ sum l + x
sum_more l x = sum_by-append (λ n. n) l (x ∷ []) ∙ ap (λ n. sum l + n) (let one : sum (x ∷ []) ≡ x = omega arith in one)

-- ---- no cell ended

latest_waits : (r n : ReaderState) (x : ℕ) (l : List ℕ) (o : Option Stretch) (es : List Event) → Takes r x n
    → n.cells ≡ r.cells
    → (IsSome o → waiting n.tracker ≡ waiting r.tracker + x) → LatestStandsFor r l o es
    → LatestStandsFor n (l ++ x ∷ []) o es
latest_waits r n x l None es takes same waits is = is
latest_waits r n x l (Some s) es takes same waits is =
    let begins : begin_of (l ++ x ∷ []) s ≡ begin_of l s = begin_stays l (x ∷ []) s is.lock in
    let half = waits refl in
    let ticks = takes.tick in
    let was = is.ends in
    let count = length-last l x in
    let inside = is.lock in
    record {
      lock = omega arith;
      kept = rw (begins, same) is.kept;
      ends = omega arith;
      events_are = rw (begins, takes.system) is.events_are;
    }

pub nothing_ended : (r n : ReaderState) (x : ℕ) (l : List ℕ) (es : List Event) → Takes r x n → n.cells ≡ r.cells
    → (stands : StandsFor r l es)
    → StandsAfter r.tracker n.tracker x l stands.earlier stands.open_yet Nothing → StandsFor n (l ++ x ∷ []) es
nothing_ended r n x l es takes same stands after = record {
  count = takes.intervals ∙ ap (λ m. m + 1) stands.count ∙ sym (length-last l x);
  sum_is = takes.tick ∙ ap (λ m. m + x) stands.sum_is ∙ sym (sum_more l x);
  earlier = stands.earlier;
  open_yet = stands.open_yet;
  tracker = after.0;
  inside = all_inside (length l) (length (l ++ x ∷ [])) stands.earlier (omega (arith, length-last l x)) stands.inside;
  past = stands.past;
  latest = stands.latest;
  past_are = rw takes.system (stretches_stay r.system l
      (x ∷ []) stands.earlier stands.past stands.inside stands.past_are);
  latest_are = latest_waits r n x l stands.open_yet stands.latest takes same after.1 stands.latest_are;
  all = stands.all;
}

-- ---- a cell ended

-- the windows of one cell more
windows_after : (system : System) (kept : Cells) (b : LatestBits) (tick end : ℕ) (cells : List Cell) (cell : Cell)
    (es : List Event) (own : Events)
    → kept.bits ≡ b → CellsStandFor kept tick (cells ++ cell ∷ []) → end ≡ tick + duration (cells ++ cell ∷ [])
    → AreWindowEvents system kept.bits kept.boundaries end own → AreEventsOfWindows system (windows tick cells) es
    → AreEventsOfWindows system (windows tick (cells ++ cell ∷ [])) (es ++ event_list own)
windows_after system kept (latest.Full n) tick end cells cell es own full stands ends are before =
    let last = kept_events system kept n tick end (cells ++ cell ∷ []) own stands full ends are in
    let count = length-append cells (cell ∷ []) in
    let many = last.0 in
    let place : length (cells ++ cell ∷ []) - 80 ≡ length cells - 79 = omega arith in
    let is = rw place at last.1 in
    rw (one_more tick cells cell (omega arith)) (window_more system (windows tick cells) _ es own before is)
windows_after system kept (latest.Filling f) tick end cells cell es own filling stands ends are before =
    let is = subst (λ (b : LatestBits). BitsStandFor b stands.older stands.newest) filling stands.bits_are in
    let all = stands.are in
    let alone : stands.older ++ stands.newest ≡ stands.newest = rw is.0 refl in
    let room = is.2.1 in
    let count : length (cells ++ cell ∷ []) ≡ length stands.newest = ap length all ∙ ap length alone in
    let before_count = length-append cells (cell ∷ []) in
    let none : own ≡ no_events = subst (λ (b : LatestBits).
    AreWindowEvents system b kept.boundaries end own) filling are in
    let was : es ≡ [] = rw (few tick cells (omega arith)) at before in
    let nothing : es ++ event_list own ≡ [] = rw (none, was) refl in
    rw (few tick (cells ++ cell ∷ []) (omega arith)) nothing

cell_opens : (r n : ReaderState) (x : ℕ) (l : List ℕ) (s : Stretch) (cell : Cell) (es : List Event) (own : Events)
    → Takes r x n
    → n.cells.bits ≡ after_bit r.cells.bits (bit_of cell) → n.cells.boundaries ≡ with_boundary r.cells.boundaries n.tick
    → AreWindowEvents n.system n.cells.bits n.cells.boundaries n.tick own → length_of cell ≡ waiting r.tracker + x
    → waiting n.tracker ≡ 0
    → OpenStandsFor r l s es → OpenStandsFor n (l ++ x ∷ []) (with_cell cell s) (es ++ event_list own)
cell_opens r n x l s cell es own takes is_bits is_boundaries are long waits is =
    let begin = begin_of l s in
    let begins : begin_of (l ++ x ∷ []) s ≡ begin = begin_stays l (x ∷ []) s is.lock in
    let ticks = takes.tick in
    let was = is.ends in
    let more = duration_more s.cells cell in
    let count = length-last l x in
    let inside = is.lock in
    let ends : n.tick ≡ begin + duration s.cells + length_of cell = omega arith in
    let kept = cell_more r.cells n.cells begin n.tick s.cells cell is.kept ends is_bits is_boundaries in
    let ends_all : n.tick ≡ begin + duration (s.cells ++ cell ∷ []) = omega arith in
    let before : AreEventsOfWindows n.system (windows begin s.cells) es = rw takes.system is.events_are in
    let events =
    windows_after n.system n.cells n.cells.bits begin n.tick s.cells cell es own refl kept ends_all are before in
    record {
      lock = omega arith;
      kept = rw begins kept;
      ends = rw begins (omega arith);
      events_are = rw begins events;
    }

pub cell_ended : (r n : ReaderState) (x : ℕ) (l : List ℕ) (es : List Event) (own : Events) (s : Stretch) (cell : Cell)
    → Takes r x n
    → n.cells.bits ≡ after_bit r.cells.bits (bit_of cell) → n.cells.boundaries ≡ with_boundary r.cells.boundaries n.tick
    → AreWindowEvents n.system n.cells.bits n.cells.boundaries n.tick own → length_of cell ≡ waiting r.tracker + x
    → waiting n.tracker ≡ 0
    → (stands : StandsFor r l es) → stands.open_yet ≡ Some s
    → TrackerStandsFor n.tracker (l ++ x ∷ []) stands.earlier (Some (with_cell cell s))
    → StandsFor n (l ++ x ∷ []) (es ++ event_list own)
cell_ended r n x l es own s cell takes is_bits is_boundaries are long waits stands open_yet tracker =
    let is : OpenStandsFor r l s stands.latest = subst (λ (o : Option Stretch).
    LatestStandsFor r l o stands.latest) open_yet stands.latest_are in
    record {
      count = takes.intervals ∙ ap (λ m. m + 1) stands.count ∙ sym (length-last l x);
      sum_is = takes.tick ∙ ap (λ m. m + x) stands.sum_is ∙ sym (sum_more l x);
      earlier = stands.earlier;
      open_yet = Some (with_cell cell s);
      tracker = tracker;
      inside = all_inside (length l) (length (l ++ x ∷ [])) stands.earlier
          (omega (arith, length-last l x)) stands.inside;
      past = stands.past;
      latest = stands.latest ++ event_list own;
      past_are = rw takes.system (stretches_stay r.system l
          (x ∷ []) stands.earlier stands.past stands.inside stands.past_are);
      latest_are = cell_opens r n x l s cell stands.latest own takes is_bits is_boundaries are long waits is;
      all = ap (λ e. e ++ event_list own) stands.all ∙ append_assoc stands.past stands.latest (event_list own);
    }

-- ---- a stretch begins

-- if no stretch is open there are no events of one
none_open : (r : ReaderState) (l : List ℕ) (es : List Event) (stands : StandsFor r l es) → stands.open_yet ≡ None
    → es ≡ stands.past
none_open r l es stands closed =
    let none : stands.latest ≡ [] = subst (λ (o : Option Stretch).
    LatestStandsFor r l o stands.latest) closed stands.latest_are in
    stands.all ∙ ap (λ e. stands.past ++ e) none ∙ append-nil stands.past

-- a stretch begins with its first zero, which begins at a tick
begins : (r n : ReaderState) (x : ℕ) (l : List ℕ) (es : List Event) (lock first tick : ℕ) → Takes r x n
    → n.cells.bits ≡ after_bit (no_cells tick).bits false
    → n.cells.boundaries ≡ with_boundary (no_cells tick).boundaries (tick + first)
    → lock ≤ length l → begin_of (l ++ x ∷ []) (begun lock first) ≡ tick → n.tick ≡ tick + first + waiting n.tracker
    → (stands : StandsFor r l es) → stands.open_yet ≡ None
    → TrackerStandsFor n.tracker (l ++ x ∷ []) stands.earlier (Some (begun lock first)) → StandsFor n (l ++ x ∷ []) es
begins r n x l es lock first tick takes is_bits is_boundaries within start ends stands closed tracker =
    let one : duration (cell.Zero first ∷ []) ≡ first = omega arith in
    let zero_ends : tick + first ≡ tick + duration [] + first = omega arith in
    let kept = cell_more (no_cells tick) n.cells tick (tick + first) [] (cell.Zero first)
    (none_yet tick) zero_ends is_bits is_boundaries in
    let count = length-last l x in
    record {
      count = takes.intervals ∙ ap (λ m. m + 1) stands.count ∙ sym (length-last l x);
      sum_is = takes.tick ∙ ap (λ m. m + x) stands.sum_is ∙ sym (sum_more l x);
      earlier = stands.earlier;
      open_yet = Some (begun lock first);
      tracker = tracker;
      inside = all_inside (length l) (length (l ++ x ∷ [])) stands.earlier
          (omega (arith, length-last l x)) stands.inside;
      past = stands.past;
      latest = [];
      past_are = rw takes.system (stretches_stay r.system l
          (x ∷ []) stands.earlier stands.past stands.inside stands.past_are);
      latest_are = record { lock = omega arith; kept = rw start kept; ends = rw (start, one) ends; events_are = refl };
      all = none_open r l es stands closed ∙ sym (append-nil stands.past);
    }

-- the stretch begins with the interval
pub begins_now : (r n : ReaderState) (x : ℕ) (l : List ℕ) (es : List Event) → Takes r x n
    → n.cells.bits ≡ after_bit (no_cells r.tick).bits false
    → n.cells.boundaries ≡ with_boundary (no_cells r.tick).boundaries n.tick
    → (stands : StandsFor r l es) → StandsAfter r.tracker n.tracker x l stands.earlier stands.open_yet FirstZero
    → StandsFor n (l ++ x ∷ []) es
begins_now r n x l es takes is_bits is_boundaries stands after =
    let ticks = takes.tick in
    let waits = after.1 in
    let start : begin_of (l ++ x ∷ []) (begun (length l) x) ≡ r.tick =
    ap sum (take-append-le (length l) l (x ∷ []) (omega arith) ∙ take_all (length l) l (omega arith))
    ∙ sym stands.sum_is in
    let boundaries : n.cells.boundaries ≡ with_boundary (no_cells r.tick).boundaries (r.tick + x) =
    subst (λ t. n.cells.boundaries ≡ with_boundary (no_cells r.tick).boundaries t) ticks is_boundaries in
    begins r n x l es (length l) x r.tick takes is_bits boundaries (omega arith) start
    (omega arith) stands after.0 after.2

-- the last interval of a list, and the sum before it
pub last_sum : (l : List ℕ) (first : ℕ) → IsLastZero l first
    → (0 < length l) × (sum (take (length l - 1) l) + first ≡ sum l)
last_sum l first is =
    let within = slice_get_within l (length l - 1) first is in
    let value : get_or l (length l - 1) 0 ≡ first = get_or_from_slice_get l (length l - 1) first 0 is in
    let front = take_more l (length l - 1) 0 within in
    let whole : take (length l - 1 + 1) l ≡ l = take_all (length l - 1 + 1) l (omega arith) in
    let joined : sum l ≡ sum (take (length l - 1) l ++ first ∷ []) =
    ap sum (sym whole ∙ front ∙ ap (λ v. take (length l - 1) l ++ v ∷ []) value) in
    (omega arith, sym (joined ∙ sum_more (take (length l - 1) l) first))

-- the stretch begins with the interval before
pub begins_before : (r n : ReaderState) (x first tick : ℕ) (l : List ℕ) (es : List Event) → Takes r x n
    → tick ≡ r.tick - first
    → n.cells.bits ≡ after_bit (no_cells tick).bits false
    → n.cells.boundaries ≡ with_boundary (no_cells tick).boundaries r.tick
    → (stands : StandsFor r l es) → StandsAfter r.tracker n.tracker x l stands.earlier stands.open_yet
    (ZeroBefore first)
    → StandsFor n (l ++ x ∷ []) es
begins_before r n x first tick l es takes starts is_bits is_boundaries stands after =
    let ticks = takes.tick in
    let waits = after.2 in
    let sum_is = stands.sum_is in
    let last = last_sum l first after.1 in
    let before : begin_of (l ++ x ∷ []) (begun (length l - 1) first) ≡ sum (take (length l - 1) l) =
    ap sum (take-append-le (length l - 1) l (x ∷ []) (omega arith)) in
    let boundaries : n.cells.boundaries ≡ with_boundary (no_cells tick).boundaries (tick + first) =
    subst (λ t. n.cells.boundaries ≡ with_boundary (no_cells tick).boundaries t)
    (let e : r.tick ≡ tick + first = omega (arith, last.1) in e) is_boundaries in
    begins r n x l es (length l - 1) first tick takes is_bits boundaries (omega arith) (omega (arith, last.1))
    (omega (arith, last.1)) stands after.0 after.3

-- ---- the stretch breaks

-- the events of the stretch that breaks
breaks_with : (r : ReaderState) (x : ℕ) (l : List ℕ) (o : Option Stretch) (s : Stretch) (es : List Event)
    → LatestStandsFor r l o es → MayBreak l o s
    → (s.lock ≤ length l) × AreEventsOfStretch r.system (l ++ x ∷ []) (with_break (length l) s)
    (es ++ Lost (length l) (sum (l ++ x ∷ [])) ∷ [])
breaks_with r x l (Some o) s es is same =
    let within : s.lock ≤ length l = rw same is.lock in
    let begins : begin_of (l ++ x ∷ []) (with_break (length l) s) ≡ begin_of l s = begin_stays l (x ∷ []) s within in
    let all : take (length l + 1) (l ++ x ∷ []) ≡ l ++ x ∷ [] =
    take_all (length l + 1) (l ++ x ∷ []) (omega (arith, length-last l x)) in
    let own : AreEventsOfWindows r.system (windows (begin_of l s) s.cells) es = rw same is.events_are in
    (within, (es, (rw begins own), ap (λ t. es ++ Lost (length l) (sum t) ∷ []) (sym all)))
breaks_with r x l None s es is (first, last, same) =
    let within : s.lock ≤ length l = rw same (omega arith) in
    let all : take (length l + 1) (l ++ x ∷ []) ≡ l ++ x ∷ [] =
    take_all (length l + 1) (l ++ x ∷ []) (omega (arith, length-last l x)) in
    let none : windows (begin_of (l ++ x ∷ []) (with_break (length l) s)) s.cells ≡ [] = rw same refl in
    let own : AreEventsOfWindows r.system (windows (begin_of (l ++ x ∷ []) (with_break (length l) s)) s.cells) es =
    rw none is in
    (within, (es, own, ap (λ t. es ++ Lost (length l) (sum t) ∷ []) (sym all)))

pub broken : (r n : ReaderState) (x : ℕ) (l : List ℕ) (es : List Event) → Takes r x n → (stands : StandsFor r l es)
    → StandsAfter r.tracker n.tracker x l stands.earlier stands.open_yet Break
    → StandsFor n (l ++ x ∷ []) (es ++ event_list (one_event (Lost (n.intervals - 1) n.tick)))
broken r n x l es takes stands (s, breaks, tracker) =
    let with = breaks_with r x l stands.open_yet s stands.latest stands.latest_are breaks in
    let counted : n.intervals - 1 ≡ length l = let a = takes.intervals in let b = stands.count in omega arith in
    let summed : n.tick ≡ sum (l ++ x ∷ []) = takes.tick ∙ ap (λ m. m + x) stands.sum_is ∙ sym (sum_more l x) in
    let lost : List Event = Lost (length l) (sum (l ++ x ∷ [])) ∷ [] in
    let more = length-last l x in
    let within = with.0 in
    let inside = all_inside (length l) (length (l ++ x ∷ [])) stands.earlier (omega arith) stands.inside in
    let past = stretches_stay r.system l (x ∷ []) stands.earlier stands.past stands.inside stands.past_are in
    let same : Lost (n.intervals - 1) n.tick ∷ [] ≡ lost = rw (counted, summed) refl in
    record {
      count = takes.intervals ∙ ap (λ m. m + 1) stands.count ∙ sym (length-last l x);
      sum_is = summed;
      earlier = stands.earlier ++ with_break (length l) s ∷ [];
      open_yet = None;
      tracker = tracker;
      inside = one_inside (length (l ++ x ∷ [])) stands.earlier (with_break (length l) s) inside
          (record { lock = omega arith; broken = omega arith });
      past = stands.past ++ (stands.latest ++ lost);
      latest = [];
      past_are = rw takes.system
          (stretch_more r.system (l ++ x ∷ []) stands.earlier (with_break (length l) s) stands.past
          (stands.latest ++ lost) past with.1);
      latest_are = refl;
      all = ap (λ e. es ++ e) same ∙ ap (λ e. e ++ lost) stands.all ∙ append_assoc stands.past stands.latest lost
          ∙ sym (append-nil (stands.past ++ (stands.latest ++ lost)));
    }

-- ---- what is given

-- a window that is no candidate has no events
quiet_window : (system : System) (b : LatestBits) (boundaries : List ℕ) (end : ℕ) (own : Events) → ¬ EndsInCandidate b
    → own ≡ no_events
    → AreWindowEvents system b boundaries end own
quiet_window system (latest.Full n) boundaries end own quiet none = rw none (record {
  forward = λ sync. absurd (quiet (inl sync));
  backward = λ sync other. absurd (quiet (inr sync));
  both = λ sync other. absurd (quiet (inl sync));
  one = λ sync other. refl;
  none = λ sync other. (refl, refl);
})
quiet_window system (latest.Filling f) boundaries end own quiet none = none

-- what is given of a cell is what its window brings
pub told_of_cell : (n : ReaderState) (brought : Brought) (own : Events) → CellBrings n.cells.bits brought
    → Tells n brought own
    → AreWindowEvents n.system n.cells.bits n.cells.boundaries n.tick own
told_of_cell n Brought.Nothing own brings told =
    quiet_window n.system n.cells.bits n.cells.boundaries n.tick own brings told
told_of_cell n Candidate own brings told = told
told_of_cell n Brought.Break own brings told = absurd brings

pub cell_told : (r n : ReaderState) (x : ℕ) (l : List ℕ) (es : List Event) (own : Events) (bit : Bool)
    (brought : Brought) → Takes r x n
    → n.cells.bits ≡ after_bit r.cells.bits bit → n.cells.boundaries ≡ with_boundary r.cells.boundaries n.tick
    → CellBrings n.cells.bits brought → (stands : StandsFor r l es)
    → StandsAfter r.tracker n.tracker x l stands.earlier stands.open_yet (Step.Cell bit) → Tells n brought own
    → StandsFor n (l ++ x ∷ []) (es ++ event_list own)
cell_told r n x l es own bit brought takes is_bits is_boundaries brings stands
    (s, cell, open_yet, is_bit, long, waits, tracker) told =
    let bits_too : n.cells.bits ≡ after_bit r.cells.bits (bit_of cell) = rw is_bit is_bits in
    cell_ended r n x l es own s cell takes bits_too is_boundaries
    (told_of_cell n brought own brings told) long waits stands open_yet tracker

-- if nothing is given there is nothing new
pub quiet : (n : ReaderState) (l : List ℕ) (es : List Event) (own : Events) → StandsFor n l es → own ≡ no_events
    → StandsFor n l (es ++ event_list own)
quiet n l es own stands none = rw none (subst (λ e. StandsFor n l e) (sym (append-nil es)) stands)

-- A window read forward, and the same window in the other order read backward, are one candidate.
use Rattle.std.proofs.Common.{◌≡◌, ◌<◌, ◌≤◌, ℕ, ◌+◌, ◌-◌, ◌^◌, zero, suc, List, [], ◌∷◌, ◌++◌, length, map}
use Rattle.std.proofs.Common.{reverse}
use Rattle.std.proofs.Common.{Option, Some, None, IsSomeAnd}
use Rattle.std.proofs.Common.{ap, arith, append_assoc, append-nil, inl, inr, refl, subst, sym, ◌∙◌}
use Rattle.std.specs.List.{AllZip, range_with_len}
use Rattle.std.proofs.lemmas.Grind.{reverse_onto}
use Rattle.std.proofs.lemmas.List.{reverse-append}
use Rattle.biphase.specs.declared.cell.Cell.{Cell}
use Rattle.tc_address.specs.declared.system.System.{System}
use Rattle.tc_address.specs.declared.direction.Direction.{Direction}
use Rattle.tc_address.specs.declared.direction.Direction.TheVariants.{Forward, Backward}
use Rattle.ltc_word.specs.Reversal.{EndsInSync, reversed_bits}
use Rattle.direction_reader.specs.declared.event.Event.{Event}
use Rattle.direction_reader.specs.declared.event.Event.TheVariants.{Word, Refused, Lost}
use Rattle.direction_reader.specs.declared.event.Events.{Events}
use Rattle.direction_reader.specs.Candidate.{IsEventOf, AreEventsOf}
use Rattle.direction_reader.specs.Events.{listed, event_list}
use Rattle.direction_reader.specs.Gathered.{AreEventsOfWindows}
use Rattle.direction_reader.specs.Windows.{CellWindow, window_at, windows}
use Rattle.direction_reader.specs.ListEvents.{duration}
use Rattle.direction_reader.specs.Mirror.{turned, IsMirrorOf, IsWindowOf}
use Rattle.direction_reader.proofs.EventsExist.{window_below}
use Rattle.direction_reader.proofs.OneList.{IsExact}
use Rattle.ltc_word.specs.SyncLemmas.{in_sync_or_not}
use Rattle.direction_reader.proofs.MirroredWindows.{mirror_window}
use Rattle.direction_reader.proofs.WindowsFromCells.{front_within}

-- bits in the other order twice are the bits
abbrev pub TurnsBack : Type 0
TurnsBack = (bits : ℕ) → bits < 2 ^ 80 → reversed_bits (reversed_bits bits) ≡ bits

-- ---- lists that fit each other

zip_append : (total begin : ℕ) (cells : List Cell) (one two other more : List Event)
    → AllZip (IsMirrorOf total begin cells) one two → AllZip (IsMirrorOf total begin cells) other more
    → AllZip (IsMirrorOf total begin cells) (one ++ other) (two ++ more)
zip_append total begin cells [] [] other more ones others = others
zip_append total begin cells [] (e ∷ two) other more ones others = absurd ones
zip_append total begin cells (e ∷ one) [] other more ones others = absurd ones
zip_append total begin cells (e ∷ one) (f ∷ two) other more ones others =
    (ones.0, zip_append total begin cells one two other more ones.1 others)

-- ---- one window

one_mirrors : IsExact → (system : System) (d : Direction) (bits end there length total begin : ℕ) (cells : List Cell)
    (e f : Event) → IsWindowOf begin cells end length → there + end ≡ total + length
    → IsEventOf system d bits end length e → IsEventOf system (turned d) bits there length f
    → IsMirrorOf total begin cells e f
one_mirrors exact system d bits end there length total begin cells (Word a w t n) (Word a' w' t' n') at place is too =
    let direction : a' ≡ turned a = too.0 ∙ ap turned (sym is.0) in
    let word : w' ≡ w = sym (exact.one_word system w w' bits is.1 too.1) in
    (direction, word, rw (is.2, is.3) at, omega (arith, is.2, is.3, too.2), too.3 ∙ sym is.3)
one_mirrors exact system d bits end there length total begin cells (Word a w t n) (Refused a' g t') at place is too =
    let none = exact.no_fault system w bits is.1 in let some = too.1 in absurd cc
one_mirrors exact system d bits end there length total begin cells (Word a w t n) (Lost p t') at place is too =
    absurd too
one_mirrors exact system d bits end there length total begin cells (Refused a g t) (Word a' w t' n) at place is too =
    let none = exact.no_fault system w bits too.1 in let some = is.1 in absurd cc
one_mirrors exact system d bits end there length total begin cells (Refused a g t) (Refused a' g' t') at place is too =
    let direction : a' ≡ turned a = too.0 ∙ ap turned (sym is.0) in
    let fault : g' ≡ g = let one = is.1 in let other = too.1 in cc in
    (direction, fault, (length, rw is.2 at, omega (arith, is.2, too.2)))
one_mirrors exact system d bits end there length total begin cells (Refused a g t) (Lost p t') at place is too =
    absurd too
one_mirrors exact system d bits end there length total begin cells (Lost p t) f at place is too = absurd is

some_mirrors : IsExact → (system : System) (d : Direction) (bits end there length total begin : ℕ) (cells : List Cell)
    (e f : Option Event)
    → IsWindowOf begin cells end length → there + end ≡ total + length
    → IsSomeAnd e (IsEventOf system d bits end length)
    → IsSomeAnd f (IsEventOf system (turned d) bits there length)
    → AllZip (IsMirrorOf total begin cells) (listed e) (listed f)
some_mirrors exact system d bits end there length total begin cells None f at place is too = absurd is
some_mirrors exact system d bits end there length total begin cells (Some e) None at place is too = absurd too
some_mirrors exact system d bits end there length total begin cells (Some e) (Some f) at place is too =
    (one_mirrors exact system d bits end there length total begin cells e f at place is too, tt)

-- the events of a window as a list, from the last one to the first one
list_reverse : (first second : Option Event) → reverse (listed first ++ listed second) ≡ listed second ++ listed first
list_reverse None None = refl
list_reverse None (Some f) = refl
list_reverse (Some e) None = refl
list_reverse (Some e) (Some f) = refl

none_listed : (o : Option Event) → o ≡ None → listed o ≡ []
none_listed o none = rw none refl

-- two and two events that mirror each other
two_mirror : (total begin : ℕ) (cells : List Cell) (own other : Events)
    → AllZip (IsMirrorOf total begin cells) (listed own.first) (listed other.second)
    → AllZip (IsMirrorOf total begin cells) (listed own.second) (listed other.first)
    → AllZip (IsMirrorOf total begin cells) (event_list own) (reverse (event_list other))
two_mirror total begin cells own other first second =
    subst (λ (es : List Event). AllZip (IsMirrorOf total begin cells) (event_list own) es)
    (sym (list_reverse other.first other.second))
    (zip_append total begin cells (listed own.first) (listed other.second) (listed own.second)
    (listed other.first) first second)

-- and one alone
one_mirror : (total begin : ℕ) (cells : List Cell) (own other : Events)
    → AllZip (IsMirrorOf total begin cells) (listed own.first) (listed other.first) → own.second ≡ None
    → other.second ≡ None → AllZip (IsMirrorOf total begin cells) (event_list own) (reverse (event_list other))
one_mirror total begin cells own other first none none_too =
    let mine : event_list own ≡ listed own.first =
    ap (λ (es : List Event). listed own.first ++ es) (none_listed own.second none) ∙ append-nil (listed own.first) in
    let theirs : reverse (event_list other) ≡ listed other.first =
    list_reverse other.first other.second ∙ ap (λ (es : List Event). es ++ listed other.first)
    (none_listed other.second none_too) in
    subst (λ (es : List Event). AllZip (IsMirrorOf total begin cells) es (reverse (event_list other))) (sym mine)
    (subst (λ (es : List Event). AllZip (IsMirrorOf total begin cells) (listed own.first) es) (sym theirs) first)

none_mirror : (total begin : ℕ) (cells : List Cell) (own other : Events) → (own.first ≡ None) × (own.second ≡ None)
    → (other.first ≡ None) × (other.second ≡ None)
    → AllZip (IsMirrorOf total begin cells) (event_list own) (reverse (event_list other))
none_mirror total begin cells own other none none_too =
    let mine : event_list own ≡ [] = rw (none.0, none.1) refl in
    let theirs : reverse (event_list other) ≡ [] = rw (none_too.0, none_too.1) refl in
    subst (λ (es : List Event). AllZip (IsMirrorOf total begin cells) es (reverse (event_list other))) (sym mine)
    (subst (λ (es : List Event). AllZip (IsMirrorOf total begin cells) [] es) (sym theirs) tt)

window_mirrors : IsExact → TurnsBack → (system : System) (bits end there length total begin : ℕ) (cells : List Cell)
    (own other : Events) → bits < 2 ^ 80
    → IsWindowOf begin cells end length → there + end ≡ total + length → AreEventsOf system bits end length own
    → AreEventsOf system (reversed_bits bits) there length other
    → AllZip (IsMirrorOf total begin cells) (event_list own) (reverse (event_list other))
window_mirrors exact back system bits end there length total begin cells own other below at place are too =
    let turn = reversed_bits bits in
    let twice : reversed_bits turn ≡ bits = back bits below in
    let sync = λ (is : EndsInSync bits). subst EndsInSync (sym twice) is in
    let no_sync = λ (is_not : ¬ EndsInSync bits) (is : EndsInSync (reversed_bits turn)).
    is_not (subst EndsInSync twice is) in
    let as_backward = λ (o : Option Event) (is : IsSomeAnd o
    (IsEventOf system Backward (reversed_bits turn) there length)).
    subst (λ b. IsSomeAnd o (IsEventOf system Backward b there length)) twice is in
    elim (in_sync_or_not bits) [
      | inl forward ↦ elim (in_sync_or_not turn) [
        | inl backward ↦ two_mirror total begin cells own other
            (some_mirrors exact system Forward bits end there length total begin cells own.first other.second at place
            (are.forward forward)
            (as_backward other.second (too.both backward (sync forward))))
            (some_mirrors exact system Backward turn end there length total begin cells own.second other.first at place
            (are.both forward backward)
            (too.forward backward))
        | inr not_back ↦ (
            let theirs = too.backward (sync forward) not_back in
            one_mirror total begin cells own other
            (some_mirrors exact system Forward bits end there length total begin cells own.first other.first at place
            (are.forward forward)
            (as_backward other.first theirs.0)) (are.one forward not_back) theirs.1)
      ]
      | inr not_forward ↦ elim (in_sync_or_not turn) [
        | inl backward ↦ (
            let mine = are.backward backward not_forward in
            one_mirror total begin cells own other
            (some_mirrors exact system Backward turn end there length total begin cells own.first other.first at place
            mine.0 (too.forward backward))
            mine.1 (too.one backward (no_sync not_forward)))
        | inr not_back ↦ none_mirror total begin cells own other (are.none not_forward not_back)
            (too.none not_back (no_sync not_forward))
      ]
    ]

-- ---- all windows

-- windows of 80 bits of these cells, that end within a sum
abbrev Fit : ℕ → ℕ → List Cell → List CellWindow → Type 0
Fit total begin cells [] = Unit {0}
Fit total begin cells (w ∷ ws) =
    (w.end ≤ total) × (w.bits < 2 ^ 80) × IsWindowOf begin cells w.end w.length × Fit total begin cells ws

range_fits : (total tick : ℕ) (cells : List Cell) (a n : ℕ) → tick + duration cells ≤ total
    → (0 < n → a + n + 79 ≤ length cells)
    → Fit total tick cells (map (window_at tick cells) (range_with_len a n))
range_fits total tick cells a zero within many = tt
range_fits total tick cells a (suc n) within many =
    let here = many (omega arith) in (
      omega (arith, front_within (a + 80) cells),
      window_below tick cells a,
      (a, omega arith, refl, refl),
      range_fits total tick cells (a + 1) n within (λ some. omega arith),
    )

pub windows_fit : (total tick : ℕ) (cells : List Cell) → tick + duration cells ≤ total
    → Fit total tick cells (windows tick cells)
windows_fit total tick cells within = range_fits total tick cells 0 (length cells - 79) within (λ some. omega arith)

-- the events of windows and one more
record LastSplit (system : System) (ws : List CellWindow) (w : CellWindow) (events : List Event) : Type 0 where
  front : List Event
  own : Events
  front_are : AreEventsOfWindows system ws front
  own_are : AreEventsOf system w.bits w.end w.length own
  are : events ≡ front ++ event_list own

last_split : (system : System) (ws : List CellWindow) (w : CellWindow) (es : List Event)
    → AreEventsOfWindows system (ws ++ w ∷ []) es
    → LastSplit system ws w es
last_split system [] w es (own, rest, is, none, join) = record {
  front = [];
  own = own;
  front_are = refl;
  own_are = is;
  are = join ∙ ap (λ (e : List Event). event_list own ++ e) none ∙ append-nil (event_list own);
}
last_split system (v ∷ ws) w es (own, rest, is, others, join) =
    let more = last_split system ws w rest others in
    record {
      front = event_list own ++ more.front;
      own = more.own;
      front_are = (own, more.front, is, more.front_are, refl);
      own_are = more.own_are;
      are = join ∙ ap (λ (e : List Event). event_list own ++ e) more.are
          ∙ sym (append_assoc (event_list own) more.front (event_list more.own));
    }

pub all_mirror : IsExact → TurnsBack → (system : System) (total begin : ℕ) (cells : List Cell) (ws : List CellWindow)
    (es fs : List Event) → Fit total begin cells ws
    → AreEventsOfWindows system ws es → AreEventsOfWindows system (reverse (map (mirror_window total) ws)) fs
    → AllZip (IsMirrorOf total begin cells) es (reverse fs)
all_mirror exact back system total begin cells [] es fs fit are too =
    let mine : es ≡ [] = are in
    let theirs : reverse fs ≡ [] = ap (λ (e : List Event). reverse e) too in
    subst (λ (e : List Event). AllZip (IsMirrorOf total begin cells) e (reverse fs)) (sym mine)
    (subst (λ (e : List Event). AllZip (IsMirrorOf total begin cells) [] e) (sym theirs) tt)
all_mirror exact back system total begin cells (w ∷ ws) es fs fit (own, rest, is, others, join) too =
    let turn = map (mirror_window total) ws in
    let pushed : AreEventsOfWindows system (reverse turn ++ mirror_window total w ∷ []) fs =
    subst (λ (vs : List CellWindow). AreEventsOfWindows system vs fs)
    (reverse_onto turn (mirror_window total w) []) too in
    let last = last_split system (reverse turn) (mirror_window total w) fs pushed in
    let place : total - w.end + w.length + w.end ≡ total + w.length = omega (arith, fit.0) in
    let first = window_mirrors exact back system w.bits w.end
    (total - w.end + w.length) w.length total begin cells own last.own fit.1 fit.2 place is last.own_are in
    let more = all_mirror exact back system total begin cells ws rest last.front fit.3 others last.front_are in
    let turned_all : reverse fs ≡ reverse (event_list last.own) ++ reverse last.front =
    ap (λ (e : List Event). reverse e) last.are ∙ reverse-append last.front (event_list last.own) in
    subst (λ (e : List Event). AllZip (IsMirrorOf total begin cells) e (reverse fs)) (sym join)
    (subst (λ (e : List Event). AllZip (IsMirrorOf total begin cells) (event_list own ++ rest) e) (sym turned_all)
    (zip_append total begin cells (event_list own) (reverse (event_list last.own)) rest
    (reverse last.front) first more))

-- Events of more windows, of more stretches and of more intervals come behind those that were there.
use Rattle.std.proofs.Common.{◌≡◌, ◌<◌, ◌≤◌, ℕ, ◌+◌, List, [], ◌∷◌, ◌++◌, length, sum, ap, sym, ◌∙◌, arith, refl, subst}
use Rattle.std.proofs.Common.{append_assoc}
use Rattle.std.proofs.Common.{append-nil, IfSome, Some, None, Option}
use Rattle.std.proofs.lemmas.List.{take-append-le}
use Rattle.cell_tracker.specs.Stretch.{Stretch}
use Rattle.tc_address.specs.declared.system.System.{System}
use Rattle.direction_reader.specs.declared.event.Event.{Event}
use Rattle.direction_reader.specs.declared.event.Events.{Events}
use Rattle.direction_reader.specs.Candidate.{AreEventsOf}
use Rattle.direction_reader.specs.Events.{event_list}
use Rattle.direction_reader.specs.Gathered.{AreEventsOfWindows, AreEventsOfStretch, AreEventsOfStretches}
use Rattle.direction_reader.specs.Gathered.{begin_of}
use Rattle.direction_reader.specs.Windows.{CellWindow, windows}
use Rattle.direction_reader.specs.ListEvents.{break_events}
use Rattle.direction_reader.specs.StandsFor.{IsInside, AreInside}

-- one window more
pub window_more : (system : System) (ws : List CellWindow) (w : CellWindow) (es : List Event) (own : Events)
    → AreEventsOfWindows system ws es
    → AreEventsOf system w.bits w.end w.length own → AreEventsOfWindows system (ws ++ w ∷ []) (es ++ event_list own)
window_more system [] w es own are is =
    (own, [], is, refl, ap (λ l. l ++ event_list own) are ∙ sym (append-nil (event_list own)))
window_more system (v ∷ ws) w es own (first, rest, is_first, others, join) is = (
  first,
  rest ++ event_list own,
  is_first,
  window_more system ws w rest own others is,
  ap (λ l. l ++ event_list own) join ∙ append_assoc (event_list first) rest (event_list own),
)

-- one stretch more
pub stretch_more : (system : System) (l : List ℕ) (ss : List Stretch) (s : Stretch) (es own : List Event)
    → AreEventsOfStretches system l ss es
    → AreEventsOfStretch system l s own → AreEventsOfStretches system l (ss ++ s ∷ []) (es ++ own)
stretch_more system l [] s es own are is = (own, [], is, refl, ap (λ e. e ++ own) are ∙ sym (append-nil own))
stretch_more system l (t ∷ ss) s es own (first, rest, is_first, others, join) is = (
  first,
  rest ++ own,
  is_first,
  stretch_more system l ss s rest own others is,
  ap (λ e. e ++ own) join ∙ append_assoc first rest own,
)

-- a stretch begins where it began
pub begin_stays : (l more : List ℕ) (s : Stretch) → s.lock ≤ length l → begin_of (l ++ more) s ≡ begin_of l s
begin_stays l more s within = ap sum (take-append-le s.lock l more within)

-- and breaks where it broke
pub break_stays : (l more : List ℕ) (place : Option ℕ) → IfSome place (λ p. p < length l)
    → break_events (l ++ more) place ≡ break_events l place
break_stays l more None within = refl
break_stays l more (Some p) within = let front = take-append-le (p + 1) l more (omega arith) in rw front refl

pub stretch_stays : (system : System) (l more : List ℕ) (s : Stretch) (es : List Event) → IsInside (length l) s
    → AreEventsOfStretch system l s es
    → AreEventsOfStretch system (l ++ more) s es
stretch_stays system l more s es inside (own, are, join) = (
  own,
  subst (λ tick. AreEventsOfWindows system (windows tick s.cells) own) (sym (begin_stays l more s inside.lock)) are,
  join ∙ ap (λ e. own ++ e) (sym (break_stays l more s.broken_at inside.broken)),
)

-- the events of the stretches that were there
pub stretches_stay : (system : System) (l more : List ℕ) (ss : List Stretch) (es : List Event) → AreInside (length l) ss
    → AreEventsOfStretches system l ss es → AreEventsOfStretches system (l ++ more) ss es
stretches_stay system l more [] es inside are = are
stretches_stay system l more (s ∷ ss) es inside (own, rest, is, others, join) = (
  own,
  rest,
  stretch_stays system l more s own inside.0 is,
  stretches_stay system l more ss rest inside.1 others,
  join,
)

-- a place before n is before m, if m is no less
some_more : (n m : ℕ) (place : Option ℕ) → n ≤ m → IfSome place (λ p. p < n) → IfSome place (λ p. p < m)
some_more n m None le is = tt
some_more n m (Some p) le is = omega arith

-- what is inside n intervals is inside more
inside_more : (n m : ℕ) (s : Stretch) → n ≤ m → IsInside n s → IsInside m s
inside_more n m s le inside = record { lock = omega arith; broken = some_more n m s.broken_at le inside.broken }

pub all_inside : (n m : ℕ) (ss : List Stretch) → n ≤ m → AreInside n ss → AreInside m ss
all_inside n m [] le inside = tt
all_inside n m (s ∷ ss) le inside = (inside_more n m s le inside.0, all_inside n m ss le inside.1)

pub one_inside : (n : ℕ) (ss : List Stretch) (s : Stretch) → AreInside n ss → IsInside n s → AreInside n (ss ++ s ∷ [])
one_inside n [] s inside is = (is, tt)
one_inside n (t ∷ ss) s inside is = (inside.0, one_inside n ss s inside.1 is)

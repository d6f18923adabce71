-- The events of a window come at its end, and those of windows from one on come no earlier.
use Rattle.std.proofs.Common.{◌≡◌, ◌<◌, ◌≤◌, ℕ, ◌+◌, ◌-◌, List, [], ◌∷◌, ◌++◌, length}
use Rattle.std.proofs.Common.{Option, Some, None}
use Rattle.std.proofs.Common.{ap, arith, append_assoc, inl, inr, refl, sym, ◌∙◌, All}
use Rattle.std.proofs.Common.{IsSomeAnd}
use Rattle.std.proofs.lemmas.List.Elements.{All-nil, All-cons, All-append, All-head, All-tail, All-same}
use Rattle.tc_address.specs.declared.system.System.{System}
use Rattle.tc_address.specs.declared.direction.Direction.{Direction}
use Rattle.ltc_word.specs.Reversal.{reversed_bits}
use Rattle.direction_reader.specs.declared.event.Event.{Event}
use Rattle.direction_reader.specs.declared.event.Event.TheVariants.{Word, Refused, Lost}
use Rattle.direction_reader.specs.declared.event.Events.{Events}
use Rattle.direction_reader.specs.Candidate.{IsEventOf, AreEventsOf}
use Rattle.direction_reader.specs.Events.{listed, event_list}
use Rattle.direction_reader.specs.Gathered.{AreEventsOfWindows}
use Rattle.direction_reader.specs.Windows.{CellWindow}
use Rattle.ltc_word.specs.SyncLemmas.{in_sync_or_not}

-- a word, good or refused, has a later tick than this one, and a break is at the place n or later
abbrev pub IsFrom : ℕ → ℕ → Event → Type 0
IsFrom n tick (Word direction word end length) = tick < end
IsFrom n tick (Refused direction fault end) = tick < end
IsFrom n tick (Lost interval end) = (n ≤ interval) × (tick ≤ end)

-- ---- the events of a window come at its end

-- the event of a candidate
heard : (system : System) (direction : Direction) (bits end length m tick : ℕ) (o : Option Event) → tick < end
    → IsSomeAnd o (IsEventOf system direction bits end length) → All (IsFrom m tick) (listed o)
heard system direction bits end length m tick None from is = absurd is
heard system direction bits end length m tick (Some (Word d w t n)) from is =
    let at = is.2 in All-cons (IsFrom m tick) (Word d w t n) [] (omega (arith, at)) (All-nil (IsFrom m tick))
heard system direction bits end length m tick (Some (Refused d f t)) from is =
    let at = is.2 in All-cons (IsFrom m tick) (Refused d f t) [] (omega (arith, at)) (All-nil (IsFrom m tick))
heard system direction bits end length m tick (Some (Lost p t)) from is = absurd is

-- no event
unheard : (m tick : ℕ) (o : Option Event) → o ≡ None → All (IsFrom m tick) (listed o)
unheard m tick o none = rw none (All-nil (IsFrom m tick))

-- the events of a window
window_from : (system : System) (bits end length m tick : ℕ) (own : Events) → tick < end
    → AreEventsOf system bits end length own
    → All (IsFrom m tick) (event_list own)
window_from system bits end length m tick own from are =
    let back = reversed_bits bits in
    let both = All-append (IsFrom m tick) (listed own.first) (listed own.second) in
    elim (in_sync_or_not bits) [
      | inl forward ↦ elim (in_sync_or_not back) [
        | inl backward ↦ both (heard _ _ _ _ _ m tick own.first from (are.forward forward))
            (heard _ _ _ _ _ m tick own.second from (are.both forward backward))
        | inr not_back ↦ both (heard _ _ _ _ _ m tick own.first from (are.forward forward))
            (unheard m tick own.second (are.one forward not_back))
      ]
      | inr not_forward ↦ elim (in_sync_or_not back) [
        | inl backward ↦ (
            let mine = are.backward backward not_forward in
            both (heard _ _ _ _ _ m tick own.first from mine.0) (unheard m tick own.second mine.1))
        | inr not_back ↦ (
            let mine = are.none not_forward not_back in
            both (unheard m tick own.first mine.0) (unheard m tick own.second mine.1))
      ]
    ]

-- the window ends at this tick or later
abbrev pub EndsFrom : ℕ → CellWindow → Type 0
EndsFrom tick window = tick < window.end

-- the events of windows
pub windows_from : (system : System) (m tick : ℕ) (ws : List CellWindow) (es : List Event) → All (EndsFrom tick) ws
    → AreEventsOfWindows system ws es
    → All (IsFrom m tick) es
windows_from system m tick [] es from are = All-same (IsFrom m tick) es [] are (All-nil (IsFrom m tick))
windows_from system m tick (w ∷ ws) es from (own, rest, is, others, join) =
    All-same (IsFrom m tick) es (event_list own ++ rest) join
    (All-append (IsFrom m tick) (event_list own) rest
    (window_from system w.bits w.end w.length m tick own (All-head (EndsFrom tick) w ws from) is)
    (windows_from system m tick ws rest (All-tail (EndsFrom tick) w ws from) others))

-- the events of some windows, and of others behind them
pub record BothWindows (system : System) (ws vs : List CellWindow) (events : List Event) : Type 0 where
  pub one : List Event
  pub two : List Event
  pub are : events ≡ one ++ two
  pub ones : AreEventsOfWindows system ws one
  pub twos : AreEventsOfWindows system vs two

pub both_windows : (system : System) (ws vs : List CellWindow) (es : List Event)
    → AreEventsOfWindows system (ws ++ vs) es
    → BothWindows system ws vs es
both_windows system [] vs es are = record { one = []; two = es; are = refl; ones = refl; twos = are }
both_windows system (w ∷ ws) vs es (own, rest, is, others, join) =
    let more = both_windows system ws vs rest others in
    record {
      one = event_list own ++ more.one;
      two = more.two;
      are = join ∙ ap (λ (e : List Event). event_list own ++ e) more.are
          ∙ sym (append_assoc (event_list own) more.one more.two);
      ones = (own, more.one, is, more.ones, refl);
      twos = more.twos;
    }

-- The events of windows come at their ends, and those of a front of windows by its end.
use Rattle.std.proofs.Common.{◌≡◌, ◌<◌, ◌≤◌, ℕ, ◌+◌, ◌-◌, List, [], ◌∷◌, ◌++◌, length, take}
use Rattle.std.proofs.Common.{Option, Some, None}
use Rattle.std.proofs.Common.{get_or, ap, arith, append_assoc, length-append, inl, inr, refl, subst, sym}
use Rattle.std.proofs.Common.{◌∙◌, All, IsSomeAnd}
use Rattle.std.proofs.lemmas.Bool.{cases_lt}
use Rattle.std.proofs.lemmas.List.Elements.{All-nil, All-cons, All-append, All-same}
use Rattle.biphase.specs.declared.cell.Cell.{Cell}
use Rattle.tc_address.specs.declared.system.System.{System}
use Rattle.tc_address.specs.declared.direction.Direction.{Direction}
use Rattle.ltc_word.specs.Reversal.{reversed_bits}
use Rattle.direction_reader.specs.declared.event.Event.{Event}
use Rattle.direction_reader.specs.declared.event.Event.TheVariants.{Word, Refused, Lost}
use Rattle.direction_reader.specs.declared.event.Events.{Events}
use Rattle.direction_reader.specs.Candidate.{IsEventOf, AreEventsOf}
use Rattle.direction_reader.specs.Events.{listed, event_list}
use Rattle.direction_reader.specs.Gathered.{AreEventsOfWindows}
use Rattle.direction_reader.specs.Windows.{CellWindow, windows}
use Rattle.direction_reader.specs.ListEvents.{duration}
use Rattle.direction_reader.specs.Tape.{ComesBy}
use Rattle.ltc_word.specs.SyncLemmas.{in_sync_or_not}
use Rattle.direction_reader.proofs.WindowsGrow.{few}
use Rattle.direction_reader.proofs.WindowsFromCells.{duration_of, windows_cons, front_longer, front_most}
use Rattle.direction_reader.proofs.WindowsFromCells.{front_within}

-- ---- the events of a window come at its end

-- a word, good or refused, ends at the tick `end` at the latest
abbrev pub EndsBy : ℕ → Event → Type 0
EndsBy end (Word direction word tick length) = tick ≤ end
EndsBy end (Refused direction fault tick) = tick ≤ end
EndsBy end (Lost interval tick) = Unit {0}

-- a break is at the place `from` at the latest
abbrev pub LostBy : ℕ → Event → Type 0
LostBy from (Lost interval tick) = interval ≤ from
LostBy from event = Unit {0}

comes_by : (end from : ℕ) (e : Event) → EndsBy end e → LostBy from e → ComesBy end from e
comes_by end from (Word d w t n) ends lost = ends
comes_by end from (Refused d f t) ends lost = ends
comes_by end from (Lost p t) ends lost = lost

pub all_by : (end from : ℕ) (es : List Event) → All (EndsBy end) es → All (LostBy from) es → All (ComesBy end from) es
all_by end from es ends lost k d within = comes_by end from (get_or es k d) (ends k d within) (lost k d within)

-- words alone, each of which ends at a tick at the latest; breaks are none of them
abbrev pub AreWordsBy : ℕ → List Event → Type 0
AreWordsBy end events = All (λ (e : Event). EndsBy end e × ((from : ℕ) → LostBy from e)) events

none_by : (end : ℕ) → AreWordsBy end []
none_by end = All-nil (λ (e : Event). EndsBy end e × ((from : ℕ) → LostBy from e))

both_by : (end : ℕ) (one two : List Event) → AreWordsBy end one → AreWordsBy end two → AreWordsBy end (one ++ two)
both_by end one two = All-append (λ (e : Event). EndsBy end e × ((from : ℕ) → LostBy from e)) one two

one_by : (end : ℕ) (e : Event) → EndsBy end e → ((from : ℕ) → LostBy from e) → AreWordsBy end (e ∷ [])
one_by end e ends breaks =
    All-cons (λ (e : Event). EndsBy end e × ((from : ℕ) → LostBy from e)) e [] (ends, breaks) (none_by end)

same_by : (end : ℕ) (one two : List Event) → one ≡ two → AreWordsBy end two → AreWordsBy end one
same_by end one two same = All-same (λ (e : Event). EndsBy end e × ((from : ℕ) → LostBy from e)) one two same

heard : (system : System) (direction : Direction) (bits at length end : ℕ) (o : Option Event) → at ≤ end
    → IsSomeAnd o (IsEventOf system direction bits at length) → AreWordsBy end (listed o)
heard system direction bits at length end None less is = absurd is
heard system direction bits at length end (Some (Word d w t n)) less is =
    let tick = is.2 in one_by end (Word d w t n) (omega (arith, tick)) (λ from. tt)
heard system direction bits at length end (Some (Refused d f t)) less is =
    let tick = is.2 in one_by end (Refused d f t) (omega (arith, tick)) (λ from. tt)
heard system direction bits at length end (Some (Lost p t)) less is = absurd is

unheard : (end : ℕ) (o : Option Event) → o ≡ None → AreWordsBy end (listed o)
unheard end o none = rw none (none_by end)

window_by : (system : System) (bits at length end : ℕ) (own : Events) → at ≤ end → AreEventsOf system bits at length own
    → AreWordsBy end (event_list own)
window_by system bits at length end own less are =
    let back = reversed_bits bits in
    let first = listed own.first in
    let second = listed own.second in
    elim (in_sync_or_not bits) [
      | inl forward ↦ elim (in_sync_or_not back) [
        | inl backward ↦ both_by end first second (heard _ _ _ _ _ end own.first less (are.forward forward))
            (heard _ _ _ _ _ end own.second less (are.both forward backward))
        | inr not_back ↦ both_by end first second (heard _ _ _ _ _ end own.first less (are.forward forward))
            (unheard end own.second (are.one forward not_back))
      ]
      | inr not_forward ↦ elim (in_sync_or_not back) [
        | inl backward ↦ (
            let mine = are.backward backward not_forward in
            both_by end first second (heard _ _ _ _ _ end own.first less mine.0) (unheard end own.second mine.1))
        | inr not_back ↦ (
            let mine = are.none not_forward not_back in
            both_by end first second (unheard end own.first mine.0) (unheard end own.second mine.1))
      ]
    ]

-- the words of cells end with these at the latest
no_windows : (system : System) (tick : ℕ) (cells : List Cell) (es : List Event) → length cells < 80
    → AreEventsOfWindows system (windows tick cells) es → es ≡ []
no_windows system tick cells es less are =
    subst (λ (ws : List CellWindow). AreEventsOfWindows system ws es) (few tick cells less) are

pub words_by : (system : System) (tick : ℕ) (cells : List Cell) (end : ℕ) (es : List Event) → tick + duration cells ≤ end
    → AreEventsOfWindows system (windows tick cells) es → AreWordsBy end es
words_by system tick [] end es less are =
    same_by end es [] (no_windows system tick [] es (omega arith) are) (none_by end)
words_by system tick (cell ∷ cells) end es less are =
    elim (cases_lt (length (cell ∷ cells)) 80) [
      | inl fewer ↦ same_by end es [] (no_windows system tick (cell ∷ cells) es fewer are) (none_by end)
      | inr many ↦ (
          let split = subst (λ (ws : List CellWindow). AreEventsOfWindows system ws es)
          (windows_cons tick cell cells (omega arith)) are in
          let ends : tick + duration (take 80 (cell ∷ cells)) ≤ end = omega (arith, front_within 80 (cell ∷ cells)) in
          same_by end es _ split.4 (both_by end (event_list split.0) split.1
          (window_by system _ _ _ end split.0 ends split.2)
          (words_by system (tick + duration (cell ∷ [])) cells end split.1
          (omega (arith, duration_of cell cells)) split.3)))
    ]

-- ---- the windows that begin at a cell or later

pub record Split (system : System) (tick : ℕ) (older cells : List Cell) (events : List Event) : Type 0 where
  pub past : List Event
  pub later : List Event
  pub are : events ≡ past ++ later
  pub words : AreEventsOfWindows system (windows (tick + duration older) cells) later
  pub before : AreWordsBy (tick + duration older + duration (take 79 cells)) past
  pub no_break : (from : ℕ) → All (LostBy from) past

pub words_alone : (end : ℕ) (es : List Event) → AreWordsBy end es → (from : ℕ) → All (LostBy from) es
words_alone end es are from = λ k d within. (are k d within).1 from

pub split : (system : System) (tick : ℕ) (older cells : List Cell) (es : List Event)
    → AreEventsOfWindows system (windows tick (older ++ cells)) es → Split system tick older cells es
split system tick [] cells es are =
    let same : tick ≡ tick + duration [] = omega arith in
    record {
      past = [];
      later = es;
      are = refl;
      words = subst (λ t. AreEventsOfWindows system (windows t cells) es) same are;
      before = none_by _;
      no_break = λ from. All-nil (LostBy from);
    }
split system tick (cell ∷ older) cells es are =
    let long = length-append older cells in
    elim (cases_lt (length (older ++ cells)) 79) [
      | inl fewer ↦ (
          let none : es ≡ [] = no_windows system tick (cell ∷ (older ++ cells)) es (omega arith) are in
          record {
            past = [];
            later = [];
            are = none;
            words = subst (λ (ws : List CellWindow). AreEventsOfWindows system ws [])
                (sym (few (tick + duration (cell ∷ older)) cells (omega arith))) refl;
            before = none_by _;
            no_break = λ from. All-nil (LostBy from);
          })
      | inr many ↦ (
          let begin = tick + duration (cell ∷ []) in
          let first = subst (λ (ws : List CellWindow). AreEventsOfWindows system ws es)
          (windows_cons tick cell (older ++ cells) many) are in
          let more = split system begin older cells first.1 first.3 in
          let place : begin + duration older ≡ tick + duration (cell ∷ older) = omega (arith, duration_of cell older) in
          let own = event_list first.0 in
          let window_end = tick + duration (take 80 (cell ∷ (older ++ cells))) in
          let alone = words_alone window_end own (window_by system _ _ _ window_end first.0 (omega arith) first.2) in
          record {
            past = own ++ more.past;
            later = more.later;
            are = first.4 ∙ ap (λ (e : List Event). own ++ e) more.are ∙ sym (append_assoc own more.past more.later);
            words = subst (λ t. AreEventsOfWindows system (windows t cells) more.later) place more.words;
            before =
                let end = tick + duration (cell ∷ older) + duration (take 79 cells) in
                let fewer = front_longer cells (80 - length (cell ∷ older)) 79 (omega arith) in
                let ends : window_end ≤ end = omega (arith, front_most 80 (cell ∷ older) cells, fewer) in
                both_by end own more.past (window_by system _ _ _ end first.0 ends first.2)
                (subst (λ t. AreWordsBy (t + duration (take 79 cells)) more.past) place more.before);
            no_break = λ from. All-append (LostBy from) own more.past (alone from) (more.no_break from);
          })
    ]

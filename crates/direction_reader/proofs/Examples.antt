-- The events of small recordings, computed. Which stretches they have, and which bits spell a word, say the laws of the
-- crates below.
use Rattle.std.proofs.Common.{◌≡◌, ℕ, Bool, true, false, List, [], ◌∷◌, ◌++◌, Some, None, append-nil, refl, sym}
use Rattle.std.specs.Prelude.{◌==◌}
use Rattle.std.specs.Int.{reverse_bits_onto}
use Rattle.std.proofs.lemmas.Bool.{eqb-true, eqb-false}
use Rattle.biphase.specs.declared.cell.Cell.{Cell}
use Rattle.biphase.specs.declared.cell.Cell.TheVariants.{One}
use Rattle.biphase.specs.declared.profile.Profile.TheVariants.{Normal}
use Rattle.cell_tracker.specs.Recording.{cells_of, stretch_of, recording}
use Rattle.cell_tracker.specs.Stretch.{Stretch, AreStretches, begun, with_break, with_cell}
use Rattle.tc_address.specs.declared.count.Count.TheVariants.{C25}
use Rattle.tc_address.specs.declared.system.System.{System}
use Rattle.tc_address.specs.declared.system.System.TheVariants.{F25}
use Rattle.tc_address.specs.declared.direction.Direction.TheVariants.{Forward, Backward}
use Rattle.tc_bits.specs.Register.{number_in}
use Rattle.tc_bits.specs.declared.fault.FieldFault.TheVariants.{FrameUnits}
use Rattle.ltc_word.specs.declared.places.TheConstants.{SYNC, SYNC_PATTERN}
use Rattle.ltc_word.specs.declared.word.LtcWord.{LtcWord}
use Rattle.ltc_word.specs.declared.word.WordFault.TheVariants.{Field}
use Rattle.ltc_word.specs.Fault.{first_fault, wrong_sync_bit}
use Rattle.ltc_word.specs.Reversal.{EndsInSync, reversed_bits}
use Rattle.ltc_word.specs.Spelling.{Spells, word_with}
use Rattle.tc_bits.specs.Fields.{flags}
use Rattle.direction_reader.specs.declared.event.Event.{Event}
use Rattle.direction_reader.specs.declared.event.Event.TheVariants.{Word, Refused, Lost}
use Rattle.direction_reader.specs.declared.event.Events.{Events}
use Rattle.direction_reader.specs.Candidate.{AreEventsOf}
use Rattle.direction_reader.specs.Events.{no_events, one_event, event_list}
use Rattle.direction_reader.specs.Gathered.{AreEventsOfWindows, AreGathered}
use Rattle.direction_reader.specs.Gathered.{begin_of}
use Rattle.direction_reader.specs.Windows.{CellWindow, window_at, windows}
use Rattle.direction_reader.specs.ListEvents.{break_events}

-- whether bits end in the sync word
abbrev in_sync : ℕ → Bool
in_sync bits = number_in SYNC bits == SYNC_PATTERN

is : (bits : ℕ) → in_sync bits ≡ true → EndsInSync bits
is bits test = eqb-true (number_in SYNC bits) SYNC_PATTERN test

is_not : (bits : ℕ) → in_sync bits ≡ false → ¬ EndsInSync bits
is_not bits test = eqb-false (number_in SYNC bits) SYNC_PATTERN test

-- a window that is no candidate
no_candidate : (system : System) (bits end length : ℕ) → in_sync bits ≡ false → in_sync (reversed_bits bits) ≡ false
    → AreEventsOf system bits end length no_events
no_candidate system bits end length not_forward not_backward = record {
  forward = λ forward. absurd (is_not bits not_forward forward);
  backward = λ backward _. absurd (is_not (reversed_bits bits) not_backward backward);
  both = λ forward _. absurd (is_not bits not_forward forward);
  one = λ forward _. absurd (is_not bits not_forward forward);
  none = λ _ _. (refl, refl);
}

-- a window that is a word, read forward
word_forward : (system : System) (bits end length : ℕ) (word : LtcWord) → in_sync bits ≡ true
    → in_sync (reversed_bits bits) ≡ false
    → Spells system word bits → AreEventsOf system bits end length (one_event (Word Forward word end length))
word_forward system bits end length word forward not_backward spells = record {
  forward = λ _. (refl, spells, refl, refl);
  backward = λ backward _. absurd (is_not (reversed_bits bits) not_backward backward);
  both = λ _ backward. absurd (is_not (reversed_bits bits) not_backward backward);
  one = λ _ _. refl;
  none = λ not_forward _. absurd (not_forward (is bits forward));
}

-- read backward
word_backward : (system : System) (bits end length : ℕ) (word : LtcWord) → in_sync bits ≡ false
    → in_sync (reversed_bits bits) ≡ true
    → Spells system word (reversed_bits bits) → AreEventsOf system bits end length
    (one_event (Word Backward word end length))
word_backward system bits end length word not_forward backward spells = record {
  forward = λ forward. absurd (is_not bits not_forward forward);
  backward = λ _ _. ((refl, spells, refl, refl), refl);
  both = λ forward _. absurd (is_not bits not_forward forward);
  one = λ forward _. absurd (is_not bits not_forward forward);
  none = λ _ not_backward. absurd (not_backward (is (reversed_bits bits) backward));
}

-- a candidate both ways, whose units of frames are wrong both ways
abbrev refused_twice : ℕ → Events
refused_twice end = record {
  first = Some (Refused Forward FrameUnits end);
  second =
      Some (Refused Backward FrameUnits end);
}

both_ways : (system : System) (bits end length : ℕ) → in_sync bits ≡ true → in_sync (reversed_bits bits) ≡ true
    → first_fault system bits ≡ Some (Field FrameUnits)
    → first_fault system (reversed_bits bits) ≡ Some (Field FrameUnits)
    → AreEventsOf system bits end length (refused_twice end)
both_ways system bits end length forward backward first second = record {
  forward = λ _. (refl, first, refl);
  backward = λ _ not_forward. absurd (not_forward (is bits forward));
  both = λ _ _. (refl, second, refl);
  one = λ _ not_backward. absurd (not_backward (is (reversed_bits bits) backward));
  none = λ not_forward _. absurd (not_forward (is bits forward));
}

-- no event of a window, and then the others
abbrev quiet_then : (system : System) (window : CellWindow) (more : List CellWindow) (events : List Event)
    → in_sync window.bits ≡ false → in_sync (reversed_bits window.bits) ≡ false → AreEventsOfWindows system more events
    → AreEventsOfWindows system (window ∷ more) events
quiet_then system window more events not_forward not_backward others = (
  no_events,
  events,
  no_candidate system window.bits window.end window.length not_forward not_backward,
  others,
  refl,
)

-- the last window
last_window : (system : System) (window : CellWindow) (own : Events)
    → AreEventsOf system window.bits window.end window.length own
    → AreEventsOfWindows system (window ∷ []) (event_list own)
last_window system window own are = (own, [], are, refl, sym (append-nil (event_list own)))

-- the only stretch of a list
only_stretch : (system : System) (intervals : List ℕ) (stretch : Stretch) (own : List Event)
    → AreStretches Normal intervals (stretch ∷ [])
    → AreEventsOfWindows system (windows (begin_of intervals stretch) stretch.cells) own
    → AreGathered system Normal intervals (own ++ break_events intervals stretch.broken_at)
only_stretch system intervals stretch own are windows = (
  stretch ∷ [],
  are,
  (
    own ++ break_events intervals stretch.broken_at,
    [],
    (own, windows, refl),
    refl,
    sym
        (append-nil (own ++ break_events intervals stretch.broken_at)),
  ),
)

-- the word of 00:00:00:00 at 25 frames, behind a zero and a one
abbrev pub midnight : LtcWord
midnight = word_with C25 0 0 0 0 (flags false false false false false) 0 true

abbrev Spelled : Type 0
Spelled = Spells F25 midnight 0xbffc0800000000000000

abbrev forward_cells : List Cell
forward_cells = cells_of 82 0x2fff02000000000000002

forward_windows : Spelled → AreEventsOfWindows F25 (windows 0 forward_cells) (Word Forward midnight 1968 1920 ∷ [])
unfolding cells_of reverse_bits_onto
forward_windows spelled =
    quiet_then F25 (window_at 0 forward_cells 0)
    (window_at 0 forward_cells 1 ∷ window_at 0 forward_cells 2 ∷ []) _ refl refl
    (quiet_then F25 (window_at 0 forward_cells 1) (window_at 0 forward_cells 2 ∷ []) _ refl refl
    (last_window F25 (window_at 0 forward_cells 2) (one_event (Word Forward midnight 1968 1920))
    (word_forward F25 0xbffc0800000000000000 1968 1920 midnight refl refl spelled)))

pub forward : Spelled → AreStretches Normal (recording 82 0x2fff02000000000000002)
    (stretch_of 82 0x2fff02000000000000002 None ∷ [])
    → AreGathered F25 Normal (recording 82 0x2fff02000000000000002) (Word Forward midnight 1968 1920 ∷ [])
forward spelled are = only_stretch F25 (recording 82 0x2fff02000000000000002)
    (stretch_of 82 0x2fff02000000000000002 None) _ are (forward_windows spelled)

-- with an interval behind it at which its stretch breaks
pub broken : Spelled → AreStretches Normal (recording 82 0x2fff02000000000000002 ++ 5 ∷ [])
    (stretch_of 82 0x2fff02000000000000002 (Some 97) ∷ [])
    → AreGathered F25 Normal (recording 82 0x2fff02000000000000002 ++ 5 ∷ [])
    (Word Forward midnight 1968 1920 ∷ Lost 97 1973 ∷ [])
unfolding cells_of
broken spelled are =
    only_stretch F25 (recording 82 0x2fff02000000000000002 ++ 5 ∷ []) (stretch_of 82 0x2fff02000000000000002 (Some 97))
    (Word Forward midnight 1968 1920 ∷ []) are (forward_windows spelled)

-- with a half behind it that waits
pub half : Spelled → AreStretches Normal (recording 82 0x2fff02000000000000002 ++ 12 ∷ [])
    (stretch_of 82 0x2fff02000000000000002 None ∷ [])
    → AreGathered F25 Normal (recording 82 0x2fff02000000000000002 ++ 12 ∷ []) (Word Forward midnight 1968 1920 ∷ [])
half spelled are =
    only_stretch F25 (recording 82 0x2fff02000000000000002 ++ 12 ∷ [])
    (stretch_of 82 0x2fff02000000000000002 None) _ are (forward_windows spelled)

-- the word from its end, behind a zero
abbrev backward_cells : List Cell
backward_cells = cells_of 81 0x207ffa

pub backward : Spelled → AreStretches Normal (recording 81 0x207ffa) (stretch_of 81 0x207ffa None ∷ [])
    → AreGathered F25 Normal (recording 81 0x207ffa) (Word Backward midnight 1944 1920 ∷ [])
unfolding cells_of reverse_bits_onto
backward spelled are =
    only_stretch F25 (recording 81 0x207ffa) (stretch_of 81 0x207ffa None) (Word Backward midnight 1944 1920 ∷ []) are
    (quiet_then F25 (window_at 0 backward_cells 0) (window_at 0 backward_cells 1 ∷ []) _ refl refl
    (last_window F25 (window_at 0 backward_cells 1) (one_event (Word Backward midnight 1944 1920))
    (word_backward F25 0x103ffd 1944 1920 midnight refl refl spelled)))

-- 80 bits that begin and end in the sync word, behind a zero
abbrev both_cells : List Cell
both_cells = cells_of 81 0x17ff80000000000007ffa

pub both : AreStretches Normal (recording 81 0x17ff80000000000007ffa) (stretch_of 81 0x17ff80000000000007ffa None ∷ [])
    → AreGathered F25 Normal (recording 81 0x17ff80000000000007ffa)
    (Refused Forward FrameUnits 1944 ∷ Refused Backward FrameUnits 1944 ∷ [])
unfolding cells_of reverse_bits_onto wrong_sync_bit
both are =
    only_stretch F25 (recording 81 0x17ff80000000000007ffa) (stretch_of 81 0x17ff80000000000007ffa None)
    (event_list (refused_twice 1944)) are
    (quiet_then F25 (window_at 0 both_cells 0) (window_at 0 both_cells 1 ∷ []) _ refl refl
    (last_window F25 (window_at 0 both_cells 1) (refused_twice 1944)
    (both_ways F25 0xbffc0000000000003ffd 1944 1920 refl refl refl refl)))

-- a stretch that breaks, and one that begins there
pub two : AreStretches Normal (24 ∷ 12 ∷ 24 ∷ 12 ∷ 12 ∷ [])
    (with_break 2 (begun 0 24) ∷ with_cell (One 12 12) (begun 2 24) ∷ [])
    → AreGathered F25 Normal (24 ∷ 12 ∷ 24 ∷ 12 ∷ 12 ∷ []) (Lost 2 60 ∷ [])
two are = (
  with_break 2 (begun 0 24) ∷ with_cell (One 12 12) (begun 2 24) ∷ [],
  are,
  (Lost 2 60 ∷ [], [], ([], refl, refl), ([], [], ([], refl, refl), refl, refl), refl),
)

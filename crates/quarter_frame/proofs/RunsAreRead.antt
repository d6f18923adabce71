-- The runs of frames that go on are read one after another.
use Rattle.std.proofs.Common.{◌≡◌, ℕ, ◌+◌, ◌*◌, Bool, true, false, List, [], ◌∷◌, ◌++◌, length, Option, Some, None}
use Rattle.std.proofs.Common.{refl, sym, ◌∙◌, ap, subst, append_assoc, append-nil, length-append, arith}
use Rattle.std.specs.List.{take_while}
use Rattle.tc_address.specs.declared.direction.Direction.{Direction}
use Rattle.tc_address.specs.declared.direction.Direction.TheVariants.{Forward, Backward}
use Rattle.tc_address.specs.Label.{Address, IsLabel}
use Rattle.flywheel.specs.declared.heard.HeardWord.{HeardWord}
use Rattle.flywheel.specs.declared.frame.Frame.{Frame}
use Rattle.flywheel.specs.declared.frame.Frame.TheVariants.{Heard, Invented, Gone}
use Rattle.flywheel.specs.Frames.{frames}
use Rattle.mtc_reader.specs.declared.event.MtcEvent.{MtcEvent}
use Rattle.mtc_reader.specs.Events.{events_in}
use Rattle.quarter_frame.specs.Message.{full_of}
use Rattle.quarter_frame.specs.ReadAgain.{all_placed, placed, read_from, read_of, run_length, run_read, AreLabelled}
use Rattle.quarter_frame.specs.ReadAgain.{IsNeighbour, Placed}
use Rattle.quarter_frame.specs.Runs.{four_of, is_even, mtc_from, mtc_of, quarters_from, run_text}
use Rattle.quarter_frame.proofs.GoesOn.{frames_go_on, placed_at, GoOn, Laws}
use Rattle.quarter_frame.proofs.FramesOfARun.{one_before}
use Rattle.quarter_frame.proofs.RunIsRead.{run_of, ReadsRuns}
use Rattle.flywheel.specs.GoOn.{goes_on}

-- no frame came before, or an end
abbrev IsFresh : Bool → Option Placed → Type 0
IsFresh fresh None = fresh ≡ true
IsFresh fresh (Some f) = fresh ≡ false

-- ---- how long a run is

four_bytes : (label : Address) (direction : Direction) (even : Bool) → length (four_of label direction even) ≡ 8
four_bytes label Forward true = refl
four_bytes label Forward false = refl
four_bytes label Backward true = refl
four_bytes label Backward false = refl

one_more : (label : Address) (direction : Direction) (even : Bool) (text : List ℕ) (fs : List Placed)
    → length text ≡ 8 * length fs
    → length (four_of label direction even ++ text) ≡ 8 * length (placed_at label direction ∷ fs)
one_more label direction even text fs is =
    let sum = length-append (four_of label direction even) text in
    let eight = four_bytes label direction even in
    omega (arith, sum, eight, is)

eight_each : (position : ℕ) (fs : List Frame) → length (quarters_from position fs) ≡ 8 * length (all_placed fs)
eight_each position [] = refl
eight_each position (Heard label direction joined tick ∷ more) =
    one_more label direction (is_even position) _ (all_placed more) (eight_each (position + 1) more)
eight_each position (Invented label direction k tick ∷ more) =
    one_more label direction (is_even position) _ (all_placed more) (eight_each (position + 1) more)
eight_each position (Gone tick ∷ more) = eight_each (position + 1) more

-- behind a run that a heard frame begins
behind_run : (front : List ℕ) (label : Address) (direction : Direction) (joined : Bool) (tick : ℕ) (others : List Frame)
    → length (front ++ run_text (Heard label direction joined tick) others)
    ≡ length front + run_length (Heard label direction joined tick) others
behind_run front label direction joined tick others =
    let quarters = quarters_from 0 (Heard label direction joined tick ∷ others) in
    let whole = length-append front (full_of label ++ quarters) in
    let run = length-append (full_of label) quarters in
    let each = eight_each 0 (Heard label direction joined tick ∷ others) in
    omega (arith, whole, run, each)

-- ---- run by run

-- a text is read behind whatever was read before
abbrev IsReadAs : List ℕ → List ℕ → List MtcEvent → Type 0
IsReadAs front text events = events_in (front ++ text) ≡ events_in front ++ events

both : (front one two : List ℕ) (first second : List MtcEvent) → IsReadAs front one first
    → IsReadAs (front ++ one) two second → IsReadAs front (one ++ two) (first ++ second)
both front one two first second a b =
    ap events_in (sym (append_assoc front one two)) ∙ b ∙ ap (λ (es : List MtcEvent). es ++ second) a
    ∙ append_assoc (events_in front) first second

nothing : (front : List ℕ) → IsReadAs front [] []
nothing front = ap events_in (append-nil front) ∙ sym (append-nil (events_in front))

-- all that a text gives behind a front, from its place on
abbrev pub IsReadFrom : List ℕ → Bool → List Frame → Type 0
IsReadFrom front fresh fs = IsReadAs front (mtc_from fresh fs) (read_from (length front) fresh fs)

-- the runs from one on that a heard frame begins
run_and_more : ReadsRuns → Laws → (front : List ℕ) (label : Address) (direction : Direction) (joined : Bool) (tick : ℕ)
    (more : List Frame) → IsLabel label → GoOn (Some (placed_at label direction)) more
    → IsReadFrom (front ++ run_text (Heard label direction joined tick) (take_while goes_on more)) false more
    → IsReadAs front (run_text (Heard label direction joined tick) (take_while goes_on more) ++ mtc_from false more)
    (run_read (length front) (Heard label direction joined tick) (take_while goes_on more)
    ++ read_from (length front + run_length (Heard label direction joined tick) (take_while goes_on more)) false more)
run_and_more r l front label direction joined tick more is go behind =
    let others = take_while goes_on more in
    let run = run_text (Heard label direction joined tick) others in
    both front run (mtc_from false more) (run_read (length front) (Heard label direction joined tick) others)
    (read_from (length front + run_length (Heard label direction joined tick) others) false more)
    (run_of r l front (placed_at label direction) more is go)
    (behind
    ∙ ap (λ (at : ℕ). events_in (front ++ run) ++ read_from at false more)
    (behind_run front label direction joined tick others))

pub all_read : ReadsRuns → Laws → (fresh : Bool) (since : Option Placed) (front : List ℕ) (fs : List Frame)
    → IsFresh fresh since → GoOn since fs → IsReadFrom front fresh fs
all_read r l fresh since front [] is go = nothing front
all_read r l true None front (Heard label direction joined tick ∷ more) is go =
    run_and_more r l front label direction joined tick more go.0 go.2
    (all_read r l false (Some (placed_at label direction))
    (front ++ run_text (Heard label direction joined tick) (take_while goes_on more)) more refl go.2)
all_read r l true None front (Invented label direction k tick ∷ more) is go = absurd go.1
all_read r l true None front (Gone tick ∷ more) is go = all_read r l true None front more refl go
all_read r l true (Some f) front (frame ∷ more) is go = cc
all_read r l false None front (frame ∷ more) is go = cc
all_read r l false (Some f) front (Heard label direction true tick ∷ more) is go =
    all_read r l false (Some (placed_at label direction)) front more refl go.2
all_read r l false (Some f) front (Heard label direction false tick ∷ more) is go =
    run_and_more r l front label direction false tick more go.0 go.2
    (all_read r l false (Some (placed_at label direction))
    (front ++ run_text (Heard label direction false tick) (take_while goes_on more)) more refl go.2)
all_read r l false (Some f) front (Invented label direction k tick ∷ more) is go =
    all_read r l false (Some (placed_at label direction)) front more refl go.2
all_read r l false (Some f) front (Gone tick ∷ more) is go = all_read r l true None front more refl go

-- the frames of words
pub frames_are_read : ReadsRuns → Laws → (limit last : ℕ) (words : List HeardWord) → AreLabelled words
    → events_in (mtc_of (frames limit words last)) ≡ read_of (frames limit words last)
frames_are_read r l limit last words are =
    all_read r l true None [] (frames limit words last) refl (frames_go_on l limit words last are)

-- ---- two frames that follow each other

neighbours_in : Laws → (since : Option Placed) (front rest : List Frame) (first second : Frame)
    → GoOn since (front ++ first ∷ second ∷ rest) → goes_on second ≡ true → (a b : Placed) × (placed first ≡ a ∷ [])
    × (placed second ≡ b ∷ []) × IsNeighbour a b
neighbours_in l since [] rest (Heard label direction joined tick) (Heard next way other later) go on =
    (placed_at label direction, placed_at next way, refl, refl, one_before l _ _ go.0 (go.2.1 on))
neighbours_in l since [] rest (Heard label direction joined tick) (Invented next way k later) go on =
    (placed_at label direction, placed_at next way, refl, refl, one_before l _ _ go.0 go.2.1)
neighbours_in l since [] rest (Heard label direction joined tick) (Gone later) go on = cc
neighbours_in l since [] rest (Invented label direction n tick) (Heard next way other later) go on =
    (placed_at label direction, placed_at next way, refl, refl, one_before l _ _ go.0 (go.2.1 on))
neighbours_in l since [] rest (Invented label direction n tick) (Invented next way k later) go on =
    (placed_at label direction, placed_at next way, refl, refl, one_before l _ _ go.0 go.2.1)
neighbours_in l since [] rest (Invented label direction n tick) (Gone later) go on = cc
neighbours_in l since [] rest (Gone tick) (Heard next way other later) go on = absurd (go.1 on)
neighbours_in l since [] rest (Gone tick) (Invented next way k later) go on = absurd go.1
neighbours_in l since [] rest (Gone tick) (Gone later) go on = cc
neighbours_in l since (Heard label direction joined tick ∷ front) rest first second go on =
    neighbours_in l _ front rest first second go.2 on
neighbours_in l since (Invented label direction k tick ∷ front) rest first second go on =
    neighbours_in l _ front rest first second go.2 on
neighbours_in l since (Gone tick ∷ front) rest first second go on = neighbours_in l _ front rest first second go on

pub frames_are_neighbours : Laws → (limit last : ℕ) (words : List HeardWord) (front rest : List Frame)
    (first second : Frame) → AreLabelled words → frames limit words last ≡ front ++ first ∷ second ∷ rest
    → goes_on second ≡ true
    → (a b : Placed) × (placed first ≡ a ∷ []) × (placed second ≡ b ∷ []) × IsNeighbour a b
frames_are_neighbours l limit last words front rest first second are is on =
    neighbours_in l None front rest first second
    (subst (λ fs. GoOn None fs) is (frames_go_on l limit words last are)) on

-- A clean recording is read back: its cells are a chain, each of its words is spelled, and a word takes 80 cells of one
-- length.
use Rattle.std.proofs.Common.{◌≡◌, ℕ, suc, ◌+◌, ◌*◌, Bool, true, false, List, [], ◌∷◌, ◌++◌, length, take}
use Rattle.std.proofs.Common.{drop, refl, sym, subst, ap, ◌∙◌, arith}
use Rattle.std.specs.Prelude.{sum}
use Rattle.std.proofs.lemmas.List.{map-append, length-map}
use Rattle.std.proofs.Math.Seq.{take-append_seam, drop-append_seam}
use Rattle.std.proofs.lemmas.List.Sums.{sum_by-append}
use Rattle.direction_reader.specs.PlayedLemmas.{length-low_bits}
use Rattle.biphase.specs.declared.cell.Cell.{Cell}
use Rattle.biphase.specs.declared.profile.Profile.{Profile}
use Rattle.biphase.specs.declared.profile.Profile.TheVariants.{Normal}
use Rattle.biphase.specs.Chain.{bits, flat, intervals_of, IsChain}
use Rattle.biphase.specs.Shape.{Shape, cell_with, shape_with, shaped, IsShape, IsShaped}
use Rattle.tc_address.specs.declared.system.System.{System}
use Rattle.tc_address.specs.Count.{system_with}
use Rattle.tc_address.specs.Label.{Address, IsLabel}
use Rattle.ltc_word.specs.Spelled.{spelling_of}
use Rattle.ltc_word.specs.Spelling.{Spells}
use Rattle.direction_reader.specs.declared.event.Event.{Event}
use Rattle.direction_reader.specs.declared.event.Event.TheVariants.{Word}
use Rattle.direction_reader.specs.ListEvents.{duration, AreEvents}
use Rattle.direction_reader.specs.Played.{Played, AreSpelled, bits_of_words, events_of_words, in_time}
use Rattle.direction_reader.specs.Played.{played_bits}
use Rattle.flywheel.specs.declared.frame.Frame.{Frame}
use Rattle.flywheel.specs.declared.frame.Frame.TheVariants.{Heard, Invented, Gone}
use Rattle.ltc_jam.specs.Cells.{clean_cells, clean_events, events_of_played, steady_cells, words_of_frames}
use Rattle.ltc_jam.specs.Labels.{AreFramesOf, IsLabelOf}
use Rattle.ltc_jam.specs.Word.{word_of}

-- what the laws of the crates below say, and that of this one
abbrev pub WordsAreSpelled : Type 0
WordsAreSpelled = (label : Address) → IsLabel label → Spells (system_with label.count) (word_of label)
    (spelling_of (word_of label))

abbrev pub ShapesAreChains : Type 0
ShapesAreChains = (shape : Shape) (list : List Bool) → IsShape shape → IsChain Normal (shaped shape list)

abbrev pub ShapesHaveBits : Type 0
ShapesHaveBits = (shape : Shape) (list : List Bool) → bits (shaped shape list) ≡ list

abbrev pub WordsAreRead : Type 0
WordsAreRead = (system : System) (profile : Profile) (cells : List Cell) (words : List Played) → IsChain profile cells
    → bits cells ≡ false ∷ true ∷ bits_of_words words → AreSpelled system words
    → AreEvents system profile (flat cells) (events_of_words (duration (take 2 cells)) (drop 2 cells) words)

abbrev pub SteadyIsShaped : Type 0
SteadyIsShaped = (cell : ℕ) (list : List Bool) → steady_cells cell list ≡ shaped (shape_with cell cell 0) list

-- ---- each word is spelled

word_spelled : WordsAreSpelled → (system : System) (label : Address) → IsLabelOf system label
    → Spells system (word_of label) (spelling_of (word_of label))
word_spelled law system label is = subst (λ (s : System). Spells s (word_of label) (spelling_of (word_of label))) is.1
    (law label is.0)

words_spelled : WordsAreSpelled → (system : System) (frames : List Frame) → AreFramesOf system frames
    → AreSpelled system (words_of_frames frames)
words_spelled law system [] are = tt
words_spelled law system (Heard label direction joined tick ∷ more) are =
    (word_spelled law system label are.0, words_spelled law system more are.1)
words_spelled law system (Invented label direction step tick ∷ more) are =
    (word_spelled law system label are.0, words_spelled law system more are.1)
words_spelled law system (Gone tick ∷ more) are = words_spelled law system more are.1

-- ---- a word takes 80 cells of one length

duration-cons : (cell : Cell) (cells : List Cell) → duration (cell ∷ cells) ≡ sum (intervals_of cell) + duration cells
duration-cons cell cells = sum_by-append (λ (n : ℕ). n) (intervals_of cell) (flat cells)

ticks_of : (cell : ℕ) (bit : Bool) → sum (intervals_of (cell_with cell bit)) ≡ cell
ticks_of cell false = omega arith
ticks_of cell true = omega arith

duration-steady : (cell : ℕ) (list : List Bool) → duration (steady_cells cell list) ≡ length list * cell
duration-steady cell [] = omega arith
duration-steady cell (bit ∷ list) =
    let first = duration-cons (cell_with cell bit) (steady_cells cell list) in
    let one = ticks_of cell bit in
    let rest = duration-steady cell list in
    omega (arith, first, one, rest)

-- ---- its events

events_at : (cell k tick : ℕ) (words : List Played) → tick ≡ (2 + 80 * k) * cell
    → events_of_words tick (steady_cells cell (bits_of_words words)) words ≡ events_of_played cell k words
unfolding events_of_words events_of_played
events_at cell k tick [] e = refl
events_at cell k tick (p ∷ more) e =
    let own = played_bits p in
    let cells = steady_cells cell own in
    let others = steady_cells cell (bits_of_words more) in
    let both : steady_cells cell (own ++ bits_of_words more) ≡ cells ++ others =
    map-append (cell_with cell) own (bits_of_words more) in
    let count : length own ≡ 80 = length-low_bits 80 (in_time p.direction (spelling_of p.word)) in
    let long : length cells ≡ 80 = length-map own (cell_with cell) ∙ count in
    let first : take 80 (steady_cells cell (own ++ bits_of_words more)) ≡ cells =
    ap (λ (l : List Cell). take 80 l) both ∙ ap (λ (n : ℕ). take n (cells ++ others)) (sym long)
    ∙ take-append_seam cells others in
    let rest : drop 80 (steady_cells cell (own ++ bits_of_words more)) ≡ others =
    ap (λ (l : List Cell). drop 80 l) both ∙ ap (λ (n : ℕ). drop n (cells ++ others)) (sym long)
    ∙ drop-append_seam cells others in
    let ticks : duration (take 80 (steady_cells cell (own ++ bits_of_words more))) ≡ 80 * cell =
    ap duration first ∙ duration-steady cell own ∙ ap (λ (n : ℕ). n * cell) count in
    let end : tick + 80 * cell ≡ (82 + 80 * k) * cell = omega (arith, e) in
    let next : tick + 80 * cell ≡ (2 + 80 * suc k) * cell = omega (arith, e) in
    let later = events_at cell (suc k) (tick + 80 * cell) more next in
    rw (rest, ticks, later) (ap (λ (t : ℕ). Word p.direction p.word t (80 * cell) ∷ events_of_played cell
    (suc k) more) end)

-- ---- all of it

pub clean_is_read : SteadyIsShaped → WordsAreSpelled → ShapesAreChains → ShapesHaveBits → WordsAreRead
    → (system : System) (cell : ℕ) (frames : List Frame)
    → IsShaped cell → AreFramesOf system frames → AreEvents system Normal (flat (clean_cells cell frames))
    (clean_events cell frames)
clean_is_read steady spelled chains have_bits read system cell frames is are =
    let words = words_of_frames frames in
    let list = false ∷ true ∷ bits_of_words words in
    let shape = shape_with cell cell 0 in
    let same = steady cell list in
    let is_shape : IsShape shape = record { from = is; to = is; step = omega arith } in
    let chain : IsChain Normal (steady_cells cell list) =
    subst (λ (cells : List Cell). IsChain Normal cells) (sym same) (chains shape list is_shape) in
    let has : bits (steady_cells cell list) ≡ list = ap bits same ∙ have_bits shape list in
    let first : duration (take 2 (steady_cells cell list)) ≡ (2 + 80 * 0) * cell = omega arith in
    let same_events = events_at cell 0 (duration (take 2 (steady_cells cell list))) words first in
    subst (λ (events : List Event). AreEvents system Normal (flat (clean_cells cell frames)) events) same_events
    (read system Normal (steady_cells cell list) words chain has (words_spelled spelled system frames are))

-- What is made is read back: its cells are a chain, and each of its frames has a label, and so a word with one
-- spelling.
use Rattle.std.proofs.Common.{◌≡◌, ℕ, zero, suc, ◌+◌, Bool, true, false, List, ◌∷◌, refl, subst, arith}
use Rattle.std.specs.Prelude.{ℤ, map, take, drop}
use Rattle.std.specs.List.{range_with_len}
use Rattle.biphase.specs.declared.cell.Cell.{Cell}
use Rattle.biphase.specs.declared.profile.Profile.{Profile}
use Rattle.biphase.specs.declared.profile.Profile.TheVariants.{Normal}
use Rattle.biphase.specs.Chain.{bits, flat, IsChain}
use Rattle.biphase.specs.Shape.{Shape, IsShape, shaped}
use Rattle.direction_reader.specs.ListEvents.{duration, AreEvents}
use Rattle.direction_reader.specs.Played.{Played, AreSpelled, bits_of_words, events_of_words}
use Rattle.flywheel.specs.Frames.{steps_in}
use Rattle.ltc_word.specs.Spelled.{spelling_of}
use Rattle.ltc_word.specs.Spelling.{Spells}
use Rattle.tc_address.specs.declared.count.Count.{Count}
use Rattle.tc_address.specs.declared.direction.Direction.{Direction}
use Rattle.tc_address.specs.declared.system.System.{System}
use Rattle.tc_address.specs.Count.{system_with}
use Rattle.tc_address.specs.Label.{Address, IsLabel}
use Rattle.tc_address.specs.Numbering.{step}
use Rattle.tc_job.specs.Stripe.{IsStripe, Striping}
use Rattle.ltc_jam.specs.Word.{played_as, word_of}
use Rattle.interval_file.specs.KeptIntervals.{ShapesAreIntervals, in_range}
use Rattle.made_commands.specs.Made.{IsReadBack, frames_from, made, made_cells, made_events, made_frames}

-- what the laws of the crates below say
abbrev pub StepsAreValid : Type 0
StepsAreValid = (a : Address) (k : ℤ) → IsLabel a → IsLabel (step a k) × ((step a k).count ≡ a.count)

abbrev pub WordsAreSpelled : Type 0
WordsAreSpelled = (label : Address) → IsLabel label → Spells (system_with label.count) (word_of label)
    (spelling_of (word_of label))

abbrev pub ShapesAreChains : Type 0
ShapesAreChains = (shape : Shape) (list : List Bool) → IsShape shape → IsChain Normal (shaped shape list)

abbrev pub ShapesHaveBits : Type 0
ShapesHaveBits = (shape : Shape) (list : List Bool) → bits (shaped shape list) ≡ list

abbrev pub WordsAreRead : Type 0
WordsAreRead = (system : System) (profile : Profile) (cells : List Cell) (words : List Played) → IsChain profile cells
    → bits cells ≡ false ∷ true ∷ bits_of_words words → AreSpelled system words
    → AreEvents system profile (flat cells) (events_of_words (duration (take 2 cells)) (drop 2 cells) words)

-- ---- each word is spelled

spelled_all : (system : System) (f : ℕ → Played) → ((k : ℕ) → Spells system (f k).word (spelling_of (f k).word))
    → (start frames : ℕ)
    → AreSpelled system (map f (range_with_len start frames))
spelled_all system f each start zero = tt
spelled_all system f each start (suc frames) = (each start, spelled_all system f each (start + 1) frames)

frames_spelled : StepsAreValid → WordsAreSpelled → (direction : Direction) (label : Address) (frames : ℕ)
    → IsLabel label
    → AreSpelled (system_with label.count) (frames_from direction label frames)
unfolding frames_from
frames_spelled law words direction label frames valid =
    let f : ℕ → Played = λ k. played_as direction (step label (steps_in direction k)) in
    let each : (k : ℕ) → Spells (system_with label.count) (f k).word (spelling_of (f k).word) = λ k.
    let there = law label (steps_in direction k) valid in
    let spelled = words (step label (steps_in direction k)) there.0 in
    let P : Count → Type 0 = λ c. Spells (system_with c) (f k).word (spelling_of (f k).word) in
    subst P there.1 spelled in
    spelled_all (system_with label.count) f each 0 frames

-- ---- all of it

events_are : StepsAreValid → WordsAreSpelled → ShapesAreChains → ShapesHaveBits → WordsAreRead → (s : Striping)
    → IsStripe s
    → AreEvents (system_with s.label.count) Normal (flat (made_cells s)) (made_events s)
events_are labels_law words chains have_bits read s is =
    let list = false ∷ true ∷ bits_of_words (made_frames s) in
    read (system_with s.label.count) Normal (made_cells s) (made_frames s) (chains s.shape list is.shape)
    (have_bits s.shape list)
    (frames_spelled labels_law words s.direction s.label s.frames is.label)

pub made_is_read : StepsAreValid → WordsAreSpelled → ShapesAreChains → ShapesHaveBits → ShapesAreIntervals
    → WordsAreRead → (s : Striping) → IsStripe s
    → IsReadBack s (made s)
made_is_read labels_law words chains have_bits intervals read s is =
    let some = is.some_ticks in
    let most = is.not_too_fast in
    record {
      file = record {
        tick_rate = (omega arith, omega arith);
        range = in_range (flat (made_cells s))
            (intervals s.shape (false ∷ true ∷ bits_of_words (made_frames s)) is.shape);
        are = refl;
      };
      events = events_are labels_law words chains have_bits read s is;
    }

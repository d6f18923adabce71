-- A recording is made cell by cell and frame by frame: what was written and what is still to be made are the whole.
use Rattle.std.proofs.Common.{◌≡◌, None, ℕ, zero, suc, ◌+◌, Bool, List, [], ◌∷◌, ◌++◌, refl, sym}
use Rattle.std.proofs.Common.{ap, ap₂, ◌∙◌, append_assoc}
use Rattle.interval_file.specs.declared.header.FileVersion.TheVariants.{One}
use Rattle.interval_file.specs.Grammar.{intervals_bytes}
use Rattle.interval_file.specs.Piece.{spelling}
use Rattle.std.proofs.Common.{arith, w64, to_z, of_z}
use Rattle.std.specs.Prelude.{ℤ, pos, ◌+ℤ◌, map}
use Rattle.std.specs.declared.option.Option.{Option}
use Rattle.std.specs.List.{range_with_len}
use Rattle.std.proofs.lemmas.Int.{ints}
use Rattle.std.proofs.lemmas.List.Concat.{flat_map-append}
use Rattle.flywheel.specs.StepLemmas.{no_steps}
use Rattle.biphase.specs.declared.cell.Cell.{Cell}
use Rattle.biphase.specs.Chain.{flat, intervals_of}
use Rattle.biphase.specs.Shape.{Shape, shaped, shaped_from}
use Rattle.direction_reader.specs.Played.{Played, bits_of_words, low_bits}
use Rattle.flywheel.specs.Frames.{steps_in}
use Rattle.tc_address.specs.declared.direction.Direction.{Direction}
use Rattle.tc_address.specs.declared.direction.Direction.TheVariants.{Forward, Backward}
use Rattle.tc_address.specs.Label.{Address, IsLabel}
use Rattle.tc_address.specs.Numbering.{step}
use Rattle.made_commands.specs.KeptStriping.{cell_bytes, rest_of}
use Rattle.ltc_jam.specs.Word.{played_as, time_bits}
use Rattle.made_commands.specs.Made.{frames_from}

-- the bytes of a cell, and those of the cells after it
cell_bytes-next : (shape next : Shape) (cell : Cell) (bit : Bool) (tail : List Bool) → shaped shape (bit ∷ tail) ≡ cell
    ∷ shaped next tail
    → cell_bytes shape (bit ∷ tail) ≡ intervals_bytes One (intervals_of cell) ++ cell_bytes next tail
cell_bytes-next shape next cell bit tail e =
    ap (λ (cells : List Cell). intervals_bytes One (flat cells)) e ∙ flat_map-append (spelling One) (intervals_of cell)
    (flat (shaped next tail))

-- a cell was pushed
pub cell_pushed : (old new : List ℕ) (shape next : Shape) (cell : Cell) (bit : Bool) (tail : List Bool)
    → new ≡ old ++ intervals_bytes One (intervals_of cell)
    → shaped shape (bit ∷ tail) ≡ cell ∷ shaped next tail → new ++ cell_bytes next tail ≡ old
    ++ cell_bytes shape (bit ∷ tail)
cell_pushed old new shape next cell bit tail pushed e =
    ap (λ (l : List ℕ). l ++ cell_bytes next tail) pushed ∙ append_assoc old (intervals_bytes One (intervals_of cell))
    (cell_bytes next tail)
    ∙ ap (λ (l : List ℕ). old ++ l) (sym (cell_bytes-next shape next cell bit tail e))

-- ---- frames

-- what the laws of the addresses say of steps
abbrev pub NoStep : Type 0
NoStep = (a : Address) → IsLabel a → step a (pos 0) ≡ a

abbrev pub StepsAddUp : Type 0
StepsAddUp = (a : Address) (j k : ℤ) → step (step a j) k ≡ step a (j +ℤ k)

map_later : {A : Type 0} (f g : ℕ → A) → ((k : ℕ) → f (suc k) ≡ g k) → (start count : ℕ)
    → map f (range_with_len (start + 1) count) ≡ map g (range_with_len start count)
map_later f g same start zero = refl
map_later {A} f g same start (suc count) =
    let rest = map_later f g same (start + 1) count in
    let first : f (start + 1) ≡ g start = let e : start + 1 ≡ suc start = omega arith in rw e (same start) in
    ap₂ (λ (x : A) (xs : List A). x ∷ xs) first rest

one_and_more : (direction : Direction) (k : ℕ) → steps_in direction 1 +ℤ steps_in direction k ≡ steps_in direction
    (suc k)
one_and_more Forward k = omega (arith, ints)
one_and_more Backward k = omega (arith, ints)

-- the step to the next label is a number of the program's
pub one_step_fits : (direction : Direction) → to_z w64 (of_z w64 (steps_in direction 1)) ≡ steps_in direction 1
one_step_fits Forward = refl
one_step_fits Backward = refl

-- the first frame, and those from the next label on
pub frames_from-more : NoStep → StepsAddUp → (direction : Direction) (label : Address) (frames : ℕ) → IsLabel label
    → frames_from direction label (suc frames) ≡ played_as direction label
    ∷ frames_from direction (step label (steps_in direction 1)) frames
unfolding frames_from
frames_from-more none sum direction label frames valid =
    let f : ℕ → Played = λ k. played_as direction (step label (steps_in direction k)) in
    let g : ℕ → Played = λ k. played_as direction (step (step label (steps_in direction 1)) (steps_in direction k)) in
    let next : (k : ℕ) → f (suc k) ≡ g k =
    λ k. ap (played_as direction) (ap (λ (j : ℤ). step label j) (sym (one_and_more direction k))
    ∙ sym (sum label (steps_in direction 1) (steps_in direction k))) in
    let first : f 0 ≡ played_as direction label =
    ap (played_as direction) (ap (λ (j : ℤ). step label j) (no_steps direction) ∙ none label valid) in
    let rest = map_later f g next 0 frames in
    rw (first, rest) refl

-- a frame was written
pub frame_written : NoStep → StepsAddUp → (direction : Direction) (label : Address) (left frames : ℕ) (old new : List ℕ)
    (shape later : Shape) → IsLabel label
    → left + 1 ≡ frames
    → ((tail : List Bool) → new ++ cell_bytes later tail ≡ old
    ++ cell_bytes shape (low_bits 80 (time_bits direction label) ++ tail))
    → new ++ cell_bytes later (bits_of_words (frames_from direction (step label (steps_in direction 1)) left))
    ≡ old ++ cell_bytes shape (bits_of_words (frames_from direction label frames))
frame_written none sum direction label left frames old new shape later valid count written =
    let rest = frames_from direction (step label (steps_in direction 1)) left in
    let one : suc left ≡ frames = omega arith in
    let all : frames_from direction label frames ≡ played_as direction label ∷ rest =
    rw one at (frames_from-more none sum direction label left valid) in
    written (bits_of_words rest) ∙ ap (λ (ps : List Played). old ++ cell_bytes shape (bits_of_words ps)) (sym all)

-- ---- the end

pub nothing_left : (header : Option (List ℕ)) (shape : Shape) (direction : Direction) (label : Address) (frames : ℕ)
    → header ≡ None → frames ≡ 0
    → rest_of header shape direction label frames ≡ []
unfolding frames_from shaped_from
nothing_left header shape direction label frames none zero_left = rw (none, zero_left) refl

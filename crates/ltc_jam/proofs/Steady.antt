-- Cells of one length are put one after another as their bits are, and are those of a shape that stays.
use Rattle.std.proofs.Common.{◌≡◌, ℕ, suc, ◌-◌, Bool, true, false, List, [], ◌∷◌, ◌++◌, refl, sym}
use Rattle.std.proofs.Common.{ap, ap₂, ◌∙◌, arith, append_assoc}
use Rattle.std.specs.List.{flat_map}
use Rattle.std.proofs.lemmas.List.{map-append}
use Rattle.std.proofs.lemmas.List.Concat.{flat_map-append}
use Rattle.biphase.specs.declared.cell.Cell.{Cell}
use Rattle.biphase.specs.Chain.{flat, intervals_of}
use Rattle.biphase.specs.Shape.{cell_with, length_at, shape_with, shaped_from}
use Rattle.direction_reader.specs.Played.{bits_of_words, low_bits, played_bits}
use Rattle.flywheel.specs.declared.frame.Frame.{Frame}
use Rattle.ltc_jam.specs.Cells.{clean_cells, intervals_of_frame, intervals_of_lead, steady_cells, words_of}
use Rattle.ltc_jam.specs.Cells.{words_of_frames}

-- ---- one after another

pub flat_steady : (cell : ℕ) (a b : List Bool) → flat (steady_cells cell (a ++ b)) ≡ flat (steady_cells cell a)
    ++ flat (steady_cells cell b)
flat_steady cell a b =
    ap flat (map-append (cell_with cell) a b) ∙ flat_map-append intervals_of (steady_cells cell a) (steady_cells cell b)

-- the frames one after another
of_frames : (cell : ℕ) (frames : List Frame)
    → flat (steady_cells cell (bits_of_words (words_of_frames frames))) ≡ flat_map (intervals_of_frame cell) frames
of_frames cell [] = refl
of_frames cell (frame ∷ more) =
    ap (λ (l : List Bool). flat (steady_cells cell l)) (flat_map-append played_bits (words_of frame)
    (words_of_frames more))
    ∙ flat_steady cell (bits_of_words (words_of frame)) (bits_of_words (words_of_frames more))
    ∙ ap (λ (l : List ℕ). intervals_of_frame cell frame ++ l) (of_frames cell more)

-- and what comes first before them
pub frame_by_frame : (cell : ℕ) (frames : List Frame)
    → flat (clean_cells cell frames) ≡ intervals_of_lead cell ++ flat_map (intervals_of_frame cell) frames
frame_by_frame cell frames =
    flat_steady cell (false ∷ true ∷ []) (bits_of_words (words_of_frames frames))
    ∙ ap (λ (l : List ℕ). intervals_of_lead cell ++ l) (of_frames cell frames)

-- ---- the bits that are left

-- none
pub no_bits_left : (done number : ℕ) → done ≡ 80 → low_bits (80 - done) number ≡ []
unfolding low_bits
no_bits_left done number e = let none : 80 - done ≡ 0 = omega arith in ap (λ (n : ℕ). low_bits n number) none

-- a cell more of the bits that are left
pub cell_more : (intervals new whole : List ℕ) (cell : ℕ) (bit : Bool) (tail left : List Bool)
    → new ≡ intervals ++ intervals_of (cell_with cell bit)
    → left ≡ bit ∷ tail → intervals ++ flat (steady_cells cell left) ≡ whole
    → new ++ flat (steady_cells cell tail) ≡ whole
cell_more intervals new whole cell bit tail left pushed more all =
    ap (λ (l : List ℕ). l ++ flat (steady_cells cell tail)) pushed
    ∙ append_assoc intervals (intervals_of (cell_with cell bit)) (flat (steady_cells cell tail))
    ∙ ap (λ (l : List Bool). intervals ++ flat (steady_cells cell l)) (sym more) ∙ all

-- ---- a shape that stays

same_length : (cell k : ℕ) → length_at (shape_with cell cell 0) k ≡ cell
same_length cell k = omega arith

pub steady_is_shaped : (cell k : ℕ) (bits : List Bool) → steady_cells cell bits
    ≡ shaped_from (shape_with cell cell 0) k bits
unfolding shaped_from
steady_is_shaped cell k [] = refl
steady_is_shaped cell k (bit ∷ bits) =
    let first : cell_with cell bit ≡ cell_with (length_at (shape_with cell cell 0) k) bit =
    ap (λ (c : ℕ). cell_with c bit) (sym (same_length cell k)) in
    ap₂ (λ (x : Cell) (xs : List Cell). x ∷ xs) first (steady_is_shaped cell (suc k) bits)

-- The bits of a number and of words that are played, and how long cells last, for the proofs of the crates above. No
-- promise speaks of it.
use Rattle.std.proofs.Common.{◌≡◌, ℕ, zero, suc, ◌+◌, ◌-◌, ◌*◌, ◌/◌, ◌%◌, ◌<◌, List, [], ◌∷◌, ◌++◌, length}
use Rattle.std.proofs.Common.{length-append}
use Rattle.std.proofs.Common.{ap, ◌∙◌, arith, refl}
use Rattle.std.specs.Prelude.{◌==◌}
use Rattle.std.specs.List.{sum}
use Rattle.std.proofs.lemmas.Grind.{flat_map-append}
use Rattle.std.proofs.lemmas.List.Sums.{sum_by-append}
use Rattle.biphase.specs.declared.cell.Cell.{Cell}
use Rattle.biphase.specs.declared.cell.Cell.TheVariants.{Zero, One}
use Rattle.biphase.specs.Chain.{flat, intervals_of}
use Rattle.biphase.specs.Tolerance.{length_of}
use Rattle.ltc_word.specs.Spelled.{spelling_of}
use Rattle.direction_reader.specs.ListEvents.{duration}
use Rattle.direction_reader.specs.Played.{Played, bits_of_words, in_time, low_bits, played_bits}

-- ---- bits

pub length-low_bits : (count number : ℕ) → length (low_bits count number) ≡ count
unfolding low_bits
length-low_bits zero number = refl
length-low_bits (suc count) number = ap suc (length-low_bits count (number / 2))

-- what is left of them begins with the next one
pub low_bits-more : (done count number : ℕ) → done < count
    → low_bits (count - done) number ≡ (number % 2 == 1) ∷ low_bits (count - (done + 1)) (number / 2)
unfolding low_bits
low_bits-more done count number lt =
    let e : count - done ≡ suc (count - (done + 1)) = omega arith in
    ap (λ (n : ℕ). low_bits n number) e

-- a word has 80 of them
pub length-bits_of_words : (words : List Played) → length (bits_of_words words) ≡ 80 * length words
length-bits_of_words [] = refl
length-bits_of_words (word ∷ more) =
    let first = length-low_bits 80 (in_time word.direction (spelling_of word.word)) in
    let rest = length-bits_of_words more in
    let whole = length-append (played_bits word) (bits_of_words more) in
    omega arith

-- ---- time

pub duration-append : (one two : List Cell) → duration (one ++ two) ≡ duration one + duration two
duration-append one two = ap sum (flat_map-append intervals_of one two) ∙ sum_by-append (λ n. n) (flat one) (flat two)

pub duration-one : (cell : Cell) → duration (cell ∷ []) ≡ length_of cell
duration-one (Zero x) = omega arith
duration-one (One a b) = omega arith

pub duration-cons : (cell : Cell) (cells : List Cell) → duration (cell ∷ cells) ≡ length_of cell + duration cells
duration-cons cell cells = duration-append (cell ∷ []) cells ∙ ap (λ n. n + duration cells) (duration-one cell)

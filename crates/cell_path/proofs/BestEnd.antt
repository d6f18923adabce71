-- The better of two best paths, one of each bit, is the best that ends so: each other ends in one of the two bits.
use Rattle.std.proofs.Common.{◌≡◌, ℕ, ◌+◌, ◌*◌, ◌<◌, ℤ, ◌+ℤ◌, ◌<ℤ◌, ◌≤ℤ◌, inl, inr, List, [], ◌∷◌, length, refl, ap}
use Rattle.std.proofs.Common.{subst, sym, ◌∙◌, arith}
use Rattle.cell_path.specs.declared.cell.Bit.{Bit}
use Rattle.cell_path.specs.declared.cell.Bit.TheVariants.{Zero, One}
use Rattle.cell_path.specs.declared.cell.Cell.{Cell}
use Rattle.cell_path.specs.declared.cell.Sign.{Sign}
use Rattle.cell_path.specs.declared.cell.Step.{Step}
use Rattle.cell_path.specs.declared.cell.Way.{Way}
use Rattle.cell_path.specs.declared.cell.Way.TheVariants.{Same, Shorter, Longer, Jump}
use Rattle.cell_path.specs.Best.{rank, rank_of_bit, rank_of_sign, rank_of_way, EndsIn, Wins}
use Rattle.cell_path.specs.Number.{score_before, HasBit, IsBeginning, IsEnd}
use Rattle.cell_path.specs.Lengths.{length_in}
use Rattle.cell_path.specs.Path.{score, sign_before, signed, sound_in, IsPath}
use Rattle.cell_path.proofs.Order.{stands_first-same, wins-along, wins_by-more, wins_by-rank}

abbrev cell_of : ℕ → Bit → Sign → Way → Cell
cell_of place bit sign way = record { place = place; bit = bit; sign = sign; way = way }

-- a cell is what its parts are
same_cell : (cell : Cell) (place : ℕ) (bit : Bit) (sign : Sign) → cell.place ≡ place → cell.bit ≡ bit → cell.sign ≡ sign
    → cell_of place bit sign cell.way ≡ cell
same_cell cell place bit sign p b s =
    sym (ap (λ n. cell_of n cell.bit cell.sign cell.way) p ∙ ap (λ x. cell_of place x cell.sign cell.way) b
    ∙ ap (λ x. cell_of place bit x cell.way) s)

-- what the sound of the latest cell adds
abbrev sound_of : List ℕ → List Step → ℕ → Bit → Sign → ℤ
sound_of lengths steps place bit sign = signed sign (sound_in bit (length_in lengths place) steps)

-- the path with the best beginning of a bit wins over each other of this bit
beats_bit : (lengths : List ℕ) (steps : List Step) (place : ℕ) (bit : Bit) (sign : Sign) (number : ℤ) (way : Way)
    (b : IsBeginning lengths steps (length_in lengths place) place (sign_before bit sign) number way)
    (other : List Cell) → IsPath lengths steps other → EndsIn place sign other → HasBit bit other
    → Wins (sound_of lengths steps place bit sign +ℤ number) (cell_of place bit sign way ∷ b.before)
    (score lengths steps other) other
beats_bit lengths steps place bit sign number way b [] is ends has = absurd ends
beats_bit lengths steps place bit sign number way b (cell ∷ others) is ends has =
    let P : Cell → Type 0 = λ c. IsPath lengths steps (c ∷ others)
    → Wins (sound_of lengths steps place bit sign +ℤ number) (cell_of place bit sign way ∷ b.before)
    (score lengths steps (c ∷ others)) (c ∷ others) in
    let here : P (cell_of place bit sign cell.way) = λ path.
    wins_by-more (sound_of lengths steps place bit sign) number
    (16 * place + 8 * rank_of_sign sign + 4 * rank_of_bit bit)
    (rank_of_way way) b.before (score_before lengths steps (length_in lengths place) place cell.way others)
    (rank_of_way cell.way) others
    (b.wins cell.way others (record { follows = path.2; is_path = path.3 })) in
    subst P (same_cell cell place bit sign ends.0 has ends.1) here is

-- the path of a bit is one
bit_path : (lengths : List ℕ) (steps : List Step) (place : ℕ) (bit : Bit) (sign : Sign) (number : ℤ) (way : Way)
    (b : IsBeginning lengths steps (length_in lengths place) place (sign_before bit sign) number way)
    → 0 < length steps → place < length lengths → IsPath lengths steps (cell_of place bit sign way ∷ b.before)
bit_path lengths steps place bit sign number way b some within = (some, within, b.begins.follows, b.begins.is_path)

bit_score : (lengths : List ℕ) (steps : List Step) (place : ℕ) (bit : Bit) (sign : Sign) (number : ℤ) (way : Way)
    (b : IsBeginning lengths steps (length_in lengths place) place (sign_before bit sign) number way)
    → sound_of lengths steps place bit sign +ℤ number ≡ score lengths steps (cell_of place bit sign way ∷ b.before)
bit_score lengths steps place bit sign number way b = ap (λ n. sound_of lengths steps place bit sign +ℤ n) b.number_is

way_is_low : (way : Way) → rank_of_way way < 4
way_is_low Same = omega arith
way_is_low Shorter = omega arith
way_is_low Longer = omega arith
way_is_low Jump = omega arith

-- the winner of the two bits wins over each path that ends so
either_wins : (lengths : List ℕ) (steps : List Step) (place : ℕ) (sign : Sign) (low high : ℤ) (way other_way : Way)
    (s : ℤ) (path : List Cell)
    (zero : IsBeginning lengths steps (length_in lengths place) place (sign_before Zero sign) low way)
    (one : IsBeginning lengths steps (length_in lengths place) place (sign_before One sign) high other_way)
    → Wins s path (sound_of lengths steps place Zero sign +ℤ low) (cell_of place Zero sign way ∷ zero.before)
    → Wins s path (sound_of lengths steps place One sign +ℤ high) (cell_of place One sign other_way ∷ one.before)
    → (other : List Cell) → IsPath lengths steps other → EndsIn place sign other → (bit : Bit) → HasBit bit other
    → Wins s path (score lengths steps other) other
either_wins lengths steps place sign low high way other_way s path zero one over_zero over_one other is ends Zero has =
    wins-along s path (sound_of lengths steps place Zero sign +ℤ low) (cell_of place Zero sign way ∷ zero.before)
    (score lengths steps other) other
    over_zero (beats_bit lengths steps place Zero sign low way zero other is ends has)
either_wins lengths steps place sign low high way other_way s path zero one over_zero over_one other is ends One has =
    wins-along s path (sound_of lengths steps place One sign +ℤ high) (cell_of place One sign other_way ∷ one.before)
    (score lengths steps other) other
    over_one (beats_bit lengths steps place One sign high other_way one other is ends has)

pub bit_at : List Cell → Bit
bit_at [] = Zero
bit_at (cell ∷ before) = cell.bit

pub has_bit_at : (place : ℕ) (sign : Sign) (path : List Cell) → EndsIn place sign path → HasBit (bit_at path) path
unfolding bit_at
has_bit_at place sign [] ends = absurd ends
has_bit_at place sign (cell ∷ before) ends = refl

wins-same : (s : ℤ) (path : List Cell) → Wins s path s path
wins-same s path = inr (refl, stands_first-same path)

-- if the one is not above the zero, the zero it is
pub zero_ends : (lengths : List ℕ) (steps : List Step) (place : ℕ) (sign : Sign) (low high : ℤ) (way other_way : Way)
    → IsBeginning lengths steps (length_in lengths place) place (sign_before Zero sign) low way
    → IsBeginning lengths steps (length_in lengths place) place (sign_before One sign) high other_way
    → 0 < length steps → place < length lengths
    → (sound_of lengths steps place One sign +ℤ high) ≤ℤ (sound_of lengths steps place Zero sign +ℤ low)
    → IsEnd lengths steps place sign (sound_of lengths steps place Zero sign +ℤ low) Zero
zero_ends lengths steps place sign low high way other_way zero one some within below =
    let path = cell_of place Zero sign way ∷ zero.before in
    let one_path = cell_of place One sign other_way ∷ one.before in
    let x = sound_of lengths steps place Zero sign +ℤ low in
    let y = sound_of lengths steps place One sign +ℤ high in
    let way_low = way_is_low way in
    let over : Wins x path y one_path = wins_by-rank x (rank (cell_of place Zero sign way)) zero.before y
    (rank (cell_of place One sign other_way)) one.before below (omega arith) in
    let W : (other : List Cell) → IsPath lengths steps other → EndsIn place sign other
    → Wins x path (score lengths steps other) other =
    λ other is ends. either_wins lengths steps place sign low high way other_way x path zero one (wins-same x path) over
    other is ends (bit_at other) (has_bit_at place sign other ends) in
    record {
      path = path;
      is_best = record {
        is_path = bit_path lengths steps place Zero sign low way zero some within;
        ends = (refl, refl);
        wins = λ other is ends. subst (λ s. Wins s path (score lengths steps other) other)
            (bit_score lengths steps place Zero sign low way zero) (W other is ends);
      };
      number_is = bit_score lengths steps place Zero sign low way zero;
      bit_is = refl;
    }

-- and if it is above, the one
pub one_ends : (lengths : List ℕ) (steps : List Step) (place : ℕ) (sign : Sign) (low high : ℤ) (way other_way : Way)
    → IsBeginning lengths steps (length_in lengths place) place (sign_before Zero sign) low way
    → IsBeginning lengths steps (length_in lengths place) place (sign_before One sign) high other_way
    → 0 < length steps → place < length lengths
    → (sound_of lengths steps place Zero sign +ℤ low) <ℤ (sound_of lengths steps place One sign +ℤ high)
    → IsEnd lengths steps place sign (sound_of lengths steps place One sign +ℤ high) One
one_ends lengths steps place sign low high way other_way zero one some within above =
    let path = cell_of place One sign other_way ∷ one.before in
    let x = sound_of lengths steps place One sign +ℤ high in
    let over : Wins x path (sound_of lengths steps place Zero sign +ℤ low) (cell_of place Zero sign way ∷ zero.before) =
    inl above in
    let W : (other : List Cell) → IsPath lengths steps other → EndsIn place sign other
    → Wins x path (score lengths steps other) other =
    λ other is ends. either_wins lengths steps place sign low high way other_way x path zero one over (wins-same x path)
    other is ends (bit_at other) (has_bit_at place sign other ends) in
    record {
      path = path;
      is_best = record {
        is_path = bit_path lengths steps place One sign high other_way one some within;
        ends = (refl, refl);
        wins = λ other is ends. subst (λ s. Wins s path (score lengths steps other) other)
            (bit_score lengths steps place One sign high other_way one) (W other is ends);
      };
      number_is = bit_score lengths steps place One sign high other_way one;
      bit_is = refl;
    }

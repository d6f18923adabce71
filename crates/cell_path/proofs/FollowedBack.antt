-- The marks of a step lead back along its best path: its latest bit, the way its latest cell began, and where the
-- path before it ends.
use Rattle.std.proofs.Common.{◌≡◌, ℕ, ◌+◌, ◌*◌, ◌<◌, ℤ, ◌+ℤ◌, ◌-ℤ◌, ◌⊎◌, inl, inr, List, [], ◌∷◌, length, drop, refl}
use Rattle.std.proofs.Common.{ap, subst, sym, ◌∙◌, arith}
use Rattle.std.proofs.lemmas.Int.{ints}
use Rattle.cell_path.specs.declared.cell.Bit.{Bit}
use Rattle.cell_path.specs.declared.cell.Cell.{Cell}
use Rattle.cell_path.specs.declared.cell.Sign.{Sign}
use Rattle.cell_path.specs.declared.cell.Step.{Step}
use Rattle.cell_path.specs.declared.cell.Way.{Way}
use Rattle.cell_path.specs.declared.cell.Way.TheVariants.{Jump}
use Rattle.cell_path.specs.Best.{rank_of_bit, rank_of_sign, rank_of_way, EndsIn, IsBest, IsBestOfAll, StandsFirst, Wins}
use Rattle.cell_path.specs.Lengths.{length_in}
use Rattle.cell_path.specs.Number.{score_before, HasBit, IsBeginning, IsBestEnd, IsEnd, WinsBy}
use Rattle.cell_path.specs.Path.{cost, score, sign_before, signed, sound_in, Follows, IsPath}
use Rattle.cell_path.proofs.BestBeginning.{same_way}
use Rattle.cell_path.proofs.NextStep.{only_jump}
use Rattle.cell_path.proofs.OneBest.{one_best, same_path, same_winner}

-- ---- the bit

-- the latest bit of a best path is that of the best end
pub bit_of_best : (lengths : List ℕ) (steps : List Step) (place : ℕ) (sign : Sign) (number : ℤ) (bit : Bit)
    (path : List Cell)
    → IsEnd lengths steps place sign number bit → IsBest lengths steps place sign path → HasBit bit path
bit_of_best lengths steps place sign number bit path end best =
    subst (HasBit bit) (one_best lengths steps place sign end.path path end.is_best best) end.bit_is

-- ---- the way

same_first : (m n : ℕ) (p q : List Cell) → (m < n) ⊎ ((m ≡ n) × StandsFirst p q) → (n < m) ⊎ ((n ≡ m) × StandsFirst q p)
    → (m ≡ n) × (p ≡ q)
same_first m n p q (inl a) (inl b) = absurd (omega arith)
same_first m n p q (inl a) (inr b) = absurd (omega (arith, b.0))
same_first m n p q (inr a) (inl b) = absurd (omega (arith, a.0))
same_first m n p q (inr a) (inr b) = (a.0, same_path p q a.1 b.1)

same_beginning : (s t : ℤ) (m n : ℕ) (p q : List Cell) → WinsBy s m p t n q → WinsBy t n q s m p → (m ≡ n) × (p ≡ q)
same_beginning s t m n p q (inl a) (inl b) = absurd (omega (arith, ints))
same_beginning s t m n p q (inl a) (inr b) = absurd (omega (arith, ints, b.0))
same_beginning s t m n p q (inr a) (inl b) = absurd (omega (arith, ints, a.0))
same_beginning s t m n p q (inr a) (inr b) = same_first m n p q a.1 b.1

-- what wins with a cell behind it wins without it
wins_by-less : (x s : ℤ) (base m : ℕ) (p : List Cell) (t : ℤ) (n : ℕ) (q : List Cell)
    → WinsBy (x +ℤ s) (base + m) p (x +ℤ t) (base + n) q → WinsBy s m p t n q
wins_by-less x s base m p t n q (inl less) = inl (omega (arith, ints))
wins_by-less x s base m p t n q (inr same) =
    inr (
      omega (arith, ints, same.0),
      elim same.1 [ inl first ↦ inl (omega arith) | inr like ↦ inr (omega (arith, like.0), like.1) ],
    )

-- behind steps, a beginning at the latest of them is one at the end of what is dropped
dropped_score : (lengths : List ℕ) (steps : List Step) (ago place : ℕ) (way : Way) (before : List Cell)
    → 0 < length (drop ago steps)
    → IsPath lengths (drop ago steps) before
    → score_before lengths (drop ago steps) 0 place way before ≡ score_before lengths steps ago place way before
dropped_score lengths steps ago place way [] some is = absurd (omega arith)
dropped_score lengths steps ago place way (cell ∷ before) some is = refl

-- the latest cell of a best path begins in the best way, and behind what is best there
pub way_of_best : (lengths : List ℕ) (steps : List Step) (place : ℕ) (sign : Sign) (cell : Cell) (rest : List Cell)
    (number : ℤ) (way : Way)
    → IsBest lengths steps place sign (cell ∷ rest) → 0 < length (drop (length_in lengths cell.place) steps)
    → (b : IsBeginning lengths (drop (length_in lengths cell.place) steps) 0 cell.place (sign_before cell.bit cell.sign)
    number way)
    → (way ≡ cell.way) × (b.before ≡ rest)
way_of_best lengths steps place sign cell rest number way best some b =
    let n = length_in lengths cell.place in
    let q = sign_before cell.bit cell.sign in
    let is = best.is_path in
    let x = signed cell.sign (sound_in cell.bit n steps) in
    let base = 16 * cell.place + 8 * rank_of_sign cell.sign + 4 * rank_of_bit cell.bit in
    let other : Cell = record { place = cell.place; bit = cell.bit; sign = cell.sign; way = way } in
    let path : IsPath lengths steps (other ∷ b.before) = (is.0, is.1, b.begins.follows, b.begins.is_path) in
    let mine = dropped_score lengths steps n cell.place cell.way rest some is.3 in
    let theirs = b.number_is ∙ dropped_score lengths steps n cell.place way b.before some b.begins.is_path in
    let t = score_before lengths steps n cell.place cell.way rest in
    let over : WinsBy number (rank_of_way way) b.before t (rank_of_way cell.way) rest =
    subst (λ s. WinsBy number (rank_of_way way) b.before s (rank_of_way cell.way) rest) mine
    (b.wins cell.way rest (record { follows = is.2; is_path = is.3 })) in
    let above : WinsBy (x +ℤ t) (base + rank_of_way cell.way) rest
    (x +ℤ score_before lengths steps n cell.place way b.before) (base + rank_of_way way) b.before =
    best.wins (other ∷ b.before) path best.ends in
    let under : WinsBy t (rank_of_way cell.way) rest number (rank_of_way way) b.before =
    subst (λ s. WinsBy t (rank_of_way cell.way) rest s (rank_of_way way) b.before) (sym theirs)
    (wins_by-less x t base (rank_of_way cell.way) rest (score_before lengths steps n cell.place way b.before)
    (rank_of_way way) b.before above) in
    let same = same_beginning number t (rank_of_way way) (rank_of_way cell.way) b.before rest over under in
    (same_way way cell.way same.0, same.1)

-- ---- the end before

-- where a best path of all ends
pub best_ends_there : (lengths : List ℕ) (steps : List Step) (from : ℕ) (end : Sign) (number : ℤ)
    → IsBestEnd lengths steps from end number
    → (path : List Cell) → IsBestOfAll lengths steps path → EndsIn from end path
best_ends_there lengths steps from end number e path best =
    subst (EndsIn from end) (same_winner (score lengths steps e.path) (score lengths steps path) e.path path
    (e.is_best.wins path best.is_path) (best.wins e.path e.is_best.is_path)) e.ends

jump_cost : (lengths : List ℕ) (steps : List Step) (ago place : ℕ) (p q : List Cell) → 0 < length (drop ago steps)
    → IsPath lengths (drop ago steps) p → IsPath lengths (drop ago steps) q
    → cost lengths steps ago place Jump p ≡ cost lengths steps ago place Jump q
jump_cost lengths steps ago place [] q some is like = absurd (omega arith)
jump_cost lengths steps ago place (c ∷ p) [] some is like = absurd (omega arith)
jump_cost lengths steps ago place (c ∷ p) (d ∷ q) some is like = refl

behind_jump : (place : ℕ) (sign : Sign) (path : List Cell) → Follows Jump place sign path
behind_jump place sign [] = refl
behind_jump place sign (cell ∷ path) = tt

front_wins : (x s t k : ℤ) (cell : Cell) (p q : List Cell)
    → Wins (x +ℤ (s -ℤ k)) (cell ∷ p) (x +ℤ (t -ℤ k)) (cell ∷ q) → Wins s p t q
front_wins x s t k cell p q (inl less) = inl (omega (arith, ints))
front_wins x s t k cell p q (inr same) =
    inr (omega (arith, ints, same.0), elim same.1 [ inl first ↦ absurd (omega arith) | inr like ↦ like.1 ])

-- behind a jump comes the best path of all
pub jumped_from : (lengths : List ℕ) (steps : List Step) (place : ℕ) (sign : Sign) (cell : Cell) (rest : List Cell)
    (from : ℕ) (end : Sign) (number : ℤ)
    → IsBest lengths steps place sign (cell ∷ rest) → cell.way ≡ Jump
    → 0 < length (drop (length_in lengths cell.place) steps)
    → IsBestEnd lengths (drop (length_in lengths cell.place) steps) from end number → EndsIn from end rest
jumped_from lengths steps place sign cell rest from end number best jump some e =
    let n = length_in lengths cell.place in
    let is = best.is_path in
    let x = signed cell.sign (sound_in cell.bit n steps) in
    let k = cost lengths steps n cell.place cell.way rest in
    let all : IsBestOfAll lengths (drop n steps) rest = record {
      is_path = is.3;
      wins = λ other path.
          let follows = subst (λ w. Follows w cell.place (sign_before cell.bit cell.sign) other) (sym jump)
          (behind_jump cell.place (sign_before cell.bit cell.sign) other) in
          let over = best.wins (cell ∷ other) (is.0, is.1, follows, path) best.ends in
          let t = score lengths (drop n steps) other in
          let same : k ≡ cost lengths steps n cell.place cell.way other =
          ap (λ w. cost lengths steps n cell.place w rest) jump ∙ jump_cost lengths steps n cell.place rest other some
          is.3 path
          ∙ ap (λ w. cost lengths steps n cell.place w other) (sym jump) in
          front_wins x (score lengths (drop n steps) rest) t k cell rest other
          (subst (λ c. Wins (x +ℤ (score lengths (drop n steps) rest -ℤ k)) (cell ∷ rest) (x +ℤ (t -ℤ c))
          (cell ∷ other)) (sym same) over);
    } in
    best_ends_there lengths (drop n steps) from end number e rest all

-- if nothing is left, nothing comes before, and the first cell comes behind a jump
pub first_cell : (lengths : List ℕ) (steps : List Step) (place : ℕ) (sign : Sign) (cell : Cell) (rest : List Cell)
    → IsBest lengths steps place sign (cell ∷ rest) → length (drop (length_in lengths cell.place) steps) ≡ 0
    → (cell.way ≡ Jump) × (rest ≡ [])
first_cell lengths steps place sign cell [] best none =
    (only_jump cell.way cell.place (sign_before cell.bit cell.sign) (best.is_path).2, refl)
first_cell lengths steps place sign cell (d ∷ rest) best none = let some = (best.is_path).3.0 in
    absurd (omega (arith, some))

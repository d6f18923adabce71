-- Two paths that win over each other are the same, and a winner's front wins over each other front that its latest
-- cell may follow.
use Rattle.std.proofs.Common.{◌≡◌, ℕ, ◌*◌, ℤ, pos, ◌+ℤ◌, ◌-ℤ◌, inl, inr, List, [], ◌∷◌, drop, refl, ap, ap₂, subst}
use Rattle.std.proofs.Common.{sym, ◌∙◌, arith}
use Rattle.std.proofs.lemmas.Int.{ints}
use Rattle.cell_path.specs.declared.cell.Bit.{Bit}
use Rattle.cell_path.specs.declared.cell.Bit.TheVariants.{Zero, One}
use Rattle.cell_path.specs.declared.cell.Cell.{Cell}
use Rattle.cell_path.specs.declared.cell.Sign.{Sign}
use Rattle.cell_path.specs.declared.cell.Step.{Step}
use Rattle.cell_path.specs.declared.cell.Way.{Way}
use Rattle.cell_path.specs.declared.cell.Way.TheVariants.{Same, Shorter, Longer, Jump}
use Rattle.cell_path.specs.Best.{rank, rank_of_bit, rank_of_sign, rank_of_way, EndsIn, IsBest, StandsFirst, Wins}
use Rattle.cell_path.specs.Lengths.{length_in}
use Rattle.cell_path.specs.Path.{cost, level_at, score, sign_before, signed, sound_in, times_for, Follows}
use Rattle.cell_path.proofs.BestBeginning.{same_way, way_is_low}
use Rattle.cell_path.proofs.BestOfAll.{bit_is_low, same_rank, sign_is_low}

same_bit : (a b : Bit) → rank_of_bit a ≡ rank_of_bit b → a ≡ b
same_bit Zero Zero is = refl
same_bit Zero One is = absurd (omega arith)
same_bit One Zero is = absurd (omega arith)
same_bit One One is = refl

abbrev cell_of : ℕ → Bit → Sign → Way → Cell
cell_of place bit sign way = record { place = place; bit = bit; sign = sign; way = way }

-- a cell is known by its rank
same_cell : (c d : Cell) → rank c ≡ rank d → c ≡ d
same_cell c d is =
    let s = sign_is_low c.sign in let t = sign_is_low d.sign in
    let a = bit_is_low c.bit in let b = bit_is_low d.bit in
    let v = way_is_low c.way in let w = way_is_low d.way in
    let places : c.place ≡ d.place = omega arith in
    let signs : rank_of_sign c.sign ≡ rank_of_sign d.sign = omega arith in
    let bits : rank_of_bit c.bit ≡ rank_of_bit d.bit = omega arith in
    let ways : rank_of_way c.way ≡ rank_of_way d.way = omega arith in
    ap (λ n. cell_of n c.bit c.sign c.way) places ∙ ap (λ x. cell_of d.place x c.sign c.way) (same_bit c.bit d.bit bits)
    ∙ ap (λ x. cell_of d.place d.bit x c.way) (same_rank c.sign d.sign signs)
    ∙ ap (cell_of d.place d.bit d.sign) (same_way c.way d.way ways)

pub same_path : (p q : List Cell) → StandsFirst p q → StandsFirst q p → p ≡ q
same_path [] [] one two = refl
same_path [] (d ∷ q) one two = absurd two
same_path (c ∷ p) [] one two = absurd one
same_path (c ∷ p) (d ∷ q) (inl a) (inl b) = absurd (omega arith)
same_path (c ∷ p) (d ∷ q) (inl a) (inr b) = absurd (omega (arith, b.0))
same_path (c ∷ p) (d ∷ q) (inr a) (inl b) = absurd (omega (arith, a.0))
same_path (c ∷ p) (d ∷ q) (inr a) (inr b) = ap₂ ◌∷◌ (same_cell c d a.0) (same_path p q a.1 b.1)

pub same_winner : (s t : ℤ) (p q : List Cell) → Wins s p t q → Wins t q s p → p ≡ q
same_winner s t p q (inl a) (inl b) = absurd (omega (arith, ints))
same_winner s t p q (inl a) (inr b) = absurd (omega (arith, ints, b.0))
same_winner s t p q (inr a) (inl b) = absurd (omega (arith, ints, a.0))
same_winner s t p q (inr a) (inr b) = same_path p q a.1 b.1

pub one_best : (lengths : List ℕ) (steps : List Step) (place : ℕ) (sign : Sign) (path other : List Cell)
    → IsBest lengths steps place sign path → IsBest lengths steps place sign other → path ≡ other
one_best lengths steps place sign path other a b =
    same_winner (score lengths steps path) (score lengths steps other) path other (a.wins other b.is_path b.ends)
    (b.wins path a.is_path a.ends)

-- ---- fronts

-- what may follow a path may follow each other that ends so
pub follows_like : (way : Way) (place : ℕ) (sign : Sign) (from : ℕ) (end : Sign) (path other : List Cell)
    → Follows way place sign path → EndsIn from end path → EndsIn from end other → Follows way place sign other
follows_like way place sign from end [] other follows ends like = absurd ends
follows_like way place sign from end (c ∷ p) [] follows ends like = absurd like
follows_like Same place sign from end (c ∷ p) (d ∷ q) follows ends like =
    (omega (arith, follows.0, ends.0, like.0), like.1 ∙ sym ends.1 ∙ follows.1)
follows_like Shorter place sign from end (c ∷ p) (d ∷ q) follows ends like =
    (omega (arith, follows.0, ends.0, like.0), like.1 ∙ sym ends.1 ∙ follows.1)
follows_like Longer place sign from end (c ∷ p) (d ∷ q) follows ends like =
    (omega (arith, follows.0, ends.0, like.0), like.1 ∙ sym ends.1 ∙ follows.1)
follows_like Jump place sign from end (c ∷ p) (d ∷ q) follows ends like = tt

-- and for the same costs
cost_like : (lengths : List ℕ) (steps : List Step) (ago place : ℕ) (way : Way) (from : ℕ) (end : Sign)
    (path other : List Cell)
    → EndsIn from end path → EndsIn from end other
    → cost lengths steps ago place way path ≡ cost lengths steps ago place way other
cost_like lengths steps ago place way from end [] other ends like = absurd ends
cost_like lengths steps ago place way from end (c ∷ p) [] ends like = absurd like
cost_like lengths steps ago place way from end (c ∷ p) (d ∷ q) ends like =
    ap (λ n. pos (times_for lengths way place n * level_at (drop ago steps))) (ends.0 ∙ sym like.0)

front_wins : (x s t k : ℤ) (cell : Cell) (p q : List Cell)
    → Wins (x +ℤ (s -ℤ k)) (cell ∷ p) (x +ℤ (t -ℤ k)) (cell ∷ q) → Wins s p t q
front_wins x s t k cell p q (inl less) = inl (omega (arith, ints))
front_wins x s t k cell p q (inr same) =
    inr (omega (arith, ints, same.0), elim same.1 [ inl first ↦ absurd (omega arith) | inr like ↦ like.1 ])

pub before_is_best : (lengths : List ℕ) (steps : List Step) (place from : ℕ) (sign end : Sign) (cell : Cell)
    (before : List Cell)
    → IsBest lengths steps place sign (cell ∷ before) → EndsIn from end before
    → IsBest lengths (drop (length_in lengths cell.place) steps) from end before
before_is_best lengths steps place from sign end cell before best ends =
    let n = length_in lengths cell.place in
    let is = best.is_path in
    let x = signed cell.sign (sound_in cell.bit n steps) in
    let k = cost lengths steps n cell.place cell.way before in
    record {
      is_path = is.3;
      ends = ends;
      wins = λ other path like.
          let follows = follows_like cell.way cell.place (sign_before cell.bit cell.sign) from end before other is.2
          ends like in
          let same = cost_like lengths steps n cell.place cell.way from end before other ends like in
          let over = best.wins (cell ∷ other) (is.0, is.1, follows, path) best.ends in
          let t = score lengths (drop n steps) other in
          front_wins x (score lengths (drop n steps) before) t k cell before other
          (subst (λ c. Wins (x +ℤ (score lengths (drop n steps) before -ℤ k)) (cell ∷ before) (x +ℤ (t -ℤ c))
          (cell ∷ other)) (sym same) over);
    }

-- Each cell of a steady tape is measured as it is: its halves have their sizes, it follows the one
-- before it, and only the first one jumps.
use Rattle.std.proofs.Common.{◌≡◌, ℕ, zero, suc, ◌+◌, ◌-◌, ◌/◌, ◌%◌, ◌<◌, ◌≤◌, Bool, true, false, not, ltb, ◌||◌}
use Rattle.std.proofs.Common.{List, [], ◌∷◌, ◌++◌, length, drop, ℤ, refl, ap, sym, subst, ◌∙◌, arith}
use Rattle.std.specs.List.{AllByRecursion}
use Rattle.std.proofs.lemmas.List.{drop-drop, length-drop}
use Rattle.std.proofs.lemmas.Bool.{le-ltb}
use Rattle.cell_path.specs.declared.cell.Bit.{Bit}
use Rattle.cell_path.specs.declared.cell.Bit.TheVariants.{Zero, One}
use Rattle.cell_path.specs.declared.cell.Cell.{Cell}
use Rattle.cell_path.specs.declared.cell.Sign.{Sign}
use Rattle.cell_path.specs.declared.cell.Sign.TheVariants.{Plus, Minus}
use Rattle.cell_path.specs.declared.cell.Step.{Step}
use Rattle.cell_path.specs.declared.cell.Way.{Way}
use Rattle.cell_path.specs.declared.cell.Way.TheVariants.{Same}
use Rattle.cell_path.specs.declared.lengths.TheConstants.{LENGTHS}
use Rattle.cell_path.specs.declared.placed.Decided.{Decided}
use Rattle.cell_path.specs.declared.placed.Placed.{Placed}
use Rattle.cell_path.specs.Decided.{apart, end_behind, is_jump, jumps, latest_of, placed, same_sign}
use Rattle.cell_path.specs.Lengths.{length_in}
use Rattle.cell_path.specs.Path.{opposite, sign_before, Follows}
use Rattle.path_front.specs.declared.group.Sounds.{Sounds}
use Rattle.path_front.specs.Cells.{cell_behind, measured_cells, plain}
use Rattle.path_front.specs.Latest.{part}
use Rattle.path_front.specs.Measured.{first_sign, half_of, measured_at}
use Rattle.path_truth.specs.Sides.{AreOnSide, KeepsItsSides, KeepsSides}
use Rattle.path_truth.specs.Sound.{alone, IsSized}
use Rattle.path_truth.specs.Tape.{GoOn}
use Rattle.path_truth.proofs.FairCells.{AreFair, IsFair, IsFairHalf}
use Rattle.path_truth.proofs.FairSound.{side-sum, sums-append, HaveSum}
use Rattle.path_truth.proofs.OnSides.{keeps-long}
use Rattle.path_truth.proofs.Rising.{length_least}

-- ---- parts of the sound

drop-alone : (n : ℕ) (sounds : List ℤ) → drop n (alone sounds) ≡ alone (drop n sounds)
drop-alone zero sounds = refl
drop-alone (suc n) [] = refl
drop-alone (suc n) (x ∷ sounds) = drop-alone n sounds

pub length-alone : (sounds : List ℤ) → length (alone sounds) ≡ length sounds
length-alone [] = refl
length-alone (x ∷ sounds) = ap suc (length-alone sounds)

drop-sized : (low high n : ℕ) (sounds : List ℤ) → AllByRecursion (IsSized low high) sounds
    → AllByRecursion (IsSized low high) (drop n sounds)
drop-sized low high zero sounds are = are
drop-sized low high (suc n) [] are = tt
drop-sized low high (suc n) (x ∷ sounds) are = drop-sized low high n sounds are.1

part-sum : (low high ago many : ℕ) (sign : Sign) (sounds : List ℤ) → AllByRecursion (IsSized low high) sounds
    → AreOnSide sign many (drop ago (alone sounds)) → HaveSum low high many sign (part ago many sounds)
part-sum low high ago many sign sounds are on =
    side-sum low high many sign (drop ago sounds) (drop-sized low high ago sounds are)
    (subst (AreOnSide sign many) (drop-alone ago sounds) on)

on-front : (sign : Sign) (a b : ℕ) (steps : List Step) → a ≤ b → AreOnSide sign b steps → AreOnSide sign a steps
on-front sign zero b steps less on = tt
on-front sign (suc a) zero steps less on = absurd (omega arith)
on-front sign (suc a) (suc b) [] less on = absurd on
on-front sign (suc a) (suc b) (step ∷ steps) less on = (on.0, on-front sign a b steps (omega arith) on.1)

on-rest : (sign : Sign) (a b c : ℕ) (steps : List Step) → a + b ≡ c → AreOnSide sign c steps
    → AreOnSide sign b (drop a steps)
on-rest sign zero b c steps all on = let same : c ≡ b = omega arith in subst (λ k. AreOnSide sign k steps) same on
on-rest sign (suc a) b zero steps all on = absurd (omega arith)
on-rest sign (suc a) b (suc c) [] all on = absurd on
on-rest sign (suc a) b (suc c) (step ∷ steps) all on = on-rest sign a b c steps (omega arith) on.1

-- ---- halves

fair-half : (low high n shorter longer : ℕ) (sign : Sign) (sounds : List ℤ) → AllByRecursion (IsSized low high) sounds
    → AreOnSide sign (n / 2) (drop shorter (alone sounds)) → AreOnSide sign (n - n / 2) (drop longer (alone sounds))
    → IsFairHalf low high n (half_of sign shorter longer n sounds)
unfolding HaveSum
fair-half low high n shorter longer sign sounds are one two =
    let all = sums-append low high (n / 2) (n - n / 2) sign (part shorter (n / 2) sounds)
    (part longer (n - n / 2) sounds) (part-sum low high shorter (n / 2) sign sounds are one)
    (part-sum low high longer (n - n / 2) sign sounds are two) in
    let whole : n / 2 + (n - n / 2) ≡ n = omega arith in
    let sum = subst (λ k. HaveSum low high k sign (part shorter (n / 2) sounds ++ part longer (n - n / 2) sounds)) whole
    all in
    record {
      size = sum.0;
      sum_is = sum.1.sum_is;
      least = sum.1.least;
      most = sum.1.most;
      squares = sum.1.below;
    }

-- so much further ago
further : (sign : Sign) (d a many : ℕ) (steps : List Step) → AreOnSide sign many (drop a (drop d steps))
    → AreOnSide sign many (drop (d + a) steps)
further sign d a many steps on = subst (AreOnSide sign many) (drop-drop a d steps) on

first-half : (low high n d : ℕ) (bit : Bit) (sign : Sign) (sounds : List ℤ) → AllByRecursion (IsSized low high) sounds
    → KeepsSides bit sign n (drop d (alone sounds))
    → IsFairHalf low high n (half_of (first_sign bit sign) (d + (n - n / 2)) (d + n / 2) n sounds)
first-half low high n d Zero sign sounds are keeps =
    let steps = drop d (alone sounds) in
    fair-half low high n (d + (n - n / 2)) (d + n / 2) sign sounds are
    (further sign d (n - n / 2) (n / 2) (alone sounds) (on-rest sign (n - n / 2) (n / 2) n steps (omega arith) keeps))
    (further sign d (n / 2) (n - n / 2) (alone sounds) (on-rest sign (n / 2) (n - n / 2) n steps (omega arith) keeps))
first-half low high n d One sign sounds are keeps =
    let even : n % 2 ≡ 0 = keeps.0 in
    let same : n / 2 ≡ n - n / 2 = omega arith in
    let on = further (opposite sign) d (n / 2) (n / 2) (alone sounds) keeps.2 in
    fair-half low high n (d + (n - n / 2)) (d + n / 2) (opposite sign) sounds are
    (subst (λ k. AreOnSide (opposite sign) (n / 2) (drop (d + k) (alone sounds))) same on)
    (subst (λ k. AreOnSide (opposite sign) k (drop (d + n / 2) (alone sounds))) same on)

second-half : (low high n d : ℕ) (bit : Bit) (sign : Sign) (sounds : List ℤ) → AllByRecursion (IsSized low high) sounds
    → KeepsSides bit sign n (drop d (alone sounds)) → IsFairHalf low high n (half_of sign d d n sounds)
second-half low high n d Zero sign sounds are keeps =
    let steps = drop d (alone sounds) in
    fair-half low high n d d sign sounds are (on-front sign (n / 2) n steps (omega arith) keeps)
    (on-front sign (n - n / 2) n steps (omega arith) keeps)
second-half low high n d One sign sounds are keeps =
    let even : n % 2 ≡ 0 = keeps.0 in
    let same : n / 2 ≡ n - n / 2 = omega arith in
    fair-half low high n d d sign sounds are keeps.1
    (subst (λ k. AreOnSide sign k (drop d (alone sounds))) same keeps.1)

measured-fair : (low high n d span : ℕ) (decided : Decided) (sounds : List ℤ) → 1 ≤ n
    → AllByRecursion (IsSized low high) sounds
    → KeepsSides decided.placed.cell.bit decided.placed.cell.sign n (drop d (alone sounds))
    → IsFair low high n (measured_at decided span d n sounds)
measured-fair low high n d span decided sounds some are keeps = record {
  length_is = refl;
  some = some;
  first = first-half low high n d decided.placed.cell.bit decided.placed.cell.sign sounds are keeps;
  second = second-half low high n d decided.placed.cell.bit decided.placed.cell.sign sounds are keeps;
}

-- ---- the cells of a tape

-- these cells end after e steps of the sound
pub record IsTapeIn (place low high : ℕ) (sounds : List Sounds) (e : ℕ) (cells : List Cell) : Type 0 where
  pub within : place < 45
  pub sized : AllByRecursion (IsSized low high) (plain sounds)
  pub go : GoOn place cells
  pub ends : e ≤ length (plain sounds)
  pub keeps : KeepsItsSides (length_in LENGTHS place) (drop (length (plain sounds) - e) (alone (plain sounds))) cells

abbrev pub at : ℕ → Cell → Placed
at e cell = record { end = e; cell = cell }

pub tape-long : (place low high e : ℕ) (sounds : List Sounds) (cell : Cell) (before : List Cell)
    → IsTapeIn place low high sounds e (cell ∷ before) → length_in LENGTHS place ≤ e
tape-long place low high e sounds cell before is =
    let all = alone (plain sounds) in
    let d = length (plain sounds) - e in
    let long = keeps-long cell.bit cell.sign (length_in LENGTHS place) (drop d all) is.keeps.0 in
    omega (arith, long, length-drop d all, length-alone (plain sounds), is.ends)

pub next-tape : (place low high e : ℕ) (sounds : List Sounds) (cell : Cell) (before : List Cell)
    → IsTapeIn place low high sounds e (cell ∷ before)
    → IsTapeIn place low high sounds (e - length_in LENGTHS cell.place) before
next-tape place low high e sounds cell before is =
    let n = length_in LENGTHS place in
    let all = alone (plain sounds) in
    let long = length (plain sounds) in
    let same : length_in LENGTHS cell.place ≡ n = ap (length_in LENGTHS) is.go.0.place_is in
    let far : (long - e) + n ≡ long - (e - length_in LENGTHS cell.place) =
    omega (arith, is.ends, same, tape-long place low high e sounds cell before is) in
    record {
      within = is.within;
      sized = is.sized;
      go = is.go.1;
      ends = omega (arith, is.ends);
      keeps = subst (λ l. KeepsItsSides n l before) (drop-drop n (long - e) all ∙ ap (λ d. drop d all) far) is.keeps.1;
    }

-- the cells before the latest end where it begins
pub ends-at : (place low high e : ℕ) (sounds : List Sounds) (cells : List Cell) → IsTapeIn place low high sounds e cells
    → end_behind 0 (placed e cells) ≡ e
unfolding placed
ends-at place low high e sounds [] is =
    let all = alone (plain sounds) in
    let d = length (plain sounds) - e in
    omega (arith, is.keeps, length-drop d all, length-alone (plain sounds), is.ends)
ends-at place low high e sounds (cell ∷ before) is = refl

pub cell-fair : (place low high e : ℕ) (sounds : List Sounds) (cell : Cell) (before : List Cell)
    → IsTapeIn place low high sounds e (cell ∷ before)
    → IsFair low high (length_in LENGTHS place)
    (cell_behind sounds (at e cell) (placed (e - length_in LENGTHS cell.place) before))
cell-fair place low high e sounds cell before is =
    let n = length_in LENGTHS cell.place in
    let all = plain sounds in
    let same : n ≡ length_in LENGTHS place = ap (length_in LENGTHS) is.go.0.place_is in
    let rest = placed (e - n) before in
    let decided : Decided = record { placed = at e cell; jumps = jumps (latest_of rest) (at e cell) } in
    let some = length_least place is.within in
    subst (λ k. IsFair low high k (measured_at decided (e - end_behind 0 rest) (length all - e) n all)) same
    (measured-fair low high n (length all - e) (e - end_behind 0 rest) decided all (omega (arith, some, same)) is.sized
    (subst (λ k. KeepsSides cell.bit cell.sign k (drop (length all - e) (alone all))) (sym same) is.keeps.0))

pub cells-fair : (place low high e : ℕ) (sounds : List Sounds) (cells : List Cell)
    → IsTapeIn place low high sounds e cells
    → AreFair low high (length_in LENGTHS place) (measured_cells sounds (placed e cells))
unfolding placed measured_cells
cells-fair place low high e sounds [] is = tt
cells-fair place low high e sounds (cell ∷ before) is = (
  cell-fair place low high e sounds cell before is,
  cells-fair place low high (e - length_in LENGTHS cell.place) sounds before
      (next-tape place low high e sounds cell before is),
)

-- ---- jumps

no-jump : (way : Way) → way ≡ Same → is_jump way ≡ false
no-jump way is = ap is_jump is

like-signs : (a b : Sign) → a ≡ b → not (same_sign a b) ≡ false
like-signs Plus Plus is = refl
like-signs Minus Minus is = refl
like-signs Plus Minus is = absurd cc
like-signs Minus Plus is = absurd cc

all-false : (a b c : Bool) → a ≡ false → b ≡ false → c ≡ false → (a || (b || c)) ≡ false
all-false false false c one two three = three
all-false true b c one two three = absurd cc
all-false false true c one two three = absurd cc

follows-there : (way : Way) (place : ℕ) (sign : Sign) (last : Cell) (before : List Cell) → way ≡ Same
    → Follows way place sign (last ∷ before) → last.sign ≡ sign
follows-there way place sign last before is follows =
    let same = subst (λ w. Follows w place sign (last ∷ before)) is follows in same.1

apart-none : (n e : ℕ) → ltb (n / 4) (apart e e) ≡ false
apart-none n e = le-ltb (n / 4) (apart e e) (omega arith)

pub only-first-jumps : (place e : ℕ) (cell last : Cell) (before : List Cell) → GoOn place (cell ∷ last ∷ before)
    → jumps (latest_of (placed (e - length_in LENGTHS cell.place) (last ∷ before))) (at e cell) ≡ false
unfolding placed
only-first-jumps place e cell last before go =
    let n = length_in LENGTHS cell.place in
    let sign = sign_before cell.bit cell.sign in
    all-false (is_jump cell.way) (ltb (n / 4) (apart (e - n) (e - n))) (not (same_sign last.sign sign))
    (no-jump cell.way go.0.way) (apart-none n (e - n))
    (like-signs last.sign sign (follows-there cell.way cell.place sign last before go.0.way go.0.follows))

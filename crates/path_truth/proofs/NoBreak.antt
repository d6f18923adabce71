-- Among cells of one length whose samples have sizes between two, the greater of which is 12/5 of the smaller at
-- most, the gate refuses none.
use Rattle.std.proofs.Common.{◌≡◌, ℕ, ◌+◌, ◌-◌, ◌*◌, ◌/◌, ◌≤◌, min, max, Bool, true, false, ltb, ◌||◌, List, [], ◌∷◌, take}
use Rattle.std.proofs.Common.{zero, suc, leb, ◌==◌, ◌&&◌, length, drop, get_or, ◌+ℤ◌, refl, ap, ap₂}
use Rattle.std.proofs.Common.{sym, subst, ◌∙◌, arith}
use Rattle.std.proofs.lemmas.Bool.{le-ltb}
use Rattle.cell_path.specs.declared.cell.Bit.{Bit}
use Rattle.cell_path.specs.declared.cell.Bit.TheVariants.{Zero, One}
use Rattle.path_front.specs.declared.gate.Ear.{Ear}
use Rattle.path_front.specs.declared.levels.Range.{Range}
use Rattle.path_front.specs.declared.measured.Half.{Half}
use Rattle.path_front.specs.declared.measured.Measured.{Measured}
use Rattle.path_front.specs.Bend.{bends, bends_from, beyond, is_peak, keep_pace, peaks}
use Rattle.path_front.specs.Fit.{far, is_misfit, usual}
use Rattle.path_front.specs.Gate.{refuses}
use Rattle.path_front.specs.Levels.{above, eighths, is_faint, mean_level, range_by}
use Rattle.path_truth.proofs.FairCells.{above-both, mean-level, take-fair, AreFair, IsFair, IsFairHalf, IsLevel}
use Rattle.path_truth.proofs.FairFit.{half-fits, square-fits, times}

pub neither : (a b : Bool) → a ≡ false → b ≡ false → (a || b) ≡ false
neither false b one two = two
neither true b one two = absurd cc

-- ---- the sound from the middle of a cell to the next

few-eighths : (before bit : Bit) → eighths before bit ≤ 2
few-eighths One One = omega arith
few-eighths One Zero = omega arith
few-eighths Zero bit = omega arith

part-most : (least high level many : ℕ) → least ≤ high → level ≤ high → many ≤ 2
    → max (many * level) (2 * least) ≤ 2 * high
part-most least high level many heard most few =
    let all = times many 2 level high few most in omega (arith, all, heard)

faint-by : (low high n first second part : ℕ) → 5 * high ≤ 12 * low → low * n ≤ first → low * n ≤ second
    → part ≤ 2 * high → part * (n + n) ≤ 8 * (first + second)
faint-by low high n first second part near one two is =
    let less : part ≤ 8 * low = omega (arith, near, is) in
    let all = times part (8 * low) n n less (omega arith) in
    omega (arith, all, one, two)

not-faint : (low high n least level : ℕ) (before cell : Measured) → 5 * high ≤ 12 * low → IsFair low high n before
    → IsFair low high n cell → least ≤ high → IsLevel low high level → is_faint least level before cell ≡ false
not-faint low high n least level before cell near last is heard between =
    let part = max (eighths before.bit cell.bit * level) (2 * least) in
    let most = part-most least high level (eighths before.bit cell.bit) heard between.most
    (few-eighths before.bit cell.bit) in
    let sum = above-both before.second.sum cell.first.sum last.second.size is.first.size last.second.sum_is
    is.first.sum_is in
    let long : n + n ≡ before.length + cell.length = sym (ap₂ (λ a b. a + b) last.length_is is.length_is) in
    let less = faint-by low high n last.second.size is.first.size part near last.second.least is.first.least most in
    le-ltb (8 * above (before.second.sum +ℤ cell.first.sum)) (part * (before.length + cell.length))
    (subst (λ s. part * (before.length + cell.length) ≤ 8 * s) (sym sum)
    (subst (λ k. part * k ≤ 8 * (last.second.size + is.first.size)) long less))

-- ---- the levels of its neighbours

pub record IsRangeOf (low high : ℕ) (range : Range) : Type 0 where
  pub least_is : IsLevel low high range.least
  pub most_is : IsLevel low high range.most

lesser : (low high a b : ℕ) → IsLevel low high a → IsLevel low high b → IsLevel low high (min a b)
lesser low high a b one two = record { least = omega (arith, one.least, two.least); most = omega (arith, one.most) }

greater : (low high a b : ℕ) → IsLevel low high a → IsLevel low high b → IsLevel low high (max a b)
greater low high a b one two = record { least = omega (arith, one.least); most = omega (arith, one.most, two.most) }

range-of : (low high n : ℕ) (cell : Measured) (near ahead : List Measured) → AreFair low high n (cell ∷ near)
    → AreFair low high n ahead → IsRangeOf low high (range_by (cell ∷ near) ahead)
range-of low high n cell near [] are behind =
    let mean = mean-level low high n cell near are in record { least_is = mean; most_is = mean }
range-of low high n cell near (next ∷ ahead) are behind =
    let a = mean_level (cell ∷ near) in
    let b = mean_level (next ∷ ahead) in
    let one = mean-level low high n cell near are in
    let two = mean-level low high n next ahead behind in
    record { least_is = lesser low high a b one two; most_is = greater low high a b one two }

-- ---- its fit

no-misfit : (low high n level around : ℕ) (cell : Measured) → 5 * high ≤ 12 * low → IsFair low high n cell
    → IsLevel low high level → is_misfit level around cell ≡ false
no-misfit low high n level around cell near is between =
    let fits = λ (half : Half) (fair : IsFairHalf low high n half). subst (λ k. 5 * far level half k ≤ 7 * level)
    (sym is.length_is) (half-fits low high level n half is.some near fair between) in
    let first = fits cell.first is.first in
    let second = fits cell.second is.second in
    let most = max (far level cell.first cell.length) (far level cell.second cell.length) in
    let both : 5 * most ≤ 7 * level = omega (arith, first, second) in
    le-ltb (12 * around + 2 * (level * level)) (most * most) (omega (arith, square-fits most level both))

-- ---- its length

second-false : (a b c : Bool) → b ≡ false → (a && b && c) ≡ false
second-false true b c is = ap (λ x. x && c) is
second-false false b c is = refl

third-false : (a b c : Bool) → c ≡ false → (a && b && c) ≡ false
third-false true true c is = is
third-false true false c is = refl
third-false false b c is = refl

pace-of : (low high n i : ℕ) (cells : List Measured) (other : Measured) → AreFair low high n cells → other.length ≡ n
    → (get_or cells i other).length ≡ n
pace-of low high n i [] other are is = is
pace-of low high n zero (cell ∷ cells) other are is = are.0.length_is
pace-of low high n (suc i) (cell ∷ cells) other are is = pace-of low high n i cells other are.1 is

no-grains : (grain n : ℕ) → n ≡ 0 → n / grain ≡ 0
no-grains grain n none = ap (λ k. k / grain) none ∙ grind arith

not-beyond : (grain : ℕ) (longer : Bool) (pace : ℕ) (cell : Measured) → pace ≡ cell.length
    → beyond grain longer pace cell ≡ 0
not-beyond grain true pace cell same = no-grains grain (cell.length - pace) (omega (arith, same))
not-beyond grain false pace cell same = no-grains grain (pace - cell.length) (omega (arith, same))

-- a cell as long as the pace is no peak
no-peak : (earlier last far next later : ℕ) → far ≡ 0 → is_peak earlier last far next later ≡ false
no-peak earlier last far next later none =
    second-false (leb 1 (min last next)) (ltb (max earlier last) far) (leb (max next later) far)
    (le-ltb (max earlier last) far (omega (arith, none)))

no-bend : (low high n grain : ℕ) (before : List Measured) (cell : Measured) (behind : List Measured)
    → AreFair low high n before → IsFair low high n cell → bends grain before cell behind ≡ false
no-bend low high n grain before cell behind are is =
    let pace = (get_or before 7 cell).length in
    let far = beyond grain (ltb pace cell.length) pace in
    let same : pace ≡ cell.length = pace-of low high n 7 before cell are is.length_is ∙ sym is.length_is in
    third-false (length before == 8) (length behind == 8) (bends_from grain pace before cell behind)
    (third-false (keep_pace grain pace (drop 2 before)) (keep_pace grain pace (drop 2 behind))
    (peaks grain pace before cell behind)
    (no-peak (far (get_or before 1 cell)) (far (get_or before 0 cell)) (far cell) (far (get_or behind 0 cell))
    (far (get_or behind 1 cell)) (not-beyond grain (ltb pace cell.length) pace cell same)))

-- ---- all of them

pub refuses-none : (ear : Ear) (low high n : ℕ) (previous : Measured) (before : List Measured)
    (cell : Measured) (behind : List Measured) → ear.least ≤ high → 5 * high ≤ 12 * low
    → AreFair low high n (previous ∷ before) → IsFair low high n cell → AreFair low high n behind
    → refuses ear (previous ∷ before) cell behind ≡ false
refuses-none ear low high n previous before cell behind heard near are is come =
    let near_by = take 7 before in
    let ahead = take 8 behind in
    let last = take-fair low high n 8 (previous ∷ before) are in
    let next = take-fair low high n 8 behind come in
    let range = range_by (previous ∷ near_by) ahead in
    let levels = range-of low high n previous near_by ahead last next in
    let around = usual range.most (previous ∷ near_by) ahead in
    neither (is_faint ear.least range.least previous cell || is_misfit range.most around cell)
    (bends ear.grain (previous ∷ near_by) cell ahead)
    (neither (is_faint ear.least range.least previous cell) (is_misfit range.most around cell)
    (not-faint low high n ear.least range.least previous cell near are.0 is heard levels.least_is)
    (no-misfit low high n range.most around cell near is levels.most_is))
    (no-bend low high n ear.grain (previous ∷ near_by) cell ahead last is)

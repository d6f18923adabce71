-- The cells of a chain that lie wholly in a list from one of their boundaries on: they are a chain, and what the list
-- has behind them is no more than the first half of a one.
use Rattle.std.proofs.Common.{◌≡◌, ℕ, ◌+◌, ◌<◌, ◌≤◌, List, [], ◌∷◌, ◌++◌, length, None, cond, nat_le, refl, ap, subst}
use Rattle.std.proofs.Common.{sym, ◌∙◌, arith, length-append}
use Rattle.std.proofs.lemmas.Bool.{le-leb, lt-leb}
use Rattle.biphase.specs.ChainLemmas.{has_intervals}
use Rattle.biphase.specs.declared.profile.Profile.{Profile}
use Rattle.biphase.specs.declared.cell.Cell.{Cell}
use Rattle.biphase.specs.declared.cell.Cell.TheVariants.{Zero, One}
use Rattle.biphase.specs.Latest.{Latest}
use Rattle.biphase.specs.Tolerance.{kept_next}
use Rattle.biphase.specs.Chain.{intervals_of, flat, kept_after, Follow, IsNextOne}
use Rattle.biphase.specs.ToleranceLemmas.{zero_is_no_half, first_half}
use Rattle.cell_tracker.specs.ChainPiece.{cells_between}
use Rattle.cell_tracker.specs.Stretch.{IsBreak}
use Rattle.cell_tracker.proofs.LocalStretch.{NoneFits}

-- a cell that lies between is one of them, one that begins before or ends behind is none
pub lies_between : (low high at : ℕ) (cell : Cell) (cells : List Cell) → low ≤ at
    → at + length (intervals_of cell) ≤ high
    → cells_between low high at (cell ∷ cells) ≡ cell ∷ cells_between low high (at + length (intervals_of cell)) cells
lies_between low high at cell cells begins ends =
    rw (le-leb low at begins, le-leb (at + length (intervals_of cell)) high ends) refl

pub begins_before : (low high at : ℕ) (cell : Cell) (cells : List Cell) → at < low
    → cells_between low high at (cell ∷ cells) ≡ cells_between low high (at + length (intervals_of cell)) cells
begins_before low high at cell cells before = rw (lt-leb low at before) refl

pub ends_behind : (low high at : ℕ) (cell : Cell) (cells : List Cell) → low ≤ at
    → high < at + length (intervals_of cell)
    → cells_between low high at (cell ∷ cells) ≡ cells_between low high (at + length (intervals_of cell)) cells
ends_behind low high at cell cells begins behind =
    rw (le-leb low at begins, lt-leb (at + length (intervals_of cell)) high behind) refl

-- no cell lies between behind the end
pub none_behind : (low high at : ℕ) (cells : List Cell) → low ≤ at → high ≤ at → cells_between low high at cells ≡ []
none_behind low high at [] begins behind = refl
none_behind low high at (cell ∷ cells) begins behind =
    let some = has_intervals cell in
    ends_behind low high at cell cells begins (omega arith)
    ∙ none_behind low high (at + length (intervals_of cell)) cells (omega arith) (omega arith)

-- cells that end where the places begin are none of them
pub from_low : (low high at : ℕ) (one two : List Cell) → at + length (flat one) ≡ low
    → cells_between low high at (one ++ two) ≡ cells_between low high low two
from_low low high at [] two ends = ap (λ n. cells_between low high n two) (omega arith)
from_low low high at (cell ∷ one) two ends =
    let some = has_intervals cell in
    let long = length-append (intervals_of cell) (flat one) in
    begins_before low high at cell (one ++ two) (omega arith)
    ∙ from_low low high (at + length (intervals_of cell)) one two (omega arith)

-- cells that end by then are all of them
pub all_between : (low high at : ℕ) (one two : List Cell) → low ≤ at → at + length (flat one) ≤ high
    → cells_between low high at (one ++ two) ≡ one ++ cells_between low high (at + length (flat one)) two
all_between low high at [] two begins ends = ap (λ n. cells_between low high n two) (omega arith)
all_between low high at (cell ∷ one) two begins ends =
    let long = length-append (intervals_of cell) (flat one) in
    let end = at + length (intervals_of cell) in
    let same : end + length (flat one) ≡ at + length (flat (cell ∷ one)) = omega (arith, long) in
    lies_between low high at cell (one ++ two) begins (omega (arith, long, ends))
    ∙ ap (λ (cells : List Cell). cell ∷ cells) (all_between low high end one two (omega arith)
    (omega (arith, long, ends)))
    ∙ ap (λ n. cell ∷ (one ++ cells_between low high n two)) same

-- where the places begin before the cells, it does not matter where
pub from_any_low : (low other high at : ℕ) (cells : List Cell) → low ≤ at → other ≤ at
    → cells_between low high at cells ≡ cells_between other high at cells
from_any_low low other high at [] begins too = refl
from_any_low low other high at (cell ∷ cells) begins too =
    let end = at + length (intervals_of cell) in
    rw (le-leb low at begins, le-leb other at too) (ap (λ (more : List Cell). cond (nat_le end high) (cell ∷ more) more)
    (from_any_low low other high end cells (omega arith) (omega arith)))

-- of two fronts of a list of cells the one with fewer intervals is a front of the other
pub front_of_front : (one rest two other : List Cell) → one ++ rest ≡ two ++ other
    → length (flat one) ≤ length (flat two)
    → (mid : List Cell) × (two ≡ one ++ mid)
front_of_front [] rest two other same fewer = (two, refl)
front_of_front (cell ∷ one) rest [] other same fewer =
    absurd (omega (arith, has_intervals cell, length-append (intervals_of cell) (flat one), fewer))
front_of_front (cell ∷ one) rest (next ∷ two) other same fewer =
    let head : next ≡ cell = cc in
    let tail : one ++ rest ≡ two ++ other = cc in
    let long : length (intervals_of next) ≡ length (intervals_of cell) = ap (λ c. length (intervals_of c)) head in
    let more = front_of_front one rest two other tail
    (omega (
      arith,
      length-append (intervals_of cell) (flat one),
      length-append (intervals_of next) (flat two),
      long,
      fewer,
    )) in
    (more.0, ap (λ c. c ∷ two) head ∙ ap (λ (cs : List Cell). cell ∷ cs) more.1)

-- what a list may have behind some cells: nothing, or the first half of a one
abbrev pub IsCutOff : Profile → Latest → List ℕ → Type 0
IsCutOff profile c [] = Unit {0}
IsCutOff profile c (x ∷ []) = (y : ℕ) × (1 ≤ x) × IsNextOne profile c x y
IsCutOff profile c (x ∷ y ∷ rest) = ⊥

-- no cell fits there
pub none_fits_cut : (profile : Profile) (c : Latest) (left : List ℕ) → IsCutOff profile c left → NoneFits profile c left
none_fits_cut profile c [] cut = tt
none_fits_cut profile c (x ∷ []) cut = λ near. zero_is_no_half profile c x cut.1 near
    (first_half profile c x cut.0 cut.2)
none_fits_cut profile c (x ∷ y ∷ rest) cut = absurd cut

-- and nothing breaks there
pub no_break_cut : (profile : Profile) (c : Latest) (after : ℕ) (left : List ℕ) → IsCutOff profile c left
    → IsBreak profile c after left None
no_break_cut profile c after [] cut = refl
no_break_cut profile c after (x ∷ []) cut = (
  λ _. refl,
  λ no_half.
      absurd (no_half (first_half profile c x cut.0 cut.2)),
)
no_break_cut profile c after (x ∷ y ∷ rest) cut = absurd cut

-- the cells that lie in a list from a boundary on, and what is left of the list
pub record Lie (profile : Profile) (c : Latest) (kept : List Cell) (front : List ℕ) : Type 0 where
  pub chain : Follow profile c kept
  pub left : List ℕ
  pub are : front ≡ flat kept ++ left
  pub cut : IsCutOff profile (kept_after profile c kept) left

-- none of them, and the list is what is left
lie_none : (profile : Profile) (c : Latest) (kept : List Cell) (front : List ℕ) → kept ≡ [] → IsCutOff profile c front
    → Lie profile c kept front
lie_none profile c kept front none cut = subst (λ (cells : List Cell). Lie profile c cells front) (sym none) (record {
  chain = tt;
  left = front;
  are = refl;
  cut = cut;
})

pub they_lie : (profile : Profile) (c : Latest) (low high at : ℕ) (cells : List Cell) (front rest : List ℕ) → low ≤ at
    → at + length front ≡ high → Follow profile c cells → flat cells ≡ front ++ rest
    → Lie profile c (cells_between low high at cells) front
they_lie profile c low high at [] [] rest begins ends chain same = lie_none profile c [] [] refl tt
they_lie profile c low high at [] (x ∷ front) rest begins ends chain same = absurd (omega (arith, ap length same))
they_lie profile c low high at (cell ∷ cells) [] rest begins ends chain same =
    lie_none profile c _ [] (none_behind low high at (cell ∷ cells) begins (omega arith)) tt
they_lie profile c low high at (Zero x ∷ cells) (y ∷ front) rest begins ends chain same =
    let first : y ≡ x = cc in
    let tail : flat cells ≡ front ++ rest = cc in
    let more = they_lie profile (kept_next profile c x) low high (at + 1) cells front rest (omega arith)
    (omega arith) chain.2 tail in
    subst (λ (kept : List Cell). Lie profile c kept (y ∷ front))
    (sym (lies_between low high at (Zero x) cells begins (omega arith))) (record {
      chain = (chain.0, chain.1, more.chain);
      left = more.left;
      are = ap (λ v. v ∷ front) first ∙ ap (λ (xs : List ℕ). x ∷ xs) more.are;
      cut = more.cut;
    })
they_lie profile c low high at (One a b ∷ cells) (y ∷ []) rest begins ends chain same =
    let first : a ≡ y = cc in
    let one : IsNextOne profile c a b = (chain.1, chain.0.2) in
    lie_none profile c _ (y ∷ [])
    (ends_behind low high at (One a b) cells begins (omega arith)
    ∙ none_behind low high (at + 2) cells (omega arith) (omega arith))
    (subst (λ x. IsCutOff profile c (x ∷ [])) first (b, chain.0.0, one))
they_lie profile c low high at (One a b ∷ cells) (y ∷ z ∷ front) rest begins ends chain same =
    let first : y ≡ a = cc in
    let second : z ≡ b = cc in
    let tail : flat cells ≡ front ++ rest = cc in
    let more = they_lie profile (kept_next profile c (a + b)) low high (at + 2) cells front rest (omega arith)
    (omega arith) chain.2 tail in
    subst (λ (kept : List Cell). Lie profile c kept (y ∷ z ∷ front))
    (sym (lies_between low high at (One a b) cells begins (omega arith))) (record {
      chain = (chain.0, chain.1, more.chain);
      left = more.left;
      are = ap (λ v. v ∷ z ∷ front) first ∙ ap (λ v. a ∷ v ∷ front) second ∙ ap (λ (xs : List ℕ). a ∷ b ∷ xs) more.are;
      cut = more.cut;
    })

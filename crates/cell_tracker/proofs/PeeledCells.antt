-- A stretch in a run of even ones, cell by cell.
use Rattle.std.proofs.Common.{◌≡◌, ℕ, ◌+◌, ◌≤◌, List, [], ◌∷◌, ◌++◌, length, refl}
use Rattle.std.proofs.Common.{arith}
use Rattle.biphase.specs.declared.profile.Profile.TheVariants.{Rough}
use Rattle.biphase.specs.declared.cell.Cell.{Cell}
use Rattle.biphase.specs.declared.cell.Cell.TheVariants.{Zero, One}
use Rattle.biphase.specs.Latest.{Latest}
use Rattle.biphase.specs.Tolerance.{kept_next, length_of, IsNext}
use Rattle.biphase.specs.Chain.{intervals_of, flat, kept_after, Follow}
use Rattle.cell_tracker.proofs.LocalStretch.{NoneFits}
use Rattle.cell_tracker.proofs.RunCells.{AreEvenHalves, IsTaken}

-- ---- cell by cell

-- cells in a run, of which these intervals are left
pub record InRun (even whole : ℕ) (more rest : List ℕ) (l : Latest) (cells : List Cell) (hs : List ℕ) : Type 0 where
  pub evens : AreEvenHalves even hs
  pub covers : length hs ≤ length (flat cells) + 1
  pub follow : Follow Rough l cells
  pub none : NoneFits Rough (kept_after Rough l cells) rest
  pub same : flat cells ++ rest ≡ hs ++ whole ∷ more

-- the first of them takes intervals of the run, and leaves n
pub record Peeled (even whole : ℕ) (more rest : List ℕ) (n : ℕ) (l : Latest) (cells : List Cell) (hs : List ℕ)
    : Type 0 where
  pub cell : Cell
  pub others : List Cell
  pub left : List ℕ
  pub are : cells ≡ cell ∷ others
  pub parts : hs ≡ intervals_of cell ++ left
  pub still : n ≤ length left
  pub taken : IsTaken even cell
  pub fits : IsNext Rough l cell
  pub inner : InRun even whole more rest (kept_next Rough l (length_of cell)) others left

pub peel : (even whole : ℕ) (more rest : List ℕ) (n : ℕ) (l : Latest) (cells : List Cell) (hs : List ℕ)
    → InRun even whole more rest l cells hs → n + 2 ≤ length hs → Peeled even whole more rest n l cells hs
peel even whole more rest n l [] hs own two = let covers = own.covers in absurd (omega arith)
peel even whole more rest n l (cell ∷ cells) [] own two = absurd (omega arith)
peel even whole more rest n l (cell ∷ cells) (x ∷ []) own two = absurd (omega arith)
peel even whole more rest n l (Zero a ∷ cells) (x ∷ y ∷ hs) own two =
    let same = own.same in
    let first : a ≡ x = cc in
    record {
      cell = Zero a;
      others = cells;
      left = y ∷ hs;
      are = refl;
      parts = cc;
      still = omega arith;
      taken = rw first own.evens.0;
      fits = own.follow.1;
      inner = record {
        evens = own.evens.1;
        covers = let covers = own.covers in omega arith;
        follow = own.follow.2;
        none = own.none;
        same = cc;
      };
    }
peel even whole more rest n l (One a b ∷ cells) (x ∷ y ∷ hs) own two =
    let same = own.same in
    let first : a ≡ x = cc in
    let second : b ≡ y = cc in
    record {
      cell = One a b;
      others = cells;
      left = hs;
      are = refl;
      parts = cc;
      still = omega arith;
      taken = rw (first, second) (own.evens.0, own.evens.1.0);
      fits = own.follow.1;
      inner = record {
        evens = own.evens.1.1;
        covers = let covers = own.covers in omega arith;
        follow = own.follow.2;
        none = own.none;
        same = cc;
      };
    }

-- what is kept behind it
abbrev pub after : {even whole n : ℕ} {more rest : List ℕ} {l : Latest} {cells : List Cell} {hs : List ℕ}
    → Peeled even whole more rest n l cells hs → Latest
after {l = l} p = kept_next Rough l (length_of p.cell)

-- eight cells of the run

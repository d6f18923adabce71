-- If a cell is compared with the one before it alone, both lengths are wrong by what the same three transitions are
-- late by, which is little beside a cell that lasts long.
use Rattle.std.proofs.Common.{◌≡◌, ℕ, ◌+◌, ◌*◌, ◌<◌, ◌≤◌, List, [], ◌∷◌, arith}
use Rattle.biphase.specs.declared.cell.Cell.{Cell}
use Rattle.biphase.specs.declared.cell.Cell.TheVariants.{Zero, One}
use Rattle.biphase.specs.declared.profile.Profile.{Profile}
use Rattle.biphase.specs.declared.profile.Profile.TheVariants.{Normal, Worn, Rough}
use Rattle.biphase.specs.Chain.{Follow, FollowOn, IsCell}
use Rattle.biphase.specs.ToleranceLemmas.{kept_anew}
use Rattle.biphase.specs.Profile.{IsWithin}
use Rattle.biphase.specs.Tolerance.{LooksAtLast, kept_at_lock, length_of, IsNext}
use Rattle.tape_sound.specs.Late.{drift_from, AreFoundAs, IsFoundAs, IsSteady, Outlasts, RunOn}
use Rattle.tape_sound.proofs.FoundLength.{length_found}
use Rattle.tape_sound.proofs.LastsLong.{cell_drift, half_drift, lasts}

-- ---- a cell by itself

-- two halves, as they are found: each is wrong by a delay, and so is their difference by two
normal_halves : (delay drift first middle last a b x y : ℕ) → first ≤ delay → middle ≤ delay → last ≤ delay
    → a + middle ≡ first + x → b + last ≡ middle + y → a ≤ b + drift → b ≤ a + drift
    → 16 * drift + 32 * delay < a + b → IsWithin 16 x y (x + y)
normal_halves delay drift first middle last a b x y early mid late left right more less long = omega arith

worn_halves : (delay drift first middle last a b x y : ℕ) → first ≤ delay → middle ≤ delay → last ≤ delay
    → a + middle ≡ first + x → b + last ≡ middle + y → a ≤ b + drift → b ≤ a + drift
    → 12 * drift + 24 * delay < a + b → IsWithin 12 x y (x + y)
worn_halves delay drift first middle last a b x y early mid late left right more less long = omega arith

-- each of them lasts a tick or more
some_halves : (delay drift first middle last a b x y : ℕ) → first ≤ delay → middle ≤ delay → last ≤ delay
    → a + middle ≡ first + x → b + last ≡ middle + y → a ≤ b + drift → b ≤ a + drift
    → 8 * drift + 10 * delay < a + b → (1 ≤ x) × (1 ≤ y)
some_halves delay drift first middle last a b x y early mid late left right more less long = (omega arith, omega arith)

one_is_a_cell : (profile : Profile) (delay drift first middle last a b x y : ℕ) → first ≤ delay → middle ≤ delay
    → last ≤ delay → a + middle ≡ first + x → b + last ≡ middle + y → a ≤ b + drift → b ≤ a + drift
    → Outlasts profile delay drift (a + b) → IsCell profile (One x y)
one_is_a_cell Normal delay drift first middle last a b x y early mid late left right more less long =
    let some = some_halves delay drift first middle last a b x y early mid late left right more less
    (lasts Normal delay drift (a + b) long) in
    (some.0, some.1, normal_halves delay drift first middle last a b x y early mid late left right more less long)
one_is_a_cell Worn delay drift first middle last a b x y early mid late left right more less long =
    let some = some_halves delay drift first middle last a b x y early mid late left right more less
    (lasts Worn delay drift (a + b) long) in
    (some.0, some.1, worn_halves delay drift first middle last a b x y early mid late left right more less long)
one_is_a_cell Rough delay drift first middle last a b x y early mid late left right more less long =
    let some = some_halves delay drift first middle last a b x y early mid late left right more less long.0 in
    (some.0, some.1, tt)

pub is_cell : (profile : Profile) (delay before first last : ℕ) (cell found : Cell) → first ≤ delay → last ≤ delay
    → Outlasts profile delay (drift_from before cell) (length_of cell) → IsFoundAs delay first last cell found
    → IsCell profile found
is_cell profile delay before first last (Zero c) (Zero x) early late long is =
    let ten = lasts profile delay (drift_from before (Zero c)) c long in omega (arith, ten, early, is)
is_cell profile delay before first last (One a b) (One x y) early late long is =
    let drift = half_drift before a b in
    one_is_a_cell profile delay (drift_from before (One a b)) first is.0 last a b x y early is.1 late is.2 is.3 drift.0
    drift.1 long
is_cell profile delay before first last (Zero c) (One x y) early late long is = absurd is
is_cell profile delay before first last (One a b) (Zero x) early late long is = absurd is

-- ---- a cell behind another

-- a cell of p ticks, found with q, and the next one of c, found with x
normal_next : (delay drift start first last p q c x : ℕ) → start ≤ delay → first ≤ delay → last ≤ delay
    → p + first ≡ start + q → c + last ≡ first + x → c ≤ p + drift → p ≤ c + drift → 16 * drift + 32 * delay < c
    → IsWithin 8 x q q
normal_next delay drift start first last p q c x begun early late before is more less long = omega arith

worn_next : (delay drift start first last p q c x : ℕ) → start ≤ delay → first ≤ delay → last ≤ delay
    → p + first ≡ start + q → c + last ≡ first + x → c ≤ p + drift → p ≤ c + drift → 12 * drift + 24 * delay < c
    → IsWithin 6 x q q
worn_next delay drift start first last p q c x begun early late before is more less long = omega arith

next_by : (profile : Profile) → LooksAtLast profile → (delay start first last p q : ℕ) (cell found : Cell)
    → start ≤ delay → first ≤ delay → last ≤ delay → p + first ≡ start + q
    → Outlasts profile delay (drift_from p cell) (length_of cell) → IsFoundAs delay first last cell found
    → IsNext profile (kept_at_lock profile q) found
next_by Normal looks delay start first last p q cell found begun early late before long is =
    let drift = cell_drift p cell in
    normal_next delay (drift_from p cell) start first last p q (length_of cell) (length_of found) begun early late
    before
    (length_found delay first last cell found is) drift.0 drift.1 long
next_by Worn looks delay start first last p q cell found begun early late before long is =
    let drift = cell_drift p cell in
    worn_next delay (drift_from p cell) start first last p q (length_of cell) (length_of found) begun early late before
    (length_found delay first last cell found is) drift.0 drift.1 long
next_by Rough looks delay start first last p q cell found begun early late before long is = absurd looks

follow_found : (profile : Profile) → LooksAtLast profile → (delay start first p q : ℕ) (tape cells : List Cell)
    → start ≤ delay → first ≤ delay → p + first ≡ start + q → RunOn profile delay p tape
    → AreFoundAs delay first tape cells → Follow profile (kept_at_lock profile q) cells
follow_found profile looks delay start first p q [] [] begun early before runs found = tt
follow_found profile looks delay start first p q [] (x ∷ cells) begun early before runs found = absurd found
follow_found profile looks delay start first p q (cell ∷ tape) [] begun early before runs found = absurd found
follow_found profile looks delay start first p q (cell ∷ tape) (x ∷ cells) begun early before runs found =
    let last = found.0 in
    let rest : Follow profile (kept_at_lock profile (length_of x)) cells =
    follow_found profile looks delay first last (length_of cell) (length_of x) tape cells early found.1
    (length_found delay first last cell x found.2) runs.1 found.3 in (
      is_cell profile delay p first last cell x early found.1 runs.0 found.2,
      next_by profile looks delay start first last p q cell x begun early found.1 before runs.0 found.2,
      rw (kept_anew profile looks (kept_at_lock profile q) (length_of x)) rest,
    )

-- a steady tape, as it is found, follows on from its first cell
pub follows_on : (profile : Profile) → LooksAtLast profile → (delay first : ℕ) (tape cells : List Cell) → first ≤ delay
    → IsSteady profile delay tape → AreFoundAs delay first tape cells → FollowOn profile cells
follows_on profile looks delay first [] [] early steady found = tt
follows_on profile looks delay first [] (x ∷ cells) early steady found = absurd found
follows_on profile looks delay first (cell ∷ tape) [] early steady found = absurd found
follows_on profile looks delay first (cell ∷ tape) (x ∷ cells) early steady found = (
  is_cell profile delay (length_of cell) first found.0 cell x early found.1 steady.0 found.2,
  follow_found profile looks delay first found.0 (length_of cell) (length_of x) tape cells early found.1
      (length_found delay first found.0 cell x found.2) steady.1 found.3,
)

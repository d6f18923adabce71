-- Four cells together are found as late as the last one of them, less the first. So under the rough tolerance, which
-- compares with their sum, the next cell may be found later than it may behind a lock.
use Rattle.std.proofs.Common.{◌≡◌, ℕ, ◌+◌, ◌*◌, ◌≤◌, List, [], ◌∷◌, take, arith}
use Rattle.biphase.specs.declared.cell.Cell.{Cell}
use Rattle.biphase.specs.declared.cell.Cell.TheVariants.{Zero, One}
use Rattle.biphase.specs.declared.profile.Profile.TheVariants.{Rough}
use Rattle.biphase.specs.Chain.{Follow, FollowOn}
use Rattle.biphase.specs.Tolerance.{latest_with, length_of}
use Rattle.tape_sound.specs.Late.{AreFoundAs, RunsEvenly}
use Rattle.tape_sound.proofs.FoundLength.{length_found}

-- a cell of two halves that was found late, from how late it begins to how late the next transition is
abbrev IsLate : ℕ → ℕ → ℕ → ℕ → Type 0
IsLate half before length after = length + before ≡ 2 * half + after

follows : (half delay s t u v w a b c d : ℕ) (tape cells : List Cell) → 1 ≤ half → 47 * delay ≤ 16 * half
    → RunsEvenly half tape → s ≤ delay → t ≤ delay → u ≤ delay → v ≤ delay → w ≤ delay → IsLate half s a t
    → IsLate half t b u → IsLate half u c v → IsLate half v d w → AreFoundAs delay w tape cells
    → Follow Rough (latest_with d c b a) cells
follows half delay s t u v w a b c d [] [] some wide even s_small t_small u_small v_small w_small one two three four
    found = tt
follows half delay s t u v w a b c d [] (x ∷ cells) some wide even s_small t_small u_small v_small w_small one two three
    four found = absurd found
follows half delay s t u v w a b c d (cell ∷ tape) [] some wide even s_small t_small u_small v_small w_small one two
    three four found = absurd found
follows half delay s t u v w a b c d (Zero k ∷ tape) (Zero x ∷ cells) some wide even s_small t_small u_small v_small
    w_small one two three four found =
    let last = found.0 in
    let small = found.1 in
    let five : IsLate half w x last = omega (arith, found.2, even.0) in (
      omega (arith, some, wide, w_small, five),
      (
        omega (arith, wide, w_small, one, two, three, four, five),
        omega (arith, wide, s_small, small, one, two, three, four, five),
      ),
      follows half delay t u v w last b c d x tape cells some wide even.1 t_small u_small v_small w_small small two
          three
          four five found.3,
    )
follows half delay s t u v w a b c d (Zero k ∷ tape) (One x y ∷ cells) some wide even s_small t_small u_small v_small
    w_small one two three four found = absurd found.2
follows half delay s t u v w a b c d (One p q ∷ tape) (Zero x ∷ cells) some wide even s_small t_small u_small v_small
    w_small one two three four found = absurd found.2
follows half delay s t u v w a b c d (One p q ∷ tape) (One x y ∷ cells) some wide even s_small t_small u_small v_small
    w_small one two three four found =
    let last = found.0 in
    let small = found.1 in
    let middle = found.2.0 in
    let within = found.2.1 in
    let first : x + w ≡ half + middle = omega (arith, found.2.2, even.0) in
    let second : y + middle ≡ half + last = omega (arith, found.2.3, even.1) in
    let five : IsLate half w (x + y) last = omega (arith, first, second) in (
      (omega (arith, some, wide, w_small, first), omega (arith, some, wide, within, second), tt),
      (
        (
          omega (arith, wide, w_small, one, two, three, four, first),
          omega (arith, wide, s_small, within, one, two, three, four, first),
        ),
        (
          omega (arith, wide, w_small, within, one, two, three, four, second),
          omega (arith, wide, s_small, small, one, two, three, four, second),
        ),
        (
          omega (arith, wide, w_small, one, two, three, four, five),
          omega (arith, wide, s_small, small, one, two, three, four, five),
        ),
      ),
      follows half delay t u v w last b c d (x + y) tape cells some wide even.2 t_small u_small v_small w_small small
          two
          three four five found.3,
    )

-- a cell of the tape lasts two halves
two_halves : (half : ℕ) (cell : Cell) (tape : List Cell) → RunsEvenly half (cell ∷ tape)
    → (length_of cell ≡ 2 * half) × RunsEvenly half tape
two_halves half (Zero c) tape even = (even.0, even.1)
two_halves half (One a b) tape even = (omega (arith, even.0, even.1), even.2)

pub follows_four : (half delay first : ℕ) (tape : List Cell) (a b c d : Cell) (cells : List Cell) → 1 ≤ half
    → 47 * delay ≤ 16 * half → RunsEvenly half tape → first ≤ delay
    → AreFoundAs delay first tape (a ∷ b ∷ c ∷ d ∷ cells)
    → Follow Rough (latest_with (length_of d) (length_of c) (length_of b) (length_of a)) cells
follows_four half delay first [] a b c d cells some wide even small found = absurd found
follows_four half delay first (k ∷ []) a b c d cells some wide even small found = absurd found.3
follows_four half delay first (k ∷ l ∷ []) a b c d cells some wide even small found = absurd found.3.3
follows_four half delay first (k ∷ l ∷ m ∷ []) a b c d cells some wide even small found = absurd found.3.3.3
follows_four half delay first (k ∷ l ∷ m ∷ n ∷ tape) a b c d cells some wide even small found =
    let even_k = two_halves half k (l ∷ m ∷ n ∷ tape) even in
    let even_l = two_halves half l (m ∷ n ∷ tape) even_k.1 in
    let even_m = two_halves half m (n ∷ tape) even_l.1 in
    let even_n = two_halves half n tape even_m.1 in
    let one = length_found delay first found.0 k a found.2 in
    let two = length_found delay found.0 found.3.0 l b found.3.2 in
    let three = length_found delay found.3.0 found.3.3.0 m c found.3.3.2 in
    let four = length_found delay found.3.3.0 found.3.3.3.0 n d found.3.3.3.2 in
    follows half delay first found.0 found.3.0 found.3.3.0 found.3.3.3.0 (length_of a) (length_of b) (length_of c)
    (length_of d) tape cells some wide even_n.1 small found.1 found.3.1 found.3.3.1 found.3.3.3.1
    (omega (arith, one, even_k.0)) (omega (arith, two, even_l.0)) (omega (arith, three, even_m.0))
    (omega (arith, four, even_n.0)) found.3.3.3.3

-- so a tape whose first four cells are found to follow follows to its end
pub follow_on_four : (half delay first : ℕ) (tape cells : List Cell) → 1 ≤ half → 47 * delay ≤ 16 * half
    → RunsEvenly half tape → first ≤ delay → AreFoundAs delay first tape cells → FollowOn Rough (take 4 cells)
    → FollowOn Rough cells
follow_on_four half delay first tape [] some wide even small found four = four
follow_on_four half delay first tape (a ∷ []) some wide even small found four = four
follow_on_four half delay first tape (a ∷ b ∷ []) some wide even small found four = four
follow_on_four half delay first tape (a ∷ b ∷ c ∷ []) some wide even small found four = four
follow_on_four half delay first tape (a ∷ b ∷ c ∷ d ∷ cells) some wide even small found four =
    let rest = follows_four half delay first tape a b c d cells some wide even small found in
    let second = four.1 in
    let third = second.2 in
    let fourth = third.2 in
    (four.0, (second.0, second.1, (third.0, third.1, (fourth.0, fourth.1, rest))))

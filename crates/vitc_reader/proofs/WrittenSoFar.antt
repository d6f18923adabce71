-- Each edge is less than a tick before its place, so a written run is within a quarter of a cell. The runs
-- so far and the bits that are left are all of the line.
use Rattle.std.proofs.Common.{append_assoc, append-nil, ◌≡◌, ℕ, zero, suc, ◌+◌, ◌-◌, ◌*◌, ◌/◌, ◌%◌, ◌^◌, ◌<◌, ◌≤◌, Bool}
use Rattle.std.proofs.Common.{true, false, not, List, []}
use Rattle.std.proofs.Common.{◌∷◌, ◌++◌, length, take, drop, set}
use Rattle.std.proofs.Common.{refl, sym, ap, ◌∙◌, arith, inl, inr}
use Rattle.std.specs.Prelude.{◌↔◌, ◌==◌}
use Rattle.std.proofs.Math.Nat.{pow-le-pow_right}
use Rattle.std.proofs.lemmas.Bool.{cases_lt, ne_eqb}
use Rattle.std.proofs.lemmas.Nat.{pow-add, shr_split, mul-le}
use Rattle.std.proofs.lemmas.List.{take_more_set, length-set, drop-set-lt, drop-drop}
use Rattle.lemmas.specs.Lists.{length-last}
use Rattle.vitc_reader.specs.Runs.{total, bits_of_run, bits_of, IsCells, AreCells, StandFor, runs_from, HaveCells}
use Rattle.vitc_reader.specs.Runs.{AreRunsOf}
use Rattle.vitc_reader.specs.Written.{run_length, cells_in, runs_in}
use Rattle.vitc_reader.proofs.BitsOfCells.{level_after, level_after-last, bits_of-last, odd_runs}
use Rattle.vitc_reader.proofs.WholeCells.{total-append}

-- a run between two edges
run_is_cells : (n at k : ℕ) → 460 ≤ n → 1 ≤ k → IsCells n ((at + k) * n / 115 - at * n / 115) k
run_is_cells n at k least some =
    let e : (at + k) * n ≡ at * n + k * n = grind arith in
    (some, omega (arith, e, least))

pub runs_are_cells : (n at : ℕ) (cells : List ℕ) → 460 ≤ n → HaveCells cells → AreCells n (runs_from n at cells) cells
runs_are_cells n at [] least have = tt
runs_are_cells n at (k ∷ cells) least have =
    (run_is_cells n at k least have.0, runs_are_cells n (at + k) cells least have.1)

-- one run more
runs_from-last : (n at : ℕ) (cells : List ℕ) (k end : ℕ) → at + total cells ≡ end
    → runs_from n at (cells ++ k ∷ []) ≡ runs_from n at cells ++ ((end + k) * n / 115 - end * n / 115) ∷ []
runs_from-last n at [] k end e = let h : at ≡ end = omega (arith, e) in rw h refl
runs_from-last n at (j ∷ cells) k end e =
    ap (λ (runs : List ℕ). ((at + j) * n / 115 - at * n / 115) ∷ runs)
    (runs_from-last n (at + j) cells k end (omega (arith, e)))

HaveCells-last : (cells : List ℕ) (k : ℕ) → HaveCells cells → 1 ≤ k → HaveCells (cells ++ k ∷ [])
HaveCells-last [] k have some = (some, tt)
HaveCells-last (j ∷ cells) k have some = (have.0, HaveCells-last cells k have.1 some)

-- runs are no more than their cells
pub few_runs : (cells : List ℕ) → HaveCells cells → length cells ≤ total cells
few_runs [] have = omega arith
few_runs (k ∷ cells) have = let h = few_runs cells have.1 in let one = have.0 in omega (arith, h, one)

-- the first runs are written, and these bits are left
pub record WrittenSoFar (n bits : ℕ) (old runs : List ℕ) (rest cell number : ℕ) (is_high : Bool) : Type 0 where
  pub list : List ℕ
  pub have : HaveCells list
  pub all : total list ≡ cell
  pub count : length list ≡ number
  pub within : cell ≤ 90
  pub value : bits ≡ bits_of true list + rest * 2 ^ cell
  pub level : is_high ≡ level_after true list
  pub front : take number runs ≡ runs_from n 0 list
  pub back : drop number runs ≡ drop number old
  pub size : length runs ≡ 90
  pub next : 1 ≤ rest → ((rest % 2 ≡ 1) ↔ (is_high ≡ true))
  pub last : rest ≡ 0 → is_high ≡ false
  pub left : list ++ cells_in (90 - number) is_high rest ≡ cells_in 90 true bits

-- bits that are left are within the line
pub cells_left : (n bits : ℕ) (old runs : List ℕ) (rest cell number k : ℕ) (is_high : Bool)
    → WrittenSoFar n bits old runs rest cell number is_high
    → bits < 2 ^ 90 → 1 ≤ k → 2 ^ (k - 1) ≤ rest → cell + k ≤ 90
cells_left n bits old runs rest cell number k is_high s width some least =
    elim (cases_lt 90 (cell + k)) [
      | inl lt ↦
          let at = pow-add 2 (k - 1) cell in
          let above : 2 ^ (k - 1) * 2 ^ cell ≤ rest * 2 ^ cell = mul-le (2 ^ (k - 1)) (2 ^ cell) rest (2 ^ cell) least
          (omega arith) in
          let far = pow-le-pow_right {n = 2} (omega arith) {i = 90} {j = k - 1 + cell} (omega (arith, lt, some)) in
          let value = s.value in
          absurd (omega (arith, at, above, far, value, width))
      | inr le ↦ le
    ]

pub room : (n bits : ℕ) (old runs : List ℕ) (rest cell number : ℕ) (is_high : Bool)
    → WrittenSoFar n bits old runs rest cell number is_high → number ≤ cell
room n bits old runs rest cell number is_high s =
    let few = few_runs s.list s.have in
    let count = s.count in
    let all = s.all in
    omega (arith, few, count, all)

value_with : (bits list rest high low cell k run : ℕ) → bits ≡ list + rest * 2 ^ cell → high * 2 ^ k + low ≡ rest
    → low ≡ run
    → bits ≡ list + run * 2 ^ cell + high * 2 ^ (cell + k)
value_with bits list rest high low cell k run e split same =
    let p = pow-add 2 cell k in
    rw (e, ← split, same, p) (grind arith)

pub turned : (m : ℕ) (b : Bool) → ((m % 2 ≡ 1) ↔ (b ≡ false)) → ((m % 2 ≡ 1) ↔ (not b ≡ true))
turned m true h = (λ e. let f : true ≡ false = h.0 e in absurd cc, λ e. absurd cc)
turned m false h = (λ e. refl, λ e. h.1 refl)

pub ended : (m : ℕ) (b : Bool) → ((m % 2 ≡ 1) ↔ (b ≡ false)) → m ≡ 0 → not b ≡ false
ended m true h z = refl
ended m false h z = let e = h.1 refl in absurd (omega (arith, e, z))

drop_more : (xs ys : List ℕ) (n : ℕ) → drop n xs ≡ drop n ys → drop (n + 1) xs ≡ drop (n + 1) ys
drop_more xs ys n e = sym (drop-drop 1 n xs) ∙ ap (λ (zs : List ℕ). drop 1 zs) e ∙ drop-drop 1 n ys

-- the first run of bits that are left, and those behind it
cells_more : (number rest k : ℕ) (is_high : Bool) → number < 90 → 1 ≤ rest → k ≡ run_length is_high rest
    → cells_in (90 - number) is_high rest ≡ k ∷ cells_in (90 - (number + 1)) (not is_high) (rest / 2 ^ k)
unfolding cells_in
cells_more number rest k is_high lt some exact =
    let more : 90 - number ≡ suc (90 - (number + 1)) = omega (arith, lt) in
    let not_none : (rest == 0) ≡ false = ne_eqb rest 0 (λ e. omega (arith, e, some)) in
    rw (more, not_none, exact) refl

none_more : (n : ℕ) (level : Bool) → cells_in n level 0 ≡ []
unfolding cells_in
none_more zero level = refl
none_more (suc n) level = refl

-- one run more is written
pub write_more : (n bits : ℕ) (old runs : List ℕ) (rest cell number k : ℕ) (is_high : Bool)
    → WrittenSoFar n bits old runs rest cell number is_high
    → bits < 2 ^ 90 → number < 90 → 1 ≤ k → 2 ^ (k - 1) ≤ rest → rest % 2 ^ k ≡ bits_of_run is_high k
    → ((rest / 2 ^ k % 2 ≡ 1) ↔ (is_high ≡ false))
    → k ≡ run_length is_high rest → 1 ≤ rest
    → WrittenSoFar n bits old (set runs number ((cell + k) * n / 115 - cell * n / 115)) (rest / 2 ^ k) (cell + k)
    (number + 1) (not is_high)
write_more n bits old runs rest cell number k is_high s width room some least run change exact bits_left =
    let size = s.size in
    let lt : number < length runs = omega (arith, size, room) in
    let run_value = (cell + k) * n / 115 - cell * n / 115 in
    let all = total-append s.list (k ∷ []) in
    let sum = s.all in
    let longer = length-last s.list k in
    let count = s.count in
    let value = value_with bits (bits_of true s.list) rest (rest / 2 ^ k) (rest % 2 ^ k) cell k (bits_of_run is_high k)
    s.value (shr_split rest k) run in
    let last_bits = bits_of-last true s.list k in
    record {
      list = s.list ++ k ∷ [];
      have = HaveCells-last s.list k s.have some;
      all = omega (arith, all, sum);
      count = omega (arith, longer, count);
      within = cells_left n bits old runs rest cell number k is_high s width some least;
      value = rw (last_bits, ← s.level, s.all) value;
      level = rw (s.level, level_after-last true s.list k) refl;
      front = take_more_set runs number run_value lt ∙ ap (λ (xs : List ℕ). xs ++ run_value ∷ []) s.front
          ∙ sym (runs_from-last n 0 s.list k cell (omega (arith, sum)));
      back = drop-set-lt (number + 1) runs number run_value (omega arith) ∙ drop_more runs old number s.back;
      size = length-set runs number run_value ∙ size;
      next = λ more. turned (rest / 2 ^ k) is_high change;
      last = λ none. ended (rest / 2 ^ k) is_high change none;
      left = append_assoc s.list (k ∷ []) (cells_in (90 - (number + 1)) (not is_high) (rest / 2 ^ k))
          ∙ ap (λ (l : List ℕ). s.list ++ l) (sym (cells_more number rest k is_high room bits_left exact)) ∙ s.left;
    }

-- nothing is left
pub all_written : (n bits : ℕ) (old runs : List ℕ) (cell number : ℕ) (is_high : Bool)
    → WrittenSoFar n bits old runs 0 cell number is_high
    → AreRunsOf n bits (take number runs)
all_written n bits old runs cell number is_high s =
    let value = s.value in
    (s.list, s.have, odd_runs s.list (sym s.level ∙ s.last refl), omega (arith, value), s.front)

-- the runs that are written are those of the bits
pub exactly_written : (n bits : ℕ) (old runs : List ℕ) (cell number : ℕ) (is_high : Bool)
    → WrittenSoFar n bits old runs 0 cell number is_high
    → take number runs ≡ runs_in n bits
exactly_written n bits old runs cell number is_high s =
    let all : s.list ≡ cells_in 90 true bits = sym (append-nil s.list)
    ∙ ap (λ (l : List ℕ). s.list ++ l) (sym (none_more (90 - number) is_high)) ∙ s.left in
    s.front ∙ ap (runs_from n 0) all

pub odd_number : (n bits : ℕ) (old runs : List ℕ) (cell number : ℕ) (is_high : Bool)
    → WrittenSoFar n bits old runs 0 cell number is_high
    → (number % 2 ≡ 1) × (number ≤ 89)
odd_number n bits old runs cell number is_high s =
    let odd = odd_runs s.list (sym s.level ∙ s.last refl) in
    let few = few_runs s.list s.have in
    let count = s.count in
    let all = s.all in
    let within = s.within in
    let odd' : number % 2 ≡ 1 = rw count at odd in
    (odd', omega (arith, odd', few, count, all, within))

pub read_back : (n bits : ℕ) (old runs : List ℕ) (cell number : ℕ) (is_high : Bool) → 460 ≤ n
    → WrittenSoFar n bits old runs 0 cell number is_high
    → StandFor n (take number runs) bits
read_back n bits old runs cell number is_high least s =
    let value = s.value in
    let within = s.within in
    let all = s.all in
    (s.list, rw s.front (runs_are_cells n 0 s.list least s.have), omega (arith, within, all), omega (arith, value))

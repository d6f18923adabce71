-- Writing over the oldest place of a ring drops its oldest entry and adds one at the end; so it does for the latest
-- entries of the ring.
use Rattle.std.proofs.Common.{◌≡◌, ◌<◌, ◌≤◌, ℕ, ◌+◌, ◌-◌, List, [], ◌∷◌, ◌++◌, length, take, drop, arith, sym, ◌∙◌, ap}
use Rattle.std.proofs.Common.{length-drop}
use Rattle.std.proofs.Common.{append_assoc, append-nil, inl, inr, ◌%◌}
use Rattle.std.specs.Prelude.{slice_set, slice_index}
use Rattle.std.proofs.Math.Nat.{eq-or-lt_of_le}
use Rattle.direction_reader.specs.Boundaries.{with_tick, latest_of}
use Rattle.std.proofs.lemmas.Grind.{common_steps}
use Rattle.std.proofs.Math.Decide.{dec_lt}
use Rattle.std.proofs.Math.ListN.{get_or}
use Rattle.std.proofs.Math.Seq.{get_or-append_right}
use Rattle.std.proofs.lemmas.List.{drop-set-lt, take_more_set, drop-append-le, drop-drop, get_or-drop}
use Rattle.std.proofs.lemmas.List.{get_or_append_left, get_or-take}

-- without its first entry, a list that begins at place k begins at the next
drop_one-turned : (xs : List ℕ) (k : ℕ) → k < length xs → drop 1 (drop k xs ++ take k xs) ≡ drop (k + 1) xs ++ take k xs
drop_one-turned xs k p =
    let some : 1 ≤ length (drop k xs) = omega (arith, length-drop k xs) in
    let rest : drop 1 (drop k xs) ≡ drop (k + 1) xs = drop-drop 1 k xs in
    drop-append-le 1 (drop k xs) (take k xs) some ∙ ap (λ ys. ys ++ take k xs) rest

-- the place is not the last of the ring
pub written_over : (xs : List ℕ) (k v : ℕ) → k < length xs →
    drop (k + 1) (slice_set xs k v) ++ take (k + 1) (slice_set xs k v) ≡ drop 1 (drop k xs ++ take k xs) ++ v ∷ []
written_over xs k v p =
    let later : drop (k + 1) (slice_set xs k v) ≡ drop (k + 1) xs = drop-set-lt (k + 1) xs k v (omega arith) in
    let earlier : take (k + 1) (slice_set xs k v) ≡ take k xs ++ v ∷ [] = take_more_set xs k v p in
    rw (later, earlier, drop_one-turned xs k p) (sym (append_assoc (drop (k + 1) xs) (take k xs) (v ∷ [])))

-- the place is the last of the ring, and the oldest entry is the first again
pub written_at_the_end : (xs : List ℕ) (k v : ℕ) → k + 1 ≡ length xs →
    drop 0 (slice_set xs k v) ++ take 0 (slice_set xs k v) ≡ drop 1 (drop k xs ++ take k xs) ++ v ∷ []
written_at_the_end xs k v p =
    let over = written_over xs k v (omega arith) in
    let whole : take (k + 1) (slice_set xs k v) ≡ slice_set xs k v = grind (arith, common_steps) in
    let none : drop (k + 1) (slice_set xs k v) ≡ [] = grind (arith, common_steps) in
    append-nil (slice_set xs k v) ∙ (rw (none, whole) at over)

-- the next place is one further round the ring
pub overwritten : (xs : List ℕ) (k v : ℕ) → length xs ≡ 256 → k < 256 →
    drop ((k + 1) % 256) (slice_set xs k v) ++ take ((k + 1) % 256) (slice_set xs k v)
    ≡ with_tick (drop k xs ++ take k xs) v
overwritten xs k v e p = elim (eq-or-lt_of_le (let h : k + 1 ≤ 256 = omega arith in h)) [
  | inr before ↦ (let same : (k + 1) % 256 ≡ k + 1 = omega arith in rw same (written_over xs k v (omega arith)))
  | inl last ↦ (let first : (k + 1) % 256 ≡ 0 = omega arith in rw first (written_at_the_end xs k v (omega arith)))
]

-- a list with its oldest entry gone and one more at the end, without its first n entries
latest-with_tick : (n : ℕ) (ticks : List ℕ) (v : ℕ) → n < length ticks
    → drop n (with_tick ticks v) ≡ with_tick (drop n ticks) v
latest-with_tick n ticks v p =
    let some : n ≤ length (drop 1 ticks) = omega (arith, length-drop 1 ticks) in
    let same : drop n (drop 1 ticks) ≡ drop 1 (drop n ticks) =
    drop-drop n 1 ticks ∙ ap (λ m. drop m ticks) (let e : 1 + n ≡ n + 1 = omega arith in e)
    ∙ sym (drop-drop 1 n ticks) in
    drop-append-le n (drop 1 ticks) (v ∷ []) some ∙ ap (λ ys. ys ++ v ∷ []) same

-- a ring has as many entries, wherever it begins
turned_length : (xs : List ℕ) (k : ℕ) → k ≤ length xs → length (drop k xs ++ take k xs) ≡ length xs
turned_length xs k p = grind (arith, common_steps)

-- a ring of 256 has 81 latest entries
pub latest_length : (xs : List ℕ) (k : ℕ) → length xs ≡ 256 → k < 256 → length (latest_of xs k) ≡ 81
latest_length xs k e p =
    let long = turned_length xs k (omega arith) in
    omega (arith, length-drop 175 (drop k xs ++ take k xs))

-- the latest entries of a ring that is written over at its next place
pub latest_written : (xs : List ℕ) (k v : ℕ) → length xs ≡ 256 → k < 256 →
    latest_of (slice_set xs k v) ((k + 1) % 256) ≡ with_tick (latest_of xs k) v
latest_written xs k v e p =
    let long = turned_length xs k (omega arith) in
    ap (drop 175) (overwritten xs k v e p) ∙ latest-with_tick 175 (drop k xs ++ take k xs) v (omega arith)

-- the oldest of the latest entries is 175 places behind the next one, round the ring
pub latest_oldest : (xs : List ℕ) (k : ℕ) → length xs ≡ 256 → k < 256
    → slice_index (latest_of xs k) 0 ≡ slice_index xs ((k + 175) % 256)
latest_oldest xs k e p =
    let back = length-drop k xs in
    let there : get_or (latest_of xs k) 0 0 ≡ get_or (drop k xs ++ take k xs) 175 0 =
    get_or-drop 175 (drop k xs ++ take k xs) 0 0 in
    elim (dec_lt (k + 175) 256) [
      | yes before ↦ (
          let place : (k + 175) % 256 ≡ k + 175 = omega arith in
          rw place (there ∙ get_or_append_left (drop k xs) (take k xs) 0 175 (omega arith) ∙ get_or-drop k xs 175 0))
      | no after ↦ (
          let place : (k + 175) % 256 ≡ 175 - length (drop k xs) = omega arith in
          rw place (there ∙ get_or-append_right (drop k xs) (take k xs) 175 0 (omega arith)
          ∙ get_or-take k xs (175 - length (drop k xs)) 0 (omega arith)))
    ]

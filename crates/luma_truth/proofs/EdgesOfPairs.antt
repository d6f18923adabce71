-- From the first falling edge of a clean drawing on, each edge nine cells behind the one before is that of the next sync
-- pair.
use Rattle.std.proofs.Common.{◌≡◌, ℕ, zero, suc, ◌+◌, ◌*◌, ◌<◌, ◌≤◌, ◌⊎◌, inl, inr, true, false, List}
use Rattle.std.proofs.Common.{length, refl, subst, arith}
use Rattle.std.proofs.Math.Nat.{mul-le-mul_left}
use Rattle.luma_row.specs.Edges.{is_falling, nine_cells, IsNextEdge, LeadsTo}
use Rattle.luma_truth.specs.Drawing.{edge, has_bit, Drawing}
use Rattle.luma_truth.proofs.FallingEdges.{falls_at_each, near_an_edge, FallsAt, FallsNear, IsPlain}

-- where the light falls anywhere behind a pixel, there is a first such edge
abbrev pub FirstWithin : Type 0
FirstWithin = (row : List ℕ) (from pixel : ℕ) → from ≤ pixel → pixel < length row → is_falling row pixel ≡ true
    → (first : ℕ) × IsNextEdge row from first × (first ≤ pixel)

-- a pixel begins near where the 1 of a sync pair ends
pub record IsAtPair (drawing : Drawing) (pair pixel : ℕ) : Type 0 where
  pub late : 10240 * pixel ≤ edge drawing (10 * pair + 1) + 6050
  pub early : edge drawing (10 * pair + 1) ≤ 10240 * pixel + 6050

-- a falling edge no further behind a true one than a pixel is not that of a later one
not_later : (drawing : Drawing) (pixel here cells : ℕ) → 72960 ≤ drawing.cell → FallsNear drawing pixel cells
    → 10240 * pixel ≤ edge drawing here + 10240 → cells ≤ here
not_later drawing pixel here cells wide near late =
    let cases : (cells ≤ here) ⊎ (here + 1 ≤ cells) = grind arith in
    elim cases [
      | inl fine ↦ fine
      | inr more ↦
          let m = mul-le-mul_left drawing.cell more in
          let early = near.early in
          absurd (omega (arith, m, early, late, wide))
    ]

-- the sync pair stands behind its decade
pair_falls : (drawing : Drawing) (row : List ℕ) (pair : ℕ) → IsPlain drawing row → pair < 9
    → FallsAt drawing row (10 * pair + 1)
pair_falls drawing row pair is h =
    falls_at_each drawing row (10 * pair) is (omega (arith, h)) (is.drawn.of_row.ones pair h)
    (is.drawn.of_row.zeros pair h)

-- the light falls first behind the first cell
pub first_edge : FirstWithin → (drawing : Drawing) (row : List ℕ) → IsPlain drawing row
    → (pixel : ℕ) × IsNextEdge row 0 pixel × IsAtPair drawing 0 pixel
first_edge first drawing row is =
    let there = pair_falls drawing row 0 is (omega arith) in
    let found = first row 0 there.pixel (omega arith) there.within there.falling in
    let edge_is = found.1 in
    let near = near_an_edge drawing row found.0 is edge_is.within edge_is.falls in
    let few = found.2 in
    let late = there.late in
    let before = not_later drawing found.0 1 near.0 is.wide near.1 (omega (arith, few, late)) in
    let some = near.1.some in
    let one : near.0 ≡ 1 = omega (arith, before, some) in
    let falls = subst (FallsNear drawing found.0) one near.1 in
    (found.0, edge_is, record { late = falls.late; early = falls.early })

-- of the edges that are near enough to the next pair, none is before it
not_earlier : (drawing : Drawing) (row : List ℕ) (pair before pixel cells : ℕ) → IsPlain drawing row → pair < 8
    → IsAtPair drawing pair before → before + nine_cells (length row) ≤ pixel → FallsNear drawing pixel cells
    → cells ≤ 10 * (pair + 1) + 1 → cells ≡ 10 * (pair + 1) + 1
not_earlier drawing row pair before pixel cells is h at behind near few =
    let cases : (cells ≡ 10 * (pair + 1) + 1) ⊎ (cells ≤ 10 * (pair + 1)) = grind (arith, few) in
    elim cases [
      | inl same ↦ same
      | inr less ↦
          let others : (cells ≡ 10 * (pair + 1)) ⊎ (cells ≤ 10 * pair + 9) = grind (arith, less) in
          elim others [
            | inl one ↦
                let isnt = near.zero_next (omega (arith, one, h)) in
                let set = is.drawn.of_row.ones (pair + 1) (omega (arith, h)) in
                let here = subst (λ (k : ℕ). has_bit drawing.word k ≡ false) one isnt in
                absurd (cc (set, here))
            | inr far ↦
                let m = mul-le-mul_left drawing.cell far in
                let late = near.late in
                let early = at.early in
                let widest = is.drawn.of_row.wide in
                let large = is.clean.large in
                absurd (omega (arith, m, late, early, behind, widest, large))
          ]
    ]

pub next_edge : FirstWithin → (drawing : Drawing) (row : List ℕ) (pair before : ℕ) → IsPlain drawing row → pair < 8
    → IsAtPair drawing pair before
    → (pixel : ℕ) × IsNextEdge row (before + nine_cells (length row)) pixel × IsAtPair drawing (pair + 1) pixel
next_edge first drawing row pair before is h at =
    let there = pair_falls drawing row (pair + 1) is (omega (arith, h)) in
    let late = there.late in
    let early = there.early in
    let at_late = at.late in
    let narrow = is.drawn.of_row.narrow in
    let large = is.clean.large in
    let behind : before + nine_cells (length row) ≤ there.pixel = omega (arith, early, at_late, narrow, large) in
    let found = first row (before + nine_cells (length row)) there.pixel behind there.within there.falling in
    let edge_is = found.1 in
    let near = near_an_edge drawing row found.0 is edge_is.within edge_is.falls in
    let few = found.2 in
    let not_late = not_later drawing found.0 (10 * (pair + 1) + 1) near.0 is.wide near.1 (omega (arith, few, late)) in
    let same = not_earlier drawing row pair before found.0 near.0 is h at edge_is.behind near.1 not_late in
    let falls = subst (FallsNear drawing found.0) same near.1 in
    (found.0, edge_is, record { late = falls.late; early = falls.early })

-- so it leads from each pair to the ninth
pub leads_to_ninth : FirstWithin → (drawing : Drawing) (row : List ℕ) (edges pair pixel : ℕ) → IsPlain drawing row
    → pair + edges ≡ 8 → IsAtPair drawing pair pixel
    → (last : ℕ) × LeadsTo row edges pixel last × IsAtPair drawing 8 last
leads_to_ninth first drawing row zero pair pixel is all at =
    let e : pair ≡ 8 = omega (arith, all) in
    (pixel, refl, subst (λ (p : ℕ). IsAtPair drawing p pixel) e at)
leads_to_ninth first drawing row (suc edges) pair pixel is all at =
    let next = next_edge first drawing row pair pixel is (omega (arith, all)) at in
    let last = leads_to_ninth first drawing row edges (pair + 1) next.0 is (omega (arith, all)) next.2 in
    (last.0, (next.0, next.1, last.1), last.2)

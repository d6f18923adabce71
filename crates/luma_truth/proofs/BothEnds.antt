-- Each core lies between both ends of a place, or less than nine cells beyond: so where both ends are near, each is.
-- The place of a core is a mean of both ends by weights that make 640; beyond the ends one of them counts against.
use Rattle.std.proofs.Common.{◌≡◌, ℕ, ◌+◌, ◌-◌, ◌*◌, ◌/◌, ◌<◌, ◌≤◌, ◌⊎◌, inl, inr, List, ap, subst, arith}
use Rattle.std.proofs.Math.Nat.{mul-le-mul_left}
use Rattle.luma_row.specs.declared.place.Place.{Place}
use Rattle.luma_row.specs.Light.{IsRow}
use Rattle.luma_row.specs.Place.{apart}
use Rattle.luma_truth.specs.Drawing.{edge, Drawing, IsDrawn}
use Rattle.luma_truth.specs.Inside.{LiesInside}
use Rattle.luma_truth.specs.Near.{AreClose, IsNear}
use Rattle.luma_truth.proofs.Rest.{rest_of}

-- between both ends
mean_begins : (cell first last start stop near next at edge : ℕ) → near + next ≡ 640 → AreClose cell first start
    → AreClose cell last stop → near * first + next * last ≡ 640 * at
    → near * start + next * stop ≡ 640 * edge + 80 * cell → 30000 ≤ cell → edge ≤ 640 * (at / 640)
mean_begins cell first last start stop near next at edge all f l at_is edge_is wide =
    let a = f.below in
    let b = l.below in
    let p = mul-le-mul_left near a in
    let q = mul-le-mul_left next b in
    let cells = ap (λ (n : ℕ). n * cell) all in
    let enough : edge + 640 ≤ at = omega (arith, p, q, cells, at_is, edge_is, wide) in
    omega (arith, enough)

mean_ends : (cell first last start stop near next at edge : ℕ) → near + next ≡ 640 → AreClose cell first start
    → AreClose cell last stop → near * first + next * last ≡ 640 * at
    → near * start + next * stop + 80 * cell ≡ 640 * edge → 640 * (at / 640) ≤ edge
mean_ends cell first last start stop near next at edge all f l at_is edge_is =
    let a = f.above in
    let b = l.above in
    let p = mul-le-mul_left near a in
    let q = mul-le-mul_left next b in
    let cells = ap (λ (n : ℕ). n * cell) all in
    let enough : at ≤ edge = omega (arith, p, q, cells, at_is, edge_is) in
    omega (arith, enough)

-- beyond one of them, where the other counts against
beyond_begins : (cell near far drawn_near drawn_far over under at edge : ℕ) → over ≡ under + 640 → under ≤ 71
    → AreClose cell near drawn_near → AreClose cell far drawn_far → over * near ≡ 640 * at + under * far
    → over * drawn_near ≡ 640 * edge + 80 * cell + under * drawn_far → 30000 ≤ cell → edge ≤ 640 * (at / 640)
beyond_begins cell near far drawn_near drawn_far over under at edge more few n f at_is edge_is wide =
    let a = n.below in
    let b = f.above in
    let p = mul-le-mul_left over a in
    let q = mul-le-mul_left under b in
    let cells = mul-le-mul_left cell few in
    let overs = ap (λ (m : ℕ). m * cell) more in
    let enough : edge + 640 ≤ at = omega (arith, p, q, cells, overs, at_is, edge_is, wide) in
    omega (arith, enough)

beyond_ends : (cell near far drawn_near drawn_far over under at edge : ℕ) → over ≡ under + 640 → under ≤ 71
    → AreClose cell near drawn_near → AreClose cell far drawn_far → over * near ≡ 640 * at + under * far
    → over * drawn_near + 80 * cell ≡ 640 * edge + under * drawn_far → 640 * (at / 640) ≤ edge
beyond_ends cell near far drawn_near drawn_far over under at edge more few n f at_is edge_is =
    let a = n.above in
    let b = f.below in
    let p = mul-le-mul_left over a in
    let q = mul-le-mul_left under b in
    let cells = mul-le-mul_left cell few in
    let overs = ap (λ (m : ℕ). m * cell) more in
    let enough : at ≤ edge = omega (arith, p, q, cells, overs, at_is, edge_is) in
    omega (arith, enough)

-- ---- the weights of a core, whose eighths are 8 times its bit and 1, or 7

-- between both ends
weights : (first apart bit part at near next : ℕ) → at + 8 * apart ≡ 640 * first + apart * (8 * bit + part)
    → near + 8 * bit + part ≡ 648 → next + 8 ≡ 8 * bit + part
    → near * (640 * first) + next * (640 * (first + apart)) ≡ 640 * at
weights first apart bit part at near next is n m =
    let firsts = ap (λ (k : ℕ). k * first) n in
    let others = ap (λ (k : ℕ). k * first) m in
    let aparts = ap (λ (k : ℕ). k * apart) m in
    omega (arith, is, firsts, others, aparts)

drawn_weights : (begin cell bit part near next : ℕ) → near + 8 * bit + part ≡ 648 → next + 8 ≡ 8 * bit + part
    → near * (begin + cell * 1) + next * (begin + cell * 81) ≡ 640 * (begin + cell * bit) + 80 * (cell * part)
drawn_weights begin cell bit part near next n m =
    let begins = ap (λ (k : ℕ). k * begin) n in
    let others = ap (λ (k : ℕ). k * begin) m in
    let cells = ap (λ (k : ℕ). k * cell) n in
    let more = ap (λ (k : ℕ). k * cell) m in
    omega (arith, begins, others, cells, more)

-- behind the last end: 8 times the bit and the part is above 648
weights_behind : (first apart bit part at over under : ℕ) → at + 8 * apart ≡ 640 * first + apart * (8 * bit + part)
    → under + 648 ≡ 8 * bit + part → over + 8 ≡ 8 * bit + part
    → over * (640 * (first + apart)) ≡ 640 * at + under * (640 * first)
weights_behind first apart bit part at over under is n m =
    let firsts = ap (λ (k : ℕ). k * first) n in
    let others = ap (λ (k : ℕ). k * first) m in
    let aparts = ap (λ (k : ℕ). k * apart) m in
    omega (arith, is, firsts, others, aparts)

drawn_behind : (begin cell bit part over under : ℕ) → under + 648 ≡ 8 * bit + part → over + 8 ≡ 8 * bit + part
    → over * (begin + cell * 81) ≡ 640 * (begin + cell * bit) + 80 * (cell * part) + under * (begin + cell * 1)
drawn_behind begin cell bit part over under n m =
    let begins = ap (λ (k : ℕ). k * begin) n in
    let others = ap (λ (k : ℕ). k * begin) m in
    let cells = ap (λ (k : ℕ). k * cell) n in
    let more = ap (λ (k : ℕ). k * cell) m in
    omega (arith, begins, others, cells, more)

-- the place of so many eighths, before it is rounded
at_is : (first apart n : ℕ) → 7 * apart ≤ 640 * first → 1 ≤ n
    → 640 * first + apart * n - 8 * apart + 8 * apart ≡ 640 * first + apart * n
at_is first apart n h some = let m = mul-le-mul_left apart some in omega (arith, h, m)

-- the ends of a place in order
in_order : (cell begin first last : ℕ) → AreClose cell (640 * first) (begin + cell * 1)
    → AreClose cell (640 * last) (begin + cell * 81) → first ≤ last
in_order cell begin first last f l =
    let a = f.above in
    let b = l.below in
    omega (arith, a, b)

-- a place near a drawing, by its numbers
pub record Ends (begin cell first apart : ℕ) : Type 0 where
  pub wide : 30000 ≤ cell
  pub in_row : 7 * apart ≤ 640 * first
  pub first_is : AreClose cell (640 * first) (begin + cell * 1)
  pub last_is : AreClose cell (640 * (first + apart)) (begin + cell * 81)

begins_at : (begin cell first apart bit : ℕ) → Ends begin cell first apart → bit < 90
    → begin + cell * bit ≤ 640 * ((640 * first + apart * (8 * bit + 1) - 8 * apart) / 640)
begins_at begin cell first apart bit is h =
    let at = 640 * first + apart * (8 * bit + 1) - 8 * apart in
    let e = at_is first apart (8 * bit + 1) is.in_row (omega arith) in
    let cases : (bit ≡ 0) ⊎ (1 ≤ bit) = grind arith in
    elim cases [
      | inl none ↦
          let zeros = ap (λ (k : ℕ). apart * k) none in
          let cells = ap (λ (k : ℕ). cell * k) none in
          beyond_begins cell (640 * first) (640 * (first + apart)) (begin + cell * 1) (begin + cell * 81) 647 7 at
          (begin + cell * bit) (omega arith) (omega arith) is.first_is is.last_is (omega (arith, e, zeros))
          (omega (arith, cells)) is.wide
      | inr some ↦
          let others : (bit ≤ 80) ⊎ (81 ≤ bit) = grind arith in
          elim others [
            | inl between ↦
                let near = rest_of (8 * bit + 1) 648 (omega arith) in
                let next = rest_of 8 (8 * bit + 1) (omega arith) in
                let at_near = weights first apart bit 1 at near.0 next.0 e (omega (arith, near.1))
                (omega (arith, next.1)) in
                let drawn = drawn_weights begin cell bit 1 near.0 next.0 (omega (arith, near.1))
                (omega (arith, next.1)) in
                mean_begins cell (640 * first) (640 * (first + apart)) (begin + cell * 1) (begin + cell * 81) near.0
                next.0 at (begin + cell * bit) (omega (arith, near.1, next.1)) is.first_is is.last_is at_near
                (omega (arith, drawn)) is.wide
            | inr behind ↦
                let under = rest_of 648 (8 * bit + 1) (omega arith) in
                let over = rest_of 8 (8 * bit + 1) (omega arith) in
                let at_over = weights_behind first apart bit 1 at over.0 under.0 e (omega (arith, under.1))
                (omega (arith, over.1)) in
                let drawn = drawn_behind begin cell bit 1 over.0 under.0 (omega (arith, under.1))
                (omega (arith, over.1)) in
                beyond_begins cell (640 * (first + apart)) (640 * first) (begin + cell * 81) (begin + cell * 1) over.0
                under.0 at (begin + cell * bit) (omega (arith, over.1, under.1)) (omega (arith, under.1)) is.last_is
                is.first_is at_over (omega (arith, drawn)) is.wide
          ]
    ]

ends_at : (begin cell first apart bit : ℕ) → Ends begin cell first apart → bit < 90
    → 640 * ((640 * first + apart * (8 * bit + 7) - 8 * apart) / 640) ≤ begin + cell * (bit + 1)
ends_at begin cell first apart bit is h =
    let at = 640 * first + apart * (8 * bit + 7) - 8 * apart in
    let e = at_is first apart (8 * bit + 7) is.in_row (omega arith) in
    let cases : (bit ≡ 0) ⊎ (1 ≤ bit) = grind arith in
    elim cases [
      | inl none ↦
          let zeros = ap (λ (k : ℕ). apart * k) none in
          let cells = ap (λ (k : ℕ). cell * k) none in
          beyond_ends cell (640 * first) (640 * (first + apart)) (begin + cell * 1) (begin + cell * 81) 641 1 at
          (begin + cell * (bit + 1)) (omega arith) (omega arith) is.first_is is.last_is (omega (arith, e, zeros))
          (omega (arith, cells))
      | inr some ↦
          let others : (bit ≤ 80) ⊎ (81 ≤ bit) = grind arith in
          elim others [
            | inl between ↦
                let near = rest_of (8 * bit + 7) 648 (omega arith) in
                let next = rest_of 8 (8 * bit + 7) (omega arith) in
                let at_near = weights first apart bit 7 at near.0 next.0 e (omega (arith, near.1))
                (omega (arith, next.1)) in
                let drawn = drawn_weights begin cell bit 7 near.0 next.0 (omega (arith, near.1))
                (omega (arith, next.1)) in
                mean_ends cell (640 * first) (640 * (first + apart)) (begin + cell * 1) (begin + cell * 81) near.0
                next.0 at (begin + cell * (bit + 1)) (omega (arith, near.1, next.1)) is.first_is is.last_is at_near
                (omega (arith, drawn))
            | inr behind ↦
                let under = rest_of 648 (8 * bit + 7) (omega arith) in
                let over = rest_of 8 (8 * bit + 7) (omega arith) in
                let at_over = weights_behind first apart bit 7 at over.0 under.0 e (omega (arith, under.1))
                (omega (arith, over.1)) in
                let drawn = drawn_behind begin cell bit 7 over.0 under.0 (omega (arith, under.1))
                (omega (arith, over.1)) in
                beyond_ends cell (640 * (first + apart)) (640 * first) (begin + cell * 81) (begin + cell * 1) over.0
                under.0 at (begin + cell * (bit + 1)) (omega (arith, over.1, under.1)) (omega (arith, under.1))
                is.last_is is.first_is at_over (omega (arith, drawn))
          ]
    ]

-- so all cores lie inside
pub near_lies_inside : (drawing : Drawing) (row : List ℕ) (place : Place) → IsRow row → IsDrawn drawing row
    → IsNear drawing place → LiesInside drawing place
near_lies_inside drawing row place row_is is near =
    let narrow = is.of_row.narrow in
    let least = row_is.0 in
    let wide : 30000 ≤ drawing.cell = omega (arith, narrow, least) in
    let order = in_order drawing.cell drawing.begin place.first place.last near.first near.last in
    let whole : place.last ≡ place.first + apart place = omega (arith, order) in
    let ends : Ends drawing.begin drawing.cell place.first (apart place) = record {
      wide = wide;
      in_row = near.in_row;
      first_is = near.first;
      last_is = subst (λ (last : ℕ). AreClose drawing.cell (640 * last) (edge drawing 81)) whole near.last;
    } in
    record {
      in_row = near.in_row;
      begins = λ bit h. begins_at drawing.begin drawing.cell place.first (apart place) bit ends h;
      ends = λ bit h. ends_at drawing.begin drawing.cell place.first (apart place) bit ends h;
    }

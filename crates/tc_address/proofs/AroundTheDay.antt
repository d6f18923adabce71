-- Whole turns of a circle change no place, so a step of any size is the one that its rest gives.
use Rattle.std.proofs.Common.{add-mul, ◌≡◌, ℕ, suc, ◌+◌, ◌-◌, ◌*◌, ◌/◌, ◌%◌, ◌<◌, ◌≤◌, ◌⊎◌, inl, inr, ℤ, pos, negsuc}
use Rattle.std.proofs.Common.{neg_ℤ, ◌+ℤ◌, refl, sym, ◌∙◌, ap, arith}
use Rattle.std.specs.Prelude.{unsigned_abs}
use Rattle.std.specs.Int.{int_rem_euclid}
use Rattle.std.proofs.Math.Nat.{add-mod-mod, mod-add-mod, add-mod_right, mod-eq_of_lt, mod-lt, le-mul_of_pos_right}
use Rattle.std.proofs.Math.Nat.{mul-le-mul_right}
use Rattle.std.proofs.lemmas.Nat.{div-add-mod'}
use Rattle.std.proofs.lemmas.Int.{ints, int_rem_euclid_is}
use Rattle.tc_address.specs.Circle.{moved, ahead, IsShortest}

-- a number with some turns more has the same rest
pub rest_of : (day k m : ℕ) (z : ℤ) → 0 < day → z +ℤ pos (k * day) ≡ pos m → unsigned_abs (int_rem_euclid z (pos day))
    ≡ m % day
rest_of day k m z h e = ap unsigned_abs (int_rem_euclid_is z (pos day) day k m h refl e)

-- enough turns make a number natural
turned : (day : ℕ) (z : ℤ) → 0 < day → (k : ℕ) × (m : ℕ) × (z +ℤ pos (k * day) ≡ pos m)
turned day (pos n) h = (0, n, omega (arith, ints))
turned day (negsuc n) h =
    let enough : suc n ≤ suc n * day = le-mul_of_pos_right (suc n) h in
    (suc n, suc n * day - suc n, omega (arith, ints, enough))

pub moved_by_rest : (day place : ℕ) (z : ℤ) → 0 < day → (place + unsigned_abs (int_rem_euclid z (pos day))) % day
    ≡ moved day place z
moved_by_rest day place z h =
    let t = turned day z h in
    let rest : unsigned_abs (int_rem_euclid z (pos day)) ≡ t.1 % day = rest_of day t.0 t.1 z h t.2 in
    let e : (pos place +ℤ z) +ℤ pos (t.0 * day) ≡ pos (place + t.1) = omega (arith, ints, t.2) in
    let whole : moved day place z ≡ (place + t.1) % day = rest_of day t.0 (place + t.1) (pos place +ℤ z) h e in
    ap (λ r. (place + r) % day) rest ∙ add-mod-mod place t.1 day ∙ sym whole

pub moved-below : (day place : ℕ) (z : ℤ) → 0 < day → moved day place z < day
moved-below day place z h =
    let t = turned day z h in
    let e : (pos place +ℤ z) +ℤ pos (t.0 * day) ≡ pos (place + t.1) = omega (arith, ints, t.2) in
    let whole : moved day place z ≡ (place + t.1) % day = rest_of day t.0 (place + t.1) (pos place +ℤ z) h e in
    let below : (place + t.1) % day < day = mod-lt (place + t.1) h in
    omega (arith, whole, below)

pub moved-zero : (day place : ℕ) → place < day → moved day place (pos 0) ≡ place
moved-zero day place h =
    let e : pos place +ℤ pos 0 +ℤ pos (0 * day) ≡ pos place = omega (arith, ints) in
    rest_of day 0 place (pos place +ℤ pos 0) (omega arith) e ∙ mod-eq_of_lt h

-- one step after another is their sum
pub moved-add : (day place : ℕ) (j k : ℤ) → 0 < day → moved day (moved day place j) k ≡ moved day place (j +ℤ k)
moved-add day place j k h =
    let s = turned day j h in
    let t = turned day k h in
    let first : moved day place j ≡ (place + s.1) % day =
    let e : (pos place +ℤ j) +ℤ pos (s.0 * day) ≡ pos (place + s.1) = omega (arith, ints, s.2) in
    rest_of day s.0 (place + s.1) (pos place +ℤ j) h e in
    let then : moved day (moved day place j) k ≡ (moved day place j + t.1) % day =
    let e : (pos (moved day place j) +ℤ k) +ℤ pos (t.0 * day) ≡ pos (moved day place j + t.1) =
    omega (arith, ints, t.2) in
    rest_of day t.0 (moved day place j + t.1) (pos (moved day place j) +ℤ k) h e in
    let both : moved day place (j +ℤ k) ≡ (place + s.1 + t.1) % day =
    let products : (s.0 + t.0) * day ≡ s.0 * day + t.0 * day = add-mul s.0 t.0 day in
    let e : (pos place +ℤ (j +ℤ k)) +ℤ pos ((s.0 + t.0) * day) ≡ pos (place + s.1 + t.1) =
    omega (arith, ints, s.2, t.2, products) in
    rest_of day (s.0 + t.0) (place + s.1 + t.1) (pos place +ℤ (j +ℤ k)) h e in
    then ∙ ap (λ n. (n + t.1) % day) first ∙ mod-add-mod (place + s.1) day t.1 ∙ sym both

-- where a step leads, up to whole turns
leads : (day a : ℕ) (d : ℤ) → 0 < day → (k q : ℕ) × ((pos a +ℤ d) +ℤ pos (k * day) ≡ pos (q * day + moved day a d))
leads day a d h =
    let t = turned day d h in
    let e : (pos a +ℤ d) +ℤ pos (t.0 * day) ≡ pos (a + t.1) = omega (arith, ints, t.2) in
    let whole : moved day a d ≡ (a + t.1) % day = rest_of day t.0 (a + t.1) (pos a +ℤ d) h e in
    let split : (a + t.1) / day * day + (a + t.1) % day ≡ a + t.1 = div-add-mod' (a + t.1) day in
    (t.0, (a + t.1) / day, omega (arith, ints, e, whole, split))

-- two ways to one place differ by whole turns, and two shortest ways by less than one
pub one_shortest : (day a b : ℕ) (d e : ℤ) → a < day → IsShortest day a b d → IsShortest day a b e → d ≡ e
one_shortest day a b d e h s t =
    let p = leads day a d (omega arith) in
    let q = leads day a e (omega arith) in
    let x : (p.1 + q.0) * day ≡ p.1 * day + q.0 * day = add-mul p.1 q.0 day in
    let y : (q.1 + p.0) * day ≡ q.1 * day + p.0 * day = add-mul q.1 p.0 day in
    let less : p.1 + q.0 < q.1 + p.0 → ⊥ = λ l. let m : (p.1 + q.0 + 1) * day ≤ (q.1 + p.0) * day =
    mul-le-mul_right day (omega arith) in
    let n : (p.1 + q.0 + 1) * day ≡ (p.1 + q.0) * day + 1 * day = add-mul (p.1 + q.0) 1 day in
    omega (arith, ints, p.2, q.2, x, y, m, n, s.reaches, t.reaches, s.above, s.within, t.above, t.within) in
    let more : q.1 + p.0 < p.1 + q.0 → ⊥ = λ l. let m : (q.1 + p.0 + 1) * day ≤ (p.1 + q.0) * day =
    mul-le-mul_right day (omega arith) in
    let n : (q.1 + p.0 + 1) * day ≡ (q.1 + p.0) * day + 1 * day = add-mul (q.1 + p.0) 1 day in
    omega (arith, ints, p.2, q.2, x, y, m, n, s.reaches, t.reaches, s.above, s.within, t.above, t.within) in
    let same : p.1 + q.0 ≡ q.1 + p.0 = omega (arith, less, more) in
    let turns : (p.1 + q.0) * day ≡ (q.1 + p.0) * day = ap (λ n. n * day) same in
    omega (arith, ints, p.2, q.2, x, y, turns, s.reaches, t.reaches)

-- a sum that is a place, or a place and a turn, has that place as its rest
ends_at : (day b n : ℕ) → b < day → (n ≡ b) ⊎ (n ≡ b + day) → n % day ≡ b
ends_at day b n h (inl q) = ap (λ k. k % day) q ∙ mod-eq_of_lt h
ends_at day b n h (inr q) = ap (λ k. k % day) q ∙ add-mod_right b day ∙ mod-eq_of_lt h

-- a way of more than half the circle is shorter backward
pub back_way : (day a b ahead : ℕ) (d : ℤ) → d ≡ neg_ℤ (pos (day - ahead)) → day % 2 ≡ 0 → b < day →
    day / 2 < ahead → ahead < day → (a + ahead ≡ b) ⊎ (a + ahead ≡ b + day) → IsShortest day a b d
back_way day a b ahead d e even hb half below ways =
    let turn : (pos a +ℤ d) +ℤ pos (1 * day) ≡ pos (a + ahead) = omega (arith, ints, e) in
    let rest : moved day a d ≡ (a + ahead) % day = rest_of day 1 (a + ahead) (pos a +ℤ d) (omega arith) turn in
    record {
      reaches = rest ∙ ends_at day b (a + ahead) hb ways;
      above = omega (arith, ints, e);
      within =
          omega (arith, ints, e);
    }

pub ahead_low : (day a b : ℕ) → a ≤ b → b < day → b - a ≡ ahead day a b
ahead_low day a b h k =
    let e : b + (day - a) ≡ b - a + day = omega arith in
    sym (ap (λ n. n % day) e ∙ add-mod_right (b - a) day ∙ mod-eq_of_lt (omega arith))

pub ahead_high : (day a b : ℕ) → b < a → a < day → day - a + b ≡ ahead day a b
ahead_high day a b h k =
    let e : b + (day - a) ≡ day - a + b = omega arith in
    sym (ap (λ n. n % day) e ∙ mod-eq_of_lt (omega arith))

-- up to half the circle the way forward is shortest
pub front_way : (day a b way : ℕ) (d : ℤ) → d ≡ pos way → b < day → 2 * way ≤ day →
    (a + way ≡ b) ⊎ (a + way ≡ b + day) → IsShortest day a b d
front_way day a b way d e hb half ways =
    let turn : (pos a +ℤ d) +ℤ pos (0 * day) ≡ pos (a + way) = omega (arith, ints, e) in
    let rest : moved day a d ≡ (a + way) % day = rest_of day 0 (a + way) (pos a +ℤ d) (omega arith) turn in
    record {
      reaches = rest ∙ ends_at day b (a + way) hb ways;
      above = omega (arith, ints, e);
      within =
          omega (arith, ints, e);
    }

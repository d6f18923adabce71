-- One sample more waits for a step, or brings it.
use Rattle.std.proofs.Common.{◌≡◌, ℕ, ◌+◌, ◌*◌, ◌^◌, ◌<◌, ◌≤◌, ℤ, pos, ◌+ℤ◌, FitsSigned, List, [], ◌∷◌, Some}
use Rattle.std.proofs.Common.{None, cond, length, map}
use Rattle.std.proofs.Common.{ap, ap₂, sym, ◌∙◌, arith}
use Rattle.std.specs.Prelude.{int_div, unsigned_abs}
use Rattle.std.proofs.lemmas.Bool.{eq-eqb, ne_eqb}
use Rattle.std.specs.Int.{w64}
use Rattle.std.proofs.lemmas.Int.{ints, fits_signed_from_abs}
use Rattle.path_front.specs.declared.group.Sounds.{Sounds}
use Rattle.path_front.specs.Grid.{due, mean_of, total, waiting, AreGrouped, GroupState, GroupStandsFor, IsSounds}

abbrev pub with_more : GroupState → Sounds → GroupState
with_more state sounds = record {
  many = state.many + 1;
  clipped = state.clipped +ℤ sounds.clipped;
  held = state.held +ℤ sounds.held;
}

long : (summed : ℕ) (state : GroupState) (sounds : Sounds) (before : List Sounds) → GroupStandsFor summed state before
    → length (sounds ∷ waiting summed before) ≡ state.many + 1
long summed state sounds before stand = omega (arith, stand.many)

-- fewer than a step takes
stays : (summed : ℕ) (state : GroupState) (sounds : Sounds) (before : List Sounds)
    → GroupStandsFor summed state before → state.many + 1 < summed
    → waiting summed (sounds ∷ before) ≡ sounds ∷ waiting summed before
unfolding waiting
stays summed state sounds before stand few =
    let all = sounds ∷ waiting summed before in
    let n = long summed state sounds before stand in
    ap (λ b. cond b [] all) (ne_eqb (length all) summed (λ e. omega (arith, e, n)))

pub still_waits : (summed : ℕ) (state : GroupState) (sounds : Sounds) (before : List Sounds)
    → GroupStandsFor summed state before → state.many + 1 < summed
    → GroupStandsFor summed (with_more state sounds) (sounds ∷ before)
unfolding total
still_waits summed state sounds before stand few =
    let is = stays summed state sounds before stand few in
    record {
      many = sym (long summed state sounds before stand) ∙ ap length (sym is);
      clipped = let a = stand.clipped in let t = total (map (λ (s : Sounds). s.clipped) (waiting summed before)) in
          let e : state.clipped +ℤ sounds.clipped ≡ sounds.clipped +ℤ t = omega (arith, ints, a) in
          e ∙ ap (λ l. total (map (λ (s : Sounds). s.clipped) l)) (sym is);
      held = let a = stand.held in let t = total (map (λ (s : Sounds). s.held) (waiting summed before)) in
          let e : state.held +ℤ sounds.held ≡ sounds.held +ℤ t = omega (arith, ints, a) in
          e ∙ ap (λ l. total (map (λ (s : Sounds). s.held) l)) (sym is);
    }

pub not_due : (summed : ℕ) (state : GroupState) (sounds : Sounds) (before : List Sounds)
    → GroupStandsFor summed state before → state.many + 1 < summed → due summed (sounds ∷ before) ≡ None
not_due summed state sounds before stand few =
    let all = sounds ∷ waiting summed before in
    let n = long summed state sounds before stand in
    ap (λ b. cond b (Some (mean_of summed all)) None) (ne_eqb (length all) summed (λ e. omega (arith, e, n)))

-- as many as a step takes
pub goes : (summed : ℕ) (state empty : GroupState) (sounds : Sounds) (before : List Sounds)
    → GroupStandsFor summed state before → state.many + 1 ≡ summed → GroupStandsFor summed empty []
    → GroupStandsFor summed empty (sounds ∷ before)
unfolding waiting
goes summed state empty sounds before stand full none =
    let all = sounds ∷ waiting summed before in
    let n = long summed state sounds before stand in
    let is : waiting summed (sounds ∷ before) ≡ [] =
    ap (λ b. cond b [] all) (eq-eqb (length all) summed (omega (arith, n, full))) in
    record {
      many = none.many ∙ ap length (sym is);
      clipped = none.clipped ∙ ap (λ l. total (map (λ (s : Sounds). s.clipped) l)) (sym is);
      held = none.held ∙ ap (λ l. total (map (λ (s : Sounds). s.held) l)) (sym is);
    }

pub is_due : (summed : ℕ) (state : GroupState) (sounds mean : Sounds) (before : List Sounds)
    → GroupStandsFor summed state before → state.many + 1 ≡ summed
    → mean.clipped ≡ int_div (state.clipped +ℤ sounds.clipped) (pos (state.many + 1))
    → mean.held ≡ int_div (state.held +ℤ sounds.held) (pos (state.many + 1))
    → Some mean ≡ due summed (sounds ∷ before)
unfolding total
is_due summed state sounds mean before stand full clipped held =
    let all = sounds ∷ waiting summed before in
    let n = long summed state sounds before stand in
    let c : state.clipped +ℤ sounds.clipped ≡ total (map (λ (s : Sounds). s.clipped) all) =
    (let a = stand.clipped in let t = total (map (λ (s : Sounds). s.clipped) (waiting summed before)) in
    let e : state.clipped +ℤ sounds.clipped ≡ sounds.clipped +ℤ t = omega (arith, ints, a) in e) in
    let h : state.held +ℤ sounds.held ≡ total (map (λ (s : Sounds). s.held) all) =
    (let a = stand.held in let t = total (map (λ (s : Sounds). s.held) (waiting summed before)) in
    let e : state.held +ℤ sounds.held ≡ sounds.held +ℤ t = omega (arith, ints, a) in e) in
    ap Some (ap₂ (λ x y. record { clipped = x; held = y })
    (clipped ∙ ap₂ (λ s m. int_div s (pos m)) c full) (held ∙ ap₂ (λ s m. int_div s (pos m)) h full))
    ∙ sym (ap (λ b. cond b (Some (mean_of summed all)) None) (eq-eqb (length all) summed (omega (arith, n, full))))

-- ---- bounds

abbrev pub limit : ℕ
limit = 2 ^ 15 + 2 ^ 14

-- the sum of two sizes bounds that of their sum
pub size_of_sum : (a b : ℤ) (m n : ℕ) → unsigned_abs a ≤ m → unsigned_abs b ≤ n → unsigned_abs (a +ℤ b) ≤ m + n
size_of_sum a b m n x y = omega (arith, ints)

pub sums_within : (state : GroupState) (sounds : Sounds) → AreGrouped state → IsSounds sounds
    → (unsigned_abs (state.clipped +ℤ sounds.clipped) ≤ (state.many + 1) * 2 ^ 15)
    × (unsigned_abs (state.held +ℤ sounds.held) ≤ (state.many + 1) * limit)
sums_within state sounds are is =
    let a = size_of_sum state.clipped sounds.clipped (state.many * 2 ^ 15) (2 ^ 15) are.clipped is.clipped in
    let b = size_of_sum state.held sounds.held (state.many * limit) limit are.held is.held in
    (omega (arith, a), omega (arith, b))

pub sum_fits : (state : GroupState) (sounds : Sounds) → AreGrouped state → IsSounds sounds
    → FitsSigned w64 (state.clipped +ℤ sounds.clipped) × FitsSigned w64 (state.held +ℤ sounds.held)
sum_fits state sounds are is =
    let s = sums_within state sounds are is in (
      fits_signed_from_abs w64 (state.clipped +ℤ sounds.clipped) (omega (arith, s.0, are.many)),
      fits_signed_from_abs w64 (state.held +ℤ sounds.held) (omega (arith, s.1, are.many)),
    )

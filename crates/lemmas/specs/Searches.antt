-- A search over some numbers finds nothing exactly if each of them fails the test, and two tests that agree on each
-- of them find the same.
use Rattle.std.proofs.Common.{◌≡◌, ℕ, zero, suc, ◌+◌, ◌<◌, Bool, true, false, cond, Option, Some, None, refl, arith}
use Rattle.std.specs.List.{find, range_with_len}

passed_over : (b : Bool) (x : ℕ) (rest : Option ℕ) → cond b (Some x) rest ≡ None → (b ≡ false) × (rest ≡ None)
passed_over true x rest e = absurd cc
passed_over false x rest e = (refl, e)

-- where it finds nothing, each of them fails the test
pub find_none : (p : ℕ → Bool) (a n : ℕ) → find p (range_with_len a n) ≡ None → (i : ℕ) → i < n → p (a + i) ≡ false
find_none p a zero e i lt = absurd (omega arith)
find_none p a (suc n) e zero lt =
    let h = passed_over (p a) a (find p (range_with_len (a + 1) n)) e in
    let k : a + zero ≡ a = omega arith in
    rw k h.0
find_none p a (suc n) e (suc i) lt =
    let h = passed_over (p a) a (find p (range_with_len (a + 1) n)) e in
    let k : a + suc i ≡ a + 1 + i = omega arith in
    rw k (find_none p (a + 1) n h.1 i (omega arith))

-- where each of them fails, it finds nothing
pub none_found : (p : ℕ → Bool) (a n : ℕ) → ((i : ℕ) → i < n → p (a + i) ≡ false)
    → find p (range_with_len a n) ≡ None
none_found p a zero h = refl
none_found p a (suc n) h =
    let k : a + zero ≡ a = omega arith in
    let here : p a ≡ false = rw k at (h zero (omega arith)) in
    let rest : find p (range_with_len (a + 1) n) ≡ None = none_found p (a + 1) n (λ i lt.
    let e : a + 1 + i ≡ a + suc i = omega arith in rw e (h (suc i) (omega arith))) in
    rw (here, rest) refl

-- two tests that agree
pub same_found : (p q : ℕ → Bool) (a n : ℕ) → ((i : ℕ) → i < n → p (a + i) ≡ q (a + i))
    → find p (range_with_len a n) ≡ find q (range_with_len a n)
same_found p q a zero h = refl
same_found p q a (suc n) h =
    let k : a + zero ≡ a = omega arith in
    let here : p a ≡ q a = rw k at (h zero (omega arith)) in
    let rest : find p (range_with_len (a + 1) n) ≡ find q (range_with_len (a + 1) n) = same_found p q (a + 1) n (λ i lt.
    let e : a + 1 + i ≡ a + suc i = omega arith in rw e (h (suc i) (omega arith))) in
    rw (here, rest) refl

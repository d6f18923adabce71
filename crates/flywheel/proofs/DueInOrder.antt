-- A frame is due no sooner than those before it, so the due steps up to a limit are the first ones.
use Rattle.std.proofs.Common.{◌≡◌, ℕ, zero, suc, ◌+◌, ◌*◌, ◌<◌, ◌≤◌, Bool, true, false, nat_le, [], ◌∷◌, ◌++◌, refl}
use Rattle.std.proofs.Common.{ap, append-nil, arith, ◌^◌, Option, Some, None, IfSome}
use Rattle.std.specs.List.{filter, range_with_len}
use Rattle.std.proofs.lemmas.Bool.Decides.{nat_tests}
use Rattle.std.proofs.lemmas.Nat.{mul-le}
use Rattle.flywheel.specs.declared.heard.HeardWord.{HeardWord}
use Rattle.flywheel.specs.declared.frame.Frame.TheVariants.{Gone}
use Rattle.flywheel.specs.Frames.{tick_after, is_due, due_steps, frames_between}
use Rattle.flywheel.specs.Wheel.{is_next_due, IsFirstDue}
use Rattle.flywheel.specs.StandsFor.{first_invented}

-- an earlier step is due wherever a later one is
pub is_due-before : (word : HeardWord) (j k tick : ℕ) → j ≤ k → is_due word k tick ≡ true → is_due word j tick ≡ true
is_due-before word j k tick h due =
    let grows = mul-le (2 * j + 1) word.length (2 * k + 1) word.length (omega arith) (omega arith) in
    grind (arith, nat_tests, grows)

-- what is due stays due
pub is_due-later : (word : HeardWord) (k tick later : ℕ) → tick ≤ later → is_due word k tick ≡ true
    → is_due word k later ≡ true
is_due-later word k tick later h due = grind (arith, nat_tests)

-- if a step is not due, no later one is
pub not_due-after : (word : HeardWord) (j k tick : ℕ) → j ≤ k → is_due word j tick ≡ false → is_due word k tick ≡ false
not_due-after word j k tick h due =
    let grows = mul-le (2 * j + 1) word.length (2 * k + 1) word.length (omega arith) (omega arith) in
    grind (arith, nat_tests, grows)

-- no step of a word is due at its own tick
pub not_due-own : (word : HeardWord) (k : ℕ) → 1 ≤ word.length → is_due word k word.tick ≡ false
not_due-own word k h =
    let grows = mul-le 1 1 (2 * k + 1) word.length (omega arith) h in
    grind (arith, nat_tests, grows)

-- a test that holds of the first n numbers of a range, and of none past them, picks those
filter-first : (p : ℕ → Bool) (a n m : ℕ) → n ≤ m → ((k : ℕ) → a ≤ k → k < a + n → p k ≡ true)
    → ((k : ℕ) → a + n ≤ k → k < a + m → p k ≡ false) →
    filter p (range_with_len a m) ≡ range_with_len a n
filter-first p a zero zero h held never = refl
filter-first p a zero (suc m) h held never =
    let rest = filter-first p (a + 1) zero m (omega arith) (λ k l u. absurd (omega arith))
    (λ k l u. never k (omega arith) (omega arith)) in
    rw (never a (omega arith) (omega arith)) rest
filter-first p a (suc n) zero h held never = absurd (omega arith)
filter-first p a (suc n) (suc m) h held never =
    let held_after : (k : ℕ) → a + 1 ≤ k → k < a + 1 + n → p k ≡ true = λ k l u. held k (omega arith) (omega arith) in
    let rest = filter-first p (a + 1) n m (omega arith) held_after (λ k l u. never k (omega arith) (omega arith)) in
    rw (held a (omega arith) (omega arith)) (ap (λ more. a ∷ more) rest)

-- the first n steps are due and no more, so these are the due steps
pub due_steps-first : (limit : ℕ) (word : HeardWord) (n tick : ℕ) → n ≤ limit
    → ((k : ℕ) → 1 ≤ k → k ≤ n → is_due word k tick ≡ true) →
    ((k : ℕ) → n < k → k ≤ limit → is_due word k tick ≡ false) → due_steps limit word tick ≡ range_with_len 1 n
due_steps-first limit word n tick h held never =
    filter-first (λ k. is_due word k tick) 1 n limit h (λ k l u. held k l (omega arith))
    (λ k l u. never k (omega arith) (omega arith))

-- nothing is due any more: the frames that follow a word are the first n invented ones
pub frames_between-first : (limit : ℕ) (word : HeardWord) (n tick : ℕ) → n ≤ limit
    → ((k : ℕ) → 1 ≤ k → k ≤ n → is_due word k tick ≡ true) →
    is_due word (n + 1) tick ≡ false → frames_between limit word tick ≡ first_invented word n
frames_between-first limit word n tick h held over =
    let after : (k : ℕ) → n < k → is_due word k tick ≡ false = λ k l. not_due-after word (n + 1) k tick (omega arith)
    over in
    let steps = due_steps-first limit word n tick h held (λ k l u. after k l) in
    rw (steps, after (limit + 1) (omega arith)) (append-nil _)

-- the frame past the limit is due: all that may be invented was invented, and then comes the end
pub frames_between-gone : (limit : ℕ) (word : HeardWord) (tick : ℕ) → is_due word (limit + 1) tick ≡ true →
    frames_between limit word tick ≡ first_invented word limit ++ Gone (tick_after word (limit + 1)) ∷ []
frames_between-gone limit word tick due =
    let held : (k : ℕ) → 1 ≤ k → k ≤ limit → is_due word k tick ≡ true = λ k l u. is_due-before word k (limit + 1) tick
    (omega arith) due in
    let steps = due_steps-first limit word limit tick (omega arith) held (λ k l u. absurd (omega arith)) in
    rw (steps, due) refl

-- nothing follows a word at its own tick
pub frames_between-own : (limit : ℕ) (word : HeardWord) → 1 ≤ word.length → frames_between limit word word.tick ≡ []
frames_between-own limit word h =
    frames_between-first limit word 0 word.tick (omega arith) (λ k l u. absurd (omega arith))
    (not_due-own word (0 + 1) h)

-- the tick that is kept is the first at which the next frame is due
pub first_due : (reference : Option HeardWord) (n from tick : ℕ) → IsFirstDue reference n from
    → IfSome reference (λ word. word.tick ≤ tick) → tick < 2 ^ 60 →
    nat_le from tick ≡ is_next_due reference n tick
first_due None n from tick is h below = grind (arith, nat_tests)
first_due (Some word) n from tick is h below =
    let half : (2 * (n + 1) + 1) * word.length ≡ 2 * ((n + 1) * word.length) + word.length = omega arith in
    rw (is.1, half) (grind (arith, nat_tests))

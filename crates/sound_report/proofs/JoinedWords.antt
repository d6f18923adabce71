-- Words of which each is the next behind the one before it, and comes soon enough behind it, are joined: no frame is
-- invented between them.
use Rattle.std.proofs.Common.{◌≡◌, ℕ, zero, suc, ◌+◌, ◌-◌, ◌*◌, ◌<◌, ◌≤◌, Bool, true, false, List, [], ◌∷◌, ◌++◌}
use Rattle.std.proofs.Common.{map, refl, ap, arith}
use Rattle.std.specs.List.{filter, range_with_len}
use Rattle.std.proofs.lemmas.Bool.Decides.{nat_tests}
use Rattle.std.proofs.lemmas.Nat.{mul-le}
use Rattle.flywheel.specs.declared.frame.Frame.{Frame}
use Rattle.flywheel.specs.declared.heard.HeardWord.{HeardWord}
use Rattle.flywheel.specs.Frames.{due_steps, frames_after, frames_between, heard_as, is_due, is_joined}
use Rattle.flywheel.specs.Frames.{is_next}

-- a word comes soon behind another one: by less than one and a half of its lengths
abbrev pub ComesSoon : HeardWord → HeardWord → Type 0
ComesSoon before word = 2 * (word.tick - before.tick) < 3 * before.length

-- so it is with each of some words behind one, and each is the next
abbrev pub AreJoined : HeardWord → List HeardWord → Type 0
AreJoined before [] = Unit {0}
AreJoined before (word ∷ more) = ComesSoon before word × (is_next before 1 word ≡ true) × AreJoined word more

-- the last of them
abbrev pub latest : HeardWord → List HeardWord → HeardWord
latest word [] = word
latest word (next ∷ more) = latest next more

not_due : (before : HeardWord) (tick k : ℕ) → 2 * (tick - before.tick) < 3 * before.length → 1 ≤ k
    → is_due before k tick ≡ false
not_due before tick k soon some =
    let grows = mul-le 3 before.length (2 * k + 1) before.length (omega arith) (omega arith) in
    grind (arith, nat_tests, grows)

none_of : (p : ℕ → Bool) (k n : ℕ) → ((j : ℕ) → k ≤ j → p j ≡ false) → filter p (range_with_len k n) ≡ []
none_of p k zero never = refl
none_of p k (suc n) never =
    rw (never k (omega arith)) (none_of p (k + 1) n (λ j past. never j (omega arith)))

none_due : (limit : ℕ) (before : HeardWord) (tick : ℕ) → 2 * (tick - before.tick) < 3 * before.length
    → due_steps limit before tick ≡ []
none_due limit before tick soon =
    none_of (λ k. is_due before k tick) 1 limit (λ k some. not_due before tick k soon some)

none_between : (limit : ℕ) (before : HeardWord) (tick : ℕ) → 2 * (tick - before.tick) < 3 * before.length
    → frames_between limit before tick ≡ []
none_between limit before tick soon =
    rw (none_due limit before tick soon, not_due before tick (limit + 1) soon (omega arith)) refl

joins : (limit : ℕ) (before word : HeardWord) → ComesSoon before word → is_next before 1 word ≡ true
    → is_joined limit before word ≡ true
joins limit before word soon next =
    rw (none_due limit before word.tick soon, not_due before word.tick (limit + 1) soon (omega arith)) next

-- the frames behind a word are these words, each joined, and what follows the last one
pub frames_are_joined : (limit tick : ℕ) (word : HeardWord) (more : List HeardWord) → AreJoined word more
    → frames_after limit word more tick
    ≡ map (heard_as true) more ++ frames_between limit (latest word more) tick
frames_are_joined limit tick word [] joined = refl
frames_are_joined limit tick word (next ∷ more) joined =
    rw (none_between limit word next.tick joined.0, joins limit word next joined.0 joined.1)
    (ap (λ (l : List Frame). heard_as true next ∷ l) (frames_are_joined limit tick next more joined.2))

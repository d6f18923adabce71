-- What was given so far begins the frames of the words up to the tick, and a later word adds frames at their end.
use Rattle.std.proofs.Common.{◌≡◌, ℕ, zero, suc, ◌+◌, ◌<◌, ◌≤◌, ◌⊎◌, inl, inr, Bool, true, List, [], ◌∷◌, ◌++◌, map}
use Rattle.std.proofs.Common.{Option, Some, None, cond, refl}
use Rattle.std.proofs.Common.{sym, ◌∙◌, ap, append_assoc, append-nil, arith}
use Rattle.std.specs.List.{filter, range_with_len}
use Rattle.std.proofs.lemmas.List.{map-append}
use Rattle.flywheel.specs.declared.heard.HeardWord.{HeardWord}
use Rattle.flywheel.specs.declared.frame.Frame.{Frame}
use Rattle.flywheel.specs.declared.frame.Frame.TheVariants.{Gone}
use Rattle.flywheel.specs.Frames.{frames, frames_between, invented_after, is_due, is_gone, is_joined, due_steps}
use Rattle.flywheel.specs.Frames.{heard_as, tick_after}
use Rattle.flywheel.specs.Wheel.{Wheel}
use Rattle.flywheel.specs.StandsFor.{first_invented, HasGivenAfter, HasGiven, StandsFor}
use Rattle.flywheel.proofs.GivenSoFar.{given_up}
use Rattle.flywheel.proofs.PairsOfWords.{frames-last, frames-next}

-- a list that begins with another
abbrev pub Begins : List Frame → List Frame → Type 0
Begins front whole = (rest : List Frame) × (whole ≡ front ++ rest)

-- a test that holds of the first n numbers of a range picks them first
filter-begins : (p : ℕ → Bool) (a n m : ℕ) → n ≤ m → ((k : ℕ) → a ≤ k → k < a + n → p k ≡ true)
    → (rest : List ℕ) × (filter p (range_with_len a m) ≡ range_with_len a n ++ rest)
filter-begins p a zero m h held = (filter p (range_with_len a m), refl)
filter-begins p a (suc n) zero h held = absurd (omega arith)
filter-begins p a (suc n) (suc m) h held =
    let more = filter-begins p (a + 1) n m (omega arith) (λ k l u. held k (omega arith) (omega arith)) in
    (more.0, rw (held a (omega arith) (omega arith)) (ap (λ (rest : List ℕ). a ∷ rest) more.1))

-- the invented frames that were given come first after their word
pub after_word : (limit : ℕ) (word : HeardWord) (n tick : ℕ) → n ≤ limit
    → ((k : ℕ) → 1 ≤ k → k ≤ n → is_due word k tick ≡ true)
    → Begins (first_invented word n) (frames_between limit word tick)
after_word limit word n tick within held =
    let steps = filter-begins (λ k. is_due word k tick) 1 n limit within (λ k l u. held k l (omega arith)) in
    let end = cond (is_gone limit word tick) (Gone (tick_after word (limit + 1)) ∷ []) [] in
    let invented : map (invented_after word) (due_steps limit word tick) ≡ first_invented word n
    ++ map (invented_after word) steps.0 =
    ap (map (invented_after word)) steps.1 ∙ map-append (invented_after word) (range_with_len 1 n) steps.0 in (
      map (invented_after word) steps.0 ++ end,
      ap (λ (l : List Frame). l ++ end) invented
          ∙ append_assoc (first_invented word n) (map (invented_after word) steps.0) end,
    )

begins_after : (limit : ℕ) (word : HeardWord) (n : ℕ) (words : List HeardWord) (tick : ℕ) (given : List Frame)
    → HasGivenAfter limit word n words tick given → Begins given (frames limit words tick)
begins_after limit word n words tick given has =
    let after = after_word limit word n tick has.within has.due in
    let last : frames limit words tick ≡ frames limit words word.tick ++ frames_between limit word tick =
    rw has.told (frames-last limit has.earlier word tick has.least) in (
      after.0,
      last ∙ ap (λ (l : List Frame). frames limit words word.tick ++ l) after.1
          ∙ sym (append_assoc (frames limit words word.tick) (first_invented word n) after.0)
          ∙ ap (λ (l : List Frame). l ++ after.0) (sym has.given_are),
    )

begins : (limit : ℕ) (reference : Option HeardWord) (n : ℕ) (words : List HeardWord) (tick : ℕ) (given : List Frame)
    → HasGiven limit reference n words tick given → Begins given (frames limit words tick)
begins limit (Some word) n words tick given has = begins_after limit word n words tick given has
begins limit None n words tick given (inl none) = rw (none.0, none.1) ([], refl)
begins limit None n words tick given (inr has) =
    ([], given_up limit words tick tick given has (omega arith) ∙ sym (append-nil given))

pub given_come_first : (wheel : Wheel) (words : List HeardWord) (tick : ℕ) (given : List Frame)
    → StandsFor wheel words tick given
    → Begins given (frames wheel.limit words tick)
given_come_first wheel words tick given has = begins wheel.limit wheel.reference wheel.invented words tick given has

-- ---- a later word

-- words are none, or some and a last one
abbrev Splits : List HeardWord → Type 0
Splits words = (words ≡ []) ⊎ ((earlier : List HeardWord) × (last : HeardWord) × (words ≡ earlier ++ last ∷ []))

splits : (words : List HeardWord) → Splits words
splits [] = inl refl
splits (word ∷ more) = elim (splits more) [
  | inl none ↦ inr ([], word, ap (λ (l : List HeardWord). word ∷ l) none)
  | inr some ↦ inr (word ∷ some.0, some.1, ap (λ (l : List HeardWord). word ∷ l) some.2)
]

adds : (limit : ℕ) (words : List HeardWord) (word : HeardWord) → Splits words → Begins (frames limit words word.tick)
    (frames limit (words ++ word ∷ []) word.tick)
adds limit words word (inl none) = rw none (frames limit (word ∷ []) word.tick, refl)
adds limit words word (inr some) = (
  heard_as (is_joined limit some.1 word) word ∷ frames_between limit word word.tick,
  rw some.2 (frames-next limit some.0 some.1 word word.tick),
)

pub a_word_adds_frames : (limit : ℕ) (words : List HeardWord) (word : HeardWord)
    → Begins (frames limit words word.tick) (frames limit (words ++ word ∷ []) word.tick)
a_word_adds_frames limit words word = adds limit words word (splits words)

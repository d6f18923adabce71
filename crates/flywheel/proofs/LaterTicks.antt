-- What is due stays due, so the frames up to a tick come first among those up to a later one, and frames of later
-- words come behind them.
use Rattle.std.proofs.Common.{◌≡◌, ℕ, ◌+◌, ◌≤◌, Bool, true, false, List, [], ◌∷◌, ◌++◌, length, map, refl, sym, ◌∙◌, ap}
use Rattle.std.proofs.Common.{append_assoc, append-nil}
use Rattle.std.proofs.Common.{arith}
use Rattle.std.specs.List.{range_with_len, All}
use Rattle.std.proofs.lemmas.List.FromFn.{length-range_with_len}
use Rattle.std.proofs.lemmas.List.Sums.{count_by-le-length, length-filter}
use Rattle.flywheel.specs.declared.heard.HeardWord.{HeardWord}
use Rattle.flywheel.specs.declared.frame.Frame.{Frame}
use Rattle.flywheel.specs.Frames.{frames, frames_after, frames_between, heard_as, invented_after, is_due, is_gone}
use Rattle.flywheel.specs.Frames.{is_joined, due_steps}
use Rattle.flywheel.specs.StandsFor.{first_invented}
use Rattle.flywheel.proofs.BoundedInvention.{due_steps-range, due-of_count}
use Rattle.flywheel.proofs.DueInOrder.{is_due-later, frames_between-gone}
use Rattle.flywheel.proofs.GivenComeFirst.{Begins, after_word}

-- no more steps are due than the limit
due_steps-within : (limit : ℕ) (word : HeardWord) (tick : ℕ) → length (due_steps limit word tick) ≤ limit
due_steps-within limit word tick =
    let test : ℕ → Bool = λ k. is_due word k tick in
    let steps = range_with_len 1 limit in
    omega (arith, length-filter test steps, count_by-le-length test steps, length-range_with_len 1 limit)

-- if no more is due than the limit, the frames that follow a word are the first invented ones
frames_between-within : (limit : ℕ) (word : HeardWord) (tick : ℕ) → is_gone limit word tick ≡ false →
    frames_between limit word tick ≡ first_invented word (length (due_steps limit word tick))
frames_between-within limit word tick within =
    rw within (append-nil (map (invented_after word) (due_steps limit word tick)))
    ∙ ap (map (invented_after word)) (due_steps-range limit word tick)

-- if no other word is heard, the frames up to a tick come first at a later one
between_later : (limit : ℕ) (word : HeardWord) (tick later : ℕ) (gone : Bool) → is_gone limit word tick ≡ gone
    → tick ≤ later →
    Begins (frames_between limit word tick) (frames_between limit word later)
between_later limit word tick later true is h =
    let still_gone = is_due-later word (limit + 1) tick later h is in (
      [],
      frames_between-gone limit word later still_gone ∙ sym (frames_between-gone limit word tick is)
          ∙ sym (append-nil (frames_between limit word tick)),
    )
between_later limit word tick later false is h =
    let n = length (due_steps limit word tick) in
    let due : (k : ℕ) → 1 ≤ k → k ≤ n → is_due word k later ≡ true =
    λ k l u. is_due-later word k tick later h (due-of_count limit word tick k l u) in
    let first = after_word limit word n later (due_steps-within limit word tick) due in
    (first.0, rw (frames_between-within limit word tick is) first.1)

-- what comes first still does if more is put behind
begins-more : (front whole more : List Frame) → Begins front whole → Begins front (whole ++ more)
begins-more front whole more first =
    (first.0 ++ more, ap (λ (l : List Frame). l ++ more) first.1 ∙ append_assoc front first.0 more)

-- and if the same is put before both
begins-behind : (before front whole : List Frame) → Begins front whole → Begins (before ++ front) (before ++ whole)
begins-behind before front whole first =
    (first.0, ap (λ (l : List Frame). before ++ l) first.1 ∙ sym (append_assoc before front first.0))

-- after the last word comes a later tick, or the first of the words that are heard later
after_last : (limit : ℕ) (word : HeardWord) (more : List HeardWord) (tick last : ℕ) → tick ≤ last
    → All (λ (heard : HeardWord). tick ≤ heard.tick) more →
    Begins (frames_between limit word tick) (frames_after limit word more last)
after_last limit word [] tick last h later = between_later limit word tick last (is_gone limit word tick) refl h
after_last limit word (next ∷ more) tick last h later =
    begins-more (frames_between limit word tick) (frames_between limit word next.tick)
    (heard_as (is_joined limit word next) next ∷ frames_after limit next more last)
    (between_later limit word tick next.tick (is_gone limit word tick) refl (later 0 next (omega arith)))

after_words : (limit : ℕ) (word : HeardWord) (words more : List HeardWord) (tick last : ℕ) → tick ≤ last →
    All (λ (heard : HeardWord). tick ≤ heard.tick) more
    → Begins (frames_after limit word words tick) (frames_after limit word (words ++ more) last)
after_words limit word [] more tick last h later = after_last limit word more tick last h later
after_words limit word (next ∷ words) more tick last h later =
    begins-behind (frames_between limit word next.tick)
    (heard_as (is_joined limit word next) next ∷ frames_after limit next words tick)
    (heard_as (is_joined limit word next) next ∷ frames_after limit next (words ++ more) last)
    (begins-behind (heard_as (is_joined limit word next) next ∷ []) (frames_after limit next words tick)
    (frames_after limit next (words ++ more) last)
    (after_words limit next words more tick last h later))

-- the frames of some words up to a tick come first, whatever words are heard at that tick or later
pub frames_of_a_front : (limit tick last : ℕ) (words more : List HeardWord) → tick ≤ last
    → All (λ (heard : HeardWord). tick ≤ heard.tick) more →
    Begins (frames limit words tick) (frames limit (words ++ more) last)
frames_of_a_front limit tick last [] more h later = (frames limit more last, refl)
frames_of_a_front limit tick last (word ∷ words) more h later =
    begins-behind (heard_as false word ∷ []) (frames_after limit word words tick)
    (frames_after limit word (words ++ more) last)
    (after_words limit word words more tick last h later)

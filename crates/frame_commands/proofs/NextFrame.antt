-- The next frame of an interval is the first of those that are still to come, since the words that wait come later.
use Rattle.std.proofs.Common.{◌≡◌, ℕ, ◌^◌, ◌<◌, ◌≤◌, List, [], ◌∷◌, ◌++◌, ◌∙◌, ap, arith, refl, sym}
use Rattle.std.proofs.Common.{append-nil, length, length-append, subst, ◌+◌, ◌-◌, ◌*◌, Bool, true, false}
use Rattle.std.proofs.Common.{inl, inr}
use Rattle.std.proofs.lemmas.Bool.Decides.{nat_tests}
use Rattle.std.proofs.lemmas.Bool.{cases_lt}
use Rattle.std.specs.Prelude.{All, IfSome, None, Option, Some}
use Rattle.std.proofs.lemmas.List.Elements.{All-nil}
use Rattle.direction_reader.specs.Firm.{DoNotFall}
use Rattle.flywheel.specs.declared.frame.Frame.{Frame}
use Rattle.flywheel.specs.declared.frame.Frame.TheVariants.{Heard, Invented, Gone}
use Rattle.flywheel.specs.declared.heard.HeardWord.{HeardWord}
use Rattle.flywheel.specs.Frames.{frames, invented_after, is_due, tick_after}
use Rattle.flywheel.specs.StandsFor as flies
use Rattle.flywheel.specs.Wheel.{Wheel, IsPast, is_next_due, running, still}
use Rattle.report_text.specs.FrameTexts.{FitsFrameLine}
use Rattle.frame_commands.specs.Hearing.{due_at, word_ticks}
use Rattle.frame_commands.specs.KeptFlight.{GivesDue, HeardBy}

-- ---- words in turn

pub turn_end : (ticks : List ℕ) (from until : ℕ) → DoNotFall from ticks until → from ≤ until
turn_end [] from until turn = turn
turn_end (t ∷ ticks) from until turn =
    let first = turn.0 in let rest = turn_end ticks t until turn.1 in omega (arith, first, rest)

-- the next word is heard behind what was heard
pub turn_due : (words : List HeardWord) (from until : ℕ) → DoNotFall from (word_ticks words) until
    → from ≤ due_at words until
turn_due [] from until turn = turn
turn_due (word ∷ more) from until turn = turn.0

-- and the others behind it
pub due_turn : (words : List HeardWord) (from until : ℕ) → DoNotFall from (word_ticks words) until
    → DoNotFall (due_at words until) (word_ticks words) until
due_turn [] from until turn = omega arith
due_turn (word ∷ more) from until turn = (omega arith, turn.1)

pub due_end : (words : List HeardWord) (from until : ℕ) → DoNotFall from (word_ticks words) until
    → due_at words until ≤ until
due_end [] from until turn = omega arith
due_end (word ∷ more) from until turn = turn_end (word_ticks more) word.tick until turn.1

by_reference : (o : Option HeardWord) (from tick : ℕ) → from ≤ tick
    → IfSome o (λ (word : HeardWord). word.tick ≤ from) → IfSome o (λ (word : HeardWord). word.tick ≤ tick)
by_reference None from tick late by = tt
by_reference (Some word) from tick late by = omega (arith, late, by)

-- one that was heard by a tick was heard by a later one
pub heard_later : (wheel : Wheel) (from tick : ℕ) → from ≤ tick → HeardBy from wheel → HeardBy tick wheel
heard_later wheel from tick late by = by_reference wheel.reference from tick late by

-- ---- what comes first

-- what a flywheel has given comes first, and later words add frames behind it
pub record InOrder : Type 0 where
  pub given : (wheel : Wheel) (words : List HeardWord) (tick : ℕ) (given : List Frame)
      → flies.StandsFor wheel words tick given → (rest : List Frame) × (frames wheel.limit words tick ≡ given ++ rest)
  pub later : (limit tick last : ℕ) (words more : List HeardWord) → tick ≤ last → All (λ word. tick ≤ word.tick) more
      → (rest : List Frame) × (frames limit (words ++ more) last ≡ frames limit words tick ++ rest)

-- the numbers of a frame that is due fit its line
pub due_fits : (frame : Frame) (tick : ℕ) → IsPast frame tick → tick < 2 ^ 60 → FitsFrameLine frame
due_fits (Heard l d j t) tick past below = absurd past
due_fits (Invented l d s t) tick past below =
    let before = past.0 in
    let step = past.1 in
    (omega (arith, before, below), omega (arith, step))
due_fits (Gone t) tick past below = omega (arith, past, below)

-- if no frame was given, none was due
by_due : (b : Bool) (word : HeardWord) (step limit : ℕ) (result : Option Frame) (new : Wheel)
    → (b ≡ true → step ≤ limit → (result ≡ Some (invented_after word step)) × (new ≡ running limit word step))
    → (b ≡ true → limit < step → (result ≡ Some (Gone (tick_after word step))) × (new ≡ still limit))
    → result ≡ None → b ≡ false
by_due true word step limit result new within gone none = elim (cases_lt limit step) [
  | inl more ↦ (let some = (gone refl more).0 in
      let both : None ≡ Some (Gone (tick_after word step)) = sym none ∙ some in absurd cc)
  | inr few ↦ (let some = (within refl few).0 in
      let both : None ≡ Some (invented_after word step) = sym none ∙ some in absurd cc)
]
by_due false word step limit result new within gone none = refl

pub none_due : (o : Option HeardWord) (invented limit tick : ℕ) (result : Option Frame) (new : Wheel)
    → IfSome o (λ (word : HeardWord). is_due word (invented + 1) tick ≡ true → invented + 1 ≤ limit
    → (result ≡ Some (invented_after word (invented + 1))) × (new ≡ running limit word (invented + 1)))
    → IfSome o (λ (word : HeardWord). is_due word (invented + 1) tick ≡ true → limit < invented + 1
    → (result ≡ Some (Gone (tick_after word (invented + 1)))) × (new ≡ still limit))
    → result ≡ None → is_next_due o invented tick ≡ false
none_due None invented limit tick result new within gone none = refl
none_due (Some word) invented limit tick result new within gone none =
    by_due (is_due word (invented + 1) tick) word (invented + 1) limit result new within gone none

-- ---- what is due at no later tick is due at no earlier one

due_later : (word : HeardWord) (k from tick : ℕ) → from ≤ tick → is_due word k from ≡ true → is_due word k tick ≡ true
due_later word k from tick late due =
    let length = (2 * k + 1) * word.length in
    let sooner : length ≤ 2 * (from - word.tick) = grind (arith, nat_tests, due) in
    let later : length ≤ 2 * (tick - word.tick) = omega (arith, sooner, late) in
    grind (arith, nat_tests, later)

given_later : (limit : ℕ) (o : Option HeardWord) (invented : ℕ) (words : List HeardWord) (from tick : ℕ)
    (given : List Frame) → from ≤ tick → flies.HasGiven limit o invented words from given
    → flies.HasGiven limit o invented words tick given
given_later limit None invented words from tick given late (inl none) = inl none
given_later limit None invented words from tick given late (inr up) = inr (record {
  earlier = up.earlier;
  word = up.word;
  told = up.told;
  given_are = up.given_are;
  least = up.least;
  due = due_later up.word (limit + 1) from tick late up.due;
})
given_later limit (Some word) invented words from tick given late has =
    let before = has.before in
    record {
      earlier = has.earlier;
      told = has.told;
      given_are = has.given_are;
      least = has.least;
      within = has.within;
      before = omega (arith, before, late);
      due = λ k one few. due_later word k from tick late (has.due k one few);
    }

-- nothing comes behind a list that is all
all_of : (given rest more : List Frame) → given ≡ (given ++ rest) ++ more → rest ≡ []
all_of given [] more is = refl
all_of given (frame ∷ rest) more is =
    let whole : length given ≡ length ((given ++ frame ∷ rest) ++ more) = ap (λ (fs : List Frame). length fs) is in
    let first = length-append (given ++ frame ∷ rest) more in
    let second = length-append given (frame ∷ rest) in
    let one : length (frame ∷ rest) ≡ length rest + 1 = omega arith in
    let none : ⊥ = omega (arith, whole, first, second, one) in absurd none

pub quiet_by : InOrder → (wheel : Wheel) (tick : ℕ)
    → ((words : List HeardWord) (earlier : ℕ) (given : List Frame) → flies.StandsFor wheel words earlier given
    → earlier ≤ tick → flies.HasGivenAll wheel words tick given)
    → (by : ℕ) → by ≤ tick → GivesDue wheel wheel by []
quiet_by order wheel tick all by before = λ words earlier given stands early.
    let limit = wheel.limit in
    let here = given_later limit wheel.reference wheel.invented words earlier by given early stands in
    let first = order.given wheel words by given here in
    let later = order.later limit by tick words [] before (All-nil (λ (word : HeardWord). by ≤ word.tick)) in
    let end = (all words earlier given stands (omega (arith, early, before))).1 in
    let whole : frames limit (words ++ []) tick ≡ given = rw (append-nil words) end in
    let is : given ≡ (given ++ first.0) ++ later.0 =
    sym whole ∙ later.1 ∙ ap (λ (fs : List Frame). fs ++ later.0) first.1 in
    let none = all_of given first.0 later.0 is in
    let sum : frames limit words by ≡ given = rw none at first.1 ∙ append-nil given in
    subst (λ (fs : List Frame). flies.HasGivenAll wheel words by fs) (sym (append-nil given)) (here, sum)

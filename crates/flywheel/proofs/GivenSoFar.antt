-- The frames that were given so far are those up to the last word, and as many after it as were due.
use Rattle.std.proofs.Common.{◌≡◌, ℕ, ◌+◌, ◌<◌, ◌≤◌, inl, inr, Bool, true, false, List, [], ◌∷◌, ◌++◌, Option, Some}
use Rattle.std.proofs.Common.{None, refl, sym, ◌∙◌, ap, append_assoc, arith}
use Rattle.std.proofs.lemmas.List.FromFn.{length-range_with_len, map-range_with_len_more}
use Rattle.tc_address.specs.Label.{Address}
use Rattle.flywheel.specs.declared.heard.HeardWord.{HeardWord}
use Rattle.flywheel.specs.declared.frame.Frame.{Frame}
use Rattle.flywheel.specs.declared.frame.Frame.TheVariants.{Invented, Gone}
use Rattle.flywheel.specs.Frames.{label_after, frames, frames_between, invented_after, is_due, is_gone, is_joined}
use Rattle.flywheel.specs.Frames.{is_next, heard_as, tick_after}
use Rattle.flywheel.specs.Wheel.{Wheel, still, running, has_frame_due, goes_on_with, is_next_due, is_next_of}
use Rattle.flywheel.specs.StandsFor.{first_invented, HasGivenAfter, HasGivenUp, HasGiven, StandsFor, HasGivenAll}
use Rattle.flywheel.proofs.DueInOrder.{is_due-before, is_due-later, not_due-after, not_due-own, due_steps-first}
use Rattle.flywheel.proofs.DueInOrder.{frames_between-first, frames_between-gone, frames_between-own}
use Rattle.flywheel.proofs.PairsOfWords.{frames-last, frames-next}

-- one invented frame more
first_invented-more : (word : HeardWord) (n : ℕ) → first_invented word (n + 1) ≡ first_invented word n
    ++ invented_after word (n + 1) ∷ []
first_invented-more word n = map-range_with_len_more (invented_after word) 1 n (n + 1) (omega arith)

-- the steps that were due are due at a later tick too
still_due : (word : HeardWord) (n tick later : ℕ) → tick ≤ later → ((k : ℕ) → 1 ≤ k → k ≤ n → is_due word k tick ≡ true)
    →
    (k : ℕ) → 1 ≤ k → k ≤ n → is_due word k later ≡ true
still_due word n tick later h held k l u = is_due-later word k tick later h (held k l u)

-- nothing more is due after the last word, so what was given are the frames up to the tick
pub given_after : (limit : ℕ) (word : HeardWord) (n : ℕ) (words : List HeardWord) (before tick : ℕ) (given : List Frame)
    →
    HasGivenAfter limit word n words before given → before ≤ tick → is_due word (n + 1) tick ≡ false
    → frames limit words tick ≡ given
given_after limit word n words before tick given has h over =
    let held = still_due word n before tick h has.due in
    let between = frames_between-first limit word n tick has.within held over in
    let last = frames-last limit has.earlier word tick has.least in
    let told : frames limit words tick ≡ frames limit words word.tick ++ frames_between limit word tick =
    rw has.told last in
    told ∙ ap (λ more. frames limit words word.tick ++ more) between ∙ sym has.given_are

-- after the end of invention too
pub given_up : (limit : ℕ) (words : List HeardWord) (before tick : ℕ) (given : List Frame) →
    HasGivenUp limit words before given → before ≤ tick → frames limit words tick ≡ given
given_up limit words before tick given has h =
    let between = frames_between-gone limit has.word tick (is_due-later has.word (limit + 1) before tick h has.due) in
    let last = frames-last limit has.earlier has.word tick has.least in
    let told : frames limit words tick ≡ frames limit words has.word.tick ++ frames_between limit has.word tick =
    rw has.told last in
    told ∙ ap (λ more. frames limit words has.word.tick ++ more) between ∙ sym has.given_are

-- a later tick changes nothing if nothing more is due
pub waits : (limit : ℕ) (reference : Option HeardWord) (n : ℕ) (words : List HeardWord) (before tick : ℕ)
    (given : List Frame) →
    HasGiven limit reference n words before given → before ≤ tick → is_next_due reference n tick ≡ false →
    HasGiven limit reference n words tick given × (frames limit words tick ≡ given)
waits limit (Some word) n words before tick given has h over = (
  record {
    earlier = has.earlier;
    told = has.told;
    given_are = has.given_are;
    least = has.least;
    within = has.within;
    before = omega (arith, has.before);
    due = still_due word n before tick h has.due;
  },
  given_after limit word n words before tick given has h over,
)
waits limit None n words before tick given (inl none) h over = (inl none, rw (none.0, none.1) refl)
waits limit None n words before tick given (inr has) h over = (
  inr (record {
    earlier = has.earlier;
    word = has.word;
    told = has.told;
    given_are = has.given_are;
    least = has.least;
    due = is_due-later has.word (limit + 1) before tick h has.due;
  }),
  given_up limit words before tick given has h,
)

-- one step more is due, and within the limit
pub invents : (limit : ℕ) (word : HeardWord) (n : ℕ) (words : List HeardWord) (before tick : ℕ) (given : List Frame) →
    HasGivenAfter limit word n words before given → before ≤ tick → is_due word (n + 1) tick ≡ true → n + 1 ≤ limit →
    HasGivenAfter limit word (n + 1) words tick (given ++ invented_after word (n + 1) ∷ [])
invents limit word n words before tick given has h due within = record {
  earlier = has.earlier;
  told = has.told;
  given_are = rw (has.given_are, first_invented-more word n) (simp append_assoc);
  least = has.least;
  within = within;
  before = omega (arith, has.before);
  due = λ k l u. is_due-before word k (n + 1) tick u due;
}

-- one step more is due than the limit
pub gives_up : (limit : ℕ) (word : HeardWord) (n : ℕ) (words : List HeardWord) (before tick : ℕ) (given : List Frame) →
    HasGivenAfter limit word n words before given → is_due word (n + 1) tick ≡ true → limit < n + 1 →
    HasGivenUp limit words tick (given ++ Gone (tick_after word (n + 1)) ∷ [])
gives_up limit word n words before tick given has due over =
    let all : n ≡ limit = omega (arith, has.within) in
    record {
      earlier = has.earlier;
      word = word;
      told = has.told;
      given_are = rw (has.given_are, all) (simp append_assoc);
      least = has.least;
      due = rw (← all) due;
    }

-- the word comes when nothing more is due: it joins exactly if it is the next after the steps in between
joined-first : (limit : ℕ) (before : HeardWord) (n : ℕ) (word : HeardWord) → n ≤ limit
    → ((k : ℕ) → 1 ≤ k → k ≤ n → is_due before k word.tick ≡ true) →
    is_due before (n + 1) word.tick ≡ false → is_joined limit before word ≡ is_next before (n + 1) word
joined-first limit before n word within held over =
    let after : (k : ℕ) → n < k → is_due before k word.tick ≡ false = λ k l. not_due-after before (n + 1) k word.tick
    (omega arith) over in
    let steps = due_steps-first limit before n word.tick within held (λ k l u. after k l) in
    rw (after (limit + 1) (omega arith), steps, length-range_with_len 1 n) refl

-- the word after others, which were all given
hears_next : (limit : ℕ) (earlier words : List HeardWord) (before word : HeardWord) (joined : Bool) (given : List Frame)
    → words ≡ earlier ++ before ∷ [] →
    1 ≤ word.length → frames limit words word.tick ≡ given → is_joined limit before word ≡ joined →
    given ++ heard_as joined word ∷ [] ≡ frames limit (words ++ word ∷ []) word.tick ++ first_invented word 0
hears_next limit earlier words before word joined given told h given_are joins =
    let next = frames-next limit earlier before word word.tick in
    let added = heard_as (is_joined limit before word) word ∷ frames_between limit word word.tick in
    let all : frames limit (words ++ word ∷ []) word.tick ≡ frames limit words word.tick ++ added =
    rw told next in
    rw (all, given_are, joins, frames_between-own limit word h) (simp append_assoc)

-- a word that is heard when nothing more is due comes after all frames up to its tick
hears_given : (limit : ℕ) (reference : Option HeardWord) (n : ℕ) (words : List HeardWord) (before : ℕ)
    (given : List Frame) (word : HeardWord) →
    HasGiven limit reference n words before given → before ≤ word.tick → 1 ≤ word.length
    → is_next_due reference n word.tick ≡ false →
    given ++ heard_as (is_next_of reference n word) word ∷ [] ≡ frames limit (words ++ word ∷ []) word.tick
    ++ first_invented word 0
hears_given limit (Some last) n words before given word has h least over =
    let all = given_after limit last n words before word.tick given has h over in
    let joins = joined-first limit last n word has.within (still_due last n before word.tick h has.due) over in
    hears_next limit has.earlier words last word (is_next last (n + 1) word) given has.told least all joins
hears_given limit None n words before given word (inl none) h least over =
    rw (none.0, none.1, frames_between-own limit word least) refl
hears_given limit None n words before given word (inr has) h least over =
    let gone : is_gone limit has.word word.tick ≡ true = is_due-later has.word (limit + 1) before word.tick h has.due in
    let apart : is_joined limit has.word word ≡ false = rw gone refl in
    hears_next limit has.earlier words has.word word false given has.told least
    (given_up limit words before word.tick given has h) apart

-- the word is the reference from there on
pub hears : (limit : ℕ) (reference : Option HeardWord) (n : ℕ) (words : List HeardWord) (before : ℕ)
    (given : List Frame) (word : HeardWord) →
    HasGiven limit reference n words before given → before ≤ word.tick → 1 ≤ word.length
    → is_next_due reference n word.tick ≡ false →
    HasGivenAfter limit word 0 (words ++ word ∷ []) word.tick
    (given ++ heard_as (is_next_of reference n word) word ∷ [])
hears limit reference n words before given word has h least over = record {
  earlier = words;
  told = refl;
  given_are = hears_given limit reference n words before given word has h least over;
  least = least;
  within = omega arith;
  before = omega arith;
  due = λ k l u. absurd (omega arith);
}

-- an invented frame has the label and the tick of its step
pub frame_is : (word : HeardWord) (k : ℕ) (label : Address) (tick : ℕ) → label ≡ label_after word k
    → tick ≡ tick_after word k →
    Invented label word.direction k tick ≡ invented_after word k
frame_is word k label tick is_label is_tick = rw (is_label, is_tick) refl

-- what a flywheel keeps after each of its answers
pub after_invented : (wheel new : Wheel) (word : HeardWord) (words : List HeardWord) (before tick : ℕ)
    (given : List Frame) (frame : Frame) →
    StandsFor wheel words before given → before ≤ tick → wheel.reference ≡ Some word → has_frame_due wheel tick ≡ true
    → wheel.invented + 1 ≤ wheel.limit →
    new ≡ running wheel.limit word (wheel.invented + 1) → frame ≡ invented_after word (wheel.invented + 1) →
    StandsFor new words tick (given ++ frame ∷ [])
after_invented wheel new word words before tick given frame stands h reference due within is_new is_frame =
    let has : HasGivenAfter wheel.limit word wheel.invented words before given = rw reference at stands in
    let due_word : is_due word (wheel.invented + 1) tick ≡ true = rw reference at due in
    rw (is_new, is_frame) (invents wheel.limit word wheel.invented words before tick given has h due_word within)

pub after_gone : (wheel new : Wheel) (word : HeardWord) (words : List HeardWord) (before tick : ℕ) (given : List Frame)
    (end : ℕ) →
    StandsFor wheel words before given → wheel.reference ≡ Some word → has_frame_due wheel tick ≡ true
    → wheel.limit < wheel.invented + 1 →
    new ≡ still wheel.limit → end ≡ tick_after word (wheel.invented + 1) →
    StandsFor new words tick (given ++ Gone end ∷ [])
after_gone wheel new word words before tick given end stands reference due over is_new is_end =
    let has : HasGivenAfter wheel.limit word wheel.invented words before given = rw reference at stands in
    let due_word : is_due word (wheel.invented + 1) tick ≡ true = rw reference at due in
    rw (is_new, is_end) (inr (gives_up wheel.limit word wheel.invented words before tick given has due_word over))

pub after_heard : (wheel new : Wheel) (word : HeardWord) (words : List HeardWord) (before : ℕ) (given : List Frame)
    (joined : Bool) →
    StandsFor wheel words before given → before ≤ word.tick → 1 ≤ word.length → has_frame_due wheel word.tick ≡ false →
    new ≡ running wheel.limit word 0 → joined ≡ goes_on_with wheel word →
    HasGivenAll new (words ++ word ∷ []) word.tick (given ++ heard_as joined word ∷ [])
after_heard wheel new word words before given joined stands h least over is_new is_joined =
    let has = hears wheel.limit wheel.reference wheel.invented words before given word stands h least over in
    let more = given ++ heard_as (goes_on_with wheel word) word ∷ [] in
    rw (is_new, is_joined)
    (waits wheel.limit (Some word) 0 (words ++ word ∷ []) word.tick word.tick more has (omega arith)
    (not_due-own word (0 + 1) least))

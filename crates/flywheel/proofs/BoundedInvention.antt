-- The due steps are the first ones, so the invented frames after a word count up from 1 to the limit at most.
use Rattle.std.proofs.Common.{◌≡◌, ℕ, zero, suc, ◌+◌, ◌<◌, ◌≤◌, inl, inr, Bool, true, false, cond, List, [], ◌∷◌, ◌++◌}
use Rattle.std.proofs.Common.{length, map, Option}
use Rattle.std.proofs.Common.{Some, None, refl, sym, ◌∙◌, ap, subst, append_assoc, append-nil, zero-add, arith}
use Rattle.std.proofs.Math.Nat.{eq-or-lt_of_le}
use Rattle.std.specs.List.{range_with_len}
use Rattle.std.proofs.lemmas.Grind.{flat_map-append}
use Rattle.std.proofs.lemmas.List.FromFn.{length-range_with_len}
use Rattle.flywheel.specs.declared.heard.HeardWord.{HeardWord}
use Rattle.flywheel.specs.declared.frame.Frame.{Frame}
use Rattle.flywheel.specs.declared.frame.Frame.TheVariants.{Gone}
use Rattle.flywheel.specs.Frames.{frames, frames_after, frames_between, invented_after, is_due, is_gone, due_steps}
use Rattle.flywheel.specs.Frames.{tick_after}
use Rattle.flywheel.specs.Marked.{AreMarked, told, words_in, word_of}
use Rattle.flywheel.proofs.DueInOrder.{is_due-before, not_due-after, due_steps-first}

-- n of the steps up to the limit are due, the first ones
record Due (limit : ℕ) (word : HeardWord) (tick n : ℕ) : Type 0 where
  within : n ≤ limit
  held : (k : ℕ) → 1 ≤ k → k ≤ n → is_due word k tick ≡ true
  over : n < limit → is_due word (n + 1) tick ≡ false

due_one_more : (limit : ℕ) (word : HeardWord) (tick n : ℕ) (due : Bool) → Due limit word tick n
    → is_due word (suc limit) tick ≡ due →
    (m : ℕ) × Due (suc limit) word tick m
due_one_more limit word tick n true so_far is = (
  suc limit,
  record {
    within = omega arith;
    held = λ k l u. is_due-before word k (suc limit) tick u is;
    over = λ l. absurd (omega arith);
  },
)
due_one_more limit word tick n false so_far is = (
  n,
  record {
    within = omega (arith, so_far.within);
    held = so_far.held;
    over = λ l. elim (eq-or-lt_of_le so_far.within) [
      | inl same ↦ (let next : suc limit ≡ n + 1 = omega arith in subst (λ k. is_due word k tick ≡ false) next is)
      | inr below ↦ so_far.over below
    ];
  },
)

due_count : (limit : ℕ) (word : HeardWord) (tick : ℕ) → (n : ℕ) × Due limit word tick n
due_count zero word tick =
    (0, record { within = omega arith; held = λ k l u. absurd (omega arith); over = λ l. absurd (omega arith) })
due_count (suc limit) word tick =
    let (n, due) = due_count limit word tick in due_one_more limit word tick n (is_due word (suc limit) tick) due refl

-- they are the due steps
due_steps-count : (limit : ℕ) (word : HeardWord) (tick n : ℕ) → Due limit word tick n
    → due_steps limit word tick ≡ range_with_len 1 n
due_steps-count limit word tick n due =
    due_steps-first limit word n tick due.within due.held
    (λ k l u. not_due-after word (n + 1) k tick (omega arith) (due.over (omega arith)))

pub due_steps-range : (limit : ℕ) (word : HeardWord) (tick : ℕ)
    → due_steps limit word tick ≡ range_with_len 1 (length (due_steps limit word tick))
due_steps-range limit word tick =
    let count = due_count limit word tick in
    let steps = due_steps-count limit word tick count.0 count.1 in
    rw (steps, length-range_with_len 1 count.0) refl

pub due-of_count : (limit : ℕ) (word : HeardWord) (tick k : ℕ) → 1 ≤ k → k ≤ length (due_steps limit word tick)
    → is_due word k tick ≡ true
due-of_count limit word tick k l u =
    let count = due_count limit word tick in
    let n : length (due_steps limit word tick) ≡ count.0 = rw (due_steps-count limit word tick count.0 count.1)
    (length-range_with_len 1 count.0) in
    count.1.held k l (omega (arith, n))

pub count-of_due : (limit : ℕ) (word : HeardWord) (tick k : ℕ) → k ≤ limit → is_due word k tick ≡ true
    → k ≤ length (due_steps limit word tick)
count-of_due limit word tick k u is =
    let count = due_count limit word tick in
    let n : length (due_steps limit word tick) ≡ count.0 = rw (due_steps-count limit word tick count.0 count.1)
    (length-range_with_len 1 count.0) in
    let not_past : count.0 < k → ⊥ =
    λ past. let none = not_due-after word (count.0 + 1) k tick (omega arith) (count.1.over (omega arith)) in cc in
    omega (arith, n)

-- the invented frames of n steps from `since` on, and what may follow them
marked-steps : (limit : ℕ) (word : HeardWord) (since n : ℕ) (rest : List Frame) → since + n ≤ limit
    → AreMarked limit (Some (since + n)) rest →
    AreMarked limit (Some since) (map (invented_after word) (range_with_len (since + 1) n) ++ rest)
marked-steps limit word since zero rest h marked = subst (λ k. AreMarked limit (Some k) rest) (omega arith) marked
marked-steps limit word since (suc n) rest h marked = (
  refl,
  omega arith,
  marked-steps limit word (since + 1) n rest (omega arith)
      (subst (λ k. AreMarked limit (Some k) rest) (omega arith) marked),
)

-- the end comes only if all steps up to the limit are due
marked-gone : (limit : ℕ) (word : HeardWord) (tick n : ℕ) (gone : Bool) (rest : List Frame) → Due limit word tick n
    → is_gone limit word tick ≡ gone →
    ((since : Option ℕ) → AreMarked limit since rest)
    → AreMarked limit (Some n) (cond gone (Gone (tick_after word (limit + 1)) ∷ []) [] ++ rest)
marked-gone limit word tick n true rest due is marked = elim (eq-or-lt_of_le due.within) [
  | inl all ↦ (all, marked None)
  | inr below ↦ (let early = is_due-before word (n + 1) (limit + 1) tick (omega arith) is in let late =
      due.over below in absurd (cc))
]
marked-gone limit word tick n false rest due is marked = marked (Some n)

marked-between : (limit : ℕ) (word : HeardWord) (tick : ℕ) (rest : List Frame)
    → ((since : Option ℕ) → AreMarked limit since rest) →
    AreMarked limit (Some 0) (frames_between limit word tick ++ rest)
marked-between limit word tick rest marked =
    let (n, due) = due_count limit word tick in
    let end = cond (is_gone limit word tick) (Gone (tick_after word (limit + 1)) ∷ []) [] in
    let after = marked-gone limit word tick n (is_gone limit word tick) rest due refl marked in
    let from_none = subst (λ k. AreMarked limit (Some k) (end ++ rest)) (sym (zero-add n)) after in
    rw (due_steps-count limit word tick n due, append_assoc)
    (marked-steps limit word 0 n (end ++ rest) (omega (arith, due.within)) from_none)

marked-after : (limit : ℕ) (word : HeardWord) (more : List HeardWord) (last : ℕ)
    → AreMarked limit (Some 0) (frames_after limit word more last)
marked-after limit word [] last =
    subst (λ these. AreMarked limit (Some 0) these) (append-nil (frames_between limit word last))
    (marked-between limit word last [] (λ since. tt))
marked-after limit word (next ∷ more) last =
    marked-between limit word next.tick _ (λ since. marked-after limit next more last)

pub marked : (limit : ℕ) (words : List HeardWord) (last : ℕ) → AreMarked limit None (frames limit words last)
marked limit [] last = tt
marked limit (word ∷ more) last = marked-after limit word more last

-- no frame between two words is heard
unheard-steps : (word : HeardWord) (steps : List ℕ) → words_in (map (invented_after word) steps) ≡ []
unheard-steps word [] = refl
unheard-steps word (k ∷ steps) = unheard-steps word steps

unheard-gone : (tick : ℕ) (gone : Bool) → words_in (cond gone (Gone tick ∷ []) []) ≡ []
unheard-gone tick true = refl
unheard-gone tick false = refl

unheard-frames : (limit : ℕ) (word : HeardWord) (tick : ℕ) → words_in (frames_between limit word tick) ≡ []
unheard-frames limit word tick =
    let end = cond (is_gone limit word tick) (Gone (tick_after word (limit + 1)) ∷ []) [] in
    flat_map-append told (map (invented_after word) (due_steps limit word tick)) end
    ∙ rw (
      unheard-steps word (due_steps limit word tick),
      unheard-gone (tick_after word (limit + 1))
          (is_gone limit word tick),
    ) refl

unheard-between : (limit : ℕ) (word : HeardWord) (tick : ℕ) (rest : List Frame)
    → words_in (frames_between limit word tick ++ rest) ≡ words_in rest
unheard-between limit word tick rest =
    flat_map-append told (frames_between limit word tick) rest
    ∙ ap (λ these. these ++ words_in rest) (unheard-frames limit word tick)

heard-after : (limit : ℕ) (word : HeardWord) (more : List HeardWord) (last : ℕ)
    → words_in (frames_after limit word more last) ≡ map word_of more
heard-after limit word [] last = unheard-frames limit word last
heard-after limit word (next ∷ more) last =
    unheard-between limit word next.tick _ ∙ ap (λ others. word_of next ∷ others) (heard-after limit next more last)

pub heard : (limit : ℕ) (words : List HeardWord) (last : ℕ) → words_in (frames limit words last) ≡ map word_of words
heard limit [] last = refl
heard limit (word ∷ more) last = ap (λ others. word_of word ∷ others) (heard-after limit word more last)

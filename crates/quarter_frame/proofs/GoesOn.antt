-- The frames of words go on step by step: an invented frame, and a word that joins, is one step after the frame
-- before it.
use Rattle.std.proofs.Common.{◌≡◌, ℕ, zero, suc, ◌+◌, Bool, true, false, not, ◌&&◌, cond, ℤ, pos, ◌+ℤ◌, List, [], ◌∷◌}
use Rattle.std.proofs.Common.{◌++◌, length, map, Option}
use Rattle.std.proofs.Common.{Some, None, refl, sym, ◌∙◌, ap, subst, append_assoc, append-nil, arith}
use Rattle.std.specs.Prelude.{slice_get, ◌↔◌}
use Rattle.std.specs.Option.{unwrap_or}
use Rattle.std.specs.List.{range_with_len}
use Rattle.std.proofs.Math.IntN.{neg_ℤ-+ℤ}
use Rattle.flywheel.specs.StepLemmas.{no_steps}
use Rattle.tc_address.specs.Circle.{moved}
use Rattle.tc_address.specs.declared.count.Count.{Count}
use Rattle.tc_address.specs.declared.direction.Direction.{Direction}
use Rattle.tc_address.specs.declared.direction.Direction.TheVariants.{Forward, Backward}
use Rattle.tc_address.specs.Label.{Address, labels, IsLabel}
use Rattle.tc_address.specs.Numbering.{number_of, step}
use Rattle.flywheel.specs.declared.heard.HeardWord.{HeardWord}
use Rattle.flywheel.specs.declared.frame.Frame.{Frame}
use Rattle.flywheel.specs.declared.frame.Frame.TheVariants.{Heard, Invented, Gone}
use Rattle.flywheel.specs.Frames.{due_steps, frames, frames_after, frames_between, heard_as, invented_after, is_gone}
use Rattle.flywheel.specs.Frames.{is_joined, is_next, label_after}
use Rattle.flywheel.specs.Frames.{steps_in, tick_after}
use Rattle.quarter_frame.specs.ReadAgain.{AreLabelled, Placed}

-- what the crates below say
pub record Laws : Type 0 where
  pub found : (c : Count) (n : ℕ) (a : Address) → slice_get (labels c) n ≡ Some a
      → (number_of a ≡ n) × (a.count ≡ c) × IsLabel a
  pub none : (a : Address) → IsLabel a → step a (pos 0) ≡ a
  pub sum : (a : Address) (j k : ℤ) → step (step a j) k ≡ step a (j +ℤ k)
  pub first : (limit tick : ℕ) (word : HeardWord) → due_steps limit word tick
      ≡ range_with_len 1 (length (due_steps limit word tick))
  pub next : (before word : HeardWord) (k : ℕ) → (is_next before k word ≡ true)
      ↔ ((word.direction ≡ before.direction) × (word.label ≡ label_after before k))

-- one step on
pub record Follows (first second : Placed) : Type 0 where
  pub direction : second.direction ≡ first.direction
  pub label : second.label ≡ step first.label (steps_in first.direction 1)

abbrev pub placed_at : Address → Direction → Placed
placed_at label direction = record { label = label; direction = direction }

abbrev pub FollowsLast : Option Placed → Placed → Type 0
FollowsLast None second = ⊥
FollowsLast (Some first) second = Follows first second

-- frames after a frame, or after none, go on step by step
abbrev pub GoOn : Option Placed → List Frame → Type 0
GoOn since [] = Unit {0}
GoOn since (Heard label direction joined tick ∷ more) =
    IsLabel label × (joined ≡ true → FollowsLast since (placed_at label direction))
    × GoOn (Some (placed_at label direction)) more
GoOn since (Invented label direction k tick ∷ more) =
    IsLabel label × FollowsLast since (placed_at label direction) × GoOn (Some (placed_at label direction)) more
GoOn since (Gone tick ∷ more) = GoOn None more

found_or : (l : Laws) (a : Address) (n : ℕ) (found : Option Address) → slice_get (labels a.count) n ≡ found → IsLabel a
    → IsLabel (unwrap_or found a)
found_or l a n None is label = label
found_or l a n (Some b) is label = (l.found a.count n b is).2

-- a step from a label leads to a label
pub step_label : Laws → (a : Address) (k : ℤ) → IsLabel a → IsLabel (step a k)
unfolding step
step_label l a k label = found_or l a (moved (length (labels a.count)) (number_of a) k) _ refl label

one_further : (direction : Direction) (k : ℕ) → steps_in direction k +ℤ steps_in direction 1
    ≡ steps_in direction (k + 1)
one_further Forward k = refl
one_further Backward k = sym (neg_ℤ-+ℤ (pos k) (pos 1))

-- the label of a step more
pub next_label : Laws → (word : HeardWord) (k : ℕ) → label_after word (k + 1)
    ≡ step (label_after word k) (steps_in word.direction 1)
next_label l word k = sym (l.sum word.label (steps_in word.direction k) (steps_in word.direction 1)
    ∙ ap (λ z. step word.label z) (one_further word.direction k))

first_label : Laws → (word : HeardWord) → IsLabel word.label → label_after word 0 ≡ word.label
first_label l word label = ap (λ z. step word.label z) (no_steps word.direction) ∙ l.none word.label label

-- the frame k steps after a word
abbrev after : HeardWord → ℕ → Placed
after word k = placed_at (label_after word k) word.direction

go_on_invented : Laws → (word : HeardWord) (since n : ℕ) (rest : List Frame) → IsLabel word.label
    → GoOn (Some (after word (since + n))) rest
    → GoOn (Some (after word since)) (map (invented_after word) (range_with_len (since + 1) n) ++ rest)
go_on_invented l word since zero rest label go = subst (λ k. GoOn (Some (after word k)) rest) (omega arith) go
go_on_invented l word since (suc n) rest label go = (
  step_label l word.label (steps_in word.direction (since + 1)) label,
  record { direction = refl; label = next_label l word since },
  go_on_invented l word (since + 1) n rest label (subst (λ k. GoOn (Some (after word k)) rest) (omega arith) go),
)

-- the frame of code that is gone, if it is gone
abbrev end_of : Bool → ℕ → List Frame
end_of gone tick = cond gone (Gone tick ∷ []) []

go_on_between : Laws → (limit : ℕ) (word : HeardWord) (tick : ℕ) (rest : List Frame) → IsLabel word.label
    → GoOn (Some (after word (length (due_steps limit word tick))))
    (end_of (is_gone limit word tick) (tick_after word (limit + 1)) ++ rest)
    → GoOn (Some (placed_at word.label word.direction)) (frames_between limit word tick ++ rest)
go_on_between l limit word tick rest label go =
    let n = length (due_steps limit word tick) in
    let end = end_of (is_gone limit word tick) (tick_after word (limit + 1)) in
    let steps = go_on_invented l word 0 n (end ++ rest) label
    (subst (λ k. GoOn (Some (after word k)) (end ++ rest)) (omega arith) go) in
    subst (λ fs. GoOn (Some (placed_at word.label word.direction)) fs)
    (ap (λ ks. map (invented_after word) ks ++ (end ++ rest)) (sym (l.first limit tick word))
    ∙ sym (append_assoc (map (invented_after word) (due_steps limit word tick)) end rest))
    (subst (λ a. GoOn (Some (placed_at a word.direction))
    (map (invented_after word) (range_with_len 1 n) ++ (end ++ rest))) (first_label l word label) steps)

go_on_end : (since : Placed) (gone : Bool) (tick : ℕ) → GoOn (Some since) (end_of gone tick ++ [])
go_on_end since true tick = tt
go_on_end since false tick = tt

-- a word behind the frames since the one before it
go_on_word : Laws → (word next : HeardWord) (n tick : ℕ) (gone : Bool) (rest : List Frame) → IsLabel next.label
    → GoOn (Some (placed_at next.label next.direction)) rest
    → GoOn (Some (after word n)) (end_of gone tick ++ heard_as (not gone && is_next word (n + 1) next) next ∷ rest)
go_on_word l word next n tick true rest label go = (label, (λ joined. cc), go)
go_on_word l word next n tick false rest label go = (
  label,
  (λ joined. let is = (l.next word next (n + 1)).0 joined in
      record { direction = is.0; label = is.1 ∙ next_label l word n }),
  go,
)

go_on_after : Laws → (limit : ℕ) (word : HeardWord) (more : List HeardWord) (last : ℕ) → IsLabel word.label
    → AreLabelled more
    → GoOn (Some (placed_at word.label word.direction)) (frames_after limit word more last)
go_on_after l limit word [] last label are =
    subst (λ fs. GoOn (Some (placed_at word.label word.direction)) fs) (append-nil (frames_between limit word last))
    (go_on_between l limit word last [] label (go_on_end _ (is_gone limit word last) (tick_after word (limit + 1))))
go_on_after l limit word (next ∷ more) last label are =
    go_on_between l limit word next.tick
    (heard_as (is_joined limit word next) next ∷ frames_after limit next more last) label
    (go_on_word l word next (length (due_steps limit word next.tick)) (tick_after word (limit + 1))
    (is_gone limit word next.tick)
    (frames_after limit next more last) are.0 (go_on_after l limit next more last are.0 are.1))

-- the frames of words go on
pub frames_go_on : Laws → (limit : ℕ) (words : List HeardWord) (last : ℕ) → AreLabelled words
    → GoOn None (frames limit words last)
frames_go_on l limit [] last are = tt
frames_go_on l limit (word ∷ more) last are = (are.0, (λ joined. cc), go_on_after l limit word more last are.0 are.1)

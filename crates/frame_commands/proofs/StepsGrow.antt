-- A frame more adds the line of its step, until the limit of frames is reached; from then on nothing is added.
use Rattle.std.proofs.Common.{◌≡◌, inl, inr, ℕ, suc, ◌+◌, ◌<◌, ◌≤◌, true, false, cond, List, [], ◌∷◌, ◌++◌, length}
use Rattle.std.proofs.Common.{take, count_by}
use Rattle.std.proofs.Common.{sym, ◌∙◌, ap, ap₂, arith, append-nil, append_assoc}
use Rattle.std.proofs.lemmas.Bool.{cases_lt, false≢true, le-ltb, lt-ltb, ltb-true}
use Rattle.std.proofs.lemmas.List.{length-append, length-take, take-append-le, take_all}
use Rattle.std.proofs.lemmas.List.Sums.{fold_push, sum_by_push}
use Rattle.chase_core.specs.Trace.{Traced}
use Rattle.chase_script.specs.TraceText.{loses, step_end_line, step_line, step_lines}
use Rattle.code_chase.specs.CodeTrace.{CodeLoop, after_frame, after_frames, begun_at, code_trace, next_line}
use Rattle.flywheel.specs.declared.frame.Frame.{Frame}
use Rattle.tc_address.specs.declared.count.Count.{Count}
use Rattle.tc_address.specs.Label.{Address}
use Rattle.tc_job.specs.ChaseRun.{Chasing}
use Rattle.frame_commands.specs.KeptSteps.{HasFollowed, Stepping, stepped}
use Rattle.frame_commands.specs.LtcChase.{first_steps, steps_over}

-- what the law of the trace says
pub record TraceLaws : Type 0 where
  pub none : (label : Address) (seed bound : ℕ) → code_trace label seed bound [] ≡ []
  pub line : (label : Address) (seed bound : ℕ) (frames : List Frame) (frame : Frame)
      → code_trace label seed bound (frames ++ frame ∷ [])
      ≡ code_trace label seed bound frames ++ next_line (after_frames (begun_at label seed bound) frames) frame ∷ []
  pub lines : (label : Address) (seed bound : ℕ) (frames : List Frame) → length (code_trace label seed bound frames)
      ≡ length frames

-- the lines of the first steps
abbrev pub lines_within : ℕ → Chasing → List Frame → List ℕ
lines_within most c frames = step_lines c.label.count 1 (first_steps most c frames)

-- the chase before the first frame
abbrev begun : Chasing → CodeLoop
begun c = begun_at c.label c.seed c.bound

-- ---- lines

same_number : (count : Count) (a b : ℕ) (line : Traced) → a ≡ b → step_line count a line ≡ step_line count b line
same_number count a b line e = ap (λ (n : ℕ). step_line count n line) e

step_lines-more : (count : Count) (step : ℕ) (lines : List Traced) (line : Traced)
    → step_lines count step (lines ++ line ∷ []) ≡ step_lines count step lines ++ step_line count (step + length lines)
    line
unfolding step_lines
step_lines-more count step [] line = append-nil (step_line count step line)
    ∙ same_number count step (step + 0) line (omega arith)
step_lines-more count step (first ∷ lines) line =
    let own = step_line count step first in
    let rest = step_lines count (step + 1) lines in
    ap (λ (l : List ℕ). own ++ l) (step_lines-more count (step + 1) lines line
    ∙ ap (λ (l : List ℕ). rest ++ l)
    (same_number count (step + 1 + length lines) (step + suc (length lines)) line (omega arith)))
    ∙ sym (append_assoc own rest (step_line count (step + suc (length lines)) line))

-- of no frame there is none
pub no_lines : TraceLaws → (most : ℕ) (c : Chasing) → first_steps most c [] ≡ []
no_lines laws most c = ap (steps_over c) (take_all most [] (omega arith)) ∙ laws.none c.label c.seed c.bound

pub no_text : TraceLaws → (most : ℕ) (c : Chasing) → lines_within most c [] ≡ []
unfolding step_lines
no_text laws most c = ap (step_lines c.label.count 1) (no_lines laws most c)

-- no frame was followed yet
pub none_followed : TraceLaws → (most : ℕ) (c : Chasing) (s : Stepping) → s.chase ≡ begun c → s.count ≡ c.label.count
    → s.steps ≡ 0 → s.losses ≡ 0
    → s.is_spent ≡ false → HasFollowed most c s []
none_followed laws most c s chase count steps losses going =
    let none : take most [] ≡ [] = take_all most [] (omega arith) in
    record {
      chase = chase ∙ sym (ap (after_frames (begun c)) none);
      count = count;
      steps = steps ∙ sym (ap (λ (l : List Frame). length l) none);
      losses = losses ∙ sym (ap (λ (l : List Traced). count_by loses l) (no_lines laws most c));
      spent = going ∙ sym (le-ltb most 0 (omega arith));
    }

-- ---- the limit

pub passed : (most : ℕ) (c : Chasing) (s : Stepping) (frames : List Frame) → HasFollowed most c s frames
    → s.is_spent ≡ true → most < length frames
passed most c s frames h spent = ltb-true most (length frames) (sym h.spent ∙ spent)

pub not_passed : (most : ℕ) (c : Chasing) (s : Stepping) (frames : List Frame) → HasFollowed most c s frames
    → s.is_spent ≡ false
    → most < length frames → ⊥
not_passed most c s frames h going many = false≢true (sym going ∙ h.spent ∙ lt-ltb most (length frames) many)

-- the last line counts the steps and the losses
pub counts_steps : TraceLaws → (most : ℕ) (c : Chasing) (s : Stepping) (frames : List Frame) (line : List ℕ)
    → HasFollowed most c s frames
    → line ≡ step_end_line s.steps s.losses
    → line ≡ step_end_line (length (first_steps most c frames)) (count_by loses (first_steps most c frames))
counts_steps laws most c s frames line h is =
    is ∙ ap₂ step_end_line (h.steps ∙ sym (laws.lines c.label c.seed c.bound (take most frames))) h.losses

-- ---- a frame within the limit

all_with : (most : ℕ) (frames : List Frame) (frame : Frame) → length frames < most
    → take most (frames ++ frame ∷ []) ≡ frames ++ frame ∷ []
all_with most frames frame few =
    take_all most (frames ++ frame ∷ []) (omega (arith, few, length-append frames (frame ∷ [])))

-- the steps, and the step of the frame
steps_with : TraceLaws → (most : ℕ) (c : Chasing) (frames : List Frame) (frame : Frame) → length frames < most
    → first_steps most c (frames ++ frame ∷ []) ≡ first_steps most c frames
    ++ next_line (after_frames (begun c) (take most frames)) frame ∷ []
steps_with laws most c frames frame few =
    let all : take most frames ≡ frames = take_all most frames (omega (arith, few)) in
    ap (steps_over c) (all_with most frames frame few) ∙ laws.line c.label c.seed c.bound frames frame
    ∙ sym (ap (λ (l : List Frame). steps_over c l ++ next_line (after_frames (begun c) l) frame ∷ []) all)

-- as many frames were followed as there are
few_followed : (most : ℕ) (c : Chasing) (s : Stepping) (frames : List Frame) → HasFollowed most c s frames
    → s.steps < most
    → (s.steps ≡ length frames) × (length frames < most)
few_followed most c s frames h few =
    let followed = h.steps in
    let least = length-take most frames in (omega (arith, followed, least, few), omega (arith, followed, least, few))

-- the line of the step is added
pub line_added : TraceLaws → (most : ℕ) (c : Chasing) (s : Stepping) (frames : List Frame) (frame : Frame)
    (line : List ℕ) → HasFollowed most c s frames
    → s.steps < most → line ≡ step_line s.count (s.steps + 1) (next_line s.chase frame)
    → lines_within most c (frames ++ frame ∷ []) ≡ lines_within most c frames ++ line
line_added laws most c s frames frame line h few is =
    let counted = few_followed most c s frames h few in
    let steps = first_steps most c frames in
    let next = next_line (after_frames (begun c) (take most frames)) frame in
    let number : 1 + length steps ≡ s.steps + 1 =
    let lines = laws.lines c.label c.seed c.bound (take most frames) in let followed = h.steps in
    omega (arith, lines, followed) in
    let same : step_line c.label.count (1 + length steps) next ≡ line =
    same_number c.label.count (1 + length steps) (s.steps + 1) next number
    ∙ ap₂ (λ (count : Count) (chase : CodeLoop). step_line count (s.steps + 1) (next_line chase frame)) (sym h.count)
    (sym h.chase) ∙ sym is in
    ap (step_lines c.label.count 1) (steps_with laws most c frames frame counted.1)
    ∙ step_lines-more c.label.count 1 steps next
    ∙ ap (λ (l : List ℕ). lines_within most c frames ++ l) same

-- and it was followed
pub step_followed : TraceLaws → (most : ℕ) (c : Chasing) (s : Stepping) (frames : List Frame) (frame : Frame)
    → HasFollowed most c s frames
    → s.steps < most → HasFollowed most c (stepped s frame) (frames ++ frame ∷ [])
step_followed laws most c s frames frame h few =
    let counted = few_followed most c s frames h few in
    let all : take most frames ≡ frames = take_all most frames (omega (arith, counted.1)) in
    let with_one = all_with most frames frame counted.1 in
    let loses_or_not = λ (line : Traced). cond (loses line) 1 0 in
    let next = next_line (after_frames (begun c) (take most frames)) frame in
    record {
      chase = ap (λ (chase : CodeLoop). after_frame chase frame) (h.chase ∙ ap (after_frames (begun c)) all)
          ∙ sym (fold_push after_frame (begun c) frames frame) ∙ sym (ap (after_frames (begun c)) with_one);
      count = h.count;
      steps = (let longer = ap (λ (l : List Frame). length l) with_one in
          omega (arith, counted.0, longer, length-append frames (frame ∷ [])));
      losses = ap₂ (λ (n : ℕ) (chase : CodeLoop). n + cond (loses (next_line chase frame)) 1 0) h.losses h.chase
          ∙ sym (sum_by_push loses_or_not (first_steps most c frames) next)
          ∙ sym (ap (λ (l : List Traced). count_by loses l) (steps_with laws most c frames frame counted.1));
      spent = h.spent ∙ le-ltb most (length frames) (omega (arith, counted.1))
          ∙ sym (le-ltb most (length (frames ++ frame ∷ []))
          (omega (arith, counted.1, length-append frames (frame ∷ []))));
    }

-- ---- a frame past the limit

full_followed : (most : ℕ) (c : Chasing) (s : Stepping) (frames : List Frame) → HasFollowed most c s frames
    → s.steps ≡ most → most ≤ length frames
full_followed most c s frames h full = let followed = h.steps in let least = length-take most frames in
    omega (arith, followed, least, full)

first_frames : (most : ℕ) (frames rest : List Frame) → most ≤ length frames
    → take most (frames ++ rest) ≡ take most frames
first_frames most frames rest full = take-append-le most frames rest full

nothing_added : (most : ℕ) (c : Chasing) (frames rest : List Frame) → most ≤ length frames
    → lines_within most c (frames ++ rest) ≡ lines_within most c frames ++ []
nothing_added most c frames rest full =
    ap (λ (l : List Frame). step_lines c.label.count 1 (steps_over c l)) (first_frames most frames rest full)
    ∙ sym (append-nil (lines_within most c frames))

-- nothing is added
pub no_line_added : (most : ℕ) (c : Chasing) (s : Stepping) (frames rest : List Frame) → HasFollowed most c s frames
    → s.steps ≡ most
    → lines_within most c (frames ++ rest) ≡ lines_within most c frames ++ []
no_line_added most c s frames rest h full = nothing_added most c frames rest (full_followed most c s frames h full)

-- and the limit is passed
pub not_followed : (most : ℕ) (c : Chasing) (s : Stepping) (frames : List Frame) (frame : Frame)
    → HasFollowed most c s frames → s.steps ≡ most
    → HasFollowed most c (record s { is_spent = true }) (frames ++ frame ∷ [])
not_followed most c s frames frame h full =
    let most_are = full_followed most c s frames h full in
    let same = first_frames most frames (frame ∷ []) most_are in
    record {
      chase = h.chase ∙ sym (ap (after_frames (begun c)) same);
      count = h.count;
      steps = h.steps ∙ sym (ap (λ (l : List Frame). length l) same);
      losses = h.losses ∙ sym (ap (λ (l : List Frame). count_by loses (steps_over c l)) same);
      spent = sym (lt-ltb most (length (frames ++ frame ∷ []))
          (omega (arith, most_are, length-append frames (frame ∷ []))));
    }

-- ---- further frames

one_more : TraceLaws → (most : ℕ) (c : Chasing) (frames : List Frame) (frame : Frame)
    → (more : List ℕ) × (lines_within most c (frames ++ frame ∷ []) ≡ lines_within most c frames ++ more)
one_more laws most c frames frame =
    elim (cases_lt (length frames) most) [
      | inl few ↦ (
        _,
        ap (step_lines c.label.count 1) (steps_with laws most c frames frame few)
            ∙ step_lines-more c.label.count 1 (first_steps most c frames)
            (next_line (after_frames (begun c) (take most frames)) frame),
      )
      | inr full ↦ ([], nothing_added most c frames (frame ∷ []) full)
    ]

-- The last label of a span is stepped from its first one by the frames between them, since each goes on from the one
-- before it.
use Rattle.std.proofs.Common.{◌≡◌, ℕ, suc, ◌+◌, ◌≤◌, Bool, true, false, ◌||◌, cond, ℤ, ◌+ℤ◌, All, List}
use Rattle.std.proofs.Common.{[], ◌∷◌}
use Rattle.std.proofs.Common.{map, Some, refl, sym, ◌∙◌, ap, ap₂, arith, count_by}
use Rattle.std.specs.Prelude.{fold}
use Rattle.std.specs.List.{list_any}
use Rattle.std.proofs.lemmas.Int.{ints}
use Rattle.std.proofs.lemmas.List.Elements.{All-cons, All-head, All-nil, All-tail}
use Rattle.std.proofs.lemmas.Option.{same_Some}
use Rattle.lemmas.specs.Lists.{count_by-cons}
use Rattle.tc_address.specs.declared.direction.Direction.{Direction}
use Rattle.tc_address.specs.declared.direction.Direction.TheVariants.{Forward, Backward}
use Rattle.tc_address.specs.Label.{Address}
use Rattle.tc_address.specs.Numbering.{step}
use Rattle.flywheel.specs.declared.frame.Frame.{Frame}
use Rattle.flywheel.specs.declared.frame.Frame.TheVariants.{Heard, Invented, Gone}
use Rattle.flywheel.specs.Frames.{steps_in}
use Rattle.flywheel.specs.GoOn.{GoOn, Position, goes_on, next_position}
use Rattle.flywheel.specs.Kinds.{is_heard}
use Rattle.tape_spans.specs.declared.span.Mark.{Mark}
use Rattle.tape_spans.specs.Shared.{HoldsTogether}
use Rattle.tape_spans.specs.Spans.{SpanFrames, bridged_in, latest_of, mark_at, span_of}
use Rattle.tape_spans.specs.Stepped.{EndsStepped, steps_along}

abbrev pub StepsAddUp : Type 0
StepsAddUp = (a : Address) (j k : ℤ) → step (step a j) k ≡ step a (j +ℤ k)

steps_sum : (direction : Direction) (n : ℕ) → steps_in direction 1 +ℤ steps_in direction n ≡ steps_in direction (suc n)
steps_sum Forward n = omega (arith, ints)
steps_sum Backward n = omega (arith, ints)

-- one step, and more from there
step_on : StepsAddUp → (p : Position) (n : ℕ)
    → step (next_position p).label (steps_in (next_position p).direction n) ≡ step p.label
    (steps_in p.direction (suc n))
step_on sums p n =
    sums p.label (steps_in p.direction 1) (steps_in p.direction n) ∙ ap (step p.label) (steps_sum p.direction n)

-- ---- how far the last one that was heard lies

abbrev reach : List Frame → ℕ
reach [] = 0
reach (frame ∷ more) = cond (list_any is_heard (frame ∷ more)) (suc (reach more)) 0

none_reached : (more : List Frame) → list_any is_heard more ≡ false → reach more ≡ 0
none_reached [] none = refl
none_reached (frame ∷ more) none = ap (λ (b : Bool). cond b (suc (reach more)) 0) none

-- where a frame is at a place, and these go on from it: the one heard last
record Reaches (mark : Mark) (p : Position) (more : List Frame) : Type 0 where
  pub none : list_any is_heard more ≡ false → fold latest_of mark more ≡ mark
  pub label : list_any is_heard more ≡ true
      → (fold latest_of mark more).label ≡ step p.label (steps_in p.direction (reach more))
  pub direction : list_any is_heard more ≡ true → (fold latest_of mark more).direction ≡ p.direction

-- the frame itself is the one heard last, or not
record Marks (mark : Mark) (frame : Frame) (q : Position) (heard : Bool) : Type 0 where
  pub is : is_heard frame ≡ heard
  pub label : heard ≡ true → (latest_of mark frame).label ≡ q.label
  pub direction : heard ≡ true → (latest_of mark frame).direction ≡ q.direction
  pub other : heard ≡ false → latest_of mark frame ≡ mark

onward : StepsAddUp → (frame : Frame) (more : List Frame) (mark : Mark) (p q : Position) → q ≡ next_position p
    → (heard any : Bool) → Marks mark frame q heard → Reaches (latest_of mark frame) q more
    → list_any is_heard more ≡ any → Reaches mark p (frame ∷ more)
onward sums frame more mark p q next heard true marks rest is =
    let all : list_any is_heard (frame ∷ more) ≡ true = or_true (is_heard frame) (list_any is_heard more) is in
    let far : reach (frame ∷ more) ≡ suc (reach more) = ap (λ (b : Bool). cond b (suc (reach more)) 0) all in
    record {
      none = λ no. let both : true ≡ false = sym all ∙ no in absurd cc;
      label = λ yes. rest.label is
          ∙ ap (λ (x : Position). step x.label (steps_in x.direction (reach more))) next ∙ step_on sums p (reach more)
          ∙ ap (λ (n : ℕ). step p.label (steps_in p.direction n)) (sym far);
      direction = λ yes. rest.direction is ∙ ap (λ (x : Position). x.direction) next;
    }
  where
    or_true : (a b : Bool) → b ≡ true → (a || b) ≡ true
    or_true true b is = refl
    or_true false b is = is
onward sums frame more mark p q next true false marks rest is =
    let all : list_any is_heard (frame ∷ more) ≡ true = ap (λ (b : Bool). b || list_any is_heard more) marks.is in
    let far : reach (frame ∷ more) ≡ 1 =
    ap (λ (b : Bool). cond b (suc (reach more)) 0) all ∙ ap suc (none_reached more is) in
    let last = rest.none is in
    record {
      none = λ no. let both : true ≡ false = sym all ∙ no in absurd cc;
      label = λ yes. ap (λ (m : Mark). m.label) last ∙ marks.label refl ∙ ap (λ (x : Position). x.label) next
          ∙ ap (λ (n : ℕ). step p.label (steps_in p.direction n)) (sym far);
      direction = λ yes. ap (λ (m : Mark). m.direction) last ∙ marks.direction refl
          ∙ ap (λ (x : Position). x.direction) next;
    }
onward sums frame more mark p q next false false marks rest is =
    let all : list_any is_heard (frame ∷ more) ≡ false =
    ap₂ (λ (a b : Bool). a || b) marks.is is in
    record {
      none = λ no. rest.none is ∙ marks.other refl;
      label = λ yes. let both : true ≡ false = sym yes ∙ all in absurd cc;
      direction = λ yes. let both : true ≡ false = sym yes ∙ all in absurd cc;
    }

-- the place of a frame that goes on
next_of : (p : Position) (q : Position) (at : (place : Position) × (Some p ≡ Some place)
    × (Some q ≡ Some (next_position place)))
    → q ≡ next_position p
next_of p q at =
    same_Some q (next_position at.0) at.2 ∙ ap next_position (sym (same_Some p at.0 at.1))

reaches : StepsAddUp → (more : List Frame) (mark : Mark) (p : Position)
    → All (λ (frame : Frame). goes_on frame ≡ true) more → GoOn (Some p) more → Reaches mark p more
reaches sums [] mark p all on =
    record { none = λ no. refl; label = λ yes. absurd cc; direction = λ yes. absurd cc }
reaches sums (Heard label direction joined tick ∷ more) mark p all on =
    let q : Position = record { label = label; direction = direction } in
    let goes = All-head (λ (frame : Frame). goes_on frame ≡ true) (Heard label direction joined tick) more all in
    let rest = All-tail (λ (frame : Frame). goes_on frame ≡ true) (Heard label direction joined tick) more all in
    onward sums (Heard label direction joined tick) more mark p q (next_of p q (on.0 goes)) true
    (list_any is_heard more)
    (record { is = refl; label = λ yes. refl; direction = λ yes. refl; other = λ no. absurd cc })
    (reaches sums more (mark_at label direction tick) q rest on.1) refl
reaches sums (Invented label direction number tick ∷ more) mark p all on =
    let q : Position = record { label = label; direction = direction } in
    let rest = All-tail (λ (frame : Frame). goes_on frame ≡ true) (Invented label direction number tick) more all in
    onward sums (Invented label direction number tick) more mark p q (next_of p q (on.0 refl)) false
    (list_any is_heard more)
    (record { is = refl; label = λ yes. absurd cc; direction = λ yes. absurd cc; other = λ no. refl })
    (reaches sums more mark q rest on.1) refl
reaches sums (Gone tick ∷ more) mark p all on =
    let goes = All-head (λ (frame : Frame). goes_on frame ≡ true) (Gone tick) more all in absurd cc

-- ---- as the span counts it

invented_by : (more : List Frame) (b : Bool) → list_any is_heard more ≡ b
    → reach more ≡ count_by is_heard more + bridged_in more
    → cond b (suc (reach more)) 0 ≡ count_by is_heard more + (cond b 1 0 + bridged_in more)
invented_by more true is same = omega (arith, same)
invented_by more false is same = let none = none_reached more is in omega (arith, same, none)

counted : (more : List Frame) → All (λ (frame : Frame). goes_on frame ≡ true) more
    → reach more ≡ count_by is_heard more + bridged_in more
unfolding bridged_in
counted [] all = refl
counted (Heard label direction joined tick ∷ more) all =
    let rest = counted more
    (All-tail (λ (frame : Frame). goes_on frame ≡ true) (Heard label direction joined tick) more all) in
    let count = count_by-cons is_heard (Heard label direction joined tick) more in
    omega (arith, rest, count)
counted (Invented label direction number tick ∷ more) all =
    let rest = counted more
    (All-tail (λ (frame : Frame). goes_on frame ≡ true) (Invented label direction number tick) more all) in
    let count = count_by-cons is_heard (Invented label direction number tick) more in
    let by = invented_by more (list_any is_heard more) refl rest in
    omega (arith, by, count)
counted (Gone tick ∷ more) all =
    let goes = All-head (λ (frame : Frame). goes_on frame ≡ true) (Gone tick) more all in absurd cc

stepped_by : (s : SpanFrames) (any : Bool) → list_any is_heard s.more ≡ any
    → Reaches s.first (record { label = s.first.label; direction = s.first.direction }) s.more
    → reach s.more ≡ count_by is_heard s.more + bridged_in s.more → EndsStepped (span_of s)
stepped_by s true is r far =
    let along : steps_along (span_of s) ≡ reach s.more = omega (arith, far) in
    let some : 1 ≤ reach s.more = some_reached s.more is in
    record {
      direction = r.direction is;
      alone = λ zero_is. absurd (omega (arith, zero_is, along, some));
      stepped = λ least. r.label is
          ∙ ap (λ (n : ℕ). step s.first.label (steps_in s.first.direction n)) (sym along);
    }
  where
    some_reached : (more : List Frame) → list_any is_heard more ≡ true → 1 ≤ reach more
    some_reached [] is = absurd cc
    some_reached (frame ∷ more) is =
        let far : reach (frame ∷ more) ≡ suc (reach more) = ap (λ (b : Bool). cond b (suc (reach more)) 0) is in
        omega (arith, far)
stepped_by s false is r far =
    let none = none_reached s.more is in
    let along : steps_along (span_of s) ≡ 0 = omega (arith, far, none) in
    record {
      direction = ap (λ (m : Mark). m.direction) (r.none is);
      alone = λ zero_is. r.none is;
      stepped = λ least. absurd (omega (arith, least, along));
    }

ends_stepped : StepsAddUp → (s : SpanFrames) → HoldsTogether s → EndsStepped (span_of s)
ends_stepped sums s holds =
    stepped_by s (list_any is_heard s.more) refl
    (reaches sums s.more s.first (record { label = s.first.label; direction = s.first.direction }) holds.all holds.next)
    (counted s.more holds.all)

pub all_end_stepped : StepsAddUp → (ss : List SpanFrames) → All HoldsTogether ss → All EndsStepped (map span_of ss)
all_end_stepped sums [] all = All-nil EndsStepped
all_end_stepped sums (s ∷ ss) all =
    All-cons EndsStepped (span_of s) (map span_of ss) (ends_stepped sums s (All-head HoldsTogether s ss all))
    (all_end_stepped sums ss (All-tail HoldsTogether s ss all))

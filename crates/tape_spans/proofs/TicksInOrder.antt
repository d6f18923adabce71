-- If the ticks of the frames that are heard do not fall, those of the spans do not.
use Rattle.std.proofs.Common.{◌≡◌, ◌≤◌, ℕ, true, false, cond, List, [], ◌∷◌, refl, sym, ap, subst, arith}
use Rattle.std.specs.Prelude.{fold}
use Rattle.std.specs.List.{take_while}
use Rattle.std.proofs.lemmas.List.Sums.{take_while-cons}
use Rattle.tc_address.specs.declared.count.Count.TheVariants.{C24}
use Rattle.tc_address.specs.declared.direction.Direction.TheVariants.{Forward}
use Rattle.tc_address.specs.Label.{address}
use Rattle.flywheel.specs.declared.frame.Frame.{Frame}
use Rattle.flywheel.specs.declared.frame.Frame.TheVariants.{Heard, Invented, Gone}
use Rattle.flywheel.specs.GoOn.{goes_on}
use Rattle.tape_spans.specs.declared.span.Mark.{Mark}
use Rattle.tape_spans.specs.InOrder.{DoNotFall, heard_ticks, span_ticks}
use Rattle.tape_spans.specs.Spans.{frames_of_spans, latest_of, mark_at, spans}

earlier : (a b : ℕ) (ticks : List ℕ) (last : ℕ) → a ≤ b → DoNotFall b ticks last → DoNotFall a ticks last
earlier a b [] last less is = omega (arith, less, is)
earlier a b (tick ∷ ticks) last less is = (let first = is.0 in omega (arith, less, first), is.1)

-- the tick at which a span ends that began, or went on, at a mark
abbrev ends_at : Mark → List Frame → ℕ
ends_at mark behind = (fold latest_of mark (take_while goes_on behind)).tick

-- a span ends there or later, and the others come behind its end
record Behind (mark : Mark) (behind : List Frame) (last : ℕ) : Type 0 where
  pub end : mark.tick ≤ ends_at mark behind
  pub others : DoNotFall (ends_at mark behind) (span_ticks (spans behind)) last

-- one frame more
more_of : (mark : Mark) (frame : Frame) (behind : List Frame)
    → ends_at mark (frame ∷ behind) ≡ (fold latest_of mark (cond (goes_on frame) (frame ∷ take_while goes_on behind)
    [])).tick
more_of mark frame behind =
    ap (λ (fs : List Frame). (fold latest_of mark fs).tick) (take_while-cons goes_on frame behind)

-- where a span ends at this tick, and these are the ticks of the others
at : (mark : Mark) (behind : List Frame) (last end : ℕ) (ticks : List ℕ) → ends_at mark behind ≡ end
    → span_ticks (spans behind) ≡ ticks → mark.tick ≤ end → DoNotFall end ticks last → Behind mark behind last
at mark behind last end ticks ends are least others = record {
  end = omega (arith, ends, least);
  others = subst (λ (n : ℕ). DoNotFall n (span_ticks (spans behind)) last) (sym ends)
      (subst (λ (ns : List ℕ). DoNotFall end ns last) (sym are) others);
}

on : (mark : Mark) (behind : List Frame) (last : ℕ) → DoNotFall mark.tick (heard_ticks behind) last
    → Behind mark behind last
unfolding frames_of_spans
on mark [] last is = record { end = omega arith; others = is }
on mark (Heard label direction true tick ∷ more) last is =
    let rest = on (mark_at label direction tick) more last is.1 in
    let first = is.0 in
    let end = rest.end in
    at mark (Heard label direction true tick ∷ more) last (ends_at (mark_at label direction tick) more)
    (span_ticks (spans more)) (more_of mark (Heard label direction true tick) more) refl (omega (arith, first, end))
    rest.others
on mark (Heard label direction false tick ∷ more) last is =
    let rest = on (mark_at label direction tick) more last is.1 in
    at mark (Heard label direction false tick ∷ more) last mark.tick
    (tick ∷ ends_at (mark_at label direction tick) more ∷ span_ticks (spans more))
    (more_of mark (Heard label direction false tick) more) refl (omega arith) (is.0, (rest.end, rest.others))
on mark (Invented label direction number tick ∷ more) last is =
    let rest = on mark more last is in
    at mark (Invented label direction number tick ∷ more) last (ends_at mark more) (span_ticks (spans more))
    (more_of mark (Invented label direction number tick) more) refl rest.end rest.others
on mark (Gone tick ∷ more) last is =
    let rest = on mark more last is in
    at mark (Gone tick ∷ more) last mark.tick (span_ticks (spans more)) (more_of mark (Gone tick) more) refl
    (omega arith)
    (earlier mark.tick (ends_at mark more) (span_ticks (spans more)) last rest.end rest.others)

pub spans_in_order : (first last : ℕ) (frames : List Frame) → DoNotFall first (heard_ticks frames) last
    → DoNotFall first (span_ticks (spans frames)) last
spans_in_order first last frames is =
    let mark = mark_at (address C24 0 0 0 0) Forward first in
    let all = on mark frames last is in
    earlier first (ends_at mark frames) (span_ticks (spans frames)) last all.end all.others

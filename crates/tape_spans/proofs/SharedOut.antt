-- The spans share out the frames that are there: an open span takes what goes on, and then others begin.
use Rattle.std.proofs.Common.{◌≡◌, ℕ, ◌+◌, Bool, true, false, cond, All, List, [], ◌∷◌, ◌++◌, map, Option, Some}
use Rattle.std.proofs.Common.{None, refl}
use Rattle.std.proofs.Common.{sym, ◌∙◌, ap, ap₂, subst, arith, count_by}
use Rattle.std.specs.List.{flat_map, sum_by, take_while}
use Rattle.std.proofs.lemmas.List.Concat.{flat_map-cons}
use Rattle.std.proofs.lemmas.List.Elements.{All-cons, All-nil}
use Rattle.std.proofs.lemmas.List.Sums.{sum_by-cons, take_while-cons}
use Rattle.lemmas.specs.Lists.{count_by-append, count_by-cons, take_while-on}
use Rattle.tc_address.specs.declared.direction.Direction.{Direction}
use Rattle.tc_address.specs.Label.{Address}
use Rattle.flywheel.specs.declared.frame.Frame.{Frame}
use Rattle.flywheel.specs.declared.frame.Frame.TheVariants.{Heard, Invented, Gone}
use Rattle.flywheel.specs.GoOn.{GoOn, Position, goes_on, position_of}
use Rattle.tape_spans.specs.declared.span.Span.{Span}
use Rattle.tape_spans.specs.Shared.{HoldsTogether, first_frame, frames_in, present}
use Rattle.tape_spans.proofs.SpansGoOn.{gone-same, heard_on-same, invented-same}
use Rattle.tape_spans.specs.Spans.{SpanFrames, frames_of_spans, mark_at, span_at, span_of, spans}
use Rattle.flywheel.specs.Kinds.{is_heard}

-- what the open span takes, if there is a place before the frames
abbrev taken : Option Position → List Frame → List Frame
taken None frames = []
taken (Some place) frames = take_while goes_on frames

taken-off : (before : Option Position) (frame : Frame) (more : List Frame) → goes_on frame ≡ false
    → taken before (frame ∷ more) ≡ []
taken-off None frame more off = refl
taken-off (Some place) frame more off = take_while-cons goes_on frame more
    ∙ ap (λ (b : Bool). cond b (frame ∷ take_while goes_on more) []) off

abbrev frames_shared : List Frame → List Frame
frames_shared frames = flat_map frames_in (frames_of_spans frames)

-- a frame that goes on
shared-on : (frame : Frame) (more : List Frame) → goes_on frame ≡ true
    → frames_of_spans (frame ∷ more) ≡ frames_of_spans more
    → present more ≡ take_while goes_on more ++ frames_shared more
    → frame ∷ present more ≡ take_while goes_on (frame ∷ more) ++ frames_shared (frame ∷ more)
shared-on frame more on same later =
    ap (λ (l : List Frame). frame ∷ l) later ∙ ap (λ (l : List Frame). l ++ frames_shared more)
    (sym (take_while-on goes_on frame more on))
    ∙ ap (λ (l : List SpanFrames). take_while goes_on (frame ∷ more) ++ flat_map frames_in l) (sym same)

-- one that begins a span
shared-begun : (before : Option Position) (label : Address) (direction : Direction) (tick : ℕ) (more : List Frame)
    → present more ≡ take_while goes_on more ++ frames_shared more
    → Heard label direction false tick ∷ present more
    ≡ taken before (Heard label direction false tick ∷ more) ++ frames_shared (Heard label direction false tick ∷ more)
unfolding frames_of_spans
shared-begun before label direction tick more later =
    let frame = Heard label direction false tick in
    let s = span_at (mark_at label direction tick) more in
    ap (λ (l : List Frame). frame ∷ l) later ∙ sym (flat_map-cons frames_in s (frames_of_spans more))
    ∙ ap (λ (l : List Frame). l ++ frames_shared (frame ∷ more)) (sym (taken-off before frame more refl))

pub shared : (frames : List Frame) (before : Option Position) → GoOn before frames
    → present frames ≡ taken before frames ++ frames_shared frames
unfolding frames_of_spans
shared [] None on = refl
shared [] (Some place) on = refl
shared (Heard label direction true tick ∷ more) None on = let at = on.0 refl in let none = at.1 in absurd (cc)
shared (Heard label direction true tick ∷ more) (Some place) on =
    shared-on (Heard label direction true tick) more refl (heard_on-same label direction tick more) (shared more _ on.1)
shared (Heard label direction false tick ∷ more) before on =
    shared-begun before label direction tick more (shared more _ on.1)
shared (Invented label direction step tick ∷ more) None on = let at = on.0 refl in let none = at.1 in absurd (cc)
shared (Invented label direction step tick ∷ more) (Some place) on =
    shared-on (Invented label direction step tick) more refl (invented-same label direction step tick more)
    (shared more _ on.1)
shared (Gone tick ∷ more) before on =
    shared more None on.1 ∙ ap (λ (l : List Frame). l ++ frames_shared more)
    (sym (taken-off before (Gone tick) more refl))
    ∙ ap (λ (l : List SpanFrames). taken before (Gone tick ∷ more) ++ flat_map frames_in l) (sym (gone-same tick more))

-- ---- each holds together

when : (b : Bool) (P : List Frame → Type 0) (xs : List Frame) → (b ≡ true → P xs) → P [] → P (cond b xs [])
when true P xs some none = some refl
when false P xs some none = none

goes_on-taken : (before : Option Position) (frames : List Frame) → GoOn before frames
    → GoOn before (take_while goes_on frames)
goes_on-taken before [] on = tt
goes_on-taken before (frame ∷ more) on =
    subst (GoOn before) (sym (take_while-cons goes_on frame more))
    (when (goes_on frame) (GoOn before) (frame ∷ take_while goes_on more)
    (λ _. (on.0, goes_on-taken (position_of frame) more on.1)) tt)

all-taken : (frames : List Frame) → All (λ frame. goes_on frame ≡ true) (take_while goes_on frames)
all-taken [] = All-nil (λ frame. goes_on frame ≡ true)
all-taken (frame ∷ more) =
    let P : Frame → Type 0 = λ f. goes_on f ≡ true in
    subst (All P) (sym (take_while-cons goes_on frame more))
    (when (goes_on frame) (All P) (frame ∷ take_while goes_on more)
    (λ on. All-cons P frame (take_while goes_on more) on (all-taken more)) (All-nil P))

holds : (label : Address) (direction : Direction) (tick : ℕ) (more : List Frame)
    → GoOn (Some (record { label = label; direction = direction })) more
    → HoldsTogether (span_at (mark_at label direction tick) more)
holds label direction tick more on = record { all = all-taken more; next = goes_on-taken _ more on }

pub hold_together : (frames : List Frame) (before : Option Position) → GoOn before frames
    → All HoldsTogether (frames_of_spans frames)
unfolding frames_of_spans
hold_together [] before on = All-nil HoldsTogether
hold_together (Heard label direction true tick ∷ more) before on = hold_together more _ on.1
hold_together (Heard label direction false tick ∷ more) before on =
    All-cons HoldsTogether (span_at (mark_at label direction tick) more) (frames_of_spans more)
    (holds label direction tick more on.1) (hold_together more _ on.1)
hold_together (Invented label direction step tick ∷ more) before on = hold_together more _ on.1
hold_together (Gone tick ∷ more) before on = hold_together more _ on.1

-- ---- and the frames that were heard are counted

count-more : (frame : Frame) (a b : List Frame) → count_by is_heard a ≡ count_by is_heard b
    → count_by is_heard (frame ∷ a) ≡ count_by is_heard (frame ∷ b)
count-more frame a b same = count_by-cons is_heard frame a ∙ ap (λ (n : ℕ). cond (is_heard frame) 1 0 + n) same
    ∙ sym (count_by-cons is_heard frame b)

count-present : (frames : List Frame) → count_by is_heard (present frames) ≡ count_by is_heard frames
count-present [] = refl
count-present (Heard label direction joined tick ∷ more) =
    count-more (Heard label direction joined tick) (present more) more (count-present more)
count-present (Invented label direction step tick ∷ more) =
    count-more (Invented label direction step tick) (present more) more (count-present more)
count-present (Gone tick ∷ more) =
    let one = count_by-cons is_heard (Gone tick) more in let same = count-present more in omega (arith, one, same)

count-spans : (all : List SpanFrames) → count_by is_heard (flat_map frames_in all)
    ≡ sum_by (λ span. span.heard) (map span_of all)
count-spans [] = refl
count-spans (s ∷ more) =
    ap (count_by is_heard) (flat_map-cons frames_in s more)
    ∙ count_by-append is_heard (frames_in s) (flat_map frames_in more)
    ∙ ap₂ (λ (a b : ℕ). a + b) (count_by-cons is_heard (first_frame s.first) s.more) (count-spans more)
    ∙ sym (sum_by-cons (λ (span : Span). span.heard) (span_of s) (map span_of more))

pub all_heard : (frames : List Frame) → GoOn None frames
    → sum_by (λ span. span.heard) (spans frames) ≡ count_by is_heard frames
all_heard frames on =
    sym (count-spans (frames_of_spans frames)) ∙ ap (count_by is_heard) (sym (shared frames None on))
    ∙ count-present frames

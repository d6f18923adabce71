-- The open span with a frame more, and the spans to come if a frame comes first.
use Rattle.std.proofs.Common.{◌≡◌, ℕ, ◌+◌, Bool, true, false, not, cond, List, [], ◌∷◌, ◌++◌}
use Rattle.std.proofs.Common.{Some, refl}
use Rattle.std.proofs.Common.{sym, ◌∙◌, ap, append_assoc, append-nil, arith, count_by}
use Rattle.std.specs.List.{list_any, take_while}
use Rattle.std.proofs.lemmas.List.Sums.{fold_push, sum_by_push, take_while-cons}
use Rattle.tc_address.specs.declared.direction.Direction.{Direction}
use Rattle.tc_address.specs.Label.{Address}
use Rattle.flywheel.specs.declared.frame.Frame.{Frame}
use Rattle.flywheel.specs.declared.frame.Frame.TheVariants.{Heard, Invented}
use Rattle.flywheel.specs.GoOn.{goes_on}
use Rattle.tape_spans.specs.declared.place.OpenSpan.{OpenSpan}
use Rattle.tape_spans.specs.declared.span.Mark.{Mark}
use Rattle.tape_spans.specs.Spans.{SpanFrames, frames_of_spans, latest_of, mark_at, span_of}
use Rattle.tape_spans.specs.StandsFor.{Running, so_far, to_come}
use Rattle.tape_spans.specs.Tape.{joined_by}
use Rattle.tape_spans.specs.Tape.{with_invented}
use Rattle.tape_spans.proofs.BridgedFrames.{bridged-heard, bridged-invented}
use Rattle.flywheel.specs.Kinds.{is_heard, is_invented}

-- ---- the open span with a frame more

abbrev pub current_of : Running → OpenSpan
current_of running = record { span = span_of (so_far running); invented = count_by is_invented running.more }

abbrev pub with_frame : Running → Frame → Running
with_frame running frame = record { first = running.first; more = running.more ++ frame ∷ [] }

abbrev open_span : Mark → Mark → ℕ → ℕ → ℕ → OpenSpan
open_span first last heard bridged invented =
    record { span = record { first = first; last = last; heard = heard; bridged = bridged }; invented = invented }

same_open : (first last last' : Mark) (heard heard' bridged bridged' invented invented' : ℕ) → last ≡ last'
    → heard ≡ heard' → bridged ≡ bridged'
    → invented ≡ invented' → open_span first last heard bridged invented ≡ open_span first last' heard' bridged'
    invented'
same_open first last last' heard heard' bridged bridged' invented invented' l h b i =
    ap (λ (m : Mark). open_span first m heard bridged invented) l
    ∙ ap (λ (n : ℕ). open_span first last' n bridged invented) h
    ∙ ap (λ (n : ℕ). open_span first last' heard' n invented) b
    ∙ ap (λ (n : ℕ). open_span first last' heard' bridged' n) i

-- how many of a kind there are, with a frame of this kind or of another
counts-one : (kind : Frame → Bool) (more : List Frame) (frame : Frame) (n : ℕ) → cond (kind frame) 1 0 ≡ n
    → count_by kind (more ++ frame ∷ []) ≡ count_by kind more + n
counts-one kind more frame n is = sum_by_push (λ (f : Frame). cond (kind f) 1 0) more frame
    ∙ ap (λ (k : ℕ). count_by kind more + k) is

pub joined-is : (running : Running) (label : Address) (direction : Direction) (tick : ℕ)
    → joined_by (current_of running) (mark_at label direction tick) ≡ current_of
    (with_frame running (Heard label direction true tick))
joined-is running label direction tick =
    let frame = Heard label direction true tick in
    let heard = counts-one is_heard running.more frame 1 refl in
    let invented = counts-one is_invented running.more frame 0 refl in
    same_open _ _ _ _ _ _ _ _ _ (sym (fold_push latest_of running.first running.more frame)) (omega (arith, heard))
    (sym (bridged-heard running.more label direction true tick)) (omega (arith, invented))

pub invented-is : (running : Running) (label : Address) (direction : Direction) (step tick : ℕ)
    → with_invented (current_of running) ≡ current_of (with_frame running (Invented label direction step tick))
invented-is running label direction step tick =
    let frame = Invented label direction step tick in
    let heard = counts-one is_heard running.more frame 0 refl in
    let invented = counts-one is_invented running.more frame 1 refl in
    same_open _ _ _ _ _ _ _ _ _ (sym (fold_push latest_of running.first running.more frame)) (omega (arith, heard))
    (sym (bridged-invented running.more label direction step tick)) (omega (arith, invented))

-- ---- the spans to come, if a frame comes first

-- it goes on
pub comes-on : (running : Running) (frame : Frame) (behind : List Frame) → goes_on frame ≡ true
    → (frames_of_spans (frame ∷ behind) ≡ frames_of_spans behind)
    → to_come (Some running) (frame ∷ behind) ≡ to_come (Some (with_frame running frame)) behind
comes-on running frame behind on same =
    let taken : take_while goes_on (frame ∷ behind) ≡ frame ∷ take_while goes_on behind =
    take_while-cons goes_on frame behind
    ∙ ap (λ (b : Bool). cond b (frame ∷ take_while goes_on behind) []) on in
    let more : running.more ++ take_while goes_on (frame ∷ behind) ≡ (running.more ++ frame ∷ [])
    ++ take_while goes_on behind =
    ap (λ (l : List Frame). running.more ++ l) taken
    ∙ sym (append_assoc running.more (frame ∷ []) (take_while goes_on behind)) in
    let any : list_any (λ f. not (goes_on f)) (frame ∷ behind) ≡ list_any (λ f. not (goes_on f)) behind = rw on refl in
    ap (λ (l : List Frame). record {
      first = running.first;
      more = l;
      has_ended =
          list_any (λ f. not (goes_on f)) (frame ∷ behind);
    } ∷ frames_of_spans (frame ∷ behind)) more
    ∙ ap (λ (b : Bool). record {
      first = running.first;
      more = (running.more ++ frame ∷ [])
          ++ take_while goes_on behind;
      has_ended = b;
    } ∷ frames_of_spans (frame ∷ behind)) any
    ∙ ap (λ (l : List SpanFrames). record {
      first = running.first;
      more = (running.more ++ frame ∷ [])
          ++ take_while goes_on behind;
      has_ended = list_any (λ f. not (goes_on f)) behind;
    } ∷ l) same

abbrev pub ended_one : Running → SpanFrames
ended_one running = record { first = running.first; more = running.more; has_ended = true }

-- it does not
pub comes-end : (running : Running) (frame : Frame) (behind : List Frame) → goes_on frame ≡ false
    → to_come (Some running) (frame ∷ behind) ≡ ended_one running ∷ frames_of_spans (frame ∷ behind)
comes-end running frame behind off =
    let taken : take_while goes_on (frame ∷ behind) ≡ [] = take_while-cons goes_on frame behind
    ∙ ap (λ (b : Bool). cond b (frame ∷ take_while goes_on behind) []) off in
    let more : running.more ++ take_while goes_on (frame ∷ behind) ≡ running.more =
    ap (λ (l : List Frame). running.more ++ l) taken ∙ append-nil running.more in
    let any : list_any (λ f. not (goes_on f)) (frame ∷ behind) ≡ true = rw off refl in
    ap (λ (l : List Frame). record {
      first = running.first;
      more = l;
      has_ended =
          list_any (λ f. not (goes_on f)) (frame ∷ behind);
    } ∷ frames_of_spans (frame ∷ behind)) more
    ∙ ap (λ (b : Bool). record { first = running.first; more = running.more; has_ended = b }
    ∷ frames_of_spans (frame ∷ behind)) any

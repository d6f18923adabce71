-- Words that are joined are one span, whatever is invented behind the last one.
use Rattle.std.proofs.Common.{◌≡◌, ℕ, ◌+◌, Bool, true, false, cond, List, [], ◌∷◌, ◌++◌, map, length}
use Rattle.std.proofs.Common.{count_by, refl, ap, ◌∙◌, arith}
use Rattle.std.specs.List.{fold, list_any, take_while}
use Rattle.std.proofs.lemmas.List.Sums.{take_while-cons}
use Rattle.lemmas.specs.Lists.{count_by-cons}
use Rattle.flywheel.specs.declared.frame.Frame.{Frame}
use Rattle.flywheel.specs.declared.frame.Frame.TheVariants.{Heard, Invented, Gone}
use Rattle.flywheel.specs.declared.heard.HeardWord.{HeardWord}
use Rattle.flywheel.specs.Frames.{due_steps, frames, frames_between, heard_as, invented_after, is_gone, tick_after}
use Rattle.flywheel.specs.GoOn.{goes_on}
use Rattle.flywheel.specs.Kinds.{is_heard}
use Rattle.tape_spans.specs.declared.span.Mark.{Mark}
use Rattle.tape_spans.specs.declared.span.Span.{Span}
use Rattle.tape_spans.specs.Spans.{bridged_in, frames_of_spans, latest_of, mark_at, spans}
use Rattle.sound_report.proofs.JoinedWords.{frames_are_joined, latest, AreJoined}

-- a word as the begin or the end of a span
abbrev pub mark_there : HeardWord → Mark
mark_there word = mark_at word.label word.direction word.tick

-- ---- frames of which none was heard

abbrev NoneHeard : List Frame → Type 0
NoneHeard [] = Unit {0}
NoneHeard (Heard label direction joined tick ∷ more) = ⊥
NoneHeard (Invented label direction step tick ∷ more) = NoneHeard more
NoneHeard (Gone tick ∷ more) = NoneHeard more

end_unheard : (gone : Bool) (tick : ℕ) → NoneHeard (cond gone (Gone tick ∷ []) [])
end_unheard true tick = tt
end_unheard false tick = tt

steps_unheard : (word : HeardWord) (steps : List ℕ) (rest : List Frame) → NoneHeard rest
    → NoneHeard (map (invented_after word) steps ++ rest)
steps_unheard word [] rest none = none
steps_unheard word (k ∷ steps) rest none = steps_unheard word steps rest none

between_unheard : (limit : ℕ) (word : HeardWord) (tick : ℕ) → NoneHeard (frames_between limit word tick)
between_unheard limit word tick =
    let gone = is_gone limit word tick in
    let at = tick_after word (limit + 1) in
    steps_unheard word (due_steps limit word tick) (cond gone (Gone at ∷ []) []) (end_unheard gone at)

-- ---- what an open span takes

abbrev taken : List Frame → List Frame
taken frames = take_while goes_on frames

taken_on : (frame : Frame) (more : List Frame) → goes_on frame ≡ true → taken (frame ∷ more) ≡ frame ∷ taken more
taken_on frame more on =
    take_while-cons goes_on frame more ∙ ap (λ (b : Bool). cond b (frame ∷ taken more) []) on

taken_off : (frame : Frame) (more : List Frame) → goes_on frame ≡ false → taken (frame ∷ more) ≡ []
taken_off frame more off =
    take_while-cons goes_on frame more ∙ ap (λ (b : Bool). cond b (frame ∷ taken more) []) off

-- frames behind a mark begin no span. What the open span takes of them ends in a mark, has `heard` that were heard,
-- and none that was invented before one of these
record GoesTo (mark : Mark) (frames : List Frame) (last : Mark) (heard : ℕ) : Type 0 where
  none_begin : frames_of_spans frames ≡ []
  ends : fold latest_of mark (taken frames) ≡ last
  counts : count_by is_heard (taken frames) ≡ heard
  bridges : bridged_in (taken frames) ≡ 0

unheard : (frames : List Frame) → NoneHeard frames → list_any is_heard (taken frames) ≡ false
unheard [] none = refl
unheard (Heard label direction joined tick ∷ more) none = absurd none
unheard (Invented label direction step tick ∷ more) none =
    ap (list_any is_heard) (taken_on (Invented label direction step tick) more refl) ∙ unheard more none
unheard (Gone tick ∷ more) none = ap (list_any is_heard) (taken_off (Gone tick) more refl)

bridged_none : (frame : Frame) (more : List Frame) → list_any is_heard more ≡ false → bridged_in more ≡ 0
    → bridged_in (frame ∷ more) ≡ 0
unfolding bridged_in
bridged_none (Heard label direction joined tick) more none bridges = rw bridges refl
bridged_none (Invented label direction step tick) more none bridges = rw (none, bridges) refl
bridged_none (Gone tick) more none bridges = rw bridges refl

bridged_heard : (word : HeardWord) (more : List Frame) → bridged_in more ≡ 0
    → bridged_in (heard_as true word ∷ more) ≡ 0
unfolding bridged_in
bridged_heard word more bridges = rw bridges refl

stays : (mark : Mark) (frames : List Frame) → NoneHeard frames → GoesTo mark frames mark 0
unfolding frames_of_spans bridged_in
stays mark [] none = record { none_begin = refl; ends = refl; counts = refl; bridges = refl }
stays mark (Heard label direction joined tick ∷ more) none = absurd none
stays mark (Invented label direction step tick ∷ more) none =
    let frame = Invented label direction step tick in
    let on = taken_on frame more refl in
    let later = stays mark more none in
    record {
      none_begin = later.none_begin;
      ends = ap (fold latest_of mark) on ∙ later.ends;
      counts = ap (count_by is_heard) on ∙ count_by-cons is_heard frame (taken more)
          ∙ ap (λ (n : ℕ). 0 + n) later.counts;
      bridges = ap bridged_in on ∙ bridged_none frame (taken more) (unheard more none) later.bridges;
    }
stays mark (Gone tick ∷ more) none =
    let off = taken_off (Gone tick) more refl in
    record {
      none_begin = (stays mark more none).none_begin;
      ends = ap (fold latest_of mark) off;
      counts = ap (count_by is_heard) off;
      bridges = ap bridged_in off;
    }

-- words that are joined, and then frames of which none was heard
goes_to : (word : HeardWord) (more : List HeardWord) (rest : List Frame) → NoneHeard rest
    → GoesTo (mark_there word) (map (heard_as true) more ++ rest) (mark_there (latest word more)) (length more)
unfolding frames_of_spans bridged_in
goes_to word [] rest none = stays (mark_there word) rest none
goes_to word (next ∷ more) rest none =
    let frame = heard_as true next in
    let behind = map (heard_as true) more ++ rest in
    let on = taken_on frame behind refl in
    let later = goes_to next more rest none in
    record {
      none_begin = later.none_begin;
      ends = ap (fold latest_of (mark_there word)) on ∙ later.ends;
      counts = ap (count_by is_heard) on ∙ count_by-cons is_heard frame (taken behind)
          ∙ ap (λ (n : ℕ). 1 + n) later.counts
          ∙ (omega arith);
      bridges = ap bridged_in on ∙ bridged_heard next (taken behind) later.bridges;
    }

-- the span of words that are joined
abbrev pub joined_span : HeardWord → List HeardWord → Span
joined_span word more = record {
  first = mark_there word;
  last = mark_there (latest word more);
  heard = 1 + length more;
  bridged = 0;
}

-- a frame that begins a span, and frames behind it that begin none
spans_of_one : (word : HeardWord) (behind : List Frame) (last : Mark) (heard : ℕ)
    → GoesTo (mark_there word) behind last heard
    → spans (heard_as false word ∷ behind)
    ≡ record { first = mark_there word; last = last; heard = 1 + heard; bridged = 0 } ∷ []
unfolding frames_of_spans
spans_of_one word behind last heard to = rw (to.none_begin, to.ends, to.counts, to.bridges) refl

pub one_span : (limit tick : ℕ) (word : HeardWord) (more : List HeardWord) → AreJoined word more
    → spans (frames limit (word ∷ more) tick) ≡ joined_span word more ∷ []
one_span limit tick word more joined =
    ap (λ (l : List Frame). spans (heard_as false word ∷ l)) (frames_are_joined limit tick word more joined)
    ∙ spans_of_one word (map (heard_as true) more ++ frames_between limit (latest word more) tick)
    (mark_there (latest word more)) (length more)
    (goes_to word more (frames_between limit (latest word more) tick)
    (between_unheard limit (latest word more) tick))

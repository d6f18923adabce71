-- Frames are counted and sent one after another.
use Rattle.std.proofs.Common.{◌≡◌, ℕ, ◌+◌, List, [], ◌∷◌, ◌++◌, count_by, Bool, sym, ◌∙◌, ap, subst, arith}
use Rattle.std.proofs.Common.{append-nil, append_assoc, cond, refl}
use Rattle.std.proofs.lemmas.List.Sums.{sum_by-cons}
use Rattle.lemmas.specs.Lists.{count_by-append}
use Rattle.flywheel.specs.declared.frame.Frame.{Frame}
use Rattle.flywheel.specs.declared.frame.Frame.TheVariants.{Heard, Invented, Gone}
use Rattle.flywheel.specs.Kinds.{is_gone, is_heard, is_invented}
use Rattle.flywheel.specs.Wheel.{IsPast}
use Rattle.interval_file.specs.declared.header.IntervalHeader.{IntervalHeader}
use Rattle.frame_commands.specs.declared.frames.Frames.{Frames}
use Rattle.frame_commands.specs.KeptFlight.{counted, frames_counted, Counts, Sends}
use Rattle.frame_commands.specs.OfFrames.{FrameText}

-- ---- counts

one_of : (kind : Frame → Bool) (frame : Frame) → count_by kind (frame ∷ []) ≡ cond (kind frame) 1 0
one_of kind frame = omega (arith, sum_by-cons (λ (f : Frame). cond (kind f) 1 0) frame [])

-- a frame that is counted
pub one_counted : (before mid after : Frames) (frame : Frame) → mid.heard ≡ before.heard
    → mid.invented ≡ before.invented → mid.gone ≡ before.gone → after ≡ counted frame mid
    → Counts before after (frame ∷ [])
one_counted before mid after (Heard l d j t) h i g e =
    rw e (record {
      heard = omega (arith, h, one_of is_heard (Heard l d j t));
      invented = omega (arith, i, one_of is_invented (Heard l d j t));
      gone = omega (arith, g, one_of is_gone (Heard l d j t));
    })
one_counted before mid after (Invented l d s t) h i g e =
    rw e (record {
      heard = omega (arith, h, one_of is_heard (Invented l d s t));
      invented = omega (arith, i, one_of is_invented (Invented l d s t));
      gone = omega (arith, g, one_of is_gone (Invented l d s t));
    })
one_counted before mid after (Gone t) h i g e =
    rw e (record {
      heard = omega (arith, h, one_of is_heard (Gone t));
      invented = omega (arith, i, one_of is_invented (Gone t));
      gone = omega (arith, g, one_of is_gone (Gone t));
    })

pub none_counted : (f : Frames) → Counts f f []
none_counted f = record { heard = omega arith; invented = omega arith; gone = omega arith }

-- one frame is counted once
pub one_more : (before after : Frames) (frame : Frame) → Counts before after (frame ∷ [])
    → frames_counted after ≡ frames_counted before + 1
one_more before after (Heard l d j t) c = omega (
  arith,
  c.heard,
  c.invented,
  c.gone,
  one_of is_heard (Heard l d j t),
  one_of is_invented (Heard l d j t),
  one_of is_gone (Heard l d j t),
)
one_more before after (Invented l d s t) c = omega (
  arith,
  c.heard,
  c.invented,
  c.gone,
  one_of is_heard (Invented l d s t),
  one_of is_invented (Invented l d s t),
  one_of is_gone (Invented l d s t),
)
one_more before after (Gone t) c = omega (
  arith,
  c.heard,
  c.invented,
  c.gone,
  one_of is_heard (Gone t),
  one_of is_invented (Gone t),
  one_of is_gone (Gone t),
)

-- some frames and then more
pub both_counted : (a b c : Frames) (fs more : List Frame)
    → Counts a b fs → Counts b c more → Counts a c (fs ++ more)
both_counted a b c fs more first second = record {
  heard = omega (arith, first.heard, second.heard, count_by-append is_heard fs more);
  invented = omega (arith, first.invented, second.invented, count_by-append is_invented fs more);
  gone = omega (arith, first.gone, second.gone, count_by-append is_gone fs more);
}

-- ---- what is sent

-- what a sink of frames writes, and which frames it was given
abbrev pub Given : (S C : Type 0) → Type 1
Given S C = S → C → IntervalHeader → List Frame → Type 0

-- nothing is sent of no frame
pub sends_none : {S C O : Type 0} (made : C → FrameText) (has : Given S C) (given : O → O → List ℕ → Type 0) (sink : S)
    (out : O) → given out out [] → Sends made has given sink sink out out []
sends_none made has given sink out none = λ choice header frames was. (
  subst (λ (fs : List Frame). has sink choice header fs) (sym (append-nil frames)) was,
  (
    [],
    ap ((made choice).text header) (append-nil frames) ∙ sym (append-nil ((made choice).text header frames)),
    none,
  ),
)

-- some frames, and then more
pub sends_both : {S C O : Type 0} (made : C → FrameText) (has : Given S C) (given : O → O → List ℕ → Type 0) (a b c : S)
    (one two three : O) (fs more : List Frame)
    → ((x y : List ℕ) → given one two x → given two three y → given one three (x ++ y))
    → Sends made has given a b one two fs → Sends made has given b c two three more
    → Sends made has given a c one three (fs ++ more)
sends_both made has given a b c one two three fs more join first second = λ choice header frames was.
    let f = first choice header frames was in
    let s = second choice header (frames ++ fs) f.0 in
    let same = append_assoc frames fs more in
    let text = (made choice).text header in (
      subst (λ (l : List Frame). has c choice header l) same s.0,
      (
        f.1.0 ++ s.1.0,
        ap text (sym same) ∙ s.1.1 ∙ ap (λ (l : List ℕ). l ++ s.1.0) f.1.1 ∙ append_assoc (text frames) f.1.0 s.1.0,
        join f.1.0 s.1.0 f.1.2 s.1.2,
      ),
    )

-- ---- frames that are due

-- a frame that is given when one is due is none that was heard
pub not_heard : (frame : Frame) (tick : ℕ) (f : Frames) → IsPast frame tick
    → ((counted frame f).heard ≡ f.heard)
    × ((counted frame f).invented + (counted frame f).gone ≡ f.invented + f.gone + 1)
not_heard (Heard l d j t) tick f past = absurd past
not_heard (Invented l d s t) tick f past = (refl, omega arith)
not_heard (Gone t) tick f past = (refl, omega arith)

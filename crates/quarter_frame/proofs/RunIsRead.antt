-- The text of a run is a full message and pairs, eight quarter frames each, and maybe half a pair; so it is read pair
-- by pair.
use Rattle.std.proofs.Common.{◌≡◌, ◌<◌, ◌⊎◌, inl, inr, ℕ, ◌+◌, true, false, pos, neg_ℤ, List, [], ◌∷◌, ◌++◌}
use Rattle.std.proofs.Common.{length, Some, refl, sym, ◌∙◌, ap}
use Rattle.std.proofs.Common.{subst, append_assoc, arith}
use Rattle.std.specs.List.{take_while}
use Rattle.tc_address.specs.declared.direction.Direction.{Direction}
use Rattle.tc_address.specs.declared.direction.Direction.TheVariants.{Forward, Backward}
use Rattle.tc_address.specs.Label.{Address, IsLabel}
use Rattle.tc_address.specs.Numbering.{step}
use Rattle.flywheel.specs.declared.frame.Frame.{Frame}
use Rattle.flywheel.specs.Frames.{steps_in}
use Rattle.mtc_reader.specs.declared.event.MtcEvent.{MtcEvent}
use Rattle.mtc_reader.specs.declared.event.MtcEvent.TheVariants.{Full, Quarter}
use Rattle.mtc_reader.specs.Events.{events_in}
use Rattle.mtc_reader.specs.Laws.{all_falling, all_rising, falling, falling_half, quarter_events, rising, rising_half}
use Rattle.mtc_reader.specs.Laws.{run_events, AreLabels}
use Rattle.mtc_reader.specs.Laws as read
use Rattle.quarter_frame.specs.Message.{full_of}
use Rattle.quarter_frame.specs.ReadAgain.{all_placed, earlier, pairs_read, Placed}
use Rattle.quarter_frame.specs.Runs.{before, four_of, quarters_from}
use Rattle.quarter_frame.proofs.GoesOn.{GoOn, Laws, step_label}
use Rattle.flywheel.specs.GoOn.{goes_on}
use Rattle.quarter_frame.proofs.FramesOfARun.{IsChain, backward_pair, first_half, first_half_back, forward_pair}
use Rattle.quarter_frame.proofs.FramesOfARun.{neighbour, run_chain, run_sent, same_full, sent_by_two, two_by_two}

-- what the reader's crate says of a run
pub record ReadsRuns : Type 0 where
  pub forward : (front : List ℕ) (device : ℕ) (first : Address) (labels : List Address) → device < 0x80 → IsLabel first
      → AreLabels labels
      → events_in (front ++ (read.full_message device first ++ all_rising labels))
      ≡ events_in front ++ run_events (length front) Forward first labels
  pub forward_half : (front : List ℕ) (device : ℕ) (first : Address) (labels : List Address) (half : Address)
      → device < 0x80 → IsLabel first → AreLabels labels → IsLabel half
      → events_in (front ++ (read.full_message device first ++ (all_rising labels ++ rising_half half)))
      ≡ events_in front ++ run_events (length front) Forward first labels
  pub backward : (front : List ℕ) (device : ℕ) (first : Address) (labels : List Address) → device < 0x80 → IsLabel first
      → AreLabels labels
      → events_in (front ++ (read.full_message device first ++ all_falling labels))
      ≡ events_in front ++ run_events (length front) Backward first labels
  pub backward_half : (front : List ℕ) (device : ℕ) (first : Address) (labels : List Address) (half : Address)
      → device < 0x80 → IsLabel first → AreLabels labels → IsLabel half
      → events_in (front ++ (read.full_message device first ++ (all_falling labels ++ falling_half half)))
      ≡ events_in front ++ run_events (length front) Backward first labels

-- ---- the pairs of a run

-- frames of one direction that follow each other
abbrev pub IsRun : Direction → List Placed → Type 0
IsRun d [] = Unit {0}
IsRun d (a ∷ more) = (a.direction ≡ d) × IsLabel a.label × IsChain a more

run_on : (d : Direction) (a : Placed) (more : List Placed) → a.direction ≡ d → IsChain a more → IsRun d more
run_on d a [] is chain = tt
run_on d a (b ∷ more) is chain = (chain.1.direction ∙ is, chain.0, chain.2)

-- their text is that of whole pairs, or of these and half a pair
abbrev HasPairs : (List Address → List ℕ) → (Address → List ℕ) → List ℕ → List Address → Type 0
HasPairs whole half text labels = (text ≡ whole labels) ⊎
    ((alone : Address) × IsLabel alone × (text ≡ whole labels ++ half alone))

pub record Split (d : Direction) (whole : List Address → List ℕ) (half : Address → List ℕ)
    (fs : List Placed) : Type 0 where
  pub labels : List Address
  pub are : AreLabels labels
  pub text : HasPairs whole half (two_by_two fs) labels
  pub events : (at : ℕ) → pairs_read at fs ≡ quarter_events at d labels

one_pair_more : (whole : List Address → List ℕ) (half : Address → List ℕ) (own pair text : List ℕ) (label : Address)
    (labels : List Address)
    → own ≡ pair → whole (label ∷ labels) ≡ pair ++ whole labels → HasPairs whole half text labels
    → HasPairs whole half (own ++ text) (label ∷ labels)
one_pair_more whole half own pair text label labels is grows (inl e) =
    inl (ap (λ (l : List ℕ). l ++ text) is ∙ ap (λ (l : List ℕ). pair ++ l) e ∙ sym grows)
one_pair_more whole half own pair text label labels is grows (inr e) = inr (
  e.0,
  e.1,
  ap (λ (l : List ℕ). l ++ text) is ∙ ap (λ (l : List ℕ). pair ++ l) e.2
      ∙ sym (append_assoc pair (whole labels) (half e.0))
      ∙ ap (λ (l : List ℕ). l ++ half e.0) (sym grows),
)

forward_split : Laws → (fs : List Placed) → IsRun Forward fs → Split Forward all_rising rising_half fs
forward_split l [] run = record { labels = []; are = tt; text = inl refl; events = λ at. refl }
forward_split l (a ∷ []) run = record {
  labels = [];
  are = tt;
  text = inr (a.label, run.1, ap (λ (d : Direction). four_of a.label d true) run.0 ∙ first_half a.label);
  events = λ at. refl;
}
forward_split l (a ∷ b ∷ more) run =
    let second : b.direction ≡ Forward = run.2.1.direction ∙ run.0 in
    let rest = forward_split l more (run_on Forward b more second run.2.2) in
    let is : b.label ≡ step a.label (steps_in Forward 1) = run.2.1.label
    ∙ ap (λ (d : Direction). step a.label (steps_in d 1)) run.0 in
    let pair : four_of a.label a.direction true ++ four_of b.label b.direction false ≡ rising a.label =
    rw (run.0, second) (forward_pair a.label b.label (neighbour l Forward a.label b.label run.1 is)) in
    record {
      labels = a.label ∷ rest.labels;
      are = (run.1, rest.are);
      text = one_pair_more all_rising rising_half _ (rising a.label)
          (two_by_two more) a.label rest.labels pair refl rest.text;
      events = λ at. ap (λ (d : Direction).
          Quarter d (earlier d a.label b.label) (at + 15) ∷ pairs_read (at + 16) more) run.0
          ∙ ap (λ (es : List MtcEvent). Quarter Forward a.label (at + 15) ∷ es) (rest.events (at + 16));
    }

backward_split : Laws → (fs : List Placed) → IsRun Backward fs → Split Backward all_falling falling_half fs
backward_split l [] run = record { labels = []; are = tt; text = inl refl; events = λ at. refl }
backward_split l (a ∷ []) run = record {
  labels = [];
  are = tt;
  text = inr (
    before a.label,
    step_label l a.label (neg_ℤ (pos 1)) run.1,
    ap (λ (d : Direction). four_of a.label d true) run.0 ∙ first_half_back a.label,
  );
  events = λ at. refl;
}
backward_split l (a ∷ b ∷ more) run =
    let second : b.direction ≡ Backward = run.2.1.direction ∙ run.0 in
    let rest = backward_split l more (run_on Backward b more second run.2.2) in
    let is : b.label ≡ step a.label (steps_in Backward 1) = run.2.1.label
    ∙ ap (λ (d : Direction). step a.label (steps_in d 1)) run.0 in
    let pair : four_of a.label a.direction true ++ four_of b.label b.direction false ≡ falling b.label =
    rw (run.0, second) (backward_pair a.label b.label (sym is)) in
    record {
      labels = b.label ∷ rest.labels;
      are = (run.2.0, rest.are);
      text = one_pair_more all_falling falling_half _ (falling b.label)
          (two_by_two more) b.label rest.labels pair refl rest.text;
      events = λ at. ap (λ (d : Direction).
          Quarter d (earlier d a.label b.label) (at + 15) ∷ pairs_read (at + 16) more) run.0
          ∙ ap (λ (es : List MtcEvent). Quarter Backward b.label (at + 15) ∷ es) (rest.events (at + 16));
    }

-- ---- a run is read

-- a full message and this text behind any bytes give the full message and these events
abbrev IsRead : List ℕ → Address → List ℕ → List MtcEvent → Type 0
IsRead front first text events =
    events_in (front ++ (full_of first ++ text)) ≡ events_in front ++ Full first (length front + 9) ∷ events

with_full : (front : List ℕ) (first : Address) (text : List ℕ) (events : List MtcEvent)
    → events_in (front ++ (read.full_message 0x7f first ++ text))
    ≡ events_in front ++ Full first (length front + 9) ∷ events
    → IsRead front first text events
with_full front first text events is = ap (λ (m : List ℕ). events_in (front ++ (m ++ text))) (same_full first) ∙ is

-- the pairs of a run behind its full message
abbrev pairs_behind : List ℕ → Direction → List Address → List MtcEvent
pairs_behind front d labels = quarter_events (length front + 10) d labels

read_forward : ReadsRuns → (front : List ℕ) (first : Address) (text : List ℕ) (labels : List Address) → IsLabel first
    → AreLabels labels
    → HasPairs all_rising rising_half text labels → IsRead front first text (pairs_behind front Forward labels)
read_forward r front first text labels l are (inl e) =
    subst (λ (t : List ℕ). IsRead front first t (pairs_behind front Forward labels)) (sym e)
    (with_full front first (all_rising labels) _ (r.forward front 0x7f first labels (omega arith) l are))
read_forward r front first text labels l are (inr e) =
    subst (λ (t : List ℕ). IsRead front first t (pairs_behind front Forward labels)) (sym e.2)
    (with_full front first (all_rising labels ++ rising_half e.0) _
    (r.forward_half front 0x7f first labels e.0 (omega arith) l are e.1))

read_backward : ReadsRuns → (front : List ℕ) (first : Address) (text : List ℕ) (labels : List Address) → IsLabel first
    → AreLabels labels
    → HasPairs all_falling falling_half text labels → IsRead front first text (pairs_behind front Backward labels)
read_backward r front first text labels l are (inl e) =
    subst (λ (t : List ℕ). IsRead front first t (pairs_behind front Backward labels)) (sym e)
    (with_full front first (all_falling labels) _ (r.backward front 0x7f first labels (omega arith) l are))
read_backward r front first text labels l are (inr e) =
    subst (λ (t : List ℕ). IsRead front first t (pairs_behind front Backward labels)) (sym e.2)
    (with_full front first (all_falling labels ++ falling_half e.0) _
    (r.backward_half front 0x7f first labels e.0 (omega arith) l are e.1))

-- the pairs of frames, if their text comes behind the full message
abbrev pairs_of : List ℕ → List Placed → List MtcEvent
pairs_of front fs = pairs_read (length front + 10) fs

run_by : ReadsRuns → Laws → (d : Direction) (front : List ℕ) (first : Placed) (others : List Placed)
    → first.direction ≡ d → IsLabel first.label
    → IsChain first others → IsRead front first.label (two_by_two (first ∷ others)) (pairs_of front (first ∷ others))
run_by r l Forward front first others is label chain =
    let s = forward_split l (first ∷ others) (is, label, chain) in
    subst (λ (es : List MtcEvent). IsRead front first.label (two_by_two (first ∷ others)) es)
    (sym (s.events (length front + 10)))
    (read_forward r front first.label _ s.labels label s.are s.text)
run_by r l Backward front first others is label chain =
    let s = backward_split l (first ∷ others) (is, label, chain) in
    subst (λ (es : List MtcEvent). IsRead front first.label (two_by_two (first ∷ others)) es)
    (sym (s.events (length front + 10)))
    (read_backward r front first.label _ s.labels label s.are s.text)

-- a run of frames
pub run_of : ReadsRuns → Laws → (front : List ℕ) (first : Placed) (more : List Frame) → IsLabel first.label
    → GoOn (Some first) more
    → events_in (front ++ (full_of first.label
    ++ (four_of first.label first.direction true ++ quarters_from 1 (take_while goes_on more))))
    ≡ events_in front ++ Full first.label (length front + 9) ∷ pairs_read (length front + 10)
    (first ∷ all_placed (take_while goes_on more))
run_of r l front first more label go =
    let others = all_placed (take_while goes_on more) in
    subst (λ (t : List ℕ). IsRead front first.label t (pairs_of front (first ∷ others)))
    (sym (sent_by_two 0 (first ∷ others)) ∙ ap (λ (t : List ℕ). four_of first.label first.direction true ++ t)
    (sym (run_sent 1 more)))
    (run_by r l first.direction front first others refl label (run_chain first more go))

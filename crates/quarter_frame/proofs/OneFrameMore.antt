-- The text of the frames to come is what is written of the next one, and then the text of those that come after it.
use Rattle.std.proofs.Common.{◌≡◌, ℕ, ◌+◌, ◌%◌, Bool, true, false, List, [], ◌∷◌, ◌++◌, length, Option, Some, None}
use Rattle.std.proofs.Common.{refl, sym, ◌∙◌, ap, append_assoc}
use Rattle.std.proofs.Common.{append-nil, arith}
use Rattle.std.specs.List.{take_while}
use Rattle.std.proofs.lemmas.List.Sums.{take_while-cons}
use Rattle.tc_address.specs.declared.direction.Direction.{Direction}
use Rattle.tc_address.specs.declared.direction.Direction.TheVariants.{Forward, Backward}
use Rattle.tc_address.specs.Label.{Address}
use Rattle.flywheel.specs.declared.frame.Frame.{Frame}
use Rattle.flywheel.specs.declared.frame.Frame.TheVariants.{Heard, Invented, Gone}
use Rattle.quarter_frame.specs.declared.half.Half.{Half}
use Rattle.quarter_frame.specs.declared.half.Half.TheVariants.{First, Second}
use Rattle.quarter_frame.specs.Runs.{four_of, is_even, quarters_of, quarters_from, mtc_of}
use Rattle.quarter_frame.specs.StandsFor.{position_of, other_half, written, next_half, text_to_come, StandsFor}
use Rattle.flywheel.specs.GoOn.{goes_on}

is_even-two : (position : ℕ) → is_even (position + 2) ≡ is_even position
is_even-two position = let same : (position + 2) % 2 ≡ position % 2 = omega arith in rw same refl

-- four quarter frames are eight bytes
pub length_four : (label : Address) (direction : Direction) (even : Bool) → length (four_of label direction even) ≡ 8
length_four label Forward true = refl
length_four label Forward false = refl
length_four label Backward true = refl
length_four label Backward false = refl

-- two positions further the same is sent
quarters_of-two : (position : ℕ) (frame : Frame) → quarters_of (position + 2) frame ≡ quarters_of position frame
quarters_of-two position (Heard label direction joined tick) = rw (is_even-two position) refl
quarters_of-two position (Invented label direction step tick) = rw (is_even-two position) refl
quarters_of-two position (Gone tick) = refl

quarters_from-two : (position : ℕ) (frames : List Frame) → quarters_from (position + 2) frames ≡ quarters_from position
    frames
quarters_from-two position [] = refl
quarters_from-two position (frame ∷ more) =
    let next : position + 2 + 1 ≡ position + 1 + 2 = omega arith in
    rw (quarters_of-two position frame, next, quarters_from-two (position + 1) more) refl

-- the next position has the other half
quarters_from-other : (half : Half) (frames : List Frame) → quarters_from (position_of half + 1) frames ≡ quarters_from
    (position_of (other_half half)) frames
quarters_from-other First frames = refl
quarters_from-other Second frames = quarters_from-two 0 frames

-- the open run takes a frame that goes on it
quarters_from-cons : (half : Half) (frame : Frame) (more : List Frame) → goes_on frame ≡ true →
    quarters_from (position_of half) (take_while goes_on (frame ∷ more))
    ≡ quarters_of (position_of half) frame ++ quarters_from (position_of (other_half half)) (take_while goes_on more)
quarters_from-cons half frame more on =
    let taken : take_while goes_on (frame ∷ more) ≡ frame ∷ take_while goes_on more = take_while-cons goes_on frame more
    ∙ rw on refl in
    rw (taken, ← quarters_from-other half (take_while goes_on more)) refl

step : (half : Option Half) (frame : Frame) (more : List Frame) →
    text_to_come half (frame ∷ more) ≡ written half frame ++ text_to_come (next_half half frame) more
step None (Heard label direction joined tick) more = simp append_assoc
step None (Invented label direction invented tick) more = simp append_assoc
step None (Gone tick) more = refl
step (Some half) (Heard label direction true tick) more =
    rw (quarters_from-cons half (Heard label direction true tick) more refl) (simp append_assoc)
step (Some half) (Heard label direction false tick) more = simp append_assoc
step (Some half) (Invented label direction invented tick) more =
    rw (quarters_from-cons half (Invented label direction invented tick) more refl) (simp append_assoc)
step (Some half) (Gone tick) more = refl

nothing : (half : Option Half) → text_to_come half [] ≡ []
nothing None = refl
nothing (Some half) = refl

-- the last frame
step-last : (half : Option Half) (frame : Frame) → text_to_come half (frame ∷ []) ≡ written half frame
step-last half frame =
    step half frame [] ∙ ap (λ text. written half frame ++ text) (nothing (next_half half frame))
    ∙ append-nil (written half frame)

-- a writer that stands for frames stands for one frame more, and has written what their text gained
pub after_frame : (half new : Option Half) (frames : List Frame) (frame : Frame) (bytes : List ℕ)
    → StandsFor half frames → bytes ≡ written half frame →
    new ≡ next_half half frame → StandsFor new (frames ++ frame ∷ [])
    × (mtc_of (frames ++ frame ∷ []) ≡ mtc_of frames ++ bytes)
after_frame half new frames frame bytes stands are is_new =
    let whole : mtc_of (frames ++ frame ∷ []) ≡ mtc_of frames ++ written half frame =
    stands (frame ∷ []) ∙ ap (λ text. mtc_of frames ++ text) (step-last half frame) in
    let more_come : StandsFor (next_half half frame) (frames ++ frame ∷ []) =
    λ more.
    let along : mtc_of ((frames ++ frame ∷ []) ++ more) ≡ mtc_of (frames ++ frame ∷ more) =
    ap mtc_of (append_assoc frames (frame ∷ []) more) in
    let come : mtc_of (frames ++ frame ∷ more) ≡ mtc_of frames
    ++ (written half frame ++ text_to_come (next_half half frame) more) =
    stands (frame ∷ more) ∙ ap (λ text. mtc_of frames ++ text) (step half frame more) in
    along ∙ come ∙ sym (append_assoc (mtc_of frames) (written half frame) (text_to_come (next_half half frame) more))
    ∙ ap (λ text. text ++ text_to_come (next_half half frame) more) (sym whole) in
    (rw is_new more_come, rw are whole)

-- For each list of frames there is a writer, so the text of the frames that follow goes on behind theirs.
use Rattle.std.proofs.Common.{◌≡◌, ℕ, List, [], ◌∷◌, ◌++◌, Option, None, refl, sym, subst, append_assoc, append-nil}
use Rattle.flywheel.specs.declared.frame.Frame.{Frame}
use Rattle.quarter_frame.specs.declared.half.Half.{Half}
use Rattle.quarter_frame.specs.Runs.{mtc_of}
use Rattle.quarter_frame.specs.StandsFor.{next_half, text_to_come, StandsFor}
use Rattle.quarter_frame.proofs.OneFrameMore.{after_frame}

-- a writer that stands for frames stands, frame after frame, for more of them
stands_after : (half : Option Half) (front frames : List Frame) → StandsFor half front → (after : Option Half)
    × StandsFor after (front ++ frames)
stands_after half front [] stands = (half, subst (StandsFor half) (sym (append-nil front)) stands)
stands_after half front (frame ∷ more) stands =
    let next = after_frame half _ front frame _ stands refl refl in
    let all = stands_after (next_half half frame) (front ++ frame ∷ []) more next.0 in
    (all.0, subst (StandsFor all.0) (append_assoc front (frame ∷ []) more) all.1)

-- what is sent of some frames comes first, whatever frames follow
pub messages_of_a_front : (frames more : List Frame) → (rest : List ℕ)
    × (mtc_of (frames ++ more) ≡ mtc_of frames ++ rest)
messages_of_a_front frames more =
    let all = stands_after None [] frames (λ others. refl) in
    (text_to_come all.0 more, all.1 more)

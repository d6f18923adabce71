-- Calls of a flywheel go on, one after another: what they write are the frames that it gives.
use Rattle.std.proofs.Common.{◌≡◌, Bool, true, false, not, List, [], ◌∷◌, ◌++◌, Option, Some, None}
use Rattle.std.proofs.Common.{refl, sym, ap, subst, ◌∙◌, append_assoc, append-nil}
use Rattle.std.proofs.lemmas.Bool.{false≢true}
use Rattle.std.proofs.lemmas.List.{map-append}
use Rattle.flywheel.specs.declared.frame.Frame.{Frame}
use Rattle.flywheel.specs.declared.heard.HeardWord.{HeardWord}
use Rattle.frame_wheel.specs.Wheel.{HasGivenAll, StandsAfter, StandsFor, WheelState}
use Rattle.tc_c.specs.CFrame.{c_frame}
use Rattle.tc_c.specs.Write.{WheelGoes}
use Rattle.tc_c.specs.declared.frame.TcFrame.{TcFrame}

-- what is not undone is done
pub is_done : (done : Bool) → not done ≡ false → done ≡ true
is_done true e = refl
is_done false e = absurd (false≢true (sym e))

-- a frame more was due
pub frame_on : (a b c : WheelState) (frame : Frame) (result : Option Frame) (written more : List TcFrame)
    → WheelGoes a b [] false written
    → ((words : List HeardWord) (given : List Frame) → StandsFor b words given → StandsAfter c words given result)
    → result ≡ Some frame → more ≡ written ++ c_frame frame ∷ [] → WheelGoes a c [] false more
frame_on a b c frame result written more goes after is longer = (
  goes.0 ++ frame ∷ [],
  longer ∙ ap (λ (l : List TcFrame). l ++ c_frame frame ∷ []) goes.1
      ∙ sym (map-append c_frame goes.0 (frame ∷ [])),
  λ words given h. (
    rw (← append_assoc given goes.0 (frame ∷ []))
        (subst (λ (r : Option Frame). StandsAfter c (words ++ []) (given ++ goes.0) r) is
        (after (words ++ []) (given ++ goes.0) (goes.2 words given h).0)),
    λ done. absurd (false≢true done),
  ),
)

-- and where none was, all was given
pub none_on : (a b c : WheelState) (result : Option Frame) (written : List TcFrame) → WheelGoes a b [] false written
    → ((words : List HeardWord) (given : List Frame) → StandsFor b words given → StandsAfter c words given result)
    → result ≡ None → WheelGoes a c [] true written
none_on a b c result written goes after is = (
  goes.0,
  goes.1,
  λ words given h.
      let all : HasGivenAll c (words ++ []) (given ++ goes.0) =
      subst (λ (r : Option Frame). StandsAfter c (words ++ []) (given ++ goes.0) r) is
      (after (words ++ []) (given ++ goes.0) (goes.2 words given h).0) in
      (all.0, λ done. all),
)

-- then a word was heard
pub word_on : (a b c : WheelState) (word : HeardWord) (frame : Frame) (written more : List TcFrame)
    → WheelGoes a b [] true written
    → ((words : List HeardWord) (given : List Frame) → StandsFor b words given
    → HasGivenAll c (words ++ word ∷ []) (given ++ frame ∷ []))
    → more ≡ written ++ c_frame frame ∷ [] → WheelGoes a c (word ∷ []) true more
word_on a b c word frame written more goes heard longer = (
  goes.0 ++ frame ∷ [],
  longer ∙ ap (λ (l : List TcFrame). l ++ c_frame frame ∷ []) goes.1
      ∙ sym (map-append c_frame goes.0 (frame ∷ [])),
  λ words given h.
      let before : StandsFor b words (given ++ goes.0) =
      subst (λ (ws : List HeardWord). StandsFor b ws (given ++ goes.0)) (append-nil words) (goes.2 words given h).0 in
      let all : HasGivenAll c (words ++ word ∷ []) (given ++ (goes.0 ++ frame ∷ [])) =
      subst (λ (l : List Frame). HasGivenAll c (words ++ word ∷ []) l) (append_assoc given goes.0 (frame ∷ []))
      (heard words (given ++ goes.0) before) in
      (all.0, λ done. all),
)

-- The frames of a word that is heard once: the invented ones, and the end where the next one should have been
-- heard.
use Rattle.std.proofs.Common.{◌≡◌, [], ◌∷◌, false, refl}
use Rattle.tc_address.specs.declared.count.Count.TheVariants.{C25}
use Rattle.tc_address.specs.declared.direction.Direction.TheVariants.{Forward}
use Rattle.tc_address.specs.Label.{address}
use Rattle.flywheel.specs.declared.frame.Frame.TheVariants.{Heard, Invented, Gone}
use Rattle.flywheel.specs.declared.heard.HeardWord.{HeardWord}
use Rattle.flywheel.specs.Frames.{frames, label_after}

word : HeardWord
word = record { label = address C25 10 0 0 0; direction = Forward; tick = 1_000; length = 100 }

heard_once : frames 1 (word ∷ []) 5_000 ≡
    Heard (address C25 10 0 0 0) Forward false 1_000 ∷ Invented (label_after word 1) Forward 1 1_100 ∷ Gone 1_200 ∷ []
unfolding word
heard_once = refl

-- half a length behind its tick a frame is due, and a tick before that it is not
not_due_yet : frames 1 (word ∷ []) 1_149 ≡ Heard (address C25 10 0 0 0) Forward false 1_000 ∷ []
unfolding word
not_due_yet = refl

due : frames 1 (word ∷ []) 1_150 ≡ Heard (address C25 10 0 0 0) Forward false 1_000 ∷ Invented (label_after word 1)
    Forward 1 1_100 ∷ []
unfolding word
due = refl

-- One sample more moves the loudness and the side by their rules.
use Rattle.std.proofs.Common.{◌≡◌, ℕ, ℤ, List, ◌∷◌, Option, ap, ◌∙◌}
use Rattle.path_front.specs.declared.hold.Loudness.{Loudness}
use Rattle.path_front.specs.declared.hold.Side.{Side}
use Rattle.path_front.specs.Hold.{loudness_after, loudness_of, side_by, side_of, threshold_by, HoldState, HoldStandsFor}

abbrev pub hold_of : ℕ → Loudness → Option Side → HoldState
hold_of least loudness side = record { least = least; loudness = loudness; side = side }

pub hold_next : (least : ℕ) (before now : Loudness) (side after : Option Side) (threshold : ℕ) (sample : ℤ)
    (samples : List ℤ)
    → HoldStandsFor (hold_of least before side) samples → now ≡ loudness_after before sample
    → threshold ≡ threshold_by least now → after ≡ side_by threshold side sample
    → HoldStandsFor (hold_of least now after) (sample ∷ samples)
unfolding loudness_of side_of
hold_next least before now side after threshold sample samples stand now_is threshold_is after_is =
    let loud : now ≡ loudness_of (sample ∷ samples) = now_is ∙ ap (λ l. loudness_after l sample) stand.loudness in
    record {
      loudness = loud;
      side = after_is ∙ ap (λ t. side_by t side sample) (threshold_is ∙ ap (threshold_by least) loud)
          ∙ ap (λ s. side_by (threshold_by least (loudness_of (sample ∷ samples))) s sample) stand.side;
    }

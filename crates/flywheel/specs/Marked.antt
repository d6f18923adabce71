-- Invention that is bounded and marked, as it shows in a list of frames.
use Rattle.std.specs.Prelude.{◌≡◌, ℕ, ◌+◌, ◌≤◌, List, [], ◌∷◌, Option, Some, None}
use Rattle.std.specs.List.{flat_map}
use Rattle.tc_address.specs.declared.direction.Direction.{Direction}
use Rattle.tc_address.specs.Label.{Address}
use Rattle.flywheel.specs.declared.heard.HeardWord.{HeardWord}
use Rattle.flywheel.specs.declared.frame.Frame.{Frame}
use Rattle.flywheel.specs.declared.frame.Frame.TheVariants.{Heard, Invented, Gone}

-- frames that follow a word and n invented frames, or no word (at the beginning and after the end of invention):
-- only a word begins, an invented frame has the next step, at most the limit, and invention ends only at the limit
abbrev pub AreMarked : ℕ → Option ℕ → List Frame → Type 0
AreMarked limit since [] = Unit {0}
AreMarked limit since (Heard label direction joined tick ∷ more) = AreMarked limit (Some 0) more
AreMarked limit (Some n) (Invented label direction step tick ∷ more) =
    (step ≡ n + 1) × (step ≤ limit) × AreMarked limit (Some (n + 1)) more
AreMarked limit None (Invented label direction step tick ∷ more) = ⊥
AreMarked limit (Some n) (Gone tick ∷ more) = (n ≡ limit) × AreMarked limit None more
AreMarked limit None (Gone tick ∷ more) = ⊥

-- what a heard frame says of its word: label, direction and tick
abbrev pub told : Frame → List (Address × Direction × ℕ)
told (Heard label direction joined tick) = (label, direction, tick) ∷ []
told (Invented label direction step tick) = []
told (Gone tick) = []

-- the words that stand in the frames as heard
abbrev pub words_in : List Frame → List (Address × Direction × ℕ)
words_in frames = flat_map told frames

-- the label, the direction and the tick of a word
abbrev pub word_of : HeardWord → Address × Direction × ℕ
word_of word = (word.label, word.direction, word.tick)

-- What one more word adds at the end: what follows the word before up to it, the word, and what follows it.
use Rattle.std.proofs.Common.{◌≡◌, ℕ, ◌≤◌, List, [], ◌∷◌, ◌++◌, refl, append_assoc}
use Rattle.flywheel.specs.declared.heard.HeardWord.{HeardWord}
use Rattle.flywheel.specs.Frames.{frames_between, is_joined, heard_as, frames_after, frames}
use Rattle.flywheel.proofs.DueInOrder.{frames_between-own}

-- the frames after a word up to a tick, if `last` is the last of the words after it: those up to the tick of
-- `last`, and what follows `last`
frames_after-last : (limit : ℕ) (word : HeardWord) (more : List HeardWord) (last : HeardWord) (tick : ℕ)
    → 1 ≤ last.length →
    frames_after limit word (more ++ last ∷ []) tick ≡ frames_after limit word (more ++ last ∷ []) last.tick
    ++ frames_between limit last tick
frames_after-last limit word [] last tick h = rw (frames_between-own limit last h) (simp append_assoc)
frames_after-last limit word (next ∷ more) last tick h = rw (frames_after-last limit next more last tick h)
    (simp append_assoc)

-- one word more after `last`
frames_after-next : (limit : ℕ) (word : HeardWord) (more : List HeardWord) (last next : HeardWord) (tick : ℕ) →
    frames_after limit word ((more ++ last ∷ []) ++ next ∷ []) tick
    ≡ frames_after limit word (more ++ last ∷ []) next.tick ++ heard_as (is_joined limit last next) next
    ∷ frames_between limit next tick
frames_after-next limit word [] last next tick = simp append_assoc
frames_after-next limit word (other ∷ more) last next tick = rw (frames_after-next limit other more last next tick)
    (simp append_assoc)

-- the frames of words up to a tick are those up to the last word, and what follows it
pub frames-last : (limit : ℕ) (earlier : List HeardWord) (last : HeardWord) (tick : ℕ) → 1 ≤ last.length →
    frames limit (earlier ++ last ∷ []) tick ≡ frames limit (earlier ++ last ∷ []) last.tick
    ++ frames_between limit last tick
frames-last limit [] last tick h = rw (frames_between-own limit last h) refl
frames-last limit (first ∷ more) last tick h = rw (frames_after-last limit first more last tick h) refl

-- and one word more
pub frames-next : (limit : ℕ) (earlier : List HeardWord) (last next : HeardWord) (tick : ℕ) →
    frames limit ((earlier ++ last ∷ []) ++ next ∷ []) tick
    ≡ frames limit (earlier ++ last ∷ []) next.tick ++ heard_as (is_joined limit last next) next
    ∷ frames_between limit next tick
frames-next limit [] last next tick = simp append_assoc
frames-next limit (first ∷ more) last next tick = rw (frames_after-next limit first more last next tick) refl

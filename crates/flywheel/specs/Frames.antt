-- The frames of the words that were heard up to a tick: each word is heard, and between two neighbouring words, and
-- after the last, frames are invented up to a limit. A word's length is that of a frame. The rule is this project's
-- own.
use Rattle.std.specs.Prelude.{ℕ, ◌+◌, ◌-◌, ◌*◌, Bool, true, false, not, ◌&&◌, nat_le, cond, ℤ, pos, neg_ℤ, List, []}
use Rattle.std.specs.Prelude.{◌∷◌, ◌++◌, length, map}
use Rattle.std.specs.List.{filter, range_with_len}
use Rattle.tc_address.specs.declared.count.Count.{Count}
use Rattle.tc_address.specs.declared.count.Count.TheVariants.{C24, C25, C30, Drop30}
use Rattle.tc_address.specs.declared.direction.Direction.{Direction}
use Rattle.tc_address.specs.declared.direction.Direction.TheVariants.{Forward, Backward}
use Rattle.tc_address.specs.Label.{Address}
use Rattle.tc_address.specs.Numbering.{is_same_time, step}
use Rattle.flywheel.specs.declared.heard.HeardWord.{HeardWord}
use Rattle.flywheel.specs.declared.frame.Frame.{Frame}
use Rattle.flywheel.specs.declared.frame.Frame.TheVariants.{Heard, Invented, Gone}

-- this many labels ahead, or back
abbrev pub steps_in : Direction → ℕ → ℤ
steps_in Forward k = pos k
steps_in Backward k = neg_ℤ (pos k)

-- the label k steps after a word's, in the word's direction
abbrev pub label_after : HeardWord → ℕ → Address
label_after word k = step word.label (steps_in word.direction k)

-- the tick of the k-th frame after a word
abbrev pub tick_after : HeardWord → ℕ → ℕ
tick_after word k = word.tick + k * word.length

-- the k-th frame after a word is due at a tick: the tick lies k and a half lengths or more after the word
abbrev pub is_due : HeardWord → ℕ → ℕ → Bool
is_due word k tick = nat_le ((2 * k + 1) * word.length) (2 * (tick - word.tick))

-- the steps that are due at a tick, of those up to the limit
abbrev pub due_steps : ℕ → HeardWord → ℕ → List ℕ
due_steps limit word tick = filter (λ k. is_due word k tick) (range_with_len 1 limit)

-- more is due than the limit
abbrev pub is_gone : ℕ → HeardWord → ℕ → Bool
is_gone limit word tick = is_due word (limit + 1) tick

-- the frame that is invented for the k-th after a word
abbrev pub invented_after : HeardWord → ℕ → Frame
invented_after word k = Invented (label_after word k) word.direction k (tick_after word k)

-- what follows a word up to a tick, where no other word is heard: the invented frames, and where more is due than the
-- limit, the end
abbrev pub frames_between : ℕ → HeardWord → ℕ → List Frame
frames_between limit word tick =
    map (invented_after word) (due_steps limit word tick)
    ++ cond (is_gone limit word tick) (Gone (tick_after word (limit + 1)) ∷ []) []

-- two directions are the same
abbrev pub is_same_direction : Direction → Direction → Bool
is_same_direction Forward Forward = true
is_same_direction Forward Backward = false
is_same_direction Backward Forward = false
is_same_direction Backward Backward = true

-- two counts are the same
abbrev pub is_same_count : Count → Count → Bool
is_same_count C24 C24 = true
is_same_count C25 C25 = true
is_same_count C30 C30 = true
is_same_count Drop30 Drop30 = true
is_same_count a b = false

-- two labels are the same
abbrev pub is_same_label : Address → Address → Bool
is_same_label a b = is_same_count a.count b.count && is_same_time a b

-- a word has the direction of the word before, and the count and label that lie k steps after it
abbrev pub is_next : HeardWord → ℕ → HeardWord → Bool
is_next before k word =
    is_same_direction before.direction word.direction && is_same_label (label_after before k) word.label

-- a word joins the word before: what was due between them is within the limit, and the word is the next after it
abbrev pub is_joined : ℕ → HeardWord → HeardWord → Bool
is_joined limit before word =
    not (is_gone limit before word.tick) && is_next before (length (due_steps limit before word.tick) + 1) word

-- a word as a frame
abbrev pub heard_as : Bool → HeardWord → Frame
heard_as joined word = Heard word.label word.direction joined word.tick

-- what follows a word, where these words are heard after it and the last tick is `last`
abbrev pub frames_after : ℕ → HeardWord → List HeardWord → ℕ → List Frame
frames_after limit word [] last = frames_between limit word last
frames_after limit word (next ∷ more) last =
    frames_between limit word next.tick ++ heard_as (is_joined limit word next) next ∷ frames_after limit next more last

-- the frames of the words, with the last tick `last`: the first word joins none
abbrev pub frames : ℕ → List HeardWord → ℕ → List Frame
frames limit [] last = []
frames limit (word ∷ more) last = heard_as false word ∷ frames_after limit word more last

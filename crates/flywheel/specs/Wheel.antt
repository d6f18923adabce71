-- What a flywheel is seen as, and what it keeps.
use Rattle.std.specs.Prelude.{◌≡◌, ℕ, ◌+◌, ◌-◌, ◌/◌, ◌^◌, ◌<◌, ◌≤◌, Bool, false, Option, Some, None}
use Rattle.flywheel.specs.declared.heard.HeardWord.{HeardWord}
use Rattle.flywheel.specs.declared.frame.Frame.{Frame}
use Rattle.flywheel.specs.declared.frame.Frame.TheVariants.{Heard, Invented, Gone}
use Rattle.flywheel.specs.Frames.{tick_after, is_due, is_next}

-- its limit, the last word heard, unless the flywheel is still, and how many frames were invented since
pub record Wheel : Type 0 where
  pub limit : ℕ
  pub reference : Option HeardWord
  pub invented : ℕ

-- a flywheel, by its parts
abbrev pub wheel_of : ℕ → Option HeardWord → ℕ → Wheel
wheel_of limit reference invented = record { limit = limit; reference = reference; invented = invented }

-- it has no reference
abbrev pub still : ℕ → Wheel
still limit = wheel_of limit None 0

-- it has invented this many frames since the word
abbrev pub running : ℕ → HeardWord → ℕ → Wheel
running limit word invented = wheel_of limit (Some word) invented

-- how many frames may still be given before the next word: those up to the limit, and the end
abbrev pub left_after : ℕ → Option HeardWord → ℕ → ℕ
left_after limit None invented = 0
left_after limit (Some word) invented = limit + 1 - invented

-- how many frames a flywheel may still give before the next word
abbrev pub frames_left : Wheel → ℕ
frames_left wheel = left_after wheel.limit wheel.reference wheel.invented

-- the next frame after a reference is due at a tick
abbrev pub is_next_due : Option HeardWord → ℕ → ℕ → Bool
is_next_due None invented tick = false
is_next_due (Some word) invented tick = is_due word (invented + 1) tick

-- a frame is due at a tick
abbrev pub has_frame_due : Wheel → ℕ → Bool
has_frame_due wheel tick = is_next_due wheel.reference wheel.invented tick

-- a word goes on where the reference leads
abbrev pub is_next_of : Option HeardWord → ℕ → HeardWord → Bool
is_next_of None invented word = false
is_next_of (Some before) invented word = is_next before (invented + 1) word

-- a word goes on where the flywheel leads, one step after its last invented frame
abbrev pub goes_on_with : Wheel → HeardWord → Bool
goes_on_with wheel word = is_next_of wheel.reference wheel.invented word

-- the numbers of a word that a flywheel takes
pub record IsInRange (word : HeardWord) : Type 0 where
  pub tick : word.tick < 2 ^ 60
  pub least : 1 ≤ word.length
  pub most : word.length < 2 ^ 32

-- the tick of a frame that is given is not past the tick at which it is due, and its step is one of the limit
abbrev pub IsPast : Frame → ℕ → Type 0
IsPast (Heard label direction joined t) tick = ⊥
IsPast (Invented label direction step t) tick = (t ≤ tick) × (step ≤ 255)
IsPast (Gone t) tick = t ≤ tick

-- the first tick at which the k-th frame after a word is due; no promise speaks of it
abbrev pub due_tick : HeardWord → ℕ → ℕ
due_tick word k = tick_after word k + (word.length + 1) / 2

-- the tick that is kept is the first at which the next frame is due, and past all ticks where there is no reference
abbrev pub IsFirstDue : Option HeardWord → ℕ → ℕ → Type 0
IsFirstDue None invented tick = (invented ≡ 0) × (tick ≡ 2 ^ 64 - 1)
IsFirstDue (Some word) invented tick = IsInRange word × (tick ≡ due_tick word (invented + 1))

-- what a flywheel keeps fits together
pub record KeepsTime (limit : ℕ) (reference : Option HeardWord) (invented : ℕ) (due_from : ℕ) : Type 0 where
  pub within : invented ≤ limit
  pub most : limit ≤ 255
  pub due : IsFirstDue reference invented due_from

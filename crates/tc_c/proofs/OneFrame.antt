-- Numbers mean one frame at most, of the kind that they say, and one word; and those of a frame mean it.
use Rattle.std.proofs.Common.{◌≡◌, ℕ, zero, suc, Bool, true, false, Option, Some, refl, sym, ap, ◌∙◌, arith}
use Rattle.flywheel.specs.declared.frame.Frame.{Frame}
use Rattle.flywheel.specs.declared.heard.HeardWord.{HeardWord}
use Rattle.flywheel.specs.declared.frame.Frame.TheVariants.{Heard, Invented, Gone}
use Rattle.tc_address.specs.declared.direction.Direction.{Direction}
use Rattle.tc_address.specs.declared.direction.Direction.TheVariants.{Forward, Backward}
use Rattle.tc_address.specs.Label.{Address, IsLabel}
use Rattle.tc_c.specs.CEvent.{bit, direction_number}
use Rattle.tc_c.specs.CFrame.{c_frame, HasLabel, MeansFrame, MeansHeard}
use Rattle.tc_c.specs.CLabel.{c_label, MeansLabel}
use Rattle.tc_c.specs.declared.frame.TcFrame.{TcFrame}
use Rattle.tc_c.specs.declared.heard.TcHeard.{TcHeard}
use Rattle.tc_c.proofs.OneWord.{one_label}

-- of numbers that say a heard frame, it is enough to look at heard ones
pub only_heard : (n : TcFrame) (f : Frame) (result : Option Frame) → n.kind ≡ 1
    → ((a : Address) (d : Direction) (joined : Bool) (tick : ℕ) → MeansFrame n (Heard a d joined tick)
    → result ≡ Some (Heard a d joined tick)) → MeansFrame n f → result ≡ Some f
only_heard n (Heard a d joined tick) result kind says means = says a d joined tick means
only_heard n (Invented a d step tick) result kind says means =
    let other = means.0.kind_is in absurd (omega (arith, kind, other))
only_heard n (Gone tick) result kind says means = let other = means.0.kind_is in absurd (omega (arith, kind, other))

-- and so on of an invented one
pub only_invented : (n : TcFrame) (f : Frame) (result : Option Frame) → n.kind ≡ 2
    → ((a : Address) (d : Direction) (step tick : ℕ) → MeansFrame n (Invented a d step tick)
    → result ≡ Some (Invented a d step tick)) → MeansFrame n f → result ≡ Some f
only_invented n (Heard a d joined tick) result kind says means =
    let other = means.0.kind_is in absurd (omega (arith, kind, other))
only_invented n (Invented a d step tick) result kind says means = says a d step tick means
only_invented n (Gone tick) result kind says means =
    let other = means.0.kind_is in absurd (omega (arith, kind, other))

-- and of the end
pub only_gone : (n : TcFrame) (f : Frame) (result : Option Frame) → n.kind ≡ 3
    → ((tick : ℕ) → MeansFrame n (Gone tick) → result ≡ Some (Gone tick)) → MeansFrame n f → result ≡ Some f
only_gone n (Heard a d joined tick) result kind says means =
    let other = means.0.kind_is in absurd (omega (arith, kind, other))
only_gone n (Invented a d step tick) result kind says means =
    let other = means.0.kind_is in absurd (omega (arith, kind, other))
only_gone n (Gone tick) result kind says means = says tick means

abbrev direction_at : ℕ → Direction
direction_at zero = Forward
direction_at (suc n) = Backward

direction_back : (d : Direction) → direction_at (direction_number d) ≡ d
direction_back Forward = refl
direction_back Backward = refl

same_direction : (d e : Direction) (n : ℕ) → direction_number d ≡ n → direction_number e ≡ n → d ≡ e
same_direction d e n p q = sym (direction_back d) ∙ ap direction_at (p ∙ sym q) ∙ direction_back e

abbrev flag_at : ℕ → Bool
flag_at zero = false
flag_at (suc n) = true

flag_back : (b : Bool) → flag_at (bit b) ≡ b
flag_back true = refl
flag_back false = refl

same_flag : (b c : Bool) (n : ℕ) → bit b ≡ n → bit c ≡ n → b ≡ c
same_flag b c n p q = sym (flag_back b) ∙ ap flag_at (p ∙ sym q) ∙ flag_back c

same_heard : (a b : Address) (d e : Direction) (i j : Bool) (s t : ℕ) → a ≡ b → d ≡ e → i ≡ j → s ≡ t
    → Heard a d i s ≡ Heard b e j t
same_heard a b d e i j s t ea ed ei es = cc

same_invented : (a b : Address) (d e : Direction) (i j s t : ℕ) → a ≡ b → d ≡ e → i ≡ j → s ≡ t
    → Invented a d i s ≡ Invented b e j t
same_invented a b d e i j s t ea ed ei es = cc

-- a word that was heard, by its parts
abbrev heard_with : Address → Direction → ℕ → ℕ → HeardWord
heard_with label direction tick length =
    record { label = label; direction = direction; tick = tick; length = length }

same_word : (a b : Address) (d e : Direction) (s t i j : ℕ) → a ≡ b → d ≡ e → s ≡ t → i ≡ j
    → heard_with a d s i ≡ heard_with b e t j
same_word a b d e s t i j ea ed es ei = cc

-- numbers mean one word that was heard at most
pub one_heard : (n : TcHeard) (v w : HeardWord) → MeansHeard n v → MeansHeard n w → v ≡ w
one_heard n v w p q = same_word v.label w.label v.direction w.direction v.tick w.tick v.length w.length
    (one_label n.label v.label w.label p.label q.label)
    (same_direction v.direction w.direction n.direction p.direction q.direction) (p.tick ∙ sym q.tick)
    (p.length ∙ sym q.length)

-- numbers mean one frame at most
pub one_frame : (n : TcFrame) (f g : Frame) → MeansFrame n f → MeansFrame n g → f ≡ g
one_frame n (Heard a d i s) (Heard b e j t) p q = same_heard a b d e i j s t (one_label n.label a b p.1 q.1)
    (same_direction d e n.direction p.0.direction_is q.0.direction_is)
    (same_flag i j n.joined p.0.joined_is q.0.joined_is) (p.0.tick_is ∙ sym q.0.tick_is)
one_frame n (Invented a d i s) (Invented b e j t) p q =
    same_invented a b d e i j s t (one_label n.label a b p.1 q.1)
    (same_direction d e n.direction p.0.direction_is q.0.direction_is) (p.0.step_is ∙ sym q.0.step_is)
    (p.0.tick_is ∙ sym q.0.tick_is)
one_frame n (Gone s) (Gone t) p q = ap (λ (tick : ℕ). Gone tick) (p.0.tick_is ∙ sym q.0.tick_is)
one_frame n (Heard a d i s) (Invented b e j t) p q =
    let one = p.0.kind_is in let other = q.0.kind_is in absurd (omega (arith, one, other))
one_frame n (Heard a d i s) (Gone t) p q =
    let one = p.0.kind_is in let other = q.0.kind_is in absurd (omega (arith, one, other))
one_frame n (Invented a d i s) (Heard b e j t) p q =
    let one = p.0.kind_is in let other = q.0.kind_is in absurd (omega (arith, one, other))
one_frame n (Invented a d i s) (Gone t) p q =
    let one = p.0.kind_is in let other = q.0.kind_is in absurd (omega (arith, one, other))
one_frame n (Gone s) (Heard b e j t) p q =
    let one = p.0.kind_is in let other = q.0.kind_is in absurd (omega (arith, one, other))
one_frame n (Gone s) (Invented b e j t) p q =
    let one = p.0.kind_is in let other = q.0.kind_is in absurd (omega (arith, one, other))

label_means : (a : Address) → IsLabel a → MeansLabel (c_label a) a
label_means a label =
    record { label = label; count = refl; hours = refl; minutes = refl; seconds = refl; frames = refl }

-- the numbers of a frame mean it
pub frame_means : (f : Frame) → HasLabel f → MeansFrame (c_frame f) f
frame_means (Heard a d joined tick) label = (
  record { kind_is = refl; direction_is = refl; joined_is = refl; step_is = refl; tick_is = refl; zero = refl },
  label_means a label,
)
frame_means (Invented a d step tick) label = (
  record { kind_is = refl; direction_is = refl; joined_is = refl; step_is = refl; tick_is = refl; zero = refl },
  label_means a label,
)
frame_means (Gone tick) label = (
  record { kind_is = refl; direction_is = refl; joined_is = refl; step_is = refl; tick_is = refl; zero = refl },
  refl,
)

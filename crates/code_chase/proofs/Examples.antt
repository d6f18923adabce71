-- The first slips of three seeds, worked out by Python's whole numbers.
use Rattle.std.proofs.Common.{◌≡◌, inl, inr, ℕ, zero, suc, pos, neg_ℤ, true, false, Some, List, [], ◌∷◌, refl, subst}
use Rattle.generator.specs.Draw.{drawn}
use Rattle.tc_address.specs.declared.count.Count.TheVariants.{C25}
use Rattle.tc_address.specs.declared.direction.Direction.TheVariants.{Forward}
use Rattle.tc_address.specs.Label.{Address, address}
use Rattle.flywheel.specs.declared.frame.Frame.{Frame}
use Rattle.flywheel.specs.declared.frame.Frame.TheVariants.{Heard, Invented}
use Rattle.code_chase.specs.CodeTrace.{slip_of}
use Rattle.code_chase.specs.Lock.{AreWhole, BringsNoCode, IsApart}

of_none : slip_of 8 (drawn 0) ≡ neg_ℤ (pos 7)
of_none = refl

of_none_again : slip_of 8 (drawn (drawn 0)) ≡ pos 0
of_none_again = refl

of_one : slip_of 8 (drawn 1) ≡ neg_ℤ (pos 7)
of_one = refl

of_the_last : slip_of 8 (drawn 18_446_744_073_709_551_615) ≡ pos 2
of_the_last = refl

-- the widest bound
widest_of_none : slip_of 1_000 (drawn 0) ≡ pos 874
widest_of_none = refl

widest_of_one : slip_of 1_000 (drawn 1) ≡ neg_ℤ (pos 416)
widest_of_one = refl

-- ---- frames that go on: one is heard, one invented, and one heard that joins

one_of : (frame other : Frame) → Some frame ≡ Some other → (¬ BringsNoCode C25 frame) × (¬ IsApart frame)
    → (¬ BringsNoCode C25 other) × (¬ IsApart other)
one_of frame other same is =
    let here : frame ≡ other = cc in subst (λ (f : Frame). (¬ BringsNoCode C25 f) × (¬ IsApart f)) here is

label_at : ℕ → Address
label_at frames = address C25 1 0 0 frames

frames_that_go_on : List Frame
frames_that_go_on =
    Heard (label_at 0) Forward false 1_920 ∷ Invented (label_at 1) Forward 1 3_840
    ∷ Heard (label_at 2) Forward true 5_760 ∷ []

none_is_apart : AreWhole C25 frames_that_go_on
unfolding frames_that_go_on label_at
none_is_apart zero frame is = one_of (Invented (label_at 1) Forward 1 3_840) frame is (brings_code, λ apart. apart)
  where
    brings_code : ¬ BringsNoCode C25 (Invented (label_at 1) Forward 1 3_840)
    brings_code (inl gone) = gone
    brings_code (inr other) = other refl
none_is_apart (suc zero) frame is = one_of (Heard (label_at 2) Forward true 5_760) frame is
    (brings_code, λ apart. absurd cc)
  where
    brings_code : ¬ BringsNoCode C25 (Heard (label_at 2) Forward true 5_760)
    brings_code (inl gone) = gone
    brings_code (inr other) = other refl
none_is_apart (suc (suc i)) frame is = absurd cc

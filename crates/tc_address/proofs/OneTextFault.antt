-- A text has one first fault at most: of two wrong places the lower one is first, and the faults of an address
-- exclude each other.
use Rattle.std.proofs.Common.{◌≡◌, ℕ, ◌<◌, List, length, refl, sym, ◌∙◌, ap, arith}
use Rattle.std.proofs.lemmas.Bool.{false≢true}
use Rattle.tc_address.specs.declared.count.Count.{Count}
use Rattle.tc_address.specs.declared.label.LabelFault.{LabelFault}
use Rattle.tc_address.specs.declared.spelling.TextFault.{TextFault}
use Rattle.tc_address.specs.declared.spelling.TextFault.TheVariants as faults
use Rattle.tc_address.specs.Label.{Address, IsFirstFault}
use Rattle.tc_address.specs.Spelling.{IsFirstTextFault, IsFirstWrongPlace, IsGoodBelow}
use Rattle.tc_address.specs.declared.label.LabelFault.TheVariants.{Hours, Minutes, Seconds, Frames, Dropped}

-- of two faults of an address, each is the first
one_fault : (a : Address) (f g : LabelFault) → IsFirstFault f a → IsFirstFault g a → f ≡ g
one_fault a Hours Hours p q = refl
one_fault a Hours Minutes p q = absurd (omega (arith, p, q.0))
one_fault a Hours Seconds p q = absurd (omega (arith, p, q.0))
one_fault a Hours Frames p q = absurd (omega (arith, p, q.0))
one_fault a Hours Dropped p q = absurd (omega (arith, p, q.0))
one_fault a Minutes Hours p q = absurd (omega (arith, q, p.0))
one_fault a Minutes Minutes p q = refl
one_fault a Minutes Seconds p q = absurd (omega (arith, p.1, q.1))
one_fault a Minutes Frames p q = absurd (omega (arith, p.1, q.1))
one_fault a Minutes Dropped p q = absurd (omega (arith, p.1, q.1))
one_fault a Seconds Hours p q = absurd (omega (arith, q, p.0))
one_fault a Seconds Minutes p q = absurd (omega (arith, q.1, p.1))
one_fault a Seconds Seconds p q = refl
one_fault a Seconds Frames p q = absurd (omega (arith, p.2, q.2))
one_fault a Seconds Dropped p q = absurd (omega (arith, p.2, q.2))
one_fault a Frames Hours p q = absurd (omega (arith, q, p.0))
one_fault a Frames Minutes p q = absurd (omega (arith, q.1, p.1))
one_fault a Frames Seconds p q = absurd (omega (arith, q.2, p.2))
one_fault a Frames Frames p q = refl
one_fault a Frames Dropped p q = absurd (omega (arith, p.3, q.3))
one_fault a Dropped Hours p q = absurd (omega (arith, q, p.0))
one_fault a Dropped Minutes p q = absurd (omega (arith, q.1, p.1))
one_fault a Dropped Seconds p q = absurd (omega (arith, q.2, p.2))
one_fault a Dropped Frames p q = absurd (omega (arith, q.3, p.3))
one_fault a Dropped Dropped p q = refl

-- a wrong place is not below another that is the first
not_below : (c : Count) (text : List ℕ) (p q : ℕ) → IsFirstWrongPlace c text p → IsFirstWrongPlace c text q → p < q → ⊥
not_below c text p q first second below = false≢true (sym first.wrong ∙ second.before p below)

one_place : (c : Count) (text : List ℕ) (p q : ℕ) → IsFirstWrongPlace c text p → IsFirstWrongPlace c text q → p ≡ q
one_place c text p q first second =
    let up = not_below c text p q first second in
    let down = not_below c text q p second first in
    grind (arith, up, down)

-- a wrong place is not among eleven good ones
not_good : (c : Count) (text : List ℕ) (p : ℕ) → length text ≡ 11 → IsFirstWrongPlace c text p → IsGoodBelow c text 11
    → ⊥
not_good c text p eleven first well = let within = first.within in false≢true (sym first.wrong ∙ well p (omega arith))

pub one_text_fault : (c : Count) (text : List ℕ) (f g : TextFault) → IsFirstTextFault c text f
    → IsFirstTextFault c text g → f ≡ g
one_text_fault c text faults.Length faults.Length p q = refl
one_text_fault c text faults.Length (faults.Byte place) p q = absurd (p q.0)
one_text_fault c text faults.Length (faults.Label fault) p q = absurd (p q.0)
one_text_fault c text (faults.Byte place) faults.Length p q = absurd (q p.0)
one_text_fault c text (faults.Byte a) (faults.Byte b) p q =
    ap (λ (place : ℕ). faults.Byte place) (one_place c text a b p.1 q.1)
one_text_fault c text (faults.Byte a) (faults.Label fault) p q = absurd (not_good c text a p.0 p.1 q.1)
one_text_fault c text (faults.Label fault) faults.Length p q = absurd (q p.0)
one_text_fault c text (faults.Label fault) (faults.Byte b) p q = absurd (not_good c text b q.0 q.1 p.1)
one_text_fault c text (faults.Label f) (faults.Label g) p q = ap (λ (fault : LabelFault). faults.Label fault)
    (one_fault _ f g p.2 q.2)

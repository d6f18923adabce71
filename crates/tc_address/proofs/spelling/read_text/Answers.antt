use Rattle.std.proofs.Common.{◌≡◌, length, ◌∙◌, sym, ap, subst, arith}
use Rattle.tc_address.specs.Label.{IsLabel}
use Rattle.tc_address.specs.Spelling.{text_of, address_in, IsGoodBelow}
use Rattle.tc_address.proofs.OneSpelling.{no_wrong_place, text_of-address_in, label_in-text_of, label_in-none}
use Rattle.tc_address.proofs.spelling.read_text.Goals as goal

-- the text of a label has no wrong place
pub returns-in-Some-clause-only : goal.returns-in-Some-clause-only
returns-in-Some-clause-only c =
    λ label l e t. absurd (no_wrong_place _ _ c.in-Some.place label l e t c.in-Some.ensures.some)

-- the text is that of the address that its bytes say, which is the label
pub returns-clause-reads : goal.returns-clause-reads
returns-clause-reads c =
    let parts = c.in_ok-label.ensures.reads in
    let len : length c.args.text.now ≡ 11 = omega arith in
    let good : IsGoodBelow c.args.count c.args.text.now 11 = λ k h. c.in_default.ensures.none k (omega (arith, len)) in
    let same : c.in_ok-label.label ≡ address_in c.args.count c.args.text.now =
    rw (c.number_at.ensures, c.number_at-2.ensures, c.number_at-3.ensures, c.number_at-4.ensures) at parts.0 in
    let back : text_of c.in_ok-label.label ≡ c.args.text.now = ap text_of same ∙ text_of-address_in _ _ len good in
    (sym back, ap (λ a. a.count) same, subst IsLabel (sym parts.0) parts.1)

-- a text with a wrong place is no label's text
pub returns-in-Some-clause-spelled : goal.returns-in-Some-clause-spelled
returns-in-Some-clause-spelled c =
    label_in-none _ _ (λ a l e t. no_wrong_place _ _ c.in-Some.place a l e t c.in-Some.ensures.some)

pub returns-clause-spelled : goal.returns-clause-spelled
returns-clause-spelled c = let read = returns-clause-reads c in label_in-text_of _ _ _ read.2 read.1 read.0

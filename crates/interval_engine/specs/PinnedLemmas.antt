-- What names one text behind a header names one of a recording, which has one header. No promise speaks of these
-- lemmas,
-- which the crates of the commands cite.
use Rattle.std.proofs.Common.{◌≡◌, Some, subst}
use Rattle.interval_file.specs.declared.header.IntervalHeader.{IntervalHeader}
use Rattle.interval_file.specs.Recording.{Recording}

pub one_header : (r : Recording) (a b : IntervalHeader) → r.header ≡ Some a → r.header ≡ Some b → a ≡ b
one_header r a b p q = cc

-- of which there is one behind a header, there is one behind two headers that are one
pub one_behind : {T : Type 0} (Is : IntervalHeader → T → Type 0)
    → ((header : IntervalHeader) (x y : T) → Is header x → Is header y → x ≡ y)
    → (a b : IntervalHeader) (x y : T) → a ≡ b → Is a x → Is b y → x ≡ y
one_behind {T} Is one a b x y same first second =
    one b x y (subst (λ (h : IntervalHeader). Is h x) same first) second

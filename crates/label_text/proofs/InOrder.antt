-- Bytes are read in their order: what more bytes say follows what some said, and nothing follows a fault or the limit.
use Rattle.std.proofs.Common.{◌≡◌, ℕ, List, [], ◌∷◌, ◌++◌, refl, ap}
use Rattle.tc_address.specs.Label.{Address}
use Rattle.tc_io.specs.Verdict.{Verdict, good, past_limit, refused}
use Rattle.label_text.specs.declared.fault.LineFault.{LineFault}
use Rattle.label_text.specs.declared.reader.LineRead.{LineRead}
use Rattle.label_text.specs.declared.reader.LineRead.TheVariants.{Nothing, Label, Fault, Limit}
use Rattle.label_text.specs.LabelText.{Place, Reading, after, reading_from, said_by, then_read, with_labels}

-- ---- good bytes

-- a label in front of what follows in order
in_front : (label : Address) (r more all : Reading) → all ≡ with_labels r.labels more
    → with_labels (label ∷ []) all ≡ with_labels (with_labels (label ∷ []) r).labels more
in_front label r more all is = ap (with_labels (label ∷ [])) is

pub good_goes_on : (p : Place) (front more : List ℕ) → (reading_from p front).verdict ≡ good
    → reading_from p (front ++ more)
    ≡ with_labels (reading_from p front).labels (reading_from (reading_from p front).place more)
unfolding reading_from
good_goes_on p [] more good_so_far = refl
good_goes_on p (byte ∷ front) more good_so_far =
    by_said (said_by p byte) (good_goes_on (after (said_by p byte) byte p) front more) good_so_far
  where
    next : Place
    next = after (said_by p byte) byte p

    by_said : (said : LineRead)
        → ((reading_from next front).verdict ≡ good → reading_from next (front ++ more)
        ≡ with_labels (reading_from next front).labels (reading_from (reading_from next front).place more))
        → (then_read p said (reading_from next front)).verdict ≡ good
        → then_read p said (reading_from next (front ++ more))
        ≡ with_labels (then_read p said (reading_from next front)).labels
        (reading_from (then_read p said (reading_from next front)).place more)
    by_said Nothing behind is = behind is
    by_said (Label label) behind is =
        let rest = reading_from (reading_from next front).place more in
        in_front label (reading_from next front) rest (reading_from next (front ++ more)) (behind is)
    by_said (Fault fault) behind is = absurd cc
    by_said Limit behind is = absurd cc

-- ---- a fault and the limit

-- what stops at other bytes than good ones stays
pub stopped_stays : (p : Place) (front more : List ℕ) → ((reading_from p front).verdict ≡ good → ⊥)
    → reading_from p (front ++ more) ≡ reading_from p front
unfolding reading_from
stopped_stays p [] more stopped = absurd (stopped refl)
stopped_stays p (byte ∷ front) more stopped =
    by_said (said_by p byte) (stopped_stays (after (said_by p byte) byte p) front more) stopped
  where
    next : Place
    next = after (said_by p byte) byte p

    by_said : (said : LineRead)
        → (((reading_from next front).verdict ≡ good → ⊥) → reading_from next (front ++ more) ≡ reading_from next front)
        → ((then_read p said (reading_from next front)).verdict ≡ good → ⊥)
        → then_read p said (reading_from next (front ++ more)) ≡ then_read p said (reading_from next front)
    by_said Nothing behind is = behind is
    by_said (Label label) behind is = ap (with_labels (label ∷ [])) (behind is)
    by_said (Fault fault) behind is = refl
    by_said Limit behind is = refl

pub not_good : (v : Verdict LineFault) (fault : LineFault) → v ≡ refused fault → v ≡ good → ⊥
not_good good fault is other = absurd cc
not_good (refused f) fault is other = absurd cc
not_good past_limit fault is other = absurd cc

pub limit_not_good : (v : Verdict LineFault) → v ≡ past_limit → v ≡ good → ⊥
limit_not_good good is other = absurd cc
limit_not_good (refused f) is other = absurd cc
limit_not_good past_limit is other = absurd cc

-- The label that has a number in its day, where its digits say the number.
use Rattle.std.proofs.Common.{◌≡◌, ℕ, ◌+◌, ◌*◌, ◌<◌, ◌≤◌, true, Option, Some, None, slice_get, refl, sym, ap}
use Rattle.std.proofs.Common.{◌∙◌, arith}
use Rattle.tc_address.specs.declared.count.Count.{Count}
use Rattle.tc_address.specs.declared.count.Count.TheVariants.{C24, C25, C30, Drop30}
use Rattle.tc_address.specs.Count.{rate_of, system_with}
use Rattle.tc_address.specs.DropFrame.{dropped_before}
use Rattle.tc_address.specs.Label.{Address, address, IsLabel, is_label, labels}
use Rattle.tc_address.specs.LabelLemmas.{label_by_test}
use Rattle.tc_address.specs.Numbering.{day_length, number_of}
use Rattle.forms.specs.Choice.{choices, said_by}
use Rattle.forms.specs.Form.{form_of, forms}
use Rattle.forms.specs.Lines.{between_spaces}
use Rattle.forms.specs.Made.{task_in}
use Rattle.forms.specs.Named.{task_of}
use Rattle.forms.specs.Number.{number_spelled}
use Rattle.forms.specs.NumberedLines.{NameNoLabel, NameTheirLabels, lines_past, numbered_lines}
use Rattle.forms.specs.Reading.{read_on}
use Rattle.forms.specs.Slot.{numbered}

-- a label stands at its number
abbrev StandsAtNumber : Type 0
StandsAtNumber = (a : Address) → IsLabel a → slice_get (labels a.count) (number_of a) ≡ Some a

-- which number that is
abbrev frames_before : Address → ℕ
frames_before a = rate_of (system_with a.count) * (60 * (60 * a.hours + a.minutes) + a.seconds) + a.frames

abbrev dropped : Address → ℕ
dropped a = dropped_before a.count (60 * a.hours + a.minutes)

abbrev HasNumber : Type 0
HasNumber = (a : Address) → IsLabel a → number_of a + dropped a ≡ frames_before a

labelled : StandsAtNumber → HasNumber → (a : Address) (n : ℕ) → is_label a ≡ true → n + dropped a ≡ frames_before a
    → slice_get (labels a.count) n ≡ Some a
labelled stands has a n test e =
    let label : IsLabel a = label_by_test a test in
    let same : number_of a ≡ n = omega (arith, has a label, e) in
    ap (slice_get (labels a.count)) (sym same) ∙ stands a label

-- what stands at a number has it
abbrev IsNumbered : Type 0
IsNumbered = (c : Count) (n : ℕ) (a : Address) → slice_get (labels c) n ≡ Some a
    → (number_of a ≡ n) × (a.count ≡ c) × IsLabel a

abbrev IsBelow : Type 0
IsBelow = (a : Address) → IsLabel a → number_of a < day_length a.count

none_if : IsNumbered → IsBelow → (c : Count) (n : ℕ) (o : Option Address) → day_length c ≤ n
    → slice_get (labels c) n ≡ o → o ≡ None
none_if is below c n None past e = refl
none_if is below c n (Some a) past e =
    let found = is c n a e in
    let day : day_length a.count ≡ day_length c = ap day_length found.1 in
    absurd (omega (arith, found.0, below a found.2, day, past))

none_past : IsNumbered → IsBelow → (c : Count) (n : ℕ) → day_length c ≤ n → slice_get (labels c) n ≡ None
none_past is below c n past = none_if is below c n (slice_get (labels c) n) past refl

-- ---- the lines, by computing, with what stands at each number

pub lines_name_their_labels : StandsAtNumber → HasNumber → NameTheirLabels numbered_lines
unfolding between_spaces task_of form_of forms choices said_by read_on number_spelled numbered task_in
lines_name_their_labels stands has =
    let at = labelled stands has in (
      rw (at (address C24 0 0 0 0) 0 refl refl) refl,
      (
        rw (at (address C24 23 59 59 23) 2073599 refl refl) refl,
        (
          rw (at (address C25 0 0 3 15) 90 refl refl) refl,
          (
            rw (at (address C25 23 59 59 24) 2159999 refl refl) refl,
            (
              rw (at (address C30 0 1 0 0) 1800 refl refl) refl,
              (
                rw (at (address C30 23 59 59 29) 2591999 refl refl) refl,
                (
                  rw (at (address Drop30 0 1 0 2) 1800 refl refl) refl,
                  (rw (at (address Drop30 23 59 59 29) 2589407 refl refl) refl, tt),
                ),
              ),
            ),
          ),
        ),
      ),
    )

pub past_lines_name_none : IsNumbered → IsBelow → NameNoLabel lines_past
unfolding between_spaces task_of form_of forms choices said_by read_on number_spelled numbered
past_lines_name_none is below =
    let past = none_past is below in (
      rw (past C24 2073600 (omega arith)) refl,
      (
        rw (past C25 2160000 (omega arith)) refl,
        (
          rw (past C30 2592000 (omega arith)) refl,
          (rw (past Drop30 2589408 (omega arith)) refl, tt),
        ),
      ),
    )

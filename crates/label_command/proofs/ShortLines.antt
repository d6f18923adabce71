-- A line is judged by its first twelve bytes: one that is longer than a label says none, at a column that these show.
use Rattle.std.proofs.Common.{◌≡◌, ℕ, zero, suc, ◌+◌, ◌≤◌, Bool, true, false, List, [], ◌∷◌, length, take}
use Rattle.std.proofs.Common.{inl, inr, refl, sym, ap, ap₂, ◌∙◌, subst, arith, max}
use Rattle.std.specs.Prelude.{if◌then◌else◌, Option, Some, None, Result, Ok, Err, slice_get}
use Rattle.std.specs.List.{AllByRecursion}
use Rattle.std.specs.Str.{bytes_eq}
use Rattle.std.specs.Str.Parse.{digits_value}
use Rattle.std.proofs.lemmas.Bool.{and_parts, cases_lt}
use Rattle.std.proofs.lemmas.Bool.Decides.{nat_tests}
use Rattle.std.proofs.lemmas.List.{length-take, take_all}
use Rattle.std.proofs.lemmas.Option.{cond_some}
use Rattle.real_time.specs.Moment.{frame_at}
use Rattle.tc_address.specs.declared.count.Count.{Count}
use Rattle.tc_address.specs.declared.count.Count.TheVariants.{C24, C25, C30, Drop30}
use Rattle.tc_address.specs.Label.{Address, IsLabel, is_label, labels}
use Rattle.tc_address.specs.Numbering.{number_of}
use Rattle.tc_address.specs.Spelling.{address_in, label_in, text_of}
use Rattle.label_lines.specs.declared.timebase.Timebase.{Timebase}
use Rattle.label_lines.specs.Forms.{fitting, fitting_one, forms, label_form, may_stand}
use Rattle.label_lines.specs.Line.{asked, has_label_form, is_number, is_seconds, label_or, milliseconds_in, read_line}
use Rattle.label_lines.specs.Line.{wrong_column}
use Rattle.label_lines.specs.Timebase.{count_of, rate_of}

-- what the laws of labels say
pub record LabelLaws : Type 0 where
  pub text : (c : Count) (text : List ℕ) (a : Address) → label_in c text ≡ Some a → (text ≡ text_of a) × (a.count ≡ c)
  pub number : (c : Count) (n : ℕ) (a : Address) → slice_get (labels c) n ≡ Some a
      → (number_of a ≡ n) × (a.count ≡ c) × IsLabel a

-- ---- a long line says no label

no_number : (line : List ℕ) → 12 ≤ length line → is_number line ≡ false
no_number line long = grind (arith, nat_tests)

no_seconds : (line : List ℕ) → 12 ≤ length line → is_seconds line ≡ false
no_seconds line long = grind (arith, nat_tests)

no_form : (count : Count) (line : List ℕ) → 12 ≤ length line → has_label_form count line ≡ false
no_form count line long = grind (arith, nat_tests)

none_said : LabelLaws → (count : Count) (line : List ℕ) → 12 ≤ length line → (said : Option Address)
    → label_in count line ≡ said → said ≡ None
none_said laws count line long None is = refl
none_said laws count line long (Some a) is =
    let eleven : length line ≡ 11 = ap length (laws.text count line a is).0 in absurd (omega (arith, eleven, long))

none_asked : LabelLaws → (base : Timebase) (line : List ℕ) → 12 ≤ length line → asked base line ≡ None
none_asked laws base line long =
    rw (no_number line long, no_seconds line long)
    (none_said laws (count_of base) line long (label_in (count_of base) line) refl)

long_column : (count : Count) (line : List ℕ) → 12 ≤ length line
    → wrong_column count line ≡ 1 + fitting_one (label_form count ∷ forms) line
long_column count line long = rw (no_number line long, no_seconds line long, no_form count line long) refl

long_read : LabelLaws → (base : Timebase) (line : List ℕ) → 12 ≤ length line
    → read_line base line ≡ Err (wrong_column (count_of base) line)
unfolding read_line
long_read laws base line long = ap (label_or (wrong_column (count_of base) line)) (none_asked laws base line long)

-- ---- and its column is that of its front

fitting_front : (form line : List ℕ) (n : ℕ) → length form ≤ n → fitting form (take n line) ≡ fitting form line
unfolding fitting
fitting_front [] line n few = refl
fitting_front (place ∷ form) line zero few = absurd (omega (arith, few))
fitting_front (place ∷ form) [] (suc n) few = refl
fitting_front (place ∷ form) (byte ∷ line) (suc n) few =
    ap (λ (k : ℕ). if may_stand place byte then 1 + k else 0) (fitting_front form line n (omega (arith, few)))

fitting_one_front : (fs : List (List ℕ)) (line : List ℕ) (n : ℕ) → AllByRecursion (λ form. length form ≤ n) fs
    → fitting_one fs (take n line) ≡ fitting_one fs line
unfolding fitting_one
fitting_one_front [] line n few = refl
fitting_one_front (form ∷ fs) line n few =
    ap₂ max (fitting_front form line n few.0) (fitting_one_front fs line n few.1)

label_form_length : (count : Count) → length (label_form count) ≡ 11
label_form_length C24 = refl
label_form_length C25 = refl
label_form_length C30 = refl
label_form_length Drop30 = refl

short_forms : (count : Count) (n : ℕ) → 12 ≤ n → AllByRecursion (λ form. length form ≤ n) (label_form count ∷ forms)
short_forms count n most =
    let label = label_form_length count in (
      omega (arith, label, most),
      (omega arith, (omega arith, (omega arith, (omega arith, (omega arith, (omega arith, tt)))))),
    )

-- a line is judged by its first twelve bytes, and by more of them alike
pub read_front : LabelLaws → (base : Timebase) (line : List ℕ) (n : ℕ) → 12 ≤ n
    → read_line base (take n line) ≡ read_line base line
read_front laws base line n most = elim (cases_lt n (length line)) [
  | inl long ↦ (let count = count_of base in
      let front : 12 ≤ length (take n line) = omega (arith, length-take n line, long, most) in
      let all : 12 ≤ length line = omega (arith, long, most) in
      long_read laws base (take n line) front
      ∙ ap (λ (k : ℕ). Err k) (long_column count (take n line) front
      ∙ ap (λ (k : ℕ). 1 + k) (fitting_one_front (label_form count ∷ forms) line n (short_forms count n most))
      ∙ sym (long_column count line all))
      ∙ sym (long_read laws base line all))
  | inr short ↦ ap (read_line base) (take_all n line short)
]

-- and says a label only if it has eleven at most
pub says_in_eleven : LabelLaws → (base : Timebase) (line : List ℕ) (a : Address) → read_line base line ≡ Ok a
    → length line ≤ 11
says_in_eleven laws base line a is = elim (cases_lt 11 (length line)) [
  | inl long ↦ (let none = long_read laws base line (omega (arith, long)) in
      absurd (no_both (read_line base line) a (wrong_column (count_of base) line) is none))
  | inr short ↦ short
]
  where
    no_both : (r : Result Address ℕ) (label : Address) (column : ℕ) → r ≡ Ok label → r ≡ Err column → ⊥
    no_both r label column one other = cc

-- ---- what a line says is a label of the count

label_from_test : (a : Address) → is_label a ≡ true → IsLabel a
label_from_test a e = record {
  hours = grind (arith, nat_tests);
  minutes = grind (arith, nat_tests);
  seconds = grind (arith, nat_tests);
  frames = grind (arith, nat_tests);
  counted = grind (arith, nat_tests);
}

pub spelled_label : (c : Count) (text : List ℕ) (a : Address) → label_in c text ≡ Some a → IsLabel a
spelled_label c text a is =
    let both = cond_some _ (address_in c text) a is in
    subst IsLabel both.1 (label_from_test (address_in c text)
    (and_parts (is_label (address_in c text)) (bytes_eq text (text_of (address_in c text))) both.0).0)

asked_label : LabelLaws → (base : Timebase) (line : List ℕ) (a : Address) (number seconds : Bool)
    → is_number line ≡ number → is_seconds line ≡ seconds → asked base line ≡ Some a
    → IsLabel a × (a.count ≡ count_of base)
asked_label laws base line a true seconds n s is =
    let here : asked base line ≡ slice_get (labels (count_of base)) (digits_value 10 line) = rw n refl in
    let law = laws.number (count_of base) _ a (sym here ∙ is) in (law.2, law.1)
asked_label laws base line a false true n s is =
    let here : asked base line ≡ slice_get (labels (count_of base)) (frame_at (rate_of base) (milliseconds_in line)) =
    rw (n, s) refl in
    let law = laws.number (count_of base) _ a (sym here ∙ is) in (law.2, law.1)
asked_label laws base line a false false n s is =
    let here : asked base line ≡ label_in (count_of base) line = rw (n, s) refl in
    let spelled = sym here ∙ is in
    (spelled_label (count_of base) line a spelled, (laws.text (count_of base) line a spelled).1)

asked_so : (column : ℕ) (said : Option Address) (a : Address) → label_or column said ≡ Ok a → said ≡ Some a
asked_so column None a is = absurd cc
asked_so column (Some label) a is = cc

pub says_a_label : LabelLaws → (base : Timebase) (line : List ℕ) (a : Address) → read_line base line ≡ Ok a
    → IsLabel a × (a.count ≡ count_of base)
unfolding read_line
says_a_label laws base line a is =
    asked_label laws base line a (is_number line) (is_seconds line) refl refl
    (asked_so (wrong_column (count_of base) line) (asked base line) a is)

-- the column of a line that says none
pub refused_column : (base : Timebase) (line : List ℕ) (column : ℕ) → read_line base line ≡ Err column
    → wrong_column (count_of base) line ≡ column
unfolding read_line
refused_column base line column is = by_asked (asked base line) is
  where
    by_asked : (said : Option Address) → label_or (wrong_column (count_of base) line) said ≡ Err column
        → wrong_column (count_of base) line ≡ column
    by_asked None e = cc
    by_asked (Some a) e = absurd cc

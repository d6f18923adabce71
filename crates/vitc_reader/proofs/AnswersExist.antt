-- Runs stand for bits or have a first fault, and bits spell a word or have one, so each line says something, and the
-- lines of a field have an answer.
use Rattle.std.proofs.Common.{◌≡◌, ◌⊎◌, ℕ, zero, suc, ◌+◌, ◌-◌, ◌*◌, ◌^◌, ◌<◌, ◌≤◌, Bool, true, false, not, List, []}
use Rattle.std.proofs.Common.{◌∷◌, ◌++◌, length, get_or}
use Rattle.std.proofs.Common.{Result, Ok, Err, Some, refl, subst, inl, inr, append_assoc, append-nil, arith}
use Rattle.std.proofs.lemmas.Bool.{cases_lt}
use Rattle.tc_address.specs.declared.system.System.{System}
use Rattle.vitc_line.specs.declared.word.LineFault.{LineFault}
use Rattle.vitc_line.specs.declared.word.VitcWord.{VitcWord}
use Rattle.vitc_line.specs.Fault.{first_fault}
use Rattle.vitc_line.specs.Spelling.{Spells}
use Rattle.vitc_reader.specs.declared.fault.ReadFault.{ReadFault}
use Rattle.vitc_reader.specs.declared.fault.ReadFault.TheVariants.{Runs, Line}
use Rattle.vitc_reader.specs.declared.fault.RunFault.{RunFault}
use Rattle.vitc_reader.specs.declared.fault.RunFault.TheVariants.{Run, TooLong}
use Rattle.vitc_reader.specs.declared.field.FieldAnswer.{FieldAnswer}
use Rattle.vitc_reader.specs.declared.field.FieldAnswer.TheVariants.{NoLine, Agreed, Conflict, Nothing}
use Rattle.vitc_reader.specs.Field.{AreSaid, IsAnswer, IsAnswerTo, IsSaid}
use Rattle.vitc_reader.specs.Runs.{IsCells, IsRunFault, StandFor}
use Rattle.vitc_reader.proofs.AnswerGrows.{agreed_still, conflict_whatever, first_word, no_word, other_word, same_word}
use Rattle.vitc_reader.proofs.ReadSoFar.{ReadSoFar, below_ninety, bits_below, read_more, run_fault, stands, too_long}
use Rattle.vitc_reader.proofs.SameWord.{parts_same, same_have_parts, same_parts}
use Rattle.vitc_reader.proofs.WholeCells.{are_cells, nearest, not_far, not_none}

-- ---- runs

-- a run has a number of cells, or none is its number
a_number_or_none : (n r : ℕ) → 1 ≤ n → ((k : ℕ) × IsCells n r k) ⊎ ((k : ℕ) → ¬ IsCells n r k)
a_number_or_none n r some = elim (cases_lt (nearest n r) 1) [
  | inl low ↦ inr (λ k cells. not_none n r k some cells low)
  | inr high ↦ elim (cases_lt (2 * n) (460 * r + n - 4 * (nearest n r * n))) [
    | inl far ↦ inr (λ k cells. not_far n r k some cells far)
    | inr near ↦ inl (nearest n r, are_cells n r high near)
  ]
]

-- they stand for bits of a line, or have a first fault
abbrev StandOrAreFaulty : ℕ → List ℕ → Type 0
StandOrAreFaulty n runs = ((bits : ℕ) × StandFor n runs bits × (bits < 2 ^ 90))
    ⊎ ((fault : RunFault) × IsRunFault n runs fault)

-- behind the runs so far, with `left` runs left
read_on : (n : ℕ) (runs : List ℕ) (left i bits cells : ℕ) (is_high : Bool) → 1 ≤ n → left + i ≡ length runs
    → ReadSoFar n runs i bits cells is_high → StandOrAreFaulty n runs
read_on n runs zero i bits cells is_high some all s =
    inl (
      bits,
      stands n runs i bits cells is_high s (omega (arith, all)),
      below_ninety bits cells
          (bits_below n runs i bits cells is_high s) s.few,
    )
read_on n runs (suc left) i bits cells is_high some all s =
    let there : i < length runs = omega (arith, all) in
    elim (a_number_or_none n (get_or runs i 0) some) [
      | inr none ↦ inr (Run i, run_fault n runs i bits cells is_high s there none)
      | inl is ↦ elim (cases_lt 90 (cells + is.0)) [
        | inl over ↦ inr (TooLong i, too_long n runs i bits cells is.0 is_high s there is.1 over)
        | inr few ↦ (
            let next = read_more n runs i bits cells is.0 is_high s there is.1 few in
            read_on n runs left (i + 1) _ _ (not is_high) some (omega (arith, all)) next
            )
      ]
    ]

stand_or_faulty : (n : ℕ) (runs : List ℕ) → 1 ≤ n → StandOrAreFaulty n runs
stand_or_faulty n runs some =
    read_on n runs (length runs) 0 0 0 true some (omega arith)
    (record { list = []; read = tt; all = refl; few = omega arith; value = refl; level = refl })

-- ---- a line

-- bits spell a word, or have a first fault
abbrev pub SpellOrAreFaulty : Type 0
SpellOrAreFaulty = (system : System) (bits : ℕ) → bits < 2 ^ 90
    → ((word : VitcWord) × Spells system word bits) ⊎ ((fault : LineFault) × (first_fault system bits ≡ Some fault))

a_line_says : SpellOrAreFaulty → (system : System) (n : ℕ) (line : List ℕ) → 1 ≤ n → (said : Result VitcWord ReadFault)
    × IsSaid system n line said
a_line_says spell system n line some = elim (stand_or_faulty n line some) [
  | inr is ↦ (Err (Runs is.0), is.1)
  | inl stand ↦ elim (spell system stand.0 stand.2) [
    | inl word ↦ (Ok word.0, (stand.0, stand.1, word.1))
    | inr is ↦ (Err (Line is.0), (stand.0, stand.1, is.1))
  ]
]

pub lines_say : SpellOrAreFaulty → (system : System) (n : ℕ) (lines : List (List ℕ)) → 1 ≤ n
    → (said : List (Result VitcWord ReadFault)) × AreSaid system n lines said
lines_say spell system n [] some = ([], tt)
lines_say spell system n (line ∷ lines) some =
    let first = a_line_says spell system n line some in
    let more = lines_say spell system n lines some in
    (first.0 ∷ more.0, (first.1, more.1))

-- ---- an answer

-- behind an answer to what was said before
with_word : (before : List (Result VitcWord ReadFault)) (first word : VitcWord) → IsAnswerTo before (Agreed first)
    → (same : Bool)
    → same_parts word first ≡ same → (answer : FieldAnswer) × IsAnswerTo (before ++ Ok word ∷ []) answer
with_word before first word is true same = (Agreed first, same_word before first word (parts_same word first same) is)
with_word before first word is false other =
    let differs : word ≡ first → ⊥ = λ same. let parts = same_have_parts word first same in absurd cc in
    (Conflict first word, other_word before first word differs is)

with_said : (before : List (Result VitcWord ReadFault)) (answer : FieldAnswer) → IsAnswerTo before answer
    → (said : Result VitcWord ReadFault)
    → (next : FieldAnswer) × IsAnswerTo (before ++ said ∷ []) next
with_said before NoLine is (Ok word) = (Agreed word, rw is ([], refl, tt))
with_said before NoLine is (Err fault) = (Nothing fault, rw is ([], refl, refl))
with_said before (Nothing fault) is (Ok word) = (Agreed word, first_word before fault word is)
with_said before (Nothing fault) is (Err next) = (Nothing fault, no_word before fault next is)
with_said before (Agreed first) is (Ok word) = with_word before first word is (same_parts word first) refl
with_said before (Agreed first) is (Err fault) = (Agreed first, agreed_still before first fault is)
with_said before (Conflict first other) is said = (Conflict first other, conflict_whatever before first other said is)

with_all : (before : List (Result VitcWord ReadFault)) (answer : FieldAnswer) → IsAnswerTo before answer
    → (said : List (Result VitcWord ReadFault))
    → (all : FieldAnswer) × IsAnswerTo (before ++ said) all
with_all before answer is [] = (answer, rw (append-nil before) is)
with_all before answer is (one ∷ said) =
    let next = with_said before answer is one in
    let all = with_all (before ++ one ∷ []) next.0 next.1 said in (
      all.0,
      subst (λ (l : List (Result VitcWord ReadFault)). IsAnswerTo l all.0) (append_assoc before (one ∷ []) said)
          all.1,
    )

pub an_answer : SpellOrAreFaulty → (system : System) (n : ℕ) (lines : List (List ℕ)) → 1 ≤ n → (answer : FieldAnswer)
    × IsAnswer system n lines answer
an_answer spell system n lines some =
    let said = lines_say spell system n lines some in
    let answer = with_all [] NoLine refl said.0 in
    (answer.0, (said.0, said.1, answer.1))

-- An input that is taken whole is the file of a header and fields, and the answer of each field says whose lines its
-- lines are, as no other answer does.
use Rattle.std.proofs.Common.{◌≡◌, ◌≤◌, ℕ, ◌+◌, true, List, [], ◌∷◌, ◌++◌, length, Some, None, refl, sym, ap, ap₂, ◌∙◌}
use Rattle.std.proofs.Common.{subst, append_assoc, arith}
use Rattle.std.proofs.lemmas.Option.{same_Some}
use Rattle.tc_address.specs.declared.system.System.{System}
use Rattle.tc_io.specs.Bytes.{AreBytes}
use Rattle.tc_io.specs.Verdict.{good}
use Rattle.tc_io.specs.VerdictLemmas.{ends_whole, is_good}
use Rattle.vitc_reader.specs.declared.field.FieldAnswer.{FieldAnswer}
use Rattle.vitc_reader.specs.Agreement.{SaysOf}
use Rattle.vitc_reader.specs.Field.{IsAnswer}
use Rattle.vitc_reader.specs.Runs.{IsLineLength}
use Rattle.line_file.specs.declared.decoder.TheConstants.{MAX_FIELDS}
use Rattle.line_file.specs.declared.header.LineHeader.{LineHeader}
use Rattle.line_file.specs.Answers.{AreAnswers, AreAnswersOf}
use Rattle.line_file.specs.Grammar.{file_of, AreFields}
use Rattle.line_file.specs.LineFile.{Reading, end_fault_of, reading_of}
use Rattle.line_file.specs.LineHeader.{IsHeader}
use Rattle.line_file.specs.Texts.{field_line}
use Rattle.tc_command.specs.declared.input_fault.InputFault.TheVariants.{Lines}
use Rattle.tc_command.specs.Command.{IsCommand}
use Rattle.tc_command.specs.Meaning.{IsInput}
use Rattle.tc_command.specs.Told.{IsLawful, KeepsPromise}
use Rattle.signal_commands.specs.VitcRead.{along_fields, answer_lines, field_report, last_field_line, told_vitc_read}
use Rattle.signal_commands.specs.VitcRead.{ReadsTheFields, TellTheFields}

-- what is read of the file of a header and fields
abbrev whole_reading : LineHeader → List (List (List ℕ)) → Reading
whole_reading header fields = record { header = Some header; fields = fields; verdict = good; is_whole = true }

-- a file is read as it was written
abbrev pub AreReadAsWritten : Type 0
AreReadAsWritten = (header : LineHeader) (fields : List (List (List ℕ))) → IsHeader header → AreFields fields
    → length fields ≤ MAX_FIELDS → reading_of (file_of header fields) ≡ whole_reading header fields

-- what the laws of lines and of their file say
pub record FieldsLaws : Type 0 where
  pub says : (system : System) (n : ℕ) (lines : List (List ℕ)) (answer : FieldAnswer) → IsAnswer system n lines answer
      → SaysOf system n lines answer
  pub only : (system : System) (n : ℕ) (lines : List (List ℕ)) (answer : FieldAnswer) → IsLineLength n
      → SaysOf system n lines answer → IsAnswer system n lines answer
  pub one : (system : System) (n : ℕ) (lines : List (List ℕ)) (a b : FieldAnswer) → IsLineLength n
      → IsAnswer system n lines a → IsAnswer system n lines b → a ≡ b
  pub read : AreReadAsWritten
  pub whole : (bytes : List ℕ) → AreBytes bytes → (reading_of bytes).verdict ≡ good → end_fault_of bytes ≡ None
      → (header : LineHeader) × (fields : List (List (List ℕ))) × IsHeader header × AreFields fields
      × (length fields ≤ MAX_FIELDS) × (bytes ≡ file_of header fields)

-- ---- the answers

tell : FieldsLaws → (header : LineHeader) → IsHeader header → (fields : List (List (List ℕ)))
    (answers : List FieldAnswer) → AreAnswers header fields answers → TellTheFields header fields answers
tell laws header is [] [] are = tt
tell laws header is [] (answer ∷ answers) are = absurd are
tell laws header is (lines ∷ fields) [] are = absurd are
tell laws header is (lines ∷ fields) (answer ∷ answers) are = (
  record {
    says = laws.says header.system header.length lines answer are.0;
    only = λ other said. laws.one header.system header.length lines other answer is.1
        (laws.only header.system header.length lines other is.1 said) are.0;
  },
  tell laws header is fields answers are.1,
)

one_list : (header : LineHeader) (fields : List (List (List ℕ))) (a b : List FieldAnswer)
    → TellTheFields header fields a
    → TellTheFields header fields b → a ≡ b
one_list header [] [] [] p q = refl
one_list header [] [] (answer ∷ b) p q = absurd q
one_list header [] (answer ∷ a) b p q = absurd p
one_list header (lines ∷ fields) [] b p q = absurd p
one_list header (lines ∷ fields) (answer ∷ a) [] p q = absurd q
one_list header (lines ∷ fields) (answer ∷ a) (other ∷ b) p q =
    ap₂ (λ (x : FieldAnswer) (l : List FieldAnswer). x ∷ l) (q.0.only answer p.0.says)
    (one_list header fields a b p.1 q.1)

-- ---- their lines

numbered_at : (field k : ℕ) (before after : List FieldAnswer) (answer : FieldAnswer) → k ≡ field + length before
    → answer_lines field (before ++ (answer ∷ after))
    ≡ answer_lines field before ++ (field_line k answer ++ answer_lines (k + 1) after)
numbered_at field k [] after answer is =
    let same : field ≡ k = omega (arith, is) in
    ap (λ (n : ℕ). field_line n answer ++ answer_lines (n + 1) after) same
numbered_at field k (first ∷ before) after answer is =
    ap (λ (l : List ℕ). field_line field first ++ l)
    (numbered_at (field + 1) k before after answer (omega (arith, is)))
    ∙ sym (append_assoc (field_line field first) (answer_lines (field + 1) before)
    (field_line k answer ++ answer_lines (k + 1) after))

numbered : (answers before after : List FieldAnswer) (answer : FieldAnswer) → answers ≡ before ++ (answer ∷ after)
    → field_report answers ≡ answer_lines 0 before ++ (field_line (length before) answer
    ++ (answer_lines (length before + 1) after ++ last_field_line answers))
numbered answers before after answer are =
    let line = field_line (length before) answer in
    let behind = answer_lines (length before + 1) after in
    ap (λ (l : List ℕ). l ++ last_field_line answers)
    (ap (answer_lines 0) are ∙ numbered_at 0 (length before) before after answer (omega arith))
    ∙ append_assoc (answer_lines 0 before) (line ++ behind) (last_field_line answers)
    ∙ ap (λ (l : List ℕ). answer_lines 0 before ++ l) (append_assoc line behind (last_field_line answers))

-- ---- what is claimed of it

reads : FieldsLaws → (bytes written : List ℕ) → AreBytes bytes → IsInput along_fields bytes
    → (answers : List FieldAnswer) → AreAnswersOf (reading_of bytes) answers → written ≡ field_report answers
    → ReadsTheFields bytes written
reads laws bytes written are input answers are_answers output =
    let file = laws.whole bytes are (is_good Lines (reading_of bytes).verdict input.verdict)
    (ends_whole Lines (end_fault_of bytes) input.end) in
    let header = file.0 in
    let fields = file.1 in
    let read : reading_of bytes ≡ whole_reading header fields =
    ap reading_of file.5 ∙ laws.read header fields file.2 file.3 file.4 in
    record {
      header = header;
      header_is = file.2;
      fields = fields;
      fields_are = file.3;
      few = file.4;
      file = file.5;
      answers = answers;
      tell = tell laws header file.2 fields answers
          (subst (λ (r : Reading). AreAnswersOf r answers) read are_answers);
      are = output;
      numbered = λ before after answer split. output ∙ numbered answers before after answer split;
    }

-- a file has one header and one list of fields
one_text : AreReadAsWritten → (bytes a b : List ℕ) → ReadsTheFields bytes a → ReadsTheFields bytes b → a ≡ b
one_text read bytes a b p q =
    let same : whole_reading p.header p.fields ≡ whole_reading q.header q.fields =
    sym (ap reading_of p.file ∙ read p.header p.fields p.header_is p.fields_are p.few)
    ∙ (ap reading_of q.file ∙ read q.header q.fields q.header_is q.fields_are q.few) in
    let header : p.header ≡ q.header = same_Some p.header q.header (ap (λ (r : Reading). r.header) same) in
    let fields : p.fields ≡ q.fields = ap (λ (r : Reading). r.fields) same in
    let tell = subst (λ (fs : List (List (List ℕ))). TellTheFields q.header fs p.answers) fields
    (subst (λ (h : LineHeader). TellTheFields h p.fields p.answers) header p.tell) in
    p.are ∙ ap field_report (one_list q.header q.fields p.answers q.answers tell q.tell) ∙ sym q.are

pub fields_are_lawful : IsCommand along_fields → AreReadAsWritten → IsLawful told_vitc_read
fields_are_lawful command read = record {
  command = command;
  pinned = one_text read;
  unlimited = λ none input spent. spent;
}

pub fields_are_kept : FieldsLaws → KeepsPromise told_vitc_read
fields_are_kept laws = λ pulled written are input output.
    reads laws pulled written are input output.0 output.1 output.2

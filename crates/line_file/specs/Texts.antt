-- The lines of a report on fields, byte for byte. Their form is this project's own.
use Rattle.std.specs.Prelude.{ℕ, List, ◌++◌, codes, decimal}
use Rattle.tc_address.specs.Spelling.{text_of}
use Rattle.tc_bits.specs.Fault.{name_of}
use Rattle.line_text.specs.Line.{flag_digit, flags_text, user_text}
use Rattle.vitc_line.specs.declared.word.LineFault.{LineFault}
use Rattle.vitc_line.specs.declared.word.LineFault.TheVariants.{SyncPair, Check, Field}
use Rattle.vitc_line.specs.declared.word.VitcWord.{VitcWord}
use Rattle.vitc_reader.specs.declared.fault.ReadFault.{ReadFault}
use Rattle.vitc_reader.specs.declared.fault.ReadFault.TheVariants.{Runs, Line}
use Rattle.vitc_reader.specs.declared.fault.RunFault.{RunFault}
use Rattle.vitc_reader.specs.declared.fault.RunFault.TheVariants.{Run, TooLong}
use Rattle.vitc_reader.specs.declared.field.FieldAnswer.{FieldAnswer}
use Rattle.vitc_reader.specs.declared.field.FieldAnswer.TheVariants.{NoLine, Agreed, Conflict, Nothing}

-- a word: its label, its user bits, its flags and its field mark
abbrev pub word_text : VitcWord → List ℕ
word_text word =
    text_of word.fields.label ++ codes " user " ++ user_text word.fields.user ++ codes " flags "
    ++ flags_text word.fields.flags
    ++ codes " mark " ++ flag_digit word.field_mark

-- why a line says nothing
abbrev pub run_reason : RunFault → List ℕ
run_reason (Run i) = codes "run " ++ decimal i
run_reason (TooLong i) = codes "too-long " ++ decimal i

-- the words for a fault of the bits of a line
abbrev pub line_reason : LineFault → List ℕ
line_reason (SyncPair j) = codes "sync-pair " ++ decimal j
line_reason (Check r) = codes "check " ++ decimal r
line_reason (Field f) = name_of f

-- the words for a fault of a line, of its runs or of its bits
abbrev pub reason : ReadFault → List ℕ
reason (Runs f) = run_reason f
reason (Line f) = line_reason f

-- what stands behind the number of a field
abbrev pub answer_text : FieldAnswer → List ℕ
answer_text (Agreed word) = codes " word " ++ word_text word
answer_text (Conflict word other) = codes " conflict " ++ word_text word ++ codes " and " ++ word_text other
answer_text NoLine = codes " nothing no-line"
answer_text (Nothing f) = codes " nothing " ++ reason f

-- the line of a field, which is counted from 0
abbrev pub field_line : ℕ → FieldAnswer → List ℕ
field_line field answer = codes "field " ++ decimal field ++ answer_text answer ++ codes "\n"

-- the last line: how many fields there are, and how many are agreed, in conflict, and without a word
abbrev pub field_end_line : ℕ → ℕ → ℕ → ℕ → List ℕ
field_end_line fields agreed conflict nothing =
    codes "end fields " ++ decimal fields ++ codes " agreed " ++ decimal agreed ++ codes " conflict "
    ++ decimal conflict
    ++ codes " nothing " ++ decimal nothing ++ codes "\n"

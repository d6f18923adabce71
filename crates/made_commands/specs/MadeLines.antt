-- The line file that `vitc-make` makes, all of it at once: a word a field from a label on, and the runs of its 90 bits.
use Rattle.std.specs.Prelude.{◌≡◌, ℕ, pos, Bool, true, false, List, [], ◌∷◌, map, Some}
use Rattle.std.specs.List.{flat_map, range_with_len}
use Rattle.tc_address.specs.Count.{system_with}
use Rattle.tc_address.specs.Label.{Address}
use Rattle.tc_address.specs.Numbering.{step}
use Rattle.tc_io.specs.Verdict.{good}
use Rattle.vitc_line.specs.declared.word.VitcWord.{VitcWord}
use Rattle.vitc_line.specs.Spelled.{line_of}
use Rattle.vitc_reader.specs.declared.field.FieldAnswer.TheVariants.{Agreed}
use Rattle.vitc_reader.specs.Written.{runs_in}
use Rattle.line_file.specs.declared.header.LineHeader.{LineHeader}
use Rattle.line_file.specs.Answers.{AreAnswersOf}
use Rattle.line_file.specs.Grammar.{file_of}
use Rattle.line_file.specs.LineFile.{Reading, reading_of}
use Rattle.ltc_jam.specs.Word.{word_of}
use Rattle.tc_job.specs.LineStripe.{LineStriping}
use Rattle.tc_command.specs.Told.{Told, told_made}

-- the word of a label in one of its fields, with the fields that a word of linear code has there: no flag is set but
-- that of drop-frame, and the user bits are 0
abbrev pub field_word : Address → Bool → VitcWord
field_word label mark = record { fields = (word_of label).fields; field_mark = mark }

-- the words of a frame: the field mark is 0 in its first field, and 1 in its second
abbrev pub words_of_frame : Address → List VitcWord
words_of_frame label = field_word label false ∷ field_word label true ∷ []

-- those of this many frames from a label on
unfoldable pub words_from : Address → ℕ → List VitcWord
words_from label frames = flat_map (λ k. words_of_frame (step label (pos k))) (range_with_len 0 frames)

-- the lines of a field, two equal ones: the runs of the bits of its word on a line of this many ticks
abbrev pub field_lines : ℕ → VitcWord → List (List ℕ)
field_lines length word = runs_in length (line_of word) ∷ runs_in length (line_of word) ∷ []

-- the words of the file, and its fields
abbrev pub made_words : LineStriping → List VitcWord
made_words s = words_from s.label s.frames

-- the fields of the file, each with its lines as runs
abbrev pub made_fields : LineStriping → List (List (List ℕ))
made_fields s = map (field_lines s.length) (made_words s)

-- its header
abbrev pub made_line_header : LineStriping → LineHeader
made_line_header s = record { system = system_with s.label.count; length = s.length }

-- the file
abbrev pub made_lines : LineStriping → List ℕ
made_lines s = file_of (made_line_header s) (made_fields s)

-- ---- what is read from it

-- what is said of a whole file with these fields
abbrev pub whole_reading : LineHeader → List (List (List ℕ)) → Reading
whole_reading header fields = record { header = Some header; fields = fields; verdict = good; is_whole = true }

-- what was written is the file of its header and its fields, and is read so, and each field is agreed with its word
pub record AreReadBack (s : LineStriping) (written : List ℕ) : Type 0 where
  pub are : written ≡ made_lines s
  pub file : reading_of written ≡ whole_reading (made_line_header s) (made_fields s)
  pub answers : AreAnswersOf (reading_of written) (map (λ word. Agreed word) (made_words s))

-- what is claimed of `vitc-make`
abbrev pub told_vitc_make : LineStriping → Told
told_vitc_make s = told_made (made_lines s) (AreReadBack s)

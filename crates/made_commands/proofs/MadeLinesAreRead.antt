-- A line file that is made is read back: each field has a label, a word with one line, and runs that stand for its
-- bits.
use Rattle.std.proofs.Common.{◌≡◌, ℕ, zero, suc, ◌+◌, ◌*◌, ◌%◌, ◌^◌, ◌<◌, ◌≤◌}
use Rattle.std.proofs.Common.{Bool, true, false, List, [], ◌∷◌, Ok, length, refl}
use Rattle.std.proofs.Common.{sym, subst, lit<, lit≤, arith}
use Rattle.std.specs.Prelude.{pos, map}
use Rattle.std.specs.List.{flat_map, range_with_len}
use Rattle.ltc_jam.specs.WordLemmas.{flag_agrees}
use Rattle.line_file.specs.declared.decoder.TheConstants.{MAX_FIELDS}
use Rattle.line_file.specs.declared.header.LineHeader.{LineHeader}
use Rattle.line_file.specs.Answers.{AreAnswers, AreAnswersOf}
use Rattle.line_file.specs.Grammar.{file_of, AreRuns, AreFields}
use Rattle.line_file.specs.LineFile.{Reading, reading_of}
use Rattle.line_file.specs.LineHeader.{IsHeader}
use Rattle.tc_address.specs.declared.count.Count.{Count}
use Rattle.tc_address.specs.Count.{system_with}
use Rattle.tc_address.specs.Label.{Address, IsLabel}
use Rattle.tc_address.specs.Numbering.{step}
use Rattle.tc_bits.specs.Fields.{IsFields}
use Rattle.tc_job.specs.LineStripe.{LineStriping, IsLineStripe}
use Rattle.vitc_line.specs.declared.word.VitcWord.{VitcWord}
use Rattle.vitc_line.specs.Spelled.{line_of}
use Rattle.vitc_line.specs.Spelling.{Spells}
use Rattle.vitc_reader.specs.declared.field.FieldAnswer.TheVariants.{Agreed}
use Rattle.vitc_reader.specs.Field.{IsAnswer, IsSaid}
use Rattle.vitc_reader.specs.Runs.{IsLineLength, MayBeLine, StandFor}
use Rattle.vitc_reader.specs.Written.{runs_in}
use Rattle.made_commands.specs.MadeLines.{field_lines, field_word, made_fields, made_line_header, made_lines}
use Rattle.made_commands.specs.MadeLines.{made_words, whole_reading, words_from}
use Rattle.made_commands.specs.MadeLines.{words_of_frame, AreReadBack}
use Rattle.made_commands.proofs.MadeIsRead.{StepsAreValid}

-- what the laws of the crates below say
pub record LinesAreLawful : Type 0 where
  pub labels : StepsAreValid
  pub spelled : (word : VitcWord) → IsFields word.fields → word.fields.user < 2 ^ 32
      → Spells (system_with word.fields.label.count) word (line_of word)
  pub odd : (word : VitcWord) → IsFields word.fields → word.fields.user < 2 ^ 32 → line_of word % 2 ≡ 1
  pub line : (n bits : ℕ) → IsLineLength n → bits < 2 ^ 90 → bits % 2 ≡ 1 → MayBeLine (runs_in n bits)
  pub stand : (n bits : ℕ) → IsLineLength n → bits < 2 ^ 90 → bits % 2 ≡ 1 → StandFor n (runs_in n bits) bits
  pub fit : (n bits : ℕ) (runs : List ℕ) → IsLineLength n → StandFor n runs bits → AreRuns runs
  pub file : (header : LineHeader) (fields : List (List (List ℕ))) → IsHeader header → AreFields fields
      → length fields ≤ MAX_FIELDS
      → reading_of (file_of header fields) ≡ whole_reading header fields

-- ---- a word

-- a word of a system: its label is one of a count of the system
record IsWordOf (count : Count) (word : VitcWord) : Type 0 where
  fields : IsFields word.fields
  user : word.fields.user < 2 ^ 32
  counted : word.fields.label.count ≡ count

word_is : (count : Count) (label : Address) (mark : Bool) → IsLabel label → label.count ≡ count
    → IsWordOf count (field_word label mark)
word_is count label mark valid same =
    record { fields = record { label = valid; flag = flag_agrees label.count }; user = lit< tt; counted = same }

-- each of the words is one
abbrev AreWordsOf : Count → List VitcWord → Type 0
AreWordsOf count [] = Unit {0}
AreWordsOf count (word ∷ words) = IsWordOf count word × AreWordsOf count words

frames_are : StepsAreValid → (label : Address) → IsLabel label → (start frames : ℕ)
    → AreWordsOf label.count (flat_map (λ k. words_of_frame (step label (pos k))) (range_with_len start frames))
frames_are law label valid start zero = tt
frames_are law label valid start (suc frames) =
    let there = law label (pos start) valid in
    let word = λ (mark : Bool). word_is label.count (step label (pos start)) mark there.0 there.1 in
    (word false, (word true, frames_are law label valid (start + 1) frames))

words_are : StepsAreValid → (label : Address) (frames : ℕ) → IsLabel label
    → AreWordsOf label.count (words_from label frames)
unfolding words_from
words_are law label frames valid = frames_are law label valid 0 frames

-- two fields a frame
frames_count : (label : Address) (start frames : ℕ)
    → length (flat_map (λ k. words_of_frame (step label (pos k))) (range_with_len start frames)) ≡ 2 * frames
frames_count label start zero = refl
frames_count label start (suc frames) = let h = frames_count label (start + 1) frames in omega (arith, h)

words_count : (label : Address) (frames : ℕ) → length (words_from label frames) ≡ 2 * frames
unfolding words_from
words_count label frames = frames_count label 0 frames

fields_count : (n : ℕ) (words : List VitcWord) → length (map (field_lines n) words) ≡ length words
fields_count n [] = refl
fields_count n (word ∷ words) = let h = fields_count n words in omega (arith, h)

-- ---- its line

said : LinesAreLawful → (count : Count) (n : ℕ) (word : VitcWord) → IsLineLength n → IsWordOf count word
    → IsSaid (system_with count) n (runs_in n (line_of word)) (Ok word)
said law count n word range is =
    let spelled = law.spelled word is.fields is.user in
    let odd = law.odd word is.fields is.user in (
      line_of word,
      law.stand n (line_of word) range spelled.width odd,
      subst (λ (c : Count). Spells (system_with c) word (line_of word)) is.counted spelled,
    )

agreed : LinesAreLawful → (count : Count) (n : ℕ) (word : VitcWord) → IsLineLength n → IsWordOf count word
    → IsAnswer (system_with count) n (field_lines n word) (Agreed word)
agreed law count n word range is =
    let one = said law count n word range is in
    (Ok word ∷ Ok word ∷ [], (one, (one, tt)), (word ∷ [], refl, (refl, tt)))

answers_are : LinesAreLawful → (count : Count) (n : ℕ) (words : List VitcWord) → IsLineLength n → AreWordsOf count words
    → AreAnswers (record { system = system_with count; length = n }) (map (field_lines n) words)
    (map (λ word. Agreed word) words)
answers_are law count n [] range are = tt
answers_are law count n (word ∷ words) range are =
    (agreed law count n word range are.0, answers_are law count n words range are.1)

fields_are : LinesAreLawful → (count : Count) (n : ℕ) (words : List VitcWord) → IsLineLength n → AreWordsOf count words
    → AreFields (map (field_lines n) words)
fields_are law count n [] range are = tt
fields_are law count n (word ∷ words) range are =
    let is = are.0 in
    let width = (law.spelled word is.fields is.user).width in
    let odd = law.odd word is.fields is.user in
    let may = law.line n (line_of word) range width odd in
    let fit = law.fit n (line_of word) (runs_in n (line_of word)) range (law.stand n (line_of word) range width odd) in
    (lit≤ tt, (may, fit, (may, fit, tt)), fields_are law count n words range are.1)

-- ---- all of it

pub made_lines_are_read : LinesAreLawful → (s : LineStriping) → IsLineStripe s → AreReadBack s (made_lines s)
made_lines_are_read law s is =
    let words = words_are law.labels s.label s.frames is.label in
    let count = words_count s.label s.frames in
    let same = fields_count s.length (made_words s) in
    let most = is.not_too_many in
    let file = law.file (made_line_header s) (made_fields s) (is.lines, is.length)
    (fields_are law s.label.count s.length (made_words s) is.length words)
    (omega (arith, count, same, most)) in
    record {
      are = refl;
      file = file;
      answers = subst (λ (r : Reading). AreAnswersOf r (map (λ word. Agreed word) (made_words s))) (sym file)
          (answers_are law s.label.count s.length (made_words s) is.length words);
    }

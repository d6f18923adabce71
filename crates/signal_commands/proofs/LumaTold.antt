-- What is told of `luma-vitc`: its input is fields, one behind another, and the file that was written is read as the
-- lines that they say.
use Rattle.std.proofs.Common.{◌≡◌, ℕ, zero, suc, ◌+◌, ◌*◌, ◌/◌, ◌%◌, ◌==◌, ◌^◌, ◌<◌, ◌≤◌, ◌⊎◌, inl, inr, Bool, true}
use Rattle.std.proofs.Common.{false, cond}
use Rattle.std.proofs.Common.{nat_lt, Some, None, List, [], ◌∷◌, ◌++◌, length, map, take, drop, refl, sym, ◌∙◌, ap}
use Rattle.std.proofs.Common.{subst}
use Rattle.std.proofs.Common.{lit≤, arith, length-drop}
use Rattle.std.specs.List.{concat, All, AllByRecursion, AllZip}
use Rattle.std.proofs.Math.Nat.{mul-le-mul_right, suc-mul}
use Rattle.std.proofs.lemmas.List.{length-map, take-append-drop}
use Rattle.std.proofs.lemmas.List.Elements.{All-head, All-tail, All-weaker}
use Rattle.std.proofs.lemmas.Bool.{eqb-true, ltb-false}
use Rattle.std.proofs.lemmas.Nat.{div-add-mod'}
use Rattle.line_file.specs.declared.decoder.TheConstants.{MAX_FIELDS}
use Rattle.line_file.specs.declared.field.TheConstants.{MAX_LINES}
use Rattle.line_file.specs.Grammar.{AreFields, AreLines, AreRuns}
use Rattle.line_file.specs.LineFile.{reading_of}
use Rattle.luma_field.specs.Field.{IsLine}
use Rattle.luma_field.specs.Parts.{parts, whole_parts}
use Rattle.luma_field.specs.Raster.{size_of, RasterSize}
use Rattle.luma_field.specs.Rows.{SaysLines}
use Rattle.tc_command.specs.declared.input_fault.InputFault.TheVariants.{HalfField}
use Rattle.tc_command.specs.Told.{IsLawful, KeepsPromise}
use Rattle.tc_io.specs.Verdict.{good}
use Rattle.tc_job.specs.LumaRun.{IsLumaReading, LumaReading}
use Rattle.vitc_reader.specs.Runs.{IsLineLength, MayBeLine, StandFor}
use Rattle.vitc_reader.specs.Written.{runs_in}
use Rattle.signal_commands.specs.declared.luma_lines.TheConstants.{LINE_LENGTH}
use Rattle.signal_commands.specs.LumaVitc.{cut_field, luma_header, most_pixels, told_luma_vitc}
use Rattle.signal_commands.specs.LumaVitc.{written_lines, IsLumaFile, IsReadBack, ReadsThePixels}
use Rattle.signal_commands.proofs.FieldsTold.{AreReadAsWritten}
use Rattle.signal_commands.proofs.LumaIsCommand.{luma_is_command, one_file, LumaLaws}
use Rattle.signal_commands.proofs.MidiLimit.{verdict_by}

-- what the laws of fields, of lines and of their file say
pub record LumaFileLaws : Type 0 where
  pub few : (raster : RasterSize) (field lines : List ℕ) → SaysLines raster field lines → length lines ≤ 20
  pub bits : (raster : RasterSize) (field lines : List ℕ) → SaysLines raster field lines → All IsLine lines
  pub line : (n bits : ℕ) → IsLineLength n → bits < 2 ^ 90 → bits % 2 ≡ 1 → MayBeLine (runs_in n bits)
  pub stand : (n bits : ℕ) → IsLineLength n → bits < 2 ^ 90 → bits % 2 ≡ 1 → StandFor n (runs_in n bits) bits
  pub fit : (n bits : ℕ) (runs : List ℕ) → IsLineLength n → StandFor n runs bits → AreRuns runs
  pub read : AreReadAsWritten

-- a line lasts as long as one may
so_long : IsLineLength LINE_LENGTH
so_long = (lit≤ tt, lit≤ tt)

-- ---- the lines of a field

lines_are : LumaFileLaws → (lines : List ℕ) → All IsLine lines → AreLines (written_lines lines)
lines_are laws [] are = tt
lines_are laws (bits ∷ lines) are =
    let here = All-head IsLine bits lines are in
    let stand = laws.stand LINE_LENGTH bits so_long here.0 here.1 in (
      laws.line LINE_LENGTH bits so_long here.0 here.1,
      laws.fit LINE_LENGTH bits (runs_in LINE_LENGTH bits) so_long stand,
      lines_are laws lines (All-tail IsLine bits lines are),
    )

fields_are : LumaFileLaws → (raster : RasterSize) (fields lines : List (List ℕ))
    → AllZip (SaysLines raster) fields lines → AreFields (map written_lines lines)
fields_are laws raster [] [] say = tt
fields_are laws raster [] (l ∷ lines) say = absurd say
fields_are laws raster (f ∷ fields) [] say = absurd say
fields_are laws raster (f ∷ fields) (l ∷ lines) say = (
  subst (λ (n : ℕ). n ≤ MAX_LINES) (sym (length-map l (runs_in LINE_LENGTH))) (laws.few raster f l say.0),
  lines_are laws l (laws.bits raster f l say.0),
  fields_are laws raster fields lines say.1,
)

they_stand : LumaFileLaws → (raster : RasterSize) (fields lines : List (List ℕ))
    → AllZip (SaysLines raster) fields lines → AllByRecursion (All IsReadBack) lines
they_stand laws raster [] [] say = tt
they_stand laws raster [] (l ∷ lines) say = absurd say
they_stand laws raster (f ∷ fields) [] say = absurd say
they_stand laws raster (f ∷ fields) (l ∷ lines) say = (
  All-weaker IsLine IsReadBack (λ bits is. laws.stand LINE_LENGTH bits so_long is.0 is.1) l
      (laws.bits raster f l say.0),
  they_stand laws raster fields lines say.1,
)

as_many : (R : List ℕ → List ℕ → Type 0) (fields lines : List (List ℕ)) → AllZip R fields lines
    → length lines ≡ length fields
as_many R [] [] all = refl
as_many R [] (l ∷ lines) all = absurd all
as_many R (f ∷ fields) [] all = absurd all
as_many R (f ∷ fields) (l ∷ lines) all = ap suc (as_many R fields lines all.1)

-- ---- the fields of bytes

length-parts : (count size : ℕ) (bytes : List ℕ) → length (parts count size bytes) ≡ count
unfolding parts
length-parts zero size bytes = refl
length-parts (suc count) size bytes = ap suc (length-parts count size (drop size bytes))

joined : (count size : ℕ) (bytes : List ℕ) → length bytes ≡ count * size → concat (parts count size bytes) ≡ bytes
unfolding parts
joined zero size [] long = refl
joined zero size (x ∷ bytes) long = absurd (omega (arith, long))
joined (suc count) size bytes long =
    let times = suc-mul count size in
    let left = length-drop size bytes in
    ap (λ (l : List ℕ). take size bytes ++ l)
    (joined count size (drop size bytes) (omega (arith, long, times, left))) ∙ take-append-drop size bytes

-- nothing is behind the whole fields
no_rest_by : (b : Bool) (n length : ℕ) → (n == 0) ≡ b → cond b None (Some (HalfField length)) ≡ None → n ≡ 0
no_rest_by true n length is none = eqb-true n 0 is
no_rest_by false n length is none = absurd cc

no_rest : (n : ℕ) (bytes : List ℕ) → cond (n == 0) None (Some (HalfField (length bytes))) ≡ None → n ≡ 0
no_rest n bytes none = no_rest_by (n == 0) n (length bytes) refl none

-- there are not too many
few_parts : (count size length rest : ℕ) → 0 < size → length ≡ count * size + rest → length ≤ MAX_FIELDS * size
    → count ≤ MAX_FIELDS
few_parts count size length rest some long most =
    let cases : (count ≤ MAX_FIELDS) ⊎ (MAX_FIELDS + 1 ≤ count) = grind arith in
    elim cases [
      | inl few ↦ few
      | inr many ↦ let m = mul-le-mul_right size many in absurd (omega (arith, m, long, most, some))
    ]

-- ---- what is told of it

reads : LumaFileLaws → (luma : LumaReading) → IsLumaReading luma → 0 < size_of luma.raster → (pulled written : List ℕ)
    → length pulled ≤ most_pixels luma → cut_field luma pulled ≡ None
    → IsLumaFile luma (whole_parts (size_of luma.raster) pulled) written → ReadsThePixels luma pulled written
reads laws luma valid some pulled written most whole is =
    let size = size_of luma.raster in
    let count = length pulled / size in
    let cut = div-add-mod' (length pulled) size in
    let rest = no_rest (length pulled % size) pulled whole in
    let fields = parts count size pulled in
    let few = few_parts count size (length pulled) (length pulled % size) some (omega (arith, cut)) most in
    let many = as_many (SaysLines luma.raster) fields is.lines is.say in
    let long = length-parts count size pulled in
    let same = length-map is.lines written_lines in
    record {
      all = joined count size pulled (omega (arith, cut, rest));
      file = is;
      read = ap reading_of is.file ∙ laws.read (luma_header luma) (map written_lines is.lines) (valid, so_long)
          (fields_are laws luma.raster fields is.lines is.say) (omega (arith, few, many, long, same));
      stand = they_stand laws luma.raster fields is.lines is.say;
    }

within_by : (most n : ℕ) (b : Bool) → nat_lt most n ≡ b → verdict_by b ≡ good → n ≤ most
within_by most n true is e = absurd cc
within_by most n false is e = ltb-false most n is

-- the file names its lines
pub luma_is_lawful : LumaLaws → (luma : LumaReading) → IsLawful (told_luma_vitc luma)
luma_is_lawful laws luma = record {
  command = luma_is_command laws luma;
  pinned = λ pulled a b p q. one_file laws luma (whole_parts (size_of luma.raster) pulled) a b p.file q.file;
  unlimited = λ none input spent. spent;
}

pub luma_is_kept : LumaFileLaws → (luma : LumaReading) → IsLumaReading luma → 0 < size_of luma.raster
    → KeepsPromise (told_luma_vitc luma)
luma_is_kept laws luma valid some = λ pulled written are input output.
    let within = within_by (most_pixels luma) (length pulled) (nat_lt (most_pixels luma) (length pulled)) refl
    input.verdict in
    reads laws luma valid some pulled written within input.end output

-- What the engine of `luma-vitc` keeps. No promise speaks of it.
use Rattle.std.specs.Prelude.{◌≡◌, ℕ, ◌<◌, ◌≤◌, Bool, cond, List, ◌++◌, length, map, take}
use Rattle.std.specs.List.{concat, All, AllZip}
use Rattle.std.proofs.Common.{ap, arith, subst, sym, ◌∙◌}
use Rattle.std.proofs.lemmas.Bool.{le-ltb}
use Rattle.std.proofs.lemmas.List.{take_all}
use Rattle.line_file.specs.Grammar.{file_of}
use Rattle.luma_field.specs.KeptReader.{StandsFor}
use Rattle.luma_field.specs.Parts.{whole_parts}
use Rattle.luma_field.specs.Raster.{size_of}
use Rattle.luma_field.specs.Rows.{SaysLines}
use Rattle.tc_command.specs.Meaning.{Shows}
use Rattle.tc_io.specs.Verdict.{good, past_limit}
use Rattle.tc_job.specs.LumaRun.{LumaReading}
use Rattle.signal_commands.specs.declared.luma_vitc.ReadPixels.{ReadPixels}
use Rattle.signal_commands.specs.LumaVitc.{along_pixels, luma_header, most_pixels, written_lines, IsLumaFile}

-- it was given these whole fields and these first bytes of the next
pub record HasPixels (s : ReadPixels) (fields : List (List ℕ)) (part : List ℕ) : Type 0 where
  pub raster : s.reader.raster ≡ s.run.raster
  pub taken : s.taken ≡ length (concat fields ++ part)
  pub within : s.taken ≤ most_pixels s.run
  pub sizes : All (λ field. length field ≡ size_of s.run.raster) fields
  pub begun : StandsFor s.reader part

-- it was given these bytes; what was written are the header and the whole fields
pub record Stands (s : ReadPixels) (bytes written : List ℕ) : Type 0 where
  pub fields : List (List ℕ)
  pub part : List ℕ
  pub has : HasPixels s fields part
  pub are : bytes ≡ concat fields ++ part
  pub whole : whole_parts (size_of s.run.raster) bytes ≡ fields
  pub lines : List (List ℕ)
  pub say : AllZip (SaysLines s.run.raster) fields lines
  pub file : written ≡ file_of (luma_header s.run) (map written_lines lines)

-- it was given some bytes
abbrev pub IsGoing : ReadPixels → Type 0
IsGoing s = (bytes written : List ℕ) × Stands s bytes written

-- a row begins with these bytes, and is not whole
pub record IsCutRow (s : ReadPixels) (bytes : List ℕ) : Type 0 where
  pub some : 1 ≤ length bytes
  pub few : length bytes < s.run.raster.width
  pub room : s.taken < most_pixels s.run

-- good bytes of these whole fields, where these lines were written
pub shows_fields : (luma : LumaReading) (bytes written : List ℕ) (fields lines : List (List ℕ))
    → length bytes ≤ most_pixels luma → whole_parts (size_of luma.raster) bytes ≡ fields
    → AllZip (SaysLines luma.raster) fields lines
    → written ≡ file_of (luma_header luma) (map written_lines lines)
    → Shows (along_pixels luma) good bytes
    × IsLumaFile luma (whole_parts (size_of luma.raster) (take (most_pixels luma) bytes)) written
shows_fields luma bytes written fields lines within whole say file =
    let most = most_pixels luma in
    let all : fields ≡ whole_parts (size_of luma.raster) (take most bytes) =
    sym whole ∙ ap (λ (l : List ℕ). whole_parts (size_of luma.raster) l) (sym (take_all most bytes within)) in (
      record {
        is = ap (λ (b : Bool). cond b past_limit good) (le-ltb most (length bytes) within);
        unspent = λ spent. spent;
      },
      record {
        lines = lines;
        say = subst (λ (fs : List (List ℕ)). AllZip (SaysLines luma.raster) fs lines) all say;
        file = file;
      },
    )

-- what was written is the part of the bytes
pub stands_well : (s : ReadPixels) (bytes written : List ℕ) → Stands s bytes written
    → Shows (along_pixels s.run) good bytes
    × IsLumaFile s.run (whole_parts (size_of s.run.raster) (take (most_pixels s.run) bytes)) written
stands_well s bytes written stands =
    let long : length bytes ≡ s.taken = ap length stands.are ∙ sym stands.has.taken in
    shows_fields s.run bytes written stands.fields stands.lines (omega (arith, long, stands.has.within)) stands.whole
    stands.say stands.file

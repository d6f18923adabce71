-- What `luma-vitc` writes of some bytes comes first, whatever bytes follow, so it is a command as any other.
use Rattle.std.proofs.Common.{◌≡◌, ℕ, List, [], ◌∷◌, ◌++◌, map, take, drop, refl, sym, ◌∙◌, ap, ap₂, subst}
use Rattle.std.proofs.Common.{append_assoc}
use Rattle.std.specs.List.{flat_map, AllZip}
use Rattle.std.proofs.lemmas.Bool.{false≢true}
use Rattle.std.proofs.lemmas.Grind.{flat_map-append}
use Rattle.std.proofs.lemmas.List.{map-append, take-append-drop}
use Rattle.lemmas.specs.Lists.{first_items}
use Rattle.line_file.specs.Grammar.{field_bytes, file_of}
use Rattle.line_file.specs.LineHeader.{header_bytes}
use Rattle.luma_field.specs.Parts.{whole_parts}
use Rattle.luma_field.specs.Raster.{size_of, RasterSize}
use Rattle.luma_field.specs.Rows.{SaysLines}
use Rattle.tc_command.specs.Command.{IsCommand}
use Rattle.tc_io.specs.Sink.{IsFront}
use Rattle.tc_job.specs.LumaRun.{LumaReading}
use Rattle.signal_commands.specs.LumaVitc.{along_pixels, luma_header, most_pixels, written_lines, IsLumaFile}
use Rattle.signal_commands.proofs.MidiLimit.{never_refused, past_within}

-- what is known of fields
pub record LumaLaws : Type 0 where
  pub some : (raster : RasterSize) (field : List ℕ) → (lines : List ℕ) × SaysLines raster field lines
  pub one : (raster : RasterSize) (field a b : List ℕ) → SaysLines raster field a → SaysLines raster field b → a ≡ b
  pub first : (size : ℕ) (front more : List ℕ)
      → (rest : List (List ℕ)) × (whole_parts size (front ++ more) ≡ whole_parts size front ++ rest)

-- ---- fields

fields_say : LumaLaws → (raster : RasterSize) (fields : List (List ℕ))
    → (lines : List (List ℕ)) × AllZip (SaysLines raster) fields lines
fields_say laws raster [] = ([], tt)
fields_say laws raster (field ∷ fields) =
    let here = laws.some raster field in
    let behind = fields_say laws raster fields in
    (here.0 ∷ behind.0, (here.1, behind.1))

they_say_once : LumaLaws → (raster : RasterSize) (fields a b : List (List ℕ)) → AllZip (SaysLines raster) fields a
    → AllZip (SaysLines raster) fields b → a ≡ b
they_say_once laws raster [] [] [] first second = refl
they_say_once laws raster [] [] (y ∷ ys) first second = absurd second
they_say_once laws raster [] (x ∷ xs) ys first second = absurd first
they_say_once laws raster (f ∷ fields) [] ys first second = absurd first
they_say_once laws raster (f ∷ fields) (x ∷ xs) [] first second = absurd second
they_say_once laws raster (f ∷ fields) (x ∷ xs) (y ∷ ys) first second =
    ap₂ (λ (z : List ℕ) (zs : List (List ℕ)). z ∷ zs) (laws.one raster f x y first.0 second.0)
    (they_say_once laws raster fields xs ys first.1 second.1)

-- the lines of the first fields come first
first_lines : (raster : RasterSize) (fields rest lines : List (List ℕ))
    → AllZip (SaysLines raster) (fields ++ rest) lines
    → (front more : List (List ℕ)) × (lines ≡ front ++ more) × AllZip (SaysLines raster) fields front
first_lines raster [] rest lines say = ([], lines, refl, tt)
first_lines raster (f ∷ fields) rest [] say = absurd say
first_lines raster (f ∷ fields) rest (x ∷ lines) say =
    let more = first_lines raster fields rest lines say.1 in
    (x ∷ more.0, more.1, ap (λ (xs : List (List ℕ)). x ∷ xs) more.2, (say.0, more.3))

-- ---- the file

pub longer_file : (luma : LumaReading) (lines more : List (List ℕ))
    → file_of (luma_header luma) (map written_lines (lines ++ more))
    ≡ file_of (luma_header luma) (map written_lines lines) ++ flat_map field_bytes (map written_lines more)
longer_file luma lines more =
    let head = header_bytes (luma_header luma) in
    let written = map written_lines lines in
    ap (λ (fs : List (List (List ℕ))). head ++ flat_map field_bytes fs) (map-append written_lines lines more)
    ∙ ap (λ (l : List ℕ). head ++ l) (flat_map-append field_bytes written (map written_lines more))
    ∙ sym (append_assoc head (flat_map field_bytes written) (flat_map field_bytes (map written_lines more)))

files_grow : LumaLaws → (luma : LumaReading) (fields rest : List (List ℕ)) (a b : List ℕ) → IsLumaFile luma fields a
    → IsLumaFile luma (fields ++ rest) b → IsFront a b
files_grow laws luma fields rest a b one all =
    let cut = first_lines luma.raster fields rest all.lines all.say in
    let same = they_say_once laws luma.raster fields cut.0 one.lines cut.3 one.say in (
      flat_map field_bytes (map written_lines cut.1),
      all.file ∙ ap (λ (ls : List (List ℕ)). file_of (luma_header luma) (map written_lines ls)) cut.2
          ∙ longer_file luma cut.0 cut.1
          ∙ ap (λ (ls : List (List ℕ)). file_of (luma_header luma) (map written_lines ls)
          ++ flat_map field_bytes (map written_lines cut.1)) same
          ∙ ap (λ (l : List ℕ). l ++ flat_map field_bytes (map written_lines cut.1)) (sym one.file),
    )

some_file : LumaLaws → (luma : LumaReading) (fields : List (List ℕ))
    → (written : List ℕ) × IsLumaFile luma fields written
some_file laws luma fields =
    let say = fields_say laws luma.raster fields in
    (file_of (luma_header luma) (map written_lines say.0), record { lines = say.0; say = say.1; file = refl })

pub one_file : LumaLaws → (luma : LumaReading) (fields : List (List ℕ)) (a b : List ℕ) → IsLumaFile luma fields a
    → IsLumaFile luma fields b → a ≡ b
one_file laws luma fields a b one all =
    let same = they_say_once laws luma.raster fields one.lines all.lines one.say all.say in
    one.file ∙ ap (λ (ls : List (List ℕ)). file_of (luma_header luma) (map written_lines ls)) same ∙ sym all.file

grows : LumaLaws → (luma : LumaReading) (front more a b : List ℕ)
    → IsLumaFile luma (whole_parts (size_of luma.raster) front) a
    → IsLumaFile luma (whole_parts (size_of luma.raster) (front ++ more)) b → IsFront a b
grows laws luma front more a b one all =
    let parts = laws.first (size_of luma.raster) front more in
    files_grow laws luma (whole_parts (size_of luma.raster) front) parts.0 a b one
    (subst (λ (fs : List (List ℕ)). IsLumaFile luma fs b) parts.1 all)

pub luma_is_command : LumaLaws → (luma : LumaReading) → IsCommand (along_pixels luma)
luma_is_command laws luma =
    let most = most_pixels luma in
    let size = size_of luma.raster in
    record {
      first = record {
        part = λ front more a b one all.
            let within = first_items most front more in
            grows laws luma (take most front) within.0 a b one
            (subst (λ (l : List ℕ). IsLumaFile luma (whole_parts size l) b) within.1 all);
        output = λ front more a b one all.
            let first = take most front in
            let behind = drop most front ++ more in
            let joined : front ++ more ≡ first ++ behind =
            ap (λ (l : List ℕ). l ++ more) (sym (take-append-drop most front))
            ∙ append_assoc first (drop most front) more in
            grows laws luma first behind a b one
            (subst (λ (l : List ℕ). IsLumaFile luma (whole_parts size l) b) joined all);
        stays = λ front more spent. spent;
        limit = λ front more a b spent one all. absurd spent;
      };
      some_part = λ bytes. some_file laws luma (whole_parts size (take most bytes));
      some_output = λ input is. some_file laws luma (whole_parts size input);
      one_part = λ bytes a b one all. one_file laws luma (whole_parts size (take most bytes)) a b one all;
      one_output = λ input a b one all. one_file laws luma (whole_parts size input) a b one all;
      fault = λ front rest f e. absurd (never_refused most front f e);
      limit = λ front rest e. past_within most front rest e;
      fault_unspent = λ front rest f e spent. spent;
      limit_unspent = λ front rest e spent. spent;
      ends = λ bytes f e. refl;
      idle = λ e all. absurd (false≢true (sym e));
      idle_part = λ e bytes a b one all. absurd (false≢true (sym e));
      idle_output = λ e bytes a b one all. absurd (false≢true (sym e));
    }

-- With some bytes more a row is longer, or a field is whole and its lines are written.
use Rattle.std.proofs.Common.{◌≡◌, ◌≢◌, ℕ, ◌+◌, ◌*◌, ◌%◌, ◌==◌, ◌<◌, ◌≤◌, ◌⊎◌, inl, inr, Bool, cond, Some, None, List}
use Rattle.std.proofs.Common.{[], ◌∷◌}
use Rattle.std.proofs.Common.{◌++◌, length, map, take, refl, sym, ◌∙◌, ap, ap₂, subst, append_assoc, append-nil}
use Rattle.std.proofs.Common.{length-append, arith}
use Rattle.std.specs.Prelude.{IfNone, IfSome}
use Rattle.std.specs.declared.option.Option.{Option}
use Rattle.std.specs.List.{concat, All, AllZip}
use Rattle.std.proofs.Math.Nat.{mul-le-mul_right}
use Rattle.std.proofs.lemmas.Bool.{ne_eqb}
use Rattle.std.proofs.lemmas.List.{take-append-le}
use Rattle.std.proofs.lemmas.Nat.{mod-mul-add}
use Rattle.std.proofs.lemmas.List.Elements.{All-push}
use Rattle.std.proofs.lemmas.List.Folds.{concat-append}
use Rattle.line_file.specs.declared.decoder.TheConstants.{MAX_FIELDS}
use Rattle.line_file.specs.Grammar.{field_bytes, file_of}
use Rattle.luma_field.specs.KeptReader.{FieldReading, StandsFor}
use Rattle.luma_field.specs.Parts.{whole_parts}
use Rattle.luma_field.specs.Raster.{size_of, RasterSize}
use Rattle.luma_field.specs.Rows.{SaysLines}
use Rattle.tc_command.specs.declared.input_fault.InputFault.TheVariants.{HalfField}
use Rattle.tc_command.specs.declared.halt.Halt.TheVariants as halts
use Rattle.tc_command.specs.Halt.{IsHalt}
use Rattle.tc_command.specs.Meaning.{Shows}
use Rattle.tc_io.specs.Verdict.{good}
use Rattle.tc_job.specs.LumaRun.{LumaReading}
use Rattle.signal_commands.specs.declared.luma_vitc.ReadPixels.{ReadPixels}
use Rattle.signal_commands.specs.KeptLuma.{IsCutRow, Stands, shows_fields, stands_well}
use Rattle.signal_commands.specs.LumaVitc.{along_pixels, cut_field, luma_header, most_pixels, written_lines, IsLumaFile}
use Rattle.signal_commands.proofs.LumaIsCommand.{longer_file}
use Rattle.signal_commands.proofs.MidiLimit.{is_past}

-- parts of one length that were joined are taken apart again
abbrev pub TakenApart : Type 0
TakenApart = (size : ℕ) (parts : List (List ℕ)) (rest : List ℕ) → All (λ part. length part ≡ size) parts
    → length rest < size → whole_parts size (concat parts ++ rest) ≡ parts

-- what is said of an option, where it is known
pub at_some : {X : Type 0} (P : X → Type 0) (o : Option X) (x : X) → o ≡ Some x → IfSome o P → P x
at_some {X} P o x is says = subst (λ (it : Option X). IfSome it P) is says

pub at_none : {X : Type 0} (Q : Type 0) (o : Option X) → o ≡ None → IfNone o Q → Q
at_none {X} Q o is says = subst (λ (it : Option X). IfNone it Q) is says

-- ---- what stands

-- at the limit what was written is the part of the bytes
pub at_limit : (s : ReadPixels) (bytes written more : List ℕ) → Stands s bytes written → s.taken ≡ most_pixels s.run
    → 0 < length more → IsHalt (along_pixels s.run) halts.Limit (bytes ++ more) (written ++ [])
at_limit s bytes written more stands full some =
    let most = most_pixels s.run in
    let size = size_of s.run.raster in
    let long : length bytes ≡ s.taken = ap length stands.are ∙ sym stands.has.taken in
    let both = length-append bytes more in
    let front : take most (bytes ++ more) ≡ take most bytes =
    take-append-le most bytes more (omega (arith, long, full)) in
    inl (
      record { is = is_past most (bytes ++ more) (omega (arith, long, full, both, some)); unspent = λ spent. spent },
      subst (λ (w : List ℕ). IsLumaFile s.run (whole_parts size (take most (bytes ++ more))) w)
          (sym (append-nil written))
          (subst (λ (l : List ℕ). IsLumaFile s.run (whole_parts size l) written) (sym front)
          (stands_well s bytes written stands).1),
    )

-- ---- bytes more

-- there is room for a whole field where there is room for a byte
room_for_one : (count most size part : ℕ) → count * size + part < most * size → count * size + size ≤ most * size
room_for_one count most size part fits =
    let cases : (count + 1 ≤ most) ⊎ (most ≤ count) = grind arith in
    elim cases [
      | inl room ↦ let m = mul-le-mul_right size room in omega (arith, m)
      | inr full ↦ let m = mul-le-mul_right size full in absurd (omega (arith, m, fits))
    ]

-- how long parts of one length are that were joined
abbrev pub AreAsLong : Type 0
AreAsLong = (size : ℕ) (parts : List (List ℕ)) → All (λ part. length part ≡ size) parts
    → length (concat parts) ≡ length parts * size

-- a field that has begun goes on
pub row_longer : TakenApart → AreAsLong → (s : ReadPixels) (r : FieldReading) (t : ℕ) (bytes written more : List ℕ)
    (stands : Stands s bytes written) → r.raster ≡ s.reader.raster → t ≡ s.taken + length more
    → s.taken < most_pixels s.run → StandsFor r (stands.part ++ more)
    → Stands (record s { reader = r; taken = t }) (bytes ++ more) written
row_longer apart long s r t bytes written more stands same count room begun =
    let raster = same ∙ stands.has.raster in
    let size = size_of s.run.raster in
    let part = stands.part ++ more in
    let all = concat stands.fields ++ part in
    let are : bytes ++ more ≡ all =
    ap (λ (l : List ℕ). l ++ more) stands.are ∙ append_assoc (concat stands.fields) stands.part more in
    let few : length part < size = subst (λ (x : ℕ). length part < x) (ap size_of raster) begun.few in
    let fields = long size stands.fields stands.has.sizes in
    let before = length-append (concat stands.fields) stands.part in
    let now = length-append (concat stands.fields) part in
    let more_of = length-append stands.part more in
    let fits = room_for_one (length stands.fields) MAX_FIELDS size (length stands.part)
    (omega (arith, fields, before, stands.has.taken, room)) in
    record {
      fields = stands.fields;
      part = part;
      has = record {
        raster = raster;
        taken = omega (arith, count, stands.has.taken, before, now, more_of);
        within = omega (arith, count, stands.has.taken, before, more_of, fields, few, fits);
        sizes = stands.has.sizes;
        begun = begun;
      };
      are = are;
      whole = ap (whole_parts size) are ∙ apart size stands.fields part stands.has.sizes few;
      lines = stands.lines;
      say = stands.say;
      file = stands.file;
    }

one_more_says : (R : List ℕ → List ℕ → Type 0) (fields lines : List (List ℕ)) (field line : List ℕ)
    → AllZip R fields lines → R field line → AllZip R (fields ++ field ∷ []) (lines ++ line ∷ [])
one_more_says R [] [] field line all is = (is, tt)
one_more_says R [] (l ∷ lines) field line all is = absurd all
one_more_says R (f ∷ fields) [] field line all is = absurd all
one_more_says R (f ∷ fields) (l ∷ lines) field line all is = (all.0, one_more_says R fields lines field line all.1 is)

one_more_field : (fields : List (List ℕ)) (field : List ℕ)
    → concat (fields ++ field ∷ []) ++ [] ≡ concat fields ++ field
one_more_field fields field =
    append-nil (concat (fields ++ field ∷ [])) ∙ concat-append fields (field ∷ [])
    ∙ ap (λ (l : List ℕ). concat fields ++ l) (append-nil field)

-- its lines behind those before
file_with : (luma : LumaReading) (lines : List (List ℕ)) (line written : List ℕ)
    → written ≡ file_of (luma_header luma) (map written_lines lines)
    → written ++ field_bytes (written_lines line)
    ≡ file_of (luma_header luma) (map written_lines (lines ++ line ∷ []))
file_with luma lines line written are =
    let new = field_bytes (written_lines line) in
    ap (λ (l : List ℕ). l ++ new) are
    ∙ ap (λ (l : List ℕ). file_of (luma_header luma) (map written_lines lines) ++ l) (sym (append-nil new))
    ∙ sym (longer_file luma lines (line ∷ []))

-- a field is whole
pub field_whole : TakenApart → AreAsLong → (s next : ReadPixels) (bytes written more line : List ℕ)
    (stands : Stands s bytes written) → next.run ≡ s.run → next.reader.raster ≡ s.reader.raster
    → next.taken ≡ s.taken + length more → s.taken < most_pixels s.run
    → length (stands.part ++ more) ≡ size_of s.reader.raster → SaysLines s.reader.raster (stands.part ++ more) line
    → StandsFor next.reader []
    → Stands next (bytes ++ more) (written ++ field_bytes (written_lines line))
field_whole apart long s next bytes written more line stands run same count room whole says begun =
    let pushed = field_bytes (written_lines line) in
    let here = stands.has.raster in
    let size = size_of s.run.raster in
    let field = stands.part ++ more in
    let fields = stands.fields ++ field ∷ [] in
    let is_whole : length field ≡ size = whole ∙ ap size_of here in
    let are : bytes ++ more ≡ concat fields ++ [] =
    ap (λ (l : List ℕ). l ++ more) stands.are ∙ append_assoc (concat stands.fields) stands.part more
    ∙ sym (one_more_field stands.fields field) in
    let sizes = All-push (λ f. length f ≡ size) stands.fields field stands.has.sizes is_whole in
    let few : 0 < size = subst (λ (x : ℕ). 0 < x) (ap size_of (same ∙ here)) begun.few in
    let before = length-append (concat stands.fields) stands.part in
    let of_fields = long size stands.fields stands.has.sizes in
    let more_of = length-append stands.part more in
    let all : length (concat fields ++ []) ≡ length (concat stands.fields) + length field =
    ap length (one_more_field stands.fields field) ∙ length-append (concat stands.fields) field in
    let fits = room_for_one (length stands.fields) MAX_FIELDS size (length stands.part)
    (omega (arith, of_fields, before, stands.has.taken, room)) in
    let now : Stands (record next { run = s.run }) (bytes ++ more) (written ++ pushed) = record {
      fields = fields;
      part = [];
      has = record {
        raster = same ∙ here;
        taken = omega (arith, count, stands.has.taken, before, all, more_of);
        within = omega (arith, count, stands.has.taken, before, more_of, of_fields, is_whole, fits);
        sizes = sizes;
        begun = begun;
      };
      are = are;
      whole = ap (whole_parts size) are ∙ apart size fields [] sizes few;
      lines = stands.lines ++ line ∷ [];
      say = one_more_says (SaysLines s.run.raster) stands.fields stands.lines field line stands.say
          (subst (λ (x : RasterSize). SaysLines x field line) here says);
      file = file_with s.run stands.lines line written stands.file;
    } in
    subst (λ (x : LumaReading). Stands (record next { run = x }) (bytes ++ more) (written ++ pushed)) (sym run) now

-- ---- the end

-- the lines of all fields were written
pub all_fields : (s : ReadPixels) (bytes written : List ℕ) → Stands s bytes written
    → IsLumaFile s.run (whole_parts (size_of s.run.raster) bytes) written
all_fields s bytes written stands = record {
  lines = stands.lines;
  say = subst (λ (fs : List (List ℕ)). AllZip (SaysLines s.run.raster) fs stands.lines) (sym stands.whole) stands.say;
  file = stands.file;
}

pub length-taken : (s : ReadPixels) (bytes written : List ℕ) → Stands s bytes written → length bytes ≡ s.taken
length-taken s bytes written stands = ap length stands.are ∙ sym stands.has.taken

-- what is behind the whole fields
rest_of : (luma : LumaReading) (bytes : List ℕ) (taken size : ℕ) → length bytes ≡ taken → size ≡ size_of luma.raster
    → length bytes % size_of luma.raster ≡ taken % size
rest_of luma bytes taken size long is = ap₂ (λ (n m : ℕ). n % m) long (sym is)

-- nothing is, or it is a part of a field
pub whole_end : (luma : LumaReading) (bytes : List ℕ) (taken size : ℕ) → length bytes ≡ taken
    → size ≡ size_of luma.raster → taken % size ≡ 0 → cut_field luma bytes ≡ None
whole_end luma bytes taken size long is none =
    ap (λ (n : ℕ). cond (n == 0) None (Some (HalfField (length bytes)))) (rest_of luma bytes taken size long is ∙ none)

pub cut_end : (luma : LumaReading) (bytes : List ℕ) (taken size : ℕ) → length bytes ≡ taken
    → size ≡ size_of luma.raster → taken % size ≢ 0 → cut_field luma bytes ≡ Some (HalfField taken)
cut_end luma bytes taken size long is some =
    ap (λ (n : ℕ). cond (n == 0) None (Some (HalfField (length bytes)))) (rest_of luma bytes taken size long is)
    ∙ ap (λ (b : Bool). cond b None (Some (HalfField (length bytes)))) (ne_eqb (taken % size) 0 some)
    ∙ ap (λ (n : ℕ). Some (HalfField n)) long

-- ---- a cut row

-- bytes that are less than a row say nothing more
pub row_cut : TakenApart → AreAsLong → (s : ReadPixels) (bytes written few : List ℕ) → IsCutRow s few
    → (stands : Stands s bytes written)
    → (length stands.part + length few < size_of s.run.raster) × Shows (along_pixels s.run) good (bytes ++ few)
    × IsLumaFile s.run (whole_parts (size_of s.run.raster) (take (most_pixels s.run) (bytes ++ few))) written
row_cut apart long s bytes written few cut stands =
    let size = size_of s.run.raster in
    let part = stands.part ++ few in
    let room = subst (λ (r : RasterSize). length stands.part + r.width ≤ size_of r) stands.has.raster
    stands.has.begun.room in
    let both = length-append stands.part few in
    let less : length part < size = omega (arith, both, room, cut.few) in
    let are : bytes ++ few ≡ concat stands.fields ++ part =
    ap (λ (l : List ℕ). l ++ few) stands.are ∙ append_assoc (concat stands.fields) stands.part few in
    let all = ap length are in
    let now = length-append (concat stands.fields) part in
    let before = length-append (concat stands.fields) stands.part in
    let fields = long size stands.fields stands.has.sizes in
    let fits = room_for_one (length stands.fields) MAX_FIELDS size (length stands.part)
    (omega (arith, fields, before, stands.has.taken, cut.room)) in
    let shows = shows_fields s.run (bytes ++ few) written stands.fields stands.lines
    (omega (arith, all, now, fields, less, fits))
    (ap (whole_parts size) are ∙ apart size stands.fields part stands.has.sizes less) stands.say stands.file in
    (omega (arith, less, both), shows.0, shows.1)

-- an input that ends with them ends inside a field
pub row_cut_end : TakenApart → AreAsLong → (s : ReadPixels) (bytes written few : List ℕ) → IsCutRow s few
    → (stands : Stands s bytes written)
    → cut_field s.run (bytes ++ few) ≡ Some (HalfField (s.taken + length few))
row_cut_end apart long s bytes written few cut stands =
    let size = size_of s.run.raster in
    let count = length stands.fields in
    let rest = length stands.part + length few in
    let less = (row_cut apart long s bytes written few cut stands).0 in
    let fields = long size stands.fields stands.has.sizes in
    let before = length-append (concat stands.fields) stands.part in
    let taken = length-taken s bytes written stands in
    let both = length-append bytes few in
    let all : length (bytes ++ few) ≡ s.taken + length few = omega (arith, both, taken) in
    let sum : s.taken + length few ≡ count * size + rest = omega (arith, stands.has.taken, before, fields) in
    let over : (s.taken + length few) % size ≡ rest = ap (λ (n : ℕ). n % size) sum ∙ mod-mul-add count size rest less in
    cut_end s.run (bytes ++ few) (s.taken + length few) size all refl
    (λ none. omega (arith, sym over ∙ none, cut.some))

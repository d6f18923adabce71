-- A format that a sound file is read with was judged, so its rate is from the least that is asked for to 6,250,000, and
-- the ticks are not too
-- many.
use Rattle.std.proofs.Common.{◌≡◌, ℕ, zero, suc, ◌+◌, ◌*◌, ◌≤◌, Bool, true, false, not, ◌&&◌, List, [], ◌∷◌, length}
use Rattle.std.proofs.Common.{take, drop}
use Rattle.std.proofs.Common.{Option, Some, None, refl, subst, sym, ◌∙◌}
use Rattle.std.specs.Prelude.{nat_le, nat_lt, ◌==◌, if◌then◌else◌, Result, Ok, Err}
use Rattle.std.proofs.lemmas.Bool.{and_parts, leb-true}
use Rattle.byteorder.specs.Endian.{big_number, little_number}
use Rattle.wave_file.specs.declared.chunk.Chunk.{Chunk}
use Rattle.wave_file.specs.declared.chunk.Chunk.TheVariants as chunk
use Rattle.wave_file.specs.declared.chunk.Extent.{Extent}
use Rattle.wave_file.specs.declared.chunk.Notes.{Notes}
use Rattle.wave_file.specs.declared.chunk.TheConstants.{DATA, FORMAT, SIZES, WAVE}
use Rattle.file_faults.specs.declared.sound.WaveFault.{WaveFault}
use Rattle.file_faults.specs.declared.sound.WaveFault.TheVariants as fault
use Rattle.wave_file.specs.declared.format.WaveFormat.{WaveFormat}
use Rattle.wave_file.specs.declared.stage.TheConstants.{MAX_BYTES}
use Rattle.wave_file.specs.Chunk.{chunk_of, data_in, data_with, extent_of, form_of, no_notes}
use Rattle.wave_file.specs.Format.{field_fault, format_in, format_of, is_pcm, is_rate, is_sample_size, is_track_count}
use Rattle.wave_file.specs.Format.{unless}
use Rattle.wave_file.specs.Wave.{bad, behind_form, chunk_at, chunks_at, file_at, padded, piece, Reading, reading_of}
use Rattle.wave_file.specs.Wave.{taken, unfinished}
use Rattle.wave_file.specs.Wave.{and_more, wave_at}
use Rattle.wave_file.specs.declared.format.Asked.{Asked}

-- the format has a rate that a file may have
abbrev IsRated : Asked → WaveFormat → Type 0
IsRated asked format = (asked.least_rate ≤ format.rate) × (format.rate ≤ 6_250_000)

record HasRate (asked : Asked) (reading : Reading) : Type 0 where
  rated : (format : WaveFormat) → reading.format ≡ Some format → IsRated asked format

abbrev AreRated : Asked → Notes → Type 0
AreRated asked notes = (format : WaveFormat) → notes.format ≡ Some format → IsRated asked format

-- ---- a format

rate_of_passed : (a b c d e f : Bool) (p q r s t u : WaveFault)
    → (if not a then Some p else if not b then Some q else if not c then Some r else if not d then Some s
    else if not e then Some t else if f then Some u else None) ≡ None → c ≡ true
rate_of_passed true true true d e f p q r s t u none = refl
rate_of_passed _ _ _ _ _ _ p q r s t u none = absurd cc

format_rate : (asked : Asked) (place : ℕ) (pcm : Bool) (f : WaveFormat) → field_fault asked place pcm f ≡ None
    → IsRated asked f
format_rate asked place pcm f none =
    let passed = rate_of_passed pcm (is_track_count f.tracks) (is_rate asked.least_rate f.rate)
    (8 * f.block == f.tracks * f.bits)
    (is_sample_size f.bits) (nat_lt f.tracks asked.track) _ _ _ _ _ _ none in
    let rate = and_parts _ _ passed in
    (leb-true asked.least_rate f.rate rate.0, leb-true f.rate 6_250_000 rate.1)

judged : (asked : Asked) (failed : Option WaveFault) (f format : WaveFormat) → (failed ≡ None → IsRated asked f)
    → unless failed f ≡ Ok format
    → IsRated asked format
judged asked None f format rated is = let same : f ≡ format = cc in subst (IsRated asked) same (rated refl)
judged asked (Some failed) f format rated is = absurd cc

-- ---- what follows

nothing_has : (asked : Asked) (reading : Reading) → reading.format ≡ None → HasRate asked reading
nothing_has asked reading none =
    record { rated = λ format is. let no : None ≡ Some format = sym none ∙ is in absurd cc }

piece_has : (asked : Asked) (width : ℕ) (brings : List ℕ → List ℕ → Reading) (bytes : List ℕ)
    → ((body rest : List ℕ) → HasRate asked (brings body rest)) → HasRate asked (piece width brings bytes)
piece_has asked width brings bytes each = by_length (nat_le width (length bytes))
  where
    by_length : (enough : Bool)
        → HasRate asked (if enough then brings (take width bytes) (drop width bytes) else unfinished)
    by_length true = each (take width bytes) (drop width bytes)
    by_length false = nothing_has asked unfinished refl

taken_has : (asked : Asked) → {A : Type 0} → (result : Result A WaveFault) (next : A → Reading)
    → ((value : A) → result ≡ Ok value → HasRate asked (next value)) → HasRate asked (taken result next)
taken_has asked (Ok value) next each = each value refl
taken_has asked (Err failed) next each = nothing_has asked (bad failed) refl

-- ---- chunks

-- data have a format that was judged
abbrev IsRatedChunk : Asked → Chunk → Type 0
IsRatedChunk asked (chunk.Format size) = Unit {0}
IsRatedChunk asked (chunk.Sizes size) = Unit {0}
IsRatedChunk asked (chunk.Data format extent) = IsRated asked format
IsRatedChunk asked (chunk.Other size) = Unit {0}

data_rated : (asked : Asked) (place : ℕ) (extent : Option Extent) (noted : Option WaveFormat) (own : Chunk)
    → ((format : WaveFormat) → noted ≡ Some format → IsRated asked format) → data_with place extent noted ≡ Ok own
    → IsRatedChunk asked own
data_rated asked place None noted own rated is = absurd cc
data_rated asked place (Some extent) None own rated is = absurd cc
data_rated asked place (Some extent) (Some format) own rated is =
    let same : chunk.Data format extent ≡ own = cc in subst (IsRatedChunk asked) same (rated format refl)

chunk_rated : (asked : Asked) (is_data is_format is_sizes short short_too : Bool) (place size : ℕ)
    (found : Result Chunk WaveFault)
    (own : Chunk) → (found ≡ Ok own → IsRatedChunk asked own)
    → (if is_data then found
    else if is_format then (if short then Err (fault.Format place) else Ok (chunk.Format size))
    else if is_sizes then (if short_too then Err (fault.Ds64 place) else Ok (chunk.Sizes size))
    else Ok (chunk.Other size)) ≡ Ok own → IsRatedChunk asked own
chunk_rated asked true is_format is_sizes short short_too place size found own rated is = rated is
chunk_rated asked false true is_sizes true short_too place size found own rated is = absurd cc
chunk_rated asked false true is_sizes false short_too place size found own rated is =
    let same : chunk.Format size ≡ own = cc in subst (IsRatedChunk asked) same tt
chunk_rated asked false false true short true place size found own rated is = absurd cc
chunk_rated asked false false true short false place size found own rated is =
    let same : chunk.Sizes size ≡ own = cc in subst (IsRatedChunk asked) same tt
chunk_rated asked false false false short short_too place size found own rated is =
    let same : chunk.Other size ≡ own = cc in subst (IsRatedChunk asked) same tt

chunk_of_rated : (asked : Asked) (notes : Notes) (place letters size : ℕ) (own : Chunk) → AreRated asked notes
    → chunk_of notes place letters size ≡ Ok own → IsRatedChunk asked own
chunk_of_rated asked notes place letters size own noted is =
    chunk_rated asked (letters == DATA) (letters == FORMAT) ((letters == SIZES) && notes.is_long) (nat_lt size 16)
    (nat_lt size 16) place size (data_in notes place size) own
    (data_rated asked place (extent_of notes place size) notes.format own noted) is

-- a format that is noted
some_rated : (asked : Asked) (format : WaveFormat) → IsRated asked format → (other : WaveFormat)
    → Some format ≡ Some other → IsRated asked other
some_rated asked format rated other same = let equal : format ≡ other = cc in subst (IsRated asked) equal rated

chunk_has : (asked : Asked) (notes : Notes) (place : ℕ) (own : Chunk) (next : ℕ → Notes → Reading) (bytes : List ℕ)
    → AreRated asked notes → IsRatedChunk asked own
    → ((size : ℕ) (more : Notes) → AreRated asked more → HasRate asked (next size more))
    → HasRate asked (chunk_at asked notes place own next bytes)
chunk_has asked notes place (chunk.Format size) next bytes noted rated each =
    piece_has asked _ _ bytes (λ body rest. taken_has asked (format_in asked place body) _ (λ format is.
    let own = judged asked (field_fault asked place (is_pcm body) (format_of body)) (format_of body) format
    (format_rate asked place (is_pcm body) (format_of body)) is in
    each size (record notes { format = Some format }) (some_rated asked format own)))
chunk_has asked notes place (chunk.Sizes size) next bytes noted rated each =
    piece_has asked _ _ bytes
    (λ body rest. each size (record notes { data_size = Some (little_number 8 (drop 8 body)) }) noted)
chunk_has asked notes place (chunk.Data format extent) next bytes noted rated each =
    record { rated = some_rated asked format rated }
chunk_has asked notes place (chunk.Other size) next bytes noted rated each = each size notes noted

chunks_have : (asked : Asked) (skip : ℕ) (notes : Notes) (place : ℕ) (bytes : List ℕ) → AreRated asked notes
    → HasRate asked (chunks_at asked skip notes place bytes)
unfolding chunks_at
chunks_have asked (suc skip) notes place (byte ∷ more) noted = chunks_have asked skip notes (place + 1) more noted
chunks_have asked zero notes place (a ∷ b ∷ c ∷ d ∷ e ∷ f ∷ g ∷ h ∷ more) noted =
    taken_has asked (chunk_of notes place (big_number 4 (a ∷ b ∷ c ∷ d ∷ [])) (little_number 4 (e ∷ f ∷ g ∷ h ∷ []))) _
    (λ own is. chunk_has asked notes (place + 8) own _ more noted
    (chunk_of_rated asked notes place (big_number 4 (a ∷ b ∷ c ∷ d ∷ [])) (little_number 4 (e ∷ f ∷ g ∷ h ∷ [])) own
    noted is)
    (λ size later known. chunks_have asked (padded size) later (place + 8) more known))
chunks_have asked skip notes place bytes noted = nothing_has asked unfinished refl

-- ---- the file

wave_has : (asked : Asked) (is_long : Bool) (bytes : List ℕ) → HasRate asked (wave_at asked is_long bytes)
wave_has asked is_long bytes =
    piece_has asked 8
    (λ wave rest. if big_number 4 (drop 4 wave) == WAVE
    then chunks_at asked 0 (no_notes is_long (little_number 4 wave)) 12 rest
    else bad (fault.Wave 8)) bytes
    (λ wave rest. by_letters (big_number 4 (drop 4 wave) == WAVE) (little_number 4 wave) rest)
  where
    by_letters : (is_wave : Bool) (size : ℕ) (rest : List ℕ)
        → HasRate asked (if is_wave then chunks_at asked 0 (no_notes is_long size) 12 rest else bad (fault.Wave 8))
    by_letters true size rest =
        chunks_have asked 0 (no_notes is_long size) 12 rest (λ format is. let no : None ≡ Some format = is in absurd cc)
    by_letters false size rest = nothing_has asked (bad (fault.Wave 8)) refl

form_has : (asked : Asked) (form : Option Bool) (bytes : List ℕ) → HasRate asked (behind_form asked form bytes)
form_has asked None bytes = nothing_has asked (bad (fault.Riff 0)) refl
form_has asked (Some is_long) bytes = wave_has asked is_long bytes

file_has : (asked : Asked) (bytes : List ℕ) → HasRate asked (file_at asked bytes)
file_has asked bytes =
    piece_has asked 4 (λ letters rest. behind_form asked (form_of (big_number 4 letters)) rest) bytes
    (λ letters rest. form_has asked (form_of (big_number 4 letters)) rest)

reading_has : (asked : Asked) (bytes : List ℕ) → HasRate asked (reading_of asked bytes)
reading_has asked bytes = by_size (nat_le (length bytes) MAX_BYTES)
  where
    by_size : (few : Bool) → HasRate asked (if few then file_at asked bytes
        else let r = file_at asked (take MAX_BYTES bytes) in record r { verdict = and_more r.verdict; may_end = false })
    by_size true = file_has asked bytes
    by_size false = record { rated = (file_has asked (take MAX_BYTES bytes)).rated }

pub judged_rate : (asked : Asked) (bytes : List ℕ) (format : WaveFormat) → (reading_of asked bytes).format ≡ Some format
    → (asked.least_rate ≤ format.rate) × (format.rate ≤ 6_250_000)
judged_rate asked bytes = (reading_has asked bytes).rated

-- What bytes show of a sound file they show whatever follows: a piece that is whole stays so, and the blocks of more
-- bytes begin with theirs.
use Rattle.std.proofs.Common.{true, false, ◌≡◌, ℕ, zero, suc, ◌+◌, ◌-◌, ◌*◌, ◌/◌, ◌<◌, ◌≤◌, ◌⊎◌, inl, inr, min, Bool}
use Rattle.std.proofs.Common.{List, [], ◌∷◌, ◌++◌, length, take, drop}
use Rattle.std.proofs.Common.{refl, ap, ap₂, ◌∙◌, arith, sym, Option, Some, None}
use Rattle.std.specs.Prelude.{nat_le, ◌==◌, ℤ, if◌then◌else◌, Result, Ok, Err}
use Rattle.std.proofs.lemmas.Bool.{cases_lt, le-leb, lt-leb, leb-true, leb-false}
use Rattle.std.proofs.lemmas.Nat.{le-div}
use Rattle.std.proofs.Math.Nat.{div-mul-le_self}
use Rattle.std.proofs.lemmas.List.{length-append, length-drop, take-append-le, drop-append-le}
use Rattle.std.proofs.Math.Nat.{suc-mul}
use Rattle.std.proofs.Math.Seq.{take-append-add}
use Rattle.byteorder.specs.Endian.{big_number, little_number}
use Rattle.wave_file.specs.declared.chunk.Chunk.{Chunk}
use Rattle.wave_file.specs.declared.chunk.Chunk.TheVariants as chunk
use Rattle.wave_file.specs.declared.chunk.Extent.{Extent}
use Rattle.wave_file.specs.declared.chunk.Extent.TheVariants.{Announced, Open}
use Rattle.wave_file.specs.declared.chunk.Notes.{Notes}
use Rattle.wave_file.specs.declared.chunk.TheConstants.{WAVE}
use Rattle.file_faults.specs.declared.sound.WaveFault.{WaveFault}
use Rattle.file_faults.specs.declared.sound.WaveFault.TheVariants as fault
use Rattle.wave_file.specs.declared.format.WaveFormat.{WaveFormat}
use Rattle.wave_file.specs.declared.stage.TheConstants.{MAX_BYTES}
use Rattle.wave_file.specs.Chunk.{chunk_of, form_of, no_notes}
use Rattle.wave_file.specs.Format.{format_in, sample_in, samples_at}
use Rattle.wave_file.specs.GoesOn.{GoesOn}
use Rattle.wave_file.specs.Wave.{Reading, and_more, bad, behind_form, blocks_inside, bytes_inside, chunk_at}
use Rattle.wave_file.specs.Wave.{chunks_at}
use Rattle.tc_io.specs.Verdict.{Verdict, good, refused, past_limit}
use Rattle.wave_file.specs.Wave.{data_at, file_at, judged_width, padded, piece, reading_of, taken, unfinished}
use Rattle.wave_file.specs.declared.format.Asked.{Asked}

-- ---- a piece

pub same_goes_on : (r : Reading) → GoesOn r r
same_goes_on r = record {
  format = inr refl;
  samples = ([], sym (append_none r.samples));
  fault = λ f e. e;
  limit =
      λ e. e;
}
  where
    append_none : (l : List ℤ) → l ++ [] ≡ l
    append_none [] = refl
    append_none (x ∷ l) = ap (λ (m : List ℤ). x ∷ m) (append_none l)

-- bytes that end before the data begin say nothing yet
unfinished_goes_on : (r : Reading) → GoesOn unfinished r
unfinished_goes_on r = record {
  format = inl refl;
  samples = (r.samples, refl);
  fault = λ f e. absurd cc;
  limit =
      λ e. absurd cc;
}

-- what a whole piece brings goes on
piece_goes_on : (width : ℕ) (brings later : List ℕ → List ℕ → Reading) (bytes more : List ℕ)
    → ((body rest : List ℕ) → GoesOn (brings body rest) (later body (rest ++ more)))
    → GoesOn (piece width brings bytes) (piece width later (bytes ++ more))
piece_goes_on width brings later bytes more goes = by_test (nat_le width (length bytes)) refl
  where
    by_test : (b : Bool) → nat_le width (length bytes) ≡ b
        → GoesOn (if b then brings (take width bytes) (drop width bytes) else unfinished)
        (piece width later (bytes ++ more))
    by_test false e = unfinished_goes_on _
    by_test true e =
        let within = leb-true width (length bytes) e in
        let all = length-append bytes more in
        let there : nat_le width (length (bytes ++ more)) ≡ true =
        le-leb width (length (bytes ++ more)) (omega (arith, within, all)) in
        rw (there, take-append-le width bytes more within, drop-append-le width bytes more within)
        (goes (take width bytes) (drop width bytes))

taken_goes_on : {A : Type 0} (r : Result A WaveFault) (next later : A → Reading)
    → ((value : A) → GoesOn (next value) (later value))
    → GoesOn (taken r next) (taken r later)
taken_goes_on (Ok value) next later goes = goes value
taken_goes_on (Err f) next later goes = same_goes_on (bad f)

-- ---- data

more_inside : (extent : Extent) (bytes more : List ℕ) → bytes_inside extent bytes ≤ bytes_inside extent (bytes ++ more)
more_inside (Announced n) bytes more = let all = length-append bytes more in omega (arith, all)
more_inside Open bytes more = let all = length-append bytes more in omega (arith, all)

no_more_inside : (extent : Extent) (bytes : List ℕ) → bytes_inside extent bytes ≤ length bytes
no_more_inside (Announced n) bytes = omega arith
no_more_inside Open bytes = omega arith

-- of more bytes there are no fewer blocks
more_blocks : (a b block : ℕ) → a ≤ b → a / block ≤ b / block
more_blocks a b zero less = omega arith
more_blocks a b (suc n) less = let whole = div-mul-le_self a (suc n) in le-div (a / suc n) b (suc n) (omega arith)
    (omega (arith, whole, less))

-- the samples of the blocks that are there come first
samples_first : (format : WaveFormat) (asked : Asked) (count others : ℕ) (bytes more : List ℕ) → count ≤ others
    → count * format.block ≤ length bytes
    → (rest : List ℤ) × (samples_at format asked others (bytes ++ more) ≡ samples_at format asked count bytes ++ rest)
unfolding samples_at
samples_first format asked zero others bytes more less there = (samples_at format asked others (bytes ++ more), refl)
samples_first format asked (suc count) zero bytes more less there = absurd (omega (arith, less))
samples_first format asked (suc count) (suc others) bytes more less there =
    let w = format.block in
    let one = suc-mul count w in
    let within : w ≤ length bytes = omega (arith, there, one) in
    let left = length-drop w bytes in
    let rest = samples_first format asked count others (drop w bytes) more (omega (arith, less))
    (omega (arith, there, one, left)) in (
      rest.0,
      ap₂ (λ (block behind : List ℕ). sample_in format asked block ∷ samples_at format asked others behind)
          (take-append-le w bytes more within) (drop-append-le w bytes more within)
          ∙ ap (λ (l : List ℤ). sample_in format asked (take w bytes) ∷ l) rest.1,
    )

never_refused : (b : Bool) (f : WaveFault) → ¬ ((if b then good else past_limit) ≡ refused f)
never_refused true f e = absurd cc
never_refused false f e = absurd cc

is_past : (b : Bool) → if◌then◌else◌ {A = Verdict WaveFault} b good past_limit ≡ past_limit → b ≡ false
is_past true e = absurd cc
is_past false e = refl

data_goes_on : (asked : Asked) (format : WaveFormat) (extent : Extent) (room : ℕ) (bytes more : List ℕ)
    → GoesOn (data_at asked format extent room bytes) (data_at asked format extent room (bytes ++ more))
data_goes_on asked format extent room bytes more =
    let count = blocks_inside format extent bytes in
    let all = blocks_inside format extent (bytes ++ more) in
    let no_fewer : count ≤ all = more_blocks _ _ format.block (more_inside extent bytes more) in
    let whole = div-mul-le_self (bytes_inside extent bytes) format.block in
    let inside = no_more_inside extent bytes in
    let taken : min room count ≤ count = omega arith in
    let fits : min room count * format.block ≤ length bytes =
    let fewer = times_le (min room count) count format.block taken in omega (arith, fewer, whole, inside) in
    record {
      format = inr refl;
      samples = samples_first format asked (min room count) (min room all) bytes more (omega (arith, no_fewer)) fits;
      fault = λ f e. absurd (never_refused (nat_le count room) f e);
      limit = λ e.
          let past = leb-false count room (is_past (nat_le count room) e) in
          ap (λ (b : Bool). if b then good else past_limit) (lt-leb all room (omega (arith, past, no_fewer)));
    }
  where
    times_le : (a b n : ℕ) → a ≤ b → a * n ≤ b * n
    times_le zero b n less = omega arith
    times_le (suc a) zero n less = absurd (omega (arith, less))
    times_le (suc a) (suc b) n less =
        let rest = times_le a b n (omega (arith, less)) in
        let one = suc-mul a n in
        let other = suc-mul b n in omega (arith, rest, one, other)

-- ---- chunks

-- the format in the bytes of a chunk, and what comes behind them; and the size of the data in the bytes of another
abbrev pub format_brings : Asked → Notes → ℕ → (Notes → Reading) → List ℕ → Reading
format_brings asked notes place next body =
    taken (format_in asked place body) (λ format. next (record notes { format = Some format }))

abbrev pub sizes_bring : Notes → (Notes → Reading) → List ℕ → Reading
sizes_bring notes next body = next (record notes { data_size = Some (little_number 8 (drop 8 body)) })

-- what a chunk begins, if the chunks behind its bytes go on
chunk_goes_on : (asked : Asked) (notes : Notes) (place : ℕ) (chunk : Chunk) (next later : ℕ → Notes → Reading)
    (bytes more : List ℕ)
    → ((size : ℕ) (n : Notes) → GoesOn (next size n) (later size n))
    → GoesOn (chunk_at asked notes place chunk next bytes) (chunk_at asked notes place chunk later (bytes ++ more))
chunk_goes_on asked notes place (chunk.Format size) next later bytes more behind =
    piece_goes_on (judged_width size) (λ body rest. format_brings asked notes place (next size) body)
    (λ body rest. format_brings asked notes place (later size) body) bytes more
    (λ body rest. taken_goes_on (format_in asked place body)
    (λ format. next size (record notes { format = Some format }))
    (λ format. later size (record notes { format = Some format }))
    (λ format. behind size (record notes { format = Some format })))
chunk_goes_on asked notes place (chunk.Sizes size) next later bytes more behind =
    piece_goes_on 16 (λ body rest. sizes_bring notes (next size) body)
    (λ body rest. sizes_bring notes (later size) body) bytes more
    (λ body rest. behind size (record notes { data_size = Some (little_number 8 (drop 8 body)) }))
chunk_goes_on asked notes place (chunk.Data format extent) next later bytes more behind =
    data_goes_on asked format extent asked.most_samples bytes more
chunk_goes_on asked notes place (chunk.Other size) next later bytes more behind = behind size notes

chunks_go_on : (asked : Asked) (skip : ℕ) (notes : Notes) (place : ℕ) (bytes more : List ℕ)
    → GoesOn (chunks_at asked skip notes place bytes) (chunks_at asked skip notes place (bytes ++ more))
unfolding chunks_at
chunks_go_on asked (suc skip) notes place (byte ∷ bytes) more = chunks_go_on asked skip notes (place + 1) bytes more
chunks_go_on asked zero notes place (a ∷ b ∷ c ∷ d ∷ e ∷ f ∷ g ∷ h ∷ bytes) more =
    let next = λ (size : ℕ) (n : Notes). chunks_at asked (padded size) n (place + 8) bytes in
    let later = λ (size : ℕ) (n : Notes). chunks_at asked (padded size) n (place + 8) (bytes ++ more) in
    taken_goes_on (chunk_of notes place (big_number 4 (a ∷ b ∷ c ∷ d ∷ [])) (little_number 4 (e ∷ f ∷ g ∷ h ∷ [])))
    (λ chunk. chunk_at asked notes (place + 8) chunk next bytes)
    (λ chunk. chunk_at asked notes (place + 8) chunk later (bytes ++ more))
    (λ chunk. chunk_goes_on asked notes (place + 8) chunk next later bytes more
    (λ size n. chunks_go_on asked (padded size) n (place + 8) bytes more))
chunks_go_on asked skip notes place bytes more = unfinished_goes_on (chunks_at asked skip notes place (bytes ++ more))

-- ---- the file

file_goes_on : (asked : Asked) (bytes more : List ℕ) → GoesOn (file_at asked bytes) (file_at asked (bytes ++ more))
file_goes_on asked bytes more =
    let brings = λ (letters rest : List ℕ). behind_form asked (form_of (big_number 4 letters)) rest in
    piece_goes_on 4 brings brings bytes more (λ letters rest. by_form (form_of (big_number 4 letters)) rest)
  where
    by_letters : (b is_long : Bool) (size : ℕ) (rest : List ℕ)
        → GoesOn (if b then chunks_at asked 0 (no_notes is_long size) 12 rest else bad (fault.Wave 8))
        (if b then chunks_at asked 0 (no_notes is_long size) 12 (rest ++ more) else bad (fault.Wave 8))
    by_letters true is_long size rest = chunks_go_on asked 0 (no_notes is_long size) 12 rest more
    by_letters false is_long size rest = same_goes_on _

    by_form : (form : Option Bool) (rest : List ℕ)
        → GoesOn (behind_form asked form rest) (behind_form asked form (rest ++ more))
    by_form None rest = same_goes_on _
    by_form (Some is_long) rest =
        let brings = λ (wave rest : List ℕ). if big_number 4 (drop 4 wave) == WAVE
        then chunks_at asked 0 (no_notes is_long (little_number 4 wave)) 12 rest
        else bad (fault.Wave 8) in
        piece_goes_on 8 brings brings rest more
        (λ wave rest. by_letters (big_number 4 (drop 4 wave) == WAVE) is_long (little_number 4 wave) rest)

-- past the greatest number of bytes nothing that was shown changes
cut_goes_on : (r s : Reading) → GoesOn r s → GoesOn r (record s { verdict = and_more s.verdict; may_end = false })
cut_goes_on r s goes = record {
  format = goes.format;
  samples = goes.samples;
  fault = λ f e. ap and_more (goes.fault f e);
  limit = λ e. ap and_more (goes.limit e);
}

pub reading_goes_on : (asked : Asked) (bytes more : List ℕ)
    → GoesOn (reading_of asked bytes) (reading_of asked (bytes ++ more))
reading_goes_on asked bytes more = go (cases_lt MAX_BYTES (length bytes)) (cases_lt MAX_BYTES (length (bytes ++ more)))
  where
    within : (l : List ℕ) → length l ≤ MAX_BYTES → nat_le (length l) MAX_BYTES ≡ true
    within l e = le-leb (length l) MAX_BYTES e

    over : (l : List ℕ) → MAX_BYTES < length l → nat_le (length l) MAX_BYTES ≡ false
    over l e = lt-leb (length l) MAX_BYTES e

    go : (MAX_BYTES < length bytes) ⊎ (length bytes ≤ MAX_BYTES) → (MAX_BYTES < length (bytes ++ more))
        ⊎ (length (bytes ++ more) ≤ MAX_BYTES)
        → GoesOn (reading_of asked bytes) (reading_of asked (bytes ++ more))
    go (inr few) (inr fewer) = rw (within bytes few, within (bytes ++ more) fewer) (file_goes_on asked bytes more)
    go (inr few) (inl many) =
        let left = MAX_BYTES - length bytes in
        let limit : MAX_BYTES ≡ length bytes + left = omega (arith, few) in
        let cut : take MAX_BYTES (bytes ++ more) ≡ bytes ++ take left more =
        ap (λ (n : ℕ). take n (bytes ++ more)) limit ∙ take-append-add bytes more left in
        rw (within bytes few, over (bytes ++ more) many, cut)
        (cut_goes_on (file_at asked bytes) (file_at asked (bytes ++ take left more))
        (file_goes_on asked bytes (take left more)))
    go (inl much) (inl many) =
        let cut : take MAX_BYTES (bytes ++ more) ≡ take MAX_BYTES bytes =
        take-append-le MAX_BYTES bytes more (omega (arith, much)) in
        rw (over bytes much, over (bytes ++ more) many, cut) (same_goes_on _)
    go (inl much) (inr fewer) = let all = length-append bytes more in absurd (omega (arith, much, fewer, all))

-- The data and the chunks that a writer makes are read as they were written.
use Rattle.std.proofs.Common.{true, ◌≡◌, ◌≢◌, ℕ, ◌+◌, ◌-◌, ◌*◌, ◌/◌, ◌%◌, ◌<◌, ◌≤◌}
use Rattle.std.proofs.Common.{◌^◌, min, Bool, List, [], ◌∷◌, ◌++◌, Some}
use Rattle.std.proofs.Common.{length, drop, replicate, refl, ap, ◌∙◌, arith, sym, append_assoc}
use Rattle.std.specs.Prelude.{◌==◌, Result, Ok, if◌then◌else◌}
use Rattle.std.specs.List.{AllByRecursion}
use Rattle.std.proofs.lemmas.Bool.{le-leb, ne_eqb}
use Rattle.std.proofs.Math.Nat.{mod-eq_of_lt}
use Rattle.std.proofs.lemmas.List.{append-nil, length-append, length-replicate}
use Rattle.byteorder.specs.Endian.{big_number, little_bytes, little_number}
use Rattle.byteorder.specs.Numbers.{big_number-reads_back}
use Rattle.byteorder.specs.Numbers.{little_number-reads_back}
use Rattle.wave_file.specs.declared.chunk.Chunk.{Chunk}
use Rattle.wave_file.specs.declared.chunk.Chunk.TheVariants as chunk
use Rattle.wave_file.specs.declared.chunk.Extent.{Extent}
use Rattle.wave_file.specs.declared.chunk.Extent.TheVariants.{Announced, Open}
use Rattle.wave_file.specs.declared.chunk.Notes.{Notes}
use Rattle.wave_file.specs.declared.chunk.TheConstants.{FORMAT, SIZES, DATA}
use Rattle.file_faults.specs.declared.sound.WaveFault.{WaveFault}
use Rattle.wave_file.specs.declared.format.WaveFormat.{WaveFormat}
use Rattle.wave_file.specs.Chunk.{chunk_of}
use Rattle.wave_file.specs.Format.{samples_at, IsTakenFor}
use Rattle.wave_file.specs.Grammar.{Sample, OtherChunk, IsBlock, IsOther, chunk_text, data_text}
use Rattle.wave_file.specs.Grammar.{head_text}
use Rattle.wave_file.specs.Grammar.{others_text, read_whole, track_of}
use Rattle.wave_file.specs.Stage.{extent_behind, HasBytes}
use Rattle.wave_file.specs.Step.{with_samples}
use Rattle.wave_file.specs.Wave.{bytes_inside, chunk_at, chunks_at, data_at}
use Rattle.wave_file.specs.Wave.{may_end_at, padded, taken}
use Rattle.tc_io.specs.Verdict.{good, past_limit}
use Rattle.wave_file.proofs.Blocks.{blocks_more, none_inside, same_reading}
use Rattle.wave_file.proofs.Pieces.{chunks_skip, head_brings}
use Rattle.wave_file.proofs.WrittenSamples.{data_length, samples_read}
use Rattle.wave_file.specs.declared.format.Asked.{Asked}

-- ---- data

-- nothing of the data is left
nothing_left : (asked : Asked) (format : WaveFormat) (extent : Extent) (room : ℕ) (tail : List ℕ) → 1 ≤ format.block
    → bytes_inside extent tail ≡ 0 → may_end_at format.block extent tail ≡ true
    → data_at asked format extent room tail ≡ read_whole format []
unfolding samples_at
nothing_left asked format extent room tail some inside ends =
    let none : bytes_inside extent tail / format.block ≡ 0 =
    ap (λ (n : ℕ). n / format.block) inside ∙ (let n = none_inside 0 format.block 1 (omega (arith, some)) in omega
    (arith, n)) in
    let all : min room (bytes_inside extent tail / format.block) ≡ 0 = omega (arith, none) in
    same_reading (Some format) _ _ _ _ _ _ (ap (λ (n : ℕ). samples_at format asked n tail) all)
    (ap (λ (b : Bool). if b then good else past_limit) (le-leb (bytes_inside extent tail / format.block) room
    (omega (arith, none)))) ends

-- the extent is that of `count` bytes, whatever follows them, or nothing follows
abbrev pub Covers : Extent → ℕ → List ℕ → Type 0
Covers (Announced n) count tail = n ≡ count
Covers Open count tail = tail ≡ []

at_end : (n : ℕ) → 1 ≤ n → (0 % n == 0) ≡ true
at_end n some = let less : 0 < n = omega (arith, some) in ap (λ (m : ℕ). m == 0) (mod-eq_of_lt less)

pub data_read : (asked : Asked) (format : WaveFormat) (extent : Extent) (blocks : List (List Sample)) (tail : List ℕ)
    → IsTakenFor asked format → AllByRecursion (IsBlock format) blocks → length blocks ≤ asked.most_samples
    → Covers extent (length (data_text blocks)) tail
    → data_at asked format extent asked.most_samples (data_text blocks ++ tail) ≡ read_whole format
    (track_of asked.track blocks)
data_read asked format extent blocks tail fits whole few covers =
    let count = length blocks in
    let size = data_length format asked blocks fits whole in
    blocks_more asked format count extent asked.most_samples (data_text blocks) tail size fits.some
    (has extent size covers) few
    ∙ ap (with_samples (samples_at format asked count (data_text blocks))) (left extent size covers)
    ∙ same_reading (Some format) _ _ _ _ _ _
    (append-nil (samples_at format asked count (data_text blocks))
    ∙ samples_read format asked blocks fits whole) refl refl
  where
    has : (extent : Extent) → length (data_text blocks) ≡ length blocks * format.block
        → Covers extent (length (data_text blocks)) tail
        → HasBytes (length blocks * format.block) extent
    has (Announced n) size covers = omega (arith, size, covers)
    has Open size covers = tt

    left : (extent : Extent) → length (data_text blocks) ≡ length blocks * format.block
        → Covers extent (length (data_text blocks)) tail
        → data_at asked format (extent_behind extent (length blocks * format.block))
        (asked.most_samples - length blocks) tail
        ≡ read_whole format []
    left (Announced n) size covers =
        let none : n - length blocks * format.block ≡ 0 = omega (arith, size, covers) in
        ap (λ (n : ℕ). data_at asked format (Announced n) (asked.most_samples - length blocks) tail) none
        ∙ nothing_left asked format (Announced 0) (asked.most_samples - length blocks) tail fits.some (omega arith)
        (le-leb 0 (length tail) (omega arith))
    left Open size covers =
        ap (λ (l : List ℕ). data_at asked format Open (asked.most_samples - length blocks) l) covers
        ∙ nothing_left asked format Open (asked.most_samples - length blocks) [] fits.some refl
        (at_end format.block fits.some)

-- ---- the head of a chunk

record Head (letters size : ℕ) : Type 0 where
  letters_are : big_number 4 (head_text letters size) ≡ letters
  size_is : little_number 4 (drop 4 (head_text letters size)) ≡ size
  long : length (head_text letters size) ≡ 8

head_read : (letters size : ℕ) → letters < 2 ^ 32 → size < 2 ^ 32 → Head letters size
head_read letters size a b = record {
  letters_are = big_number-reads_back 4 letters (little_bytes 4 size) (omega (arith, a));
  size_is = little_number-reads_back 4 size [] (omega (arith, b));
  long = refl;
}

-- what a head brings, by the chunk that it begins
pub begun : (asked : Asked) (notes : Notes) (place letters size : ℕ) (more : List ℕ) (r : Result Chunk WaveFault)
    → letters < 2 ^ 32 → size < 2 ^ 32
    → chunk_of notes place letters size ≡ r
    → chunks_at asked 0 notes place (head_text letters size ++ more) ≡ taken r
    (λ chunk. chunk_at asked notes (place + 8) chunk (λ size notes. chunks_at asked (padded size) notes
    (place + 8) more) more)
begun asked notes place letters size more r a b is =
    let h = head_read letters size a b in
    head_brings asked notes place (head_text letters size) more r h.long (rw (h.letters_are, h.size_is) is)

-- ---- chunks that are passed over

is_other : (notes : Notes) (place letters size : ℕ) → letters ≢ DATA → letters ≢ FORMAT → letters ≢ SIZES
    → chunk_of notes place letters size ≡ Ok (chunk.Other size)
is_other notes place letters size a b c = rw (ne_eqb letters DATA a, ne_eqb letters FORMAT b, ne_eqb letters SIZES c)
    refl

-- the bytes of a chunk with its padding
body_length : (body : List ℕ) → length (body ++ replicate (length body % 2) 0) ≡ padded (length body)
body_length body =
    let sum = length-append body (replicate (length body % 2) 0) in
    let more = length-replicate {A = ℕ} (length body % 2) 0 in omega (arith, sum, more)

other_read : (asked : Asked) (notes : Notes) (place : ℕ) (c : OtherChunk) (more : List ℕ) → IsOther c
    → chunks_at asked 0 notes place (chunk_text c.letters c.body ++ more)
    ≡ chunks_at asked 0 notes (place + length (chunk_text c.letters c.body)) more
other_read asked notes place c more other =
    let size = length c.body in
    let head = head_text c.letters size in
    let body = c.body ++ replicate (size % 2) 0 in
    let sum = length-append head body in
    let bytes = body_length c.body in
    ap (λ (l : List ℕ). chunks_at asked 0 notes place l) (append_assoc head body more)
    ∙ begun asked notes place c.letters size (body ++ more) (Ok (chunk.Other size)) other.letters other.size
    (is_other notes place c.letters size other.no_data other.no_format other.no_sizes)
    ∙ chunks_skip asked notes body more (padded size) 0 (place + 8) (omega (arith, bytes))
    ∙ ap (λ (n : ℕ). chunks_at asked 0 notes n more) (let e : place + 8 + length body ≡ place + length (head
    ++ body) = omega (arith, sum) in e)

pub others_read : (asked : Asked) (notes : Notes) (place : ℕ) (chunks : List OtherChunk) (more : List ℕ)
    → AllByRecursion IsOther chunks
    → chunks_at asked 0 notes place (others_text chunks ++ more)
    ≡ chunks_at asked 0 notes (place + length (others_text chunks)) more
others_read asked notes place [] more all =
    let none : place + 0 ≡ place = omega arith in ap (λ (n : ℕ). chunks_at asked 0 notes n more) (sym none)
others_read asked notes place (c ∷ chunks) more all =
    let first = chunk_text c.letters c.body in
    let rest = others_text chunks in
    let sum = length-append first rest in
    ap (λ (l : List ℕ). chunks_at asked 0 notes place l) (append_assoc first rest more)
    ∙ other_read asked notes place c (rest ++ more) all.0
    ∙ others_read asked notes (place + length first) chunks more all.1
    ∙ ap (λ (n : ℕ). chunks_at asked 0 notes n more) (let e : place + length first + length rest
    ≡ place + length (first ++ rest) = omega (arith, sum) in e)

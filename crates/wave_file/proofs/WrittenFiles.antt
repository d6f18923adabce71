-- What a writer makes is read as it was written: each part is a whole piece, judged by itself, and the data are their
-- blocks.
use Rattle.std.proofs.Common.{true, false, ◌≡◌, ◌⊎◌, inl, inr, ℕ, zero, suc, ◌+◌, ◌-◌, ◌*◌, ◌/◌, ◌<◌, ◌≤◌}
use Rattle.std.proofs.Common.{◌^◌, Bool, List, [], ◌++◌, Option, Some, None}
use Rattle.std.proofs.Common.{length, drop, refl, ap, ap₂, ◌∙◌, arith, sym}
use Rattle.std.specs.Prelude.{◌==◌, ◌&&◌, nat_le, nat_lt, Ok, if◌then◌else◌}
use Rattle.std.proofs.lemmas.Bool.{eq-eqb, le-leb, le-ltb, lt-leb, ne_eqb}
use Rattle.std.proofs.lemmas.Nat.{mul-le}
use Rattle.std.proofs.Math.Nat.{mul_left_comm}
use Rattle.byteorder.specs.Endian.{big_bytes, big_number, little_bytes, little_number}
use Rattle.byteorder.specs.Numbers.{big_number-reads_back}
use Rattle.byteorder.specs.Numbers.{little_number-reads_back}
use Rattle.wave_file.specs.declared.chunk.Chunk.TheVariants as chunk
use Rattle.wave_file.specs.declared.chunk.Extent.{Extent}
use Rattle.wave_file.specs.declared.chunk.Extent.TheVariants.{Announced, Open}
use Rattle.wave_file.specs.declared.chunk.Notes.{Notes}
use Rattle.wave_file.specs.declared.chunk.TheConstants.{RIFF, RF64, BW64, WAVE, FORMAT, SIZES, DATA, NO_SIZE}
use Rattle.wave_file.specs.declared.chunk.TheConstants.{LEAST_OPEN_SIZE}
use Rattle.file_faults.specs.declared.sound.WaveFault.{WaveFault}
use Rattle.file_faults.specs.declared.sound.WaveFault.TheVariants as fault
use Rattle.wave_file.specs.declared.format.WaveFormat.{WaveFormat}
use Rattle.wave_file.specs.Chunk.{chunk_of, extent_of, form_of, is_open, long_extent, no_notes}
use Rattle.wave_file.specs.Format.{field_fault, format_in, format_of, is_pcm, is_rate, is_sample_size, is_track_count}
use Rattle.wave_file.specs.Format.{unless, IsTakenFor}
use Rattle.wave_file.specs.Grammar.{Sample, OtherChunk, AreParts, behind_head, chunk_text, data_text}
use Rattle.wave_file.specs.Grammar.{format_text, head_text}
use Rattle.wave_file.specs.Grammar.{file_of, long_file_of, others_text, read_whole, sizes_text, track_of}
use Rattle.wave_file.specs.Grammar.{IsMadeOf, TellsALongSize, TellsItsSize, TellsNoSize}
use Rattle.wave_file.specs.Wave.{bad, behind_form, chunks_at, file_at}
use Rattle.wave_file.specs.Wave.{reading_of, taken}
use Rattle.wave_file.proofs.Answered.{within_file}
use Rattle.wave_file.proofs.Pieces.{chunks_skip, format_brings, piece_whole, sizes_bring}
use Rattle.wave_file.proofs.WrittenSamples.{data_length}
use Rattle.wave_file.specs.declared.format.Asked.{Asked}
use Rattle.wave_file.proofs.WrittenChunks.{Covers, begun, data_read, others_read}

-- ---- the format

same_format : (a b c d e f g h : ℕ) → a ≡ e → b ≡ f → c ≡ g → d ≡ h
    → let one : WaveFormat = record { tracks = a; rate = b; block = c; bits = d } in
    let other : WaveFormat = record { tracks = e; rate = f; block = g; bits = h } in one ≡ other
same_format a b c d e f g h p q r s = rw (p, q, r, s) refl

format_back : (asked : Asked) (f : WaveFormat) → IsTakenFor asked f → format_of (format_text f) ≡ f
format_back asked f fits =
    let most = fits.most in
    let rate = fits.rate_most in
    let room = fits.room in
    let bits = fits.bits_most in
    let behind_rate = little_bytes 4 (f.rate * f.block) ++ (little_bytes 2 f.block ++ little_bytes 2 f.bits) in
    same_format _ _ _ _ f.tracks f.rate f.block f.bits
    (little_number-reads_back 2 f.tracks (little_bytes 4 f.rate ++ behind_rate) (omega (arith, most)))
    (little_number-reads_back 4 f.rate behind_rate (omega (arith, rate)))
    (little_number-reads_back 2 f.block (little_bytes 2 f.bits) (omega (arith, room)))
    (little_number-reads_back 2 f.bits [] (omega (arith, bits)))

is_size : (bits : ℕ) → 8 ≤ bits → bits ≤ 32 → bits ≡ 8 * (bits / 8) → is_sample_size bits ≡ true
is_size bits least most whole = go (bits / 8) whole
  where
    go : (q : ℕ) → bits ≡ 8 * q → is_sample_size bits ≡ true
    go zero e = absurd (omega (arith, e, least))
    go (suc zero) e = rw e refl
    go (suc (suc zero)) e = rw e refl
    go (suc (suc (suc zero))) e = rw e refl
    go (suc (suc (suc (suc zero)))) e = rw e refl
    go (suc (suc (suc (suc (suc q))))) e = absurd (omega (arith, e, most))

no_fault : (asked : Asked) (place : ℕ) (f : WaveFormat) → IsTakenFor asked f → field_fault asked place true f ≡ None
no_fault asked place f fits =
    let tracks : is_track_count f.tracks ≡ true =
    both (nat_le 1 f.tracks) (nat_le f.tracks 64) (le-leb 1 f.tracks (some fits.first fits.among))
    (le-leb f.tracks 64 fits.most) in
    let rate : is_rate asked.least_rate f.rate ≡ true = both (nat_le asked.least_rate f.rate) (nat_le f.rate 6_250_000)
    (le-leb asked.least_rate f.rate fits.rate_asked) (le-leb f.rate 6_250_000 fits.rate_most) in
    let block : (8 * f.block == f.tracks * f.bits) ≡ true = eq-eqb (8 * f.block) (f.tracks * f.bits)
    (ap (λ (n : ℕ). 8 * n) fits.block ∙ mul_left_comm 8 f.tracks (f.bits / 8)
    ∙ ap (λ (n : ℕ). f.tracks * n) (sym fits.whole)) in
    let bits = is_size f.bits fits.bits_least fits.bits_most fits.whole in
    let among : nat_lt f.tracks asked.track ≡ false = le-ltb f.tracks asked.track fits.among in
    rw (tracks, rate, block, bits, among) refl
  where
    both : (a b : Bool) → a ≡ true → b ≡ true → (a && b) ≡ true
    both a b p q = rw (p, q) refl

    some : 1 ≤ asked.track → asked.track ≤ f.tracks → 1 ≤ f.tracks
    some a b = omega (arith, a, b)

format_read : (asked : Asked) (place : ℕ) (f : WaveFormat) → IsTakenFor asked f
    → format_in asked place (format_text f) ≡ Ok f
format_read asked place f fits =
    let body = format_text f in
    let back = format_back asked f fits in
    let pcm : is_pcm body ≡ true = refl in
    let none : field_fault asked place (is_pcm body) (format_of body) ≡ None =
    ap₂ (λ (pcm : Bool) (g : WaveFormat). field_fault asked place pcm g) pcm back ∙ no_fault asked place f fits in
    ap₂ (λ (fault : Option WaveFault) (g : WaveFormat). unless fault g) none back

-- the chunk of the format, whose place is that behind its head
format_chunk : (asked : Asked) (notes : Notes) (place : ℕ) (f : WaveFormat) (more : List ℕ) → IsTakenFor asked f
    → chunks_at asked 0 notes place (chunk_text FORMAT (format_text f) ++ more)
    ≡ chunks_at asked 0 (record notes { format = Some f }) (place + 24) more
format_chunk asked notes place f more fits =
    let head = head_text FORMAT 16 in
    let body = format_text f in
    begun asked notes place FORMAT 16 (body ++ more) (Ok (chunk.Format 16)) (omega arith) (omega arith) refl
    ∙ format_brings asked notes (place + 8) 16 body more f refl (format_read asked (place + 8) f fits)
    ∙ ap (λ (n : ℕ). chunks_at asked 0 (record notes { format = Some f }) n more) (let e : place + 8 + 16
    ≡ place + 24 = omega arith in e)

-- ---- long sizes

sizes_chunk : (asked : Asked) (place file_size size data_size : ℕ) (more : List ℕ) → data_size < 2 ^ 64
    → chunks_at asked 0 (no_notes true size) place (chunk_text SIZES (sizes_text file_size data_size) ++ more)
    ≡ chunks_at asked 0 (record (no_notes true size) { data_size = Some data_size }) (place + 36) more
sizes_chunk asked place file_size size data_size more below =
    let notes = no_notes true size in
    let front = little_bytes 8 file_size ++ little_bytes 8 data_size in
    let rest = little_bytes 8 0 ++ little_bytes 4 0 in
    let is : little_number 8 (drop 8 front) ≡ data_size = little_number-reads_back 8 data_size []
    (omega (arith, below)) in
    begun asked notes place SIZES 28 (front ++ (rest ++ more)) (Ok (chunk.Sizes 28)) (omega arith) (omega arith) refl
    ∙ sizes_bring asked notes (place + 8) 28 front (rest ++ more) refl (omega arith)
    ∙ ap (λ (k : ℕ). chunks_at asked 12 (record notes { data_size = Some (little_number 8 (drop 8 front)) }) k (rest
    ++ more))
    (let e : place + 8 + length front ≡ place + 24 = omega arith in e)
    ∙ ap (λ (n : ℕ). chunks_at asked 12 (record notes { data_size = Some n }) (place + 24) (rest ++ more)) is
    ∙ chunks_skip asked (record notes { data_size = Some data_size }) rest more 12 0 (place + 24) refl
    ∙ ap (λ (n : ℕ). chunks_at asked 0 (record notes { data_size = Some data_size }) n more) (let e : place + 24 + 12
    ≡ place + 36 = omega arith in e)

-- ---- behind the form

-- the notes that the data find
abbrev noted : Notes → WaveFormat → Notes
noted notes format = record notes { format = Some format }

pub behind_read : (asked : Asked) (notes : Notes) (place : ℕ) (before : List OtherChunk) (format : WaveFormat)
    (size : ℕ)
    (blocks : List (List Sample)) (tail : List ℕ) (extent : Extent) → AreParts asked before format blocks
    → size < 2 ^ 32
    → extent_of (noted notes format) (place + length (others_text before) + 24) size ≡ Some extent
    → Covers extent (length (data_text blocks)) tail
    → chunks_at asked 0 notes place (behind_head before format size blocks tail)
    ≡ read_whole format (track_of asked.track blocks)
behind_read asked notes place before format size blocks tail extent parts below is covers =
    let there = place + length (others_text before) in
    let bytes = data_text blocks ++ tail in
    let extent_is : chunk_of (noted notes format) (there + 24) DATA size ≡ Ok (chunk.Data format extent) = rw is refl in
    others_read asked notes place before (chunk_text FORMAT (format_text format)
    ++ (head_text DATA size ++ bytes)) parts.others
    ∙ format_chunk asked notes there format (head_text DATA size ++ bytes) parts.taken
    ∙ begun asked (noted notes format) (there + 24) DATA size bytes (Ok (chunk.Data format extent))
    (omega arith) below extent_is
    ∙ data_read asked format extent blocks tail parts.taken parts.whole parts.few covers

-- the form, the size behind it, and the letters WAVE
pub form_read : (asked : Asked) (form size : ℕ) (is_long : Bool) (rest : List ℕ) → form < 2 ^ 32 → size < 2 ^ 32
    → form_of form ≡ Some is_long
    → file_at asked (head_text form size ++ (big_bytes 4 WAVE
    ++ rest)) ≡ chunks_at asked 0 (no_notes is_long size) 12 rest
form_read asked form size is_long rest a b is =
    let letters = big_bytes 4 form in
    let wave = little_bytes 4 size ++ big_bytes 4 WAVE in
    let letters_are : big_number 4 letters ≡ form = big_number-reads_back 4 form [] (omega (arith, a)) in
    let size_is : little_number 4 wave ≡ size = little_number-reads_back 4 size (big_bytes 4 WAVE) (omega (arith, b)) in
    piece_whole 4 (λ (letters rest : List ℕ). behind_form asked (form_of (big_number 4 letters)) rest) letters (wave
    ++ rest) refl
    ∙ ap (λ (form : Option Bool). behind_form asked form (wave ++ rest)) (ap form_of letters_are ∙ is)
    ∙ piece_whole 8 (λ (wave rest : List ℕ). if big_number 4 (drop 4 wave) == WAVE
    then chunks_at asked 0 (no_notes is_long (little_number 4 wave)) 12 rest else bad (fault.Wave 8)) wave rest refl
    ∙ ap (λ (n : ℕ). chunks_at asked 0 (no_notes is_long n) 12 rest) size_is

-- ---- whole files

behind_others : (before : List OtherChunk) → 12 + length (others_text before) + 24 ≡ 36 + length (others_text before)
behind_others before = omega arith

pub file_read : (asked : Asked) (file_size : ℕ) (before : List OtherChunk) (format : WaveFormat) (size : ℕ)
    (blocks : List (List Sample))
    (tail : List ℕ) (extent : Extent) → AreParts asked before format blocks → file_size < 2 ^ 32 → size < 2 ^ 32
    → extent_of (noted (no_notes false file_size) format) (36 + length (others_text before)) size ≡ Some extent
    → Covers extent (length (data_text blocks)) tail
    → file_at asked (file_of file_size before format size blocks tail) ≡ read_whole format (track_of asked.track blocks)
file_read asked file_size before format size blocks tail extent parts a b is covers =
    form_read asked RIFF file_size false (behind_head before format size blocks tail) (omega arith) a refl
    ∙ behind_read asked (no_notes false file_size) 12 before format size blocks tail extent parts b
    (ap (λ (n : ℕ). extent_of (noted (no_notes false file_size) format) n size) (behind_others before) ∙ is) covers

pub long_file_read : (asked : Asked) (form file_size data_size : ℕ) (before : List OtherChunk) (format : WaveFormat)
    (blocks : List (List Sample))
    (tail : List ℕ) (extent : Extent) → AreParts asked before format blocks → form < 2 ^ 32 → form_of form ≡ Some true
    → data_size < 2 ^ 64
    → long_extent (Some data_size) ≡ Some extent
    → Covers extent (length (data_text blocks)) tail
    → file_at asked (long_file_of form file_size data_size before format blocks tail)
    ≡ read_whole format (track_of asked.track blocks)
long_file_read asked form file_size data_size before format blocks tail extent parts a is b told covers =
    let rest = behind_head before format NO_SIZE blocks tail in
    form_read asked form NO_SIZE true (chunk_text SIZES (sizes_text file_size data_size) ++ rest) a (omega arith) is
    ∙ sizes_chunk asked 12 file_size NO_SIZE data_size rest b
    ∙ behind_read asked (record (no_notes true NO_SIZE) { data_size = Some data_size }) 48 before format NO_SIZE blocks
    tail extent parts
    (omega arith) told covers

-- ---- how far the data go

-- a size that is none of those that say no length
told_size : (file_size place size : ℕ) (format : WaveFormat) → 1 ≤ size → size < 2 ^ 31 - 2 ^ 16
    → extent_of (noted (no_notes false file_size) format) place size ≡ Some (Announced size)
told_size file_size place size format some less =
    let greatest = ne_eqb size NO_SIZE (λ e. omega (arith, e, less)) in
    let great = lt-leb LEAST_OPEN_SIZE size (omega (arith, less)) in
    let none = ne_eqb size 0 (λ e. omega (arith, e, some)) in
    rw (greatest, great, none) refl

pub told_file : (asked : Asked) (file_size : ℕ) (before : List OtherChunk) (format : WaveFormat)
    (blocks : List (List Sample))
    (tail : List ℕ)
    → AreParts asked before format blocks → 1 ≤ length blocks → file_size < 2 ^ 32
    → length (data_text blocks) < 2 ^ 31 - 2 ^ 16
    → file_at asked (file_of file_size before format (length (data_text blocks)) blocks tail)
    ≡ read_whole format (track_of asked.track blocks)
told_file asked file_size before format blocks tail parts some a less =
    let size = data_length format asked blocks parts.taken parts.whole in
    let bytes = mul-le 1 1 (length blocks) format.block some parts.taken.some in
    file_read asked file_size before format (length (data_text blocks)) blocks tail
    (Announced (length (data_text blocks))) parts a
    (omega (arith, less)) (told_size file_size _ (length (data_text blocks)) format
    (omega (arith, size, bytes)) less) refl

pub streamed_file : (asked : Asked) (file_size size : ℕ) (before : List OtherChunk) (format : WaveFormat)
    (blocks : List (List Sample))
    → AreParts asked before format blocks → file_size < 2 ^ 32 → size < 2 ^ 32
    → is_open (no_notes false file_size) (36 + length (others_text before)) size ≡ true
    → file_at asked (file_of file_size before format size blocks []) ≡ read_whole format (track_of asked.track blocks)
streamed_file asked file_size size before format blocks parts a b untold =
    file_read asked file_size before format size blocks [] Open parts a b (rw untold refl) refl

pub long_told_file : (asked : Asked) (form file_size : ℕ) (before : List OtherChunk) (format : WaveFormat)
    (blocks : List (List Sample)) (tail : List ℕ)
    → AreParts asked before format blocks → 1 ≤ length blocks → (form ≡ RF64) ⊎ (form ≡ BW64)
    → length (data_text blocks) < 2 ^ 64
    → file_at asked (long_file_of form file_size (length (data_text blocks)) before format blocks tail)
    ≡ read_whole format (track_of asked.track blocks)
long_told_file asked form file_size before format blocks tail parts some is less =
    let size = data_length format asked blocks parts.taken parts.whole in
    let bytes = mul-le 1 1 (length blocks) format.block some parts.taken.some in
    let all = length (data_text blocks) in
    long_file_read asked form file_size all before format blocks tail (Announced all) parts (below form is)
    (long form is) less
    (announced all (omega (arith, size, bytes))) refl
  where
    below : (form : ℕ) → (form ≡ RF64) ⊎ (form ≡ BW64) → form < 2 ^ 32
    below form (inl e) = rw e (omega arith)
    below form (inr e) = rw e (omega arith)

    long : (form : ℕ) → (form ≡ RF64) ⊎ (form ≡ BW64) → form_of form ≡ Some true
    long form (inl e) = rw e refl
    long form (inr e) = rw e refl

    announced : (n : ℕ) → 1 ≤ n → long_extent (Some n) ≡ Some (Announced n)
    announced zero some = absurd (omega (arith, some))
    announced (suc n) some = refl

-- ---- any of them, of no more bytes than are read

pub made_file : (asked : Asked) (format : WaveFormat) (blocks : List (List Sample)) (bytes : List ℕ)
    → IsMadeOf asked format blocks bytes → reading_of asked bytes ≡ read_whole format (track_of asked.track blocks)
made_file asked format blocks bytes file = within_file asked bytes file.within ∙ by_form file.made
  where
    by_form : TellsItsSize asked format blocks bytes ⊎ TellsNoSize asked format blocks bytes
        ⊎ TellsALongSize asked format blocks bytes
        → file_at asked bytes ≡ read_whole format (track_of asked.track blocks)
    by_form (inl f) =
        ap (file_at asked) f.are
        ∙ told_file asked f.file_size f.before format blocks f.tail f.parts f.some f.fits f.told
    by_form (inr (inl f)) =
        ap (file_at asked) f.are
        ∙ streamed_file asked f.file_size f.size f.before format blocks f.parts f.fits.0 f.fits.1 f.untold
    by_form (inr (inr f)) =
        ap (file_at asked) f.are
        ∙ long_told_file asked f.form f.file_size f.before format blocks f.tail f.parts f.some f.long f.told

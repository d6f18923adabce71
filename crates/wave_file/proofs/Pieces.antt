-- A piece that is whole is judged by itself, whatever comes behind it; and bytes that are passed over change nothing
-- but the place.
use Rattle.std.proofs.Common.{true, ◌≡◌, ℕ, zero, suc, ◌+◌, ◌-◌, ◌<◌, ◌≤◌, ◌⊎◌, inl, inr, List, [], ◌∷◌, ◌++◌, Some}
use Rattle.std.proofs.Common.{length, take, drop, refl, ap}
use Rattle.std.proofs.Common.{◌∙◌, arith, subst, sym}
use Rattle.std.specs.Prelude.{nat_le, ◌==◌, Result, Ok, Err}
use Rattle.std.proofs.lemmas.Bool.{cases_lt, cond_both, le-leb, lt-leb, ne_eqb}
use Rattle.std.proofs.lemmas.List.{length-append}
use Rattle.std.proofs.Math.Seq.{take-append_seam, drop-append_seam}
use Rattle.byteorder.specs.Endian.{big_number, little_number}
use Rattle.wave_file.specs.declared.chunk.Chunk.{Chunk}
use Rattle.wave_file.specs.declared.chunk.Notes.{Notes}
use Rattle.file_faults.specs.declared.sound.WaveFault.{WaveFault}
use Rattle.wave_file.specs.declared.format.WaveFormat.{WaveFormat}
use Rattle.wave_file.specs.Format.{format_in}
use Rattle.wave_file.specs.Chunk.{chunk_of}
use Rattle.wave_file.specs.Stage.{width_of, IsPassed}
use Rattle.wave_file.specs.declared.stage.Stage.TheVariants as stage
use Rattle.wave_file.specs.Wave.{Reading, bad, chunk_at, chunks_at, format_at, judged_width, padded, piece, sizes_at}
use Rattle.wave_file.specs.Wave.{taken}
use Rattle.wave_file.specs.declared.format.Asked.{Asked}

-- two tests that hold together are one
pub nat_le_same : (a b c d : ℕ) → (a ≤ b → c ≤ d) → (c ≤ d → a ≤ b) → nat_le a b ≡ nat_le c d
nat_le_same a b c d to back = go (cases_lt b a) (cases_lt d c)
  where
    go : (b < a) ⊎ (a ≤ b) → (d < c) ⊎ (c ≤ d) → nat_le a b ≡ nat_le c d
    go (inl l) (inl m) = lt-leb a b l ∙ sym (lt-leb c d m)
    go (inl l) (inr m) = let h = back m in absurd (omega (arith, l, h))
    go (inr l) (inl m) = let h = to l in absurd (omega (arith, m, h))
    go (inr l) (inr m) = le-leb a b l ∙ sym (le-leb c d m)

-- a whole piece, and what comes behind it
pub piece_whole : (width : ℕ) (brings : List ℕ → List ℕ → Reading) (p more : List ℕ) → length p ≡ width
    → piece width brings (p ++ more) ≡ brings p more
piece_whole width brings p more e =
    let all = length-append p more in
    let there : nat_le width (length (p ++ more)) ≡ true = le-leb width (length (p ++ more)) (omega (arith, e, all)) in
    let front : take width (p ++ more) ≡ p = subst (λ (n : ℕ). take n (p ++ more) ≡ p) e (take-append_seam p more) in
    let behind : drop width (p ++ more) ≡ more = subst (λ (n : ℕ). drop n (p ++ more) ≡ more) e
    (drop-append_seam p more) in
    rw (there, front, behind) refl

-- bytes of a chunk that are passed over
pub chunks_skip : (asked : Asked) (notes : Notes) (bytes more : List ℕ) (skip after place : ℕ)
    → skip ≡ length bytes + after
    → chunks_at asked skip notes place (bytes ++ more) ≡ chunks_at asked after notes (place + length bytes) more
unfolding chunks_at
chunks_skip asked notes [] more skip after place e =
    let same : skip ≡ after = omega (arith, e) in
    let there : place + 0 ≡ place = omega arith in
    rw (same, there) refl
chunks_skip asked notes (b ∷ bytes) more zero after place e = absurd (omega (arith, e))
chunks_skip asked notes (b ∷ bytes) more (suc skip) after place e =
    let less : skip ≡ length bytes + after = omega (arith, e) in
    let there : (place + 1) + length bytes ≡ place + length (b ∷ bytes) = omega arith in
    chunks_skip asked notes bytes more skip after (place + 1) less ∙ ap (λ (n : ℕ). chunks_at asked after notes n more)
    there

-- the letters and the size of a chunk
pub chunks_head : (asked : Asked) (notes : Notes) (place : ℕ) (head more : List ℕ) → length head ≡ 8
    → chunks_at asked 0 notes place (head ++ more)
    ≡ taken (chunk_of notes place (big_number 4 head) (little_number 4 (drop 4 head)))
    (λ chunk. chunk_at asked notes (place + 8) chunk
    (λ size notes. chunks_at asked (padded size) notes (place + 8) more) more)
unfolding chunks_at
chunks_head asked notes place (a ∷ b ∷ c ∷ d ∷ e ∷ f ∷ g ∷ h ∷ []) more len = refl
chunks_head asked notes place _ more len = absurd (omega (arith, len))

-- what letters and a size bring, by the chunk that they begin
pub head_brings : (asked : Asked) (notes : Notes) (place : ℕ) (head more : List ℕ) (r : Result Chunk WaveFault)
    → length head ≡ 8
    → chunk_of notes place (big_number 4 head) (little_number 4 (drop 4 head)) ≡ r
    → chunks_at asked 0 notes place (head ++ more) ≡ taken r
    (λ chunk. chunk_at asked notes (place + 8) chunk
    (λ size notes. chunks_at asked (padded size) notes (place + 8) more) more)
head_brings asked notes place head more r len is = chunks_head asked notes place head more len
    ∙ ap (λ (r : Result Chunk WaveFault). taken r
    (λ chunk. chunk_at asked notes (place + 8) chunk
    (λ size notes. chunks_at asked (padded size) notes (place + 8) more) more)) is

-- the bytes of a format chunk that are judged, and its others
pub format_brings : (asked : Asked) (notes : Notes) (place size : ℕ) (p more : List ℕ) (format : WaveFormat)
    → length p ≡ judged_width size
    → format_in asked place p ≡ Ok format
    → format_at asked notes place size (λ notes. chunks_at asked (padded size) notes place (p ++ more)) (p ++ more)
    ≡ chunks_at asked (padded size - length p) (record notes { format = Some format }) (place + length p) more
format_brings asked notes place size p more format len is =
    let judged = λ (r : Result WaveFormat WaveFault). taken r
    (λ format. chunks_at asked (padded size) (record notes { format = Some format }) place (p ++ more)) in
    piece_whole (judged_width size) (λ body rest. judged (format_in asked place body)) p more len ∙ ap judged is
    ∙ chunks_skip asked _ p more (padded size) (padded size - length p) place (omega (arith, len))

pub format_refuses : (asked : Asked) (notes : Notes) (place size : ℕ) (p more : List ℕ) (f : WaveFault)
    → length p ≡ judged_width size
    → format_in asked place p ≡ Err f
    → format_at asked notes place size (λ notes. chunks_at asked (padded size) notes place (p ++ more)) (p ++ more)
    ≡ bad f
format_refuses asked notes place size p more f len is =
    let judged = λ (r : Result WaveFormat WaveFault). taken r
    (λ format. chunks_at asked (padded size) (record notes { format = Some format }) place (p ++ more)) in
    piece_whole (judged_width size) (λ body rest. judged (format_in asked place body)) p more len ∙ ap judged is

-- the first bytes of a chunk of sizes, and its others
pub sizes_bring : (asked : Asked) (notes : Notes) (place size : ℕ) (p more : List ℕ) → length p ≡ 16 → 16 ≤ size
    → sizes_at notes (λ notes. chunks_at asked (padded size) notes place (p ++ more)) (p ++ more)
    ≡ chunks_at asked (padded size - 16) (record notes { data_size = Some (little_number 8 (drop 8 p)) })
    (place + length p) more
sizes_bring asked notes place size p more len least =
    piece_whole 16 (λ body rest. chunks_at asked (padded size)
    (record notes { data_size = Some (little_number 8 (drop 8 body)) }) place (p ++ more))
    p more len ∙ chunks_skip asked _ p more (padded size) (padded size - 16) place (omega (arith, len, least))

-- ---- what is passed over

pub chunk_alone : (skip : ℕ) → 1 ≤ skip → width_of (stage.Chunk skip) ≡ 1
chunk_alone skip some = rw (ne_eqb skip 0 (λ e. omega (arith, e, some))) refl

pub chunk_wait : (skip : ℕ) → 1 ≤ width_of (stage.Chunk skip)
chunk_wait skip = cond_both (skip == 0) 8 1 (λ n. 1 ≤ n) (λ _. omega arith) (λ _. omega arith)

pub chunk_passed : (skip count most after : ℕ) → skip ≡ count + after → 1 ≤ count → count ≤ most
    → IsPassed (stage.Chunk skip) most count (stage.Chunk after)
chunk_passed skip count most after e some within = record {
  some = some;
  within = within;
  format = refl;
  stays = λ asked place is. tt;
  wait = chunk_wait after;
  passes = λ asked notes place bytes more len.
      chunks_skip asked notes bytes more skip after place (omega (arith, e, len))
      ∙ ap (λ (n : ℕ). chunks_at asked after notes (place + n) more) len;
}

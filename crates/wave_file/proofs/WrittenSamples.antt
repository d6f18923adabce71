-- The bytes of a block are those of its samples one behind another, each of the same width, so a track is found where
-- it is.
use Rattle.std.proofs.Common.{◌≡◌, ℕ, zero, suc, ◌+◌, ◌-◌, ◌*◌, ◌<◌, ◌≤◌, ℤ, pos, List, [], ◌∷◌}
use Rattle.std.proofs.Common.{◌++◌, length, take, drop, get_or}
use Rattle.std.proofs.Common.{refl, ap, ap₂, ◌∙◌, arith, subst, sym, append_assoc}
use Rattle.std.specs.Prelude.{◌==◌, ◌-ℤ◌, slice_index}
use Rattle.std.specs.List.{AllByRecursion}
use Rattle.std.specs.Int.{w16, cast_signed, cast_unsigned}
use Rattle.std.proofs.lemmas.Bool.{cond-true, cond-false, ne_eqb}
use Rattle.std.proofs.lemmas.Int.{to_z-of_z}
use Rattle.std.proofs.lemmas.List.{length-append, drop-drop, get_or-drop}
use Rattle.std.proofs.Math.Nat.{suc-mul}
use Rattle.std.proofs.Math.Seq.{take-append_seam, drop-append_seam}
use Rattle.lemmas.specs.Bits.{in_two_bytes}
use Rattle.byteorder.specs.Endian.{little_bytes, little_number}
use Rattle.byteorder.specs.Numbers.{length-bytes_low_first, little_number-reads_back}
use Rattle.wave_file.specs.declared.format.WaveFormat.{WaveFormat}
use Rattle.wave_file.specs.Format.{sample_in, sample_width, samples_at, IsTakenFor}
use Rattle.wave_file.specs.Grammar.{Sample, Eight, Wide, IsBlock, IsOfWidth, block_text, data_text, sample_text}
use Rattle.wave_file.specs.Grammar.{track_of, value_of}
use Rattle.wave_file.specs.declared.format.Asked.{Asked}

-- ---- widths

width_is : (w : ℕ) (s : Sample) → IsOfWidth w s → length (sample_text s) ≡ w
width_is w (Eight byte) is = sym is
width_is w (Wide below upper) is =
    let sum = length-append below (little_bytes 2 (cast_unsigned w16 upper)) in
    let two = length-bytes_low_first 0 2 (cast_unsigned w16 upper) in
    omega (arith, sum, two, is.0)

block_length : (w : ℕ) (block : List Sample) → AllByRecursion (IsOfWidth w) block
    → length (block_text block) ≡ length block * w
block_length w [] all = omega arith
block_length w (s ∷ block) all =
    let one = width_is w s all.0 in
    let rest = block_length w block all.1 in
    let sum = length-append (sample_text s) (block_text block) in
    let next = suc-mul (length block) w in
    omega (arith, one, rest, sum, next)

-- behind the samples of the tracks before it comes that of a track
from_track : (w k : ℕ) (block : List Sample) (d : Sample) → AllByRecursion (IsOfWidth w) block → k < length block
    → drop (k * w) (block_text block) ≡ sample_text (get_or block k d) ++ block_text (drop (suc k) block)
from_track w k [] d all less = absurd (omega (arith, less))
from_track w zero (s ∷ block) d all less =
    let none : 0 * w ≡ 0 = omega arith in ap (λ (n : ℕ). drop n (block_text (s ∷ block))) none
from_track w (suc k) (s ∷ block) d all less =
    let one = suc-mul k w in
    let there = width_is w s all.0 in
    let behind : drop w (sample_text s ++ block_text block) ≡ block_text block =
    subst (λ (n : ℕ). drop n (sample_text s ++ block_text block)
    ≡ block_text block) there (drop-append_seam (sample_text s) (block_text block)) in
    ap (λ (n : ℕ). drop n (block_text (s ∷ block))) (let sum : suc k * w ≡ w + k * w = omega (arith, one) in sum)
    ∙ sym (drop-drop (k * w) w (block_text (s ∷ block)))
    ∙ ap (λ (l : List ℕ). drop (k * w) l) behind
    ∙ from_track w k block d all.1 (omega (arith, less))

sample_at : (w k : ℕ) (block : List Sample) (d : Sample) → AllByRecursion (IsOfWidth w) block → k < length block
    → IsOfWidth w (get_or block k d)
sample_at w k [] d all less = absurd (omega (arith, less))
sample_at w zero (s ∷ block) d all less = all.0
sample_at w (suc k) (s ∷ block) d all less = sample_at w k block d all.1 (omega (arith, less))

-- ---- a sample

read_at : (format : WaveFormat) (asked : Asked) (bytes rest : List ℕ) (s : Sample) → 1 ≤ asked.track
    → IsOfWidth (sample_width format) s
    → drop ((asked.track - 1) * sample_width format) bytes ≡ sample_text s ++ rest
    → sample_in format asked bytes ≡ value_of s
read_at format asked bytes rest (Eight byte) first is there =
    let w = sample_width format in
    let at : (asked.track - 1) * w + 0 ≡ asked.track - 1 = ap (λ (n : ℕ). (asked.track - 1) * n + 0) is
    ∙ (let e : (asked.track - 1) * 1 + 0 ≡ asked.track - 1 = omega arith in e) in
    let found : slice_index bytes (asked.track - 1) ≡ byte =
    ap (λ (i : ℕ). get_or bytes i 0) (sym at) ∙ sym (get_or-drop ((asked.track - 1) * w) bytes 0 0)
    ∙ ap (λ (l : List ℕ). get_or l 0 0) there in
    cond-true (w == 1) _ _ (ap (λ (n : ℕ). n == 1) is) ∙ ap (λ (n : ℕ). pos (256 * n) -ℤ pos 32_768) found
read_at format asked bytes rest (Wide below upper) first is there =
    let w = sample_width format in
    let word = little_bytes 2 (cast_unsigned w16 upper) in
    let one = suc-mul (asked.track - 1) w in
    let same : suc (asked.track - 1) ≡ asked.track = omega (arith, first) in
    let all : asked.track * w ≡ (asked.track - 1) * w + w = ap (λ (n : ℕ). n * w) (sym same) ∙ one in
    let place : asked.track * w - 2 ≡ (asked.track - 1) * w + length below = omega (arith, all, is.0) in
    let found : drop (asked.track * w - 2) bytes ≡ word ++ rest =
    ap (λ (n : ℕ). drop n bytes) place ∙ sym (drop-drop (length below) ((asked.track - 1) * w) bytes)
    ∙ ap (λ (l : List ℕ). drop (length below) l) (there ∙ append_assoc below word rest)
    ∙ drop-append_seam below (word ++ rest) in
    cond-false (w == 1) _ _ (ne_eqb w 1 (λ e. omega (arith, e, is.0)))
    ∙ ap (λ (l : List ℕ). cast_signed w16 (little_number 2 l)) found
    ∙ ap (cast_signed w16) (little_number-reads_back 2 (cast_unsigned w16 upper) rest (in_two_bytes upper is.1))
    ∙ to_z-of_z w16 upper is.1

-- ---- blocks

pub block_is_whole : (format : WaveFormat) (asked : Asked) (block : List Sample) → IsTakenFor asked format
    → IsBlock format block
    → length (block_text block) ≡ format.block
block_is_whole format asked block taken is =
    block_length (sample_width format) block is.1 ∙ ap (λ (n : ℕ). n * sample_width format) is.0 ∙ sym taken.block

block_read : (format : WaveFormat) (asked : Asked) (block : List Sample) → IsTakenFor asked format
    → IsBlock format block
    → sample_in format asked (block_text block) ≡ value_of (get_or block (asked.track - 1) (Eight 0))
block_read format asked block taken is =
    let w = sample_width format in
    let tracks = is.0 in
    let first = taken.first in
    let among = taken.among in
    let less : asked.track - 1 < length block = omega (arith, tracks, first, among) in
    read_at format asked (block_text block) (block_text (drop (suc (asked.track - 1)) block))
    (get_or block (asked.track - 1) (Eight 0)) first
    (sample_at w (asked.track - 1) block (Eight 0) is.1 less) (from_track w (asked.track - 1) block (Eight 0) is.1 less)

-- the samples of the blocks are those of the track
pub samples_read : (format : WaveFormat) (asked : Asked) (blocks : List (List Sample)) → IsTakenFor asked format
    → AllByRecursion (IsBlock format) blocks → samples_at format asked (length blocks) (data_text blocks)
    ≡ track_of asked.track blocks
unfolding samples_at
samples_read format asked [] taken all = refl
samples_read format asked (block ∷ blocks) taken all =
    let len = block_is_whole format asked block taken all.0 in
    let bytes = block_text block in
    let more = data_text blocks in
    let front : take format.block (bytes ++ more) ≡ bytes = subst (λ (n : ℕ). take n (bytes
    ++ more) ≡ bytes) len (take-append_seam bytes more) in
    let behind : drop format.block (bytes ++ more) ≡ more = subst (λ (n : ℕ). drop n (bytes
    ++ more) ≡ more) len (drop-append_seam bytes more) in
    ap₂ (λ (x : ℤ) (xs : List ℤ). x ∷ xs) (ap (sample_in format asked) front
    ∙ block_read format asked block taken all.0)
    (ap (λ (l : List ℕ). samples_at format asked (length blocks) l) behind
    ∙ samples_read format asked blocks taken all.1)

-- the bytes of the data are whole blocks
pub data_length : (format : WaveFormat) (asked : Asked) (blocks : List (List Sample)) → IsTakenFor asked format
    → AllByRecursion (IsBlock format) blocks → length (data_text blocks) ≡ length blocks * format.block
data_length format asked [] taken all = omega arith
data_length format asked (block ∷ blocks) taken all =
    let one = block_is_whole format asked block taken all.0 in
    let rest = data_length format asked blocks taken all.1 in
    let sum = length-append (block_text block) (data_text blocks) in
    let next = suc-mul (length blocks) format.block in
    omega (arith, one, rest, sum, next)

-- How many samples bytes show of a sound file, and behind which format.
use Rattle.std.proofs.Common.{true, false, ◌≡◌, ℕ, zero, suc, ◌+◌, ◌-◌, min, Bool}
use Rattle.std.proofs.Common.{List, [], ◌∷◌, length, take, drop}
use Rattle.std.proofs.Common.{refl, arith, Option, Some, None}
use Rattle.std.specs.Prelude.{nat_le, ◌==◌, if◌then◌else◌, Result, Ok, Err}
use Rattle.byteorder.specs.Endian.{big_number, little_number}
use Rattle.wave_file.specs.declared.chunk.Chunk.{Chunk}
use Rattle.wave_file.specs.declared.chunk.Chunk.TheVariants as chunk
use Rattle.wave_file.specs.declared.chunk.Notes.{Notes}
use Rattle.wave_file.specs.declared.chunk.TheConstants.{WAVE}
use Rattle.file_faults.specs.declared.sound.WaveFault.{WaveFault}
use Rattle.file_faults.specs.declared.sound.WaveFault.TheVariants as fault
use Rattle.wave_file.specs.declared.format.WaveFormat.{WaveFormat}
use Rattle.wave_file.specs.declared.stage.TheConstants.{MAX_BYTES}
use Rattle.wave_file.specs.Chunk.{chunk_of, form_of, no_notes}
use Rattle.wave_file.specs.Format.{format_in, samples_at}
use Rattle.wave_file.specs.GoesOn.{IsWithin}
use Rattle.wave_file.specs.Wave.{Reading, and_more, bad, behind_form, blocks_inside, chunk_at, chunks_at}
use Rattle.wave_file.specs.Wave.{file_at, judged_width, padded, piece, reading_of, taken, unfinished}
use Rattle.wave_file.specs.declared.format.Asked.{Asked}
use Rattle.wave_file.proofs.WhatStays.{format_brings, sizes_bring}

-- ---- how many samples, and behind which format

length-samples : (format : WaveFormat) (asked : Asked) (count : ℕ) (bytes : List ℕ)
    → length (samples_at format asked count bytes) ≡ count
unfolding samples_at
length-samples format asked zero bytes = refl
length-samples format asked (suc count) bytes = let rest = length-samples format asked count (drop format.block bytes)
    in omega (arith, rest)

few_unfinished : (asked : Asked) → IsWithin asked unfinished
few_unfinished asked = record { few = omega arith; none = λ e. refl; ends = λ e. refl }

few_bad : (asked : Asked) (f : WaveFault) → IsWithin asked (bad f)
few_bad asked f = record { few = omega arith; none = λ e. refl; ends = λ e. refl }

few_in_piece : (asked : Asked) (width : ℕ) (brings : List ℕ → List ℕ → Reading) (bytes : List ℕ)
    → ((body rest : List ℕ) → IsWithin asked (brings body rest))
    → IsWithin asked (piece width brings bytes)
few_in_piece asked width brings bytes few = by_test (nat_le width (length bytes))
  where
    by_test : (b : Bool) → IsWithin asked (if b then brings (take width bytes) (drop width bytes) else unfinished)
    by_test true = few (take width bytes) (drop width bytes)
    by_test false = few_unfinished asked

few_taken : {A : Type 0} (asked : Asked) (r : Result A WaveFault) (next : A → Reading)
    → ((value : A) → IsWithin asked (next value)) → IsWithin asked (taken r next)
few_taken asked (Ok value) next few = few value
few_taken asked (Err f) next few = few_bad asked f

few_in_chunk : (asked : Asked) (notes : Notes) (place : ℕ) (chunk : Chunk) (next : ℕ → Notes → Reading) (bytes : List ℕ)
    → ((size : ℕ) (n : Notes) → IsWithin asked (next size n))
    → IsWithin asked (chunk_at asked notes place chunk next bytes)
few_in_chunk asked notes place (chunk.Format size) next bytes behind =
    few_in_piece asked (judged_width size) (λ body rest. format_brings asked notes place (next size) body) bytes
    (λ body rest. few_taken asked (format_in asked place body)
    (λ format. next size (record notes { format = Some format }))
    (λ format. behind size (record notes { format = Some format })))
few_in_chunk asked notes place (chunk.Sizes size) next bytes behind =
    few_in_piece asked 16 (λ body rest. sizes_bring notes (next size) body) bytes
    (λ body rest. behind size (record notes { data_size = Some (little_number 8 (drop 8 body)) }))
few_in_chunk asked notes place (chunk.Data format extent) next bytes behind =
    let count = length-samples format asked (min asked.most_samples (blocks_inside format extent bytes)) bytes in
    record { few = omega (arith, count); none = λ e. absurd cc; ends = λ e. absurd cc }
few_in_chunk asked notes place (chunk.Other size) next bytes behind = behind size notes

few_in_chunks : (asked : Asked) (skip : ℕ) (notes : Notes) (place : ℕ) (bytes : List ℕ)
    → IsWithin asked (chunks_at asked skip notes place bytes)
unfolding chunks_at
few_in_chunks asked (suc skip) notes place (byte ∷ bytes) = few_in_chunks asked skip notes (place + 1) bytes
few_in_chunks asked zero notes place (a ∷ b ∷ c ∷ d ∷ e ∷ f ∷ g ∷ h ∷ bytes) =
    let next = λ (size : ℕ) (n : Notes). chunks_at asked (padded size) n (place + 8) bytes in
    few_taken asked (chunk_of notes place (big_number 4 (a ∷ b ∷ c ∷ d ∷ [])) (little_number 4 (e ∷ f ∷ g ∷ h ∷ [])))
    (λ chunk. chunk_at asked notes (place + 8) chunk next bytes)
    (λ chunk. few_in_chunk asked notes (place + 8) chunk next bytes
    (λ size n. few_in_chunks asked (padded size) n (place + 8) bytes))
few_in_chunks asked skip notes place bytes = few_unfinished asked

few_in_file : (asked : Asked) (bytes : List ℕ) → IsWithin asked (file_at asked bytes)
few_in_file asked bytes =
    few_in_piece asked 4 (λ letters rest. behind_form asked (form_of (big_number 4 letters)) rest) bytes
    (λ letters rest. by_form (form_of (big_number 4 letters)) rest)
  where
    by_letters : (b is_long : Bool) (size : ℕ) (rest : List ℕ)
        → IsWithin asked (if b then chunks_at asked 0 (no_notes is_long size) 12 rest else bad (fault.Wave 8))
    by_letters true is_long size rest = few_in_chunks asked 0 (no_notes is_long size) 12 rest
    by_letters false is_long size rest = few_bad asked (fault.Wave 8)

    by_form : (form : Option Bool) (rest : List ℕ) → IsWithin asked (behind_form asked form rest)
    by_form None rest = few_bad asked (fault.Riff 0)
    by_form (Some is_long) rest =
        let brings = λ (wave rest : List ℕ). if big_number 4 (drop 4 wave) == WAVE
        then chunks_at asked 0 (no_notes is_long (little_number 4 wave)) 12 rest
        else bad (fault.Wave 8) in
        few_in_piece asked 8 brings rest
        (λ wave rest. by_letters (big_number 4 (drop 4 wave) == WAVE) is_long (little_number 4 wave) rest)

pub few_samples : (asked : Asked) (bytes : List ℕ) → IsWithin asked (reading_of asked bytes)
few_samples asked bytes = by_test (nat_le (length bytes) MAX_BYTES)
  where
    by_test : (b : Bool) → IsWithin asked (if b then file_at asked bytes
        else let r = file_at asked (take MAX_BYTES bytes) in record r { verdict = and_more r.verdict; may_end = false })
    by_test true = few_in_file asked bytes
    by_test false =
        let within = few_in_file asked (take MAX_BYTES bytes) in
        record { few = within.few; none = within.none; ends = λ e. refl }

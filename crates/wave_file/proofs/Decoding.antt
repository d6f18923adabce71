-- What a decoder takes is a piece, bytes that are passed over, or blocks: each time the bytes that follow say the same.
-- What it leaves is a part of a piece, which says nothing yet.
use Rattle.std.proofs.Common.{◌≡◌, ℕ, ◌+◌, ◌-◌, ◌*◌, ◌≤◌, List, [], ◌++◌}
use Rattle.std.proofs.Common.{length, take, refl, ap}
use Rattle.std.proofs.Common.{◌∙◌, arith, subst, sym, append_assoc}
use Rattle.std.specs.Prelude.{ℤ}
use Rattle.std.proofs.lemmas.Nat.{mul-le}
use Rattle.std.proofs.lemmas.List.{length-append, length-take-le}
use Rattle.wave_file.specs.declared.chunk.Extent.{Extent}
use Rattle.wave_file.specs.declared.chunk.Notes.{Notes}
use Rattle.wave_file.specs.declared.format.WaveFormat.{WaveFormat}
use Rattle.wave_file.specs.declared.stage.Stage.{Stage}
use Rattle.wave_file.specs.declared.stage.Stage.TheVariants.{Riff, Wave, Chunk, Format, Sizes, Data, Tail}
use Rattle.wave_file.specs.Format.{samples_at}
use Rattle.wave_file.specs.Stage.{at, data_stage, extent_behind, format_at_stage, up_to_end, width_of}
use Rattle.wave_file.specs.Stage.{HasBytes, IsPassed, IsStage, IsWaiting}
use Rattle.wave_file.specs.StandsFor.{decoding_of, Adds}
use Rattle.wave_file.specs.Step.{with_samples, Leads}
use Rattle.wave_file.specs.Wave.{Reading, file_at}
use Rattle.wave_file.specs.Wave.{taken}
use Rattle.wave_file.proofs.Blocks.{at_data, blocks_more, data_kept}
use Rattle.wave_file.specs.declared.format.Asked.{Asked}

-- samples behind samples
with_both : (a b : List ℤ) (r : Reading) → with_samples a (with_samples b r) ≡ with_samples (a ++ b) r
with_both a b r = ap (λ (s : List ℤ). let x : Reading = record r { samples = s } in x)
    (sym (append_assoc a b r.samples))

-- bytes that lead to another stage
pub leads_added : (asked : Asked) (notes new : Notes) (place : ℕ) (stage next : Stage) (bytes : List ℕ) (count : ℕ)
    (more : List ℤ)
    → 1 ≤ count → count ≤ length bytes
    → ((rest : List ℕ) → at asked notes place stage (take count bytes ++ rest) ≡ with_samples more
    (at asked new (place + count) next rest))
    → Adds (decoding_of asked notes place stage) (decoding_of asked new (place + count) next) bytes count more
leads_added asked notes new place stage next bytes count more some within leads =
    let cut = take count bytes in
    let size = length-take-le count bytes within in
    record {
      some = some;
      within = within;
      taken = refl;
      asked = refl;
      stands = λ front samples s. record {
        place = omega (arith, length-append front cut, s.place, size);
        follows = λ rest. ap (λ (l : List ℕ). file_at asked l) (append_assoc front cut rest)
            ∙ s.follows (cut ++ rest)
            ∙ ap (λ (r : Reading). with_samples samples r) (leads rest)
            ∙ with_both samples more (at asked new (place + count) next rest);
      };
    }

-- a whole piece
pub piece_added : (asked : Asked) (notes new : Notes) (place : ℕ) (stage next : Stage) (bytes : List ℕ) (width : ℕ)
    → 1 ≤ width → width ≤ length bytes → Leads asked notes place stage (take width bytes) [] new next
    → Adds (decoding_of asked notes place stage) (decoding_of asked new (place + width) next) bytes width []
piece_added asked notes new place stage next bytes width some within leads =
    leads_added asked notes new place stage next bytes width [] some within
    (λ rest. leads.says rest
    ∙ ap (λ (n : ℕ). with_samples [] (at asked new (place + n) next rest)) (length-take-le width bytes within))

-- bytes that are passed over
pub passed_added : (asked : Asked) (notes : Notes) (place : ℕ) (stage next : Stage) (bytes : List ℕ) (most count : ℕ)
    → IsPassed stage most count next → most ≤ length bytes
    → Adds (decoding_of asked notes place stage) (decoding_of asked notes (place + count) next) bytes count []
passed_added asked notes place stage next bytes most count p within =
    let there : count ≤ length bytes = omega (arith, p.within, within) in
    leads_added asked notes notes place stage next bytes count [] p.some there
    (λ rest. p.passes asked notes place (take count bytes) rest (length-take-le count bytes there))

-- whole blocks
pub blocks_added : (asked : Asked) (notes : Notes) (place : ℕ) (format : WaveFormat) (extent : Extent) (room count : ℕ)
    (bytes : List ℕ)
    → 1 ≤ count * format.block → count * format.block ≤ length bytes → 1 ≤ format.block
    → HasBytes (count * format.block) extent → count ≤ room
    → Adds (decoding_of asked notes place (Data format extent room))
    (decoding_of asked notes (place + count * format.block)
    (data_stage format (extent_behind extent (count * format.block)) (room - count)))
    bytes (count * format.block) (samples_at format asked count (take (count * format.block) bytes))
blocks_added asked notes place format extent room count bytes any within some has few =
    let size = count * format.block in
    let cut = take size bytes in
    let given = samples_at format asked count cut in
    leads_added asked notes notes place (Data format extent room)
    (data_stage format (extent_behind extent size) (room - count)) bytes size given any within
    (λ rest. blocks_more asked format count extent room cut rest (length-take-le size bytes within) some has few
    ∙ ap (λ (r : Reading). with_samples given r)
    (sym (at_data asked notes (place + size) format (extent_behind extent size) (room - count) rest)))

-- ---- what is waited for

-- ---- what is answered

-- whole blocks that are taken
pub blocks_taken : (asked : Asked) (notes : Notes) (place : ℕ) (stage next : Stage) (format : WaveFormat)
    (extent : Extent) (room count width : ℕ) (bytes : List ℕ) (given : List ℤ)
    → stage ≡ Data format extent room → IsStage asked place stage → width ≡ format.block
    → next ≡ data_stage format (extent_behind extent (count * width)) (room - count)
    → given ≡ samples_at format asked count (take (count * width) bytes)
    → 1 ≤ count → count * width ≤ length bytes → HasBytes (count * width) extent → count ≤ room
    → Adds (decoding_of asked notes place stage) (decoding_of asked notes (place + count * width) next) bytes
    (count * width) given × (format_at_stage next ≡ format_at_stage stage) × (count * width ≡ count * width_of stage)
blocks_taken asked notes place stage next format extent room count width bytes given ahead is wide leads are some within
    has few =
    let kept = rw ahead at is in
    let block = kept.0.some in
    let size : count * width ≡ count * format.block = ap (λ (n : ℕ). count * n) wide in
    let behind = data_kept asked place format (extent_behind extent (count * width)) (room - count) kept.0
    (omega (arith, kept.2)) in
    let any = mul-le 1 1 count format.block some block in
    let adds = blocks_added asked notes place format extent room count bytes (omega (arith, any))
    (omega (arith, size, within)) block (subst (λ (n : ℕ). HasBytes n extent) size has) few in
    rw (ahead, leads, are, size) (adds, rw size at behind.format_is, refl)

-- a piece that is waited for is taken as a whole
pub taken_whole : (stage : Stage) (places count : ℕ) → IsWaiting stage → up_to_end stage places count ≡ width_of stage
taken_whole Riff places count waits = refl
taken_whole (Wave is_long) places count waits = refl
taken_whole (Chunk skip) places count waits = rw waits refl
taken_whole (Format size) places count waits = refl
taken_whole (Sizes size) places count waits = refl
taken_whole (Data format extent room) places count waits = absurd waits
taken_whole (Tail format left) places count waits = absurd waits

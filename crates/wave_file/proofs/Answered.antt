-- What a decoder of a sound file answers where it goes no further: what was told, a fault, or the limit.
use Rattle.std.proofs.Common.{false, ◌≡◌, ℕ, ◌+◌, ◌-◌, ◌<◌, ◌≤◌, Bool, List, [], ◌++◌}
use Rattle.std.proofs.Common.{Option, Some, None, length, take, drop, refl, ap}
use Rattle.std.proofs.Common.{◌∙◌, arith, subst, sym, append_assoc}
use Rattle.std.specs.Prelude.{IfSome, nat_le, ◌==◌, ◌&&◌, if◌then◌else◌, ℤ}
use Rattle.std.proofs.lemmas.Bool.{cond_both, cond-true, le-leb, lt-leb}
use Rattle.std.proofs.lemmas.List.{append-nil, length-append, take-append-drop, length-take-le}
use Rattle.std.proofs.Math.Seq.{take-append_seam, take-append-add}
use Rattle.wave_file.specs.declared.chunk.Extent.{Extent}
use Rattle.wave_file.specs.declared.chunk.Notes.{Notes}
use Rattle.file_faults.specs.declared.sound.WaveFault.{WaveFault}
use Rattle.wave_file.specs.declared.format.WaveFormat.{WaveFormat}
use Rattle.wave_file.specs.declared.stage.Stage.{Stage}
use Rattle.wave_file.specs.declared.stage.Stage.TheVariants.{Riff, Wave, Chunk, Format, Sizes, Data, Tail}
use Rattle.wave_file.specs.declared.stage.TheConstants.{MAX_BYTES, MAX_PIECE}
use Rattle.file_faults.specs.declared.sound.WaveFault.TheVariants as fault
use Rattle.wave_file.specs.Format.{IsTakenFor}
use Rattle.wave_file.specs.Stage.{at, format_at_stage, width_of}
use Rattle.wave_file.specs.Stage.{IsStage}
use Rattle.wave_file.specs.StandsFor.{decoding_of, IsTold, StandsFor, may_end_before}
use Rattle.wave_file.specs.Step.{with_samples, IsPast}
use Rattle.wave_file.specs.Wave.{Reading, bad, and_more, file_at, piece}
use Rattle.wave_file.specs.Wave.{end_fault_of, reading_of}
use Rattle.tc_io.specs.Verdict.{Verdict, good, refused, past_limit}
use Rattle.wave_file.proofs.Blocks.{block_past}
use Rattle.wave_file.specs.declared.format.Asked.{Asked}
use Rattle.wave_file.proofs.Waiting.{waiting}

-- no piece is long
pub few_wanted : (asked : Asked) (place : ℕ) (stage : Stage) → IsStage asked place stage → width_of stage ≤ MAX_PIECE
few_wanted asked place Riff is = omega arith
few_wanted asked place (Wave is_long) is = omega arith
few_wanted asked place (Chunk skip) is =
    cond_both (skip == 0) 8 1 (λ n. n ≤ MAX_PIECE) (λ _. omega arith) (λ _. omega arith)
few_wanted asked place (Format size) is = omega arith
few_wanted asked place (Sizes size) is = omega arith
few_wanted asked place (Data format extent room) is = is.0.room
few_wanted asked place (Tail format left) is = omega arith

-- the format of data that have begun is taken
pub stage_taken : (asked : Asked) (place : ℕ) (stage : Stage) → IsStage asked place stage
    → IfSome (format_at_stage stage) (λ format. IsTakenFor asked format)
stage_taken asked place Riff is = tt
stage_taken asked place (Wave is_long) is = tt
stage_taken asked place (Chunk skip) is = tt
stage_taken asked place (Format size) is = tt
stage_taken asked place (Sizes size) is = tt
stage_taken asked place (Data format extent room) is = is.0
stage_taken asked place (Tail format left) is = is

-- within the limit the bytes say what their file says
pub within_file : (asked : Asked) (bytes : List ℕ) → length bytes ≤ MAX_BYTES
    → reading_of asked bytes ≡ file_at asked bytes
within_file asked bytes within = cond-true (nat_le (length bytes) MAX_BYTES) (file_at asked bytes) _
    (le-leb (length bytes) MAX_BYTES within)

-- behind samples
told_behind : (samples : List ℤ) (r w : Reading) (format : Option WaveFormat) (v : Verdict WaveFault)
    → w ≡ with_samples samples r → IsTold r format [] v
    → IsTold w format samples v
told_behind samples r w format v is t = rw is (record {
  format_is = t.format_is;
  samples_are = ap (λ (l : List ℤ). samples ++ l) t.samples_are ∙ append-nil samples;
  verdict_is = t.verdict_is;
})

-- bytes that were taken, and fewer than a piece behind them
pub told_short : (asked : Asked) (notes : Notes) (place : ℕ) (stage : Stage) (front part : List ℕ) (samples : List ℤ)
    → IsStage asked place stage → length part < width_of stage
    → StandsFor (decoding_of asked notes place stage) front samples
    → IsTold (file_at asked (front ++ part)) (format_at_stage stage) samples good
told_short asked notes place stage front part samples is less s =
    told_behind samples (at asked notes place stage part) (file_at asked (front ++ part)) (format_at_stage stage) good
    (s.follows part) (waiting asked notes place stage part is less).told

-- bytes that were taken
pub told_taken : (asked : Asked) (notes : Notes) (place : ℕ) (stage : Stage) (front : List ℕ) (samples : List ℤ)
    → IsStage asked place stage → 1 ≤ width_of stage → place ≤ MAX_BYTES
    → StandsFor (decoding_of asked notes place stage) front samples
    → IsTold (reading_of asked front) (format_at_stage stage) samples good
told_taken asked notes place stage front samples is wait within s =
    rw (within_file asked front (omega (arith, s.place, within)))
    (subst (λ (l : List ℕ). IsTold (file_at asked l) (format_at_stage stage) samples good) (append-nil front)
    (told_short asked notes place stage front [] samples is wait s))

-- they and fewer than a piece
pub told_few : (asked : Asked) (notes : Notes) (place : ℕ) (stage : Stage) (front part : List ℕ) (samples : List ℤ)
    → IsStage asked place stage → length part < width_of stage → place + length part ≤ MAX_BYTES
    → StandsFor (decoding_of asked notes place stage) front samples
    → IsTold (reading_of asked (front ++ part)) (format_at_stage stage) samples good
told_few asked notes place stage front part samples is less within s =
    rw (within_file asked (front ++ part) (omega (arith, length-append front part, s.place, within)))
    (told_short asked notes place stage front part samples is less s)

-- and where they may end
pub ends_at : (asked : Asked) (notes : Notes) (place : ℕ) (stage : Stage) (front part : List ℕ) (samples : List ℤ)
    (may : Bool)
    → IsStage asked place stage → length part < width_of stage → place + length part ≤ MAX_BYTES
    → ((length part == 0) && may_end_before stage) ≡ may
    → StandsFor (decoding_of asked notes place stage) front samples
    → end_fault_of asked (front ++ part) ≡ (if may then None else Some (fault.Truncated (place + length part)))
ends_at asked notes place stage front part samples may is less within ends s =
    let w = waiting asked notes place stage part is less in
    let size : length (front ++ part) ≡ place + length part = omega (arith, length-append front part, s.place) in
    let may_is = ap (λ (r : Reading). r.may_end)
    (within_file asked (front ++ part) (omega (arith, size, within)) ∙ s.follows part) ∙ w.ends ∙ ends in
    ap (λ (b : Bool). if b then None else Some (fault.Truncated (length (front ++ part)))) may_is
    ∙ ap (λ (n : ℕ). if may then None else Some (fault.Truncated n)) size

-- what the first bytes show that ends the reading, they show whatever follows, within the limit or past it
told_within : (asked : Asked) (front rest : List ℕ) (format : Option WaveFormat) (samples : List ℤ)
    (v : Verdict WaveFault)
    → length front ≤ MAX_BYTES → and_more v ≡ v
    → ((more : List ℕ) → IsTold (file_at asked (front ++ more)) format samples v)
    → IsTold (reading_of asked (front ++ rest)) format samples v
told_within asked front rest format samples v within stays says =
    cond_both (nat_le (length (front ++ rest)) MAX_BYTES) (file_at asked (front ++ rest)) _
    (λ r. IsTold r format samples v) (λ _. says rest)
    (λ _.
    let left = MAX_BYTES - length front in
    let limit : MAX_BYTES ≡ length front + left = omega (arith, within) in
    let cut : take MAX_BYTES (front ++ rest) ≡ front ++ take left rest =
    ap (λ (n : ℕ). take n (front ++ rest)) limit ∙ take-append-add front rest left in
    let t = subst (λ (l : List ℕ). IsTold (file_at asked l) format samples v) (sym cut) (says (take left rest)) in
    record { format_is = t.format_is; samples_are = t.samples_are; verdict_is = ap and_more t.verdict_is ∙ stays })

-- a whole piece that ends the reading
pub told_piece : (asked : Asked) (notes : Notes) (place : ℕ) (stage : Stage) (bytes front rest : List ℕ) (width : ℕ)
    (samples : List ℤ) (v : Verdict WaveFault)
    → width ≤ length bytes → place + width ≤ MAX_BYTES → and_more v ≡ v
    → ((more : List ℕ) → IsTold (at asked notes place stage (take width bytes ++ more)) (format_at_stage stage) [] v)
    → StandsFor (decoding_of asked notes place stage) front samples
    → IsTold (reading_of asked ((front ++ bytes) ++ rest)) (format_at_stage stage) samples v
told_piece asked notes place stage bytes front rest width samples v within limit stays says s =
    let piece = take width bytes in
    let behind = drop width bytes in
    let all : (front ++ bytes) ++ rest ≡ (front ++ piece) ++ (behind ++ rest) =
    ap (λ (l : List ℕ). (front ++ l) ++ rest) (sym (take-append-drop width bytes))
    ∙ ap (λ (l : List ℕ). l ++ rest) (sym (append_assoc front piece behind))
    ∙ append_assoc (front ++ piece) behind rest in
    subst (λ (l : List ℕ). IsTold (reading_of asked l) (format_at_stage stage) samples v) (sym all)
    (told_within asked (front ++ piece) (behind ++ rest) (format_at_stage stage) samples v
    (omega (arith, s.place, length-append front piece, length-take-le width bytes within, limit)) stays
    (λ more.
    told_behind samples _ _ (format_at_stage stage) v
    (ap (λ (l : List ℕ). file_at asked l) (append_assoc front piece more) ∙ s.follows (piece ++ more)) (says more)))

-- a byte too many
pub told_limit : (asked : Asked) (notes : Notes) (place : ℕ) (stage : Stage) (bytes front rest : List ℕ) (left : ℕ)
    (samples : List ℤ)
    → IsStage asked place stage → left < width_of stage → place + left ≡ MAX_BYTES → left < length bytes
    → StandsFor (decoding_of asked notes place stage) front samples
    → IsTold (reading_of asked ((front ++ bytes) ++ rest)) (format_at_stage stage) samples past_limit
told_limit asked notes place stage bytes front rest left samples is less limit some s =
    let part = take left bytes in
    let part_is : length part ≡ left = length-take-le left bytes (omega (arith, some)) in
    let full : length (front ++ part) ≡ MAX_BYTES = omega (arith, s.place, length-append front part, part_is, limit) in
    let behind = drop left bytes ++ rest in
    let all : (front ++ bytes) ++ rest ≡ (front ++ part) ++ behind =
    ap (λ (l : List ℕ). (front ++ l) ++ rest) (sym (take-append-drop left bytes))
    ∙ ap (λ (l : List ℕ). l ++ rest) (sym (append_assoc front part (drop left bytes)))
    ∙ append_assoc (front ++ part) (drop left bytes) rest in
    let long = ap length all in
    let sum = length-append (front ++ bytes) rest in
    let more = length-append front bytes in
    let over : nat_le (length ((front ++ part) ++ behind)) MAX_BYTES ≡ false =
    lt-leb (length ((front ++ part) ++ behind)) MAX_BYTES (omega (arith, long, sum, more, s.place, limit, some)) in
    let cut : take MAX_BYTES ((front ++ part) ++ behind) ≡ front ++ part =
    ap (λ (n : ℕ). take n ((front ++ part) ++ behind)) (sym full) ∙ take-append_seam (front ++ part) behind in
    let t = told_short asked notes place stage front part samples is (omega (arith, part_is, less)) s in
    subst (λ (l : List ℕ). IsTold (reading_of asked l) (format_at_stage stage) samples past_limit) (sym all)
    (rw (over, cut) (record {
      format_is = t.format_is;
      samples_are = t.samples_are;
      verdict_is = ap and_more t.verdict_is;
    }))

pub told_bad : (asked : Asked) (notes : Notes) (place : ℕ) (stage : Stage) (p : List ℕ) (f : WaveFault)
    → format_at_stage stage ≡ None
    → ((more : List ℕ) → at asked notes place stage (p ++ more) ≡ bad f) → (more : List ℕ)
    → IsTold (at asked notes place stage (p ++ more)) (format_at_stage stage) [] (refused f)
told_bad asked notes place stage p f none is more =
    rw (none, is more) (record { format_is = refl; samples_are = refl; verdict_is = refl })

pub told_past : (asked : Asked) (notes : Notes) (place : ℕ) (stage : Stage) (p : List ℕ)
    → ((more : List ℕ) → IsPast stage (at asked notes place stage (p ++ more))) → (more : List ℕ)
    → IsTold (at asked notes place stage (p ++ more)) (format_at_stage stage) [] past_limit
told_past asked notes place stage p is more =
    let past = is more in
    record { format_is = past.format; samples_are = past.samples; verdict_is = past.verdict }

-- one block too many
pub blocks_past : (asked : Asked) (notes : Notes) (place : ℕ) (stage : Stage) (format : WaveFormat) (extent : Extent)
    (room : ℕ) (bytes front rest : List ℕ) (samples : List ℤ)
    → stage ≡ Data format extent room → IsStage asked place stage → room ≡ 0 → format.block ≤ length bytes
    → place + format.block ≤ MAX_BYTES → StandsFor (decoding_of asked notes place stage) front samples
    → IsTold (reading_of asked ((front ++ bytes) ++ rest)) (format_at_stage stage) samples past_limit
blocks_past asked notes place stage format extent room bytes front rest samples ahead is none whole limit s =
    let kept = rw ahead at is in
    let block = take format.block bytes in
    let past = told_past asked notes place (Data format extent 0) block
    (λ more. block_past asked format extent block more (length-take-le format.block bytes whole) kept.0.some kept.1) in
    let has : StandsFor (decoding_of asked notes place (Data format extent 0)) front samples =
    subst (λ (x : Stage). StandsFor (decoding_of asked notes place x) front samples)
    (ahead ∙ ap (λ n. Data format extent n) none) s in
    rw ahead (told_piece asked notes place (Data format extent 0) bytes front rest format.block samples past_limit whole
    limit refl past has)

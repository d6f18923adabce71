-- A whole block at the front of data gives its sample, and leaves the data behind it. So does a run of blocks, block
-- by block.
use Rattle.std.proofs.Common.{true, false, ◌≡◌, ℕ, zero, suc, ◌+◌, ◌-◌, ◌*◌, ◌/◌, ◌%◌, ◌<◌, ◌≤◌, min, Bool, List, []}
use Rattle.std.proofs.Common.{◌∷◌, ◌++◌, Option, Some, length, take, drop}
use Rattle.std.proofs.Common.{refl, ap, ◌∙◌, arith, subst, sym, append_assoc}
use Rattle.std.specs.Prelude.{nat_lt, ◌==◌, if◌then◌else◌, ℤ}
use Rattle.std.proofs.lemmas.Bool.{le-leb, lt-leb, ltb-true, ltb-false}
use Rattle.std.proofs.lemmas.Nat.{div_below}
use Rattle.std.proofs.lemmas.List.{length-append, take-append-drop, length-take-le, drop-drop}
use Rattle.std.proofs.Math.Nat.{suc-mul, add-div_left, mul-add-mod_self_left}
use Rattle.std.proofs.Math.Seq.{take-append_seam, drop-append_seam}
use Rattle.wave_file.specs.declared.chunk.Extent.{Extent}
use Rattle.wave_file.specs.declared.chunk.Extent.TheVariants.{Announced, Open}
use Rattle.wave_file.specs.declared.chunk.Notes.{Notes}
use Rattle.wave_file.specs.declared.format.WaveFormat.{WaveFormat}
use Rattle.wave_file.specs.declared.stage.Stage.{Stage}
use Rattle.wave_file.specs.declared.stage.Stage.TheVariants.{Data, Tail}
use Rattle.wave_file.specs.declared.stage.TheConstants.{MAX_SAMPLES}
use Rattle.wave_file.specs.Format.{sample_in, samples_at, IsTakenFor}
use Rattle.wave_file.specs.Stage.{at, data_stage, extent_behind, format_at_stage, width_of, HasBytes, IsStage}
use Rattle.wave_file.specs.Step.{with_samples, IsPast}
use Rattle.wave_file.specs.Wave.{Reading, bytes_inside, data_at, may_end_at}
use Rattle.tc_io.specs.Verdict.{Verdict, good, past_limit}
use Rattle.wave_file.proofs.Pieces.{nat_le_same}
use Rattle.file_faults.specs.declared.sound.WaveFault.{WaveFault}
use Rattle.wave_file.specs.declared.format.Asked.{Asked}

pub same_reading : (f : Option WaveFormat) (s t : List ℤ) (v w : Verdict WaveFault) (m n : Bool) → s ≡ t → v ≡ w → m ≡ n
    → let a : Reading = record { format = f; samples = s; verdict = v; may_end = m } in
    let b : Reading = record { format = f; samples = t; verdict = w; may_end = n } in a ≡ b
same_reading f s t v w m n p q r = rw (p, q, r) refl

-- the bytes of the data are those of the block, and those behind it
inside_more : (extent : Extent) (w : ℕ) (block more : List ℕ) → length block ≡ w → HasBytes w extent
    → bytes_inside extent (block ++ more) ≡ w + bytes_inside (extent_behind extent w) more
inside_more (Announced n) w block more len has = let all = length-append block more in omega (arith, len, has, all)
inside_more Open w block more len has = let all = length-append block more in omega (arith, len, all)

ends_more : (extent : Extent) (w : ℕ) (block more : List ℕ) → length block ≡ w → HasBytes w extent
    → may_end_at w extent (block ++ more) ≡ may_end_at w (extent_behind extent w) more
ends_more (Announced n) w block more len has =
    let all = length-append block more in
    nat_le_same n (length (block ++ more)) (n - w) (length more) (λ h. omega (arith, len, all, h))
    (λ h. omega (arith, len, has, all, h))
ends_more Open w block more len has =
    let all = length-append block more in
    let sum : length (block ++ more) ≡ w * 1 + length more = omega (arith, len, all) in
    ap (λ (n : ℕ). n == 0) (ap (λ (n : ℕ). n % w) sum ∙ mul-add-mod_self_left w 1 (length more))

-- a whole block
pub block_more : (asked : Asked) (format : WaveFormat) (extent : Extent) (room : ℕ) (block more : List ℕ)
    → length block ≡ format.block → 1 ≤ format.block → HasBytes format.block extent → 1 ≤ room
    → data_at asked format extent room (block ++ more)
    ≡ with_samples (sample_in format asked block ∷ [])
    (data_at asked format (extent_behind extent format.block) (room - 1) more)
unfolding samples_at
block_more asked format extent room block more len some has least =
    let w = format.block in
    let inner = bytes_inside (extent_behind extent w) more / w in
    let count : bytes_inside extent (block ++ more) / w ≡ inner + 1 =
    ap (λ (n : ℕ). n / w) (inside_more extent w block more len has)
    ∙ add-div_left (bytes_inside (extent_behind extent w) more) some in
    let most : min room (bytes_inside extent (block ++ more) / w) ≡ suc (min (room - 1) inner) =
    omega (arith, count, least) in
    let front : take w (block ++ more) ≡ block = subst (λ (n : ℕ). take n (block ++ more) ≡ block) len
    (take-append_seam block more) in
    let behind : drop w (block ++ more) ≡ more = subst (λ (n : ℕ). drop n (block ++ more) ≡ more) len
    (drop-append_seam block more) in
    same_reading (Some format) _ _ _ _ _ _
    (ap (λ (n : ℕ). samples_at format asked n (block ++ more)) most
    ∙ ap (λ (l : List ℕ). sample_in format asked l ∷ samples_at format asked (min (room - 1) inner)
    (drop w (block ++ more))) front
    ∙ ap (λ (l : List ℕ). sample_in format asked block ∷ samples_at format asked (min (room - 1) inner) l) behind)
    (ap (λ (b : Bool). if b then good else past_limit)
    (nat_le_same (bytes_inside extent (block ++ more) / w) room inner (room - 1) (λ h. omega (arith, count, h))
    (λ h. omega (arith, count, least, h))))
    (ends_more extent w block more len has)

pub none_inside : (a b n : ℕ) → a < b → min n (a / b) ≡ 0
none_inside a b n less = let none = div_below a b 1 (omega (arith, less)) (omega (arith, less)) in omega (arith, none)

-- what is no block at the end of the data gives no sample
pub at_data : (asked : Asked) (notes : Notes) (place : ℕ) (format : WaveFormat) (extent : Extent) (room : ℕ)
    (more : List ℕ)
    → at asked notes place (data_stage format extent room) more ≡ data_at asked format extent room more
unfolding samples_at
at_data asked notes place format Open room more = refl
at_data asked notes place format (Announced left) room more = go (nat_lt left format.block) refl
  where
    go : (b : Bool) → nat_lt left format.block ≡ b
        → at asked notes place (if b then Tail format left else Data format (Announced left) room) more ≡ data_at asked
        format (Announced left) room more
    go false e = refl
    go true e =
        let less = ltb-true left format.block e in
        let inside : min left (length more) < format.block = omega (arith, less) in
        let none = none_inside (min left (length more)) format.block room inside in
        let few = div_below (min left (length more)) format.block 1 (omega (arith, less)) (omega (arith, inside)) in
        same_reading (Some format) _ _ _ _ _ _ (sym (ap (λ (n : ℕ). samples_at format asked n more) none))
        (sym (ap (λ (b : Bool). if b then good else past_limit)
        (le-leb (min left (length more) / format.block) room (omega (arith, few))))) refl

-- the data that a chunk begins
pub record DataKept (asked : Asked) (place : ℕ) (format : WaveFormat) (stage : Stage) : Type 0 where
  pub is : IsStage asked place stage
  pub wait : 1 ≤ width_of stage
  pub format_is : format_at_stage stage ≡ Some format

pub data_kept : (asked : Asked) (place : ℕ) (format : WaveFormat) (extent : Extent) (room : ℕ) → IsTakenFor asked format
    → room ≤ MAX_SAMPLES
    → DataKept asked place format (data_stage format extent room)
data_kept asked place format Open room taken within =
    record { is = (taken, tt, within); wait = taken.some; format_is = refl }
data_kept asked place format (Announced left) room taken within = go (nat_lt left format.block) refl
  where
    go : (b : Bool) → nat_lt left format.block ≡ b
        → DataKept asked place format (if b then Tail format left else Data format (Announced left) room)
    go true e = record { is = taken; wait = omega arith; format_is = refl }
    go false e = record { is = (taken, ltb-false left format.block e, within); wait = taken.some; format_is = refl }

-- one block too many
pub block_past : (asked : Asked) (format : WaveFormat) (extent : Extent) (block more : List ℕ)
    → length block ≡ format.block → 1 ≤ format.block → HasBytes format.block extent
    → IsPast (Data format extent 0) (data_at asked format extent 0 (block ++ more))
unfolding samples_at
block_past asked format extent block more len some has =
    let w = format.block in
    let inner = bytes_inside (extent_behind extent w) more / w in
    let count : bytes_inside extent (block ++ more) / w ≡ inner + 1 =
    ap (λ (n : ℕ). n / w) (inside_more extent w block more len has)
    ∙ add-div_left (bytes_inside (extent_behind extent w) more) some in
    let none : min 0 (bytes_inside extent (block ++ more) / w) ≡ 0 = omega arith in
    record {
      verdict = ap (λ (b : Bool). if b then good else past_limit)
          (lt-leb (bytes_inside extent (block ++ more) / w) 0 (omega (arith, count)));
      samples = ap (λ (n : ℕ). samples_at format asked n (block ++ more)) none;
      format = refl;
    }

-- a run of blocks
pub blocks_more : (asked : Asked) (format : WaveFormat) (count : ℕ) (extent : Extent) (room : ℕ) (blocks more : List ℕ)
    → length blocks ≡ count * format.block → 1 ≤ format.block → HasBytes (count * format.block) extent → count ≤ room
    → data_at asked format extent room (blocks ++ more)
    ≡ with_samples (samples_at format asked count blocks)
    (data_at asked format (extent_behind extent (count * format.block)) (room - count) more)
unfolding samples_at
blocks_more asked format zero extent room (b ∷ blocks) more len some has least =
    let none : 0 * format.block ≡ 0 = omega arith in absurd (omega (arith, len, none))
blocks_more asked format zero extent room [] more len some has least =
    let none : 0 * format.block ≡ 0 = omega arith in
    let all : room - 0 ≡ room = omega arith in
    rw (none, all) (ap (λ (e : Extent). data_at asked format e room more) (sym (behind_none extent)))
  where
    behind_none : (extent : Extent) → extent_behind extent 0 ≡ extent
    behind_none (Announced n) = ap Announced (omega arith)
    behind_none Open = refl
blocks_more asked format (suc k) extent room blocks more len some has least =
    let w = format.block in
    let one = suc-mul k w in
    let front = take w blocks in
    let rest = drop w blocks in
    let there : w ≤ length blocks = omega (arith, len, one) in
    let front_is : length front ≡ w = length-take-le w blocks there in
    let cut : front ++ rest ≡ blocks = take-append-drop w blocks in
    let sum = length-append front rest in
    let whole = ap length cut in
    let rest_is : length rest ≡ k * w = omega (arith, len, one, front_is, sum, whole) in
    let split : blocks ++ more ≡ front ++ (rest ++ more) = ap (λ (l : List ℕ). l ++ more) (sym cut)
    ∙ append_assoc front rest more in
    ap (λ (l : List ℕ). data_at asked format extent room l) split
    ∙ block_more asked format extent room front (rest ++ more) front_is some (has_one extent w k has)
    (omega (arith, least))
    ∙ ap (with_samples (sample_in format asked front ∷ []))
    (blocks_more asked format k (extent_behind extent w) (room - 1) rest more rest_is some (has_more extent w k has)
    (omega (arith, least)))
    ∙ ap (λ (e : Extent). with_samples (samples_at format asked (suc k) blocks)
    (data_at asked format e (room - 1 - k) more)) (behind_more extent w k)
    ∙ ap (λ (n : ℕ). with_samples (samples_at format asked (suc k) blocks)
    (data_at asked format (extent_behind extent (suc k * w)) n more)) (omega arith)
  where
    has_one : (extent : Extent) (w k : ℕ) → HasBytes (suc k * w) extent → HasBytes w extent
    has_one (Announced n) w k has = let one = suc-mul k w in omega (arith, has, one)
    has_one Open w k has = tt

    has_more : (extent : Extent) (w k : ℕ) → HasBytes (suc k * w) extent → HasBytes (k * w) (extent_behind extent w)
    has_more (Announced n) w k has = let one = suc-mul k w in omega (arith, has, one)
    has_more Open w k has = tt

    behind_more : (extent : Extent) (w k : ℕ) → extent_behind (extent_behind extent w) (k * w) ≡ extent_behind extent
        (suc k * w)
    behind_more (Announced n) w k = let one = suc-mul k w in ap Announced (omega (arith, one))
    behind_more Open w k = refl

-- the samples of one block more
pub samples_more : (format : WaveFormat) (asked : Asked) (count : ℕ) (bytes : List ℕ)
    → samples_at format asked (count + 1) bytes
    ≡ samples_at format asked count bytes ++ sample_in format asked
    (take format.block (drop (count * format.block) bytes)) ∷ []
unfolding samples_at
samples_more format asked zero bytes =
    let none : 0 * format.block ≡ 0 = omega arith in rw none refl
samples_more format asked (suc k) bytes =
    let w = format.block in
    let next : suc k + 1 ≡ suc (k + 1) = omega arith in
    let behind : drop (k * w) (drop w bytes) ≡ drop (suc k * w) bytes =
    drop-drop (k * w) w bytes ∙ ap (λ (n : ℕ). drop n bytes) (let one = suc-mul k w in omega (arith, one)) in
    rw next (ap (λ (l : List ℤ). sample_in format asked (take w bytes) ∷ l) (samples_more format asked k (drop w bytes)
    ∙ ap (λ (l : List ℕ). samples_at format asked k (drop w bytes) ++ sample_in format asked (take w l) ∷ []) behind))

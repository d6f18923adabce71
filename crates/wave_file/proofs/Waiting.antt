-- What a part of a piece says of a sound file: nothing yet, and whether the file may end there.
use Rattle.std.proofs.Common.{true, false, ◌≡◌, ℕ, zero, suc, ◌-◌, ◌<◌, Bool, List, [], ◌∷◌}
use Rattle.std.proofs.Common.{Some, None, length, take, drop, refl, ap}
use Rattle.std.proofs.Common.{◌∙◌, arith, sym}
use Rattle.std.specs.Prelude.{nat_le, ◌==◌, ◌&&◌, ◌/◌, min, if◌then◌else◌}
use Rattle.std.proofs.lemmas.Bool.{and_right, cond-false, le-leb, lt-leb, ne_eqb}
use Rattle.std.proofs.lemmas.Nat.{div_below}
use Rattle.std.proofs.Math.Nat.{mod-eq_of_lt}
use Rattle.wave_file.specs.declared.chunk.Notes.{Notes}
use Rattle.wave_file.specs.declared.stage.Stage.{Stage}
use Rattle.wave_file.specs.declared.stage.Stage.TheVariants.{Riff, Wave, Chunk, Format, Sizes, Data, Tail}
use Rattle.wave_file.specs.declared.chunk.Extent.TheVariants.{Announced, Open}
use Rattle.byteorder.specs.Endian.{big_number, little_number}
use Rattle.wave_file.specs.declared.chunk.TheConstants.{WAVE}
use Rattle.file_faults.specs.declared.sound.WaveFault.TheVariants as fault
use Rattle.wave_file.specs.Chunk.{form_of, no_notes}
use Rattle.wave_file.specs.Format.{format_in, samples_at}
use Rattle.wave_file.specs.Stage.{at, format_at_stage, width_of}
use Rattle.wave_file.specs.Stage.{IsStage}
use Rattle.wave_file.specs.StandsFor.{IsTold, may_end_before}
use Rattle.wave_file.specs.Wave.{Reading, bad, chunks_at, behind_form, judged_width, padded, piece}
use Rattle.wave_file.specs.Wave.{taken, unfinished}
use Rattle.tc_io.specs.Verdict.{good, past_limit}
use Rattle.wave_file.proofs.Blocks.{none_inside}
use Rattle.wave_file.proofs.Pieces.{chunk_alone}
use Rattle.wave_file.specs.declared.format.Asked.{Asked}

-- what a part of a piece says
pub record Waiting (asked : Asked) (notes : Notes) (place : ℕ) (stage : Stage) (part : List ℕ) : Type 0 where
  pub told : IsTold (at asked notes place stage part) (format_at_stage stage) [] good
  pub ends : (at asked notes place stage part).may_end ≡ ((length part == 0) && may_end_before stage)

none_yet : (asked : Asked) (notes : Notes) (place : ℕ) (stage : Stage) (part : List ℕ) → format_at_stage stage ≡ None
    → may_end_before stage ≡ false
    → at asked notes place stage part ≡ unfinished → Waiting asked notes place stage part
none_yet asked notes place stage part none ends is = record {
  told = record {
    format_is = ap (λ (r : Reading). r.format) is ∙ sym none;
    samples_are = ap (λ (r : Reading). r.samples) is;
    verdict_is = ap (λ (r : Reading). r.verdict) is;
  };
  ends = ap (λ (r : Reading). r.may_end) is ∙ sym (and_right (length part == 0) (may_end_before stage) ends);
}

short : (width : ℕ) (brings : List ℕ → List ℕ → Reading) (part : List ℕ) → length part < width
    → piece width brings part ≡ unfinished
short width brings part less = cond-false (nat_le width (length part)) (brings (take width part) (drop width part))
    unfinished
    (lt-leb width (length part) less)

short_head : (asked : Asked) (notes : Notes) (place skip : ℕ) (part : List ℕ) → length part < width_of (Chunk skip)
    → chunks_at asked skip notes place part ≡ unfinished
unfolding chunks_at
short_head asked notes place (suc skip) [] less = refl
short_head asked notes place (suc skip) (b ∷ part) less = let alone = chunk_alone (suc skip) (omega arith) in
    absurd (omega (arith, alone, less))
short_head asked notes place zero (a ∷ b ∷ c ∷ d ∷ e ∷ f ∷ g ∷ h ∷ part) less = absurd (omega (arith, less))
short_head asked notes place zero _ less = refl

pub waiting : (asked : Asked) (notes : Notes) (place : ℕ) (stage : Stage) (part : List ℕ) → IsStage asked place stage
    → length part < width_of stage
    → Waiting asked notes place stage part
unfolding samples_at
waiting asked notes place Riff part is less = none_yet asked notes place Riff part refl refl
    (short 4 (λ letters rest. behind_form asked (form_of (big_number 4 letters)) rest) part less)
waiting asked notes place (Wave l) part is less = none_yet asked notes place (Wave l) part refl refl
    (short 8 (λ wave rest. if big_number 4 (drop 4 wave) == WAVE then chunks_at asked 0
    (no_notes l (little_number 4 wave)) 12 rest else bad (fault.Wave 8)) part less)
waiting asked notes place (Chunk skip) part is less = none_yet asked notes place (Chunk skip) part refl refl
    (short_head asked notes place skip part less)
waiting asked notes place (Format size) part is less = none_yet asked notes place (Format size) part refl refl
    (short (judged_width size)
    (λ body rest. taken (format_in asked place body)
    (λ format. chunks_at asked (padded size) (record notes { format = Some format }) place part)) part less)
waiting asked notes place (Sizes size) part is less = none_yet asked notes place (Sizes size) part refl refl
    (short 16 (λ body rest. chunks_at asked (padded size)
    (record notes { data_size = Some (little_number 8 (drop 8 body)) }) place part) part less)
waiting asked notes place (Tail format left) [] is less = record {
  told = record { format_is = refl; samples_are = refl; verdict_is = refl };
  ends = at_end left;
}
  where
    at_end : (left : ℕ) → nat_le left 0 ≡ (left == 0)
    at_end zero = refl
    at_end (suc left) = lt-leb (suc left) 0 (omega arith) ∙ sym (ne_eqb (suc left) 0 (λ e. omega (arith, e)))
waiting asked notes place (Tail format left) (b ∷ part) is less = absurd (omega (arith, less))
waiting asked notes place (Data format Open room) part is less =
    let few = div_below (length part) format.block 1 (omega (arith, less)) (omega (arith, less)) in
    let none = none_inside (length part) format.block room less in
    record {
      told = record {
        format_is = refl;
        samples_are = ap (λ (n : ℕ). samples_at format asked n part) none;
        verdict_is = ap (λ (b : Bool). if b then good else past_limit)
            (le-leb (length part / format.block) room (omega (arith, few)));
      };
      ends = ap (λ (n : ℕ). n == 0) (mod-eq_of_lt less) ∙ sym (and_true (length part == 0));
    }
  where
    and_true : (b : Bool) → (b && true) ≡ b
    and_true true = refl
    and_true false = refl
waiting asked notes place (Data format (Announced left) room) part is less =
    let there = is.1 in
    let inside : min left (length part) < format.block = omega (arith, less) in
    let few = div_below (min left (length part)) format.block 1 (omega (arith, less)) (omega (arith, inside)) in
    let none = none_inside (min left (length part)) format.block room inside in
    record {
      told = record {
        format_is = refl;
        samples_are = ap (λ (n : ℕ). samples_at format asked n part) none;
        verdict_is = ap (λ (b : Bool). if b then good else past_limit)
            (le-leb (min left (length part) / format.block) room (omega (arith, few)));
      };
      ends = lt-leb left (length part) (omega (arith, less, there)) ∙ sym (and_right (length part == 0) false refl);
    }

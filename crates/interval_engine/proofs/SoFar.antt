-- What holds before the header is whole, and of bytes that are too few.
use Rattle.std.proofs.Common.{◌≡◌, ℕ, ◌≤◌, List, [], ◌++◌, length, None, refl, ◌∙◌, ap, subst, sym, arith, Bool, true}
use Rattle.std.proofs.Common.{false}
use Rattle.std.specs.Prelude.{if◌then◌else◌}
use Rattle.limits.specs.declared.recording.TheConstants.{MAX_INTERVALS}
use Rattle.interval_file.specs.declared.fault.IntervalFileFault.{IntervalFileFault}
use Rattle.interval_file.specs.declared.fault.IntervalFileFault.TheVariants.{Truncated}
use Rattle.interval_file.specs.declared.header.FileVersion.{FileVersion}
use Rattle.interval_file.specs.declared.header.FileVersion.TheVariants.{One, Two}
use Rattle.interval_file.specs.Grammar.{IsHeaderFault, no_header}
use Rattle.interval_file.specs.Piece.{piece_width}
use Rattle.interval_file.specs.Recording.{Recording, recording_of, shown as shown_of}
use Rattle.tc_io.specs.Verdict.{Verdict, good, refused, verdict_as}
use Rattle.tc_command.specs.declared.halt.Halt.TheVariants.{Refused}
use Rattle.tc_command.specs.declared.input_fault.InputFault.TheVariants.{Intervals}
use Rattle.tc_command.specs.Halt.{IsHalt as IsHaltOf}
use Rattle.tc_command.specs.Meaning.{Meaning, Shows}
use Rattle.tc_command.specs.TooFew.{AreTooFew}
use Rattle.interval_engine.specs.Along.{IsPartOf, IsSpentOf, Printing, along_intervals}
use Rattle.interval_engine.specs.KeptAlong.{HeaderIsShort, IsShort, StandsWell, StandsWithin, good_well}
use Rattle.interval_engine.proofs.IntervalMore.{Relation, still_good}
use Rattle.interval_engine.proofs.ReadSoFar.{ReadAsSaid}

-- what holds of nothing holds where nothing was given
pub from_start : (P : List ℕ → List ℕ → Type 0) (front written : List ℕ) → (front ≡ []) × (written ≡ []) → P [] []
    → P front written
from_start P front written none is =
    subst (λ (f : List ℕ). P f written) (sym none.0) (subst (λ (w : List ℕ). P [] w) (sym none.1) is)

narrow : (version : FileVersion) (bytes : List ℕ) → piece_width version bytes ≤ 6
narrow One bytes = omega arith
narrow Two bytes = by_zero _
  where
    by_zero : (zero : Bool) → (if zero then 6 else 2) ≤ 6
    by_zero true = omega arith
    by_zero false = omega arith

-- an interval that is cut
pub waits_inside : ReadAsSaid → {B C : Type 0} (printing : C → Printing) (stands : Relation B C)
    → StandsWell printing stands → (version : FileVersion) (behind : B) (taken count : ℕ) (choice : C) (bytes : List ℕ)
    → IsShort version bytes → count ≤ MAX_INTERVALS
    → AreTooFew (along_intervals (printing choice))
    (StandsWithin printing stands version behind taken count choice) bytes
waits_inside said printing stands well version behind taken count choice bytes short limit = record {
  few = (let wide = narrow version bytes in let less = short.short in omega (arith, wide, less));
  good = λ front written within.
      let s = within.stands in
      good_well (printing choice) (front ++ bytes) written s.header s.intervals
      (still_good said stands version behind taken count choice front written s bytes short limit)
      (subst (λ (r : Recording). ¬ IsSpentOf (printing choice) r) s.read within.unspent)
      (well behind choice s.header s.intervals written s.wrote);
}

-- no header is read of bytes with a fault in it
no_recording : ReadAsSaid → (bytes : List ℕ) (first : IntervalFileFault) → IsHeaderFault first bytes
    → recording_of bytes ≡ record { header = None; intervals = []; verdict = shown_of first }
no_recording said bytes first is = said bytes (no_header first) is

-- a header that is cut
pub waits_in_header : ReadAsSaid → (p : Printing) (bytes : List ℕ) → HeaderIsShort bytes
    → AreTooFew (along_intervals p) (λ front written. (front ≡ []) × (written ≡ [])) bytes
waits_in_header said p bytes short = record {
  few = (let less = short.1.short in omega (arith, less));
  good = λ front written none.
      let read = no_recording said bytes (Truncated (length bytes)) short in
      from_start (λ f w. Shows (along_intervals p) good (f ++ bytes) × Meaning.part (along_intervals p) (f ++ bytes) w)
      front written none (
        record {
          is = ap (λ (r : Recording). verdict_as Intervals r.verdict) read;
          unspent = subst (λ (r : Recording). ¬ IsSpentOf p r) (sym read) (λ spent. spent);
        },
        subst (λ (r : Recording). IsPartOf p r []) (sym read) refl,
      );
}

-- and one with a fault
pub refused_in_header : ReadAsSaid → (p : Printing) (bytes : List ℕ) (first : IntervalFileFault)
    → IsHeaderFault first bytes → shown_of first ≡ refused first → (front written : List ℕ)
    → (front ≡ []) × (written ≡ [])
    → IsHaltOf (along_intervals p) (Refused (Intervals first)) (front ++ bytes) (written ++ [])
refused_in_header said p bytes first is stays front written none =
    let read = no_recording said bytes first is in
    from_start (λ f w. IsHaltOf (along_intervals p) (Refused (Intervals first)) (f ++ bytes) (w ++ [])) front written
    none (
      record {
        is = ap (λ (r : Recording). verdict_as Intervals r.verdict) read
            ∙ ap (λ (v : Verdict IntervalFileFault). verdict_as Intervals v) stays;
        unspent = subst (λ (r : Recording). ¬ IsSpentOf p r) (sym read) (λ spent. spent);
      },
      subst (λ (r : Recording). IsPartOf p r []) (sym read) refl,
    )

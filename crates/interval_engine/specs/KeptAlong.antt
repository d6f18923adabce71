-- What a command along an interval file keeps. No promise speaks of it.
use Rattle.std.specs.Prelude.{◌≡◌, ◌⊎◌, ℕ, ◌<◌, ◌≤◌, ◌+◌, ◌*◌, List, [], length, take, Option, Some, None}
use Rattle.std.proofs.Common.{refl, sym, subst}
use Rattle.limits.specs.declared.recording.TheConstants.{MAX_INTERVALS}
use Rattle.interval_file.specs.declared.fault.IntervalFileFault.TheVariants.{Truncated}
use Rattle.interval_file.specs.declared.header.FileVersion.{FileVersion}
use Rattle.interval_file.specs.declared.header.IntervalHeader.{IntervalHeader}
use Rattle.interval_file.specs.declared.header.TheConstants.{HEADER_LENGTH}
use Rattle.interval_file.specs.Grammar.{IsFile, IsHeaderFault}
use Rattle.interval_file.specs.Piece.{piece_width}
use Rattle.interval_file.specs.Recording.{Recording, recording_of}
use Rattle.tc_command.specs.declared.input_fault.InputFault.{InputFault}
use Rattle.tc_command.specs.declared.input_fault.InputFault.TheVariants.{Intervals}
use Rattle.tc_command.specs.Meaning.{Meaning, Shows}
use Rattle.tc_io.specs.Verdict.{Verdict, refused, past_limit, good, verdict_as}
use Rattle.tc_command.specs.declared.halt.Halt.{Halt}
use Rattle.tc_command.specs.declared.halt.Halt.TheVariants.{Refused, Limit}
use Rattle.tc_command.specs.KeptBrings.{Brings}
use Rattle.interval_engine.specs.Along.{Printing, IsPartOf, IsSpentOf, along_intervals}
use Rattle.interval_engine.specs.KeptBehind.{IsPartBehind}

-- what is kept behind the header fits the number of intervals, and that of the bytes
pub record IsGoing {B : Type 0} (fits : B → ℕ → Type 0) (behind : B) (taken count : ℕ) : Type 0 where
  pub limit : count ≤ MAX_INTERVALS
  pub bytes : taken ≤ HEADER_LENGTH + 6 * count
  pub keeps : fits behind count

-- the recording of a header and intervals within the limit
abbrev pub good_recording : IntervalHeader → List ℕ → Recording
good_recording header intervals = record { header = Some header; intervals = intervals; verdict = good }

-- it was given the file of a header and of so many intervals, and wrote this for them
pub record Stands {B C : Type 0} (stands : B → C → IntervalHeader → List ℕ → List ℕ → Type 0) (version : FileVersion)
    (behind : B) (taken count : ℕ) (choice : C) (bytes written : List ℕ) : Type 0 where
  pub header : IntervalHeader
  pub intervals : List ℕ
  pub file : IsFile bytes header intervals
  pub read : recording_of bytes ≡ good_recording header intervals
  pub same : header.version ≡ version
  pub counts : count ≡ length intervals
  pub long : taken ≡ length bytes
  pub wrote : stands behind choice header intervals written

-- the same, and the bytes do not pass a limit of the command's own
pub record StandsWithin {B C : Type 0} (printing : C → Printing)
    (relation : B → C → IntervalHeader → List ℕ → List ℕ → Type 0) (version : FileVersion)
    (behind : B) (taken count : ℕ) (choice : C) (bytes written : List ℕ) : Type 0 where
  pub stands : Stands relation version behind taken count choice bytes written
  pub unspent : ¬ IsSpentOf (printing choice) (recording_of bytes)

-- no intervals that it was given pass a limit of the command's own
abbrev pub IsWithin : {B C : Type 0} → (C → Printing) → (B → C → IntervalHeader → List ℕ → List ℕ → Type 0) → B → Type 0
IsWithin {B} {C} printing stands behind = (choice : C) (header : IntervalHeader) (intervals written : List ℕ)
    → stands behind choice header intervals written → ¬ Printing.spent (printing choice) header intervals

-- some bytes, which end inside an interval
pub record IsShort (version : FileVersion) (bytes : List ℕ) : Type 0 where
  pub some : 0 < length bytes
  pub short : length bytes < piece_width version bytes

-- or inside the header, which has no fault so far
abbrev pub HeaderIsShort : List ℕ → Type 0
HeaderIsShort bytes = IsHeaderFault (Truncated (length bytes)) bytes

-- it took so many of the bytes, wrote what they bring, and goes on
pub record Advances {B C O : Type 0} (given : O → O → List ℕ → Type 0) (fits : B → ℕ → Type 0)
    (stands : B → C → IntervalHeader → List ℕ → List ℕ → Type 0) (version next : FileVersion)
    (before behind : B) (taken now count many : ℕ) (old new : O) (bytes : List ℕ) (n : ℕ) : Type 0 where
  pub most : n ≤ length bytes
  pub going : IsGoing fits behind now many
  pub more : 1 ≤ n → count < many
  pub fewer : count ≤ many
  pub waits : (1 ≤ n) ⊎ IsShort next bytes
  pub works : (choice : C) → Brings given (Stands stands version before taken count choice)
      (Stands stands next behind now many choice) old new (take n bytes)

-- what was written stands for the header and the intervals
abbrev pub Printed : {B C : Type 0} → (B → C → IntervalHeader → List ℕ → List ℕ → Type 0) → B → C → Recording
    → List ℕ → Type 0
Printed stands behind choice r written =
    (header : IntervalHeader) × (r.header ≡ Some header) × stands behind choice header r.intervals written

-- what the file shows where the engine halts
abbrev pub shown : Halt → Verdict InputFault
shown (Refused fault) = refused fault
shown Limit = past_limit

-- a fault of the file, or its limit, and what was written
pub record IsHalt {B C : Type 0} (stands : B → C → IntervalHeader → List ℕ → List ℕ → Type 0) (behind : B)
    (choice : C) (halt : Halt) (pulled written : List ℕ) : Type 0 where
  pub shows : verdict_as Intervals (recording_of pulled).verdict ≡ shown halt
  pub printed : Printed stands behind choice (recording_of pulled) written

-- ---- what was written is the part of the output

-- what the command promises of what it keeps
abbrev pub StandsWell : {B C : Type 0} → (C → Printing) → (B → C → IntervalHeader → List ℕ → List ℕ → Type 0) → Type 0
StandsWell {B} {C} printing stands = (behind : B) (choice : C) (header : IntervalHeader) (intervals written : List ℕ)
    → stands behind choice header intervals written → Printing.part (printing choice) header intervals written

pub printed_well : {B C : Type 0} (printing : C → Printing)
    (stands : B → C → IntervalHeader → List ℕ → List ℕ → Type 0) → StandsWell printing stands
    → (behind : B) (choice : C) (r : Recording) (written : List ℕ)
    → Printed stands behind choice r written → IsPartOf (printing choice) r written
printed_well printing stands well behind choice r written printed =
    subst (λ (h : Option IntervalHeader). IsPartBehind (printing choice) h r.intervals written) (sym printed.1)
    (well behind choice printed.0 r.intervals written printed.2)

-- bytes that are read as a header and intervals show nothing but good
pub good_well : (p : Printing) (bytes written : List ℕ) (header : IntervalHeader) (intervals : List ℕ)
    → recording_of bytes ≡ good_recording header intervals → ¬ p.spent header intervals
    → p.part header intervals written
    → Shows (along_intervals p) good bytes × Meaning.part (along_intervals p) bytes written
good_well p bytes written header intervals read unspent part = (
  record {
    is = subst (λ (r : Recording). verdict_as Intervals r.verdict ≡ good) (sym read) refl;
    unspent = subst (λ (r : Recording). ¬ IsSpentOf p r) (sym read) unspent;
  },
  subst (λ (r : Recording). IsPartOf p r written) (sym read) part,
)

pub stands_well : {B C : Type 0} (printing : C → Printing)
    (stands : B → C → IntervalHeader → List ℕ → List ℕ → Type 0) → StandsWell printing stands
    → (version : FileVersion) (behind : B) (taken count : ℕ) (choice : C) (bytes written : List ℕ)
    → StandsWithin printing stands version behind taken count choice bytes written
    → Shows (along_intervals (printing choice)) good bytes
    × Meaning.part (along_intervals (printing choice)) bytes written
stands_well printing stands well version behind taken count choice bytes written s =
    let is = s.stands in
    good_well (printing choice) bytes written is.header is.intervals is.read
    (subst (λ (r : Recording). ¬ IsSpentOf (printing choice) r) is.read s.unspent)
    (well behind choice is.header is.intervals written is.wrote)

-- ---- before the header is whole

-- it was given nothing, or what is kept stands for it
abbrev pub StandsSoFar : {K : Type 0} → (K → List ℕ → List ℕ → Type 0) → Option K → List ℕ → List ℕ → Type 0
StandsSoFar stands None bytes written = (bytes ≡ []) × (written ≡ [])
StandsSoFar stands (Some kept) bytes written = stands kept bytes written

nothing_well : (p : Printing) → Shows (along_intervals p) good [] × Meaning.part (along_intervals p) [] []
unfolding recording_of
nothing_well p = (record { is = refl; unspent = λ spent. spent }, refl)

pub so_far_well : {K : Type 0} (p : Printing) (stands : K → List ℕ → List ℕ → Type 0)
    → ((kept : K) (bytes written : List ℕ) → stands kept bytes written
    → Shows (along_intervals p) good bytes × Meaning.part (along_intervals p) bytes written)
    → (begun : Option K) (bytes written : List ℕ) → StandsSoFar stands begun bytes written
    → Shows (along_intervals p) good bytes × Meaning.part (along_intervals p) bytes written
so_far_well p stands well None bytes written s =
    subst (λ (b : List ℕ). Shows (along_intervals p) good b × Meaning.part (along_intervals p) b written) (sym s.0)
    (subst (λ (w : List ℕ). Shows (along_intervals p) good [] × Meaning.part (along_intervals p) [] w) (sym s.1)
    (nothing_well p))
so_far_well p stands well (Some kept) bytes written s = well kept bytes written s

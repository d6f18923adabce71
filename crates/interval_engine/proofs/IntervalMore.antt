-- What the next interval of a file does to a command along it: one in range leaves it standing, bytes that end inside
-- one leave it waiting, and else this is why it halts.
use Rattle.std.proofs.Common.{◌≡◌, ℕ, ◌+◌, ◌<◌, ◌≤◌, List, [], ◌∷◌, ◌++◌, length, take, drop, Some, refl, sym, ◌∙◌}
use Rattle.std.proofs.Common.{ap, subst, append-nil, append_assoc, arith, length-append}
use Rattle.std.proofs.lemmas.List.{take-append-drop, take-append-le, take_all}
use Rattle.limits.specs.declared.recording.TheConstants.{MAX_INTERVALS}
use Rattle.interval_file.specs.declared.fault.IntervalFileFault.TheVariants.{Interval, Truncated}
use Rattle.interval_file.specs.declared.header.FileVersion.{FileVersion}
use Rattle.interval_file.specs.declared.header.IntervalHeader.{IntervalHeader}
use Rattle.interval_file.specs.Grammar.{IsFaulty, IsFile}
use Rattle.interval_file.specs.Growing.{RecordingsGrow}
use Rattle.interval_file.specs.Recording.{Recording, recording_of}
use Rattle.tc_command.specs.declared.input_fault.InputFault.TheVariants.{Intervals}
use Rattle.tc_command.specs.declared.halt.Halt.{Halt}
use Rattle.tc_command.specs.declared.halt.Halt.TheVariants.{Refused, Limit}
use Rattle.tc_io.specs.Verdict.{verdict_as}
use Rattle.interval_engine.specs.KeptAlong.{IsHalt, IsShort, Stands, good_recording, shown}
use Rattle.interval_engine.proofs.ReadSoFar.{ReadAsSaid, faulty_is, file_is, long_fault_is, long_is, over}

-- the relation of a command
abbrev pub Relation : Type 0 → Type 0 → Type 1
Relation B C = B → C → IntervalHeader → List ℕ → List ℕ → Type 0

-- an interval more
pub one_longer : ReadAsSaid → {B C : Type 0} (stands : Relation B C) (version : FileVersion) (behind next : B)
    (taken count : ℕ) (choice : C) (front written : List ℕ)
    → (s : Stands stands version behind taken count choice front written) (piece after : List ℕ) (x width : ℕ)
    → IsFile (front ++ piece) s.header (s.intervals ++ x ∷ []) → length piece ≡ width → count < MAX_INTERVALS
    → stands next choice s.header (s.intervals ++ x ∷ []) after
    → Stands stands version next (taken + width) (count + 1) choice (front ++ piece) after
one_longer said stands version behind next taken count choice front written s piece after x width is wide below wrote =
    let counts = s.counts in
    let long = s.long in
    let more = length-append s.intervals (x ∷ []) in
    let all = length-append front piece in
    record {
      header = s.header;
      intervals = s.intervals ++ x ∷ [];
      file = is;
      read = file_is said (front ++ piece) s.header (s.intervals ++ x ∷ []) is (omega (arith, below, counts, more));
      same = s.same;
      counts = omega (arith, counts, more);
      long = omega (arith, long, all, wide);
      wrote = wrote;
    }

-- a recording that is no longer good, and what was written of it
halts_at : {B C : Type 0} (stands : Relation B C) (behind : B) (choice : C) (halt : Halt) (pulled written : List ℕ)
    (header : IntervalHeader) (intervals : List ℕ) (r : Recording) → recording_of pulled ≡ r
    → r.header ≡ Some header → r.intervals ≡ intervals → verdict_as Intervals r.verdict ≡ shown halt
    → stands behind choice header intervals written
    → IsHalt stands behind choice halt pulled (written ++ [])
halts_at stands behind choice halt pulled written header intervals r read first are shows wrote = record {
  shows = ap (λ (q : Recording). verdict_as Intervals q.verdict) read ∙ shows;
  printed = (
    header,
    ap (λ (q : Recording). q.header) read ∙ first,
    subst (λ (w : List ℕ). stands behind choice header (recording_of pulled).intervals w) (sym (append-nil written))
        (subst (λ (l : List ℕ). stands behind choice header l written)
        (sym (ap (λ (q : Recording). q.intervals) read ∙ are)) wrote),
  );
}

-- an interval out of range
pub refused_at : ReadAsSaid → {B C : Type 0} (stands : Relation B C) (version : FileVersion) (behind : B)
    (taken count : ℕ) (choice : C) (front written : List ℕ)
    → (s : Stands stands version behind taken count choice front written) (bytes : List ℕ) (place : ℕ)
    → IsFaulty (front ++ bytes) s.header s.intervals (Interval place) → count < MAX_INTERVALS
    → IsHalt stands behind choice (Refused (Intervals (Interval place))) (front ++ bytes) (written ++ [])
refused_at said stands version behind taken count choice front written s bytes place is below =
    let counts = s.counts in
    halts_at stands behind choice (Refused (Intervals (Interval place))) (front ++ bytes) written s.header s.intervals _
    (faulty_is said (front ++ bytes) s.header s.intervals (Interval place) is (omega (arith, counts, below))) refl refl
    refl s.wrote

-- whatever comes behind it
pub refused_on : ReadAsSaid → RecordingsGrow → {B C : Type 0} (stands : Relation B C) (version : FileVersion)
    (behind : B) (taken count : ℕ) (choice : C) (front written : List ℕ)
    → (s : Stands stands version behind taken count choice front written) (window rest : List ℕ) (place : ℕ)
    → IsFaulty (front ++ window) s.header s.intervals (Interval place) → count < MAX_INTERVALS
    → IsHalt stands behind choice (Refused (Intervals (Interval place))) (front ++ (window ++ rest)) (written ++ [])
refused_on said grow stands version behind taken count choice front written s window rest place is below =
    let counts = s.counts in
    let read = faulty_is said (front ++ window) s.header s.intervals (Interval place) is
    (omega (arith, counts, below)) in
    let stays = ap recording_of (sym (append_assoc front window rest))
    ∙ grow.refused (front ++ window) rest (Interval place) (ap (λ (r : Recording). r.verdict) read) ∙ read in
    halts_at stands behind choice (Refused (Intervals (Interval place))) (front ++ (window ++ rest)) written s.header
    s.intervals _ stays refl refl refl s.wrote

-- past the limit no interval is looked at
pub wrong_past_limit : ReadAsSaid → {B C : Type 0} (stands : Relation B C) (version : FileVersion) (behind : B)
    (taken count : ℕ) (choice : C) (front written : List ℕ)
    → (s : Stands stands version behind taken count choice front written) (bytes : List ℕ) (place : ℕ)
    → IsFaulty (front ++ bytes) s.header s.intervals (Interval place) → count ≡ MAX_INTERVALS
    → IsHalt stands behind choice Limit (front ++ bytes) (written ++ [])
wrong_past_limit said stands version behind taken count choice front written s bytes place is full =
    let counts = s.counts in
    halts_at stands behind choice Limit (front ++ bytes) written s.header s.intervals
    (over s.header s.intervals)
    (long_fault_is said (front ++ bytes) s.header s.intervals (Interval place) is (omega (arith, counts, full))) refl
    (take_all MAX_INTERVALS s.intervals (omega (arith, counts, full))) refl s.wrote

pub past_limit_at : ReadAsSaid → RecordingsGrow → {B C : Type 0} (stands : Relation B C) (version : FileVersion)
    (behind : B) (taken count : ℕ) (choice : C) (front written : List ℕ)
    → (s : Stands stands version behind taken count choice front written) (bytes : List ℕ) (x width : ℕ)
    → IsFile (front ++ take width bytes) s.header (s.intervals ++ x ∷ []) → count ≡ MAX_INTERVALS
    → IsHalt stands behind choice Limit (front ++ bytes) (written ++ [])
past_limit_at said grow stands version behind taken count choice front written s bytes x width is full =
    let counts = s.counts in
    let longer = s.intervals ++ x ∷ [] in
    let more = length-append s.intervals (x ∷ []) in
    let piece = front ++ take width bytes in
    let read = long_is said piece s.header longer is (omega (arith, counts, full, more)) in
    let all : piece ++ drop width bytes ≡ front ++ bytes =
    append_assoc front (take width bytes) (drop width bytes)
    ∙ ap (λ (l : List ℕ). front ++ l) (take-append-drop width bytes) in
    let stays = sym (ap recording_of all)
    ∙ grow.past piece (drop width bytes) (ap (λ (r : Recording). r.verdict) read) ∙ read in
    halts_at stands behind choice Limit (front ++ bytes) written s.header s.intervals (over s.header longer) stays refl
    (take-append-le MAX_INTERVALS s.intervals (x ∷ []) (omega (arith, counts, full))
    ∙ take_all MAX_INTERVALS s.intervals (omega (arith, counts, full))) refl s.wrote

-- ---- bytes that end inside an interval

pub cut_is : {B C : Type 0} (stands : Relation B C) (version : FileVersion) (behind : B) (taken count : ℕ) (choice : C)
    (front written : List ℕ) → (s : Stands stands version behind taken count choice front written) (bytes : List ℕ)
    → IsShort version bytes → IsFaulty (front ++ bytes) s.header s.intervals (Truncated (length front + length bytes))
cut_is stands version behind taken count choice front written s bytes short = record {
  front = front;
  rest = bytes;
  are = refl;
  file = s.file;
  fails = (refl, short.some, rw s.same short.short);
}

pub still_good : ReadAsSaid → {B C : Type 0} (stands : Relation B C) (version : FileVersion) (behind : B)
    (taken count : ℕ) (choice : C) (front written : List ℕ)
    → (s : Stands stands version behind taken count choice front written) (bytes : List ℕ)
    → IsShort version bytes → count ≤ MAX_INTERVALS
    → recording_of (front ++ bytes) ≡ good_recording s.header s.intervals
still_good said stands version behind taken count choice front written s bytes short limit =
    let counts = s.counts in
    faulty_is said (front ++ bytes) s.header s.intervals (Truncated (length front + length bytes))
    (cut_is stands version behind taken count choice front written s bytes short) (omega (arith, counts, limit))

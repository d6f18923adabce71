-- A limit of the command's own comes before a fault of the file, and before the file's limit.
use Rattle.std.proofs.Common.{◌⊎◌, ℕ, ◌≤◌, List, [], ◌++◌, take, drop, inl, inr, refl, sym, ap, subst, append-nil, append_assoc, ◌∙◌}
use Rattle.std.proofs.lemmas.List.{take-append-drop}
use Rattle.std.specs.Prelude.{IfOk, IfErr, Ok, Err}
use Rattle.std.specs.declared.option.Option.{Option}
use Rattle.std.specs.declared.result.Result.{Result}
use Rattle.tc_command.specs.KeptBrings.{Brings}
use Rattle.limits.specs.declared.recording.TheConstants.{MAX_INTERVALS}
use Rattle.interval_file.specs.declared.header.FileVersion.{FileVersion}
use Rattle.interval_file.specs.declared.header.IntervalHeader.{IntervalHeader}
use Rattle.interval_file.specs.Recording.{Recording, recording_of}
use Rattle.tc_command.specs.Halt.{IsHalt as IsHaltOf}
use Rattle.tc_command.specs.declared.halt.Halt.{Halt}
use Rattle.tc_command.specs.declared.halt.Halt.TheVariants.{Refused, Limit}
use Rattle.interval_engine.specs.Along.{IsSpentOf, Printing, along_intervals}
use Rattle.interval_engine.specs.KeptBehind.{IsSpentBehind}
use Rattle.interval_engine.specs.KeptAlong.{Advances, IsHalt, IsShort, IsWithin, Printed, Stands, StandsWell}
use Rattle.interval_engine.specs.KeptAlong.{StandsWithin, printed_well}
use Rattle.interval_engine.proofs.IntervalMore.{Relation}

-- the intervals so far pass a limit of the command's own
abbrev pub IsSpent : {B C : Type 0} → (C → Printing) → Relation B C → B → Type 0
IsSpent {B} {C} printing stands behind = (choice : C) (header : IntervalHeader) (intervals written : List ℕ)
    → stands behind choice header intervals written → Printing.spent (printing choice) header intervals

printed_of : {B C : Type 0} (stands : Relation B C) (version : FileVersion) (behind : B) (taken count : ℕ) (choice : C)
    (bytes written : List ℕ) → Stands stands version behind taken count choice bytes written
    → Printed stands behind choice (recording_of bytes) written
printed_of stands version behind taken count choice bytes written s =
    subst (λ (r : Recording). Printed stands behind choice r written) (sym s.read) (s.header, refl, s.wrote)

-- what was printed of a recording is past it
spent_of : {B C : Type 0} (printing : C → Printing) (stands : Relation B C) (behind : B) (choice : C) (r : Recording)
    (written : List ℕ) → IsSpent printing stands behind → Printed stands behind choice r written
    → IsSpentOf (printing choice) r
spent_of printing stands behind choice r written spent printed =
    subst (λ (h : Option IntervalHeader). IsSpentBehind (printing choice) h r.intervals) (sym printed.1)
    (spent choice printed.0 r.intervals written printed.2)

pub unspent_of : {B C : Type 0} (printing : C → Printing) (stands : Relation B C) (behind : B) (choice : C)
    (r : Recording) (written : List ℕ) → IsWithin printing stands behind → Printed stands behind choice r written
    → ¬ IsSpentOf (printing choice) r
unspent_of printing stands behind choice r written within printed = λ spent.
    within choice printed.0 r.intervals written printed.2
    (subst (λ (h : Option IntervalHeader). IsSpentBehind (printing choice) h r.intervals) printed.1 spent)

-- at a halt
pub spent_at_halt : {B C : Type 0} (printing : C → Printing) (stands : Relation B C) (behind : B) (choice : C)
    (halt : Halt) (pulled written : List ℕ) → StandsWell printing stands → IsSpent printing stands behind
    → IsHalt stands behind choice halt pulled written
    → IsHaltOf (along_intervals (printing choice)) Limit pulled written
spent_at_halt printing stands behind choice halt pulled written well spent is = inr (
  pulled,
  ([], sym (append-nil pulled)),
  spent_of printing stands behind choice (recording_of pulled) written spent is.printed,
  printed_well printing stands well behind choice (recording_of pulled) written is.printed,
)

-- and where it goes on
pub spent_along : {B C : Type 0} (printing : C → Printing) (stands : Relation B C) (version : FileVersion) (behind : B)
    (taken count : ℕ) (choice : C) (front bytes written : List ℕ) (n : ℕ) → StandsWell printing stands
    → IsSpent printing stands behind
    → Stands stands version behind taken count choice (front ++ take n bytes) written
    → IsHaltOf (along_intervals (printing choice)) Limit (front ++ bytes) written
spent_along printing stands version behind taken count choice front bytes written n well spent s =
    let due = front ++ take n bytes in
    let printed = printed_of stands version behind taken count choice due written s in
    let rest = ap (λ (l : List ℕ). front ++ l) (sym (take-append-drop n bytes))
    ∙ sym (append_assoc front (take n bytes) (drop n bytes)) in
    inr (
      due,
      (drop n bytes, rest),
      spent_of printing stands behind choice (recording_of due) written spent printed,
      printed_well printing stands well behind choice (recording_of due) written printed,
    )

-- else it halts as the file says
pub halts_of_file : {B C : Type 0} (printing : C → Printing) (stands : Relation B C) (behind : B) (choice : C)
    (halt : Halt) (pulled written : List ℕ) → StandsWell printing stands → IsWithin printing stands behind
    → IsHalt stands behind choice halt pulled written
    → IsHaltOf (along_intervals (printing choice)) halt pulled written
halts_of_file printing stands behind choice (Refused fault) pulled written well within is = (
  record {
    is = is.shows;
    unspent = unspent_of printing stands behind choice (recording_of pulled) written within is.printed;
  },
  printed_well printing stands well behind choice (recording_of pulled) written is.printed,
)
halts_of_file printing stands behind choice Limit pulled written well within is =
    inl (
      record {
        is = is.shows;
        unspent = unspent_of printing stands behind choice (recording_of pulled) written within is.printed;
      },
      printed_well printing stands well behind choice (recording_of pulled) written is.printed,
    )

-- ---- either way

-- whatever ended it, it is a limit of the command's own
pub spent_either : {B C O : Type 0} (printing : C → Printing) (stands : Relation B C)
    (given : O → O → List ℕ → Type 0) (fits : B → ℕ → Type 0) (version next : FileVersion) (before behind : B)
    (taken now count many : ℕ) (old new : O) (bytes : List ℕ) (result : Result ℕ Halt) → StandsWell printing stands
    → IsSpent printing stands behind
    → IfOk result (λ n. Advances given fits stands version next before behind taken now count many old new bytes n)
    → IfErr result (λ halt. (choice : C) → Brings given (Stands stands version before taken count choice)
    (IsHalt stands behind choice halt) old new bytes)
    → (choice : C) → Brings given (Stands stands version before taken count choice)
    (IsHaltOf (along_intervals (printing choice)) Limit) old new bytes
spent_either printing stands given fits version next before behind taken now count many old new bytes (Ok n) well spent
    advances halts choice = λ front written s.
    let w = advances.works choice front written s in
    (w.0, w.1, spent_along printing stands next behind now many choice front bytes (written ++ w.0) n well spent w.2)
spent_either printing stands given fits version next before behind taken now count many old new bytes (Err halt) well
    spent advances halts choice = λ front written s.
    let h = halts choice front written s in
    (h.0, h.1, spent_at_halt printing stands behind choice halt (front ++ bytes) (written ++ h.0) well spent h.2)

-- or it halts as the file says
pub unspent_either : {B C O : Type 0} (printing : C → Printing) (stands : Relation B C)
    (given : O → O → List ℕ → Type 0) (version : FileVersion) (before behind : B)
    (taken count : ℕ) (old new : O) (bytes : List ℕ) (result : Result ℕ Halt) → StandsWell printing stands
    → IsWithin printing stands behind
    → IfErr result (λ halt. (choice : C) → Brings given (Stands stands version before taken count choice)
    (IsHalt stands behind choice halt) old new bytes)
    → IfErr result (λ halt. (choice : C) → Brings given (Stands stands version before taken count choice)
    (IsHaltOf (along_intervals (printing choice)) halt) old new bytes)
unspent_either printing stands given version before behind taken count old new bytes (Ok n) well within halts = tt
unspent_either printing stands given version before behind taken count old new bytes (Err halt) well within halts =
    λ choice front written s.
    let h = halts choice front written s in
    (h.0, h.1, halts_of_file printing stands behind choice halt (front ++ bytes) (written ++ h.0) well within h.2)

-- it stands within its limit
pub within_too : {B C : Type 0} (printing : C → Printing) (stands : Relation B C) (version : FileVersion) (behind : B)
    (taken count : ℕ) (choice : C) (bytes written : List ℕ) → IsWithin printing stands behind
    → Stands stands version behind taken count choice bytes written
    → StandsWithin printing stands version behind taken count choice bytes written
within_too printing stands version behind taken count choice bytes written within s = record {
  stands = s;
  unspent = unspent_of printing stands behind choice (recording_of bytes) written within
      (printed_of stands version behind taken count choice bytes written s);
}

-- what was taken was taken within the limit
pub goes_on_within : {B C O : Type 0} (printing : C → Printing) (stands : Relation B C)
    (given : O → O → List ℕ → Type 0) (fits : B → ℕ → Type 0) (version next : FileVersion) (before behind : B)
    (taken now count many : ℕ) (choice : C) (old new : O) (bytes : List ℕ) (result : Result ℕ Halt)
    → IfOk result (λ n. Advances given fits stands version next before behind taken now count many old new bytes n)
    → IfOk result (λ n. IsWithin printing stands behind)
    → IfOk result (λ n. Brings given (StandsWithin printing stands version before taken count choice)
    (StandsWithin printing stands next behind now many choice) old new (take n bytes))
goes_on_within printing stands given fits version next before behind taken now count many choice old new bytes (Ok n)
    advances within = λ front written s.
    let w = advances.works choice front written s.stands in (
      w.0,
      w.1,
      within_too printing stands next behind now many choice (front ++ take n bytes) (written ++ w.0) within
          w.2,
    )
goes_on_within printing stands given fits version next before behind taken now count many choice old new bytes (Err h)
    advances within = tt

-- and it halts as its choice says
pub halts_along : {B C O : Type 0} (printing : C → Printing) (stands : Relation B C)
    (given : O → O → List ℕ → Type 0) (version : FileVersion) (before : B) (taken count : ℕ) (choice : C) (old new : O)
    (bytes : List ℕ) (result : Result ℕ Halt)
    → IfErr result (λ halt. (choice : C) → Brings given (Stands stands version before taken count choice)
    (IsHaltOf (along_intervals (printing choice)) halt) old new bytes)
    → IfErr result (λ halt. Brings given (StandsWithin printing stands version before taken count choice)
    (IsHaltOf (along_intervals (printing choice)) halt) old new bytes)
halts_along printing stands given version before taken count choice old new bytes (Ok n) halts = tt
halts_along printing stands given version before taken count choice old new bytes (Err h) halts =
    λ front written s. halts choice front written s.stands

-- none was taken where the bytes are too few
pub waits_along : {B C O : Type 0} (given : O → O → List ℕ → Type 0) (fits : B → ℕ → Type 0) (stands : Relation B C)
    (version next : FileVersion) (before behind : B) (taken now count many : ℕ) (old new : O) (bytes : List ℕ)
    (P : Type 0) (result : Result ℕ Halt)
    → IfOk result (λ n. Advances given fits stands version next before behind taken now count many old new bytes n)
    → (count ≤ many → many ≤ MAX_INTERVALS → IsShort next bytes → P) → IfOk result (λ n. (1 ≤ n) ⊎ P)
waits_along given fits stands version next before behind taken now count many old new bytes P (Ok n) advances waits =
    by_count advances.waits
  where
    by_count : (1 ≤ n) ⊎ IsShort next bytes → (1 ≤ n) ⊎ P
    by_count (inl some) = inl some
    by_count (inr short) = inr (waits advances.fewer advances.going.limit short)
waits_along given fits stands version next before behind taken now count many old new bytes P (Err h) advances waits =
    tt

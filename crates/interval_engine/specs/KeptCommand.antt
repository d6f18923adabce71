-- A command along an interval file is a command as any other, if it prints in order. No promise speaks of it.
use Rattle.std.proofs.Common.{◌≡◌, ℕ, List, [], ◌++◌, Option, Some, None, refl, sym, ◌∙◌, ap, subst}
use Rattle.std.proofs.lemmas.Bool.{false≢true}
use Rattle.interval_file.specs.declared.header.IntervalHeader.{IntervalHeader}
use Rattle.interval_file.specs.Growing.{Grows, RecordingsGrow}
use Rattle.interval_file.specs.Recording.{Recording, recording_of}
use Rattle.tc_io.specs.Verdict.{verdict_as}
use Rattle.tc_io.specs.Sink.{IsFront}
use Rattle.tc_command.specs.Command.{IsCommand}
use Rattle.interval_engine.specs.Along.{IsPartOf, IsSpentOf, IsWholeOf}
use Rattle.interval_engine.specs.KeptBehind.{IsPartBehind, IsSpentBehind, IsWholeBehind}
use Rattle.interval_engine.specs.Along.{Printing, along_intervals}
use Rattle.tc_io.specs.VerdictLemmas.{ends_whole, is_past, is_refused}
use Rattle.tc_command.specs.declared.input_fault.InputFault.TheVariants.{Intervals}

-- ---- what a command along intervals brings

-- what is printed of some intervals is one text, which comes first in what is printed of more
pub record PrintsInOrder (p : Printing) : Type 0 where
  -- what it writes behind some intervals comes first
  pub part : (header : IntervalHeader) (front more a b : List ℕ) → p.part header front a
      → p.part header (front ++ more) b → IsFront a b
  pub whole : (header : IntervalHeader) (front more a b : List ℕ) → p.part header front a
      → p.whole header (front ++ more) b → IsFront a b
  -- and there is one
  pub some_part : (header : IntervalHeader) (intervals : List ℕ) → (written : List ℕ) × p.part header intervals written
  pub some_whole : (header : IntervalHeader) (intervals : List ℕ)
      → (written : List ℕ) × p.whole header intervals written
  -- and no other
  pub one_part : (header : IntervalHeader) (intervals a b : List ℕ) → p.part header intervals a
      → p.part header intervals b → a ≡ b
  pub one_whole : (header : IntervalHeader) (intervals a b : List ℕ) → p.whole header intervals a
      → p.whole header intervals b → a ≡ b
  -- a limit of its own that is passed stays so, and nothing more is written then
  pub stays : (header : IntervalHeader) (front more : List ℕ) → p.spent header front → p.spent header (front ++ more)
  pub limit : (header : IntervalHeader) (front more a b : List ℕ) → p.spent header front → p.part header front a
      → p.part header (front ++ more) b → a ≡ b

-- ---- the same behind the header of a recording that grows

part_first : (p : Printing) → PrintsInOrder p → (before after : Recording) → Grows before after
    → (header : Option IntervalHeader) (a b : List ℕ)
    → before.header ≡ header → IsPartBehind p header before.intervals a → IsPartOf p after b → IsFront a b
part_first p prints before after grows None a b is part all = (b, ap (λ l. l ++ b) (sym part))
part_first p prints before after grows (Some header) a b is part all =
    let g = grows header is in
    let here = subst (λ (h : Option IntervalHeader). IsPartBehind p h after.intervals b) g.0 all in
    prints.part header before.intervals g.1.0 a b part (subst (λ (xs : List ℕ). p.part header xs b) g.1.1 here)

whole_first : (p : Printing) → PrintsInOrder p → (before after : Recording) → Grows before after
    → (header : Option IntervalHeader) (a b : List ℕ)
    → before.header ≡ header → IsPartBehind p header before.intervals a → IsWholeOf p after b → IsFront a b
whole_first p prints before after grows None a b is part all = (b, ap (λ l. l ++ b) (sym part))
whole_first p prints before after grows (Some header) a b is part all =
    let g = grows header is in
    let here = subst (λ (h : Option IntervalHeader). IsWholeBehind p h after.intervals b) g.0 all in
    prints.whole header before.intervals g.1.0 a b part (subst (λ (xs : List ℕ). p.whole header xs b) g.1.1 here)

spent_stays : (p : Printing) → PrintsInOrder p → (before after : Recording) → Grows before after
    → (header : Option IntervalHeader)
    → before.header ≡ header → IsSpentBehind p header before.intervals → IsSpentOf p after
spent_stays p prints before after grows None is spent = absurd spent
spent_stays p prints before after grows (Some header) is spent =
    let g = grows header is in
    subst (λ (h : Option IntervalHeader). IsSpentBehind p h after.intervals) (sym g.0)
    (subst (λ (xs : List ℕ). p.spent header xs) (sym g.1.1) (prints.stays header before.intervals g.1.0 spent))

nothing_more : (p : Printing) → PrintsInOrder p → (before after : Recording) → Grows before after
    → (header : Option IntervalHeader) (a b : List ℕ)
    → before.header ≡ header → IsSpentBehind p header before.intervals → IsPartBehind p header before.intervals a
    → IsPartOf p after b → a ≡ b
nothing_more p prints before after grows None a b is spent part all = absurd spent
nothing_more p prints before after grows (Some header) a b is spent part all =
    let g = grows header is in
    let here = subst (λ (h : Option IntervalHeader). IsPartBehind p h after.intervals b) g.0 all in
    prints.limit header before.intervals g.1.0 a b spent part (subst (λ (xs : List ℕ). p.part header xs b) g.1.1 here)

some_part : (p : Printing) → PrintsInOrder p → (header : Option IntervalHeader) (intervals : List ℕ)
    → (written : List ℕ) × IsPartBehind p header intervals written
some_part p prints None intervals = ([], refl)
some_part p prints (Some header) intervals = prints.some_part header intervals

-- of a recording that has a header
some_whole : (p : Printing) → PrintsInOrder p → (header : Option IntervalHeader) (intervals : List ℕ)
    → (begins : (h : IntervalHeader) × (header ≡ Some h))
    → (written : List ℕ) × IsWholeBehind p header intervals written
some_whole p prints None intervals begins = absurd cc
some_whole p prints (Some header) intervals begins = prints.some_whole header intervals

one_part : (p : Printing) → PrintsInOrder p → (header : Option IntervalHeader) (intervals a b : List ℕ)
    → IsPartBehind p header intervals a → IsPartBehind p header intervals b → a ≡ b
one_part p prints None intervals a b one all = one ∙ sym all
one_part p prints (Some header) intervals a b one all = prints.one_part header intervals a b one all

one_whole : (p : Printing) → PrintsInOrder p → (header : Option IntervalHeader) (intervals a b : List ℕ)
    → IsWholeBehind p header intervals a → IsWholeBehind p header intervals b → a ≡ b
one_whole p prints None intervals a b one all = absurd one
one_whole p prints (Some header) intervals a b one all = prints.one_whole header intervals a b one all

-- what prints in order along an interval file is a command as any other
pub along_is_command : RecordingsGrow → (p : Printing) → PrintsInOrder p → IsCommand (along_intervals p)
along_is_command r p prints = record {
  first = record {
    part = λ front more a b one all.
        part_first p prints (recording_of front) (recording_of (front ++ more))
        (r.grows front more) (recording_of front).header a b refl one all;
    output = λ front more a b one all.
        whole_first p prints (recording_of front) (recording_of (front ++ more))
        (r.grows front more) (recording_of front).header a b refl one all;
    stays = λ front more spent.
        spent_stays p prints (recording_of front) (recording_of (front ++ more))
        (r.grows front more) (recording_of front).header refl spent;
    limit = λ front more a b spent one all.
        nothing_more p prints (recording_of front) (recording_of (front ++ more))
        (r.grows front more) (recording_of front).header a b refl spent one all;
  };
  some_part = λ bytes. some_part p prints (recording_of bytes).header (recording_of bytes).intervals;
  some_output = λ input is. some_whole p prints (recording_of input).header (recording_of input).intervals
      (r.begins input (ends_whole Intervals _ is.end));
  one_part =
      λ bytes a b one all. one_part p prints (recording_of bytes).header (recording_of bytes).intervals a b one all;
  one_output =
      λ input a b one all. one_whole p prints (recording_of input).header (recording_of input).intervals a b one all;
  fault = λ front rest f e.
      let file = is_refused Intervals (recording_of front).verdict f e in
      ap (λ (s : Recording). verdict_as Intervals s.verdict) (r.refused front rest file.0 file.1) ∙ e;
  limit = λ front rest e.
      ap (λ (s : Recording). verdict_as Intervals s.verdict)
      (r.past front rest (is_past Intervals (recording_of front).verdict e)) ∙ e;
  fault_unspent = λ front rest f e spent.
      let file = is_refused Intervals (recording_of front).verdict f e in
      subst (λ (s : Recording). IsSpentOf p s) (r.refused front rest file.0 file.1) spent;
  limit_unspent = λ front rest e spent.
      subst (λ (s : Recording). IsSpentOf p s) (r.past front rest (is_past Intervals (recording_of front).verdict e))
      spent;
  ends = λ bytes f e. refl;
  idle = λ e all. absurd (false≢true (sym e));
  idle_part = λ e bytes a b one all. absurd (false≢true (sym e));
  idle_output = λ e bytes a b one all. absurd (false≢true (sym e));
}

-- ---- without a limit of its own

none_passes : (p : Printing) → ((header : IntervalHeader) (intervals : List ℕ) → ¬ p.spent header intervals)
    → (header : Option IntervalHeader)
    → (intervals : List ℕ) → ¬ IsSpentBehind p header intervals
none_passes p never None intervals = λ spent. spent
none_passes p never (Some header) intervals = never header intervals

-- a printing without a limit of its own passes none
pub never_spent : (p : Printing) → ((header : IntervalHeader) (intervals : List ℕ) → ¬ p.spent header intervals)
    → (r : Recording) → ¬ IsSpentOf p r
never_spent p never r = none_passes p never r.header r.intervals

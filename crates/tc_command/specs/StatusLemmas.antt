-- What the bytes pulled show, the whole input shows too: so if no call fails, a command and its input leave one
-- status. No promise speaks of these lemmas, which the crates of the commands cite.
use Rattle.std.proofs.Common.{◌≡◌, ℕ, List, ◌++◌, Bool, true, false, Some, None, refl, sym, ◌∙◌, ap, subst, inl, inr}
use Rattle.std.proofs.Common.{append_assoc}
use Rattle.std.specs.declared.option.Option.{Option}
use Rattle.std.specs.Io.KnownBytes.{Consumes}
use Rattle.tc_io.specs.Source.{Rose}
use Rattle.tc_command.specs.declared.input_fault.InputFault.{InputFault}
use Rattle.tc_io.specs.Verdict.{Verdict, good, refused, past_limit}
use Rattle.tc_command.specs.declared.status.Status.{Status}
use Rattle.tc_command.specs.declared.status.Status.TheVariants as status
use Rattle.tc_command.specs.declared.stop.Stop.{Stop}
use Rattle.tc_command.specs.declared.stop.Stop.TheVariants as stops
use Rattle.tc_command.specs.Causes.{SourceCause, OutCause}
use Rattle.tc_command.specs.Command.{IsCommand}
use Rattle.tc_command.specs.PulledLemmas.{all_at_end, front_of_all}
use Rattle.tc_command.specs.Meaning.{Meaning, Shows, IsEnd, IsInput}
use Rattle.tc_command.specs.Status.{status_of}
use Rattle.tc_command.specs.Stops.{StopsAlong}
use Rattle.tc_command.specs.WholeInput.{HasStatus, status_by}

-- the status of a job on an input that does not pass a limit of the command's own
abbrev pub status_on : Meaning → List ℕ → Status
status_on m input = status_by (m.verdict input) (m.end_fault input)

by_verdict : (m : Meaning) (all : List ℕ) (v : Verdict InputFault) → m.verdict all ≡ v
    → status_on m all ≡ status_by v (m.end_fault all)
by_verdict m all v e = ap (λ (w : Verdict InputFault). status_by w (m.end_fault all)) e

by_end : (m : Meaning) (all : List ℕ) (o : Option InputFault) → m.verdict all ≡ good → m.end_fault all ≡ o
    → status_on m all ≡ status_by good o
by_end m all o e f = by_verdict m all good e ∙ ap (λ (end : Option InputFault). status_by good end) f

-- bytes that pass no limit of the command's own, and show this
unspent_all : (m : Meaning) → IsCommand m → (all pulled more : List ℕ) (f : InputFault) → all ≡ pulled ++ more
    → Shows m (refused f) pulled → ¬ m.spent all
unspent_all m laws all pulled more f is shows =
    λ spent. shows.unspent (laws.fault_unspent pulled more f shows.is (subst m.spent is spent))

past_unspent : (m : Meaning) → IsCommand m → (all pulled more : List ℕ) → all ≡ pulled ++ more
    → Shows m past_limit pulled → ¬ m.spent all
past_unspent m laws all pulled more is shows =
    λ spent. shows.unspent (laws.limit_unspent pulled more shows.is (subst m.spent is spent))

-- a stop
pub stop_is_final : (m : Meaning) → IsCommand m
    → (stop : Stop) (left : Option (List ℕ)) (all pulled written : List ℕ) (s t k l : ℕ)
    → Consumes (Some all) left pulled → StopsAlong m stop left pulled written
    → SourceCause (status_of stop) s t → OutCause (status_of stop) k l → ¬ Rose s t → ¬ Rose k l
    → HasStatus m all (status_of stop)
stop_is_final m laws (stops.Refused f) left all pulled written s t k l consumed (inl is) source out no_read no_write =
    let more = front_of_all all pulled left consumed in
    let shown : m.verdict all ≡ refused f = ap m.verdict more.1 ∙ laws.fault pulled more.0 f is.0.is in
    inr (unspent_all m laws all pulled more.0 f more.1 is.0, sym (by_verdict m all (refused f) shown))
stop_is_final m laws (stops.Refused f) left all pulled written s t k l consumed (inr is) source out no_read no_write =
    let same = all_at_end all pulled left consumed (is.0 (laws.ends pulled f is.1.1)) in
    inr (
      (λ spent. is.1.0.unspent (subst m.spent same spent)),
      sym (by_end m all (Some f) (ap m.verdict same ∙ is.1.0.is) (ap m.end_fault same ∙ is.1.1)),
    )
stop_is_final m laws stops.ReadFault left all pulled written s t k l consumed stopped source out no_read no_write =
    absurd (no_read source)
stop_is_final m laws stops.WriteFault left all pulled written s t k l consumed stopped source out no_read no_write =
    absurd (no_write out)
stop_is_final m laws stops.Limit left all pulled written s t k l consumed (inl is) source out no_read no_write =
    let more = front_of_all all pulled left consumed in
    let shown : m.verdict all ≡ past_limit = ap m.verdict more.1 ∙ laws.limit pulled more.0 is.0.is in
    inr (past_unspent m laws all pulled more.0 more.1 is.0, sym (by_verdict m all past_limit shown))
stop_is_final m laws stops.Limit left all pulled written s t k l consumed (inr is) source out no_read no_write =
    let more = front_of_all all pulled left consumed in
    let cut : all ≡ is.0 ++ (is.1.0 ++ more.0) =
    more.1 ∙ ap (λ (l : List ℕ). l ++ more.0) is.1.1 ∙ append_assoc is.0 is.1.0 more.0 in
    inl (subst m.spent (sym cut) (laws.first.stays is.0 (is.1.0 ++ more.0) is.2), refl)

-- the end of an input
done_by : (m : Meaning) → IsCommand m → (reads : Bool) → m.reads ≡ reads
    → (left : Option (List ℕ)) (all pulled : List ℕ)
    → Consumes (Some all) left pulled → IsEnd m left → IsInput m pulled → HasStatus m all status.Done
done_by m laws true e left all pulled consumed end input =
    let same = all_at_end all pulled left consumed (end e) in
    inr (
      (λ spent. input.unspent (subst m.spent same spent)),
      sym (by_end m all None (ap m.verdict same ∙ input.verdict) (ap m.end_fault same ∙ input.end)),
    )
done_by m laws false e left all pulled consumed end input = laws.idle e all

pub done_is_final : (m : Meaning) → IsCommand m → (left : Option (List ℕ)) (all pulled : List ℕ)
    → Consumes (Some all) left pulled → IsEnd m left → IsInput m pulled → HasStatus m all status.Done
done_is_final m laws left all pulled consumed end input = done_by m laws m.reads refl left all pulled consumed end input

-- ---- one status

pub one_status : (m : Meaning) (input : List ℕ) (a b : Status) → HasStatus m input a → HasStatus m input b → a ≡ b
one_status m input a b (inl x) (inl y) = x.1 ∙ sym y.1
one_status m input a b (inl x) (inr y) = absurd (y.0 x.0)
one_status m input a b (inr x) (inl y) = absurd (x.0 y.0)
one_status m input a b (inr x) (inr y) = x.1 ∙ sym y.1

-- ---- commands without a limit of their own

pub by_file : (m : Meaning) (input : List ℕ) (s : Status) → ¬ m.spent input → HasStatus m input s
    → s ≡ status_on m input
by_file m input s never (inl is) = absurd (never is.0)
by_file m input s never (inr is) = is.1

-- Whatever stops a command, what was written is a front of the output of the whole input. No promise speaks of these
-- lemmas, which the crates of the commands cite.
use Rattle.std.proofs.Common.{◌≡◌, ℕ, Bool, true, false, List, [], ◌++◌, Option, Some, refl, sym, ◌∙◌, ap, subst, inl}
use Rattle.std.proofs.Common.{inr}
use Rattle.std.proofs.Common.{append_assoc, append-nil}
use Rattle.std.specs.Prelude.{if◌then◌else◌}
use Rattle.std.specs.Io.KnownBytes.{Consumes}
use Rattle.tc_io.specs.Sink.{IsFront}
use Rattle.tc_command.specs.declared.stop.Stop.{Stop}
use Rattle.tc_command.specs.declared.stop.Stop.TheVariants as stops
use Rattle.tc_command.specs.Command.{IsCommand}
use Rattle.tc_command.specs.Exchange.{Exchange, WritesAFront}
use Rattle.tc_command.specs.PulledLemmas.{all_at_end}
use Rattle.tc_command.specs.Meaning.{Meaning, IsEnd, IsOutput}
use Rattle.tc_command.specs.Stops.{StopsAlong}

-- a front of a front
pub front_of_front : (a b c : List ℕ) → IsFront a b → IsFront b c → IsFront a c
front_of_front a b c first second =
    (first.0 ++ second.0, second.1 ∙ ap (λ l. l ++ second.0) first.1 ∙ append_assoc a first.0 second.0)

-- what was added, and more behind it
pub front_of_more : (a b rest more : List ℕ) → b ≡ a ++ rest → IsFront a (b ++ more)
front_of_more a b rest more is = (rest ++ more, ap (λ l. l ++ more) is ∙ append_assoc a rest more)

pub same_is_front : (a b : List ℕ) → a ≡ b → IsFront a b
same_is_front a b same = ([], sym same ∙ sym (append-nil a))

-- the output that is due of a whole input
abbrev Due : Meaning → Bool → List ℕ → List ℕ → Type 0
Due m reads input whole = m.output (if reads then input else []) whole

-- a part
part_first : (m : Meaning) → IsCommand m → (reads : Bool) → m.reads ≡ reads → (input bytes more a whole : List ℕ)
    → input ≡ bytes ++ more
    → m.part bytes a → Due m reads input whole → IsFront a whole
part_first m laws true e input bytes more a whole is part output =
    laws.first.output bytes more a whole part (subst (λ l. m.output l whole) is output)
part_first m laws false e input bytes more a whole is part output = laws.idle_part e bytes a whole part output

-- the output of an input that was read to its end
output_is : (m : Meaning) → IsCommand m → (reads : Bool) → m.reads ≡ reads
    → (input pulled : List ℕ) (left : Option (List ℕ))
    (a whole : List ℕ) → Consumes (Some input) left pulled → IsEnd m left → m.output pulled a → Due m reads input whole
    → a ≡ whole
output_is m laws true e input pulled left a whole consumed end here output =
    laws.one_output pulled a whole here
    (subst (λ l. m.output l whole) (all_at_end input pulled left consumed (end e)) output)
output_is m laws false e input pulled left a whole consumed end here output =
    laws.idle_output e pulled a whole here output

-- the whole input is what was pulled and what is left
pub whole_input : (pulled rest : List ℕ) (left : Option (List ℕ)) → left ≡ Some rest
    → Consumes (Some (pulled ++ rest)) left pulled
whole_input pulled rest left is = subst (λ l. Consumes (Some (pulled ++ rest)) l pulled) (sym is) refl

-- ---- the end, and each stop

pub first_at_end : (m : Meaning) → IsCommand m → (e : Exchange) → IsEnd m e.left → m.output e.pulled e.written
    → WritesAFront (IsOutput m) e
first_at_end m laws e end here = λ rest whole left output.
    let consumed = whole_input e.pulled rest e.left left in
    same_is_front e.written whole
    (output_is m laws m.reads refl (e.pulled ++ rest) e.pulled e.left e.written whole consumed end here output)

at_stop : (m : Meaning) → IsCommand m → (stop : Stop) (left : Option (List ℕ)) (pulled written rest whole : List ℕ)
    → left ≡ Some rest
    → StopsAlong m stop left pulled written → IsOutput m (pulled ++ rest) whole → IsFront written whole
at_stop m laws (stops.Refused f) left pulled written rest whole told (inl is) output =
    part_first m laws m.reads refl (pulled ++ rest) pulled rest written whole refl is.1 output
at_stop m laws (stops.Refused f) left pulled written rest whole told (inr is) output =
    part_first m laws m.reads refl (pulled ++ rest) pulled rest written whole refl is.1.2 output
at_stop m laws stops.ReadFault left pulled written rest whole told is output =
    part_first m laws m.reads refl (pulled ++ rest) pulled rest written whole refl is.2 output
at_stop m laws stops.WriteFault left pulled written rest whole told (inl is) output =
    let cut : pulled ++ rest ≡ is.0 ++ (is.2.0 ++ rest) = ap (λ l. l ++ rest) is.2.1 ∙ append_assoc is.0 is.2.0 rest in
    front_of_front written is.1 whole is.4
    (part_first m laws m.reads refl (pulled ++ rest) is.0 (is.2.0 ++ rest) is.1 whole cut is.3 output)
at_stop m laws stops.WriteFault left pulled written rest whole told (inr is) output =
    let due = is.1.1 in
    let consumed = whole_input pulled rest left told in
    subst (IsFront written)
    (output_is m laws m.reads refl (pulled ++ rest) pulled left due.0 whole consumed is.0 due.1 output) due.2
at_stop m laws stops.Limit left pulled written rest whole told (inl is) output =
    part_first m laws m.reads refl (pulled ++ rest) pulled rest written whole refl is.1 output
at_stop m laws stops.Limit left pulled written rest whole told (inr is) output =
    let cut : pulled ++ rest ≡ is.0 ++ (is.1.0 ++ rest) = ap (λ l. l ++ rest) is.1.1 ∙ append_assoc is.0 is.1.0 rest in
    part_first m laws m.reads refl (pulled ++ rest) is.0 (is.1.0 ++ rest) written whole cut is.3 output

pub first_at_stop : (m : Meaning) → IsCommand m → (stop : Stop) (e : Exchange)
    → StopsAlong m stop e.left e.pulled e.written
    → WritesAFront (IsOutput m) e
first_at_stop m laws stop e is = λ rest whole left output.
    at_stop m laws stop e.left e.pulled e.written rest whole left is output

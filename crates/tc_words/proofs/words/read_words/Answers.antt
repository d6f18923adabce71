use Rattle.std.proofs.Common.{◌≡◌, ◌∙◌, false, true, length, map, string_bytes, sym, ap, inl, inr}
use Rattle.std.proofs.lemmas.List.{length-map}
use Rattle.command_words.specs.CommandLine.{begins_with_dash}
use Rattle.std.proofs.Common.{ℕ, List, Some, None, Err}
use Rattle.std.specs.declared.option.Option.{Option}
use Rattle.std.specs.declared.result.Result.{Result}
use Rattle.tc_job.specs.declared.job.Task.{Task}
use Rattle.tc_job.specs.declared.fault.WordsFault.{WordsFault}
use Rattle.tc_job.specs.declared.fault.WordsFault.TheVariants.{Dash}
use Rattle.tc_words.specs.Words.{without_dashes}
use Rattle.tc_words.proofs.FirstDash.{position-map}
use Rattle.tc_words.proofs.words.read_words.Goals as goal

abbrev after_dashes : Option ℕ → List (List ℕ) → Result Task WordsFault
after_dashes dash words = elim dash [ Some place ↦ Err (Dash place) | None ↦ without_dashes words ]

pub without_dashes-requires : goal.without_dashes-requires
without_dashes-requires c = position-map begins_with_dash string_bytes c.args.words.now ∙ sym c.first_dash.ensures
    ∙ c.in-None.is

pub returns-in-Some-clause-answer : goal.returns-in-Some-clause-answer
returns-in-Some-clause-answer c =
    let found = position-map begins_with_dash string_bytes c.args.words.now ∙ sym c.first_dash.ensures ∙ c.in-Some.is in
    inl (sym (ap (λ place. after_dashes place (map string_bytes c.args.words.now)) found))

pub returns-in-Some-clause-at_once : goal.returns-in-Some-clause-at_once
returns-in-Some-clause-at_once c =
    let found = position-map begins_with_dash string_bytes c.args.words.now ∙ sym c.first_dash.ensures ∙ c.in-Some.is in
    λ _. sym (ap (λ place. after_dashes place (map string_bytes c.args.words.now)) found)

pub returns-in-None-clause-answer : goal.returns-in-None-clause-answer
returns-in-None-clause-answer c =
    let found = position-map begins_with_dash string_bytes c.args.words.now ∙ sym c.first_dash.ensures ∙ c.in-None.is in
    let same = ap (λ place. after_dashes place (map string_bytes c.args.words.now)) found in
    elim c.without_dashes.ensures.answer [
      | inl read ↦ inl (read ∙ sym same)
      | inr memory ↦ inr memory
    ]

-- no word begins with a dash, so there are none
pub returns-in-None-clause-at_once : goal.returns-in-None-clause-at_once
returns-in-None-clause-at_once c =
    let found = position-map begins_with_dash string_bytes c.args.words.now ∙ sym c.first_dash.ensures ∙ c.in-None.is in
    let same = ap (λ place. after_dashes place (map string_bytes c.args.words.now)) found in
    λ refused. elim refused [
      | inl none ↦
          let empty = sym (length-map c.args.words.now string_bytes) ∙ ap length none in
          c.without_dashes.ensures.none empty ∙ sym (ap without_dashes none) ∙ sym same
      | inr some ↦ let no_place : false ≡ true = rw found at some in absurd cc
    ]

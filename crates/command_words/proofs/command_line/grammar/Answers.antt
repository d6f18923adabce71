use Rattle.std.proofs.Common.{◌≡◌, ◌∙◌, Option, Some, None, IsSomeAnd, ap, ap₂, rules, true}
use Rattle.std.proofs.lemmas.Result.{IfOk-weaker}
use Rattle.clap.specs.Words.{App, Rule, app_of, rule_of, with_rule}
use Rattle.clap.specs.Simple.{app_of_fields}
use Rattle.clap.specs.Lexer.{usize_max}
use Rattle.clap.specs.declared.builder.arg.Arg.{Arg}
use Rattle.clap.specs.declared.builder.range.ValueRange.{ValueRange}
use Rattle.clap.specs.declared.builder.ArgAction.TheVariants.{Append}
use Rattle.command_words.specs.Grammar.{bare, command_rule, values_rule}
use Rattle.command_words.proofs.command_line.grammar.Goals as goal

the_value : {X : Type 0} (o : Option X) (x : X) → IsSomeAnd o (λ v. v ≡ x) → o ≡ Some x
the_value None x is = absurd is
the_value (Some v) x is = ap (λ y. Some y) is

pub returns : goal.returns
returns c =
    let command_is : rule_of c.action-command.result ≡ command_rule = search rules in
    let range : ValueRange = record { start_inclusive = 0; end_inclusive = usize_max } in
    let many : c.num_args.result.num_vals ≡ Some range = the_value _ range c.num_args.ensures.1 in
    let values_arg = c.action-values.ensures
    ∙ ap (λ (a : Arg). record a { action = Some Append })
    (c.num_args.ensures.0 ∙ ap (λ o. record c.new-2.result { num_vals = o }) many) in
    let values_is : rule_of c.action-values.result ≡ values_rule =
    ap rule_of values_arg ∙ ap (λ (r : Rule). record r { range = Some range; action = Some Append })
    c.new-2.ensures.rule in
    let fields = rw c.no_binary_name.ensures at c.disable_help_flag.ensures in
    let bare_is : app_of c.disable_help_flag.result ≡ bare =
    ap app_of_fields fields
    ∙ ap (λ (a : App). record a { top = record a.top { no_binary_name = true; disable_help_flag = true } })
    c.new-3.ensures.app in
    let app_is = c.in_ok-arg.ensures.shape (search rules) ∙ ap₂ with_rule bare_is command_is in
    IfOk-weaker c.arg-2.result _ _ (λ command adds. adds.shape (search rules) ∙ ap₂ with_rule app_is values_is)
    c.arg-2.ensures

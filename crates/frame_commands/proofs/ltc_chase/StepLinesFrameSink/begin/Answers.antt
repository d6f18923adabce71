use Rattle.std.proofs.Common.{◌∙◌, ap, ap₂, sym, subst, refl, ℕ, List}
use Rattle.code_chase.specs.CodeTrace.{begun_at}
use Rattle.tc_address.specs.Label.{Address}
use Rattle.frame_commands.specs.declared.ltc_chase.TheConstants.{MAX_FRAMES}
use Rattle.frame_commands.proofs.StepsGrow.{TraceLaws, none_followed, no_text}
use Rattle.frame_commands.proofs.ltc_chase.StepLinesFrameSink.begin.Goals as goal

-- no step was made
pub returns-clause-begins : goal.returns-clause-begins
returns-clause-begins g c =
    let law = c.a_frame_adds_a_line.ensures in
    let laws : TraceLaws = record { none = law.none; line = law.line; lines = law.lines } in (
      none_followed laws MAX_FRAMES c.args.run _
          (c.new.ensures ∙ ap (λ (label : Address). begun_at label c.seed.result c.bound.result)
          c.label-label.ensures.value
          ∙ ap₂ (begun_at c.args.run.label) c.seed.ensures c.bound.ensures.value)
          (c.count.ensures.value ∙ ap (λ (label : Address). label.count) c.label-label.ensures.value) refl refl refl,
      subst (λ (l : List ℕ). g.O.Output.given c.args._out.now c.args._out.now l)
          (sym (no_text laws MAX_FRAMES c.args.run)) (g.O.Output.given_none c.args._out.now),
    )

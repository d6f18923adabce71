use Rattle.std.proofs.Common.{◌++◌, List, ℕ, ap₂, refl}
use Rattle.tc_io.specs.VerdictLemmas.{good_too}
use Rattle.signal_commands.proofs.FieldsGrow.{ends_badly, ends_well, last_line_is}
use Rattle.signal_commands.proofs.vitc_read.FieldReportEngine.finish.Goals as goal
use Rattle.tc_command.specs.declared.input_fault.InputFault.TheVariants.{Lines}

-- the last line was written
pub returns-in-Ok-clause-ends : goal.returns-in-Ok-clause-ends
returns-in-Ok-clause-ends g c = λ bytes written stands.
    let line = c.field_end_text.result.items in (
      line,
      rw c.deref.ensures.0 at c.write.ensures,
      record {
        verdict = good_too Lines _ stands.told.0;
        unspent = λ spent. spent;
        end = ends_well (c.in-Ok.ensures.ok bytes stands.answers stands.decoder);
      },
      (
        stands.answers,
        stands.told.1,
        ap₂ (λ (l m : List ℕ). l ++ m) stands.are
            (last_line_is c.args.self.now bytes written line stands c.field_end_text.ensures),
      ),
    )

-- the input may not end there
pub returns-in-Err-clause-refuses : goal.returns-in-Err-clause-refuses
returns-in-Err-clause-refuses g c = λ bytes written stands.
    (refl, ends_badly (c.in-Err.ensures.err bytes stands.answers stands.decoder))

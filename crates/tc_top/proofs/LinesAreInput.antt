-- A line file that is made is an input of `vitc-read`.
use Rattle.std.proofs.Common.{Some, None, ap, length}
use Rattle.std.specs.Prelude.{if◌then◌else◌}
use Rattle.std.specs.Option.{option_map}
use Rattle.file_faults.specs.declared.lines.LineFileFault.TheVariants as fault
use Rattle.line_file.specs.LineFile.{Reading}
use Rattle.tc_job.specs.LineStripe.{LineStriping}
use Rattle.tc_command.specs.declared.input_fault.InputFault.TheVariants.{Lines}
use Rattle.tc_command.specs.Meaning.{IsInput}
use Rattle.made_commands.specs.MadeLines.{AreReadBack, made_lines}
use Rattle.signal_commands.specs.VitcRead.{along_fields}
use Rattle.tc_io.specs.Verdict.{verdict_as}

-- so it is an input of `vitc-read`
pub are_input : (s : LineStriping) → AreReadBack s (made_lines s) → IsInput along_fields (made_lines s)
are_input s back = record {
  verdict = ap (λ (r : Reading). verdict_as Lines r.verdict) back.file;
  unspent = λ spent. spent;
  end = ap (λ (r : Reading). option_map Lines
      (if r.is_whole then None else Some (fault.Truncated (length (made_lines s))))) back.file;
}

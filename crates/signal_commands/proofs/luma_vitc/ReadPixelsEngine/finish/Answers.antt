use Rattle.std.proofs.Common.{[], List, ℕ, append-nil, refl, subst, sym}
use Rattle.luma_field.specs.Parts.{whole_parts}
use Rattle.luma_field.specs.Raster.{size_of}
use Rattle.signal_commands.specs.KeptLuma.{stands_well}
use Rattle.signal_commands.specs.LumaVitc.{IsLumaFile}
use Rattle.signal_commands.proofs.LumaOn.{all_fields, cut_end, length-taken, whole_end}
use Rattle.signal_commands.proofs.luma_vitc.ReadPixelsEngine.finish.Goals as goal

-- the input ends behind a field
pub returns-then-rest-eq0-clause-ends : goal.returns-then-rest-eq0-clause-ends
returns-then-rest-eq0-clause-ends g c = λ bytes written stands.
    let s = c.args.self.now in
    let well = stands_well s bytes written stands in
    let long = length-taken s bytes written stands in (
      [],
      g.O.Output.given_none c.args._out.now,
      record {
        verdict = well.0.is;
        unspent = well.0.unspent;
        end = whole_end s.run bytes s.taken c.size.result long c.size.ensures.size c.if-rest-eq0.true;
      },
      subst (λ (w : List ℕ). IsLumaFile s.run (whole_parts (size_of s.run.raster) bytes) w) (sym (append-nil written))
          (all_fields s bytes written stands),
    )

-- it ends inside one
pub returns-clause-refuses : goal.returns-clause-refuses
returns-clause-refuses g c = λ bytes written stands.
    let s = c.args.self.now in
    let long = length-taken s bytes written stands in
    (refl, cut_end s.run bytes s.taken c.size.result long c.size.ensures.size c.if-rest-eq0.false)

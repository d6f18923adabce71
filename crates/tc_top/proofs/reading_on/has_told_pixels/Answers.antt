use Rattle.std.proofs.Common.{◌≡◌, ◌∙◌, subst, sym}
use Rattle.signal_commands.specs.LumaVitc.{told_luma_vitc}
use Rattle.tc_command.specs.Told.{KeepsPromise}
use Rattle.tc_job.specs.LumaRun.{LumaReading}
use Rattle.tc_job.specs.declared.job.Job.TheVariants.{LumaVitc}
use Rattle.tc_top.proofs.reading_on.has_told_pixels.Goals as goal

pub returns-in-LumaVitc : goal.returns-in-LumaVitc
returns-in-LumaVitc c = λ luma is.
    let found : LumaVitc c.in-LumaVitc.run' ≡ LumaVitc luma = sym c.in-LumaVitc.is ∙ is in
    let same : c.in-LumaVitc.run' ≡ luma = cc in
    subst (λ (l : LumaReading). KeepsPromise (told_luma_vitc l)) same c.keeps_its_promise.ensures

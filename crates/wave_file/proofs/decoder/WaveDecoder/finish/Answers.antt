use Rattle.std.proofs.Common.{◌≡◌, [], true, false, ℕ, List, ap, append-nil, arith, sym, subst, ◌∙◌, Some}
use Rattle.file_faults.specs.declared.sound.WaveFault.TheVariants as fault
use Rattle.wave_file.specs.StandsFor.{Decoding, StandsFor}
use Rattle.wave_file.specs.Wave.{end_fault_of}
use Rattle.wave_file.proofs.Answered.{ends_at}
use Rattle.wave_file.proofs.decoder.WaveDecoder.finish.Goals as goal

-- before bytes of this stage it may end
pub returns-then-may_end-clause-ok : goal.returns-then-may_end-clause-ok
returns-then-may_end-clause-ok c = λ bytes samples stands.
    let d = c.self.inside in
    let s = subst (λ (x : Decoding). StandsFor x bytes samples) (sym c.self.view_is) stands in
    rw (← c.self.view_is)
    (ap (end_fault_of d.asked) (sym (append-nil bytes))
    ∙ ends_at d.asked d.notes d.place d.stage bytes [] samples true c.self.invariant.stage c.self.invariant.wait
    (omega (arith, c.self.invariant.within)) (sym c.may_end.ensures ∙ c.if-may_end.true) s)

-- before those of this one it may not
pub returns-else-may_end-clause-err : goal.returns-else-may_end-clause-err
returns-else-may_end-clause-err c = λ bytes samples stands.
    let d = c.self.inside in
    let s = subst (λ (x : Decoding). StandsFor x bytes samples) (sym c.self.view_is) stands in
    rw (← c.self.view_is)
    (ap (end_fault_of d.asked) (sym (append-nil bytes))
    ∙ ends_at d.asked d.notes d.place d.stage bytes [] samples false c.self.invariant.stage c.self.invariant.wait
    (omega (arith, c.self.invariant.within)) (sym c.may_end.ensures ∙ c.if-may_end.false) s
    ∙ ap (λ (n : ℕ). Some (fault.Truncated n)) (omega arith))

use Rattle.std.proofs.Common.{◌≡◌, [], ◌+◌, ℤ, List, take, subst, sym, refl}
use Rattle.pcm_front.specs.Pace.{intervals_in}
use Rattle.sound_reader.specs.Slicer.{Gives, SlicerState}
use Rattle.sound_reader.specs.contracts.slicer.SoundSlicer.{the_view}
use Rattle.sound_reader.proofs.SlicesOn.{sliced_on}
use Rattle.sound_reader.proofs.StepsGoOn.{front_of_front, within_front}
use Rattle.sound_reader.proofs.slicer.SoundSlicer.cut.Goals as goal

-- the slicer takes the samples up to the limit, and some from their front
pub returns-clause-gives : goal.returns-clause-gives
returns-clause-gives c =
    let count = c.intervals_of_samples-count.result.0 in
    let most = c.if-samples-room.most in
    let samples = c.args.samples.now in
    let found = c.intervals_of_samples-count.result.1 in
    let sliced = c.intervals_of_samples-count.new.self in
    let old = the_view c.self.inside in
    let new : SlicerState = record old { slicer = sliced; samples = old.samples + count; waiting = found } in
    let settled = subst (λ (s : SlicerState). intervals_in s.waiting ≡ []) (sym c.self.view_is) c.requires.settled in
    let step : Gives old new (take count (take most samples)) [] =
    sliced_on old new sliced (old.samples + count) found (take count (take most samples)) c.self.invariant.slices
    c.intervals_of_samples-count.ensures.stands c.intervals_of_samples-count.ensures.intervals settled refl in
    subst (λ (s : List ℤ). Gives c.args.self.now new s [])
    (front_of_front count most samples (within_front count most samples c.intervals_of_samples-count.ensures.within))
    (subst (λ (s : SlicerState). Gives s new (take count (take most samples)) []) c.self.view_is step)

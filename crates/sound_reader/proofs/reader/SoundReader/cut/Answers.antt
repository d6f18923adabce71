use Rattle.std.proofs.Common.{[], ◌≡◌, ◌+◌, ◌-◌, ◌≤◌, ℤ, List, take, subst, sym, refl, arith}
use Rattle.pcm_front.specs.Pace.{intervals_in}
use Rattle.sound_reader.specs.Sound.{Brings, OnlyPass, SoundState}
use Rattle.sound_reader.specs.contracts.reader.SoundReader.{the_view}
use Rattle.sound_reader.proofs.OnlyPieces.{passes_in_front, passes_on}
use Rattle.sound_reader.proofs.StepsGoOn.{front_of_front, sliced_on, within_front}
use Rattle.sound_reader.proofs.reader.SoundReader.cut.Goals as goal

-- the slicer takes the samples up to the limit, and some from their front
pub returns-clause-brings : goal.returns-clause-brings
returns-clause-brings c =
    let count = c.intervals_of_samples-count.result.0 in
    let most = c.if-samples-room.most in
    let samples = c.args.samples.now in
    let settled = subst (λ (s : SoundState). intervals_in s.waiting ≡ []) (sym c.self.view_is) c.requires.settled in
    let new : SoundState = record {
      settings = c.self.inside.settings;
      slicer = c.intervals_of_samples-count.new.self;
      reader = c.self.inside.reader;
      samples = c.self.inside.samples + count;
      waiting = c.intervals_of_samples-count.result.1;
    } in
    let step : Brings (the_view c.self.inside) new (take count (take most samples)) [] =
    sliced_on (the_view c.self.inside) new c.intervals_of_samples-count.new.self (c.self.inside.samples + count)
    c.intervals_of_samples-count.result.1 (take count (take most samples))
    c.intervals_of_samples-count.ensures.settings c.intervals_of_samples-count.ensures.stands
    c.intervals_of_samples-count.ensures.intervals settled refl in
    let own : Brings c.args.self.now new (take count (take most samples)) [] =
    subst (λ (s : SoundState). Brings s new (take count (take most samples)) []) c.self.view_is step in
    subst (λ (s : List ℤ). Brings c.args.self.now new s [])
    (front_of_front count most samples (within_front count most samples c.intervals_of_samples-count.ensures.within))
    own

-- and it takes none behind the first that brings a distance
pub returns-clause-pass : goal.returns-clause-pass
returns-clause-pass c =
    let count = c.intervals_of_samples-count.result.0 in
    let most = c.if-samples-room.most in
    let samples = c.args.samples.now in
    let old = the_view c.self.inside in
    let less : count - 1 ≤ most = omega (
      arith,
      within_front count most samples
          c.intervals_of_samples-count.ensures.within,
    ) in
    let pass : OnlyPass old count (take most samples) =
    passes_on old count c.intervals_of_samples-count.result.1 (take most samples)
    c.intervals_of_a_front_come_first.ensures c.self.invariant.range.pace
    c.intervals_of_samples-count.ensures.length c.intervals_of_samples-count.ensures.intervals
    c.intervals_of_samples-count.ensures.last in
    subst (λ (s : SoundState). OnlyPass s count samples) c.self.view_is
    (passes_in_front old count most samples less pass)

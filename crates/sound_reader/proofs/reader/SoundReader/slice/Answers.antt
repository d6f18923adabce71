use Rattle.std.proofs.Common.{◌≡◌, [], ◌∷◌, ◌++◌, List, ℕ, Some, take, sym, ap, ◌∙◌}
use Rattle.std.specs.Option.{option_to_list}
use Rattle.direction_reader.specs.Events.{event_list}
use Rattle.pcm_front.specs.Pace.{intervals_in}
use Rattle.sound_reader.specs.Sound.{SoundState}
use Rattle.sound_reader.proofs.StepsGoOn.{reads_on, then_waiting}
use Rattle.sound_reader.proofs.reader.SoundReader.slice.Goals as goal

-- the interval is alone, so it is read as one that waited
pub returns-in-Some-clause-found : goal.returns-in-Some-clause-found
returns-in-Some-clause-found c =
    let cut = c.cut-count.new.self in
    let new = c.step.new.self in
    let x = c.in-Some.x in
    let mid : SoundState = record cut { waiting = c.cut-count.result.1 } in
    let none : intervals_in cut.waiting ≡ [] = ap intervals_in c.cut-count.ensures.waiting ∙ c.requires.settled in
    let waited : option_to_list (Some x) ++ intervals_in cut.waiting ≡ intervals_in c.cut-count.result.1 =
    ap (λ (ys : List ℕ). x ∷ ys) none ∙ sym c.in-Some.ensures.value in
    record {
      settled = ap (λ (s : SoundState). intervals_in s.waiting) c.step.ensures.rest ∙ none;
      may = c.step.ensures.may;
      some = c.step.ensures.some;
      brings = λ own tells. then_waiting c.args.self.now mid new (take c.cut-count.result.0 c.args.samples.now)
          (event_list own) c.cut-count.ensures.brings
          (reads_on mid new cut.waiting x (event_list own) waited c.step.ensures.rest (c.step.ensures.reads own tells));
    }

use Rattle.std.proofs.Common.{[], ap, take, arith, ◌∙◌}
use Rattle.wave_file.specs.StandsFor.{Decoding}
use Rattle.signal_commands.proofs.FileOn.{adds_on, begins_on, decodes_more, fault_ends, file_waits, limit_ends}
use Rattle.signal_commands.proofs.FileOn.{takes_on}
use Rattle.signal_commands.proofs.sound_file.SoundFileContainer.take.Goals as goal

-- the next piece is not whole
pub returns-in-Few : goal.returns-in-Few
returns-in-Few c =
    let t = c.in-Few.ensures.takes in (
      ap (λ decoder. record c.args.self.now { decoder = decoder }) t.0,
      record {
        few = omega (arith, t.2);
        short = t.1;
        none = λ front holds.
            file_waits c.args.self.now front c.args.bytes.now holds
            (c.in-Few.ensures.stops front holds.samples holds.decoder);
      },
    )

-- bytes without a sample
pub returns-in-Nothing : goal.returns-in-Nothing
returns-in-Nothing c =
    let s = c.args.self.now in
    let next = record s { decoder = c.take-taken.new.self } in
    let t = c.in-Nothing.ensures.takes in
    let adds = t.0 in
    let f = c.format-told.ensures in
    let bytes = take c.in-Nothing.bytes c.args.bytes.now in
    let decodes = decodes_more s.decoder c.take-taken.new.self bytes [] _ adds.asked adds.stands f.within f.value
    f.told in (
      takes_on s next c.args.bytes.now c.in-Nothing.bytes [] decodes adds.some adds.within adds.taken,
      omega arith,
      λ front holds. adds_on c.samples_are_few_and_behind_a_format.ensures s next front bytes [] decodes t.1 holds,
    )

-- the format
pub returns-in-Begin : goal.returns-in-Begin
returns-in-Begin c =
    let s = c.args.self.now in
    let next = record s { decoder = c.take-taken.new.self } in
    let t = c.in-Begin.ensures.takes in
    let adds = t.0 in
    let f = c.format-told.ensures in
    let bytes = take c.in-Begin.count c.args.bytes.now in
    let decodes = decodes_more s.decoder c.take-taken.new.self bytes [] _ adds.asked adds.stands f.within f.value
    f.told in
    let known = rw (f.value ∙ t.2) at f.taken in (
      takes_on s next c.args.bytes.now c.in-Begin.count [] decodes adds.some adds.within adds.taken,
      rw adds.asked at known,
      λ front holds. begins_on s next front bytes c.in-Begin.format decodes t.1 t.2 holds,
    )

-- blocks
pub returns-in-Samples : goal.returns-in-Samples
returns-in-Samples c =
    let s = c.args.self.now in
    let next = record s { decoder = c.take-taken.new.self } in
    let t = c.in-Samples.ensures.takes in
    let adds = t.0 in
    let f = c.format-told.ensures in
    let bytes = take c.in-Samples.count c.args.bytes.now in
    let more = take c.in-Samples.samples c.take-taken.new.room in
    let decodes = decodes_more s.decoder c.take-taken.new.self bytes more _ adds.asked adds.stands f.within f.value
    f.told in (
      takes_on s next c.args.bytes.now c.in-Samples.count more decodes adds.some adds.within adds.taken,
      omega (arith, t.3, c.in-Samples.ensures.room, c.told-room),
      λ front holds. adds_on c.samples_are_few_and_behind_a_format.ensures s next front bytes more decodes t.1 holds,
    )

-- a fault
pub returns-in-Fault : goal.returns-in-Fault
returns-in-Fault c = (
  ap (λ (d : Decoding). d.asked) c.in-Fault.ensures.takes,
  λ front holds.
      fault_ends c.args.self.now front c.args.bytes.now c.in-Fault.fault holds
      (c.in-Fault.ensures.stops front holds.samples holds.decoder),
)

-- the limit
pub returns-in-Limit : goal.returns-in-Limit
returns-in-Limit c = (
  ap (λ (d : Decoding). d.asked) c.in-Limit.ensures.takes,
  λ front holds.
      limit_ends c.args.self.now front c.args.bytes.now holds
      (c.in-Limit.ensures.stops front holds.samples holds.decoder),
)

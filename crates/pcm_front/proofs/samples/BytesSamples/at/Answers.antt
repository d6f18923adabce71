use Rattle.std.specs.Int.{w16}
use Rattle.std.proofs.Common.{FitsSigned, rules, ◌*◌, ap, sym, ◌∙◌, arith, to_z-of_z, length-drop}
use Rattle.std.proofs.lemmas.List.{take_rest}
use Rattle.pcm_front.specs.Samples.{sample_in}
use Rattle.pcm_front.proofs.InBytes.{place_in, sample-at, twice}
use Rattle.pcm_front.proofs.samples.BytesSamples.at.Goals as goal

pub slice_bounds-behind-count : goal.slice_bounds-behind-count
slice_bounds-behind-count c = let two = place_in c.args.place c.args.self.now.bytes.now c.requires in omega (arith, two)

pub slice_bounds-behind-start : goal.slice_bounds-behind-start
slice_bounds-behind-start c = let two = place_in c.args.place c.args.self.now.bytes.now c.requires in omega (arith, two)

pub slice_bounds-read_i16-count : goal.slice_bounds-read_i16-count
slice_bounds-read_i16-count c =
    let two = place_in c.args.place c.args.self.now.bytes.now c.requires in
    rw (take_rest c.args.self.now.bytes.now c.args.place)
    (omega (arith, two, length-drop c.args.place c.args.self.now.bytes.now))

pub slice_bounds-read_i16-start : goal.slice_bounds-read_i16-start
slice_bounds-read_i16-start c = slice_bounds-read_i16-count c

pub read_i16-requires : goal.read_i16-requires
read_i16-requires c =
    let two = place_in c.args.place c.args.self.now.bytes.now c.requires in
    rw (twice c.args.place c.args.self.now.bytes.now)
    (omega (arith, two, length-drop (2 * c.args.place) c.args.self.now.bytes.now))

pub returns : goal.returns
returns c =
    let fits : FitsSigned w16 c.read_i16.result = search rules in
    rw (to_z-of_z fits) (c.read_i16.ensures ∙ ap sample_in (twice c.args.place c.args.self.now.bytes.now)
    ∙ sym (sample-at c.args.place c.args.self.now.bytes.now c.requires))

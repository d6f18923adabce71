use Rattle.std.proofs.Common.{◌≡◌, ◌≤◌, ◌<◌, ◌+◌, ◌-◌, ◌*◌, ◌++◌, ◌∷◌, [], ℕ, List, length, take, drop, refl, sym}
use Rattle.std.proofs.Common.{arith, rules, ap, ◌∙◌}
use Rattle.std.proofs.lemmas.Nat.{row_fits}
use Rattle.std.proofs.lemmas.List.{length-set, take_more_set}
use Rattle.std.proofs.lemmas.Int.{to_z-of_z}
use Rattle.std.proofs.Common.{SFits, w16}
use Rattle.std.specs.Prelude.{ℤ}
use Rattle.std.proofs.Math.Nat.{suc-mul}
use Rattle.std.proofs.Math.Seq.{take-length}
use Rattle.wave_file.specs.Format.{sample_in, samples_at}
use Rattle.wave_file.proofs.Blocks.{samples_more}
use Rattle.wave_file.proofs.decoder.read_blocks.Goals as goal

-- the next block is there
next_there : (place block at count length : ℕ) → place < count → at ≡ place * block → length ≡ count * block
    → at + block ≤ length
next_there place block at count length less is all = let row = row_fits place block count block less (omega arith) in
    omega (arith, is, all, row)

pub each-init : goal.each-init
unfolding samples_at
each-init c = record { block = c.from-block.ensures; at_is = omega arith; size = refl; reads = refl }

pub overflow_add-next : goal.overflow_add-next
overflow_add-next c =
    let block = c.from-block.ensures in
    let room = c.requires.taken.room in
    let there = next_there c.each.place c.args.format.now.block c.each.at _ _ c.each-test.true c.each.invariant.at_is
    c.requires.blocks in
    omega (arith, there, block, room)

pub slice_bounds-sample_in-end : goal.slice_bounds-sample_in-end
slice_bounds-sample_in-end c =
    let block = c.from-block.ensures in
    let there = next_there c.each.place c.args.format.now.block c.each.at _ _ c.each-test.true c.each.invariant.at_is
    c.requires.blocks in
    let ends : c.each.at + c.from-block.result ≤ length c.args.blocks.now = omega (arith, there, block) in
    search (rules, ends)

pub each-preserved : goal.each-preserved
each-preserved c =
    let format = c.args.format.now in
    let blocks = c.args.blocks.now in
    let place = c.each.place in
    let w = format.block in
    let block = c.from-block.ensures in
    let at_is = c.each.invariant.at_is in
    let test = c.each-test.true in
    let same = c.each.auto.places in
    let less : place < length c.each.places = omega (arith, test, same) in
    let fits : SFits w16 c.sample_in.result = search rules in
    let cut : c.each.at + c.from-block.result - c.each.at ≡ w = omega (arith, block) in
    let is : c.sample_in.result ≡ sample_in format c.args.asked (take w (drop (place * w) blocks)) =
    c.sample_in.ensures ∙ ap (λ (n : ℕ). sample_in format c.args.asked (take n (drop c.each.at blocks))) cut
    ∙ ap (λ (n : ℕ). sample_in format c.args.asked (take w (drop n blocks))) at_is in
    let next = suc-mul place w in
    let one : (place + 1) * w ≡ place * w + w = ap (λ (n : ℕ). n * w) (omega arith) ∙ next in
    rw (to_z-of_z w16 c.sample_in.result fits) (record {
      block = block;
      at_is = omega (arith, at_is, block, one);
      size = length-set c.each.places place c.sample_in.result ∙ c.each.invariant.size;
      reads = take_more_set c.each.places place c.sample_in.result less
          ∙ ap (λ (l : List ℤ). l ++ c.sample_in.result ∷ []) c.each.invariant.reads
          ∙ ap (λ (z : ℤ). samples_at format c.args.asked place blocks ++ z ∷ []) is
          ∙ sym (samples_more format c.args.asked place blocks);
    })

pub returns : goal.returns
returns c =
    let over = c.each-test.false in
    let within = c.each.auto.place-end in
    let size = c.each.auto.places in
    let same : c.each.place ≡ length c.args.places.now = omega (arith, over, within) in
    let all : c.each.place ≡ length c.each.places = omega (arith, same, size) in
    sym (ap (λ (n : ℕ). take n c.each.places) all ∙ take-length c.each.places) ∙ c.each.invariant.reads
    ∙ ap (λ (n : ℕ). samples_at c.args.format.now c.args.asked n c.args.blocks.now) same

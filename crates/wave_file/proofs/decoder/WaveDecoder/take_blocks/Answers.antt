use Rattle.std.proofs.Common.{◌≡◌, ◌≤◌, ◌+◌, ◌-◌, ◌*◌, ◌/◌, ◌++◌, ℕ, ℤ, List, length, take, drop, ap}
use Rattle.std.proofs.Common.{arith, subst, sym, ◌∙◌}
use Rattle.std.proofs.Math.Nat.{le-div_iff_mul-le}
use Rattle.std.proofs.lemmas.List.{length-append, length-take-le}
use Rattle.std.proofs.Math.Seq.{take-append_seam}
use Rattle.wave_file.specs.declared.chunk.Extent.{Extent}
use Rattle.wave_file.specs.declared.chunk.Extent.TheVariants.{Announced, Open}
use Rattle.wave_file.specs.declared.stage.Stage.TheVariants.{Data}
use Rattle.wave_file.specs.declared.stage.TheConstants.{MAX_BYTES}
use Rattle.wave_file.specs.Format.{samples_at}
use Rattle.wave_file.specs.Stage.{data_among, data_stage, HasBytes}
use Rattle.wave_file.specs.StandsFor.{Decoding, StandsFor}
use Rattle.wave_file.proofs.Answered.{blocks_past}
use Rattle.wave_file.proofs.Decoding.{blocks_taken}
use Rattle.wave_file.proofs.decoder.WaveDecoder.take_blocks.Goals as goal

has_less : (extent : Extent) (a b : ℕ) → a ≤ b → HasBytes b extent → HasBytes a extent
has_less (Announced n) a b less has = omega (arith, less, has)
has_less Open a b less has = tt

front_of : (places rest : List ℤ) (n : ℕ) → length places ≡ n → take n (places ++ rest) ≡ places
front_of places rest n e = subst (λ (n : ℕ). take n (places ++ rest) ≡ places) e (take-append_seam places rest)

-- a block is among these bytes
whole_inside : (extent : Extent) (block most : ℕ) → HasBytes block extent → block ≤ most
    → block ≤ data_among extent most
whole_inside (Announced n) block most has whole = omega (arith, has, whole)
whole_inside Open block most has whole = whole

some_block : (inside block : ℕ) → 1 ≤ block → block ≤ inside → 1 ≤ inside / block
some_block inside block some whole = (le-div_iff_mul-le {k = block} some).1 (omega (arith, whole))

-- one block too many
pub returns-then-left-eq0-clause-stops : goal.returns-then-left-eq0-clause-stops
returns-then-left-eq0-clause-stops c = λ front samples stands more.
    let d = c.self.inside in
    let s = subst (λ (x : Decoding). StandsFor x front samples) (sym c.self.view_is) stands in
    let a = c.args in
    let stage = Data a.format a.extent a.left in
    let ahead = subst (λ (x : Decoding). x.stage ≡ stage) (sym c.self.view_is) c.requires.data in
    let within = subst (λ (x : Decoding). x.place + a.most ≤ MAX_BYTES) (sym c.self.view_is) c.requires.within in
    rw (← c.self.view_is) (blocks_past d.asked d.notes d.place d.stage a.format a.extent a.left a.bytes.now front more
    samples ahead c.self.invariant.stage c.if-left-eq0.true (omega (arith, c.requires.whole, c.requires.there))
    (omega (arith, within, c.requires.whole)) s)

-- blocks
pub returns-clause-takes : goal.returns-clause-takes
returns-clause-takes c =
    let d = c.self.inside in
    let a = c.args in
    let count = c.whole_blocks-samples.result in
    let e = c.whole_blocks-samples.ensures in
    let stage = Data a.format a.extent a.left in
    let ahead = subst (λ (x : Decoding). x.stage ≡ stage) (sym c.self.view_is) c.requires.data in
    let kept = rw ahead at c.self.invariant.stage in
    let size : length (take count a.room.now) ≡ count = length-take-le count a.room.now e.places in
    let placed : length c.read_blocks.new.places ≡ count = c.read_blocks.auto.places ∙ size in
    let put = front_of c.read_blocks.new.places (drop count a.room.now) count placed in
    let whole = whole_inside a.extent a.format.block a.most kept.1 c.requires.whole in
    let some = some_block (data_among a.extent a.most) a.format.block c.requires.some whole in
    let all = rw (c.inside.ensures.all, c.from-block.ensures) at e.all in
    let one : 1 ≤ count = omega (arith, all, some, c.requires.places, c.if-left-eq0.false) in
    let fits : count ≤ length (c.read_blocks.new.places ++ drop count a.room.now) =
    omega (arith, length-append c.read_blocks.new.places (drop count a.room.now), placed) in
    let given = c.read_blocks.ensures ∙ ap (λ (n : ℕ). samples_at a.format d.asked n
    (take (count * c.from-block.result) a.bytes.now)) size in
    let taken = blocks_taken d.asked d.notes d.place d.stage c.data_stage-self-inside.result a.format a.extent a.left
    count c.from-block.result a.bytes.now c.read_blocks.new.places ahead c.self.invariant.stage c.from-block.ensures
    (c.data_stage-self-inside.ensures
    ∙ ap (λ (x : Extent). data_stage a.format x (a.left - count)) c.behind.ensures) given one
    (omega (arith, e.inside, c.inside.ensures.length, c.requires.there))
    (has_less a.extent _ _ e.inside c.inside.ensures.inside) e.left in
    rw (← c.self.view_is, put) (taken.0, taken.1, taken.2, fits)

use Rattle.std.proofs.Common.{◌≡◌, ℕ, ◌*◌, ◌-◌, List, length, take, drop, get_or, length-drop, take_all, ap, ◌∙◌, sym}
use Rattle.std.proofs.Common.{arith, rules}
use Rattle.std.proofs.Common.{SFits, w16, w32, ◌<◌, to_z, of_z}
use Rattle.std.proofs.lemmas.Bool.{ne_eqb}
use Rattle.std.proofs.lemmas.Int.{ints, to_z-of_z}
use Rattle.std.specs.Int.{cast_signed}
use Rattle.std.specs.Prelude.{ℤ, pos, ◌-ℤ◌, ◌*ℤ◌}
use Rattle.byteorder.specs.Endian.{little_number}
use Rattle.wave_file.specs.declared.format.WaveFormat.{WaveFormat}
use Rattle.wave_file.specs.Format.{sample_in, sample_width}
use Rattle.wave_file.proofs.sample.sample_in.Goals as goal
use Rattle.wave_file.specs.declared.format.Asked.{Asked}

-- the two bytes from a place on
bytes_at : (format : WaveFormat) (asked : Asked) (width : ℕ) (block : List ℕ) (sample : ℤ) → width ≡ sample_width format
    → ¬ (width ≡ 1)
    → sample ≡ cast_signed w16
    (little_number 2 (take (length block - (asked.track * width - 2)) (drop (asked.track * width - 2)
    block)))
    → sample ≡ sample_in format asked block
bytes_at format asked width block sample is wide e =
    let at = asked.track * width - 2 in
    let rest = length-drop at block in
    rw (← is, ne_eqb width 1 wide)
    (e ∙ ap (λ (bytes : List ℕ). cast_signed w16 (little_number 2 bytes)) (take_all (length block - at) (drop at block)
    (omega (arith, rest))))

-- a byte as the upper 16 bits of a sample
byte_above : (n : ℕ) (z : ℤ) → n < 256 → z ≡ pos n
    → to_z w16 (of_z w16 (to_z w32 (of_z w32 (to_z w32 (of_z w32 (pos 256 *ℤ to_z w32 (of_z w32 z))) -ℤ pos 32768))))
    ≡ pos (256 * n) -ℤ pos 32768
byte_above n z small e = omega (arith, ints)

pub returns-then-width-eq1 : goal.returns-then-width-eq1
returns-then-width-eq1 c =
    let one = sym c.from-width.ensures ∙ c.if-width-eq1.true in
    let byte = get_or c.args.block.now (c.args.asked.track - 1) 0 in
    let small : byte < 256 = omega (arith, c.type_inv.block (c.args.asked.track - 1)) in
    rw one (byte_above byte c.from.result small c.from.ensures)

pub returns-else-width-eq1 : goal.returns-else-width-eq1
returns-else-width-eq1 c =
    let fits : SFits w16 c.read_i16.result = search rules in
    rw (to_z-of_z w16 c.read_i16.result fits) (bytes_at c.args.format.now c.args.asked c.from-width.result
    c.args.block.now
    c.read_i16.result c.from-width.ensures c.if-width-eq1.false c.read_i16.ensures)

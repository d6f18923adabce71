-- A format chunk without a fault gives a format that is taken: of 8, 16, 24 or 32 bits, and so of whole bytes.
use Rattle.std.proofs.Common.{true, false, ◌≡◌, ℕ, ◌*◌, ◌/◌, ◌≤◌, inl, inr, Bool, not, Some, None, refl, arith}
use Rattle.std.specs.Prelude.{nat_lt, ◌==◌, if◌then◌else◌}
use Rattle.std.proofs.lemmas.Bool.{and_parts, or_cases, leb-true, ltb-false, eqb-true}
use Rattle.std.proofs.lemmas.Nat.{mul-le}
use Rattle.file_faults.specs.declared.sound.WaveFault.{WaveFault}
use Rattle.wave_file.specs.declared.format.WaveFormat.{WaveFormat}
use Rattle.wave_file.specs.Format.{field_fault, is_rate, is_sample_size, is_track_count, IsTakenFor}
use Rattle.wave_file.specs.declared.format.Asked.{Asked}
use Rattle.wave_file.specs.Format.{IsAsked}

record Passes (a b c d e f : Bool) : Type 0 where
  tracks : b ≡ true
  rate : c ≡ true
  block : d ≡ true
  bits : e ≡ true
  among : f ≡ false

passes : (a b c d e f : Bool) (p q r s t u : WaveFault)
    → (if not a then Some p else if not b then Some q else if not c then Some r else if not d then Some s else if not e
    then Some t
    else if f then Some u else None) ≡ None
    → Passes a b c d e f
passes true true true true true false p q r s t u none =
    record { tracks = refl; rate = refl; block = refl; bits = refl; among = refl }
passes _ _ _ _ _ _ p q r s t u none = absurd cc

record Sized (tracks bits block : ℕ) : Type 0 where
  least : 8 ≤ bits
  most : bits ≤ 32
  whole : bits ≡ 8 * (bits / 8)
  block_is : block ≡ tracks * (bits / 8)

sized : (tracks bits block : ℕ) → is_sample_size bits ≡ true → 8 * block ≡ tracks * bits → Sized tracks bits block
sized tracks bits block size e = elim (or_cases (bits == 8) _ size) [
  | inl h ↦ at_eight (eqb-true bits 8 h)
  | inr h ↦ elim (or_cases (bits == 16) _ h) [
    | inl h ↦ at_sixteen (eqb-true bits 16 h)
    | inr h ↦ elim (or_cases (bits == 24) _ h) [
      | inl h ↦ at_twenty_four (eqb-true bits 24 h)
      | inr h ↦ at_thirty_two (eqb-true bits 32 h)
    ]
  ]
]
  where
    at_eight : bits ≡ 8 → Sized tracks bits block
    at_eight b = let p : 8 * block ≡ tracks * 8 = rw b at e in
        rw b (record { least = omega arith; most = omega arith; whole = refl; block_is = omega (arith, p) })

    at_sixteen : bits ≡ 16 → Sized tracks bits block
    at_sixteen b = let p : 8 * block ≡ tracks * 16 = rw b at e in
        rw b (record { least = omega arith; most = omega arith; whole = refl; block_is = omega (arith, p) })

    at_twenty_four : bits ≡ 24 → Sized tracks bits block
    at_twenty_four b = let p : 8 * block ≡ tracks * 24 = rw b at e in
        rw b (record { least = omega arith; most = omega arith; whole = refl; block_is = omega (arith, p) })

    at_thirty_two : bits ≡ 32 → Sized tracks bits block
    at_thirty_two b = let p : 8 * block ≡ tracks * 32 = rw b at e in
        rw b (record { least = omega arith; most = omega arith; whole = refl; block_is = omega (arith, p) })

-- the bytes of a block
between : (tracks bits block : ℕ) → 1 ≤ tracks → tracks ≤ 64 → 8 ≤ bits → bits ≤ 32 → 8 * block ≡ tracks * bits
    → (1 ≤ block) × (block ≤ 256)
between tracks bits block a b c d e =
    let low = mul-le 1 8 tracks bits a c in
    let high = mul-le tracks bits 64 32 b d in
    (omega (arith, low, e), omega (arith, high, e))

pub taken_for : (asked : Asked) (place : ℕ) (pcm : Bool) (f : WaveFormat) → IsAsked asked
    → field_fault asked place pcm f ≡ None → IsTakenFor asked f
taken_for asked place pcm f first none =
    let p = passes pcm (is_track_count f.tracks) (is_rate asked.least_rate f.rate) (8 * f.block == f.tracks * f.bits)
    (is_sample_size f.bits) (nat_lt f.tracks asked.track)
    _ _ _ _ _ _ none in
    let tracks = and_parts _ _ p.tracks in
    let rate = and_parts _ _ p.rate in
    let same = eqb-true (8 * f.block) (f.tracks * f.bits) p.block in
    let s = sized f.tracks f.bits f.block p.bits same in
    let most = leb-true f.tracks 64 tracks.1 in
    let least = leb-true 1 f.tracks tracks.0 in
    let b = between f.tracks f.bits f.block least most s.least s.most same in
    record {
      first = first.first;
      among = ltb-false f.tracks asked.track p.among;
      most = most;
      rate_least = omega (arith, first.some_rate, leb-true asked.least_rate f.rate rate.0);
      rate_asked = leb-true asked.least_rate f.rate rate.0;
      rate_most = leb-true f.rate 6_250_000 rate.1;
      bits_least = s.least;
      bits_most = s.most;
      whole = s.whole;
      block = s.block_is;
      some = b.0;
      room = b.1;
    }

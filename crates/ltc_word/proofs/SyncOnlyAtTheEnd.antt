-- No digit of an address is all ones, and a digit is in each twelve bits before the sync word, so
-- twelve ones in a row are the sync word.
use Rattle.std.proofs.Common.{◌≡◌, ℕ, ◌+◌, ◌-◌, ◌*◌, ◌/◌, ◌%◌, ◌^◌, ◌<◌, ◌≤◌, inl, inr, arith}
use Rattle.std.specs.Int.{bit_at}
use Rattle.std.proofs.lemmas.Bool.{cases_lt}
use Rattle.std.proofs.lemmas.Nat.{shr-shr}
use Rattle.tc_address.specs.declared.system.System.{System}
use Rattle.tc_address.specs.declared.system.System.TheVariants.{F24, F25, F30}
use Rattle.tc_address.specs.Count.{system_with}
use Rattle.tc_address.specs.Label.{Address}
use Rattle.tc_bits.specs.Spelling.{SpellsAddress}
use Rattle.ltc_word.specs.declared.places.TheConstants as places
use Rattle.ltc_word.specs.declared.word.LtcWord.{LtcWord}
use Rattle.ltc_word.specs.Places.{table_of}
use Rattle.ltc_word.specs.Spelling.{Spells}
use Rattle.ltc_word.specs.Reversal.{HasTwelveOnes}
use Rattle.tc_address.specs.LabelLemmas.{rate_within}

-- a bit that is in the twelve is set
set_at : (bits i p : ℕ) → HasTwelveOnes bits i → i ≤ p → p < i + 12 → bit_at bits p ≡ 1
set_at bits i p ones le lt = let e : i + (p - i) ≡ p = omega arith in rw e at (ones (p - i) (omega arith))

-- the bits that stop a row of ones
pub record Stops (bits : ℕ) : Type 0 where
  pub frame_units : bits / 2 ^ 0 % 2 ^ 4 < 10
  pub frame_tens : bits / 2 ^ 8 % 2 ^ 2 < 3
  pub second_units : bits / 2 ^ 16 % 2 ^ 4 < 10
  pub second_tens : bits / 2 ^ 24 % 2 ^ 3 < 6
  pub minute_units : bits / 2 ^ 32 % 2 ^ 4 < 10
  pub minute_tens : bits / 2 ^ 40 % 2 ^ 3 < 6
  pub hour_units : bits / 2 ^ 48 % 2 ^ 4 < 10
  pub hour_tens : bits / 2 ^ 56 % 2 ^ 2 < 3
  pub sync : bits / 2 ^ 64 % 2 ^ 16 ≡ 49148

-- the digits are in the same places in each system
same_digits : (system : System) (a : Address) (bits : ℕ) → SpellsAddress (table_of system) a bits
    → SpellsAddress places.TABLE a bits
same_digits F24 a bits s = s
same_digits F25 a bits s = record {
  frame_units = s.frame_units;
  frame_tens = s.frame_tens;
  second_units = s.second_units;
  second_tens = s.second_tens;
  minute_units = s.minute_units;
  minute_tens = s.minute_tens;
  hour_units = s.hour_units;
  hour_tens = s.hour_tens;
}
same_digits F30 a bits s = s

pub stops : (system : System) (word : LtcWord) (bits : ℕ) → Spells system word bits → Stops bits
stops system word bits s =
    let a = same_digits system word.fields.label bits s.address in
    let label = s.valid.label in
    let rate = rate_within (system_with word.fields.label.count) in
    record {
      frame_units = omega arith;
      frame_tens = omega arith;
      second_units = omega arith;
      second_tens = omega arith;
      minute_units = omega arith;
      minute_tens = omega arith;
      hour_units = omega arith;
      hour_tens = omega arith;
      sync = s.sync;
    }

-- a row of ones that covers a digit makes it all ones
covers : (bits i first k : ℕ) → HasTwelveOnes bits i → i ≤ first + k → first + k < i + 12
    → bits / 2 ^ first / 2 ^ k % 2 ≡ 1
covers bits i first k ones le lt = rw (shr-shr bits first k) (set_at bits i (first + k) ones le lt)

no_two : (bits i first : ℕ) → HasTwelveOnes bits i → i ≤ first → first + 2 ≤ i + 12 → bits / 2 ^ first % 2 ^ 2 < 3 → ⊥
no_two bits i first ones le within low =
    let n = bits / 2 ^ first in
    let a : n / 2 ^ 0 % 2 ≡ 1 = covers bits i first 0 ones (omega arith) (omega arith) in
    let b : n / 2 ^ 1 % 2 ≡ 1 = covers bits i first 1 ones (omega arith) (omega arith) in
    omega arith

no_three : (bits i first : ℕ) → HasTwelveOnes bits i → i ≤ first → first + 3 ≤ i + 12 → bits / 2 ^ first % 2 ^ 3 < 6 → ⊥
no_three bits i first ones le within low =
    let n = bits / 2 ^ first in
    let b : n / 2 ^ 1 % 2 ≡ 1 = covers bits i first 1 ones (omega arith) (omega arith) in
    let c : n / 2 ^ 2 % 2 ≡ 1 = covers bits i first 2 ones (omega arith) (omega arith) in
    omega arith

no_four : (bits i first : ℕ) → HasTwelveOnes bits i → i ≤ first → first + 4 ≤ i + 12 → bits / 2 ^ first % 2 ^ 4 < 10 → ⊥
no_four bits i first ones le within low =
    let n = bits / 2 ^ first in
    let b : n / 2 ^ 1 % 2 ≡ 1 = covers bits i first 1 ones (omega arith) (omega arith) in
    let d : n / 2 ^ 3 % 2 ≡ 1 = covers bits i first 3 ones (omega arith) (omega arith) in
    omega arith

no_zero : (bits i k : ℕ) → HasTwelveOnes bits i → i ≤ 64 + k → 64 + k < i + 12 → bits / 2 ^ 64 / 2 ^ k % 2 ≡ 0 → ⊥
no_zero bits i k ones le lt zero_there = let one = covers bits i 64 k ones le lt in omega arith

-- the sync word itself has three zeros and twelve ones between them
pub only_there : (bits i : ℕ) → Stops bits → i < 79 → HasTwelveOnes bits i → i ≡ 66
only_there bits i s below ones =
    elim (cases_lt i 9) [
      | inl lt ↦ absurd (no_two bits i 8 ones (omega arith) (omega arith) s.frame_tens)
      | inr from ↦ elim (cases_lt i 17) [
        | inl lt ↦ absurd (no_four bits i 16 ones (omega arith) (omega arith) s.second_units)
        | inr from ↦ elim (cases_lt i 25) [
          | inl lt ↦ absurd (no_three bits i 24 ones (omega arith) (omega arith) s.second_tens)
          | inr from ↦ elim (cases_lt i 33) [
            | inl lt ↦ absurd (no_four bits i 32 ones (omega arith) (omega arith) s.minute_units)
            | inr from ↦ elim (cases_lt i 41) [
              | inl lt ↦ absurd (no_three bits i 40 ones (omega arith) (omega arith) s.minute_tens)
              | inr from ↦ elim (cases_lt i 49) [
                | inl lt ↦ absurd (no_four bits i 48 ones (omega arith) (omega arith) s.hour_units)
                | inr from ↦ elim (cases_lt i 57) [
                  | inl lt ↦ absurd (no_two bits i 56 ones (omega arith) (omega arith) s.hour_tens)
                  | inr from ↦ elim (cases_lt i 65) [
                    | inl lt ↦ absurd (no_zero bits i 0 ones (omega arith) (omega arith) (omega arith))
                    | inr from ↦ elim (cases_lt i 66) [
                      | inl lt ↦ absurd (no_zero bits i 1 ones (omega arith) (omega arith) (omega arith))
                      | inr from ↦ elim (cases_lt i 67) [
                        | inl lt ↦ omega arith
                        | inr from ↦ absurd (no_zero bits i 14 ones (omega arith) (omega arith) (omega arith))
                      ]
                    ]
                  ]
                ]
              ]
            ]
          ]
        ]
      ]
    ]

-- the bits of the first of two words stop a row of ones as they did
stops_before : (x y : ℕ) → x < 2 ^ 80 → Stops x → Stops (x + y * 2 ^ 80)
stops_before x y width s = record {
  frame_units = omega arith;
  frame_tens = omega arith;
  second_units = omega arith;
  second_tens = omega arith;
  minute_units = omega arith;
  minute_tens = omega arith;
  hour_units = omega arith;
  hour_tens = omega arith;
  sync = omega arith;
}

units_of_second : (x y : ℕ) → x < 2 ^ 80 → y / 2 ^ 0 % 2 ^ 4 < 10 → (x + y * 2 ^ 80) / 2 ^ 80 % 2 ^ 4 < 10
units_of_second x y width low = omega arith

-- and the frame units of the second stop one that begins with the last bit of the first
pub only_in_two : (x y i : ℕ) → x < 2 ^ 80 → Stops x → Stops y → i < 80 → HasTwelveOnes (x + y * 2 ^ 80) i → i ≡ 66
only_in_two x y i width s t below ones =
    elim (cases_lt i 79) [
      | inl lt ↦ only_there (x + y * 2 ^ 80) i (stops_before x y width s) lt ones
      | inr from ↦ absurd (no_four (x + y * 2 ^ 80) i 80 ones (omega arith) (omega arith)
          (units_of_second x y width t.frame_units))
    ]

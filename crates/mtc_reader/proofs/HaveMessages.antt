-- Whether a message begins at a place of some bytes; and each list of bytes has messages.
use Rattle.std.proofs.Common.{◌≡◌, ◌≢◌, ◌≤◌, ℕ, zero, suc, Bool, true, false, List, [], ◌∷◌}
use Rattle.std.proofs.Common.{◌++◌}
use Rattle.std.proofs.Common.{length, drop, refl, sym, ◌∙◌, ap, subst, arith, append_assoc}
use Rattle.std.proofs.Common.{length-append}
use Rattle.std.specs.Prelude.{◌==◌, ◌&&◌, cond}
use Rattle.std.proofs.lemmas.Bool.{and_parts, eqb-true, false≢true, ltb-true}
use Rattle.mtc_reader.specs.declared.message.Message.{Message}
use Rattle.mtc_reader.specs.declared.message.Message.TheVariants.{QuarterFrame, FullMessage}
use Rattle.mtc_reader.specs.Messages.{is_data}
use Rattle.mtc_reader.specs.Spelled.{AreMessages, HoldNone, SpelledMessage, Spells}
use Rattle.mtc_reader.proofs.ReadBack.{below}

-- ---- whether a message begins

-- a message and what comes behind it
record IsBegun (bytes : List ℕ) : Type 0 where
  spelled : List ℕ
  message : Message
  rest : List ℕ
  spells : Spells message spelled
  are : bytes ≡ spelled ++ rest

abbrev BeginsNone : List ℕ → Type 0
BeginsNone bytes = (spelled after : List ℕ) (message : Message) → Spells message spelled → bytes ≢ spelled ++ after

-- the test behind `f1`, and behind `f0`
abbrev is_quarter_tail : List ℕ → Bool
is_quarter_tail [] = false
is_quarter_tail (number ∷ rest) = is_data number

abbrev is_full_tail : List ℕ → Bool
is_full_tail (a ∷ b ∷ c ∷ d ∷ e ∷ f ∷ g ∷ h ∷ i ∷ rest) =
    (a == 0x7f) && (is_data b && ((c == 1) && ((d == 1)
    && (is_data e && (is_data f && (is_data g && (is_data h && (i == 0xf7))))))))
is_full_tail other = false

abbrev is_begun : List ℕ → Bool
is_begun [] = false
is_begun (status ∷ rest) =
    cond (status == 0xf1) (is_quarter_tail rest) (cond (status == 0xf0) (is_full_tail rest) false)

begins_none : (bytes : List ℕ) → is_begun bytes ≡ false → BeginsNone bytes
begins_none bytes fails spelled after (QuarterFrame number) spells is =
    let whole = is ∙ ap (λ (s : List ℕ). s ++ after) spells.1 in
    false≢true (sym fails ∙ ap is_begun whole ∙ below number spells.0)
begins_none bytes fails spelled after (FullMessage hours minutes seconds frames) spells is =
    let device = spells.0 in
    let whole = is ∙ ap (λ (s : List ℕ). s ++ after) spells.6 in
    let passes : is_full_tail (0x7f ∷ device ∷ 0x01 ∷ 0x01 ∷ hours ∷ minutes ∷ seconds ∷ frames ∷ 0xf7 ∷ after) ≡ true =
    rw (
      below device spells.1,
      below hours spells.2,
      below minutes spells.3,
      below seconds spells.4,
      below frames spells.5,
    ) refl in
    false≢true (sym fails ∙ ap is_begun whole ∙ passes)

quarter_begun : (status : ℕ) (rest : List ℕ) → status ≡ 0xf1 → is_quarter_tail rest ≡ true → IsBegun (status ∷ rest)
quarter_begun status [] is passes = absurd (false≢true passes)
quarter_begun status (number ∷ rest) is passes = record {
  spelled = 0xf1 ∷ number ∷ [];
  message = QuarterFrame number;
  rest = rest;
  spells = (ltb-true number 0x80 passes, refl);
  are = ap (λ (n : ℕ). n ∷ number ∷ rest) is;
}

full_begun : (status : ℕ) (rest : List ℕ) → status ≡ 0xf0 → is_full_tail rest ≡ true → IsBegun (status ∷ rest)
full_begun status [] is passes = absurd (false≢true passes)
full_begun status (a ∷ []) is passes = absurd (false≢true passes)
full_begun status (a ∷ b ∷ []) is passes = absurd (false≢true passes)
full_begun status (a ∷ b ∷ c ∷ []) is passes = absurd (false≢true passes)
full_begun status (a ∷ b ∷ c ∷ d ∷ []) is passes = absurd (false≢true passes)
full_begun status (a ∷ b ∷ c ∷ d ∷ e ∷ []) is passes = absurd (false≢true passes)
full_begun status (a ∷ b ∷ c ∷ d ∷ e ∷ f ∷ []) is passes = absurd (false≢true passes)
full_begun status (a ∷ b ∷ c ∷ d ∷ e ∷ f ∷ g ∷ []) is passes = absurd (false≢true passes)
full_begun status (a ∷ b ∷ c ∷ d ∷ e ∷ f ∷ g ∷ h ∷ []) is passes = absurd (false≢true passes)
full_begun status (a ∷ b ∷ c ∷ d ∷ e ∷ f ∷ g ∷ h ∷ i ∷ rest) is passes =
    let from_a = and_parts _ _ passes in
    let from_b = and_parts _ _ from_a.1 in
    let from_c = and_parts _ _ from_b.1 in
    let from_d = and_parts _ _ from_c.1 in
    let from_e = and_parts _ _ from_d.1 in
    let from_f = and_parts _ _ from_e.1 in
    let from_g = and_parts _ _ from_f.1 in
    let from_h = and_parts _ _ from_g.1 in
    let first = eqb-true a 0x7f from_a.0 in
    let third = eqb-true c 1 from_c.0 in
    let fourth = eqb-true d 1 from_d.0 in
    let last = eqb-true i 0xf7 from_h.1 in
    record {
      spelled = 0xf0 ∷ 0x7f ∷ b ∷ 0x01 ∷ 0x01 ∷ e ∷ f ∷ g ∷ h ∷ 0xf7 ∷ [];
      message = FullMessage e f g h;
      rest = rest;
      spells = (
        b,
        ltb-true b 0x80 from_b.0,
        ltb-true e 0x80 from_e.0,
        ltb-true f 0x80 from_f.0,
        ltb-true g 0x80 from_g.0,
        ltb-true h 0x80 from_h.0,
        refl,
      );
      are = rw (is, first, third, fourth, last) refl;
    }

begun_by : (quarter full : Bool) (status : ℕ) (rest : List ℕ) → (status == 0xf1) ≡ quarter → (status == 0xf0) ≡ full
    → cond quarter (is_quarter_tail rest) (cond full (is_full_tail rest) false) ≡ true → IsBegun (status ∷ rest)
begun_by true full status rest is no_full passes = quarter_begun status rest (eqb-true status 0xf1 is) passes
begun_by false true status rest no_quarter is passes = full_begun status rest (eqb-true status 0xf0 is) passes
begun_by false false status rest no_quarter no_full passes = absurd (false≢true passes)

-- ---- each list of bytes has messages

long : (message : Message) (spelled : List ℕ) → Spells message spelled → 2 ≤ length spelled
long (QuarterFrame number) spelled spells = let same = ap length spells.1 in omega (arith, same)
long (FullMessage hours minutes seconds frames) spelled spells = let same = ap length spells.6 in omega (arith, same)

none_in_nothing : HoldNone []
none_in_nothing before spelled after message spells is =
    let none = ap length is in
    let all = length-append before (spelled ++ after) in
    let own = length-append spelled after in
    let some = long message spelled spells in
    absurd (omega (arith, none, all, own, some))

none_push : (byte : ℕ) (bytes : List ℕ) → BeginsNone (byte ∷ bytes) → HoldNone bytes → HoldNone (byte ∷ bytes)
none_push byte bytes begins none [] spelled after message spells is = begins spelled after message spells is
none_push byte bytes begins none (first ∷ before) spelled after message spells is =
    none before spelled after message spells (ap (drop 1) is)

begins_none_front : (front rest : List ℕ) → BeginsNone (front ++ rest) → BeginsNone front
begins_none_front front rest none spelled after message spells is =
    none spelled (after ++ rest) message spells
    (ap (λ (l : List ℕ). l ++ rest) is ∙ append_assoc spelled after rest)

-- a byte more in front, at which none begins
push : (list : List SpelledMessage) (byte : ℕ) (bytes : List ℕ) → BeginsNone (byte ∷ bytes) → AreMessages list bytes
    → (more : List SpelledMessage) × AreMessages more (byte ∷ bytes)
push [] byte bytes begins are = ([], none_push byte bytes begins are)
push (one ∷ list) byte bytes begins are =
    let behind = one.spelled ++ are.0 in
    let front = begins_none_front (byte ∷ one.between) behind
    (subst (λ (l : List ℕ). BeginsNone (byte ∷ l)) are.1 begins) in (
      record { between = byte ∷ one.between; spelled = one.spelled; message = one.message } ∷ list,
      (
        are.0,
        ap (λ (l : List ℕ). byte ∷ l) are.1,
        none_push byte one.between front are.2,
        are.3,
        are.4,
      ),
    )

have_by : (n : ℕ) (begun : Bool) (byte : ℕ) (bytes : List ℕ) → is_begun (byte ∷ bytes) ≡ begun
    → ((list : List SpelledMessage) × AreMessages list bytes)
    → ((rest : List ℕ) → length rest ≤ length bytes → (list : List SpelledMessage) × AreMessages list rest)
    → (list : List SpelledMessage) × AreMessages list (byte ∷ bytes)
have_by n true byte bytes is own others =
    let begun = begun_by (byte == 0xf1) (byte == 0xf0) byte bytes refl refl is in
    let whole = ap length begun.are in
    let all = length-append begun.spelled begun.rest in
    let some = long begun.message begun.spelled begun.spells in
    let more = others begun.rest (omega (arith, whole, all, some)) in (
      record { between = []; spelled = begun.spelled; message = begun.message } ∷ more.0,
      (begun.rest, begun.are, none_in_nothing, begun.spells, more.1),
    )
have_by n false byte bytes is own others = push own.0 byte bytes (begins_none (byte ∷ bytes) is) own.1

pub have_messages : (n : ℕ) (bytes : List ℕ) → length bytes ≤ n → (list : List SpelledMessage) × AreMessages list bytes
have_messages n [] within = ([], none_in_nothing)
have_messages zero (byte ∷ bytes) within = absurd (omega (arith, within))
have_messages (suc n) (byte ∷ bytes) within =
    have_by n (is_begun (byte ∷ bytes)) byte bytes refl (have_messages n bytes (omega (arith, within)))
    (λ rest less. have_messages n rest (omega (arith, within, less)))

-- Bytes are one list of messages: at each place a message begins or none does, and no message begins inside another.
use Rattle.std.proofs.Common.{◌≡◌, ◌≢◌, ◌<◌, ◌≤◌, ◌⊎◌, ℕ, List, [], ◌∷◌}
use Rattle.std.proofs.Common.{◌++◌}
use Rattle.std.proofs.Common.{length, take, drop, get_or, inl, inr, refl, sym, ◌∙◌, ap, subst, arith}
use Rattle.std.proofs.lemmas.List.{append_cancel_left, take-append-drop, take-append-le, take_at}
use Rattle.mtc_reader.specs.declared.message.Message.{Message}
use Rattle.mtc_reader.specs.declared.message.Message.TheVariants.{QuarterFrame, FullMessage}
use Rattle.mtc_reader.specs.Spelled.{AreMessages, HoldNone, SpelledMessage, Spells}
use Rattle.mtc_reader.proofs.MessagesAlong.{ends_hold_none}

-- ---- and one list of them alone

-- a status byte that begins a message, and bytes that begin none
abbrev IsFirst : ℕ → Type 0
IsFirst byte = (byte ≡ 0xf0) ⊎ (byte ≡ 0xf1)

abbrev IsLater : ℕ → Type 0
IsLater byte = (byte ≢ 0xf0) × (byte ≢ 0xf1)

abbrev AreLater : List ℕ → Type 0
AreLater [] = Unit {0}
AreLater (byte ∷ more) = IsLater byte × AreLater more

record IsShaped (spelled : List ℕ) : Type 0 where
  first : ℕ
  later : List ℕ
  are : spelled ≡ first ∷ later
  is_first : IsFirst first
  are_later : AreLater later

data_later : (byte : ℕ) → byte < 0x80 → IsLater byte
data_later byte less = (λ e. absurd (omega (arith, less, e)), λ e. absurd (omega (arith, less, e)))

end_later : IsLater 0xf7
end_later = (λ e. absurd (omega (arith, e)), λ e. absurd (omega (arith, e)))

never_first : (byte first : ℕ) → byte ≡ first → IsLater byte → IsFirst first → ⊥
never_first byte first same later (inl is) = later.0 (same ∙ is)
never_first byte first same later (inr is) = later.1 (same ∙ is)

shaped : (message : Message) (spelled : List ℕ) → Spells message spelled → IsShaped spelled
shaped (QuarterFrame number) spelled spells = record {
  first = 0xf1;
  later = number ∷ [];
  are = spells.1;
  is_first = inr refl;
  are_later = (data_later number spells.0, tt);
}
shaped (FullMessage hours minutes seconds frames) spelled spells = record {
  first = 0xf0;
  later = 0x7f ∷ spells.0 ∷ 0x01 ∷ 0x01 ∷ hours ∷ minutes ∷ seconds ∷ frames ∷ 0xf7 ∷ [];
  are = spells.6;
  is_first = inl refl;
  are_later = (
    data_later 0x7f (omega arith),
    (
      data_later spells.0 spells.1,
      (
        data_later 0x01 (omega arith),
        (
          data_later 0x01 (omega arith),
          (
            data_later hours spells.2,
            (
              data_later minutes spells.3,
              (data_later seconds spells.4, (data_later frames spells.5, (end_later, tt))),
            ),
          ),
        ),
      ),
    ),
  );
}

-- what begins no message reaches no byte that begins one
reaches : (later after between spelled rest : List ℕ) → AreLater later → IsShaped spelled
    → later ++ after ≡ between ++ (spelled ++ rest) → length later ≤ length between
reaches [] after between spelled rest are is same = omega arith
reaches (byte ∷ later) after [] spelled rest are is same =
    let there : byte ∷ (later ++ after) ≡ is.first ∷ (is.later ++ rest) =
    same ∙ ap (λ (l : List ℕ). l ++ rest) is.are in
    let own : byte ≡ is.first = cc in
    absurd (never_first byte is.first own are.0 is.is_first)
reaches (byte ∷ later) after (other ∷ between) spelled rest are is same =
    let more = reaches later after between spelled rest are.1 is (ap (drop 1) same) in omega (arith, more)

-- so no message begins where others hold none
none_before : (message other : Message) (spelled after : List ℕ) (byte : ℕ) (between others rest : List ℕ)
    → Spells message spelled → Spells other others → HoldNone (byte ∷ between)
    → spelled ++ after ≢ (byte ∷ between) ++ (others ++ rest)
none_before message other spelled after byte between others rest spells too none same =
    let own = shaped message spelled spells in
    let tails : own.later ++ after ≡ between ++ (others ++ rest) =
    ap (drop 1) (ap (λ (l : List ℕ). l ++ after) (sym own.are) ∙ same) in
    let within = reaches own.later after between others rest own.are_later (shaped other others too) tails in
    let size = ap length own.are in
    let n = length spelled in
    let front : spelled ≡ take n (byte ∷ between) =
    sym (take_at spelled after n refl) ∙ ap (take n) same
    ∙ take-append-le n (byte ∷ between) (others ++ rest) (omega (arith, within, size)) in
    none [] spelled (drop n (byte ∷ between)) message spells
    (sym (take-append-drop n (byte ∷ between)) ∙ ap (λ (l : List ℕ). l ++ drop n (byte ∷ between)) (sym front))

same_between : (between others : List ℕ) (message other : Message) (spelled after too rest : List ℕ)
    → Spells message spelled → Spells other too → HoldNone between → HoldNone others
    → between ++ (spelled ++ after) ≡ others ++ (too ++ rest) → between ≡ others
same_between [] [] message other spelled after too rest one two none none' same = refl
same_between [] (byte ∷ others) message other spelled after too rest one two none none' same =
    absurd (none_before message other spelled after byte others too rest one two none' same)
same_between (byte ∷ between) [] message other spelled after too rest one two none none' same =
    absurd (none_before other message too rest byte between spelled after two one none (sym same))
same_between (byte ∷ between) (byte' ∷ others) message other spelled after too rest one two none none' same =
    let first : byte ≡ byte' = cc in
    let more = same_between between others message other spelled after too rest one two
    (ends_hold_none (byte ∷ []) between none) (ends_hold_none (byte' ∷ []) others none') (ap (drop 1) same) in
    ap (λ (n : ℕ). n ∷ between) first ∙ ap (λ (l : List ℕ). byte' ∷ l) more

-- what begins with a message begins with no other
record AreSame (message other : Message) (spelled after too rest : List ℕ) : Type 0 where
  messages : message ≡ other
  bytes : spelled ≡ too
  behind : after ≡ rest

same_spelled : (message other : Message) (spelled after too rest : List ℕ) → Spells message spelled → Spells other too
    → spelled ++ after ≡ too ++ rest → AreSame message other spelled after too rest
same_spelled (QuarterFrame a) (QuarterFrame b) spelled after too rest one two same =
    let all : 0xf1 ∷ a ∷ after ≡ 0xf1 ∷ b ∷ rest =
    ap (λ (l : List ℕ). l ++ after) (sym one.1) ∙ same ∙ ap (λ (l : List ℕ). l ++ rest) two.1 in
    let number : a ≡ b = cc in record {
      messages = ap (λ n. QuarterFrame n) number;
      bytes = one.1 ∙ ap (λ (n : ℕ). 0xf1 ∷ n ∷ []) number ∙ sym two.1;
      behind = ap (drop 2) all;
    }
same_spelled (QuarterFrame a) (FullMessage h m s f) spelled after too rest one two same =
    let all = ap (λ (l : List ℕ). l ++ after) (sym one.1) ∙ same ∙ ap (λ (l : List ℕ). l ++ rest) two.6 in
    let first = ap (λ (l : List ℕ). get_or l 0 0) all in absurd (omega (arith, first))
same_spelled (FullMessage h m s f) (QuarterFrame b) spelled after too rest one two same =
    let all = ap (λ (l : List ℕ). l ++ after) (sym one.6) ∙ same ∙ ap (λ (l : List ℕ). l ++ rest) two.1 in
    let first = ap (λ (l : List ℕ). get_or l 0 0) all in absurd (omega (arith, first))
same_spelled (FullMessage h m s f) (FullMessage h' m' s' f') spelled after too rest one two same =
    let all = ap (λ (l : List ℕ). l ++ after) (sym one.6) ∙ same ∙ ap (λ (l : List ℕ). l ++ rest) two.6 in
    let own = ap (take 10) all in record {
      messages = cc;
      bytes = one.6 ∙ own ∙ sym two.6;
      behind = ap (drop 10) all;
    }

abbrev message_in : List ℕ → List ℕ → Message → SpelledMessage
message_in between spelled message = record { between = between; spelled = spelled; message = message }

same_message : (one other : SpelledMessage) → one.between ≡ other.between → one.spelled ≡ other.spelled
    → one.message ≡ other.message → one ≡ other
same_message one other between spelled message =
    ap (λ x. message_in x one.spelled one.message) between
    ∙ ap (λ x. message_in other.between x one.message) spelled
    ∙ ap (λ x. message_in other.between other.spelled x) message

pub one_list : (list others : List SpelledMessage) (bytes : List ℕ) → AreMessages list bytes → AreMessages others bytes
    → list ≡ others
one_list [] [] bytes are too = refl
one_list [] (other ∷ others) bytes are too =
    absurd (are other.between other.spelled too.0 other.message too.3 too.1)
one_list (one ∷ list) [] bytes are too = absurd (too one.between one.spelled are.0 one.message are.3 are.1)
one_list (one ∷ list) (other ∷ others) bytes are too =
    let all = sym are.1 ∙ too.1 in
    let between = same_between one.between other.between one.message other.message one.spelled are.0 other.spelled too.0
    are.3 too.3 are.2 too.2 all in
    let behind = append_cancel_left other.between (one.spelled ++ are.0) (other.spelled ++ too.0)
    (ap (λ (l : List ℕ). l ++ (one.spelled ++ are.0)) (sym between) ∙ all) in
    let same = same_spelled one.message other.message one.spelled are.0 other.spelled too.0 are.3 too.3 behind in
    let first = same_message one other between same.bytes same.messages in
    let more = one_list list others too.0 (subst (AreMessages list) same.behind are.4) too.4 in
    ap (λ (m : SpelledMessage). m ∷ list) first ∙ ap (λ (l : List SpelledMessage). other ∷ l) more

-- Two words are the same if each of their parts is.
use Rattle.std.proofs.Common.{◌≡◌, ℕ, Bool, true, false, refl, rules}
use Rattle.std.specs.Prelude.{◌&&◌}
use lib.Dec.{eqb}
use mathlib.Core.Bool.{beq}
use denote.Enum.Bare.{sameb, same_true, true_same}
use Rattle.std.proofs.lemmas.Bool.{eqb-true, eq-eqb, and_parts}
use Rattle.tc_address.specs.declared.count.Count.{Count}
use Rattle.tc_address.specs.contracts.count.Count.{the_type}
use Rattle.tc_address.specs.Label.{address}
use Rattle.tc_bits.specs.declared.flags.Flags.{Flags}
use Rattle.tc_bits.specs.Fields.{field_values}
use Rattle.vitc_line.specs.declared.word.VitcWord.{VitcWord}

beq_same : (a b : Bool) → beq a b ≡ true → a ≡ b
beq_same true true e = refl
beq_same true false e = absurd cc
beq_same false true e = absurd cc
beq_same false false e = refl

same_beq : (a : Bool) → beq a a ≡ true
same_beq true = refl
same_beq false = refl

-- the parts of two words, each compared
abbrev pub same_parts : VitcWord → VitcWord → Bool
same_parts a b =
    ((sameb the_type a.fields.label.count b.fields.label.count
    && (eqb a.fields.label.hours b.fields.label.hours
    && (eqb a.fields.label.minutes b.fields.label.minutes
    && (eqb a.fields.label.seconds b.fields.label.seconds && eqb a.fields.label.frames b.fields.label.frames))))
    && ((beq a.fields.flags.drop_frame b.fields.flags.drop_frame
    && (beq a.fields.flags.colour_frame b.fields.flags.colour_frame
    && (beq a.fields.flags.group_flag_zero b.fields.flags.group_flag_zero
    && (beq a.fields.flags.group_flag_one b.fields.flags.group_flag_one
    && beq a.fields.flags.group_flag_two b.fields.flags.group_flag_two))))
    && eqb a.fields.user b.fields.user))
    && beq a.field_mark b.field_mark

abbrev word_by : Count → ℕ → ℕ → ℕ → ℕ → Bool → Bool → Bool → Bool → Bool → ℕ → Bool → VitcWord
word_by count h m s f drop colour zero one two user mark =
    let flags : Flags = record {
      drop_frame = drop;
      colour_frame = colour;
      group_flag_zero = zero;
      group_flag_one = one;
      group_flag_two = two;
    } in
    record { fields = field_values (address count h m s f) flags user; field_mark = mark }

same_by : (count : Count) (h m s f : ℕ) (drop colour zero one two : Bool) (user : ℕ) (mark : Bool)
    (count' : Count) (h' m' s' f' : ℕ) (drop' colour' zero' one' two' : Bool) (user' : ℕ) (mark' : Bool)
    → count ≡ count' → h ≡ h' → m ≡ m' → s ≡ s' → f ≡ f'
    → drop ≡ drop' → colour ≡ colour' → zero ≡ zero' → one ≡ one' → two ≡ two' → user ≡ user' → mark ≡ mark'
    → word_by count h m s f drop colour zero one two user mark
    ≡ word_by count' h' m' s' f' drop' colour' zero' one' two' user' mark'
same_by count h m s f drop colour zero one two user mark count' h' m' s' f' drop' colour' zero' one' two' user' mark'
    a b c d e g i j k l n o = cc

pub parts_same : (a b : VitcWord) → same_parts a b ≡ true → a ≡ b
parts_same a b e =
    let mark = and_parts _ (beq a.field_mark b.field_mark) e in
    let label = and_parts _ _ mark.0 in
    let count = and_parts _ _ label.0 in
    let hours = and_parts _ _ count.1 in
    let minutes = and_parts _ _ hours.1 in
    let seconds = and_parts _ _ minutes.1 in
    let user = and_parts _ _ label.1 in
    let drop = and_parts _ _ user.0 in
    let colour = and_parts _ _ drop.1 in
    let zero = and_parts _ _ colour.1 in
    let one = and_parts _ _ zero.1 in
    same_by a.fields.label.count a.fields.label.hours a.fields.label.minutes a.fields.label.seconds
    a.fields.label.frames
    a.fields.flags.drop_frame a.fields.flags.colour_frame a.fields.flags.group_flag_zero a.fields.flags.group_flag_one
    a.fields.flags.group_flag_two a.fields.user a.field_mark _ _ _ _ _ _ _ _ _ _ _ _
    (same_true the_type (search rules) _ _ count.0) (eqb-true _ _ hours.0) (eqb-true _ _ minutes.0)
    (eqb-true _ _ seconds.0) (eqb-true _ _ seconds.1) (beq_same _ _ drop.0) (beq_same _ _ colour.0)
    (beq_same _ _ zero.0) (beq_same _ _ one.0) (beq_same _ _ one.1) (eqb-true _ _ user.1) (beq_same _ _ mark.1)

same_with_itself : (a : VitcWord) → same_parts a a ≡ true
same_with_itself a =
    rw (
      true_same the_type a.fields.label.count a.fields.label.count refl,
      eq-eqb a.fields.label.hours _ refl,
      eq-eqb a.fields.label.minutes _ refl,
      eq-eqb a.fields.label.seconds _ refl,
      eq-eqb a.fields.label.frames _ refl,
      same_beq a.fields.flags.drop_frame,
      same_beq a.fields.flags.colour_frame,
      same_beq a.fields.flags.group_flag_zero,
      same_beq a.fields.flags.group_flag_one,
      same_beq a.fields.flags.group_flag_two,
      eq-eqb a.fields.user _ refl,
      same_beq a.field_mark,
    ) refl

pub same_have_parts : (a b : VitcWord) → a ≡ b → same_parts a b ≡ true
same_have_parts a b e = rw (← e) (same_with_itself a)

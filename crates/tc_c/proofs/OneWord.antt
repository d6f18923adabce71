-- Numbers mean one word at most: its label, its flags with the balance, and its user bits are each fixed by them.
use Rattle.std.proofs.Common.{◌≡◌, ℕ, zero, suc, ◌/◌, ◌<◌, Bool, true, Option, Some, None, refl, sym, ap, ◌∙◌}
use Rattle.std.specs.Prelude.{◌==◌}
use Rattle.tc_address.specs.declared.count.Count.{Count}
use Rattle.tc_address.specs.declared.system.System.{System}
use Rattle.tc_address.specs.declared.count.Count.TheVariants.{C24, C25, C30, Drop30}
use Rattle.tc_address.specs.Label.{Address, address}
use Rattle.tc_bits.specs.declared.flags.Flags.{Flags}
use Rattle.tc_bits.specs.Fields.{FieldValues, agrees, field_values}
use Rattle.ltc_word.specs.declared.word.LtcWord.{LtcWord}
use Rattle.vitc_line.specs.declared.word.VitcWord.{VitcWord}
use Rattle.tc_c.specs.CEvent.{count_number}
use Rattle.tc_c.specs.CLabel.{MeansLabel}
use Rattle.tc_c.specs.CLine.{MeansLineWord}
use Rattle.tc_c.specs.CWord.{MeansWord, flags_in}
use Rattle.tc_c.specs.declared.label.TcLabel.{TcLabel}
use Rattle.tc_c.specs.declared.word.TcWord.{TcWord}
use Rattle.tc_c.proofs.FlagBits.{balance_read, flags_read, number_read}

abbrev count_at : ℕ → Count
count_at zero = C24
count_at (suc zero) = C25
count_at (suc (suc zero)) = C30
count_at (suc (suc (suc n))) = Drop30

count_back : (c : Count) → count_at (count_number c) ≡ c
count_back C24 = refl
count_back C25 = refl
count_back C30 = refl
count_back Drop30 = refl

same_count : (c d : Count) (n : ℕ) → count_number c ≡ n → count_number d ≡ n → c ≡ d
same_count c d n e f = sym (count_back c) ∙ ap count_at (e ∙ sym f) ∙ count_back d

same_address : (c d : Count) (h m s f i n t g : ℕ) → c ≡ d → h ≡ i → m ≡ n → s ≡ t → f ≡ g
    → address c h m s f ≡ address d i n t g
same_address c d h m s f i n t g ec eh em es ef = cc

pub one_label : (numbers : TcLabel) (a b : Address) → MeansLabel numbers a → MeansLabel numbers b → a ≡ b
one_label numbers a b p q =
    same_address a.count b.count a.hours a.minutes a.seconds a.frames b.hours b.minutes b.seconds b.frames
    (same_count a.count b.count numbers.count p.count q.count) (p.hours ∙ sym q.hours) (p.minutes ∙ sym q.minutes)
    (p.seconds ∙ sym q.seconds) (p.frames ∙ sym q.frames)

-- the word of these fields and this balance
abbrev word_with : FieldValues → Bool → LtcWord
word_with fields balanced = record { fields = fields; balanced = balanced }

same_word : (a b : Address) (f g : Flags) (u v : ℕ) (x y : Bool) → a ≡ b → f ≡ g → u ≡ v → x ≡ y
    → word_with (field_values a f u) x ≡ word_with (field_values b g v) y
same_word a b f g u v x y ea ef eu ex = cc

pub one_word : (numbers : TcWord) (a b : LtcWord) → MeansWord numbers a → MeansWord numbers b → a ≡ b
one_word numbers a b p q =
    let fa = flags_read a.fields.flags a.balanced numbers.flags p.flags in
    let fb = flags_read b.fields.flags b.balanced numbers.flags q.flags in
    let ba = balance_read a.fields.flags a.balanced numbers.flags p.flags in
    let bb = balance_read b.fields.flags b.balanced numbers.flags q.flags in
    same_word a.fields.label b.fields.label a.fields.flags b.fields.flags a.fields.user b.fields.user a.balanced
    b.balanced
    (one_label numbers.label a.fields.label b.fields.label p.label q.label) (sym fa ∙ fb) (p.user ∙ sym q.user)
    (sym ba ∙ bb)

-- the fields that numbers below 64 and a label say
pub means_read : (numbers : TcWord) (a : Address) (fields : FieldValues) → MeansLabel numbers.label a
    → numbers.flags < 64
    → fields ≡ field_values a (flags_in numbers.flags) numbers.user
    → agrees a.count (flags_in numbers.flags).drop_frame ≡ true
    → MeansWord numbers (word_with fields (numbers.flags / 32 == 1))
means_read numbers a fields means lt e told = rw e (record {
  fields = record { label = means.label; flag = told };
  label = means;
  flags = number_read numbers.flags lt;
  user = refl;
})

abbrev system_in : System → Option System → System
system_in other None = other
system_in other (Some system) = system

pub same_system : (a b : System) → Some a ≡ Some b → a ≡ b
same_system a b e = ap (system_in a) e

-- a word of a line as one of 80 bits, whose balance is the field mark
abbrev pub as_ltc : VitcWord → LtcWord
as_ltc word = word_with word.fields word.field_mark

-- and back
abbrev pub as_vitc : LtcWord → VitcWord
as_vitc word = record { fields = word.fields; field_mark = word.balanced }

-- the numbers mean both alike
pub means_as_ltc : (numbers : TcWord) (word : VitcWord) → MeansLineWord numbers word → MeansWord numbers (as_ltc word)
means_as_ltc numbers word means =
    record { fields = means.fields; label = means.label; flags = means.flags; user = means.user }

pub one_line_word : (numbers : TcWord) (a b : VitcWord) → MeansLineWord numbers a → MeansLineWord numbers b → a ≡ b
one_line_word numbers a b p q =
    ap as_vitc (one_word numbers (as_ltc a) (as_ltc b) (means_as_ltc numbers a p) (means_as_ltc numbers b q))

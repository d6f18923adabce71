-- Each field is in its place and in no other, so the bits fix the word, and the word fixes the bits.
use Rattle.std.proofs.Common.{◌≡◌, ℕ, ◌+◌, ◌*◌, ◌/◌, ◌%◌, ◌^◌, ◌<◌, Bool, refl, sym, ap, ap₂, ◌∙◌, lit<}
use Rattle.std.proofs.Common.{arith, None, not}
use Rattle.std.specs.Int.{bit_at}
use Rattle.std.proofs.lemmas.Nat.{mod_below}
use Rattle.std.proofs.lemmas.Bool.{eqb-true, eq-eqb, not-false}
use Rattle.lemmas.specs.Searches.{find_none, none_found}
use Rattle.tc_address.specs.declared.system.System.{System}
use Rattle.tc_bits.specs.declared.raw.RawFields.{RawFields}
use Rattle.tc_bits.specs.Register.{number_in, is_set}
use Rattle.tc_bits.specs.Row.{OnlySumHolds}
use Rattle.tc_bits.specs.Reading.{raw_in}
use Rattle.tc_bits.specs.Spelling.{AreExact}
use Rattle.tc_bits.specs.Table.{place}
use Rattle.tc_bits.specs.Fault.{first_field_fault}
use Rattle.tc_bits.specs.Fields.{FieldValues, Says}
use Rattle.vitc_line.specs.declared.places.TheConstants as places
use Rattle.vitc_line.specs.declared.word.VitcWord.{VitcWord}
use Rattle.vitc_line.specs.CheckBits.{bits_of_residue, residue, is_wrong_residue, wrong_residue}
use Rattle.vitc_line.specs.Fault.{is_wrong_pair, wrong_sync_pair, first_fault}
use Rattle.vitc_line.specs.Places.{field_mark_bit, sync_pair_place, table_of}
use Rattle.vitc_line.specs.Spelling.{Spells}
use Rattle.vitc_line.proofs.CheckBehind.{one_check}
use Rattle.vitc_line.proofs.FoldedCheck.{each_residue, sum_at, residue_is_parity}
use Rattle.vitc_line.proofs.RowOfALine.{is_sum}

-- no sync pair is wrong exactly if each is the bits 1 and 0
pub pairs_from_none : (bits : ℕ) → wrong_sync_pair bits ≡ None → (pair : ℕ) → pair < 9
    → number_in (sync_pair_place pair) bits ≡ 1
unfolding wrong_sync_pair
pairs_from_none bits e pair lt =
    let k : 0 + pair ≡ pair = omega arith in
    eqb-true (number_in (sync_pair_place pair) bits) 1 (not-false _
    (rw k at (find_none (is_wrong_pair bits) 0 9 e pair lt)))

pub none_from_pairs : (bits : ℕ) → ((pair : ℕ) → pair < 9 → number_in (sync_pair_place pair) bits ≡ 1)
    → wrong_sync_pair bits ≡ None
unfolding wrong_sync_pair
none_from_pairs bits right =
    none_found (is_wrong_pair bits) 0 9 (λ pair lt. let k : 0 + pair ≡ pair = omega arith in rw k
    (ap not (eq-eqb _ _ (right pair lt))))

-- and no residue exactly if each is 0
pub check_from_none : (bits : ℕ) → wrong_residue bits ≡ None → (r : ℕ) → r < 8 → residue r bits ≡ 0
unfolding wrong_residue
check_from_none bits e r lt =
    let k : 0 + r ≡ r = omega arith in
    eqb-true (residue r bits) 0 (not-false _ (rw k at (find_none (is_wrong_residue bits) 0 8 e r lt)))

pub none_from_check : (bits : ℕ) → ((r : ℕ) → r < 8 → residue r bits ≡ 0) → wrong_residue bits ≡ None
unfolding wrong_residue
none_from_check bits right =
    none_found (is_wrong_residue bits) 0 8 (λ r lt. let k : 0 + r ≡ r = omega arith in rw k
    (ap not (eq-eqb _ _ (right r lt))))

abbrev HasEvenOnes : ℕ → ℕ → Type 0
HasEvenOnes r bits = sum_at (bit_at bits) (bits_of_residue r) % 2 ≡ 0

-- a check, computed: each residue has an even number of ones
pub check_by_sums : (bits : ℕ) → HasEvenOnes 0 bits → HasEvenOnes 1 bits → HasEvenOnes 2 bits → HasEvenOnes 3 bits
    → HasEvenOnes 4 bits → HasEvenOnes 5 bits → HasEvenOnes 6 bits
    → HasEvenOnes 7 bits → wrong_residue bits ≡ None
check_by_sums bits a b c d e f g h =
    none_from_check bits (λ r lt. residue_is_parity r bits ∙ each_residue (λ r. HasEvenOnes r bits) a b c d e f g h r
    lt)

abbrev pub word_of : FieldValues → Bool → VitcWord
word_of fields mark = record { fields = fields; field_mark = mark }

-- the fields that the bits say are spelled by them
pub spelled : AreExact → (system : System) (word : VitcWord) (bits : ℕ) → bits < 2 ^ 90 → wrong_sync_pair bits ≡ None
    → wrong_residue bits ≡ None
    → Says system (raw_in (table_of system) bits) word.fields
    → is_set (place (field_mark_bit system) 1) bits ≡ word.field_mark → Spells system word bits
spelled exact system word bits width pairs check says mark =
    let f = exact.said system (table_of system) word.fields bits says in
    record {
      width = width;
      valid = says.valid;
      count = says.count;
      address = f.address;
      flags = f.flags;
      user = f.user;
      mark = mark;
      sync_pairs = pairs_from_none bits pairs;
      check = check_from_none bits check;
    }

-- a word that the bits spell is what they say
pub says : AreExact → (system : System) (word : VitcWord) (bits : ℕ) → Spells system word bits
    → Says system (raw_in (table_of system) bits) word.fields
says exact system word bits s =
    exact.says system (table_of system) word.fields bits s.valid s.count
    (record { address = s.address; flags = s.flags; user = s.user })

-- one word has these fields and this mark
pub same_word : (fields : FieldValues) (mark : Bool) (word : VitcWord) → fields ≡ word.fields → mark ≡ word.field_mark
    → word_of fields mark ≡ word
same_word fields mark word e b = ap₂ word_of e b

-- the bits spell one word
pub one_word : AreExact → ((system : System) (raw : RawFields) (a b : FieldValues) → Says system raw a
    → Says system raw b → a ≡ b)
    → (system : System) (a b : VitcWord) (bits : ℕ) → Spells system a bits → Spells system b bits → a ≡ b
one_word exact one system a b bits p q =
    same_word a.fields a.field_mark b
    (one system (raw_in (table_of system) bits) a.fields b.fields (says exact system a bits p)
    (says exact system b bits q))
    (sym p.mark ∙ q.mark)

-- a word that is spelled has no fault
pub no_fault : AreExact → ((system : System) (raw : RawFields) (c : FieldValues) → Says system raw c
    → first_field_fault system raw ≡ None)
    → (system : System) (word : VitcWord) (bits : ℕ) → Spells system word bits → first_fault system bits ≡ None
no_fault exact none system word bits s =
    rw (
      none_from_pairs bits s.sync_pairs,
      none_from_check bits s.check,
      none system (raw_in (table_of system) bits) word.fields (says exact system word bits s),
    ) refl

no_check : (rest a : ℕ) → a < 2 ^ 90 → a ≡ a / 2 ^ 82 % 2 ^ 8 * 2 ^ 82 + rest → rest < 2 ^ 82
no_check rest a width e = omega (arith, width, e)

checked_alike : (a b rest ca cb : ℕ) → rest < 2 ^ 82 → ca < 2 ^ 8 → cb < 2 ^ 8 → a ≡ ca * 2 ^ 82 + rest
    → b ≡ cb * 2 ^ 82 + rest
    → ((r : ℕ) → r < 8 → residue r a ≡ 0) → ((r : ℕ) → r < 8 → residue r b ≡ 0) → a ≡ b
checked_alike a b rest ca cb below wa wb ea eb ha hb =
    let ea' : a ≡ rest + ca * 2 ^ 82 = omega (arith, ea) in
    let eb' : b ≡ rest + cb * 2 ^ 82 = omega (arith, eb) in
    let same : ca ≡ cb = one_check rest ca cb below wa wb (λ r lt. rw (← ea') (ha r lt))
    (λ r lt. rw (← eb') (hb r lt)) in
    ea ∙ ap (λ (check : ℕ). check * 2 ^ 82 + rest) same ∙ sym eb

alike : (a b rest : ℕ) → a < 2 ^ 90 → a ≡ number_in places.CHECK a * 2 ^ 82 + rest
    → b ≡ number_in places.CHECK b * 2 ^ 82 + rest
    → ((r : ℕ) → r < 8 → residue r a ≡ 0) → ((r : ℕ) → r < 8 → residue r b ≡ 0) → a ≡ b
alike a b rest width ea eb ha hb =
    checked_alike a b rest (number_in places.CHECK a) (number_in places.CHECK b) (no_check rest a width ea)
    (mod_below (a / 2 ^ 82) (2 ^ 8) (lit< tt)) (mod_below (b / 2 ^ 82) (2 ^ 8) (lit< tt)) ea eb ha hb

-- a word has one spelling
pub one_spelling : OnlySumHolds → AreExact → (system : System) (word : VitcWord) (a b : ℕ) → Spells system word a
    → Spells system word b → a ≡ b
one_spelling law exact system word a b p q =
    alike a b _ p.width (is_sum law exact system word a p) (is_sum law exact system word b q) p.check q.check

-- Two digits say each number below a hundred once, so eleven good bytes are the text of one address.
use Rattle.std.proofs.Common.{◌≡◌, ℕ, zero, suc, ◌+◌, ◌-◌, ◌*◌, ◌/◌, ◌%◌, ◌<◌, ◌≤◌, ◌==◌, Bool, true, false, List}
use Rattle.std.proofs.Common.{map, length, slice_index, cond, ◌&&◌, Some, None, refl, sym, ◌∙◌, ap, arith}
use Rattle.std.specs.List.{range_with_len}
use Rattle.std.proofs.lemmas.List.FromFn.{fill_by_all}
use Rattle.std.specs.Str.{bytes_eq}
use Rattle.std.proofs.lemmas.Slice.Eq.{bytes_eq-Decides}
use Rattle.std.proofs.lemmas.Bool.Decides.{nat_tests}
use Rattle.std.proofs.lemmas.Option.{same_Some}
use Rattle.tc_address.specs.LabelLemmas.{label_is}
use Rattle.tc_address.specs.declared.count.Count.{Count}
use Rattle.tc_address.specs.declared.count.Count.TheVariants.{C24, C25, C30, Drop30}
use Rattle.tc_address.specs.Count.{rate_of, system_with}
use Rattle.tc_address.specs.Label.{Address, IsLabel, is_label}
use Rattle.tc_address.specs.Spelling.{text_of, label_in, separator, is_digit, may_stand, address_in, IsGoodBelow}
use Rattle.tc_address.specs.Spelling.{IsFirstWrongPlace}

is_digit-digit : (n : ℕ) → n < 10 → is_digit (48 + n) ≡ true
is_digit-digit n h = grind (arith, nat_tests)

digit_says : (b : ℕ) → is_digit b ≡ true → (48 ≤ b) × (b ≤ 57)
digit_says b e = grind (arith, nat_tests)

same_byte : (a b : ℕ) → (a == b) ≡ true → a ≡ b
same_byte a b e = grind (arith, nat_tests)

byte_itself : (b : ℕ) → (b == b) ≡ true
byte_itself b = grind (arith, nat_tests)

digits_back : (a b : ℕ) → is_digit a ≡ true → is_digit b ≡ true →
    (48 + (10 * (a - 48) + (b - 48)) / 10 ≡ a) × (48 + (10 * (a - 48) + (b - 48)) % 10 ≡ b)
digits_back a b p q =
    let s : (48 ≤ a) × (a ≤ 57) = digit_says a p in
    let t : (48 ≤ b) × (b ≤ 57) = digit_says b q in
    (omega (arith, s.0, s.1, t.0, t.1), omega (arith, s.0, s.1, t.0, t.1))

-- good bytes are the text of the address that they say
pub text_of-address_in : (c : Count) (text : List ℕ) → length text ≡ 11 → IsGoodBelow c text 11
    → text_of (address_in c text) ≡ text
text_of-address_in c text len good =
    let hours = digits_back (slice_index text 0) (slice_index text 1) (good 0 (omega arith)) (good 1 (omega arith)) in
    let first : slice_index text 2 ≡ 58 = same_byte (slice_index text 2) 58 (good 2 (omega arith)) in
    let minutes = digits_back (slice_index text 3) (slice_index text 4) (good 3 (omega arith)) (good 4 (omega arith)) in
    let second : slice_index text 5 ≡ 58 = same_byte (slice_index text 5) 58 (good 5 (omega arith)) in
    let seconds = digits_back (slice_index text 6) (slice_index text 7) (good 6 (omega arith)) (good 7 (omega arith)) in
    let third : slice_index text 8 ≡ separator c = same_byte (slice_index text 8) (separator c) (good 8 (omega arith))
    in
    let frames = digits_back (slice_index text 9) (slice_index text 10) (good 9 (omega arith)) (good 10 (omega arith))
    in
    let whole : text_of (address_in c text) ≡ map (slice_index text) (range_with_len 0 11) = cc in
    whole ∙ sym (fill_by_all (slice_index text) text 11 0 len (λ k h. refl))

-- a label's frames have two digits
frames_below : (c : Count) (f : ℕ) → f < rate_of (system_with c) → f < 100
frames_below C24 f h = omega arith
frames_below C25 f h = omega arith
frames_below C30 f h = omega arith
frames_below Drop30 f h = omega arith

-- the text of a label has good bytes
pub good_text : (a : Address) → IsLabel a → IsGoodBelow a.count (text_of a) 11
good_text a l zero h = is_digit-digit (a.hours / 10) (omega arith)
good_text a l (suc zero) h = is_digit-digit (a.hours % 10) (omega arith)
good_text a l (suc (suc zero)) h = refl
good_text a l (suc (suc (suc zero))) h = is_digit-digit (a.minutes / 10) (omega arith)
good_text a l (suc (suc (suc (suc zero)))) h = is_digit-digit (a.minutes % 10) (omega arith)
good_text a l (suc (suc (suc (suc (suc zero))))) h = refl
good_text a l (suc (suc (suc (suc (suc (suc zero)))))) h = is_digit-digit (a.seconds / 10) (omega arith)
good_text a l (suc (suc (suc (suc (suc (suc (suc zero))))))) h = is_digit-digit (a.seconds % 10) (omega arith)
good_text a l (suc (suc (suc (suc (suc (suc (suc (suc zero)))))))) h = byte_itself (separator a.count)
good_text a l (suc (suc (suc (suc (suc (suc (suc (suc (suc zero))))))))) h =
    is_digit-digit (a.frames / 10) (omega (arith, frames_below a.count a.frames l.frames))
good_text a l (suc (suc (suc (suc (suc (suc (suc (suc (suc (suc zero)))))))))) h =
    is_digit-digit (a.frames % 10) (omega arith)
good_text a l (suc (suc (suc (suc (suc (suc (suc (suc (suc (suc (suc k))))))))))) h = absurd (omega arith)

number_back : (n : ℕ) → 10 * (48 + n / 10 - 48) + (48 + n % 10 - 48) ≡ n
number_back n = omega arith

-- the text of a label says that label
pub address_in-text_of : (a : Address) → address_in a.count (text_of a) ≡ a
address_in-text_of a = rw (number_back a.hours, number_back a.minutes, number_back a.seconds, number_back a.frames) refl

pub no_wrong_place : (c : Count) (text : List ℕ) (place : ℕ) (a : Address) → IsLabel a → a.count ≡ c →
    text ≡ text_of a → IsFirstWrongPlace c text place → ⊥
no_wrong_place c text place a l e t w =
    let short : length text ≡ 11 = ap length t in
    let good : may_stand a.count place (slice_index (text_of a) place) ≡ true =
    good_text a l place (omega (arith, short, w.within)) in
    let same : may_stand c place (slice_index text place) ≡ may_stand a.count place (slice_index (text_of a) place) =
    ap (λ d. may_stand d place (slice_index text place)) (sym e)
    ∙ ap (λ xs. may_stand a.count place (slice_index xs place)) t in
    let wrong = w.wrong in
    cc

label_from_test : (a : Address) → is_label a ≡ true → IsLabel a
label_from_test a e =
    record {
      hours = grind (arith, nat_tests);
      minutes = grind (arith, nat_tests);
      seconds = grind (arith, nat_tests);
      frames = grind (arith, nat_tests);
      counted = grind (arith, nat_tests);
    }

-- the text of a label spells that label
pub label_in-text_of : (c : Count) (text : List ℕ) (a : Address) → IsLabel a → a.count ≡ c → text ≡ text_of a
    → label_in c text ≡ Some a
label_in-text_of c text a l e t =
    let back : address_in c text ≡ a = ap (λ d. address_in d text) (sym e) ∙ ap (address_in a.count) t
    ∙ address_in-text_of a in
    let label : is_label (address_in c text) ≡ true = ap is_label back ∙ label_is a l in
    let same : text ≡ text_of (address_in c text) = t ∙ ap text_of (sym back) in
    let test : bytes_eq text (text_of (address_in c text)) ≡ true =
    (bytes_eq-Decides text (text_of (address_in c text))).1 same in
    rw (label, test) (ap (λ b. Some b) back)

label_in_by : (c : Count) (text : List ℕ) → ((a : Address) → IsLabel a → a.count ≡ c → text ≡ text_of a → ⊥) →
    (p q : Bool) → is_label (address_in c text) ≡ p → bytes_eq text (text_of (address_in c text)) ≡ q →
    cond (p && q) (Some (address_in c text)) None ≡ None
label_in_by c text no_label false q e f = refl
label_in_by c text no_label true false e f = refl
label_in_by c text no_label true true e f =
    absurd (no_label (address_in c text) (label_from_test (address_in c text) e) refl
    ((bytes_eq-Decides text (text_of (address_in c text))).0 f))

-- a text that no label has spells none
pub label_in-none : (c : Count) (text : List ℕ) → ((a : Address) → IsLabel a → a.count ≡ c → text ≡ text_of a → ⊥) →
    label_in c text ≡ None
label_in-none c text no_label = label_in_by c text no_label (is_label (address_in c text))
    (bytes_eq text (text_of (address_in c text))) refl refl

only_by : (c : Count) (text : List ℕ) (a : Address) (p q : Bool) → bytes_eq text (text_of (address_in c text)) ≡ q
    → cond (p && q) (Some (address_in c text)) None ≡ Some a → (text ≡ text_of a) × (a.count ≡ c)
only_by c text a false q e is = absurd cc
only_by c text a true false e is = absurd cc
only_by c text a true true e is =
    let same : address_in c text ≡ a = same_Some (address_in c text) a is in (
      (bytes_eq-Decides text (text_of (address_in c text))).0 e ∙ ap text_of same,
      sym (ap (λ (x : Address). x.count) same),
    )

-- and a text that spells a label is its text
pub label_in-only : (c : Count) (text : List ℕ) (a : Address) → label_in c text ≡ Some a
    → (text ≡ text_of a) × (a.count ≡ c)
label_in-only c text a is =
    only_by c text a (is_label (address_in c text)) (bytes_eq text (text_of (address_in c text))) refl is

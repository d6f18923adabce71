-- With the next four steps the sums and numbers of the steps so far are those of four steps more.
use Rattle.std.proofs.Common.{◌≡◌, ◌≢◌, ◌⊎◌, inl, inr, ℕ, zero, suc, ◌+◌, ◌-◌, ◌%◌, ◌^◌, ◌<◌, ◌≤◌, ◌==◌, Bool, true}
use Rattle.std.proofs.Common.{false, cond, ℤ}
use Rattle.std.proofs.Common.{pos, neg_ℤ, ◌+ℤ◌, ◌-ℤ◌, List, [], ◌∷◌, length, get_or, drop, refl, ap, subst, sym, ◌∙◌}
use Rattle.std.proofs.Common.{arith, replicate, FitsSigned}
use Rattle.std.specs.Int.{w32, cast_unsigned, int_wrap}
use Rattle.std.specs.Prelude.{set}
use Rattle.std.proofs.lemmas.List.{get_or-replicate, get_or-set_same, get_or-set_other, length-replicate, length-set}
use Rattle.std.proofs.lemmas.Int.{ints, fits_signed_from_abs}
use Rattle.std.proofs.lemmas.Bool.Decides.{nat_tests}
use Rattle.cell_path.specs.declared.cell.Cell.{Cell}
use Rattle.cell_path.specs.declared.cell.Sign.{Sign}
use Rattle.cell_path.specs.declared.cell.Sign.TheVariants.{Plus, Minus}
use Rattle.cell_path.specs.declared.cell.Step.{Step}
use Rattle.cell_path.specs.declared.cell.Way.{Way}
use Rattle.cell_path.specs.declared.cell.Way.TheVariants.{Same, Shorter, Longer, Jump}
use Rattle.cell_path.specs.declared.ends.Ends.{Ends}
use Rattle.cell_path.specs.declared.lengths.TheConstants.{EARLY, LENGTHS}
use Rattle.cell_path.specs.Best.{rank_of_way}
use Rattle.cell_path.specs.Four.{at_step, low}
use Rattle.cell_path.specs.Kept.{number_ago, number_next, place_ago, ring_of, sum_ago, AreRows, IsNext, IsRing}
use Rattle.cell_path.specs.Kept.{RowsState, SumsState}
use Rattle.cell_path.specs.Number.{score_before, IsBeginning, WinsBy}
use Rattle.cell_path.specs.Path.{total, Follows, IsPath}
use Rattle.cell_path.specs.Scores.{AreSteps, IsStep}
use Rattle.cell_path.specs.StandsFor.{HasBeginning, RowsStandFor, SumsStandFor}
use Rattle.cell_path.specs.Started.{AreStarted}
use Rattle.cell_path.proofs.EndOfSteps.{older_by}
use Rattle.cell_path.proofs.Lowest.{low-plus, low_fits_signed}
use Rattle.cell_path.proofs.SoundOfBits.{total-cons, total-nil}

-- the sum up to one step more
pub one_more_sum : (sum : ℕ) (step : Step) (steps : List Step) → IsStep step → sum ≡ low (total steps)
    → (sum + cast_unsigned w32 step.sound) % 2 ^ 32 ≡ low (total (step ∷ steps))
one_more_sum sum step steps is sum_is =
    let a = is.sound.above in let b = is.sound.below in
    let f : FitsSigned w32 step.sound = grind (arith, ints, fits_signed_from_abs) in
    let e = total-cons step steps in
    let turned : total steps +ℤ step.sound ≡ total (step ∷ steps) = omega (arith, ints, e) in
    ap (λ s. (s + cast_unsigned w32 step.sound) % 2 ^ 32) sum_is
    ∙ ap (λ n. (low (total steps) + n) % 2 ^ 32) (low_fits_signed step.sound f)
    ∙ low-plus (total steps) step.sound ∙ ap low turned

-- what has come four steps ago or earlier
pub place_before : (next ago : ℕ) → IsNext next → 4 ≤ ago → ago ≤ 103
    → place_ago ((next + 4) % 128) ago ≡ place_ago next (ago - 4)
place_before next ago is far near = let a = is.fours in let b = is.within in omega (arith, a, b)

-- what has come since
pub place_since : (next step : ℕ) → IsNext next → step < 4 → place_ago ((next + 4) % 128) (3 - step) ≡ next + step
place_since next step is within = let a = is.fours in let b = is.within in omega (arith, a, b)

-- the places of the latest four are not among those before
pub place_apart : (next ago : ℕ) → IsNext next → ago ≤ 99
    → (place_ago next ago < next) ⊎ (next + 4 ≤ place_ago next ago)
place_apart next ago is near = let a = is.fours in let b = is.within in grind arith

-- the sums up to four steps more
sums_by : (old new : SumsState) (a b c d : Step) (steps : List Step) (numbers : List ℕ) → IsNext old.next
    → new.next ≡ (old.next + 4) % 128
    → at_step numbers 0 ≡ low (total (a ∷ steps)) → at_step numbers 1 ≡ low (total (b ∷ a ∷ steps))
    → at_step numbers 2 ≡ low (total (c ∷ b ∷ a ∷ steps)) → at_step numbers 3 ≡ low (total (d ∷ c ∷ b ∷ a ∷ steps))
    → ((step : ℕ) → step < 4 → get_or new.ring (old.next + step) 0 ≡ at_step numbers step)
    → ((place : ℕ) → place < 128 → (place < old.next) ⊎ (old.next + 4 ≤ place)
    → get_or new.ring place 0 ≡ get_or old.ring place 0)
    → SumsStandFor old steps → (ago : ℕ) → ago ≤ 99
    → get_or new.ring (place_ago ((old.next + 4) % 128) ago) 0 ≡ low (total (drop ago (d ∷ c ∷ b ∷ a ∷ steps)))
sums_by old new a b c d steps numbers next new_next p q r s here others stand zero near =
    ap (λ n. get_or new.ring n 0) (place_since old.next 3 next (omega arith)) ∙ here 3 (omega arith) ∙ s
sums_by old new a b c d steps numbers next new_next p q r s here others stand (suc zero) near =
    ap (λ n. get_or new.ring n 0) (place_since old.next 2 next (omega arith)) ∙ here 2 (omega arith) ∙ r
sums_by old new a b c d steps numbers next new_next p q r s here others stand (suc (suc zero)) near =
    ap (λ n. get_or new.ring n 0) (place_since old.next 1 next (omega arith)) ∙ here 1 (omega arith) ∙ q
sums_by old new a b c d steps numbers next new_next p q r s here others stand (suc (suc (suc zero))) near =
    ap (λ n. get_or new.ring n 0) (place_since old.next 0 next (omega arith)) ∙ here 0 (omega arith) ∙ p
sums_by old new a b c d steps numbers next new_next p q r s here others stand (suc (suc (suc (suc ago)))) near =
    let e : place_ago ((old.next + 4) % 128) (suc (suc (suc (suc ago)))) ≡ place_ago old.next ago =
    place_before old.next (suc (suc (suc (suc ago)))) next (omega arith) (omega arith)
    ∙ ap (place_ago old.next) (let f : suc (suc (suc (suc ago))) - 4 ≡ ago = omega arith in f) in
    ap (λ n. get_or new.ring n 0) e
    ∙ others (place_ago old.next ago) (omega arith) (place_apart old.next ago next (omega arith))
    ∙ stand ago (omega arith)

pub sums_fed : (old new : SumsState) (a b c d : Step) (steps : List Step) (numbers : List ℕ) → IsNext old.next
    → new.next ≡ (old.next + 4) % 128
    → at_step numbers 0 ≡ (sum_ago old 0 + cast_unsigned w32 a.sound) % 2 ^ 32
    → at_step numbers 1 ≡ (at_step numbers 0 + cast_unsigned w32 b.sound) % 2 ^ 32
    → at_step numbers 2 ≡ (at_step numbers 1 + cast_unsigned w32 c.sound) % 2 ^ 32
    → at_step numbers 3 ≡ (at_step numbers 2 + cast_unsigned w32 d.sound) % 2 ^ 32
    → ((step : ℕ) → step < 4 → get_or new.ring (old.next + step) 0 ≡ at_step numbers step)
    → ((place : ℕ) → place < 128 → (place < old.next) ⊎ (old.next + 4 ≤ place)
    → get_or new.ring place 0 ≡ get_or old.ring place 0)
    → AreSteps (d ∷ c ∷ b ∷ a ∷ []) → SumsStandFor old steps → SumsStandFor new (d ∷ c ∷ b ∷ a ∷ steps)
sums_fed old new a b c d steps numbers next new_next p q r s here others are stand ago near =
    let one = p ∙ one_more_sum (sum_ago old 0) a steps are.1.1.1.0 (stand 0 (omega arith)) in
    let two = q ∙ one_more_sum (at_step numbers 0) b (a ∷ steps) are.1.1.0 one in
    let three = r ∙ one_more_sum (at_step numbers 1) c (b ∷ a ∷ steps) are.1.0 two in
    let four = s ∙ one_more_sum (at_step numbers 2) d (c ∷ b ∷ a ∷ steps) are.0 three in
    ap (λ n. get_or new.ring (place_ago n ago) 0) new_next
    ∙ sums_by old new a b c d steps numbers next new_next one two three four here others stand ago near

-- the numbers of the latest four steps, and those of the steps before
pub rows_fed : (old put new : RowsState) (marks : List (List ℕ)) (ends : Ends) (steps before : List Step)
    → before ≡ drop 4 steps → 4 ≤ length steps → RowsStandFor old before
    → ((ago other : ℕ) (sign : Sign) → ago ≤ 96 → other < 45
    → number_ago put ago other sign ≡ number_ago old ago other sign)
    → ((step : ℕ) → step < 4 → AreStarted 45 steps put marks ends step)
    → ((step place : ℕ) (sign : Sign) → step < 4
    → number_ago new (3 - step) place sign ≡ number_next put step place sign)
    → ((ago place : ℕ) (sign : Sign) → ago ≤ 96 → number_ago new (ago + 4) place sign ≡ number_ago put ago place sign)
    → RowsStandFor new steps
rows_fed old put new marks ends steps before is long stand kept started latest others ago place sign near within =
    let cases : (ago < 4) ⊎ (4 ≤ ago) = grind arith in
    let P : ℕ → Type 0 = λ k. HasBeginning LENGTHS steps k place sign (number_ago new k place sign) in
    elim cases [
      | inl soon ↦
          let step = 3 - ago in
          let back : 3 - step ≡ ago = omega (arith, soon) in
          let s = started step (omega arith) place sign within in
          let none : 0 + (3 - step) ≡ 3 - step = omega arith in
          let here : IsBeginning LENGTHS steps (3 - step) place sign s.number s.way =
          subst (λ n. IsBeginning LENGTHS steps n place sign s.number s.way) none
          (older_by LENGTHS (3 - step) steps 0 place sign s.number s.way (omega (arith, long)) s.is) in
          subst P back (record {
            number = s.number;
            way = s.way;
            is = here;
            kept_is = latest step place sign (omega arith) ∙ s.kept;
          })
      | inr late ↦
          let was = stand (ago - 4) place sign (omega (arith, near)) within in
          let on : (ago - 4) + 4 ≡ ago = omega (arith, late) in
          let there : IsBeginning LENGTHS (drop 4 steps) (ago - 4) place sign was.number was.way =
          subst (λ l. IsBeginning LENGTHS l (ago - 4) place sign was.number was.way) is was.is in
          subst P on (record {
            number = was.number;
            way = was.way;
            is = older_by LENGTHS 4 steps (ago - 4) place sign was.number was.way long there;
            kept_is = others (ago - 4) place sign (omega (arith, near))
                ∙ kept (ago - 4) place sign (omega (arith, near)) within ∙ was.kept_is;
          })
    ]

-- ---- before the first step

early_is : low (neg_ℤ EARLY) ≡ 4_026_531_840
unfolding int_wrap
early_is = refl

none_is : low (pos 0) ≡ 0
unfolding int_wrap
none_is = refl

nothing : (n : ℕ) → drop {A = Step} n [] ≡ []
nothing zero = refl
nothing (suc n) = refl

pub no_sums_stand : (sums : SumsState) → ((ago : ℕ) → ago ≤ 99 → sum_ago sums ago ≡ 0) → SumsStandFor sums []
no_sums_stand sums zeros ago near = zeros ago near ∙ sym none_is ∙ ap low (sym total-nil)
    ∙ ap (λ l. low (total l)) (sym (nothing ago))

pub only_jump : (way : Way) (place : ℕ) (sign : Sign) → Follows way place sign [] → way ≡ Jump
only_jump Same place sign is = is
only_jump Shorter place sign is = is
only_jump Longer place sign is = is
only_jump Jump place sign is = is

empty_wins : (ago place : ℕ) (sign : Sign) (number : ℤ) (other : Way) (others : List Cell)
    → number ≡ score_before LENGTHS [] ago place Jump []
    → Follows other place sign others → IsPath LENGTHS (drop ago []) others
    → WinsBy number 3 [] (score_before LENGTHS [] ago place other others) (rank_of_way other) others
empty_wins ago place sign number other [] is follows path =
    let jump = only_jump other place sign follows in
    subst (λ w. WinsBy number 3 [] (score_before LENGTHS [] ago place w []) (rank_of_way w) []) (sym jump)
    (inr (sym is, inr (refl, tt)))
empty_wins ago place sign number other (cell ∷ others) is follows path =
    let some = path.0 in let none = ap length (nothing ago) in absurd (omega (arith, some, none))

-- a cell that began before the sound, or with it, comes behind nothing, in a jump
pub empty_beginning : (ago place : ℕ) (sign : Sign) (kept : ℕ) → kept ≡ low (score_before LENGTHS [] ago place Jump [])
    → HasBeginning LENGTHS [] ago place sign kept
empty_beginning ago place sign kept is = record {
  number = score_before LENGTHS [] ago place Jump [];
  way = Jump;
  is = record {
    before = [];
    begins = record { follows = refl; is_path = ap length (nothing ago) };
    number_is = refl;
    wins = λ other others begins. empty_wins ago place sign
        (score_before LENGTHS [] ago place Jump []) other others refl
        begins.follows begins.is_path;
  };
  kept_is = is;
}

pub no_rows_stand : (rows : RowsState) → ((place : ℕ) (sign : Sign) → place < 45
    → number_ago rows 0 place sign ≡ low (pos 0))
    → ((ago place : ℕ) (sign : Sign) → 0 < ago → ago ≤ 96 → place < 45
    → number_ago rows ago place sign ≡ low (neg_ℤ EARLY))
    → RowsStandFor rows []
no_rows_stand rows here early zero place sign near within = empty_beginning 0 place sign (number_ago rows 0 place sign)
    (here place sign within)
no_rows_stand rows here early (suc ago) place sign near within =
    let apart : (0 == suc ago) ≡ false = grind (arith, nat_tests) in
    empty_beginning (suc ago) place sign (number_ago rows (suc ago) place sign)
    (early (suc ago) place sign (omega arith) near within ∙ ap (λ (b : Bool). low (pos 0 -ℤ cond b (pos 0) EARLY))
    (sym apart))

-- ---- the rings before the first step

pub zeros_ago : (ago : ℕ) → sum_ago (record { ring = replicate 132 0; next = 0 }) ago ≡ 0
zeros_ago ago = get_or-replicate 132 (place_ago 0 ago) 0 0 (omega arith)

abbrev pub fresh_ring : List ℕ
fresh_ring = set (replicate 132 4_026_531_840) 127 0

fresh_at : (place : ℕ) → place < 132 → place ≢ 127 → get_or fresh_ring place 0 ≡ 4_026_531_840
fresh_at place within other =
    get_or-set_other (replicate 132 4_026_531_840) 127 place 0 0 other
    ∙ get_or-replicate 132 place 4_026_531_840 0 within

pub fresh_early : (place : ℕ) → place < 127 → get_or fresh_ring place 0 ≡ low (neg_ℤ EARLY)
fresh_early place within =
    let other : place ≢ 127 = λ e. omega arith in fresh_at place (omega arith) other ∙ sym early_is

pub fresh_is_ring : IsRing fresh_ring
fresh_is_ring = record {
  long = length-set {A = ℕ} (replicate 132 4_026_531_840) 127 0 ∙ length-replicate {A = ℕ} 132 4_026_531_840;
  again = λ step few.
      let p : 128 + step ≢ 127 = λ e. omega arith in
      let q : step ≢ 127 = λ e. omega arith in
      fresh_at (128 + step) (omega arith) p ∙ sym (fresh_at step (omega arith) q);
}

-- the rings of all lengths, if they are the same
ring_by : (plus minus : List ℕ) (place : ℕ) (sign : Sign) → IsRing plus → IsRing minus → place < 45
    → IsRing (ring_of (record { plus = replicate 45 plus; minus = replicate 45 minus; next = 0 }) place sign)
ring_by plus minus place Plus p m within = subst IsRing (sym (get_or-replicate 45 place plus [] within)) p
ring_by plus minus place Minus p m within = subst IsRing (sym (get_or-replicate 45 place minus [] within)) m

pub fresh_rows : (plus minus : List ℕ) → IsRing plus → IsRing minus
    → AreRows (record { plus = replicate 45 plus; minus = replicate 45 minus; next = 0 })
fresh_rows plus minus p m = record {
  plus = length-replicate 45 plus;
  minus = length-replicate 45 minus;
  rings = λ place sign within. ring_by plus minus place sign p m within;
  next = record { fours = refl; within = omega arith };
}

pub fresh_ago : (plus minus : List ℕ) (ago place : ℕ) (sign : Sign) → place < 45
    → (P : List ℕ → Type 0) → P plus → P minus
    → P (ring_of (record { plus = replicate 45 plus; minus = replicate 45 minus; next = 0 }) place sign)
fresh_ago plus minus ago place Plus within P p m = subst P (sym (get_or-replicate 45 place plus [] within)) p
fresh_ago plus minus ago place Minus within P p m = subst P (sym (get_or-replicate 45 place minus [] within)) m

pub fresh_stand : (plus minus : List ℕ) → get_or plus 127 0 ≡ low (pos 0) → get_or minus 127 0 ≡ low (pos 0)
    → ((place : ℕ) → place < 127 → get_or plus place 0 ≡ low (neg_ℤ EARLY))
    → ((place : ℕ) → place < 127 → get_or minus place 0 ≡ low (neg_ℤ EARLY))
    → RowsStandFor (record { plus = replicate 45 plus; minus = replicate 45 minus; next = 0 }) []
fresh_stand plus minus p m pe me =
    no_rows_stand (record { plus = replicate 45 plus; minus = replicate 45 minus; next = 0 })
    (λ place sign within. fresh_ago plus minus 0 place sign within (λ r. get_or r (place_ago 0 0) 0 ≡ low (pos 0)) p m)
    (λ ago place sign some near within. fresh_ago plus minus ago place sign within
    (λ r. get_or r (place_ago 0 ago) 0 ≡ low (neg_ℤ EARLY))
    (pe (place_ago 0 ago) (omega (arith, some, near))) (me (place_ago 0 ago) (omega (arith, some, near))))

-- the rings of a length are put in
put_by : (rows : RowsState) (place : ℕ) (plus minus : List ℕ) (other : ℕ) (sign : Sign) (here : Bool)
    → (other == place) ≡ here → AreRows rows → IsRing plus → IsRing minus → other < 45
    → IsRing (ring_of (record { plus = set rows.plus place plus; minus = set rows.minus place minus; next = rows.next })
    other sign)
put_by rows place plus minus other Plus true same are p m within =
    let e : place ≡ other = grind (arith, nat_tests) in
    subst (λ n. IsRing (get_or (set rows.plus place plus) n [])) e
    (subst IsRing (sym (get_or-set_same rows.plus place plus [] (omega (arith, are.plus, e)))) p)
put_by rows place plus minus other Plus false same are p m within =
    let e : other ≢ place = λ f. grind (arith, nat_tests) in
    subst IsRing (sym (get_or-set_other rows.plus place other plus [] e)) (are.rings other Plus within)
put_by rows place plus minus other Minus true same are p m within =
    let e : place ≡ other = grind (arith, nat_tests) in
    subst (λ n. IsRing (get_or (set rows.minus place minus) n [])) e
    (subst IsRing (sym (get_or-set_same rows.minus place minus [] (omega (arith, are.minus, e)))) m)
put_by rows place plus minus other Minus false same are p m within =
    let e : other ≢ place = λ f. grind (arith, nat_tests) in
    subst IsRing (sym (get_or-set_other rows.minus place other minus [] e)) (are.rings other Minus within)

pub put_rows : (rows : RowsState) (place : ℕ) (plus minus : List ℕ) → AreRows rows → IsRing plus → IsRing minus
    → AreRows (record { plus = set rows.plus place plus; minus = set rows.minus place minus; next = rows.next })
put_rows rows place plus minus are p m = record {
  plus = length-set rows.plus place plus ∙ are.plus;
  minus = length-set rows.minus place minus ∙ are.minus;
  rings = λ other sign within. put_by rows place plus minus other sign (other == place) refl are p m within;
  next = are.next;
}

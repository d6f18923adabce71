-- Samples of intervals, one interval after another, and lists that are written from the front.
use Rattle.std.proofs.Common.{◌≡◌, ℕ, zero, suc, ℤ, ◌+◌, ◌-◌, ◌≤◌, ◌<◌, Bool, true, false, not, List, [], ◌∷◌, ◌++◌}
use Rattle.std.proofs.Common.{length, take, drop, refl, sym, ap, subst, ◌∙◌, append_assoc, append-nil, arith}
use Rattle.std.specs.Prelude.{replicate, slice_index}
use Rattle.std.proofs.lemmas.List.{take_more}
use Rattle.std.proofs.Math.Seq.{drop-drop}
use Rattle.code_maker.specs.Sound.{is_up_behind, level_on, samples_of, MadeSound, StandsFor}

-- where two lists are the same from a place on, they are from a later one on
same_later : {C : Type 0} (m k n : ℕ) (xs ys : List C) → n ≡ m + k → drop m xs ≡ drop m ys → drop n xs ≡ drop n ys
same_later {C = C} m k n xs ys later same =
    rw later rw (← drop-drop k m xs) rw (← drop-drop k m ys) (ap (λ (l : List C). drop k l) same)

-- behind what is written, nothing was changed
pub rest_on : {C : Type 0} (made k next : ℕ) (old now one : List C) → next ≡ made + k → drop made now ≡ drop made old
    → drop next one ≡ drop next now → drop next one ≡ drop next old
rest_on made k next old now one more rest same = same ∙ same_later made k next now old more rest

replicate_suc : (n : ℕ) (x : ℤ) → replicate n x ++ x ∷ [] ≡ replicate (suc n) x
replicate_suc zero x = refl
replicate_suc (suc n) x = ap (λ (l : List ℤ). x ∷ l) (replicate_suc n x)

-- one equal element more
replicate_more : (n : ℕ) (x : ℤ) → replicate n x ++ x ∷ [] ≡ replicate (n + 1) x
replicate_more n x = let e : suc n ≡ n + 1 = omega arith in replicate_suc n x ∙ ap (λ (k : ℕ). replicate k x) e

-- equal elements, some behind others
replicate_on : (n k : ℕ) (x : ℤ) → replicate n x ++ replicate k x ≡ replicate (n + k) x
replicate_on zero k x = let e : k ≡ 0 + k = omega arith in ap (λ (j : ℕ). replicate j x) e
replicate_on (suc n) k x =
    let e : suc (n + k) ≡ suc n + k = omega arith in
    ap (λ (l : List ℤ). x ∷ l) (replicate_on n k x) ∙ ap (λ (j : ℕ). replicate j x) e

-- one interval more
samples_more : (level : ℕ) (up : Bool) (ticks : List ℕ) (x : ℕ)
    → samples_of level (not up) (ticks ++ x ∷ [])
    ≡ samples_of level (not up) ticks ++ replicate x (level_on (not (is_up_behind up ticks)) level)
samples_more level up [] x = append-nil (replicate x (level_on (not up) level))
samples_more level up (y ∷ ticks) x =
    ap (λ (l : List ℤ). replicate y (level_on (not up) level) ++ l) (samples_more level (not up) ticks x)
    ∙ sym (append_assoc (replicate y (level_on (not up) level)) (samples_of level (not (not up)) ticks)
    (replicate x (level_on (not (is_up_behind (not up) ticks)) level)))

up_more : (up : Bool) (ticks : List ℕ) (x : ℕ) → is_up_behind up (ticks ++ x ∷ []) ≡ not (is_up_behind up ticks)
up_more up [] x = refl
up_more up (y ∷ ticks) x = up_more (not up) ticks x

-- an interval begins where the one before is written
pub begun : (old new : MadeSound) (x : ℕ) (ticks : List ℕ) (samples : List ℤ) → old.rest ≡ 0
    → new ≡ record { level = old.level; up = not old.up; rest = x } → StandsFor old ticks samples
    → StandsFor new (ticks ++ x ∷ []) samples
begun old new x ticks samples none is h =
    subst (λ (s : MadeSound). StandsFor s (ticks ++ x ∷ []) samples) (sym is) (record {
      up = ap not h.up ∙ sym (up_more false ticks x);
      all =
          let whole : samples ≡ samples_of old.level true ticks =
          sym (append-nil samples)
          ∙ ap (λ (n : ℕ). samples ++ replicate n (level_on old.up old.level)) (sym none) ∙ h.all in
          ap (λ (l : List ℤ). l ++ replicate x (level_on (not old.up) old.level)) whole
          ∙ ap (λ (up : Bool). samples_of old.level true ticks ++ replicate x (level_on (not up) old.level)) h.up
          ∙ sym (samples_more old.level false ticks x);
    })

-- some of its samples were written
pub went_on : (old new : MadeSound) (n : ℕ) (ticks : List ℕ) (samples : List ℤ)
    → new ≡ record old { rest = new.rest } → n + new.rest ≡ old.rest → StandsFor old ticks samples
    → StandsFor new ticks (samples ++ replicate n (level_on old.up old.level))
went_on old new n ticks samples is left h =
    subst (λ (s : MadeSound). StandsFor s ticks (samples ++ replicate n (level_on old.up old.level))) (sym is) (record {
      up = h.up;
      all = append_assoc samples (replicate n (level_on old.up old.level))
          (replicate new.rest (level_on old.up old.level))
          ∙ ap (λ (l : List ℤ). samples ++ l) (replicate_on n new.rest (level_on old.up old.level))
          ∙ ap (λ (k : ℕ). samples ++ replicate k (level_on old.up old.level)) left ∙ h.all;
    })

-- where none was written it is as it was
pub untouched : (old new : MadeSound) (made : ℕ) → made ≡ 0 → new ≡ record old { rest = new.rest }
    → made + new.rest ≡ 0 + old.rest → new ≡ old
untouched old new made none is left =
    let e : new.rest ≡ old.rest = omega (arith, none, left) in is ∙ ap (λ (n : ℕ). record old { rest = n }) e

-- and stand behind those that were written before
pub further : (old new : MadeSound) (made next : ℕ) (ticks : List ℕ) (given now after : List ℤ) → made ≤ next
    → new ≡ record old { rest = new.rest } → next + new.rest ≡ made + old.rest
    → after ≡ now ++ replicate (next - made) (level_on old.up old.level) → StandsFor old ticks (given ++ now)
    → StandsFor new ticks (given ++ after)
further old new made next ticks given now after more is left longer h =
    let run = replicate (next - made) (level_on old.up old.level) in
    subst (λ (l : List ℤ). StandsFor new ticks l)
    (append_assoc given now run ∙ ap (λ (l : List ℤ). given ++ l) (sym longer))
    (went_on old new (next - made) ticks (given ++ now) is (omega (arith, more, left)) h)

-- the interval at a place begins
pub begun_at : (old new : MadeSound) (at x : ℕ) (front ticks : List ℕ) (samples : List ℤ) → at < length ticks
    → slice_index ticks at ≡ x → old.rest ≡ 0 → new ≡ record { level = old.level; up = not old.up; rest = x }
    → StandsFor old (front ++ take at ticks) samples → StandsFor new (front ++ take (at + 1) ticks) samples
begun_at old new at x front ticks samples within there none is h =
    rw (take_more ticks at 0 within) rw there rw (← append_assoc front (take at ticks) (x ∷ []))
    (begun old new x (front ++ take at ticks) samples none is h)

-- before the first interval nothing is taken
pub from_nothing : (s : MadeSound) (front ticks : List ℕ) (samples : List ℤ) → StandsFor s front samples
    → StandsFor s (front ++ take 0 ticks) samples
from_nothing s front ticks samples h = rw (append-nil front) h

-- one sample more of a run
pub run_on : (made at next : ℕ) (x : ℤ) (before now more : List ℤ) → made ≤ at → next ≡ at + 1 → more ≡ now ++ x ∷ []
    → now ≡ before ++ replicate (at - made) x → more ≡ before ++ replicate (next - made) x
run_on made at next x before now more least one longer is =
    let e : at - made + 1 ≡ next - made = omega (arith, least, one) in
    longer ∙ ap (λ (l : List ℤ). l ++ x ∷ []) is ∙ append_assoc before (replicate (at - made) x) (x ∷ [])
    ∙ ap (λ (l : List ℤ). before ++ l) (replicate_more (at - made) x)
    ∙ ap (λ (n : ℕ). before ++ replicate n x) e

-- The labels of a day are in order: each is the one that the arithmetic gives for its number.
use Rattle.std.proofs.Common.{◌≡◌, ℕ, zero, suc, ◌+◌, ◌<◌, Bool, true, false, not, cond, List, [], ◌∷◌, ◌++◌, length}
use Rattle.std.proofs.Common.{refl, sym, ◌∙◌, ap, subst, arith}
use Rattle.std.specs.List.{filter, flat_map, range_with_len}
use Rattle.std.proofs.lemmas.List.Elements.{filter-append}
use Rattle.std.proofs.lemmas.List.Concat.{flat_map-cons, flat_map_single}
use Rattle.tc_address.specs.declared.count.Count.{Count}
use Rattle.tc_address.specs.declared.count.Count.TheVariants.{C24, C25, C30, Drop30}
use Rattle.tc_address.specs.Label.{Address, address, is_dropped, is_dropped_by, IsLabel, second_of, minute_of, hour_of}
use Rattle.tc_address.specs.Label.{addresses, labels}
use Rattle.tc_address.specs.Numbering.{day_length}
use Rattle.tc_address.proofs.DroppedLabels.{rate_with, place, place_of, label_with, label_with-place, place-label}
use Rattle.tc_address.proofs.DroppedLabels.{place-dropped, place-second, place-minute, place-hour}

-- the address is the label of number n
pub record IsAt (c : Count) (n : ℕ) (a : Address) : Type 0 where
  pub label : IsLabel a
  pub count : a.count ≡ c
  pub number : place_of a ≡ n
  pub same : a ≡ label_with c n

-- the addresses are the labels from number n up to number m
abbrev pub Runs : Count → ℕ → List Address → ℕ → Type 0
Runs c n [] m = n ≡ m
Runs c n (a ∷ rest) m = IsAt c n a × Runs c (n + 1) rest m

abbrev pub counted : Address → Bool
counted a = not (is_dropped a)

pub Runs-append : (c : Count) (n k m : ℕ) (xs ys : List Address) → Runs c n xs k → Runs c k ys m → Runs c n (xs ++ ys) m
Runs-append c n k m [] ys e r = let P : ℕ → Type 0 = λ j. Runs c j ys m in subst P (sym e) r
Runs-append c n k m (x ∷ xs) ys r s = (r.0, Runs-append c (n + 1) k m xs ys r.1 s)

-- rows that follow one another are one run
pub Runs-rows : (c : Count) (start : ℕ → ℕ) (f : ℕ → List Address) (a len : ℕ) →
    ((i : ℕ) → i < a + len → Runs c (start i) (filter counted (f i)) (start (i + 1))) →
    Runs c (start a) (filter counted (flat_map f (range_with_len a len))) (start (a + len))
Runs-rows c start f a zero h = ap start (omega arith)
Runs-rows c start f a (suc len) h =
    let e : a + 1 + len ≡ a + suc len = omega arith in
    let P : ℕ → Type 0 = λ j. Runs c (start (a + 1)) (filter counted (flat_map f (range_with_len (a + 1) len)))
    (start j) in
    let later = λ (i : ℕ) (b : i < a + 1 + len). h i (omega arith) in
    let rest = subst P e (Runs-rows c start f (a + 1) len later) in
    let first = h a (omega arith) in
    rw (flat_map-cons, filter-append) (Runs-append c (start a) (start (a + 1)) (start (a + suc len)) _ _ first rest)

-- such rows from the first one on, up to a known end
Runs-all : (c : Count) (start : ℕ → ℕ) (f : ℕ → List Address) (len : ℕ) (xs : List Address) (end : ℕ) →
    xs ≡ flat_map f (range_with_len 0 len) → start len ≡ end →
    ((i : ℕ) → i < len → Runs c (start i) (filter counted (f i)) (start (i + 1))) →
    Runs c (start 0) (filter counted xs) end
Runs-all c start f len xs end e ends h =
    let P : List Address → Type 0 = λ ys. Runs c (start 0) (filter counted ys) end in
    let Q : ℕ → Type 0 = λ j. Runs c (start 0) (filter counted (flat_map f (range_with_len 0 len))) j in
    let each = λ (i : ℕ) (b : i < 0 + len). h i (omega arith) in
    let last : start (0 + len) ≡ end = ap start (omega arith) ∙ ends in
    subst P (sym e) (subst Q last (Runs-rows c start f 0 len each))

-- one address is a label, with the next number, or is dropped
leaf_by : (c : Count) (h m s f : ℕ) (b : Bool) → is_dropped_by c m s f ≡ b → h < 24 → m < 60 → s < 60
    → f < rate_with c →
    Runs c (place c h m s f) (cond (not b) (address c h m s f ∷ []) []) (place c h m s (f + 1))
leaf_by c h m s f true e hh hm hs hf = place-dropped c h m s f e
leaf_by c h m s f false e hh hm hs hf =
    let l : IsLabel (address c h m s f) =
    record { hours = hh; minutes = hm; seconds = hs; frames = hf; counted = e } in (
      record { label = l; count = refl; number = refl; same = sym (label_with-place c h m s f l) },
      place-label c h m s f
          e,
    )

second_runs : (c : Count) (h m s : ℕ) → h < 24 → m < 60 → s < 60 →
    Runs c (place c h m s 0) (filter counted (second_of c h m s)) (place c h m (s + 1) 0)
unfolding second_of
second_runs c h m s hh hm hs =
    Runs-all c (λ f. place c h m s f) (λ f. address c h m s f ∷ []) (rate_with c) (second_of c h m s)
    (place c h m (s + 1) 0)
    (sym (flat_map_single (λ f. address c h m s f) (range_with_len 0 (rate_with c)))) (place-second c h m s)
    (λ f hf. leaf_by c h m s f (is_dropped_by c m s f) refl hh hm hs hf)

minute_runs : (c : Count) (h m : ℕ) → h < 24 → m < 60 →
    Runs c (place c h m 0 0) (filter counted (minute_of c h m)) (place c h (m + 1) 0 0)
unfolding minute_of
minute_runs c h m hh hm =
    Runs-all c (λ s. place c h m s 0) (λ s. second_of c h m s) 60 (minute_of c h m) (place c h (m + 1) 0 0) refl
    (place-minute c h m) (λ s hs. second_runs c h m s hh hm hs)

hour_runs : (c : Count) (h : ℕ) → h < 24 → Runs c (place c h 0 0 0) (filter counted (hour_of c h))
    (place c (h + 1) 0 0 0)
unfolding hour_of
hour_runs c h hh =
    Runs-all c (λ m. place c h m 0 0) (λ m. minute_of c h m) 60 (hour_of c h) (place c (h + 1) 0 0 0) refl
    (place-hour c h) (λ m hm. minute_runs c h m hh hm)

place-begin : (c : Count) → place c 0 0 0 0 ≡ 0
place-begin C24 = refl
place-begin C25 = refl
place-begin C30 = refl
place-begin Drop30 = refl

place-end : (c : Count) → place c 24 0 0 0 ≡ day_length c
place-end C24 = refl
place-end C25 = refl
place-end C30 = refl
place-end Drop30 = refl

-- the labels of a day are its numbers from 0 on
pub labels_run : (c : Count) → Runs c 0 (labels c) (day_length c)
unfolding labels addresses
labels_run c =
    let P : ℕ → Type 0 = λ j. Runs c j (filter counted (addresses c)) (day_length c) in
    subst P (place-begin c)
    (Runs-all c (λ h. place c h 0 0 0) (λ h. hour_of c h) 24 (addresses c) (day_length c) refl (place-end c)
    (λ h hh. hour_runs c h hh))

Runs-length : (c : Count) (n m : ℕ) (xs : List Address) → Runs c n xs m → n + length xs ≡ m
Runs-length c n m [] e = omega (arith, e)
Runs-length c n m (x ∷ xs) r = omega (arith, Runs-length c (n + 1) m xs r.1)

-- how many labels a day has
pub length_labels : (c : Count) → length (labels c) ≡ day_length c
length_labels c = omega (arith, Runs-length c 0 (day_length c) (labels c) (labels_run c))

-- What the samples so far give does not depend on the samples that follow: one sample more brings one moment at most.
use Rattle.std.proofs.Common.{◌≡◌, ℕ, zero, suc, ◌+◌, ◌-◌, ◌*◌, ◌<◌, ◌≤◌, Bool, true, false, cond, max, ℤ, pos, List}
use Rattle.std.proofs.Common.{[], ◌∷◌, ◌++◌, length, map}
use Rattle.std.proofs.Common.{Option, Some, None, refl, ap, ap₂, sym, ◌∙◌, zero-add, add-zero, add-one, arith}
use Rattle.std.specs.List.{filter, range_with_len, last_or}
use Rattle.std.specs.Option.{option_or, option_to_list}
use Rattle.std.proofs.lemmas.List.{take-append-le, get_or_append_left, length_push, map-append}
use Rattle.std.proofs.lemmas.List.Elements.{filter-append}
use Rattle.pcm_front.specs.declared.side.Side.{Side}
use Rattle.pcm_front.specs.declared.threshold.Threshold.{Threshold}
use Rattle.pcm_front.specs.declared.threshold.Threshold.TheVariants.{Fixed, Follow, Deep}
use Rattle.pcm_front.specs.Level.{level_of, half_height, quarter_height, threshold_at}
use Rattle.pcm_front.specs.Side.{sample_at, side_at, side_after, differs}
use Rattle.pcm_front.specs.Crossing.{is_crossing, tick_to, moment, moments}
use Rattle.pcm_front.specs.Distance.{gaps, gaps_after}
use Rattle.pcm_front.specs.State.{between}

threshold_at-front : (threshold : Threshold) (xs ys : List ℤ) (i : ℕ) → i < length xs →
    threshold_at threshold (xs ++ ys) i ≡ threshold_at threshold xs i
threshold_at-front (Fixed t) xs ys i h = refl
threshold_at-front (Follow t) xs ys i h = ap (λ front. max t (half_height (level_of front)))
    (take-append-le (i + 1) xs ys (omega arith))
threshold_at-front (Deep t) xs ys i h = ap (λ front. max t (quarter_height (level_of front)))
    (take-append-le (i + 1) xs ys (omega arith))

sample_at-front : (xs ys : List ℤ) (i : ℕ) → i < length xs → sample_at (xs ++ ys) i ≡ sample_at xs i
sample_at-front xs ys i h = get_or_append_left xs ys (pos 0) i h

side_at-front : (threshold : Threshold) (xs ys : List ℤ) (i : ℕ) → i < length xs
    → side_at threshold (xs ++ ys) i ≡ side_at threshold xs i
side_at-front threshold xs ys i h = rw (threshold_at-front threshold xs ys i h, sample_at-front xs ys i h) refl

pub side_after-front : (threshold : Threshold) (xs ys : List ℤ) (n : ℕ) → n ≤ length xs →
    side_after threshold (xs ++ ys) n ≡ side_after threshold xs n
side_after-front threshold xs ys zero h = refl
side_after-front threshold xs ys (suc n) h =
    ap₂ option_or (side_at-front threshold xs ys n (omega arith)) (side_after-front threshold xs ys n (omega arith))

is_crossing-front : (threshold : Threshold) (xs ys : List ℤ) (i : ℕ) → i < length xs →
    is_crossing threshold (xs ++ ys) i ≡ is_crossing threshold xs i
is_crossing-front threshold xs ys i h =
    ap₂ differs (side_after-front threshold xs ys i (omega arith)) (side_at-front threshold xs ys i h)

-- the tick of a crossing depends on its side, its threshold, and two samples
pub same_tick : (f : ℕ) (side other : Option Side) (t u : ℕ) (a b x y : ℤ) → side ≡ other → t ≡ u → a ≡ x → b ≡ y →
    tick_to side f t a b ≡ tick_to other f u x y
same_tick f side other t u a b x y p q r s = rw (p, q, r, s) refl

moment-front : (f : ℕ) (threshold : Threshold) (xs ys : List ℤ) (i : ℕ) → i < length xs →
    moment f threshold (xs ++ ys) i ≡ moment f threshold xs i
moment-front f threshold xs ys i h = ap (λ tick. f * (i - 1) + tick)
    (same_tick f _ _ _ _ _ _ _ _ (side_at-front threshold xs ys i h) (threshold_at-front threshold xs ys i h)
    (sample_at-front xs ys (i - 1) (omega arith)) (sample_at-front xs ys i h))

map_cond : (g : ℕ → ℕ) (b : Bool) (x : ℕ) (xs : List ℕ) → map g (cond b (x ∷ xs) xs) ≡ cond b (g x ∷ map g xs)
    (map g xs)
map_cond g true x xs = refl
map_cond g false x xs = refl

-- two tests and two functions that agree at the first places make the same of them
same_in_range : (p q : ℕ → Bool) (f g : ℕ → ℕ) (a n : ℕ) → ((i : ℕ) → i < a + n → p i ≡ q i)
    → ((i : ℕ) → i < a + n → f i ≡ g i) →
    map f (filter p (range_with_len a n)) ≡ map g (filter q (range_with_len a n))
same_in_range p q f g a zero tests values = refl
same_in_range p q f g a (suc n) tests values =
    let more = same_in_range p q f g (a + 1) n (λ i l. tests i (omega arith)) (λ i l. values i (omega arith)) in
    map_cond f (p a) a (filter p (range_with_len (a + 1) n))
    ∙ rw (tests a (omega arith), values a (omega arith), more) refl
    ∙ sym (map_cond g (q a) a (filter q (range_with_len (a + 1) n)))

pub range_with_len-more : (a n : ℕ) → range_with_len a (suc n) ≡ range_with_len a n ++ (a + n) ∷ []
range_with_len-more a zero = ap (λ k. k ∷ []) (sym (add-zero a))
range_with_len-more a (suc n) =
    let same : (a + 1) + n ≡ a + suc n = omega arith in
    ap (λ more. a ∷ more) (range_with_len-more (a + 1) n ∙ ap (λ k. range_with_len (a + 1) n ++ k ∷ []) same)

-- the moment that one sample more brings, if it does
pub moments-more : (f : ℕ) (threshold : Threshold) (xs : List ℤ) (s : ℤ) →
    moments f threshold (xs ++ s ∷ []) ≡ moments f threshold xs
    ++ cond (is_crossing threshold (xs ++ s ∷ []) (length xs)) (moment f threshold (xs ++ s ∷ []) (length xs) ∷ []) []
moments-more f threshold xs s =
    let p : ℕ → Bool = is_crossing threshold (xs ++ s ∷ []) in
    let g : ℕ → ℕ = moment f threshold (xs ++ s ∷ []) in
    let n : ℕ = length xs in
    let long : length (xs ++ s ∷ []) ≡ suc n = length_push xs s ∙ add-one n in
    let places : range_with_len 0 (length (xs ++ s ∷ [])) ≡ range_with_len 0 n ++ n ∷ [] =
    ap (range_with_len 0) long ∙ range_with_len-more 0 n ∙ ap (λ k. range_with_len 0 n ++ k ∷ []) (zero-add n) in
    let front : map g (filter p (range_with_len 0 n)) ≡ moments f threshold xs =
    same_in_range p (is_crossing threshold xs) g (moment f threshold xs) 0 n
    (λ i l. is_crossing-front threshold xs (s ∷ []) i (omega arith))
    (λ i l. moment-front f threshold xs (s ∷ []) i (omega arith)) in
    ap (λ is. map g (filter p is)) places
    ∙ ap (map g) (filter-append p (range_with_len 0 n) (n ∷ []))
    ∙ map-append g (filter p (range_with_len 0 n)) (filter p (n ∷ []))
    ∙ ap₂ ◌++◌ front (map_cond g (p n) n [])

pub last_or-more : (o : Option ℕ) (ms : List ℕ) (m : ℕ) → last_or o (ms ++ m ∷ []) ≡ Some m
last_or-more o [] m = refl
last_or-more o (x ∷ ms) m = last_or-more (Some x) ms m

pub gaps_after-more : (x : ℕ) (ms : List ℕ) (m : ℕ) →
    gaps_after x (ms ++ m ∷ []) ≡ gaps_after x ms ++ option_to_list (between (last_or (Some x) ms) (Some m))
gaps_after-more x [] m = refl
gaps_after-more x (y ∷ ms) m = ap (λ more. (y - x) ∷ more) (gaps_after-more y ms m)

-- the distance that one moment more brings, if it does
pub gaps-more : (ms : List ℕ) (m : ℕ) → gaps (ms ++ m ∷ []) ≡ gaps ms
    ++ option_to_list (between (last_or None ms) (Some m))
gaps-more [] m = refl
gaps-more (x ∷ ms) m = gaps_after-more x ms m

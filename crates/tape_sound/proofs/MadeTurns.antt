-- The sound that is made of intervals goes over at the first sample of each run, in the step to it, at each bound
-- within its size.
use Rattle.std.proofs.Common.{◌≡◌, ℕ, zero, suc, ◌+◌, ◌-◌, ◌*◌, ◌≤◌, Bool, true, false, cond, ℤ, pos, neg_ℤ}
use Rattle.std.proofs.Common.{int_le}
use Rattle.std.proofs.Common.{List, [], ◌∷◌, ◌++◌, length, map, replicate, refl, ap, ap₂, sym, ◌∙◌, append_assoc}
use Rattle.std.proofs.Common.{mul-add, arith}
use Rattle.std.specs.Prelude.{get_or}
use Rattle.std.specs.List.{AllByRecursion}
use Rattle.std.proofs.lemmas.List.{get_or_append_left, get_or-append_right, get_or-replicate, length-append}
use Rattle.std.proofs.lemmas.List.{length_push}
use Rattle.std.proofs.lemmas.List.{length-replicate}
use Rattle.std.proofs.Math.IntN.{neg_ℤ-neg_ℤ}
use Rattle.pcm_front.specs.declared.side.Side.{Side}
use Rattle.pcm_front.specs.declared.side.Side.TheVariants.{High, Low}
use Rattle.pcm_front.specs.Runs.{joined}
use Rattle.pcm_front.specs.Side.{other_side, sample_at, upward}
use Rattle.pcm_front.specs.Sound.{sound, sound_runs}
use Rattle.tape_sound.specs.Heard.{transitions_after}
use Rattle.tape_sound.specs.Margin.{reach_moment, reaches, tick_to_bound, turns}

-- a sample of the other side, and one of its own
seen_other : (side : Side) (h : ℕ) → upward (other_side side) (upward side (pos h)) ≡ neg_ℤ (pos h)
seen_other High h = refl
seen_other Low h = refl

seen_own : (side : Side) (h : ℕ) → upward side (upward side (pos h)) ≡ pos h
seen_own High h = refl
seen_own Low h = neg_ℤ-neg_ℤ (pos h)

module _ (f h : ℕ) (bound : ℤ) (below : int_le bound (neg_ℤ (pos h)) ≡ false) (above : int_le bound (pos h) ≡ true)
  where
    abbrev s : Side → ℤ
    s side = upward side (pos h)

    abbrev tau : ℕ
    tau = tick_to_bound f bound (neg_ℤ (pos h)) (pos h)

    stays_there : (side : Side) → reaches bound (other_side side) (s side) ≡ false
    stays_there side = ap (int_le bound) (seen_other side h) ∙ below

    goes_there : (side : Side) → reaches bound side (s side) ≡ true
    goes_there side = ap (int_le bound) (seen_own side h) ∙ above

    here : (front rest : List ℤ) (x : ℤ) → sample_at (front ++ x ∷ rest) (length front) ≡ x
    here front rest x =
        let none : length front - length front ≡ 0 = omega arith in
        get_or-append_right front (x ∷ rest) (length front) (length front) (pos 0) refl (omega arith)
        ∙ ap (λ (i : ℕ). get_or (x ∷ rest) i (pos 0)) none

    -- more samples of the same side
    quiet : (clean front rest : List ℤ) (n a k : ℕ) (side : Side) → clean ≡ front ++ (replicate n (s side) ++ rest)
        → a ≡ length front
        → turns f (λ place. bound) clean side a (n + k) ≡ turns f (λ place. bound) clean side (a + n) k
    quiet clean front rest zero a k side are place =
        let none : zero + k ≡ k = omega arith in
        let same : a ≡ a + zero = omega arith in
        ap (turns f (λ place. bound) clean side a) none ∙ ap (λ (b : ℕ). turns f (λ place. bound) clean side b k) same
    quiet clean front rest (suc n) a k side are place =
        let more : suc n + k ≡ suc (n + k) = omega arith in
        let there : sample_at clean a ≡ s side =
        ap₂ sample_at are place ∙ here front (replicate n (s side) ++ rest) (s side) in
        let none : reaches bound (other_side side) (sample_at clean a) ≡ false =
        ap (reaches bound (other_side side)) there ∙ stays_there side in
        let are_too : clean ≡ (front ++ s side ∷ []) ++ (replicate n (s side) ++ rest) =
        are ∙ sym (append_assoc front (s side ∷ []) (replicate n (s side) ++ rest)) in
        let place_too : a + 1 ≡ length (front ++ s side ∷ []) = omega (arith, place, length_push front (s side)) in
        let last : (a + 1) + n ≡ a + suc n = omega arith in
        ap (turns f (λ place. bound) clean side a) more
        ∙ ap (λ (b : Bool). cond b (reach_moment f bound clean a (other_side side) ∷ turns f (λ place. bound) clean
        (other_side side) (a + 1) (n + k))
        (turns f (λ place. bound) clean side (a + 1) (n + k))) none
        ∙ quiet clean (front ++ s side ∷ []) rest n (a + 1) k side are_too place_too
        ∙ ap (λ (b : ℕ). turns f (λ place. bound) clean side b k) last

    -- a turn at the first sample of a run
    one_turn : (clean front rest : List ℤ) (a k : ℕ) (side : Side) → clean ≡ front ++ s (other_side side) ∷ rest
        → a ≡ length front
        → sample_at clean (a - 1) ≡ s side
        → turns f (λ place. bound) clean side a (suc k) ≡ (f * (a - 1) + tau) ∷ turns f (λ place. bound) clean
        (other_side side) (a + 1) k
    one_turn clean front rest a k side are place before =
        let there : sample_at clean a ≡ s (other_side side) = ap₂ sample_at are place
        ∙ here front rest (s (other_side side)) in
        let goes : reaches bound (other_side side) (sample_at clean a) ≡ true =
        ap (reaches bound (other_side side)) there ∙ goes_there (other_side side) in
        let from : upward (other_side side) (sample_at clean (a - 1)) ≡ neg_ℤ (pos h) =
        ap (upward (other_side side)) before ∙ seen_other side h in
        let to : upward (other_side side) (sample_at clean a) ≡ pos h = ap (upward (other_side side)) there
        ∙ seen_own (other_side side) h in
        ap (λ (b : Bool). cond b (reach_moment f bound clean a (other_side side) ∷ turns f (λ place. bound) clean
        (other_side side) (a + 1) k)
        (turns f (λ place. bound) clean side (a + 1) k)) goes
        ∙ ap (λ (t : ℕ). (f * (a - 1) + t) ∷ turns f (λ place. bound) clean (other_side side) (a + 1) k)
        (ap₂ (tick_to_bound f bound) from to)

    last_of_run : (clean front rest : List ℤ) (n a : ℕ) (side : Side)
        → clean ≡ front ++ (replicate (suc n) (s side) ++ rest) → a ≡ length front
        → sample_at clean ((a + suc n) - 1) ≡ s side
    last_of_run clean front rest n a side are place =
        let index : (a + suc n) - 1 ≡ a + n = omega arith in
        let left : (a + n) - a ≡ n = omega arith in
        let long = length-replicate (suc n) (s side) in
        ap₂ sample_at are index
        ∙ get_or-append_right front (replicate (suc n) (s side) ++ rest) a (a + n) (pos 0) (sym place) (omega arith)
        ∙ ap (λ (i : ℕ). get_or (replicate (suc n) (s side) ++ rest) i (pos 0)) left
        ∙ get_or_append_left (replicate (suc n) (s side)) rest (pos 0) n (omega (arith, long))
        ∙ get_or-replicate (suc n) n (s side) (pos 0) (omega arith)

    next_moment : (a x : ℕ) → 1 ≤ a → f * ((a + x) - 1) + tau ≡ (f * (a - 1) + tau) + f * x
    next_moment a x first =
        let place : (a + x) - 1 ≡ (a - 1) + x = omega (arith, first) in
        let product : f * ((a + x) - 1) ≡ f * (a - 1) + f * x = ap (λ (n : ℕ). f * n) place ∙ mul-add f (a - 1) x in
        omega (arith, product)

    made_turns : (clean front : List ℤ) (xs : List ℕ) (a k : ℕ) (side : Side)
        → clean ≡ front ++ joined (sound_runs h (other_side side) xs)
        → a ≡ length front → 1 ≤ a → sample_at clean (a - 1) ≡ s side
        → k ≡ length (joined (sound_runs h (other_side side) xs))
        → AllByRecursion (λ x. 1 ≤ x) xs
        → turns f (λ place. bound) clean side a k ≡ (f * (a - 1) + tau) ∷ transitions_after (f * (a - 1) + tau)
        (map (λ x. f * x) xs)
    made_turns clean front [] a k side are place first before long some =
        ap (turns f (λ place. bound) clean side a) long ∙ one_turn clean front [] a 0 side are place before
    made_turns clean front (zero ∷ xs) a k side are place first before long some = absurd (omega (arith, some.0))
    made_turns clean front (suc n ∷ xs) a k side are place first before long some =
        let S : Side = other_side side in
        let rest : List ℤ = joined (sound_runs h (other_side S) xs) in
        let k_rest : ℕ = length rest in
        let many : k ≡ suc (n + k_rest) =
        long ∙ omega (arith, length-append (replicate n (s S)) rest, length-replicate n (s S)) in
        let m : ℕ = f * (a - 1) + tau in
        let in_run : clean ≡ (front ++ s S ∷ []) ++ (replicate n (s S) ++ rest) =
        are ∙ sym (append_assoc front (s S ∷ []) (replicate n (s S) ++ rest)) in
        let place_too : a + 1 ≡ length (front ++ s S ∷ []) = omega (arith, place, length_push front (s S)) in
        let behind : clean ≡ (front ++ replicate (suc n) (s S)) ++ rest =
        are ∙ sym (append_assoc front (replicate (suc n) (s S)) rest) in
        let place_behind : a + suc n ≡ length (front ++ replicate (suc n) (s S)) =
        omega (arith, place, length-append front (replicate (suc n) (s S)), length-replicate (suc n) (s S)) in
        let next : (a + 1) + n ≡ a + suc n = omega arith in
        ap (turns f (λ place. bound) clean side a) many
        ∙ one_turn clean front (replicate n (s S) ++ rest) a (n + k_rest) side are place before
        ∙ ap (λ (l : List ℕ). m ∷ l)
        (quiet clean (front ++ s S ∷ []) rest n (a + 1) k_rest S in_run place_too
        ∙ ap (λ (b : ℕ). turns f (λ place. bound) clean S b k_rest) next
        ∙ made_turns clean (front ++ replicate (suc n) (s S)) xs (a + suc n) k_rest S behind place_behind
        (omega (arith, first))
        (last_of_run clean front rest n a S are place) refl some.1
        ∙ ap (λ (t : ℕ). t ∷ transitions_after t (map (λ x. f * x) xs)) (next_moment a (suc n) first))

    -- the turns of a whole sound, from its second sample on
    pub sound_turns : (xs : List ℕ) → AllByRecursion (λ x. 1 ≤ x) xs
        → turns f (λ place. bound) (sound h xs) Low 1 (length (sound h xs) - 1) ≡ tau ∷ transitions_after tau
        (map (λ x. f * x) xs)
    sound_turns xs some =
        let start : f * (1 - 1) + tau ≡ tau = omega arith in
        let k : length (sound h xs) - 1 ≡ length (joined (sound_runs h High xs)) = omega arith in
        made_turns (sound h xs) (s Low ∷ []) xs 1 (length (sound h xs) - 1) Low refl refl (omega arith) refl k some
        ∙ ap (λ (t : ℕ). t ∷ transitions_after t (map (λ x. f * x) xs)) start

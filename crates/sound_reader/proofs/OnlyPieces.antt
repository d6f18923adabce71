-- A slicer stops at the first sample at which a distance ends, so that those before it bring whole pieces alone, and
-- the events of what was read before are those of all of them.
use Rattle.std.proofs.Common.{◌≡◌, ℕ, zero, suc, ℤ, ◌+◌, ◌-◌, ◌≤◌, List, [], ◌∷◌, ◌++◌, length, replicate, take, drop}
use Rattle.std.proofs.Common.{Option, Some, None, IfSome, refl, sym, ap, ap₂, subst, ◌∙◌, append_assoc, append-nil}
use Rattle.std.proofs.Common.{arith}
use Rattle.std.proofs.lemmas.List.{append_cancel_left, take-append-drop}
use Rattle.std.specs.List.{flat_map}
use Rattle.std.specs.Option.{option_to_list}
use Rattle.direction_reader.specs.declared.event.Event.{Event}
use Rattle.direction_reader.specs.ListEvents.{AreEvents}
use Rattle.pcm_front.specs.declared.interval.Intervals.{Intervals}
use Rattle.pcm_front.specs.declared.pace.Pace.{Pace}
use Rattle.pcm_front.specs.Distance.{distances_by, pieces_in}
use Rattle.pcm_front.specs.Pace.{begun, begun_in, intervals_at, intervals_in, longest, passed_by, IsPace}
use Rattle.pcm_front.specs.Settings.{Settings}
use Rattle.pcm_front.specs.StandsFor as slicer
use Rattle.sound_reader.specs.declared.settings.SoundSettings.{SoundSettings}
use Rattle.sound_reader.specs.Sound.{intervals_of, AreEventsSoFar, Brings, IsSettled, NoneButTheLatestTells, OnlyPass}
use Rattle.sound_reader.specs.Sound.{SoundState, StandsFor}
use Rattle.sound_reader.proofs.StepsGoOn.{front_longer, front_of_front}

-- ---- a list that repeats one number

its_own_length : (b : List ℕ) (n x : ℕ) → b ≡ replicate n x → b ≡ replicate (length b) x
its_own_length [] n x e = refl
its_own_length (y ∷ b) zero x e = absurd cc
its_own_length (y ∷ b) (suc n) x e =
    let head : y ≡ x = cc in
    let rest : b ≡ replicate n x = cc in
    ap₂ (λ (z : ℕ) (zs : List ℕ). z ∷ zs) head (its_own_length b n x rest)

-- its parts repeat it
front_part : (a b : List ℕ) (n x : ℕ) → a ++ b ≡ replicate n x → a ≡ replicate (length a) x
front_part [] b n x e = refl
front_part (y ∷ a) b zero x e = absurd cc
front_part (y ∷ a) b (suc n) x e =
    let head : y ≡ x = cc in
    let rest : a ++ b ≡ replicate n x = cc in
    ap₂ (λ (z : ℕ) (zs : List ℕ). z ∷ zs) head (front_part a b n x rest)

end_part : (a b : List ℕ) (n x : ℕ) → a ++ b ≡ replicate n x → b ≡ replicate (length b) x
end_part [] b n x e = its_own_length b n x e
end_part (y ∷ a) b zero x e = absurd cc
end_part (y ∷ a) b (suc n) x e =
    let rest : a ++ b ≡ replicate n x = cc in end_part a b n x rest

joined : (a b x : ℕ) → replicate a x ++ replicate b x ≡ replicate (a + b) x
joined zero b x = let none : b ≡ zero + b = omega arith in ap (λ k. replicate k x) none
joined (suc a) b x =
    let one : suc (a + b) ≡ suc a + b = omega arith in
    ap (λ (l : List ℕ). x ∷ l) (joined a b x) ∙ ap (λ k. replicate k x) one

-- ---- what comes before the latest sample

-- no distance ends
pub none_ended : (pace : Pace) (s : Settings) (front more : List ℤ)
    → distances_by s (front ++ more) ≡ distances_by s front
    → (rest : List ℕ) × (intervals_at pace s (front ++ more) ≡ intervals_at pace s front ++ rest)
    → (k : ℕ) × (intervals_at pace s (front ++ more) ≡ intervals_at pace s front ++ replicate k (longest pace))
none_ended pace s front more same (rest, is) =
    let n = longest pace in
    let ended = flat_map (pieces_in n) (distances_by s front) in
    let now = begun pace (passed_by s (front ++ more)) in
    let before = begun pace (passed_by s front) in
    let as_one : ended ++ now ≡ ended ++ (before ++ rest) =
    ap (λ (ds : List ℕ). flat_map (pieces_in n) ds ++ now) (sym same) ∙ is ∙ append_assoc ended before rest in
    let parts = end_part before rest (begun_in pace (passed_by s (front ++ more))) n
    (sym (append_cancel_left ended now (before ++ rest) as_one)) in
    (length rest, is ∙ ap (λ (l : List ℕ). intervals_at pace s front ++ l) parts)

-- whole pieces alone come with all of them
pub none_ends : (pace : Pace) (s : Settings) (front more last : List ℤ) (k : ℕ)
    → intervals_at pace s (front ++ (more ++ last)) ≡ intervals_at pace s front ++ replicate k (longest pace)
    → (rest : List ℕ) × (intervals_at pace s (front ++ more) ≡ intervals_at pace s front ++ rest)
    → (rest : List ℕ) × (intervals_at pace s ((front ++ more) ++ last) ≡ intervals_at pace s (front ++ more) ++ rest)
    → (k : ℕ) × (intervals_at pace s (front ++ more) ≡ intervals_at pace s front ++ replicate k (longest pace))
none_ends pace s front more last k all (rest, is) (later, comes) =
    let n = longest pace in
    let old = intervals_at pace s front in
    let as_one : old ++ (rest ++ later) ≡ old ++ replicate k n =
    sym (append_assoc old rest later) ∙ ap (λ (l : List ℕ). l ++ later) (sym is) ∙ sym comes
    ∙ ap (intervals_at pace s) (append_assoc front more last) ∙ all in
    let parts = front_part rest later k n (append_cancel_left old (rest ++ later) (replicate k n) as_one) in
    (length rest, is ∙ ap (λ (l : List ℕ). old ++ l) parts)

-- a slicer took samples up to the first at which a distance ends, or else all of them
pub only_pieces : (pace : Pace) (how : Settings) (front s : List ℤ) (count : ℕ) (found : Intervals) (P : Type 0)
    → ((xs more : List ℤ)
    → (rest : List ℕ) × (intervals_at pace how (xs ++ more) ≡ intervals_at pace how xs ++ rest))
    → found.length ≡ longest pace
    → intervals_at pace how (front ++ take count s) ≡ intervals_at pace how front ++ intervals_in found
    → (P → distances_by how (front ++ take (count - 1) s) ≡ distances_by how front) → IfSome found.rest (λ rest. P)
    → (k : ℕ) × (intervals_at pace how (front ++ take (count - 1) s)
    ≡ intervals_at pace how front ++ replicate k (longest pace))
only_pieces pace how front s count found P stay length_is all ends last = by_rest found.rest refl last
  where
    by_rest : (o : Option ℕ) → found.rest ≡ o → IfSome o (λ rest. P)
        → (k : ℕ) × (intervals_at pace how (front ++ take (count - 1) s)
        ≡ intervals_at pace how front ++ replicate k (longest pace))
    by_rest (Some x) is p = none_ended pace how front (take (count - 1) s) (ends p) (stay front (take (count - 1) s))
    by_rest None is p =
        let n = found.length in
        let latest = drop (count - 1) (take count s) in
        let fewer : count - 1 ≤ count = omega arith in
        let whole : take (count - 1) s ++ latest ≡ take count s =
        ap (λ (l : List ℤ). l ++ latest) (sym (front_of_front (count - 1) count s fewer))
        ∙ take-append-drop (count - 1) (take count s) in
        let pieces : intervals_in found ≡ replicate (found.whole + found.begun) (longest pace) =
        ap (λ (o : Option ℕ). replicate found.whole n ++ (option_to_list o ++ replicate found.begun n)) is
        ∙ joined found.whole found.begun n ∙ ap (replicate (found.whole + found.begun)) length_is in
        none_ends pace how front (take (count - 1) s) latest (found.whole + found.begun)
        (ap (λ (l : List ℤ). intervals_at pace how (front ++ l)) whole ∙ all
        ∙ ap (λ (l : List ℕ). intervals_at pace how front ++ l) pieces)
        (stay front (take (count - 1) s)) (stay (front ++ take (count - 1) s) latest)

-- so of the samples that it took those before the latest bring whole pieces alone
pub passes_on : (old : SoundState) (count : ℕ) (found : Intervals) (s : List ℤ)
    → ((pace : Pace) (how : Settings) (xs more : List ℤ) → IsPace pace
    → (rest : List ℕ) × (intervals_at pace how (xs ++ more) ≡ intervals_at pace how xs ++ rest))
    → IsPace old.settings.pace → found.length ≡ longest old.settings.pace
    → ((front : List ℤ) → slicer.StandsFor old.slicer front
    → intervals_at old.settings.pace (slicer.settings_of old.slicer) (front ++ take count s)
    ≡ intervals_at old.settings.pace (slicer.settings_of old.slicer) front ++ intervals_in found)
    → IfSome found.rest (λ rest. (front : List ℤ) → slicer.StandsFor old.slicer front
    → distances_by (slicer.settings_of old.slicer) (front ++ take (count - 1) s)
    ≡ distances_by (slicer.settings_of old.slicer) front)
    → OnlyPass old count s
passes_on old count found s stay paced length_is all last = λ front given h.
    let pace = old.settings.pace in
    subst
    (λ (how : Settings). (k : ℕ) × (intervals_at pace how (front ++ take (count - 1) s)
    ≡ intervals_at pace how front ++ replicate k (longest pace)))
    h.slices
    (only_pieces pace (slicer.settings_of old.slicer) front s count found
    ((xs : List ℤ) → slicer.StandsFor old.slicer xs
    → distances_by (slicer.settings_of old.slicer) (xs ++ take (count - 1) s)
    ≡ distances_by (slicer.settings_of old.slicer) xs)
    (λ xs more. stay pace (slicer.settings_of old.slicer) xs more paced) length_is (all front h.sliced)
    (λ p. p front h.sliced) last)

-- the same, where they are the front of more
pub passes_in_front : (old : SoundState) (count most : ℕ) (s : List ℤ) → count - 1 ≤ most
    → OnlyPass old count (take most s) → OnlyPass old count s
passes_in_front old count most s less pass = λ front given h.
    subst
    (λ (l : List ℤ). (k : ℕ) × (intervals_of old.settings (front ++ l)
    ≡ intervals_of old.settings front ++ replicate k (longest old.settings.pace)))
    (front_of_front (count - 1) most s less) (pass front given h)

-- ---- so none but the latest tells

pub none_but_the_latest : (old before : SoundState) (at n : ℕ) (s : List ℤ) → before.settings ≡ old.settings
    → Brings old before (take at s) [] → IsSettled before
    → ((t : SoundState) (samples : List ℤ) (events : List Event) → StandsFor t samples events → IsSettled t
    → AreEvents t.settings.system t.settings.profile (intervals_of t.settings samples) events)
    → OnlyPass before n (take (length s - at) (drop at s)) → 1 ≤ n → NoneButTheLatestTells old (at + n) s
none_but_the_latest old before at n s same brings settled law passes some = λ front given h any.
    let xs = front ++ take at s in
    let stands : StandsFor before xs (given ++ []) = brings front given h in
    let (more, all) = passes xs (given ++ []) stands in
    let back : at + (n - 1) ≡ (at + n) - 1 = omega (arith, some) in
    let taken : xs ++ take (n - 1) (take (length s - at) (drop at s)) ≡ front ++ take ((at + n) - 1) s =
    append_assoc front (take at s) (take (n - 1) (take (length s - at) (drop at s)))
    ∙ ap (λ (l : List ℤ). front ++ l) (sym (front_longer at (n - 1) s))
    ∙ ap (λ k. front ++ take k s) back in
    let own : AreEventsSoFar before.settings (front ++ take ((at + n) - 1) s) given = record {
      read = intervals_of before.settings xs;
      more = more;
      all = ap (intervals_of before.settings) (sym taken) ∙ all;
      events = subst
          (λ (l : List Event).
          AreEvents before.settings.system before.settings.profile (intervals_of before.settings xs) l)
          (append-nil given) (law before xs (given ++ []) stands settled);
    } in
    subst (λ (how : SoundSettings). AreEventsSoFar how (front ++ take ((at + n) - 1) s) given) same own

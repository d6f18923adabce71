-- The steps of a slicer of sound go on, one after another: it stands for the samples of all of them, with their
-- intervals.
use Rattle.std.proofs.Common.{◌≡◌, ℕ, ℤ, ◌+◌, ◌-◌, List, [], ◌∷◌, ◌++◌, length, take, drop, sym, ap, subst, ◌∙◌}
use Rattle.std.proofs.Common.{◌≤◌, append_assoc, append-nil, arith}
use Rattle.std.proofs.Math.Seq.{drop-drop}
use Rattle.std.specs.Prelude.{Option}
use Rattle.std.specs.Option.{option_to_list}
use Rattle.pcm_front.specs.declared.interval.Intervals.{Intervals}
use Rattle.pcm_front.specs.declared.slicer.Slicer.{Slicer}
use Rattle.pcm_front.specs.Pace.{intervals_in, intervals_at}
use Rattle.pcm_front.specs.Settings.{Settings}
use Rattle.pcm_front.specs.StandsFor as pcm
use Rattle.sound_reader.specs.Slicer.{intervals_of, sliced_as, Gives, SlicerState, StandsFor}
use Rattle.sound_reader.proofs.StepsGoOn.{front_longer}

-- one step after another
pub gives_on : (a b c : SlicerState) (s t : List ℤ) (xs ys : List ℕ) → Gives a b s xs → Gives b c t ys
    → Gives a c (s ++ t) (xs ++ ys)
gives_on a b c s t xs ys first second = λ front given h.
    rw (← append_assoc front s t) rw (← append_assoc given xs ys)
    (second (front ++ s) (given ++ xs) (first front given h))

-- samples behind others, with what waited before
pub gives_over : (a b c : SlicerState) (at n : ℕ) (s : List ℤ) (xs : List ℕ) → Gives a b (take at s) xs
    → Gives b c (take n (take (length s - at) (drop at s))) [] → Gives a c (take (at + n) s) xs
gives_over a b c at n s xs first second =
    rw (front_longer at n s)
    (subst (λ (ys : List ℕ). Gives a c (take at s ++ take n (take (length s - at) (drop at s))) ys) (append-nil xs)
    (gives_on a b c (take at s) (take n (take (length s - at) (drop at s))) xs [] first second))

-- an interval that waited is given, or none
pub given_on : (old : SlicerState) (left : Intervals) (x : Option ℕ)
    → option_to_list x ++ intervals_in left ≡ intervals_in old.waiting
    → Gives old (record old { waiting = left }) [] (option_to_list x)
given_on old left x is = λ front given h. rw (append-nil front) (record {
  sliced = h.sliced;
  all = rw (append_assoc given (option_to_list x) (intervals_in left))
      (subst (λ (ys : List ℕ). given ++ ys ≡ intervals_of old.settings front) (sym is) h.all);
})

-- samples are sliced, where nothing waits
pub sliced_on : (old new : SlicerState) (next : Slicer) (count : ℕ) (found : Intervals) (s : List ℤ)
    → pcm.settings_of old.slicer ≡ sliced_as old.settings
    → ((front : List ℤ) → pcm.StandsFor old.slicer front → pcm.StandsFor next (front ++ s))
    → ((front : List ℤ) → pcm.StandsFor old.slicer front
    → intervals_at old.settings.pace (pcm.settings_of old.slicer) (front ++ s)
    ≡ intervals_at old.settings.pace (pcm.settings_of old.slicer) front ++ intervals_in found)
    → intervals_in old.waiting ≡ [] → new ≡ record old { slicer = next; samples = count; waiting = found }
    → Gives old new s []
sliced_on old new next count found s slices stands intervals settled is = λ front given h.
    let pace = old.settings.pace in
    let before : given ≡ intervals_of old.settings front =
    sym (append-nil given) ∙ ap (λ (ys : List ℕ). given ++ ys) (sym settled) ∙ h.all in
    let more : intervals_of old.settings (front ++ s) ≡ intervals_of old.settings front ++ intervals_in found =
    subst
    (λ (how : Settings). intervals_at pace how (front ++ s) ≡ intervals_at pace how front ++ intervals_in found)
    slices (intervals front h.sliced) in
    rw (append-nil given)
    (subst (λ (t : SlicerState). StandsFor t (front ++ s) given) (sym is) (record {
      sliced = stands front h.sliced;
      all = ap (λ (ys : List ℕ). ys ++ intervals_in found) before ∙ sym more;
    }))

-- an interval is written behind others
pub one_more : (a b : SlicerState) (now after : List ℕ) (x : ℕ) (front : List ℤ) (given : List ℕ)
    → StandsFor a front (given ++ now) → Gives a b [] (x ∷ []) → after ≡ now ++ x ∷ []
    → StandsFor b front (given ++ after)
one_more a b now after x front given h gives is =
    rw is rw (← append_assoc given now (x ∷ []))
    (subst (λ (s : List ℤ). StandsFor b s ((given ++ now) ++ x ∷ [])) (append-nil front)
    (gives front (given ++ now) h))

-- none is
pub none_more : (a b : SlicerState) (front : List ℤ) (given : List ℕ) → StandsFor a front given → Gives a b [] []
    → StandsFor b front given
none_more a b front given h gives =
    subst (λ (s : List ℤ). StandsFor b s given) (append-nil front)
    (subst (λ (xs : List ℕ). StandsFor b (front ++ []) xs) (append-nil given) (gives front given h))

-- where two lists are the same from a place on, they are from a later one on
same_later : {C : Type 0} (m k n : ℕ) (xs ys : List C) → n ≡ m + k → drop m xs ≡ drop m ys → drop n xs ≡ drop n ys
same_later {C = C} m k n xs ys later same =
    rw later rw (← drop-drop k m xs) rw (← drop-drop k m ys) (ap (λ (l : List C). drop k l) same)

-- behind what is written, nothing was changed
pub rest_behind : {C : Type 0} (made next : ℕ) (old now one : List C) → made ≤ next → drop made now ≡ drop made old
    → drop next one ≡ drop next now → drop next one ≡ drop next old
rest_behind made next old now one least rest same =
    same ∙ same_later made (next - made) next now old (omega (arith, least)) rest

-- The steps of a reader of sound go on, one after another: it stands for the samples of all of them, with their events.
use Rattle.std.proofs.Common.{◌≡◌, ℕ, zero, suc, ℤ, ◌+◌, ◌-◌, ◌≤◌, List, [], ◌∷◌, ◌++◌, length, take, drop, Some}
use Rattle.std.proofs.Common.{true, refl, sym, ap, subst, ◌∙◌, append_assoc, append-nil, arith}
use Rattle.std.proofs.lemmas.List.{take_rest}
use Rattle.std.proofs.Math.Seq.{take-add}
use Rattle.std.specs.Option.{option_to_list}
use Rattle.direction_reader.specs.declared.brought.Brought.{Brought}
use Rattle.direction_reader.specs.declared.brought.Brought.TheVariants.{Nothing, Candidate, Break}
use Rattle.direction_reader.specs.declared.event.Event.{Event}
use Rattle.direction_reader.specs.Events.{no_events}
use Rattle.direction_reader.specs.Reader.{ReaderState}
use Rattle.direction_reader.specs.StandsFor.{Tells}
use Rattle.pcm_front.specs.declared.interval.Intervals.{Intervals}
use Rattle.pcm_front.specs.declared.slicer.Slicer.{Slicer}
use Rattle.pcm_front.specs.Pace.{intervals_in, intervals_at}
use Rattle.pcm_front.specs.Settings.{Settings}
use Rattle.pcm_front.specs.StandsFor as slicer
use Rattle.sound_reader.specs.Settings.{slicing}
use Rattle.sound_reader.specs.Sound.{Brings, Reads, SoundState, StandsFor}
use Rattle.sound_reader.specs.Waiting.{is_nothing}

-- one step after another
pub brings_on : (a b c : SoundState) (s t : List ℤ) (xs ys : List Event) → Brings a b s xs → Brings b c t ys
    → Brings a c (s ++ t) (xs ++ ys)
brings_on a b c s t xs ys first second = λ front given h.
    rw (← append_assoc front s t) rw (← append_assoc given xs ys)
    (second (front ++ s) (given ++ xs) (first front given h))

-- an interval that waited was read
pub reads_on : (old new : SoundState) (left : Intervals) (x : ℕ) (own : List Event)
    → option_to_list (Some x) ++ intervals_in left ≡ intervals_in old.waiting
    → new ≡ record old { reader = new.reader; waiting = left } → Reads old.reader new.reader x own
    → Brings old new [] own
reads_on old new left x own waited is reads = λ front given h.
    subst (λ (s : SoundState). StandsFor s (front ++ []) (given ++ own)) (sym is) (record {
      system = reads.takes.system ∙ h.system;
      profile = reads.takes.profile ∙ h.profile;
      slices = h.slices;
      intervals = h.intervals ++ x ∷ [];
      sliced = rw (append-nil front) h.sliced;
      read = reads.stands h.intervals given h.read;
      all = rw (append-nil front) rw (append_assoc h.intervals (x ∷ []) (intervals_in left))
          (subst
          (λ (ys : List ℕ). h.intervals ++ ys ≡ intervals_at old.settings.pace (slicing old.settings) front)
          (sym waited) h.all);
    })

-- samples were sliced, if nothing waited
pub sliced_on : (old new : SoundState) (next : Slicer) (count : ℕ) (found : Intervals) (s : List ℤ)
    → slicer.settings_of next ≡ slicer.settings_of old.slicer
    → ((front : List ℤ) → slicer.StandsFor old.slicer front → slicer.StandsFor next (front ++ s))
    → ((front : List ℤ) → slicer.StandsFor old.slicer front
    → intervals_at old.settings.pace (slicer.settings_of old.slicer) (front ++ s)
    ≡ intervals_at old.settings.pace (slicer.settings_of old.slicer) front ++ intervals_in found)
    → intervals_in old.waiting ≡ [] → new ≡ record old { slicer = next; samples = count; waiting = found }
    → Brings old new s []
sliced_on old new next count found s settings stands intervals settled is = λ front given h.
    let pace = old.settings.pace in
    let before : h.intervals ≡ intervals_at pace (slicing old.settings) front =
    sym (append-nil h.intervals) ∙ ap (λ (ys : List ℕ). h.intervals ++ ys) (sym settled) ∙ h.all in
    let more : intervals_at pace (slicing old.settings) (front ++ s)
    ≡ intervals_at pace (slicing old.settings) front ++ intervals_in found =
    subst
    (λ (how : Settings). intervals_at pace how (front ++ s) ≡ intervals_at pace how front ++ intervals_in found)
    h.slices (intervals front h.sliced) in
    rw (append-nil given)
    (subst (λ (t : SoundState). StandsFor t (front ++ s) given) (sym is) (record {
      system = h.system;
      profile = h.profile;
      slices = settings ∙ h.slices;
      intervals = h.intervals;
      sliced = stands front h.sliced;
      read = h.read;
      all = ap (λ (ys : List ℕ). ys ++ intervals_in found) before ∙ sym more;
    }))

-- a front, and the front of what is left
pub front_longer : (at n : ℕ) (s : List ℤ) → take (at + n) s ≡ take at s ++ take n (take (length s - at) (drop at s))
front_longer at n s = rw (take_rest s at) (take-add at n s)

-- what waits was read
pub then_waiting : (a b c : SoundState) (s : List ℤ) (own : List Event) → Brings a b s [] → Brings b c [] own
    → Brings a c s own
then_waiting a b c s own first second =
    subst (λ (t : List ℤ). Brings a c t own) (append-nil s) (brings_on a b c s [] [] own first second)

-- samples behind others
pub brings_over : (a b c : SoundState) (at n : ℕ) (s : List ℤ) (own : List Event) → Brings a b (take at s) []
    → Brings b c (take n (take (length s - at) (drop at s))) own → Brings a c (take (at + n) s) own
brings_over a b c at n s own first second =
    rw (front_longer at n s)
    (brings_on a b c (take at s) (take n (take (length s - at) (drop at s))) [] own first second)

-- the front of a front
pub front_of_front : (n most : ℕ) (s : List ℤ) → n ≤ most → take n (take most s) ≡ take n s
front_of_front zero most s less = refl
front_of_front (suc n) zero s less = absurd (omega arith)
front_of_front (suc n) (suc most) [] less = refl
front_of_front (suc n) (suc most) (x ∷ s) less =
    ap (λ (l : List ℤ). x ∷ l) (front_of_front n most s (omega arith))

pub within_front : (n most : ℕ) (s : List ℤ) → n ≤ length (take most s) → n ≤ most
within_front n zero s less = less
within_front n (suc most) [] less = omega (arith, less)
within_front zero (suc most) (x ∷ s) less = omega arith
within_front (suc n) (suc most) (x ∷ s) less =
    let more = within_front n most s (omega (arith, less)) in omega (arith, more)

-- what does not read stays
pub rest_on : (a b old new : SoundState) (left : Intervals) → old ≡ b
    → b ≡ record a { reader = b.reader; waiting = b.waiting }
    → new ≡ record old { reader = new.reader; waiting = left }
    → new ≡ record a { reader = new.reader; waiting = new.waiting }
rest_on a b old new left view before is =
    subst (λ (t : SoundState). t ≡ record a { reader = t.reader; waiting = t.waiting }) (sym is)
    (ap (λ (t : SoundState). record t { reader = new.reader; waiting = left }) (view ∙ before))

-- what brought nothing told no events
pub tells_none : (reader : ReaderState) (brought : Brought) → is_nothing brought ≡ true → Tells reader brought no_events
tells_none reader Nothing is = refl
tells_none reader Candidate is = absurd (cc)
tells_none reader Break is = absurd (cc)

-- A list has one list of stretches, so a tracker stands for it in one way: some are broken, and one may be open.
use Rattle.std.proofs.Common.{◌≡◌, ℕ, List, [], ◌∷◌, ◌++◌, length, Some, None, Option, ap, ap₂, arith, refl}
use Rattle.std.proofs.Common.{length-append}
use Rattle.cell_tracker.specs.Stretch.{Stretch}
use Rattle.direction_reader.specs.StandsFor.{TrackerStandsFor}
use Rattle.direction_reader.specs.Tracking.{Tracking}
use Rattle.direction_reader.specs.Tracking.{AtCell, MidCell, Hunting}
use Rattle.direction_reader.proofs.OneListOfEvents.{HasOneList}

same_last : (e f : List Stretch) (s t : Stretch) → e ++ s ∷ [] ≡ f ++ t ∷ [] → (e ≡ f) × (s ≡ t)
same_last [] [] s t is = (refl, cc)
same_last [] (v ∷ f) s t is = let count = ap length is in absurd (omega (arith, count, length-append f (t ∷ [])))
same_last (u ∷ e) [] s t is = let count = ap length is in absurd (omega (arith, count, length-append e (s ∷ [])))
same_last (u ∷ e) (v ∷ f) s t is =
    let rest : e ++ s ∷ [] ≡ f ++ t ∷ [] = cc in
    let first : u ≡ v = cc in
    let more = same_last e f s t rest in
    (ap₂ (λ (x : Stretch) (xs : List Stretch). x ∷ xs) first more.0, more.1)

pub same_stretches : HasOneList → (t : Tracking) (l : List ℕ) (e f : List Stretch) (o p : Option Stretch)
    → TrackerStandsFor t l e o → TrackerStandsFor t l f p → (f ≡ e) × (p ≡ o)
same_stretches one (AtCell a) l e f None p is too = absurd is
same_stretches one (AtCell a) l e f (Some s) None is too = absurd too
same_stretches one (AtCell a) l e f (Some s) (Some t) is too =
    let same = same_last f e t s (one a.profile l (f ++ t ∷ []) (e ++ s ∷ []) too.stretches_are is.stretches_are) in
    (same.0, ap (λ (u : Stretch). Some u) same.1)
same_stretches one (MidCell m) l e f None p is too = absurd is
same_stretches one (MidCell m) l e f (Some s) None is too = absurd too
same_stretches one (MidCell m) l e f (Some s) (Some t) is too =
    let same = same_last f e t s (one m.profile l (f ++ t ∷ []) (e ++ s ∷ []) too.stretches_are is.stretches_are) in
    (same.0, ap (λ (u : Stretch). Some u) same.1)
same_stretches one (Hunting h) l e f (Some s) p is too = absurd is
same_stretches one (Hunting h) l e f None (Some t) is too = absurd too
same_stretches one (Hunting h) l e f None None is too = (one h.profile l f e too.stretches_are is.stretches_are, refl)

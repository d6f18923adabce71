-- The intervals of a list, one after another, to a reader of any kind.
use Rattle.std.proofs.Common.{◌≡◌, ℕ, ◌+◌, ◌<◌, ◌∷◌, List, [], ◌++◌, length, take}
use Rattle.std.proofs.Common.{◌∙◌, subst, append_assoc, append-nil}
use Rattle.std.specs.Prelude.{slice_index}
use Rattle.std.proofs.lemmas.List.{take_more}
use Rattle.direction_reader.specs.declared.firm_event.FirmEvent.{FirmEvent}
use Rattle.direction_reader.specs.Reading.{ReadingState, ReadsMore, ReadsOn}
use Rattle.tape_reader.specs.Reads.{Keeps}

-- one interval more, of those at a place
pub reads_one_more : (a b c : ReadingState) (at x : ℕ) (s : List ℕ) (own : List FirmEvent) → ReadsMore a b (take at s) []
    → ReadsMore b c (x ∷ []) own → at < length s → slice_index s at ≡ x → ReadsMore a c (take (at + 1) s) own
reads_one_more a b c at x s own first next within is = λ front told h.
    let so_far = subst (λ (l : List FirmEvent). b.stands (front ++ take at s) l) (append-nil told)
    (first front told h) in
    rw (take_more s at 0 within) rw is rw (← append_assoc front (take at s) (x ∷ []))
    (next (front ++ take at s) told so_far)

-- system and tolerance stay
pub keeps_on : (a b c : ReadingState) (x : ℕ) → Keeps a b → ReadsOn b x c → Keeps a c
keeps_on a b c x keeps next = record {
  system = next.system_is ∙ keeps.system;
  profile = next.profile_is ∙ keeps.profile;
}

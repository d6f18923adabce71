-- The bits of a candidate spell one word or have one first fault, so a window has one list of events.
use Rattle.std.proofs.Common.{◌≡◌, ℕ, ap, ap₂, sym, ◌∙◌, Some, None, IsSomeAnd, inl, inr}
use Rattle.std.specs.declared.option.Option.{Option}
use Rattle.ltc_word.specs.SyncLemmas.{in_sync_or_not}
use Rattle.tc_address.specs.declared.system.System.{System}
use Rattle.tc_address.specs.declared.direction.Direction.{Direction}
use Rattle.tc_address.specs.declared.direction.Direction.TheVariants.{Forward, Backward}
use Rattle.ltc_word.specs.declared.word.LtcWord.{LtcWord}
use Rattle.ltc_word.specs.Fault.{first_fault}
use Rattle.ltc_word.specs.Reversal.{reversed_bits}
use Rattle.ltc_word.specs.Spelling.{Spells}
use Rattle.direction_reader.specs.declared.event.Event.{Event}
use Rattle.direction_reader.specs.declared.event.Event.TheVariants.{Word, Refused, Lost}
use Rattle.direction_reader.specs.declared.event.Events.{Events}
use Rattle.direction_reader.specs.Candidate.{IsEventOf, AreEventsOf}

-- 80 bits spell one word at most, and bits that spell a word have no fault
pub record IsExact : Type 0 where
  pub one_word : (system : System) (a b : LtcWord) (bits : ℕ) → Spells system a bits → Spells system b bits → a ≡ b
  pub no_fault : (system : System) (word : LtcWord) (bits : ℕ) → Spells system word bits
      → first_fault system bits ≡ None

-- the event of a candidate is one
one_event : IsExact → (system : System) (direction : Direction) (bits end length : ℕ) (e f : Event)
    → IsEventOf system direction bits end length e → IsEventOf system direction bits end length f → e ≡ f
one_event exact system direction bits end length (Word d w t n) (Word d' w' t' n') is too =
    let same = exact.one_word system w w' bits is.1 too.1 in cc
one_event exact system direction bits end length (Word d w t n) (Refused d' g t') is too =
    let none = exact.no_fault system w bits is.1 in let some = too.1 in cc
one_event exact system direction bits end length (Word d w t n) (Lost p t') is too = absurd too
one_event exact system direction bits end length (Refused d g t) (Word d' w t' n) is too =
    let none = exact.no_fault system w bits too.1 in let some = is.1 in cc
one_event exact system direction bits end length (Refused d g t) (Refused d' g' t') is too =
    let first = is.1 in let other = too.1 in cc
one_event exact system direction bits end length (Refused d g t) (Lost p t') is too = absurd too
one_event exact system direction bits end length (Lost p t) f is too = absurd is

-- so is the one that there is
one_some : IsExact → (system : System) (direction : Direction) (bits end length : ℕ) (e f : Option Event)
    → IsSomeAnd e (IsEventOf system direction bits end length)
    → IsSomeAnd f (IsEventOf system direction bits end length) → e ≡ f
one_some exact system direction bits end length None f is too = absurd is
one_some exact system direction bits end length (Some e) None is too = absurd too
one_some exact system direction bits end length (Some e) (Some f) is too =
    ap (λ event. Some event) (one_event exact system direction bits end length e f is too)

-- events are the same if the first and the second are
same_events : (e f : Events) → e.first ≡ f.first → e.second ≡ f.second → e ≡ f
same_events e f first second =
    let both : Option Event → Option Event → Events = λ a b. record { first = a; second = b } in ap₂ both first second

pub one_list : IsExact → (system : System) (bits end length : ℕ) (e f : Events)
    → AreEventsOf system bits end length e → AreEventsOf system bits end length f → e ≡ f
one_list exact system bits end length e f are too =
    let back = reversed_bits bits in
    elim (in_sync_or_not bits) [
      | inl forward ↦ (
          let first = one_some exact system Forward bits end length e.first f.first (are.forward forward)
          (too.forward forward) in
          elim (in_sync_or_not back) [
            | inl backward ↦ same_events e f first
                (one_some exact system Backward back end length e.second f.second (are.both forward backward)
                (too.both forward backward))
            | inr not_back ↦ same_events e f first (are.one forward not_back ∙ sym (too.one forward not_back))
          ])
      | inr not_forward ↦ elim (in_sync_or_not back) [
        | inl backward ↦ (
            let mine = are.backward backward not_forward in
            let other = too.backward backward not_forward in
            same_events e f (one_some exact system Backward back end length e.first f.first mine.0 other.0) (mine.1
            ∙ sym other.1))
        | inr not_back ↦ (
            let mine = are.none not_forward not_back in
            let other = too.none not_forward not_back in
            same_events e f (mine.0 ∙ sym other.0) (mine.1 ∙ sym other.1))
      ]
    ]

-- What ends the reading leaves what the samples before it brought, and so do bytes that are too few.
use Rattle.std.proofs.Common.{◌≡◌, inl, ℕ, List, [], ◌++◌, Option, ap, append-nil, subst, sym, ◌∙◌}
use Rattle.tc_command.specs.declared.halt.Halt.{Halt}
use Rattle.tc_command.specs.declared.halt.Halt.TheVariants.{Refused, Limit}
use Rattle.tc_command.specs.Halt.{IsHalt}
use Rattle.tc_command.specs.TooFew.{AreTooFew}
use Rattle.tc_io.specs.Verdict.{good}
use Rattle.signal_commands.specs.KeptListening.{along_sound, so_far_is, Ends, HearsWell, IsFew, ListenerKind}
use Rattle.signal_commands.specs.KeptListening.{ContainerKind, Said, Stands}

pub halts_as : {C A F W : Type 0} (held : ContainerKind C A) (heard : ListenerKind F W) (asked : A) (words : W)
    (halt : Halt) (front bytes written : List ℕ) → Ends (held.says asked front) (held.says asked (front ++ bytes)) halt
    → heard.so_far words (held.says asked front).format (held.says asked front).samples written
    → IsHalt (along_sound held heard (asked, words)) halt (front ++ bytes) (written ++ [])
halts_as held heard asked words (Refused fault) front bytes written ends part = (
  record { is = ends.verdict; unspent = λ spent. spent },
  rw (ends.format, ends.samples, append-nil written) part,
)
halts_as held heard asked words Limit front bytes written ends part =
    inl (
      record { is = ends.verdict; unspent = λ spent. spent },
      rw (ends.format, ends.samples, append-nil written) part,
    )

pub waits_as : {C A F W : Type 0} (held : ContainerKind C A) (heard : ListenerKind F W)
    → ((container : C) (bytes : List ℕ) → held.holds container bytes
    → (held.says (held.asked container) bytes).verdict ≡ good)
    → HearsWell heard → (container : C) (listener : Option F) (words : W) (bytes : List ℕ) → IsFew held container bytes
    → AreTooFew (along_sound held heard (held.asked container, words)) (Stands held heard container listener words)
    bytes
waits_as held heard is_good well container listener words bytes is = record {
  few = is.few;
  good = λ front written stands.
      let same = is.none front stands.holds in (
        record {
          is = ap (λ (s : Said). s.verdict) same ∙ is_good container front stands.holds;
          unspent = λ spent. spent;
        },
        subst (λ (s : Said). heard.so_far words s.format s.samples written) (sym same)
            (so_far_is heard well words listener (held.says (held.asked container) front) written stands.hears),
      );
}

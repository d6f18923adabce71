-- The two bytes of a quarter frame more.
use Rattle.std.proofs.Common.{◌≡◌, ◌<◌, ℕ, ◌+◌, List, [], ◌∷◌, ◌++◌, refl, sym, ◌∙◌, ap, subst, length-append}
use Rattle.std.specs.Prelude.{reverse}
use Rattle.std.proofs.lemmas.List.{reverse-append}
use Rattle.mtc_reader.specs.declared.message.Message.{Message}
use Rattle.mtc_reader.specs.declared.message.Message.TheVariants.{QuarterFrame}
use Rattle.mtc_reader.specs.declared.reader.MtcReader.{MtcReader}
use Rattle.mtc_reader.specs.Messages.{messages_in, without_real_time}
use Rattle.mtc_reader.specs.StandsFor.{Keeps, KeepsRow, StandsFor}
use Rattle.mtc_reader.proofs.ReadBack.{below, sounds}

seen : (front : List ℕ) (number : ℕ) → number < 0x80 → without_real_time (reverse (front ++ 0xf1 ∷ number ∷ []))
    ≡ number ∷ 0xf1 ∷ without_real_time (reverse front)
seen front number small = ap without_real_time (reverse-append front (0xf1 ∷ number ∷ []))
    ∙ rw (sounds number small) refl

told : (before : List ℕ) (number : ℕ) → number < 0x80 → messages_in (number ∷ 0xf1 ∷ before) ≡ QuarterFrame number
    ∷ messages_in before
told before number small = rw (below number small) refl

-- a reader that took both stands for the bytes with them
pub stands_with_both : (reader next : MtcReader) (front : List ℕ) (number : ℕ) → number < 0x80
    → next.bytes ≡ reader.bytes + 2
    → ((before : List ℕ) (n : ℕ) → n < 0x80 → Keeps next.message (n ∷ 0xf1 ∷ before))
    → ((before : List Message) → KeepsRow reader.row before → KeepsRow next.row (QuarterFrame number ∷ before))
    → StandsFor reader front → StandsFor next (front ++ 0xf1 ∷ number ∷ [])
stands_with_both reader next front number small count message row stands = record {
  count = count ∙ ap (λ n. n + 2) stands.count ∙ sym (length-append front (0xf1 ∷ number ∷ []));
  message = subst (λ (l : List ℕ). Keeps next.message l) (sym (seen front number small))
      (message (without_real_time (reverse front)) number small);
  row = subst (λ (l : List Message). KeepsRow next.row l) (sym (ap messages_in (seen front number small)
      ∙ told (without_real_time (reverse front)) number small))
      (row (messages_in (without_real_time (reverse front))) stands.row);
}

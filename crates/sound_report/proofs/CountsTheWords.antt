-- Events that are words on time are as many words, and none of them is refused or lost, so the last line says so.
use Rattle.std.proofs.Common.{◌≡◌, ℕ, ◌+◌, List, [], ◌∷◌, length, count_by, take, drop, refl, ap, ◌∙◌}
use Rattle.std.proofs.Common.{arith}
use Rattle.lemmas.specs.Lists.{count_by-cons}
use Rattle.biphase.specs.declared.cell.Cell.{Cell}
use Rattle.direction_reader.specs.declared.event.Event.{Event}
use Rattle.direction_reader.specs.declared.event.Event.TheVariants.{Word, Refused, Lost}
use Rattle.direction_reader.specs.Events.{is_lost, is_refused, is_word}
use Rattle.direction_reader.specs.ListEvents.{duration}
use Rattle.direction_reader.specs.Played.{Played, events_of_words}
use Rattle.tape_sound.specs.OnTime.{AreOnTime}

-- how many there are of each kind
pub record AreWords (words : ℕ) (events : List Event) : Type 0 where
  pub all : count_by is_word events ≡ words
  pub none_refused : count_by is_refused events ≡ 0
  pub none_lost : count_by is_lost events ≡ 0

pub counts : (delay tick : ℕ) (cells : List Cell) (words : List Played) (events : List Event)
    → AreOnTime delay events (events_of_words tick cells words) → AreWords (length words) events
unfolding events_of_words
counts delay tick cells [] [] on_time = record { all = refl; none_refused = refl; none_lost = refl }
counts delay tick cells [] (event ∷ events) on_time = absurd on_time
counts delay tick cells (p ∷ words) [] on_time = absurd on_time
counts delay tick cells (p ∷ words) (Refused way fault at ∷ events) on_time = absurd on_time.0
counts delay tick cells (p ∷ words) (Lost interval at ∷ events) on_time = absurd on_time.0
counts delay tick cells (p ∷ words) (Word way word at long ∷ events) on_time =
    let more = counts delay (tick + duration (take 80 cells)) (drop 80 cells) words events on_time.1 in
    record {
      all = count_by-cons is_word (Word way word at long) events ∙ ap (λ (n : ℕ). 1 + n) more.all ∙ (omega arith);
      none_refused = count_by-cons is_refused (Word way word at long) events ∙ ap (λ (n : ℕ). 0 + n) more.none_refused;
      none_lost = count_by-cons is_lost (Word way word at long) events ∙ ap (λ (n : ℕ). 0 + n) more.none_lost;
    }

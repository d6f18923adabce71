use Rattle.std.proofs.Common.{◌≡◌, ℕ, List, [], ◌∷◌, ◌++◌, false, true, subst, sym, arith}
use Rattle.biphase.specs.declared.profile.Profile.TheVariants.{Rough}
use Rattle.biphase.specs.Chain.{bits, flat}
use Rattle.ltc_word.specs.Spelled.{spelling_of}
use Rattle.ltc_word.specs.Spelling.{Spells, word_with}
use Rattle.tc_bits.specs.Fields.{flags}
use Rattle.tc_address.specs.declared.count.Count.TheVariants.{C25}
use Rattle.tc_address.specs.declared.direction.Direction.TheVariants.{Forward}
use Rattle.tc_address.specs.declared.system.System.TheVariants.{F25}
use Rattle.direction_reader.specs.declared.event.Event.{Event}
use Rattle.direction_reader.specs.Hissy.{hissy_cells}
use Rattle.direction_reader.specs.ListEvents.{AreEvents}
use Rattle.direction_reader.specs.Played.{Played, low_bits, bits_of_words}
use Rattle.direction_reader.proofs.RoughAlone.{hissy_bits, hissy_event, hissy_is_rough, hissy_is_not_normal}
use Rattle.direction_reader.proofs.RoughAlone.{hissy_is_not_worn}
use Rattle.direction_reader.proofs.laws.a_hissy_word_is_read_by_the_rough_tolerance_alone.Goals as goal

pub returns-clause-rough : goal.returns-clause-rough
returns-clause-rough c = hissy_is_rough

pub returns-clause-normal : goal.returns-clause-normal
returns-clause-normal c = hissy_is_not_normal

pub returns-clause-worn : goal.returns-clause-worn
returns-clause-worn c = hissy_is_not_worn

-- the cells are those of a word that is played forward
pub returns-clause-events : goal.returns-clause-events
returns-clause-events c =
    let word = word_with C25 0 0 0 0 (flags false false false false false) 0 true in
    let played : Played = record { direction = Forward; word = word } in
    let spells = c.words_of_round_labels.ensures.zero_at_25 in
    let own : Spells F25 word (spelling_of word) = c.each_word_has_its_spelling.ensures word spells.valid
    (omega arith) in
    let same : spelling_of word ≡ 0xbffc0800000000000000 =
    c.spelling_is_exact.ensures.one_spelling F25 word _ _ own spells in
    let are : bits hissy_cells ≡ false ∷ true ∷ bits_of_words (played ∷ []) =
    subst (λ (n : ℕ). bits hissy_cells ≡ false ∷ true ∷ (low_bits 80 n ++ [])) (sym same) hissy_bits in
    subst (λ (events : List Event). AreEvents F25 Rough (flat hissy_cells) events) (hissy_event word)
    (c.played_words_are_read.ensures F25 Rough hissy_cells (played ∷ []) hissy_is_rough are (own, tt))

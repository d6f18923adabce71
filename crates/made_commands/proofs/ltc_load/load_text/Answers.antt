use Rattle.std.proofs.Common.{◌≡◌, ◌∙◌, ◌+◌, ◌-◌, ◌++◌, ℕ, suc, false, List, ap, subst, arith}
use Rattle.biphase.specs.declared.profile.Profile.{Profile}
use Rattle.biphase.specs.declared.profile.Profile.TheVariants.{Normal}
use Rattle.biphase.specs.Chain.{flat}
use Rattle.direction_reader.specs.declared.event.Event.{Event}
use Rattle.direction_reader.specs.ListEvents.{AreEvents}
use Rattle.direction_reader.specs.Played.{low_bits}
use Rattle.direction_reader.specs.Tracker.{profile_of}
use Rattle.ltc_word.specs.declared.word.LtcWord.{LtcWord}
use Rattle.ltc_word.specs.Spelled.{spelling_of}
use Rattle.tc_address.specs.declared.system.System.{System}
use Rattle.tc_address.specs.declared.system.System.TheVariants.{F25}
use Rattle.made_commands.specs.declared.chance.Chance.{Chance}
use Rattle.made_commands.specs.declared.ltc_load.Counts.{Counts}
use Rattle.made_commands.specs.KeptLoad.{line_with}
use Rattle.generator.specs.Draw.{drawn}
use Rattle.made_commands.specs.Load.{begins_with, begun, cell_of, cells_by, first_label, load_cells, load_events}
use Rattle.made_commands.specs.Load.{load_line, load_word, next_bits, one_cell}
use Rattle.made_commands.proofs.CountedLabels.{line_of_events}
use Rattle.made_commands.proofs.LoadInPieces.{all_were_read, locked, word_read}
use Rattle.made_commands.proofs.ltc_load.load_text.Goals as goal

-- the lock was read
pub words-init : goal.words-init
words-init c =
    let run = c.args.run.now in
    let none = c.new-tally.ensures.none in
    let first = c.cell.ensures.count in
    let second = c.cell-2.ensures.count in
    let begins : c.new-chance.result ≡ begun run = c.new-chance.ensures.value ∙ ap begins_with c.seed.ensures.value in
    let label = c.first_label-label.ensures.value ∙ ap first_label c.seed-2.ensures.value in
    record {
      chance = c.next_cell-2.ensures.stays;
      label = c.first_label-label.ensures.valid;
      count = c.first_label-label.ensures.count;
      fits = c.cell-2.ensures.fits;
      few = omega (arith, none, first, second);
      reads = (
        _,
        c.cell-2.ensures.reads _ (c.cell.ensures.reads _ c.new-tally.ensures.reads),
        locked run c.next_cell.result c.next_cell-2.result c.next_cell.new.self c.next_cell-2.new.self
            c.first_label-label.result (run.words - 0)
            (c.next_cell.ensures.cell ∙ ap (λ (g : Chance). cell_of false (one_cell g)) begins)
            (c.next_cell.ensures.next ∙ ap one_cell begins)
            c.next_cell-2.ensures.cell c.next_cell-2.ensures.next label (omega arith),
      );
    }

-- a word more
pub words-preserved : goal.words-preserved
words-preserved c =
    let g = c.words.chance in
    let label = c.words.label in
    let left = c.args.run.now.words - (c.words._done + 1) in
    let value : c.draw.result ≡ drawn g.state = c.draw.ensures.value in
    let word = c.load_word-word.ensures.value ∙ ap (λ (n : ℕ). load_word label n) value in
    let list : low_bits 80 c.spelling.result ≡ next_bits g label =
    ap (λ (n : ℕ). low_bits 80 n) (c.spelling.ensures.value ∙ ap (λ (w : LtcWord). spelling_of w) word) in
    let one : suc left ≡ c.args.run.now.words - c.words._done = omega arith in
    let fed = c.words.invariant.reads in
    let few = c.words.invariant.few in
    let more = c.bits.ensures.count in
    record {
      chance = c.bits.ensures.chance;
      label = c.advance-label.ensures.valid;
      count = c.advance-label.ensures.count ∙ c.words.invariant.count;
      fits = c.bits.ensures.fits;
      few = omega (arith, few, more);
      reads = (
        fed.0 ++ flat (cells_by c.draw.new.self (low_bits 80 c.spelling.result)),
        c.bits.ensures.reads fed.0 fed.1,
        word_read g c.draw.new.self c.bits.new.chance label c.advance-label.result (low_bits 80 c.spelling.result) left
            (c.args.run.now.words - c.words._done)
            fed.0 (flat (load_cells c.args.run.now)) c.draw.ensures.next list c.bits.ensures.next
            c.advance-label.ensures.label one fed.2,
      );
    }

-- what was counted are the events of the recording
pub returns : goal.returns
returns c =
    let run = c.args.run.now in
    let none : run.words - c.words._done ≡ 0 = omega arith in
    let fed = c.words.invariant.reads in
    let all = all_were_read c.words.chance c.words.label (run.words - c.words._done) fed.0 (flat (load_cells run)) none
    fed.2 in
    let read = fed.1 in
    let reader = c.words.tally.reader in
    let events = c.a_reader_gives_the_events_of_its_list.ensures reader fed.0 read.events read.stands in
    let at_25 = subst (λ (s : System). AreEvents s (profile_of reader.tracker) fed.0 read.events) read.system events in
    let normal = subst (λ (p : Profile). AreEvents F25 p fed.0 read.events) read.profile at_25 in
    let whole = subst (λ (l : List ℕ). AreEvents F25 Normal l read.events) all normal in
    let same = c.a_list_has_one_list_of_events.ensures F25 Normal (flat (load_cells run)) read.events (load_events run)
    whole c.is_all_read.ensures.events in
    c.line.ensures ∙ ap (λ (n : Counts). line_with run n) read.counts ∙ line_of_events run read.events
    ∙ ap (λ (e : List Event). load_line run e) same

use Rattle.std.proofs.Common.{◌≡◌, ◌∙◌, ap, sym, subst}
use Rattle.tc_address.specs.Label.{Address, IsLabel}
use Rattle.made_commands.specs.Load.{first_label}
use Rattle.made_commands.proofs.LoadIsRead.{load_is_read}
use Rattle.made_commands.proofs.ltc_load.is_all_read.Goals as goal

-- each word is read
pub returns : goal.returns
returns c =
    let run = c.args.run.now in
    let same : c.first_label-label.result ≡ first_label run.seed = c.first_label-label.ensures.value
    ∙ ap first_label c.seed.ensures.value in
    let valid = subst (λ (a : Address). IsLabel a) same c.first_label-label.ensures.valid in
    let is_25 = sym (ap (λ (a : Address). a.count) same) ∙ c.first_label-label.ensures.count in
    load_is_read c.steps_lead_to_labels.ensures c.each_word_has_its_spelling.ensures c.played_words_are_read.ensures run
    valid is_25

use Rattle.std.proofs.Common.{◌<◌, ◌^◌, ◌%◌, ℕ, drop, ap, ◌∙◌, arith, rules}
use Rattle.std.proofs.lemmas.Grind.{common_steps}
use Rattle.tc_address.specs.Count.{system_with}
use Rattle.vitc_line.specs.Spelled.{line_of}
use Rattle.vitc_reader.specs.Written.{runs_in}
use Rattle.tc_c.proofs.BytesOn.{front_is}
use Rattle.tc_c.proofs.line_runs.write_runs.Goals as goal

-- the sync pair in front begins high
pub runs_of-made-requires-clause-high : goal.runs_of-made-requires-clause-high
runs_of-made-requires-clause-high c =
    let word = c.args.word.now in
    let small : word.fields.user < 2 ^ 32 = search rules in
    let laws = c.each_word_has_its_line.ensures in
    let same = c.spelling_is_exact.ensures.one_spelling (system_with word.fields.label.count) word c.encode.result
    (line_of word) c.encode.ensures (laws.spells word c.encode.ensures.valid small) in
    ap (λ (n : ℕ). n % 2) same ∙ laws.odd word c.encode.ensures.valid small

-- what was copied are the runs of the line
pub returns-clause-writes : goal.returns-clause-writes
returns-clause-writes c =
    let word = c.args.word.now in
    let small : word.fields.user < 2 ^ 32 = search rules in
    let laws = c.each_word_has_its_line.ensures in
    let same = c.spelling_is_exact.ensures.one_spelling (system_with word.fields.label.count) word c.encode.result
    (line_of word) c.encode.ensures (laws.spells word c.encode.ensures.valid small) in
    let made = c.runs_of-made.result in
    front_is made c.copy_from_slice.new.self (drop made c.args.runs.now) c.runs_of-made.new.runs
    c.copy_from_slice.ensures.after
    (grind (arith, common_steps, c.runs_of-made.ensures.number, c.runs_of-made.array_long))
    ∙ c.runs_of-made.ensures.exact ∙ ap (λ (n : ℕ). runs_in c.args.line_length n) same

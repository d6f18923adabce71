use Rattle.std.proofs.Common.{◌≡◌, ◌<◌, ◌^◌, ◌%◌, ◌++◌, ◌∷◌, [], ℕ, List, length, take, ap, sym, ◌∙◌, arith, rules}
use Rattle.std.specs.List.{flat_map}
use Rattle.std.proofs.lemmas.List.{length-take-le}
use Rattle.byteorder.specs.Endian.{big_bytes}
use Rattle.line_file.specs.Grammar.{line_bytes}
use Rattle.tc_address.specs.Count.{system_with}
use Rattle.vitc_line.specs.Spelled.{line_of}
use Rattle.vitc_reader.specs.Written.{runs_in}
use Rattle.made_commands.proofs.vitc_make.line_with.Goals as goal

-- the sync pair in front begins high
pub runs_of-number-requires-clause-high : goal.runs_of-number-requires-clause-high
runs_of-number-requires-clause-high c =
    let word = c.args.word.now in
    let small : word.fields.user < 2 ^ 32 = search rules in
    let laws = c.each_word_has_its_line.ensures in
    let same = c.spelling_is_exact.ensures.one_spelling (system_with word.fields.label.count) word c.encode.result
    (line_of word) c.encode.ensures
    (laws.spells word c.encode.ensures.valid small) in
    ap (λ (n : ℕ). n % 2) same ∙ laws.odd word c.encode.ensures.valid small

-- the number of the runs, and then they
line_of_runs : (items pushed base : List ℕ) (number : ℕ) (runs : List ℕ) → items ≡ pushed ++ flat_map (big_bytes 2) runs
    → pushed ≡ base ++ number ∷ [] → base ≡ [] → number ≡ length runs → items ≡ line_bytes runs
line_of_runs items pushed base number runs are push new long =
    are ∙ ap (λ (l : List ℕ). l ++ flat_map (big_bytes 2) runs) (push ∙ ap (λ (l : List ℕ). l ++ number ∷ []) new)
    ∙ ap (λ (n : ℕ). n ∷ flat_map (big_bytes 2) runs) long

pub returns : goal.returns
returns c =
    let word = c.args.word.now in
    let small : word.fields.user < 2 ^ 32 = search rules in
    let laws = c.each_word_has_its_line.ensures in
    let same = c.spelling_is_exact.ensures.one_spelling (system_with word.fields.label.count) word c.encode.result
    (line_of word) c.encode.ensures
    (laws.spells word c.encode.ensures.valid small) in
    let runs = take c.runs_of-number.result c.runs_of-number.new.runs in
    line_of_runs c.push_runs.new.line.items c.push.new.self.items c.new-line.result.items c.runs_of-number.result runs
    c.push_runs.ensures
    c.push.ensures.items c.new-line.ensures
    (sym (length-take-le c.runs_of-number.result c.runs_of-number.new.runs
    (omega (arith, c.runs_of-number.ensures.number, c.runs_of-number.array_long))))
    ∙ ap line_bytes (c.runs_of-number.ensures.exact ∙ ap (λ (n : ℕ). runs_in c.args.length n) same)

use Rattle.std.proofs.Common.{◌<◌, length, map, string_bytes}
use Rattle.std.proofs.lemmas.List.{length-map}
use Rattle.std.proofs.lemmas.Result.{IfErr-weaker, IfOk-weaker}
use Rattle.command_words.proofs.PlainWords.{found_line, takes_line}
use Rattle.command_words.proofs.command_line.matches.Goals as goal

-- the words have no dash, and are as many as before
pub returns-clause-found : goal.returns-clause-found
returns-clause-found c =
    let words = map string_bytes c.args.words.now in
    let some : 0 < length words = rw length-map c.requires.some in
    IfOk-weaker c.try_get_matches_from.result _ _
    (λ m has. found_line _ m words c.in_ok-grammar.ensures some c.requires.plain has)
    c.try_get_matches_from.ensures.matches

-- clap takes them, so it fails for lack of memory alone
pub returns-clause-memory : goal.returns-clause-memory
returns-clause-memory c = λ fits.
    let words = map string_bytes c.args.words.now in
    let some : 0 < length words = rw length-map c.requires.some in
    IfErr-weaker c.try_get_matches_from.result _ _
    (λ error passes. passes (takes_line _ words c.in_ok-grammar.ensures some (rw length-map fits) c.requires.plain))
    c.try_get_matches_from.ensures.passes

use Rattle.ltc_word.proofs.writing.spelling.Goals as goal

-- a word has one spelling
pub returns-clause-value : goal.returns-clause-value
returns-clause-value c =
    c.spelling_is_exact.ensures.one_spelling _ c.args.word.now _ _ c.encode.ensures
    (c.each_word_has_its_spelling.ensures c.args.word.now c.encode.ensures.valid c.encode.ensures.user.no_more)

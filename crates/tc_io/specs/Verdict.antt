-- What the grammar of an input and its limit make of bytes, whatever follows them.

-- good so far; refused for a fault that is shown; or past the limit, with no fault before
pub data Verdict (F : Type 0) : Type 0 where
  good : Verdict F
  refused : F → Verdict F
  past_limit : Verdict F

-- the same, where the fault of a file is a fault of an input
abbrev pub verdict_as : {F G : Type 0} → (F → G) → Verdict F → Verdict G
verdict_as name good = good
verdict_as name (refused fault) = refused (name fault)
verdict_as name past_limit = past_limit

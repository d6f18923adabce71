-- Bytes that are put one after another were pushed or are gathered, all of them in order; and a push that fails
-- leaves a front of them.
use Rattle.std.proofs.Common.{◌≡◌, ℕ, ◌+◌, Bool, true, false, List, [], ◌∷◌, ◌++◌, replicate, refl, sym}
use Rattle.std.proofs.Common.{◌∙◌, ap, arith}
use Rattle.std.proofs.lemmas.Grind.{flat_map-append}
use Rattle.std.proofs.lemmas.List.{replicate-append-replicate}
use Rattle.std.proofs.Math.Nat.{zero-div}
use Rattle.std.specs.Option.{option_to_list}
use Rattle.pcm_front.specs.declared.interval.Intervals.{Intervals}
use Rattle.pcm_front.specs.declared.pace.Pace.{Pace}
use Rattle.pcm_front.specs.declared.pace.Pace.TheVariants.{Ended, Passing}
use Rattle.pcm_front.specs.Pace.{begun, intervals_in, IsPace}
use Rattle.tc_address.specs.declared.system.System.{System}
use Rattle.interval_file.specs.declared.header.FileVersion.TheVariants.{One}
use Rattle.interval_file.specs.Grammar.{intervals_bytes}
use Rattle.interval_file.specs.Piece.{spelling}
use Rattle.tc_job.specs.Pace.{pace_of}

-- ---- intervals of one length

-- one more
pub one_piece : (length count : ℕ) → intervals_bytes One (replicate (count + 1) length) ≡ intervals_bytes One
    (replicate count length) ++ spelling One length
one_piece length count =
    ap (intervals_bytes One) (sym (replicate-append-replicate count 1 length))
    ∙ flat_map-append (spelling One) (replicate count length) (length ∷ [])

-- ---- the intervals that samples brought

-- in three parts
pub three_parts : (p : Intervals) → intervals_bytes One (intervals_in p)
    ≡ intervals_bytes One (replicate p.whole p.length)
    ++ (intervals_bytes One (option_to_list p.rest) ++ intervals_bytes One (replicate p.begun p.length))
three_parts p =
    let first = replicate p.whole p.length in
    flat_map-append (spelling One) first (option_to_list p.rest ++ replicate p.begun p.length)
    ∙ ap (λ (l : List ℕ). intervals_bytes One first ++ l)
    (flat_map-append (spelling One) (option_to_list p.rest) (replicate p.begun p.length))

-- nothing has begun if nothing has passed
pub none_begun : (pace : Pace) → begun pace 0 ≡ []
none_begun Ended = refl
none_begun (Passing length) = ap (λ n. replicate n length) (zero-div length)

-- the length of the pieces is that of an interval
pub is_pace : (live : Bool) (system : System) (rate : ℕ) → IsPace (pace_of live system rate)
is_pace true system rate = (omega arith, omega arith)
is_pace false system rate = (omega arith, omega arith)

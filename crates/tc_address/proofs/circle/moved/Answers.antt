use Rattle.std.proofs.Common.{◌≡◌, ◌+◌, ◌%◌, ap, ◌∙◌, arith, w64, to_z, of_z, pos}
use Rattle.std.specs.Prelude.{unsigned_abs}
use Rattle.std.specs.Int.{int_rem_euclid}
use Rattle.std.proofs.lemmas.Int.{ints}
use Rattle.tc_address.proofs.AroundTheDay.{moved_by_rest}
use Rattle.tc_address.proofs.circle.moved.Goals as goal

-- the rest of the steps is taken, and whole turns change no place
pub returns : goal.returns
returns c =
    let steps : to_z w64 (of_z w64 c.args.steps) ≡ c.args.steps = omega (arith, ints) in
    let day : to_z w64 (of_z w64 c.from.result) ≡ pos c.args.day = omega (arith, ints) in
    let rest : c.rem_euclid-ahead.result ≡ int_rem_euclid c.args.steps (pos c.args.day) =
    rw (steps, day) at c.rem_euclid-ahead.ensures.value in
    let cast : to_z w64 (of_z w64 c.rem_euclid-ahead.result) ≡ c.rem_euclid-ahead.result = omega (arith, ints) in
    ap (λ z. (c.args.place + unsigned_abs z) % c.args.day) (cast ∙ rest) ∙ moved_by_rest _ _ _ (omega arith)

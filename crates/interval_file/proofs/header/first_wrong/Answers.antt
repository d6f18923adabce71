use Rattle.std.proofs.Common.{◌<◌, ◌∙◌, ap, arith, length, take, sym}
use Rattle.std.proofs.lemmas.List.{length-take, get_or-take}
use Rattle.interval_file.specs.Grammar.{fault_at}
use Rattle.interval_file.proofs.HeaderRead.{next_stands}
use Rattle.interval_file.proofs.header.first_wrong.Goals as goal

-- the next byte may stand
pub head-preserved : goal.head-preserved
head-preserved c =
    let i = c.head.invariant in
    let place = c.head.place in
    let bytes = c.args.bytes.now in
    let short : place < 8 = let test = c.head-test.true in let head = i.head in omega arith in
    let there : place < length (take 8 bytes) =
    let test = c.head-test.true in let head = i.head in omega (arith, length-take 8 bytes) in
    record {
      head = i.head;
      within = (let test = c.head-test.true in omega (arith, test));
      rest = i.rest ∙ next_stands (take 8 bytes) place there
          (ap (λ byte. fault_at place byte) (get_or-take 8 bytes place 0 short) ∙ sym c.fault_at.ensures ∙ c.in_default.is);
    }

use Rattle.std.proofs.Common.{◌≡◌, ◌+◌, ◌<◌, arith, ap, subst, sym, ◌∙◌, get_or, Some, drop, length}
use Rattle.cell_path.specs.declared.lengths.TheConstants.{LENGTHS}
use Rattle.cell_path.specs.KeptMarks.{marks_ago, point_before, GoesBack, MarksState}
use Rattle.cell_path.specs.Lengths.{length_in}
use Rattle.cell_path.specs.Marks.{marked_way, IsMarked}
use Rattle.cell_path.specs.Path.{sign_before}
use Rattle.cell_path.proofs.GoesBack.{cell_of, goes_to_first, goes_to_point}
use Rattle.cell_path.proofs.marks.Marks.back.Goals as goal

pub returns-then-self-ago-clause-back : goal.returns-then-self-ago-clause-back
returns-then-self-ago-clause-back c = λ steps path stand within best.
    let count = ap (λ (s : MarksState). s.count) c.self.view_is in
    let here : IsMarked c.ago.result.now (drop c.args.at.ago steps) =
    subst (λ m. IsMarked m (drop c.args.at.ago steps)) (sym c.ago.ensures.value)
    (stand.marked c.args.at.ago (omega (arith, c.requires.ago)) within) in
    goes_to_first steps c.args.at.ago c.args.at.place c.args.at.sign c.bit_of-bit.result path c.ago.result.now here
    c.requires.place
    c.bit_of-bit.ensures best (omega (arith, count, stand.count, c.length_at.ensures.value, c.if-self-ago.true))

pub returns-clause-back : goal.returns-clause-back
returns-clause-back c = λ steps path stand within best.
    let count = ap (λ (s : MarksState). s.count) c.self.view_is in
    let n = length_in LENGTHS c.args.at.place in
    let long = c.length_at.ensures in
    let q = sign_before c.bit_of-bit.result c.args.at.sign in
    let here : IsMarked c.ago.result.now (drop c.args.at.ago steps) =
    subst (λ m. IsMarked m (drop c.args.at.ago steps)) (sym c.ago.ensures.value)
    (stand.marked c.args.at.ago (omega (arith, c.requires.ago)) within) in
    let left : c.args.at.ago + n < length steps = omega (arith, count, stand.count, long.value, c.if-self-ago.false) in
    let at : c.args.at.ago + c.length_at.result ≡ c.args.at.ago + n = ap (λ k. c.args.at.ago + k) long.value in
    let near : c.args.at.ago + n < 4_096 = omega (arith, c.requires.ago, long.value, long.most) in
    let there : IsMarked c.ago-there.result.now (drop (c.args.at.ago + n) steps) =
    subst (λ m. IsMarked m (drop (c.args.at.ago + n) steps))
    (sym (c.ago-there.ensures.value ∙ ap (marks_ago c.args.self.now) at))
    (stand.marked (c.args.at.ago + n) near left) in
    let sign = c.sign_before-sign.ensures in
    let way = c.way_of-way.ensures ∙ ap (marked_way (get_or c.ago-there.result.now.marks c.args.at.place 0)) sign in
    let goes = goes_to_point steps c.args.at.ago c.args.at.place c.args.at.sign c.bit_of-bit.result c.way_of-way.result
    path c.ago.result.now c.ago-there.result.now
    here there c.requires.place c.bit_of-bit.ensures way best left in
    let point : c.point_before.result ≡ point_before c.way_of-way.result (c.args.at.ago + n) c.args.at.place q
    c.ago-there.result.now =
    c.point_before.ensures.point
    ∙ ap (λ k. point_before c.way_of-way.result k c.args.at.place c.sign_before-sign.result c.ago-there.result.now) at
    ∙ ap (λ s. point_before c.way_of-way.result (c.args.at.ago + n) c.args.at.place s c.ago-there.result.now) sign in
    subst (λ p. GoesBack steps path
    (record {
      cell = cell_of c.args.at.place c.bit_of-bit.result c.args.at.sign c.way_of-way.result;
      before =
          Some p;
    })) (sym point) goes

use Rattle.std.proofs.Common.{◌≡◌, ◌+◌, ◌-◌, ◌≤◌, ◌∙◌, ap, sym, arith, take, drop, length}
use Rattle.std.proofs.lemmas.List.{drop-take, length-drop, length-take-le}
use Rattle.std.proofs.lemmas.List.Edits.{take-paste}
use Rattle.std.proofs.Math.Seq.{paste}
use Rattle.tc_command.proofs.inlet.Inlet.leave_out.Goals as goal

-- the bytes behind those come to the front
pub returns : goal.returns
returns c =
    let n = c.args.count in
    let count = c.self.inside.count in
    let room = c.self.inside.room in
    let all : length (take count room) ≡ count = length-take-le count room (omega (arith, c.self.invariant)) in
    let few : n ≤ count = omega (arith, all, ap length c.self.view_is, c.requires) in
    let left = count - n in
    let here : 0 + left ≡ left = omega arith in
    let whole : n + left ≡ count = omega (arith, few) in
    let rest = length-drop n room in
    ap (λ l. take left l) c.copy_within.ensures.after
    ∙ sym (ap (λ k. take k (paste room 0 (drop n room) left)) here)
    ∙ take-paste room 0 (drop n room) left (omega arith) (omega (arith, rest, c.self.invariant))
    ∙ sym (drop-take n left room) ∙ ap (λ k. drop n (take k room)) whole ∙ ap (drop n) c.self.view_is

use Rattle.std.proofs.Common.{◌≡◌, ◌+◌, ◌-◌, ◌++◌, ◌∙◌, ap, sym, arith, take, length}
use Rattle.std.proofs.lemmas.List.{length-take-le, take-append-le}
use Rattle.std.proofs.Math.Seq.{take-append-add}
use borrow.Rule.Slice.PartMut.{post_of}
use Rattle.tc_command.proofs.inlet.Inlet.pull.Goals as goal

-- the bytes that were pulled stand behind those that were there
pub returns-clause-bytes : goal.returns-clause-bytes
returns-clause-bytes g c =
    let n = c.in_ok-count.count in
    let before = c.self.inside.count in
    let room = c.self.inside.room in
    let read = c.pull.new.buf in
    let e = c.in_ok-count.ensures in
    let there = take before room in
    let behind = post_of before (before + 4096 - before) room in
    let long : length there ≡ before = length-take-le before room (omega (arith, c.self.invariant)) in
    let all : take (before + n) (there ++ (read ++ behind)) ≡ there ++ take n read =
    ap (λ k. take (k + n) (there ++ (read ++ behind))) (sym long)
    ∙ take-append-add there (read ++ behind) n
    ∙ ap (λ l. there ++ l) (take-append-le n read behind e.bound.0) in (
      take n read,
      all ∙ ap (λ l. l ++ take n read) c.self.view_is,
      length-take-le n read e.bound.0,
      e.bytes.0,
      λ none. e.bytes.1 none (omega (arith, c.pull.auto.buf)),
    )

use Rattle.std.proofs.Common.{◌+◌, [], sym, ap, subst, ◌∙◌, append-nil, arith}
use Rattle.mtc_reader.specs.declared.reader.MtcReader.{MtcReader}
use Rattle.mtc_reader.proofs.PieceByPiece.{behind_passed, nothing_yet, no_event, passes_none, passes_rest, Passes}
use Rattle.lemmas.specs.Lists.{within_rest}
use Rattle.mtc_reader.proofs.reader.MtcReader.take.Goals as goal

-- no window was taken
pub bytes-init : goal.bytes-init
bytes-init c =
    let same = c.window.ensures.stays c.in_default.is in
    record {
      within = omega arith;
      count = omega (arith, ap (λ (r : MtcReader). r.bytes) same);
      passes = subst (λ (r : MtcReader). Passes c.args.self.now r []) (sym same) (nothing_yet c.args.self.now);
    }

-- an event with the bytes behind those that gave none
pub returns-then-is_some-clause-stands : goal.returns-then-is_some-clause-stands
returns-then-is_some-clause-stands c = λ front stands.
    let p = c.passed-at.ensures in
    let e = c.next-count.ensures in
    (behind_passed c.args.self.now c.bytes.self c.passed-at.new.self c.next-count.new.self c.bytes.at c.passed-at.result
    c.next-count.result.0
    c.args.bytes.now c.next-count.result.1 c.bytes.invariant.passes p.stands p.none e.stands e.gives front stands).0

pub returns-then-is_some-clause-gives : goal.returns-then-is_some-clause-gives
returns-then-is_some-clause-gives c = λ front stands.
    let p = c.passed-at.ensures in
    let e = c.next-count.ensures in
    (behind_passed c.args.self.now c.bytes.self c.passed-at.new.self c.next-count.new.self c.bytes.at c.passed-at.result
    c.next-count.result.0
    c.args.bytes.now c.next-count.result.1 c.bytes.invariant.passes p.stands p.none e.stands e.gives front stands).1

-- no event with them
pub bytes-preserved : goal.bytes-preserved
bytes-preserved c =
    let p = c.passed-at.ensures in
    let e = c.next-count.ensures in
    let i = c.bytes.invariant in
    let event = c.next-count.result.1 in
    let passed = within_rest c.bytes.at c.passed-at.result c.args.bytes.now i.within p.most in
    let gives = behind_passed c.args.self.now c.bytes.self c.passed-at.new.self c.next-count.new.self c.bytes.at
    c.passed-at.result c.next-count.result.0
    c.args.bytes.now event i.passes p.stands p.none e.stands e.gives in
    record {
      within = within_rest (c.bytes.at + c.passed-at.result) c.next-count.result.0 c.args.bytes.now passed e.most;
      count = omega (arith, e.count, p.count, i.count);
      passes = passes_none c.args.self.now c.next-count.new.self _ event
          (no_event event (sym c.is_some.ensures ∙ c.if-is_some.false)) gives;
    }

-- the window and its event
pub returns-in-Some-clause-stands : goal.returns-in-Some-clause-stands
returns-in-Some-clause-stands c = λ front stands. (c.in-Some.ensures.takes front stands).0

pub returns-in-Some-clause-gives : goal.returns-in-Some-clause-gives
returns-in-Some-clause-gives c = λ front stands. (c.in-Some.ensures.takes front stands).1

-- all bytes, and no event
pub returns-then-at-bytes-clause-stands : goal.returns-then-at-bytes-clause-stands
returns-then-at-bytes-clause-stands c = λ front stands.
    let p = c.passed-at.ensures in
    (passes_rest c.args.self.now c.bytes.self c.passed-at.new.self c.bytes.at c.passed-at.result c.args.bytes.now
    c.bytes.invariant.passes p.stands p.none front stands).0

pub returns-then-at-bytes-clause-gives : goal.returns-then-at-bytes-clause-gives
returns-then-at-bytes-clause-gives c = λ front stands.
    let p = c.passed-at.ensures in
    (passes_rest c.args.self.now c.bytes.self c.passed-at.new.self c.bytes.at c.passed-at.result c.args.bytes.now
    c.bytes.invariant.passes p.stands p.none front stands).1 ∙ sym (append-nil _)

pub returns-clause-stands : goal.returns-clause-stands
returns-clause-stands c = λ front stands. (c.bytes.invariant.passes front stands).0

pub returns-clause-gives : goal.returns-clause-gives
returns-clause-gives c = λ front stands. (c.bytes.invariant.passes front stands).1 ∙ sym (append-nil _)

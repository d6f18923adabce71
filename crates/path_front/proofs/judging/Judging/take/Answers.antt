use Rattle.std.proofs.Common.{◌≡◌, false, subst, sym, ◌∙◌}
use Rattle.path_front.specs.Judging.{is_drain, GivesNone, JudgingState, Takes}
use Rattle.path_front.proofs.JudgingNext.{judges_next, judging, none_left, not_rest, waits, waits_less}
use Rattle.path_front.proofs.judging.Judging.take.Goals.{in-Some-feed, in-None}
use Rattle.path_front.proofs.judging.Judging.take.Goals as goal

pub returns-in_default-clause-takes : goal.returns-in_default-clause-takes
returns-in_default-clause-takes c =
    let i = c.self.inside in
    let now = c.next.new.self in
    let e = c.in_default.ensures in
    let closed_is = c.closed-self-inside.ensures in
    let none = none_left i.phase i.cells now i.gate (sym c.if-is_drain.ensures) e.gives e.rest e.same e.most in (
      subst (λ (s : JudgingState). GivesNone s (judging now i.gate c.closed-self-inside.result)) c.self.view_is
          (subst (λ p. GivesNone (judging i.cells i.gate i.phase) (judging now i.gate p)) (sym closed_is) none),
      λ sound. e.none,
      λ rest. not_rest i.phase (sym closed_is ∙ rest),
    )

pub returns-clause-takes : goal.returns-clause-takes
returns-clause-takes c =
    let i = c.self.inside in
    let now = c.next.new.self in
    let next = c.feed.new.self in
    let cell = c.in-Some.cell in
    let e = c.in-Some.ensures in
    let opened : is_drain i.phase ≡ false = sym c.if-is_drain.ensures in
    let new = judging now next i.phase in
    elim c.match-feed.branch [
      | in-Some-feed w ↦
          let f = w.in-Some-feed.ensures in
          subst (λ (s : JudgingState). Takes s new c.match-feed.result) c.self.view_is
          (subst (λ r. Takes (judging i.cells i.gate i.phase) new r) (sym w.result-is)
          (judges_next i.phase i.cells now i.gate next cell w.in-Some-feed.judged opened e.gives e.rest e.same f.ear
          f.front f.judges f.cell e.less f.eight))
      | in-None w ↦
          let f = w.in-None.ensures in
          subst (λ (s : JudgingState). Takes s new c.match-feed.result) c.self.view_is
          (subst (λ r. Takes (judging i.cells i.gate i.phase) new r) (sym w.result-is) (
            waits i.phase i.cells now i.gate next cell opened e.gives e.rest e.same f.ear f.waits f.stands e.less
                f.room,
            waits_less i.phase i.cells now i.gate next cell f.waits e.less,
          ))
    ]

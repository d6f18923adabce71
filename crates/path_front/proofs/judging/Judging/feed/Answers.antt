use Rattle.std.proofs.Common.{rules, ◌≡◌, ◌∷◌, ◌++◌, replicate, reverse, FitsSigned, to_z-of_z, ap, ap₂, subst, sym}
use Rattle.std.proofs.Common.{◌∙◌}
use Rattle.std.specs.Int.{w16}
use Rattle.path_front.specs.declared.judging.Phase.TheVariants.{Sound}
use Rattle.path_front.specs.Cells.{sounds_in, CellsStandFor}
use Rattle.path_front.specs.Gate.{ear_of}
use Rattle.path_front.specs.Judging.{CellsIn, JudgingState, JudgingStandFor}
use Rattle.path_front.specs.Steps.{sounds_of}
use Rattle.path_front.proofs.CellsNext.{cells_stay, sounds_more}
use Rattle.path_front.proofs.judging.Judging.feed.Goals as goal

pub returns-clause-stands : goal.returns-clause-stands
returns-clause-stands c = λ samples judged stand_now.
    let i = c.self.inside in
    let stand = subst (λ s. JudgingStandFor s samples judged) (sym c.self.view_is) stand_now in
    let sample = c.args.sample in
    let phase : i.phase ≡ Sound = ap (λ (s : JudgingState). s.phase) c.self.view_is ∙ c.requires.phase in
    let cells : CellsStandFor i.cells samples stand.given =
    subst (λ p. CellsIn p i.cells samples stand.given) phase stand.cells in
    let e = c.feed.ensures in
    let a : FitsSigned w16 sample = search rules in
    let stands = rw (to_z-of_z a) at e.stands in
    let more = sounds_more i.cells.steps.grid i.cells.steps.hold.least sample samples in
    let now : sounds_in c.feed.new.self (sample ∷ samples) ≡ more.0 ++ sounds_in i.cells samples =
    ap₂ (λ g n. sounds_of g n (sample ∷ samples)) e.grid e.least ∙ more.1 in
    record {
      given = stand.given;
      cells = subst (λ p. CellsIn p c.feed.new.self (sample ∷ samples) stand.given) (sym phase)
          (stands samples stand.given cells);
      gate = stand.gate;
      ear = stand.ear ∙ sym (ap₂ ear_of e.grid e.least);
      order = stand.order ∙ ap reverse (sym (cells_stay (sounds_in i.cells samples)
          (sounds_in c.feed.new.self (sample ∷ samples)) cells.sounds
          (replicate i.cells.steps.left i.cells.steps.latest) more.0 stand.given cells.steps.all now cells.within));
      few = stand.few;
      eight = λ is some. stand.eight is some;
    }

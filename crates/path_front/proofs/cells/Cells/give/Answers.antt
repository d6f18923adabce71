use Rattle.std.proofs.Common.{◌≡◌, ◌≤◌, length, replicate, ap, subst, sym, ◌∙◌, arith}
use Rattle.cell_path.specs.Decided.{end_behind}
use Rattle.cell_path.specs.Decisions.{last_end}
use Rattle.path_front.specs.Cells.{cell_behind, plain, CellsEndFor, CellsStandFor}
use Rattle.path_front.specs.Measured.{measured_of}
use Rattle.path_front.specs.Steps.{path_steps, sounds_of}
use Rattle.path_front.proofs.CellsNext.{cell_more, last_is, plain_length}
use Rattle.path_front.proofs.cells.Cells.give.Goals as goal

pub returns-clause-gives : goal.returns-clause-gives
returns-clause-gives c = λ samples given stand_now.
    let i = c.self.inside in
    let stand = subst (λ s. CellsStandFor s samples given) (sym c.self.view_is) stand_now in
    let sounds = stand.sounds in
    let d = c.in_ok-decided.decided in
    let near = c.in_ok-decided.ensures.near in
    let g = c.in_ok-decided.ensures.gives (path_steps sounds) given stand.decisions in
    let ended : i.ended ≡ end_behind 0 given =
    c.self.invariant.ended ∙ ap last_end stand.decisions.last ∙ last_is given in
    let many = plain_length sounds in
    let within : d.placed.end ≤ length sounds =
    omega (arith, near.come, c.in_ok-decided.ensures.count, c.self.invariant.latest, stand.latest.count, many) in
    let here : c.measure-cell.result ≡ cell_behind sounds d.placed given =
    c.measure-cell.ensures.value (plain sounds) stand.latest ∙ ap (λ e. measured_of d e (plain sounds)) ended
    ∙ ap (λ j. measured_of (record { placed = d.placed; jumps = j }) (end_behind 0 given) (plain sounds)) g.0 in
    let cell = here ∙ sym (cell_more (replicate i.steps.left i.steps.latest) sounds d.placed given within)
    ∙ ap (λ s. cell_behind s d.placed given) stand.steps.all in (
      d.placed,
      cell,
      record {
        sounds = sounds;
        steps = stand.steps;
        latest = stand.latest;
        decisions = g.1;
        within = (within, stand.within);
      },
    )

pub returns-clause-rest : goal.returns-clause-rest
returns-clause-rest c = λ samples given stand_now.
    let i = c.self.inside in
    let stand = subst (λ s. CellsEndFor s samples given) (sym c.self.view_is) stand_now in
    let sounds = sounds_of i.steps.grid i.steps.hold.least samples in
    let d = c.in_ok-decided.decided in
    let g = c.in_ok-decided.ensures.rest (path_steps sounds) given stand.decisions in
    let ended : i.ended ≡ end_behind 0 given =
    c.self.invariant.ended ∙ ap last_end stand.decisions.last ∙ last_is given in
    let here : c.measure-cell.result ≡ cell_behind sounds d.placed given =
    c.measure-cell.ensures.value (plain sounds) stand.latest ∙ ap (λ e. measured_of d e (plain sounds)) ended
    ∙ ap (λ j. measured_of (record { placed = d.placed; jumps = j }) (end_behind 0 given) (plain sounds)) g.0 in
    (d.placed, here, record { left = stand.left; latest = stand.latest; decisions = g.1 })

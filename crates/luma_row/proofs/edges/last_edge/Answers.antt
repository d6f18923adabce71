use Rattle.std.proofs.Common.{◌≡◌, ℕ, suc, ◌+◌, ◌-◌, length, refl, sym, subst, arith}
use Rattle.luma_row.specs.Edges.{nine_cells, IsNextEdge, LeadsTo}
use Rattle.luma_row.proofs.NextEdge.{leads_from, leads_nowhere, leads_on}
use Rattle.luma_row.proofs.edges.last_edge.Goals as goal

nine_are : (row_length width nine : ℕ) → width ≡ row_length → nine ≡ nine_cells width → nine ≡ nine_cells row_length
nine_are row_length width nine long is = subst (λ (n : ℕ). nine ≡ nine_cells n) long is

pub returns-in-None-clause-none : goal.returns-in-None-clause-none
returns-in-None-clause-none c =
    let row = c.args.row.now in
    let nine = nine_are (length row) c.width_of.result c.nine_cells-nine.result c.width_of.ensures.value
    c.nine_cells-nine.ensures.value in
    let none = c.in-None.ensures.none in
    λ last leads. leads_nowhere row (9 - c.loop-edge.edge) c.loop-edge.last last
    (omega (arith, c.loop-edge-test.true))
    (λ next is. none next (subst (λ (n : ℕ). IsNextEdge row (c.loop-edge.last + n) next) (sym nine) is))
    (c.loop-edge.invariant.4 last leads)

pub loop-edge-preserved : goal.loop-edge-preserved
loop-edge-preserved c =
    let row = c.args.row.now in
    let at = c.loop-edge in
    let i = c.loop-edge.invariant in
    let nine = nine_are (length row) c.width_of.result c.nine_cells-nine.result c.width_of.ensures.value
    c.nine_cells-nine.ensures.value in
    let next = subst (λ (n : ℕ). IsNextEdge row (c.loop-edge.last + n) c.in-Some.next) nine c.in-Some.ensures.some in
    let behind = next.behind in
    let more : 9 - c.loop-edge.edge ≡ suc (9 - (c.loop-edge.edge + 1)) = omega (arith, c.loop-edge-test.true) in (
      omega arith,
      omega (arith, c.loop-edge-test.true),
      omega (arith, i.2, behind),
      next.within,
      λ end leads. leads_on row (9 - (c.loop-edge.edge + 1)) (9 - c.loop-edge.edge) c.loop-edge.last c.in-Some.next end
          more next (i.4 end leads),
      λ end leads. i.5 end
          (leads_from row (9 - (c.loop-edge.edge + 1)) (9 - c.loop-edge.edge) c.loop-edge.last c.in-Some.next end more
          next leads),
    )

pub returns-clause-some : goal.returns-clause-some
returns-clause-some c =
    let i = c.loop-edge.invariant in
    let all : 9 - c.loop-edge.edge ≡ 0 = omega (arith, c.loop-edge-test.false) in
    i.5 c.loop-edge.last (subst (λ (n : ℕ). LeadsTo c.args.row.now n c.loop-edge.last c.loop-edge.last) (sym all) refl)

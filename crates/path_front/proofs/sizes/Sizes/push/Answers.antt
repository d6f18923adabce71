use Rattle.std.proofs.Common.{ap, subst, sym, arith}
use Rattle.path_front.specs.KeptSizes.{SizesState, SizesStandFor}
use Rattle.path_front.proofs.LatestSizes.{sizes_next, still_sizes}
use Rattle.path_front.proofs.sizes.Sizes.push.Goals as goal

pub invariant_of-self : goal.invariant_of-self
invariant_of-self c =
    let same = ap (λ (s : SizesState). s.count) c.self.view_is in
    still_sizes (record {
      ring = c.self.inside.ring;
      count = c.self.inside.count;
      total =
          c.self.inside.total;
    }) c.args.size
    c.self.invariant c.requires.size (omega (arith, same, c.requires.room))

pub returns-clause-stands : goal.returns-clause-stands
returns-clause-stands c = λ sizes stand.
    sizes_next (record {
      ring = c.self.inside.ring;
      count = c.self.inside.count;
      total =
          c.self.inside.total;
    }) c.args.size
    sizes c.self.invariant (subst (λ s. SizesStandFor s sizes) (sym c.self.view_is) stand)

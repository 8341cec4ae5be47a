use Rattle.std.proofs.Common.{arith}
use Rattle.wb_rect.specs.Product.{product}
use Rattle.wb_footprints.proofs.Products.{sorted_product}
use Rattle.wb_footprints.proofs.SortedPoints.{same_any}
use Rattle.wb_footprints.proofs.places.areas.upward_in.Goals as goal

pub returns-clause-ascending : goal.returns-clause-ascending
returns-clause-ascending g c = sorted_product c.slice.result (λ p l. (c.slice.ensures.ranges p (omega (arith, l, c.slice.ensures.kept.dimensions))).upward)

pub returns-clause-alike : goal.returns-clause-alike
returns-clause-alike g c = λ f. same_any f (product c.args.rect.now) (product c.slice.result)
    (λ i. (λ x. ((c.slice.ensures.members i).0 x).0, λ x. (c.slice.ensures.members i).1 (x, x)))

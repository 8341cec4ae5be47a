-- The objects that are there.
use Rattle.std.proofs.Common.{◌≡◌, Option, Some, None, ap}
use Rattle.wb_cells.specs.declared.cells.kind.DomainKind.{DomainKind}
use Rattle.wb_cells.specs.declared.cells.kind.Kind.{Kind}
use Rattle.wb_cells.specs.declared.cells.value.Value.{Value}
use Rattle.wb_cells.specs.declared.cells.value.Value.TheVariants.{Domain, Array, Ranges, Mapping as mapping_value, Present, Bound, Number}
use Rattle.wb_cells.specs.Cells.{Name}
use Rattle.wb_cells.specs.WellFormed.{domain_in, array_in as object_in}

pub domain_object : (o : Option Value) (k : DomainKind) → domain_in o ≡ Some k → o ≡ Some (Domain k)
domain_object None k e = cc
domain_object (Some (Domain j)) k e = let same : j ≡ k = cc in ap (λ z. Some (Domain z)) same
domain_object (Some (Array n j)) k e = cc
domain_object (Some (Ranges rs)) k e = cc
domain_object (Some (mapping_value m)) k e = cc
domain_object (Some Present) k e = cc
domain_object (Some (Bound j)) k e = cc
domain_object (Some (Number z)) k e = cc

pub array_object : (o : Option Value) (d : Name) (k : Kind) → object_in o ≡ Some (d, k) → o ≡ Some (Array d k)
array_object None d k e = cc
array_object (Some (Array n j)) d k e = let both : (n, j) ≡ (d, k) = cc in ap (λ (x : Name × Kind). Some (Array x.0 x.1)) both
array_object (Some (Domain j)) d k e = cc
array_object (Some (Ranges rs)) d k e = cc
array_object (Some (mapping_value m)) d k e = cc
array_object (Some Present) d k e = cc
array_object (Some (Bound j)) d k e = cc
array_object (Some (Number z)) d k e = cc

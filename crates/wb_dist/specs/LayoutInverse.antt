-- the field of a layout comes back from what is seen of it
use Rattle.std.specs.Prelude.{◌≡◌, ℕ}
use Rattle.std.proofs.Common.{ap}
use Rattle.wb_dist.specs.Layouts.{map_of, distribution_of, distribution_of-map_of}
use Rattle.wb_dist.specs.declared.layout.Distribution.{Distribution}
use Rattle.wb_dist.specs.declared.layout.Layout.TheInside.{Inside}

pub layout_fields : (rank : ℕ) (l : Inside rank) → record { distribution = distribution_of rank (map_of rank l.distribution) } ≡ l
layout_fields rank l = ap (λ (d : Distribution rank). let r : Inside rank = record { distribution = d } in r) (distribution_of-map_of rank l.distribution)

use Rattle.std.proofs.Common.{is_some, ap, ◌∙◌}
use Rattle.wb_rect.specs.Product.{product}
use Rattle.wb_footprints.proofs.InCommon.{shared_first}
use Rattle.wb_footprints.proofs.places.areas.have_common_in.Goals as goal

pub returns : goal.returns
returns g c =
    c.is_some.ensures ∙ ap is_some c.nth.ensures
    ∙ shared_first (product c.slice.result) (product c.args.rect.now) (product c.args.other.now) c.slice.ensures.members

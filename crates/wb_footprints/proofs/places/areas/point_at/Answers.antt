use Rattle.std.proofs.Common.{Some, [], sym, ap, ◌∙◌}
use Rattle.std.proofs.lemmas.Option.{slice_get-get_or, none-some}
use Rattle.wb_rect.specs.Product.{product}
use Rattle.wb_footprints.proofs.places.areas.point_at.Goals as goal

pub returns : goal.returns
returns g c = sym c.nth.ensures ∙ c.in-Some.is ∙ ap Some (sym c.of.ensures)

pub unreachable-requires : goal.unreachable-requires
unreachable-requires g c =
    absurd (none-some _ (sym c.in-None.is ∙ c.nth.ensures ∙ slice_get-get_or (product c.args.rect.now) c.args.at [] c.requires.within))

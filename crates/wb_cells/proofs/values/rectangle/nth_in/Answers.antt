use Rattle.std.proofs.Common.{Some, ap, sym, ◌∙◌, option_map}
use Rattle.wb_rect.specs.Product.{product}
use Rattle.wb_cells.specs.declared.values.index.Index.TheVariants.{Point}
use Rattle.selective_undo.proofs.Log.{get-map}
use Rattle.wb_cells.proofs.values.rectangle.nth_in.Goals as goal

pub returns : goal.returns
returns g c =
    ap Some (c.new.ensures ∙ ap Point c.of.ensures) ∙ sym (get-map Point (product c.args.rect.now) c.args.p ∙
    ap (option_map Point) (sym c.nth.ensures ∙ c.in_ok-index.was))

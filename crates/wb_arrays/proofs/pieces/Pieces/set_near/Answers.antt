use Rattle.std.proofs.Common.{◌≡◌, None, sym, ap, ◌∙◌}
use Rattle.std.specs.BTreeMap.{is_at}
use Rattle.wb_arrays.specs.Elements.{value_at}
use Rattle.wb_arrays.proofs.Changes.{set_value-none}
use Rattle.wb_arrays.specs.Pieces.{piece_of}
use Rattle.wb_arrays.proofs.Writes.{value_at-own}
use Rattle.wb_arrays.proofs.pieces.Pieces.set_near.Goals as goal

pub returns-in-None-clause-elements : goal.returns-in-None-clause-elements
returns-in-None-clause-elements g c =
    let cmp = g.D.Index.Ord.cmp in
    let es = c.args.self.now.0 in
    let locale = g.M.Mapping.locale c.args.self.now.1 in
    let own : c.locale_of-locale.result ≡ locale c.args.index = c.locale_of-locale.ensures.value ∙
    ap (λ m. g.M.Mapping.locale m c.args.index) c.mapping.ensures.value in
    let piece = c.list_of.ensures.value ∙ ap (piece_of locale es) own in
    let none : value_at cmp es c.args.index ≡ None = sym (value_at-own cmp g.met.D.Index.Key.exact locale es c.args.index) ∙
    ap (λ xs. value_at cmp xs c.args.index) (sym piece) ∙ c.in-None.ensures.absent in
    sym (set_value-none (is_at (cmp c.args.index)) es c.args.value none)

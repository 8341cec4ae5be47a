use Rattle.std.proofs.Common.{[], ◌∷◌, map, ap, ◌∙◌}
use Rattle.std.specs.BTreeSet.{insert_key}
use Rattle.wb_cells.specs.declared.values.index.Index.{Index}
use Rattle.wb_cells.proofs.book.member_set.one_in.Goals as goal

pub returns-in-Ok : goal.returns-in-Ok
returns-in-Ok g c =
    ap (map g.K.AsIndex.as_index) (c.in-Ok.ensures.keys ∙ ap (λ ks. insert_key g.K.Ord.cmp ks c.in-Some.key) c.new-set.ensures.empty)
    ∙ ap (λ (i : Index). i ∷ []) c.in-Some.ensures.value

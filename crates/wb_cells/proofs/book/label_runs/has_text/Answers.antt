use Rattle.std.proofs.Common.{map, refl, sym, ap, ◌∙◌}
use Rattle.wb_cells.specs.declared.values.index.Index.TheVariants.{Text}
use Rattle.wb_cells.specs.WellFormed.{has}
use Rattle.wb_cells.proofs.MemberSets.{has_key, has_none}
use Rattle.wb_cells.proofs.book.label_runs.has_text.Goals as goal

pub returns-in-Some : goal.returns-in-Some
returns-in-Some g c =
    c.contains.ensures ∙ sym (has_key g.K.Ord.cmp g.K.AsIndex.as_index g.met.K.AsIndex.alike c.args.keys.now.keys c.in-Some.key)
    ∙ ap (has (map g.K.AsIndex.as_index c.args.keys.now.keys)) c.in-Some.ensures.value

pub returns-in-None : goal.returns-in-None
returns-in-None g c =
    sym (has_none g.K.AsIndex.is_of (map g.K.AsIndex.as_index c.args.keys.now.keys) (Text c.args.text.now) c.requires.kept (c.in-None.ensures.none refl))

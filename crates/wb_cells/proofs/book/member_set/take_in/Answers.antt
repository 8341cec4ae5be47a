use Rattle.std.proofs.Common.{◌&&◌, not, map, refl, ap, ◌∙◌}
use Rattle.std.specs.BTreeMap.{is_at}
use Rattle.wb_cells.specs.declared.values.index.Index.{Index}
use Rattle.wb_cells.specs.Cells.{is_same_index}
use Rattle.wb_cells.specs.WellFormed.{has}
use Rattle.wb_cells.proofs.MemberSets.{has_less, has_less_none, has_none, kept_less, indices_ascend}
use Rattle.wb_cells.proofs.book.member_set.take_in.Goals as goal

pub returns-in-Some-clause-taken : goal.returns-in-Some-clause-taken
returns-in-Some-clause-taken g c = λ j.
    let f = g.K.AsIndex.as_index in
    let old = c.args.set.now.keys in
    ap (λ ks. has (map f ks) j) c.remove.ensures.keys
    ∙ has_less g.K.Ord.cmp f g.met.K.AsIndex.alike old c.in-Some.key j c.len-count.ensures.ordered
    ∙ ap (λ (i : Index). not (is_same_index j i) && has (map f old) j) c.in-Some.ensures.value

pub returns-in-Some-clause-kept : goal.returns-in-Some-clause-kept
returns-in-Some-clause-kept g c =
    rw c.remove.ensures.keys (kept_less g.K.Ord.cmp g.K.AsIndex.as_index g.met.K.AsIndex.alike g.K.AsIndex.is_of (is_at (g.K.Ord.cmp c.in-Some.key))
    c.args.set.now.keys c.requires)

pub returns-in-Some-clause-ascending : goal.returns-in-Some-clause-ascending
returns-in-Some-clause-ascending g c =
    indices_ascend g.K.Ord.cmp g.K.AsIndex.as_index g.met.K.AsIndex.alike c.remove.new.self.keys c.remove.ensures.ordered

pub returns-in-None-clause-taken : goal.returns-in-None-clause-taken
returns-in-None-clause-taken g c = λ j.
    has_less_none (map g.K.AsIndex.as_index c.args.set.now.keys) c.args.index.now
    (has_none g.K.AsIndex.is_of (map g.K.AsIndex.as_index c.args.set.now.keys) c.args.index.now c.requires (c.in-None.ensures.none refl)) j

pub returns-in-None-clause-ascending : goal.returns-in-None-clause-ascending
returns-in-None-clause-ascending g c =
    indices_ascend g.K.Ord.cmp g.K.AsIndex.as_index g.met.K.AsIndex.alike c.args.set.now.keys c.len-count.ensures.ordered

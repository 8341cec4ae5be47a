use Rattle.std.proofs.Common.{◌≡◌, ◌||◌, true, map, sym, ap, ◌∙◌}
use Rattle.wb_cells.specs.declared.values.index.Index.{Index}
use Rattle.wb_cells.specs.Cells.{is_same_index}
use Rattle.wb_cells.specs.WellFormed.{has}
use Rattle.wb_cells.proofs.MemberSets.{has_key, has_more, kept_more, indices_ascend}
use Rattle.wb_cells.proofs.book.member_set.put_in.Goals as goal

pub returns-in-Ok-clause-ok : goal.returns-in-Ok-clause-ok
returns-in-Ok-clause-ok g c = λ j.
    let f = g.K.AsIndex.as_index in
    let old = c.args.set.now.keys in
    ap (λ ks. has (map f ks) j) c.in-Ok.ensures.keys ∙ has_more g.K.Ord.cmp f g.met.K.AsIndex.alike old c.in-Some.key j
    ∙ ap (λ (i : Index). is_same_index j i || has (map f old) j) c.in-Some.ensures.value

pub returns-in-Ok-clause-kept : goal.returns-in-Ok-clause-kept
returns-in-Ok-clause-kept g c =
    let here : g.K.AsIndex.is_of (g.K.AsIndex.as_index c.in-Some.key) ≡ true = ap g.K.AsIndex.is_of c.in-Some.ensures.value ∙ c.requires.form in
    rw c.in-Ok.ensures.keys (kept_more g.K.Ord.cmp g.K.AsIndex.as_index g.met.K.AsIndex.alike g.K.AsIndex.is_of c.args.set.now.keys c.in-Some.key
    c.requires.kept here)

pub returns-in-Ok-clause-ascending : goal.returns-in-Ok-clause-ascending
returns-in-Ok-clause-ascending g c =
    indices_ascend g.K.Ord.cmp g.K.AsIndex.as_index g.met.K.AsIndex.alike c.insert.new.self.keys c.insert.ensures.ordered

pub returns-in-Err-clause-absent : goal.returns-in-Err-clause-absent
returns-in-Err-clause-absent g c =
    sym (ap (has (map g.K.AsIndex.as_index c.args.set.now.keys)) c.in-Some.ensures.value)
    ∙ has_key g.K.Ord.cmp g.K.AsIndex.as_index g.met.K.AsIndex.alike c.args.set.now.keys c.in-Some.key ∙ c.in-Err.ensures.absent

pub returns-in-Err-clause-kept : goal.returns-in-Err-clause-kept
returns-in-Err-clause-kept g c = rw c.in-Err.ensures.err c.requires.kept

pub returns-in-Err-clause-ascending : goal.returns-in-Err-clause-ascending
returns-in-Err-clause-ascending g c =
    indices_ascend g.K.Ord.cmp g.K.AsIndex.as_index g.met.K.AsIndex.alike c.insert.new.self.keys c.insert.ensures.ordered

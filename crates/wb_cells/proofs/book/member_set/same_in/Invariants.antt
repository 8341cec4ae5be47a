use Rattle.std.proofs.Common.{◌≡◌, ◌||◌, true, map}
use Rattle.std.specs.List.{list_all}
use Rattle.wb_cells.specs.declared.values.index.Index.{Index}
use Rattle.wb_cells.specs.WellFormed.{has}
use Rattle.wb_cells.proofs.book.member_set.same_in.Given as goal

-- the indices so far and those that are left
abbrev pub invariant-loop-key : goal.invariant-loop-key
invariant-loop-key g l = ((j : Index) → has (map g.L.AsIndex.as_index l.same.keys) j || has (map g.K.AsIndex.as_index l.key-iterator) j ≡
    has (map g.K.AsIndex.as_index l.set.keys) j) × (list_all g.L.AsIndex.is_of (map g.K.AsIndex.as_index l.key-iterator) ≡ true) ×
    (list_all g.L.AsIndex.is_of (map g.L.AsIndex.as_index l.same.keys) ≡ true)

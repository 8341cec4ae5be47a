use Rattle.std.proofs.Common.{◌≡◌, take}
use Rattle.std.specs.List.{list_all}
use Rattle.wb_cells.specs.Kinds.{is_key}
use Rattle.wb_edit.proofs.looks.sources.all_keys.Given as goal

-- whether those so far are
abbrev pub invariant-loop-index : goal.invariant-loop-index
invariant-loop-index l = l.all ≡ list_all (is_key l.kind) (take l.index-index l.listed)

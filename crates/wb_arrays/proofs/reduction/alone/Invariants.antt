use Rattle.std.proofs.Common.{◌≡◌, take}
use Rattle.std.specs.List.{reduce}
use Rattle.wb_arrays.specs.Reductions.{elements_of, op_in_128, AreSmall}
use Rattle.wb_arrays.proofs.reduction.alone.Given as goal

-- the elements so far are reduced, and each is an i64
abbrev pub invariant-loop-element : goal.invariant-loop-element
invariant-loop-element g l = record {
  value : l.done ≡ reduce (op_in_128 l.op) (elements_of (take l.element-index l.pairs));
  small : AreSmall (take l.element-index l.pairs);
}

use Rattle.std.proofs.Common.{◌≡◌, ◌++◌, take, drop, string_bytes}
use Rattle.std.specs.List.{flat_map}
use Rattle.wb_machine.specs.Encoding.Text.{edit_line, AreJson}
use Rattle.wb_machine.proofs.encoding.printed.push_edits.Given as goal

abbrev pub invariant-loop-before : goal.invariant-loop-before
invariant-loop-before l = record {
  lines : string_bytes l.out ≡ string_bytes l.fn.out ++ flat_map edit_line (drop l.fn.first (take l.before l.fn.history.entries));
  json : AreJson (drop l.fn.first (take l.before l.fn.history.entries));
}

use Rattle.std.proofs.Common.{rules, sym}
use Rattle.std.proofs.lemmas.Str.{IsUtf8-from_is_utf8}
use Rattle.serde_json.specs.Errors.{IsMemory}
use Rattle.wb_keeping.proofs.beginning.value_of.Goals as goal

pub returns-in-Err-2 : goal.returns-in-Err-2
returns-in-Err-2 c = λ utf8.
    let other : IsMemory c.in-Err-2.field-0 → ⊥ = search rules in
    sym (c.in-Err-2.ensures.err other (IsUtf8-from_is_utf8 c.args.line.now utf8))

use Rattle.std.proofs.Common.{Some, ap, sym, ◌∙◌}
use Rattle.std.proofs.lemmas.Result.{IfOk-weaker}
use Rattle.serde_json.specs.Errors.{IsMemory}
use Rattle.serde_json.specs.View.{view}
use Rattle.wb_requests.proofs.Told.{line_told, no_json_told, not_both}
use Rattle.wb_requests.proofs.explaining.lines.explained.Goals as goal

pub returns-in-Ok : goal.returns-in-Ok
returns-in-Ok c =
    let said = c.in-Ok.ensures.ok in
    IfOk-weaker c.data_explained.result _ _ (λ x h. line_told c.args.line.now (view c.in-Ok.value) x said.0 said.1 h) c.data_explained.ensures

pub returns-else-is_memory : goal.returns-else-is_memory
returns-else-is_memory c =
    let no_memory = λ (m : IsMemory c.in-Err.error). not_both c.is_memory.result c.if-is_memory.false (c.is_memory.ensures.1 m) in
    ap Some c.of_whole.ensures ∙ sym (no_json_told c.args.line.now (c.in-Err.ensures.err no_memory))

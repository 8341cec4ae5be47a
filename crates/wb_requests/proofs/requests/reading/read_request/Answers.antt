use Rattle.std.proofs.Common.{◌∙◌, sym, ap, Err}
use Rattle.serde_json.specs.Errors.{IsMemory}
use Rattle.serde_json.specs.View.{view}
use Rattle.wb_requests.proofs.Lines.{json_line, no_json_line, as_ok, as_err}
use Rattle.wb_requests.proofs.requests.reading.read_request.Goals as goal

pub returns-in-Ok-clause-ok : goal.returns-in-Ok-clause-ok
returns-in-Ok-clause-ok c =
    let said = c.in-Ok.ensures.ok in
    as_ok _ _ _ (json_line c.args.line.now (view c.in-Ok.value) said.0 said.1) c.request_of.ensures

pub returns-in-Ok-clause-err : goal.returns-in-Ok-clause-err
returns-in-Ok-clause-err c =
    let said = c.in-Ok.ensures.ok in
    as_err _ _ _ (json_line c.args.line.now (view c.in-Ok.value) said.0 said.1) c.request_of.ensures

pub returns-in-Err-clause-err : goal.returns-in-Err-clause-err
returns-in-Err-clause-err c = λ h.
    let no_memory = λ (m : IsMemory c.in-Err.error). h (c.refusal_of.ensures.memory m) in
    no_json_line c.args.line.now (c.in-Err.ensures.err no_memory) ∙ ap Err (sym (c.refusal_of.ensures.other no_memory))

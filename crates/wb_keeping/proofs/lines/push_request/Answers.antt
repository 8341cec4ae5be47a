use Rattle.std.proofs.Common.{◌∙◌, ap}
use Rattle.wb_requests.specs.Requests.{request}
use Rattle.wb_keeping.proofs.Added.{unbroken_line, line_is, pushed}
use Rattle.wb_keeping.proofs.lines.push_request.Goals as goal

pub push-requires : goal.push-requires
push-requires c = unbroken_line c.args.request.now c.as_bytes.result.now (c.as_bytes.ensures.value ∙ c.in-Ok.ensures.text)

pub returns-in-Ok : goal.returns-in-Ok
returns-in-Ok c =
    let is = line_is c.args.request.now c.as_bytes.result.now (c.as_bytes.ensures.value ∙ c.in-Ok.ensures.text)
    (λ proper. ap request c.as_bytes.ensures.value ∙ c.in-Ok.ensures.read_back proper) c.requires in
    pushed c.push.result c.args.request.now c.as_bytes.result.now c.args.changes.now c.push.new.self is c.push.ensures.ok

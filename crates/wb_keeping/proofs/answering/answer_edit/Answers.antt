use Rattle.std.proofs.Common.{◌∙◌, ap, inl}
use Rattle.wb_requests.specs.Requests.{request}
use Rattle.wb_requests.specs.declared.requests.request.Request.TheVariants.{Change}
use Rattle.wb_keeping.proofs.Added.{edit_added, line_is, unbroken_line}
use Rattle.wb_keeping.proofs.answering.answer_edit.Goals as goal

pub push_edit-requires : goal.push_edit-requires
push_edit-requires g c = unbroken_line (Change c.args.edit) c.as_bytes.result.now (c.as_bytes.ensures.value ∙ c.in-Ok.ensures.text)

pub returns : goal.returns
returns g c =
    let is = line_is (Change c.args.edit) c.as_bytes.result.now (c.as_bytes.ensures.value ∙ c.in-Ok.ensures.text)
    (λ proper. ap request c.as_bytes.ensures.value ∙ c.in-Ok.ensures.read_back proper) c.requires in (
      inl c.step-reply.ensures,
      edit_added c.args.history.now c.step-reply.new.history c.args.edit c.step-reply.result c.as_bytes.result.now c.args.changes.now
          c.push_edit.new.changes c.step-reply.ensures is c.in_ok-push_edit.ensures,
    )

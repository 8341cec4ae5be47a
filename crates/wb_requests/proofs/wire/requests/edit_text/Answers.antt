use Rattle.std.proofs.lemmas.Result.{IfOk-weaker}
use Rattle.wb_requests.specs.declared.requests.request.Request.TheVariants.{Change}
use Rattle.wb_requests.proofs.OnTheWire.Written.{reads_back}
use Rattle.wb_requests.proofs.wire.requests.edit_text.Goals as goal

pub returns-clause-read_back : goal.returns-clause-read_back
returns-clause-read_back c = IfOk-weaker c.edit_text.result _ _ (λ s h. reads_back (Change c.args.edit.now) _ h) c.edit_text.ensures.json

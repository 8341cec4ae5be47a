use Rattle.std.proofs.Common.{◌∙◌}
use Rattle.std.proofs.lemmas.Result.{IfOk-weaker}
use Rattle.wb_machine.proofs.HistoryTexts.Steps.{reads_history, no_history}
use Rattle.wb_machine.proofs.histories.lines.read_edits.Goals as goal

pub returns-in-Some-clause-read : goal.returns-in-Some-clause-read
returns-in-Some-clause-read c =
    IfOk-weaker c.edits_below.result _ _
    (λ r h. reads_history c.args.text.now c.in-Some.bytes.now _ (λ front e. c.in-Some.ensures front (c.as_bytes.ensures.value ∙ e)) h)
    c.edits_below.ensures.read

pub returns-in-None-clause-read : goal.returns-in-None-clause-read
returns-in-None-clause-read c = no_history c.args.text.now (λ front e. c.in-None.ensures front (c.as_bytes.ensures.value ∙ e))

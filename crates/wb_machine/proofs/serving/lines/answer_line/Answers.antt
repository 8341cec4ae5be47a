-- The reply stood, and its text found no memory.
use Rattle.std.proofs.Common.{List, ℕ, ◌⊎◌, refl}
use Rattle.wb_history.specs.Past.{Past}
use Rattle.wb_requests.specs.Requests.{request}
use Rattle.wb_machine.specs.Machine.{StepIfRead, NothingDone, AnswersText}
use Rattle.wb_machine.specs.Replies.{reply_of}
use Rattle.wb_machine.specs.declared.replies.reply.Reply.{Reply}
use Rattle.wb_machine.proofs.serving.lines.answer_line.Goals as goal

stood : (p : Past) (line : List ℕ) (r : Reply) (q : Past) → StepIfRead p (request line) r q ⊎ NothingDone p r q
    → (reply : List ℕ) × AnswersText p line reply q
stood p line r q is = (reply_of r, record { reply = r; is_reply = is; is_text = refl })

pub returns-clause-err : goal.returns-clause-err
returns-clause-err g c = stood c.args.history.now c.args.line.now c.reply_to-reply.result c.reply_to-reply.new.history c.reply_to-reply.ensures

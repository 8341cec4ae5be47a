-- What a seat is told at a desk whose changes are kept.
use Rattle.std.specs.Prelude.{◌<◌, ℕ, List, Result, Ok, Err}
use Rattle.wb_edit.specs.declared.refusal.Refusal.{Refusal}
use Rattle.wb_machine.specs.Replies.{reply_of}
use Rattle.wb_machine.specs.declared.replies.reply.Reply.{Reply}
use Rattle.wb_machine.specs.declared.replies.reply.Reply.TheVariants.{Refused}
use Rattle.wb_kept_seats.specs.declared.sealing.Sealed.{Sealed}

-- the text of a reply that is sealed, or of why a line is no request
abbrev pub told_text : {N : Type 0} → Result (Sealed N Reply) Refusal → List ℕ
told_text (Ok sealed) = reply_of sealed.value
told_text (Err why) = reply_of (Refused why)

-- a call on the file has failed
abbrev pub FailsOnce : {D : Type 0} → (D → ℕ) → Type 0
FailsOnce {D} faults = (before after : D) × (faults before < faults after)

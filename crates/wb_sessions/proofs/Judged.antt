-- What bytes are that are no journal, by what they are as a text.
use Rattle.std.proofs.Common.{List, ℕ}
use Rattle.wb_sessions.specs.Checking.{IsNoJournal, IsTextVerdict, IsVerdict}
use Rattle.wb_sessions.specs.declared.checking.Verdict.{Verdict}
use Rattle.wb_sessions.specs.declared.checking.Verdict.TheVariants.{Workbook, History, Journal, Refused}

pub judged : (bytes : List ℕ) (v : Verdict) → IsNoJournal bytes → IsTextVerdict bytes v → IsVerdict bytes v
judged bytes (Workbook count) none h = h
judged bytes (History count edits) none h = h
judged bytes (Journal count edits) none h = absurd h
judged bytes Refused none h = (h, none)

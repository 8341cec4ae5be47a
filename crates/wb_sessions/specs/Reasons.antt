-- Why an input is refused, and which reason is told.
use Rattle.std.specs.Prelude.{◌≡◌, ◌≢◌, ◌⊎◌, ℕ, Bool, true, false, List, ◌++◌, Option, None, Some, codes, nat_eq}
use Rattle.std.specs.Io.KnownBytes.{Consumes}
use Rattle.std.specs.List.{ends_with, starts_with}
use Rattle.wb_history.specs.Past.{Past}
use Rattle.wb_keep.specs.Lines.{recovered}
use Rattle.wb_keeping.specs.Granting.Granting.{Grants, no_edit}
use Rattle.wb_kept.specs.Runs.{StopsAt}
use Rattle.wb_sessions.specs.Checking.{IsHeaded, IsNoRecord, IsTextOf}
use Rattle.wb_sessions.specs.Places.{WhyAltered}
use Rattle.wb_sessions.specs.Resuming.{HasNoEnd, IsRecord, IsUpToEnd, last_line}
use Rattle.wb_sessions.specs.Upgrading.{HasNoBook}
use Rattle.wb_sessions.specs.declared.checking.Verdict.{Verdict}
use Rattle.wb_sessions.specs.declared.checking.Verdict.TheVariants as verdicts
use Rattle.wb_sessions.specs.declared.reasons.Reason.{Reason}
use Rattle.wb_sessions.specs.declared.reasons.Reason.TheVariants as reasons

-- ---- the reasons

-- a text of ours begins with the first word of its first line, a journal with that whole line
abbrev pub begins_with : List ℕ → List ℕ → Bool
begins_with front bytes = starts_with nat_eq bytes front

-- by how bytes end that begin as a text of ours
abbrev pub end_of : (ended : Bool) → Reason
end_of true = reasons.Altered
end_of false = reasons.CutShort

-- by how bytes begin, as a text of ours or not, and end
abbrev pub front_of : (ours ended : Bool) → Reason
front_of true ended = end_of ended
front_of false ended = reasons.NotOurs

-- by how bytes begin, as a journal, as a text of ours or as neither, and end
abbrev pub shape_of : (journal ours ended : Bool) → Reason
shape_of true ours ended = reasons.Journal
shape_of false ours ended = front_of ours ended

-- why bytes are refused, by how they begin and end
abbrev pub look_of : List ℕ → Reason
look_of bytes = shape_of (begins_with (codes "chapel-workbook 3\n") bytes) (begins_with (codes "chapel-workbook ") bytes) (ends_with nat_eq bytes last_line)

-- the text of a workbook
abbrev pub IsBook : List ℕ → Type 0
IsBook bytes = (count : ℕ) × IsTextOf bytes count

-- Bytes that begin and end as a text of ours are refused for the place where they are no history's, others by their looks.
abbrev pub WhyNoText : List ℕ → Reason → Type 0
WhyNoText bytes why = ((look_of bytes ≡ reasons.Altered) × WhyAltered bytes why) ⊎ ((look_of bytes ≢ reasons.Altered) × (why ≡ look_of bytes))

-- Where the text of a history is wanted: the bytes are that of a workbook, or else they are refused for what they are as a text.
abbrev pub WhyNoHistory : List ℕ → Reason → Type 0
WhyNoHistory bytes why = (IsBook bytes × (why ≡ reasons.Workbook)) ⊎ (HasNoBook bytes × WhyNoText bytes why)

-- Where the text of a workbook is wanted: the bytes are that of a history, or else they are refused by their looks.
abbrev pub WhyNoBook : List ℕ → Reason → Type 0
WhyNoBook bytes why = (((past : Past) × IsRecord bytes past) × (why ≡ reasons.History)) ⊎ (IsNoRecord bytes × (why ≡ look_of bytes))

-- Where the text of a history is wanted in front of a session: there is no line `end`, or what stands up to the first one is refused.
abbrev pub WhyNoOpening : List ℕ → Reason → Type 0
WhyNoOpening read why = (HasNoEnd read × (why ≡ look_of read))
    ⊎ ((front behind : List ℕ) × (read ≡ front ++ behind) × IsUpToEnd front × WhyNoHistory front why)

-- The bytes have the header of a journal, and the change at this place, from 0, is the first that is not granted.
abbrev pub IsStop : List ℕ → ℕ → Type 0
IsStop bytes place = IsHeaded bytes × StopsAt Grants no_edit (recovered bytes) place

-- a journal stops at such a place, or there is no header of one
abbrev pub StopsJournal : List ℕ → Option ℕ → Type 0
StopsJournal bytes (Some place) = IsStop bytes place
StopsJournal bytes None = ¬ IsHeaded bytes

-- Where any text of ours is wanted, and a journal would do: bytes with its header are refused for the first change that is not granted,
-- others for what they are as a text.
abbrev pub WhyNothing : List ℕ → Reason → Type 0
WhyNothing bytes why = ((place : ℕ) × IsStop bytes place × (why ≡ reasons.NotGranted place)) ⊎ (¬ IsHeaded bytes × WhyNoText bytes why)

-- ---- what is told

-- a reason of this kind is told for what was read
pub record Tells (is : List ℕ → Reason → Type 0) (old left : Option (List ℕ)) (told : Option Reason) : Type 0 where
  pub read : List ℕ
  pub why : Reason
  pub consumed : Consumes old left read
  pub is_why : is read why
  pub is_told : told ≡ Some why

-- where bytes are refused it is told why, beside another verdict nothing
abbrev pub IsToldOf : List ℕ → Verdict → Option Reason → Type 0
IsToldOf bytes (verdicts.Workbook count) told = told ≡ None
IsToldOf bytes (verdicts.History count edits) told = told ≡ None
IsToldOf bytes (verdicts.Journal count edits) told = told ≡ None
IsToldOf bytes verdicts.Refused told = (why : Reason) × WhyNothing bytes why × (told ≡ Some why)

-- That status 1 comes with a refusal alone, and what is told then.
use Rattle.std.proofs.Common.{◌≡◌, ◌⊎◌, inl, inr, ℕ, List, Option, refl, Some}
use Rattle.wb_lines.specs.declared.machine.SessionEnd.{SessionEnd}
use Rattle.wb_lines.specs.declared.machine.SessionEnd.TheVariants.{Done, ReadFault, WriteFault, TooManyReads, NoMemory}
use Rattle.wb_sessions.specs.Checking.{Says, status_of_verdict}
use Rattle.wb_statuses.proofs.Faults.{no_fault_of_1, no_print_of_1}
use Rattle.wb_sessions.specs.Reasons.{IsToldOf, WhyNothing}
use Rattle.wb_sessions.specs.Running.{status_of}
use Rattle.wb_sessions.specs.Upgrading.{Upgrades, UpgradesBook}
use Rattle.wb_sessions.specs.declared.checking.Verdict.{Verdict}
use Rattle.wb_sessions.specs.declared.checking.Verdict.TheVariants as verdicts
use Rattle.wb_sessions.specs.declared.reasons.Reason.{Reason}

-- what is known of a refusal, where there was no fault in place of it
pub or_fault : {P S F : Type 0} → P → S ⊎ F → (P × S) ⊎ F
or_fault p (inl s) = inl (p, s)
or_fault p (inr f) = inr f

-- a session has another status
pub no_end_of_1 : (end : SessionEnd) → status_of end ≡ 1 → ⊥
no_end_of_1 (Done n) e = cc
no_end_of_1 (ReadFault n) e = cc
no_end_of_1 (WriteFault n) e = cc
no_end_of_1 (TooManyReads n) e = cc
no_end_of_1 (NoMemory n) e = cc

-- a verdict that was printed with status 0
no_say_of_1 : (v : Verdict) (status : ℕ) (text : List ℕ) → status ≡ 1 → status_of_verdict v ≡ 0 → Says v status text → ⊥
no_say_of_1 v status text e zero_of (inl said) = cc (e, said.0, zero_of)
no_say_of_1 v status text e zero_of (inr part) = no_fault_of_1 status e part.0

-- beside a verdict that was printed with status 1 it is told why the bytes are refused
pub told_of_1 : (v : Verdict) (status : ℕ) (text bytes : List ℕ) (told : Option Reason) → status ≡ 1 → Says v status text → IsToldOf bytes v told
    → (why : Reason) × WhyNothing bytes why × (told ≡ Some why)
told_of_1 (verdicts.Workbook count) status text bytes told e says h = absurd (no_say_of_1 (verdicts.Workbook count) status text e refl says)
told_of_1 (verdicts.History count edits) status text bytes told e says h = absurd (no_say_of_1 (verdicts.History count edits) status text e refl says)
told_of_1 (verdicts.Journal count edits) status text bytes told e says h = absurd (no_say_of_1 (verdicts.Journal count edits) status text e refl says)
told_of_1 verdicts.Refused status text bytes told e says h = h

-- ---- of a workbook's text

-- so has a text that was upgraded
pub no_book_of_1 : (read : List ℕ) (status : ℕ) (text : List ℕ) → status ≡ 1 → UpgradesBook read status text → ⊥
no_book_of_1 read status text e (inl done) = no_print_of_1 status _ text e done.1
no_book_of_1 read status text e (inr fault) = no_fault_of_1 status e fault.0

pub upgrades_book : (read : List ℕ) (status : ℕ) (text : List ℕ) → UpgradesBook read status text → Upgrades read status text
upgrades_book read status text (inl done) = inl done
upgrades_book read status text (inr fault) = inr (inr fault)

-- A file of the line that a history begins with.
use Rattle.std.proofs.Common.{◌≡◌, ◌≢◌, inr, ⊎_elim, ℕ, List, [], ◌∷◌, ◌++◌, refl, sym, ◌∙◌, ap, subst, arith}
use Rattle.std.proofs.lemmas.Bool.Decides.{nat_tests}
use Rattle.selective_undo.specs.History.{traces}
use Rattle.wb_cells.specs.Cells.{saturating_add}
use Rattle.wb_keep.specs.Disk.Device.{Only, LeavesOnly}
use Rattle.wb_keep.specs.Keep.{IsOldOrNew}
use Rattle.wb_keep.specs.Lines.{onto, lines_of, recovered, IsAtRest, HasHeader}
use Rattle.wb_keep.proofs.Disks.Moments.{started}
use Rattle.wb_kept.specs.Runs.{Leads}
use Rattle.wb_lines.specs.Lines.{IsUnbroken}
use Rattle.wb_history.specs.Past.{Numbered, Past, meant}
use Rattle.wb_history.specs.Restored.{IsCounted, cells_written}
use Rattle.wb_keeping.specs.Granting.Granting.{Grants, Begins, no_edit}
use Rattle.wb_keeping.specs.Anew.{HasEdits}

-- ---- a line and its end are one line

no_feed : (byte : ℕ) (bytes : List ℕ) → byte ≢ 10 → lines_of (byte ∷ bytes) ≡ onto byte (lines_of bytes)
no_feed byte bytes other = grind (arith, nat_tests)

pub one_line : (line : List ℕ) → IsUnbroken line → lines_of (line ++ 10 ∷ []) ≡ line ∷ []
one_line [] unbroken = refl
one_line (byte ∷ line) unbroken = no_feed byte (line ++ 10 ∷ []) unbroken.0 ∙ ap (onto byte) (one_line line unbroken.1)

-- ---- the history that it stands for

-- with these edits, each in force made once
abbrev pub made_once : List Numbered → Past
made_once es = record { entries = es; writes = saturating_add 0 (cells_written (traces (meant es))) }

module _ (h : Past) (line : List ℕ) (begins : (q : Past) → q.entries ≡ h.entries → IsCounted q → Begins line q) where
  pub begun : (file : List ℕ) → recovered file ≡ line ∷ [] → HasHeader file → HasEdits h.entries file
  begun file is head = record {
    history = made_once h.entries;
    same = refl;
    leads =
        subst (λ (lines : List (List ℕ)). Leads Grants no_edit lines (made_once h.entries)) (sym is)
        (made_once h.entries, inr (refl, begins (made_once h.entries) refl refl), refl);
    head = head;
  }

  pub old_or_new : (old lines : List (List ℕ)) → Leads Grants no_edit old h → lines ≡ line ∷ [] → (file : List ℕ) → IsOldOrNew old lines file → HasEdits h.entries file
  old_or_new old lines leads one file which =
      ⊎_elim
      (λ was. record {
        history = h;
        same = refl;
        leads = subst (λ (ls : List (List ℕ)). Leads Grants no_edit ls h) (sym was) leads;
        head = which.head;
      })
      (λ now. begun file (now ∙ one) which.head)
      which.lines

pub head_at_rest : (file : List ℕ) → IsAtRest file → HasHeader file
head_at_rest file rest = subst HasHeader (sym rest.is) refl

-- ---- a log that is left alone

pub unmoved : {D : Type 0} (seen : D → List ℕ) (moment : D → ℕ) (left_since : D → ℕ → List ℕ → Type 0) (may_leave : D → List ℕ → Type 0) (device : D) (h : Past) → IsAtRest (seen device)
    → Only (seen device) (may_leave device) → Leads Grants no_edit (recovered (seen device)) h → ((c : List ℕ) → left_since device (moment device) c → may_leave device c)
    → LeavesOnly moment left_since device device (HasEdits h.entries)
unmoved seen moment left_since may_leave device h rest durable leads only_now =
    started moment left_since device (HasEdits h.entries)
    (λ c left.
    subst (HasEdits h.entries) (sym (durable c (only_now c left))) (record { history = h; same = refl; leads = leads; head = head_at_rest (seen device) rest }))

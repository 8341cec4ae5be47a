-- What the file of a history stands for when it is made anew.
use Rattle.std.specs.Prelude.{◌≡◌, ℕ, List}
use Rattle.wb_keeping.specs.Granting.Granting.{Grants, no_edit}
use Rattle.wb_keep.specs.Lines.{recovered, HasHeader}
use Rattle.wb_kept.specs.Runs.{Leads}
use Rattle.wb_history.specs.Past.{Numbered, Past}

-- the file is ours, and stands for a history with these edits
pub record HasEdits (es : List Numbered) (file : List ℕ) : Type 0 where
  pub history : Past
  pub same : history.entries ≡ es
  pub leads : Leads Grants no_edit (recovered file) history
  pub head : HasHeader file

-- Several commands as one keep a workbook well formed, and write each cell once.
use Rattle.std.proofs.Common.{◌≡◌, ℕ, ◌+◌, List, [], ◌∷◌, map, Result, Ok, Err, refl, sym, ap, subst, ◌∙◌}
use Rattle.std.specs.List.{AllByRecursion}
use Rattle.selective_undo.specs.Changes.{apply, AllOnce}
use Rattle.selective_undo.specs.Edit.{Trace, refuse, write, look, seen, outcome, written, trace, step}
use Rattle.selective_undo.specs.Together.{together, both, refused_as, all_from}
use Rattle.selective_undo.proofs.Together.{apply-together, once-together, both_trace}
use Rattle.wb_cells.specs.declared.refusal.EditRefusal.{EditRefusal}
use Rattle.wb_cells.specs.Cells.{Cells, Changes, cell_cmp, cell_order}
use Rattle.wb_cells.specs.Schema.{workbook}
use Rattle.wb_cells.specs.WellFormed.{IsWellFormed}
use Rattle.wb_edit.specs.declared.command.Command.{Command}
use Rattle.wb_edit.specs.Commands.{command_meaning}
use Rattle.wb_edit.specs.Several.{meaning_of_all}
use Rattle.wb_edit.specs.Trees.{Tree}
use Rattle.wb_edit.specs.Valid.{IsValidCommand, CommandListsOnce}
use Rattle.wb_edit.proofs.InTurn.{both_after, followed_made, followed_refused}
use Rattle.wb_edit.proofs.Kept.{command_keeps}
use Rattle.wb_edit.proofs.Once.{command_once}

-- an edit leaves a workbook well formed, and of what it writes A holds
abbrev Keeps : (Changes → Type 0) → Tree → Cells → Type 0
Keeps A e s = IsWellFormed (step e s) × A (written (outcome e s))

told_written : (f : EditRefusal → EditRefusal) (e : Tree) (s : Cells) → written (outcome (refused_as f e) s) ≡ written (outcome e s)
told_written f (refuse why) s = refl
told_written f (write xs) s = refl
told_written f (look p next) s = told_written f (next (seen workbook p s)) s

-- What holds of nothing, and of changes put together where it holds of both, holds of what several commands write.
module _ (A : Changes → Type 0) (nothing : A []) (joined : (ls xs : Changes) → A ls → A xs → A (together cell_cmp ls xs)) where
  -- by what it comes to
  keeps_by : (e : Tree) (s : Cells) (o : Result Changes EditRefusal) → outcome e s ≡ o → IsWellFormed (apply (written o) s) → A (written o) → Keeps A e s
  keeps_by e s o is formed one = (
    subst (λ (r : Result Changes EditRefusal). IsWellFormed (apply (written r) s)) (sym is) formed,
    subst (λ (r : Result Changes EditRefusal). A (written r)) (sym is) one,
  )

  keeps_told : (f : EditRefusal → EditRefusal) (e : Tree) (s : Cells) → Keeps A e s → Keeps A (refused_as f e) s
  keeps_told f e s keeps =
      let same = told_written f e s in (
        subst (λ (xs : Changes). IsWellFormed (apply xs s)) (sym same) keeps.0,
        subst (λ (xs : Changes). A xs) (sym same) keeps.1,
      )

  then_by : (e d : Tree) (s : Cells) (ls : Changes) → IsWellFormed s → outcome e s ≡ Ok ls → A ls → Keeps A d (apply ls s) →
      (o : Result Changes EditRefusal) → outcome d (apply ls s) ≡ o → Keeps A (both e d) s
  then_by e d s ls formed h one keeps (Ok xs) k =
      let whole : outcome (both e d) s ≡ Ok (together cell_cmp ls xs) =
      ap (λ (t : Trace workbook). t.outcome) (both_after e d s ls h) ∙ (followed_made (trace e s) (trace d (apply ls s)) ls xs h k).0 in
      keeps_by (both e d) s (Ok (together cell_cmp ls xs)) whole
      (subst IsWellFormed (sym (apply-together cell_order ls xs s)) (subst (λ (r : Result Changes EditRefusal). IsWellFormed (apply (written r) (apply ls s))) k keeps.0))
      (joined ls xs one (subst (λ (r : Result Changes EditRefusal). A (written r)) k keeps.1))
  then_by e d s ls formed h one keeps (Err why) k =
      let whole : outcome (both e d) s ≡ Err why =
      ap (λ (t : Trace workbook). t.outcome) (both_after e d s ls h) ∙ (followed_refused (trace e s) (trace d (apply ls s)) ls why h k).0 in
      keeps_by (both e d) s (Err why) whole formed nothing

  both_by : (e d : Tree) (s : Cells) → IsWellFormed s → Keeps A e s → ((r : Cells) → IsWellFormed r → Keeps A d r) → (o : Result Changes EditRefusal) →
      outcome e s ≡ o → Keeps A (both e d) s
  both_by e d s formed first more (Ok ls) h =
      let there : IsWellFormed (apply ls s) = subst (λ (r : Result Changes EditRefusal). IsWellFormed (apply (written r) s)) h first.0 in
      then_by e d s ls formed h (subst (λ (r : Result Changes EditRefusal). A (written r)) h first.1) (more (apply ls s) there) (outcome d (apply ls s)) refl
  both_by e d s formed first more (Err why) h =
      let same : trace (both e d) s ≡ trace e s = both_trace e d s ∙ rw h refl in
      keeps_by (both e d) s (Err why) (ap (λ (t : Trace workbook). t.outcome) same ∙ h) formed nothing

  keeps_all : (P : Command → Type 0) (each : (c : Command) → P c → (r : Cells) → IsWellFormed r → Keeps A (command_meaning c) r)
      (m : ℕ → EditRefusal → EditRefusal) (e : Tree) (i : ℕ) (cs : List Command) (s : Cells) → IsWellFormed s → Keeps A e s → AllByRecursion P cs →
      Keeps A (all_from m e i (map command_meaning cs)) s
  keeps_all P each m e i [] s formed first valid = first
  keeps_all P each m e i (c ∷ cs) s formed first valid =
      let d : Tree = refused_as (m i) (command_meaning c) in
      keeps_all P each m (both e d) (i + 1) cs s formed
      (both_by e d s formed first (λ r there. keeps_told (m i) (command_meaning c) r (each c valid.0 r there)) (outcome e s) refl)
      valid.1

both_hold : (P Q : Command → Type 0) (cs : List Command) → AllByRecursion P cs → AllByRecursion Q cs → AllByRecursion (λ c. P c × Q c) cs
both_hold P Q [] ps qs = tt
both_hold P Q (c ∷ cs) ps qs = ((ps.0, qs.0), both_hold P Q cs ps.1 qs.1)

pub all_formed : (m : ℕ → EditRefusal → EditRefusal) (cs : List Command) (s : Cells) → AllByRecursion IsValidCommand cs → IsWellFormed s →
    IsWellFormed (step (meaning_of_all m cs) s)
all_formed m cs s valid formed =
    (keeps_all (λ xs. Unit {0}) tt (λ ls xs p q. tt) IsValidCommand (λ c is r there. (command_keeps c r is there, tt)) m (write []) 0 cs s formed (formed, tt)
    valid).0

pub all_once : (m : ℕ → EditRefusal → EditRefusal) (cs : List Command) (s : Cells) → AllByRecursion IsValidCommand cs → AllByRecursion CommandListsOnce cs →
    IsWellFormed s → AllOnce cell_cmp (written (outcome (meaning_of_all m cs) s))
all_once m cs s valid listed formed =
    (keeps_all (AllOnce cell_cmp) tt (once-together cell_order) (λ c. IsValidCommand c × CommandListsOnce c)
    (λ c is r there. (command_keeps c r is.0 there, command_once c r is.0 is.1 there)) m (write []) 0 cs s formed (formed, tt)
    (both_hold IsValidCommand CommandListsOnce cs valid listed)).1

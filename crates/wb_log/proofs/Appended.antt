-- An edit comes in as the last: out of force, or made by its plan.
use Rattle.std.proofs.Common.{◌≡◌, ℕ, ℤ, List, [], ◌∷◌, ◌++◌, refl, sym, ap, ◌∙◌, subst, Option, Some, None, option_map, is_some, IsSome, Ok, inl, inr}
use Rattle.std.specs.FinMap.{empty, get}
use Rattle.selective_undo.specs.Changes.{apply, inverse}
use Rattle.selective_undo.specs.Edit.{Schema, State, EditTree, Trace, trace, step, outcome, reads}
use Rattle.selective_undo.specs.History.{Entry, done, undone, replay_from, traces_from, replay, traces, InForce}
use Rattle.selective_undo.specs.Log.{Logged, IsKept, history, entry_of, footprints, footprint_of}
use Rattle.selective_undo.proofs.Log.{append-map, last_or}
use Rattle.wb_book.specs.Kept.{element_set}
use Rattle.wb_cells.specs.declared.cells.cell.Cell.TheVariants.{Element}
use Rattle.wb_cells.specs.declared.cells.value.Value.{Value}
use Rattle.wb_cells.specs.declared.cells.value.Value.TheVariants as value
use Rattle.wb_cells.specs.declared.values.index.Index.{Index as Place}
use Rattle.wb_cells.specs.Cells.{Name, Cells, Changes}
use Rattle.wb_cells.specs.Schema.{workbook}
use Rattle.wb_edit.specs.declared.command.Command.TheVariants.{Set}
use Rattle.wb_edit.specs.declared.edit.Edit as command
use Rattle.wb_edit.specs.declared.edit.Edit.TheVariants.{Command as OneCommand}
use Rattle.wb_edit.specs.Edits.{meaning, IsValid}
use Rattle.wb_footprints.specs.Footprints.{element_reads}
use Rattle.wb_log.specs.declared.entry.Before.TheVariants.{Number}
use Rattle.wb_log.specs.declared.entry.LoggedEdit as kept
use Rattle.wb_log.specs.declared.entry.UndoData.{UndoData}
use Rattle.wb_log.specs.declared.index.EditIndex.{EditIndex}
use Rattle.wb_log.specs.Indexed.{Keeps}
use Rattle.wb_log.specs.Kept.{logged, log, numbered, numbered_entries, Shows}
use Rattle.wb_log.specs.Past.{Past, meant, AreValid}
use Rattle.wb_log.specs.Records.{cell_before}
use Rattle.wb_log.proofs.Entered.{more_indexed}
use Rattle.wb_log.proofs.Entries.{history-log, numbers_more, more_kept}
use Rattle.wb_log.proofs.Seen.{seen}
use Rattle.wb_log.proofs.Straight.{set_accepted, set_reads}
use Rattle.wb_log.proofs.Valid.{valid_append, well_formed}

-- ---- one history after another

module _ {w : Schema} where
  pub follows : (h k : List (Entry w)) (s : State w)
      → (replay_from (h ++ k) s ≡ replay_from k (replay_from h s)) × (traces_from (h ++ k) s ≡ traces_from h s ++ traces_from k (replay_from h s))
  follows [] k s = (refl, refl)
  follows (done e ∷ h) k s = let rest = follows h k (step e s) in (rest.0, ap (λ ts. Some (trace e s) ∷ ts) rest.1)
  follows (undone e ∷ h) k s = let rest = follows h k s in (rest.0, ap (λ ts. None ∷ ts) rest.1)

  no_more : (ts : List (Option (Trace w))) (j : ℕ) (u : Trace w) → InForce (ts ++ None ∷ []) j u → InForce ts j u
  no_more ts j u is =
      elim (last_or ts None (Some u) j is) [
        | inl last ↦ cc
        | inr old ↦ old
      ]

  -- an edit comes in out of force
  kept_undone : (s : State w) (log : List (Logged w)) (e : EditTree w) → IsKept s log → IsKept s (log ++ record { edit = e; kept = None } ∷ [])
  kept_undone s log e kept =
      let more : Logged w = record { edit = e; kept = None } in
      let h = history log in
      let now_is : history (log ++ more ∷ []) ≡ h ++ undone e ∷ [] = append-map entry_of log (more ∷ []) in
      let after = follows h (undone e ∷ []) empty in
      record {
        legal = λ j u is. kept.legal j u (no_more (traces h) j u (subst (λ ts. InForce ts j u) (ap traces now_is ∙ after.1) is));
        shown = kept.shown ∙ sym (ap replay now_is ∙ after.0);
        footprints = append-map (λ x. x.kept) log (more ∷ []) ∙ ap (λ fs. fs ++ None ∷ []) kept.footprints
            ∙ sym (ap (λ g. footprints (traces g)) now_is ∙ ap footprints after.1 ∙ append-map (option_map footprint_of) (traces h) (None ∷ []));
      }

pub keeps_undone : (s : Cells) (x : EditIndex) (es : List kept.LoggedEdit) (e : command.Edit) → Keeps es s x → IsValid e →
    Keeps (es ++ record { edit = e; kept = None } ∷ []) s x
keeps_undone s x es e keeps here =
    let y : kept.LoggedEdit = record { edit = e; kept = None } in
    record {
      shows = subst (λ l. IsKept {w = workbook} s l) (sym (append-map logged es (y ∷ []))) (kept_undone s (log es) (meaning e) keeps.shows);
      valid = subst AreValid (sym (numbers_more es y)) (valid_append (numbered_entries es) (numbered y) keeps.valid here);
      indexed = more_indexed x es y keeps.indexed;
    }

-- ---- an edit is made by its plan

-- the cells, as contracts tell of them
pub cells_seen : (es : List kept.LoggedEdit) (s : Cells) (w : ℕ) (p : Past) → Shows es s → seen es w ≡ p → s ≡ replay (meant p.entries)
cells_seen es s w p shows is = shows.shown ∙ ap replay (history-log es) ∙ ap (λ q. replay (meant q.entries)) is

pub keeps_made : (s : Cells) (x : EditIndex) (es : List kept.LoggedEdit) (e : command.Edit) (xs : Changes) (k : UndoData) → Keeps es s x → IsValid e →
    outcome (meaning e) s ≡ Ok xs → k.footprint ≡ reads (meaning e) s → k.inverse ≡ inverse xs s →
    Keeps (es ++ record { edit = e; kept = Some k } ∷ []) (apply xs s) x
keeps_made s x es e xs k keeps here accepted read before =
    let y : kept.LoggedEdit = record { edit = e; kept = Some k } in
    record {
      shows = more_kept s es e xs k keeps.shows accepted read before;
      valid = subst AreValid (sym (numbers_more es y)) (valid_append (numbered_entries es) (numbered y) keeps.valid here);
      indexed = more_indexed x es y keeps.indexed;
    }

-- a new value of an element that is there
pub keeps_set : (s : Cells) (x : EditIndex) (es : List kept.LoggedEdit) (a : Name) (i : Place) (v was : ℤ) → Keeps es s x → IsValid (OneCommand (Set a i v)) →
    get s (Element a i) ≡ Some (value.Number was) → let k : UndoData = record { footprint = element_reads a i; inverse = cell_before (Element a i) (Number was) } in
    Keeps (es ++ record { edit = OneCommand (Set a i v); kept = Some k } ∷ []) (apply (element_set a i v) s) x
keeps_set s x es a i v was keeps here had =
    let k : UndoData = record { footprint = element_reads a i; inverse = cell_before (Element a i) (Number was) } in
    let formed = well_formed es s keeps.shows keeps.valid in
    let there : IsSome (get s (Element a i)) = ap is_some had in
    keeps_made s x es (OneCommand (Set a i v)) (element_set a i v) k keeps here (set_accepted s formed a i v there) (sym (set_reads s formed a i v there))
    (ap (λ (o : Option Value). let xs : Changes = record { cell = Element a i; value = o } ∷ [] in xs) (sym had))

-- A new value of an element is made again, and comes back to the index.
use Rattle.std.proofs.Common.{◌≡◌, ℕ, ℤ, ◌+◌, ◌≤◌, ◌<◌, ◌==◌, nat_lt, Bool, true, false, ◌||◌, if◌then◌else◌, List, [], ◌∷◌, Option, Some, None, Ok, Err, IsSome}
use Rattle.std.proofs.Common.{slice_get, refl, sym, ap, ◌∙◌, arith}
use Rattle.std.proofs.lemmas.Bool.Decides.{nat_tests}
use Rattle.std.specs.FinMap.{get}
use Rattle.selective_undo.specs.Changes.{inverse}
use Rattle.selective_undo.specs.Log.{Footprint, blocks_redo}
use Rattle.wb_book.specs.Kept.{element_set}
use Rattle.wb_cells.specs.declared.cells.cell.Cell.{Cell}
use Rattle.wb_cells.specs.declared.cells.cell.Cell.TheVariants.{Object, Element}
use Rattle.wb_cells.specs.declared.cells.pattern.Pattern.TheVariants.{One}
use Rattle.wb_cells.specs.declared.cells.value.Value.{Value}
use Rattle.wb_cells.specs.declared.cells.value.Value.TheVariants as value
use Rattle.wb_cells.specs.declared.values.index.Index.{Index}
use Rattle.wb_cells.specs.Cells.{Name, Cells, Changes}
use Rattle.wb_cells.specs.Schema.{workbook}
use Rattle.wb_edit.specs.declared.command.Command.TheVariants.{Set}
use Rattle.wb_edit.specs.declared.edit.Edit as command
use Rattle.wb_edit.specs.declared.edit.Edit.TheVariants.{Command as OneCommand}
use Rattle.wb_edit.specs.declared.refusal.Refusal.TheVariants.{Blocked}
use Rattle.wb_footprints.specs.Footprints.{Footprints, with_footprint, footprint, met_by, touched_by, read_by, touched_one_of, element_reads}
use Rattle.wb_footprints.specs.Places.{own, family}
use Rattle.wb_footprints.proofs.Meeting.{at_family, met_at, named_under, redo_met}
use Rattle.wb_log.specs.declared.entry.Before.TheVariants.{Number}
use Rattle.wb_log.specs.declared.entry.LoggedEdit as kept
use Rattle.wb_log.specs.Indexed.{up_to}
use Rattle.wb_log.specs.Kept.{Shows, PlansAgain, redo_blocker, numbered_entries, entries_meant}
use Rattle.wb_log.specs.Past.{AreValid}
use Rattle.wb_log.specs.Records.{cell_before}
use Rattle.wb_log.specs.Replies.{RedoReply}
use Rattle.wb_log.proofs.Redone.{blocked_plan}
use Rattle.wb_log.proofs.Straight.{set_accepted, set_reads}
use Rattle.wb_log.proofs.Valid.{well_formed}

-- ---- what it meets

-- what touched the element met it, so that it need not be asked who else touched it
absorbed : (t r f b : Bool) → ((((t || r) || f) || false) || (b || (t || false))) ≡ (((t || r) || f) || (b || false))
absorbed true r f b = refl
absorbed false true f b = refl
absorbed false false true b = refl
absorbed false false false true = refl
absorbed false false false false = refl

joined : (t r f b m u w : Bool) → m ≡ ((t || r) || f) → u ≡ (b || (t || false)) → w ≡ (b || false) → ((m || false) || u) ≡ (m || w)
joined t r f b m u w met under alone = rw (met, under, alone) (absorbed t r f b)

-- an edit is in the way that read or touched the element, or touched the array
pub met_again : (a : Name) (i : Index) (v : ℤ) (o : Option (Footprint workbook)) →
    blocks_redo (footprint (element_reads a i) (element_set a i v)) o ≡ (met_by o (Element a i) || touched_one_of o (One (Object a) ∷ []))
met_again a i v o =
    let c : Cell = Element a i in
    redo_met (element_reads a i) (element_set a i v) o ∙
    joined (touched_by o (own c)) (read_by o (own c)) (at_family (read_by o) (family c)) (touched_by o (own (Object a)))
    (met_by o c) (touched_one_of o (element_reads a i)) (touched_one_of o (One (Object a) ∷ []))
    (met_at o c) (named_under (element_reads a i) o) (named_under (One (Object a) ∷ []) o)

-- ---- it is made again

module _ (s : Cells) (es : List kept.LoggedEdit) (k : ℕ) (a : Name) (i : Index) (v : ℤ) (shows : Shows es s) (valid : AreValid (numbered_entries es))
    (is : slice_get es k ≡ Some (record { edit = OneCommand (Set a i v); kept = None })) (there : IsSome (get s (Element a i))) where
  abbrev now : kept.LoggedEdit
  now = record { edit = OneCommand (Set a i v); kept = None }

  pub set_plan : None ≡ redo_blocker es k (element_reads a i) (element_set a i v) → PlansAgain es k s (element_set a i v) (element_reads a i) 1
  set_plan free =
      let formed = well_formed es s shows valid in
      (now, is, refl, set_accepted s formed a i v there, sym (set_reads s formed a i v there), refl, sym free)

  pub set_blocked : (m : ℕ) → Some m ≡ redo_blocker es k (element_reads a i) (element_set a i v) → RedoReply (entries_meant es) k (Err (Blocked m))
  set_blocked m found =
      let formed = well_formed es s shows valid in
      blocked_plan s es k now shows is refl (element_set a i v) (element_reads a i) m (set_accepted s formed a i v there)
      (sym (set_reads s formed a i v there)) found

-- the entry, by what the element was
pub entry_again : (s : Cells) (a : Name) (i : Index) (v was : ℤ) (e : command.Edit) → e ≡ OneCommand (Set a i v) → get s (Element a i) ≡ Some (value.Number was) →
    let now : kept.LoggedEdit = record {
      edit = OneCommand (Set a i v);
      kept = Some (record { footprint = element_reads a i; inverse = cell_before (Element a i) (Number was) });
    } in
    now ≡ record { edit = e; kept = Some (record { footprint = element_reads a i; inverse = inverse (element_set a i v) s }) }
entry_again s a i v was e is had = rw (is, had) refl

-- ---- the footprints up to a number

module _ (e k : ℕ) (f : Footprints) (o : Option (Footprint workbook)) (n : ℕ) where
  low : k < e → (k + 1 == n) ≡ true → nat_lt e n ≡ false
  low in_front same = grind (arith, nat_tests)

  high : e ≤ k → (k + 1 == n) ≡ true → nat_lt e n ≡ true
  high behind same = grind (arith, nat_tests)

  either : (a b : Bool) (x y : Option (Footprint workbook)) → (a ≡ true → b ≡ false) →
      (if a then x else (if b then None else y)) ≡ (if b then None else (if a then x else y))
  either true true x y h = let bad = h refl in cc
  either true false x y h = refl
  either false true x y h = refl
  either false false x y h = refl

  neither : (a b : Bool) (x y : Option (Footprint workbook)) → (a ≡ true → b ≡ true) → (if b then None else y) ≡ (if b then None else (if a then x else y))
  neither true true x y h = refl
  neither true false x y h = let bad = h refl in cc
  neither false true x y h = refl
  neither false false x y h = refl

  -- one comes to them
  pub comes : k < e → with_footprint (up_to e f) (k + 1) o n ≡ up_to e (with_footprint f (k + 1) o) n
  comes in_front = either (k + 1 == n) (nat_lt e n) o (f n) (low in_front)

  -- and one beyond the number does not
  pub stays_out : e ≤ k → up_to e f n ≡ up_to e (with_footprint f (k + 1) o) n
  stays_out behind = neither (k + 1 == n) (nat_lt e n) o (f n) (high behind)

-- What a tree writes, look by look, in a state where it isn't refused.
use Rattle.std.proofs.Common.{◌≡◌, List, [], map, Option, Result, Ok, Err, refl, sym, subst}
use Rattle.std.specs.FinMap.{get}
use Rattle.selective_undo.specs.Edit.{outcome}
use Rattle.wb_cells.specs.declared.cells.cell.Cell.{Cell}
use Rattle.wb_cells.specs.declared.cells.value.Value.{Value}
use Rattle.wb_cells.specs.Cells.{Cells, Changes}
use Rattle.wb_cells.specs.declared.refusal.WhyRefused.{WhyRefused}
use Rattle.wb_edit.specs.Rectangles.{read_all}
use Rattle.wb_edit.specs.Trees.{Tree, read, judged}
use Rattle.wb_edit.proofs.Rectangles.{gives_all}
use Rattle.wb_edit.proofs.Trees.{seen_value}

module _ (P : Changes → Type 0) (s : Cells) where
  -- what the tree writes has the property
  abbrev pub Writes : Tree → Type 0
  Writes t = (xs : Changes) → outcome t s ≡ Ok xs → P xs

  -- a look at one cell goes on with what the cell holds
  pub writes_read : (c : Cell) (next : Option Value → Tree) → Writes (next (get s c)) → Writes (read c next)
  writes_read c next w = subst (λ v. Writes (next v)) (sym (seen_value s c)) w

  -- a judgement goes on with what it gives
  pub writes_judged : {X : Type 0} (j : Result X WhyRefused) (next : X → Tree) → ((x : X) → j ≡ Ok x → Writes (next x)) → Writes (judged j next)
  writes_judged (Ok x) next w = w x refl
  writes_judged (Err why) next w = λ xs e. cc

  -- a look at one cell whose value is judged
  pub writes_test : {X : Type 0} (c : Cell) (test : Option Value → Result X WhyRefused) (next : X → Tree) →
      ((x : X) → test (get s c) ≡ Ok x → Writes (next x)) → Writes (read c (λ v. judged (test v) next))
  writes_test c test next w = writes_read c (λ v. judged (test v) next) (writes_judged (test (get s c)) next w)

  -- a look at many cells goes on with what each holds
  pub writes_all : (cs : List Cell) (next : List (Option Value) → Tree) → Writes (next (map (get s) cs)) → Writes (read_all cs next)
  writes_all cs next w = subst (λ o. (xs : Changes) → o ≡ Ok xs → P xs) (sym ((gives_all s cs [] next).0)) w

-- What a look and a judgement let through, and what they saw then.
use Rattle.std.proofs.Common.{◌≡◌, Bool, true, false, Option, Some, None, Result, Ok, Err, refl, sym, subst}
use Rattle.std.specs.FinMap.{get}
use Rattle.selective_undo.specs.Edit.{step}
use Rattle.wb_cells.specs.declared.cells.cell.Cell.{Cell}
use Rattle.wb_cells.specs.declared.cells.kind.DomainKind.{DomainKind}
use Rattle.wb_cells.specs.declared.cells.kind.Kind.{Kind}
use Rattle.wb_cells.specs.declared.cells.value.Value.{Value}
use Rattle.wb_cells.specs.declared.cells.value.Value.TheVariants.{Domain, Array}
use Rattle.wb_cells.specs.Cells.{Name, Cells}
use Rattle.wb_cells.specs.WellFormed.{IsWellFormed}
use Rattle.wb_cells.specs.declared.refusal.WhyRefused.{WhyRefused}
use Rattle.wb_cells.specs.declared.refusal.WhyRefused.TheVariants.{WrongKind}
use Rattle.wb_edit.specs.Trees.{Tree, read, judged}
use Rattle.wb_edit.specs.Looks.{is_free, domain_kind, array_kind, is_there}
use Rattle.wb_edit.proofs.Trees.{seen_value}

-- the tree leaves a well-formed workbook
abbrev pub Keeps : Tree → Cells → Type 0
Keeps t s = IsWellFormed (step t s)

-- a look at one cell goes on with what the cell holds
pub keeps_read : (s : Cells) (c : Cell) (next : Option Value → Tree) → ((v : Option Value) → get s c ≡ v → Keeps (next v) s) → Keeps (read c next) s
keeps_read s c next kept = subst (λ v. Keeps (next v) s) (sym (seen_value s c)) (kept (get s c) refl)

-- a judgement goes on with what it gives; where it refuses, nothing changes
pub keeps_judged : {X : Type 0} (s : Cells) (j : Result X WhyRefused) (next : X → Tree) → IsWellFormed s → ((x : X) → j ≡ Ok x → Keeps (next x) s) →
    Keeps (judged j next) s
keeps_judged s (Ok x) next h kept = kept x refl
keeps_judged s (Err why) next h kept = h

-- ---- what a judgement was given

pub free_is : (v : Option Value) (x : Unit {0}) → is_free v ≡ Ok x → v ≡ None
free_is None x e = refl
free_is (Some v) x e = cc

pub domain_is : (v : Option Value) (kind : DomainKind) → domain_kind v ≡ Ok kind → v ≡ Some (Domain kind)
domain_is (Some (Domain k)) kind e = cc
domain_is _ kind e = cc

pub array_is : (v : Option Value) (x : Name × Kind) → array_kind v ≡ Ok x → v ≡ Some (Array x.0 x.1)
array_is (Some (Array d k)) x e = cc
array_is _ x e = cc

pub there_is : (v : Option Value) (x : Unit {0}) → is_there v ≡ Ok x → (w : Value) × (v ≡ Some w)
there_is None x e = cc
there_is (Some w) x e = (w, refl)

-- a test that was passed
pub passed_is : (b : Bool) (x : Unit {0}) → ◌≡◌ {A = Result (Unit {0}) WhyRefused} (elim b [ true ↦ Ok tt | false ↦ Err WrongKind ]) (Ok x) → b ≡ true
passed_is true x e = refl
passed_is false x e = cc

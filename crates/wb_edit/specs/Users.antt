-- What is bound to a domain: the arrays over it, and the sparse domains in it.
use Rattle.std.specs.Prelude.{List, [], ◌∷◌, Result, Ok, Err}
use Rattle.std.specs.List.{filter_map}
use Rattle.selective_undo.specs.Edit.{look}
use Rattle.wb_cells.specs.declared.cells.pattern.Pattern.TheVariants.{Uses}
use Rattle.wb_cells.specs.declared.cells.value.Binding.{Binding}
use Rattle.wb_cells.specs.Cells.{Name}
pub use Rattle.wb_reshape.specs.Users.{binding_in, user_in, named, bound}
use Rattle.wb_cells.specs.declared.refusal.WhyRefused.{WhyRefused}
use Rattle.wb_cells.specs.declared.refusal.WhyRefused.TheVariants.{InUse}
use Rattle.wb_edit.specs.Trees.{Look, ◌>>=◌, judged}

-- ---- judgements of what was seen

-- nothing is bound to the domain; else it is in use
abbrev pub is_unused : List (Name × Binding) → Result (Unit {0}) WhyRefused
is_unused [] = Ok tt
is_unused (u ∷ us) = Err InUse

-- ---- the looks

-- what is bound to a domain, and how, by their names: looks at all of that
abbrev pub uses : Name → Look (List (Name × Binding))
uses d next = look (Uses d) (λ seen. next (filter_map user_in seen))

-- a domain to which nothing is bound: looks at all that is
abbrev pub unused : Name → Look (Unit {0})
unused d next = do
  users ← uses d
  judged (is_unused users) next

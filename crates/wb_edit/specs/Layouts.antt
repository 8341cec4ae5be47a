-- Tests on mappings: for which rank one is (Chapel Language Specification, Domain Maps).
use Rattle.std.specs.Prelude.{ℕ, true, false, Result, Ok, Err}
use Rattle.wb_dist.specs.Maps.{LayoutMap}
use Rattle.wb_cells.specs.Layouts.{is_of_rank}
use Rattle.wb_cells.specs.declared.refusal.WhyRefused.{WhyRefused}
use Rattle.wb_cells.specs.declared.refusal.WhyRefused.TheVariants.{BadMapping}
use Rattle.wb_edit.specs.Trees.{Look, judged}

-- ---- judgements

-- the mapping is for domains of the rank; else it is a bad one for them
abbrev pub for_rank : ℕ → LayoutMap → Result (Unit {0}) WhyRefused
for_rank rank m = elim (is_of_rank rank m) [ true ↦ Ok tt | false ↦ Err BadMapping ]

-- ---- the looks

-- a mapping for domains of the rank: looks at nothing
abbrev pub mapped : ℕ → LayoutMap → Look (Unit {0})
mapped rank m = judged (for_rank rank m)

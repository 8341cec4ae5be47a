-- Arrays that are put in the place of others.
use Rattle.std.specs.Prelude.{cond, Option, Some, None}
use Rattle.wb_cells.specs.Cells.{Name, is_same_name}
use Rattle.wb_book.specs.Kept.{Pieced}

-- what is there is replaced by what there is for it
abbrev pub put_over : Option Pieced → Option Pieced → Option Pieced
put_over None q = None
put_over (Some p) None = Some p
put_over (Some p) (Some q) = Some q

abbrev pub only : Name → Pieced → Name → Option Pieced
only a p b = cond (is_same_name a b) (Some p) None

use Rattle.std.proofs.Common.{sym, ap, ◌∙◌}
use Rattle.std.specs.List.{list_all}
use Rattle.wb_cells.specs.Runs.{all_changes}
use Rattle.wb_book.specs.Joined.{element_in}
use Rattle.wb_book.specs.Kept.{is_set}
use Rattle.wb_book.proofs.ElementsSet.{both_true}
use Rattle.wb_book.proofs.Entries.{begins}
use Rattle.wb_book.proofs.EntriesSet.{same_tests}
use Rattle.wb_book.proofs.keep.set_all.Goals as goal

pub set_runs-requires-2 : goal.set_runs-requires-2
set_runs-requires-2 c =
    let element = element_in c.args.arrays.now.entries in
    let x = c.in-Some.first in
    let rs = c.parts-first.result.1.now in
    let all = ap (list_all (is_set element)) (sym (begins c.args.delta.now c.parts-first.result.0 rs c.parts-first.ensures x c.in-Some.is)) ∙ c.requires in
    same_tests element (element_in c.set_one.new.arrays.entries) c.set_one.ensures.there (all_changes rs)
    ∙ (both_true (is_set element x) (list_all (is_set element) (all_changes rs)) all).1

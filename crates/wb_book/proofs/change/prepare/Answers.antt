use Rattle.std.proofs.Common.{◌≡◌, rules, tests}
use Rattle.selective_undo.specs.Changes.{apply, sets}
use Rattle.wb_cells.specs.Cells.{state_of}
use Rattle.wb_book.specs.Joined.{stored_part}
use Rattle.wb_book.proofs.change.prepare.Goals as goal

pub build_arrays-requires-after_bounds : goal.build_arrays-requires-after_bounds
build_arrays-requires-after_bounds g c κs within =
    let set : state_of c.set_given.new.cells ≡ apply (sets (stored_part c.args.all.now)) (state_of c.args.cells.now) = search (rules, tests) in
    c.requires c.set_given.new.cells c.put_new.new.arrays.entries set c.put_new.ensures.elements

-- The commands, each in the file named by its op. Each is its tests in their order, and then the cells that it writes with their
-- new values.
-- A test that refuses ends the command: it has read what the tests so far looked at, that one's own looks too, and writes nothing.
pub mod Domain
pub mod Remap
pub mod Sparse
pub mod Assoc
pub mod Array
pub mod Set
pub mod Irv
pub mod Copy
pub mod Fill
pub mod Put
pub mod FillAll
pub mod DropArray
pub mod All
pub mod DropDomain
pub mod Reshape
pub mod Add
pub mod Remove
pub mod Load
pub mod Meaning
pub use Rattle.wb_edit.specs.Commands.Domain.{new_domain_changes, domain}
pub use Rattle.wb_edit.specs.Commands.Remap.{remap}
pub use Rattle.wb_edit.specs.Commands.Sparse.{sparse}
pub use Rattle.wb_edit.specs.Commands.Assoc.{assoc}
pub use Rattle.wb_edit.specs.Commands.Array.{new_array_changes, array}
pub use Rattle.wb_edit.specs.Commands.Set.{set}
pub use Rattle.wb_edit.specs.Commands.Irv.{irv}
pub use Rattle.wb_edit.specs.Commands.Copy.{copy}
pub use Rattle.wb_edit.specs.Commands.Fill.{fill}
pub use Rattle.wb_edit.specs.Commands.Put.{put_numbers, put}
pub use Rattle.wb_edit.specs.Commands.FillAll.{fill_all}
pub use Rattle.wb_edit.specs.Commands.DropArray.{dropped_cells, drop_array}
pub use Rattle.wb_edit.specs.Commands.All.{number_cells, all_results, all}
pub use Rattle.wb_edit.specs.Commands.DropDomain.{drop_domain}
pub use Rattle.wb_edit.specs.Commands.Reshape.{reshape}
pub use Rattle.wb_edit.specs.Commands.Add.{add_unless, add}
pub use Rattle.wb_edit.specs.Commands.Remove.{left, remove_if, remove}
pub use Rattle.wb_edit.specs.Commands.Load.{book_cells, load}
pub use Rattle.wb_edit.specs.Commands.Meaning.{command_meaning}
pub use Rattle.wb_edit.specs.Resizing.{resized}
pub use Rattle.wb_reshape.specs.Dropped.{cells_beside_indices, dropped_domain_cells}

use Rattle.std.proofs.Common.{is_some, sym, ap}
use Rattle.wb_elements.proofs.Blocks.{whole_same}
use Rattle.wb_elements.proofs.block.RectangleChangesChangeBlock.is_whole.Goals as goal

pub returns-in-Some : goal.returns-in-Some
returns-in-Some c = λ _. whole_same c.args.self.now.ranges c.args.self.now.number (ap is_some (sym c.in-Some.ensures))

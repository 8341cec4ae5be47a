use Rattle.std.proofs.Common.{rules}
use Rattle.wb_cells.proofs.Families.{begins}
use Rattle.wb_layers.proofs.beginning.first.Goals as goal

pub returns-in-One : goal.returns-in-One
returns-in-One c = begins _ _ (search rules)

pub returns-in-Objects : goal.returns-in-Objects
returns-in-Objects c = begins _ _ (search rules)

pub returns-in-Members : goal.returns-in-Members
returns-in-Members c = begins _ _ (search rules)

pub returns-in-Uses : goal.returns-in-Uses
returns-in-Uses c = begins _ _ (search rules)

pub returns-in-Elements : goal.returns-in-Elements
returns-in-Elements c = begins _ _ (search rules)

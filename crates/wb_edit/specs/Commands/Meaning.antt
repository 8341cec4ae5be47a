-- What each command means.
use Rattle.wb_edit.specs.declared.command.Command.{Command}
use Rattle.wb_edit.specs.declared.command.Command.TheVariants.{Domain, Remap, Sparse, Assoc, Array, Set, Irv, Copy, Fill, Put, FillAll, DropArray, All, Add, Remove}
use Rattle.wb_edit.specs.declared.command.Command.TheVariants.{DropDomain, Reshape}
use Rattle.wb_edit.specs.Trees.{Tree}
use Rattle.wb_edit.specs.Commands.Domain.{domain}
use Rattle.wb_edit.specs.Commands.Remap.{remap}
use Rattle.wb_edit.specs.Commands.Sparse.{sparse}
use Rattle.wb_edit.specs.Commands.Assoc.{assoc}
use Rattle.wb_edit.specs.Commands.Array.{array}
use Rattle.wb_edit.specs.Commands.Set.{set}
use Rattle.wb_edit.specs.Commands.Irv.{irv}
use Rattle.wb_edit.specs.Commands.Copy.{copy}
use Rattle.wb_edit.specs.Commands.Fill.{fill}
use Rattle.wb_edit.specs.Commands.Put.{put}
use Rattle.wb_edit.specs.Commands.FillAll.{fill_all}
use Rattle.wb_edit.specs.Commands.DropArray.{drop_array}
use Rattle.wb_edit.specs.Commands.All.{all}
use Rattle.wb_edit.specs.Commands.DropDomain.{drop_domain}
use Rattle.wb_edit.specs.Commands.Reshape.{reshape}
use Rattle.wb_edit.specs.Commands.Add.{add}
use Rattle.wb_edit.specs.Commands.Remove.{remove}

-- the tree of a command
abbrev pub command_meaning : Command → Tree
command_meaning (Domain d asked m) = domain d asked m
command_meaning (Remap d m) = remap d m
command_meaning (Sparse d parent) = sparse d parent
command_meaning (Assoc d type) = assoc d type
command_meaning (Array a d) = array a d
command_meaning (Set a i v) = set a i v
command_meaning (Irv a v) = irv a v
command_meaning (Copy a i b j c) = copy a i b j c
command_meaning (Fill a asked v) = fill a asked v
command_meaning (Put a asked) = put a asked
command_meaning (FillAll a v) = fill_all a v
command_meaning (DropArray a) = drop_array a
command_meaning (All a how b) = all a how b
command_meaning (Add d i) = add d i
command_meaning (Remove d i) = remove d i
command_meaning (DropDomain d) = drop_domain d
command_meaning (Reshape d source) = reshape d source

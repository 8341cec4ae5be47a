-- The canonical object of a command is that of the edit which it is alone, since no member of it spells commands.
use Rattle.std.proofs.Common.{◌≡◌, refl}
use Rattle.wb_edit.specs.declared.asked_numbers.AskedNumbers.TheVariants.{Rectangle as numbered, Indices as not_numbered}
use Rattle.wb_edit.specs.declared.asked_rectangle.AskedRectangle.TheVariants.{Ranges, Indices}
use Rattle.wb_edit.specs.declared.command.Command.{Command}
use Rattle.wb_edit.specs.declared.command.Command.TheVariants.{Domain, Remap, Reshape, Sparse, Assoc}
use Rattle.wb_edit.specs.declared.command.Command.TheVariants.{DropDomain, Add, Remove, Array, Set, Irv, Copy}
use Rattle.wb_edit.specs.declared.command.Command.TheVariants.{Fill, Put, FillAll, DropArray, All}
use Rattle.wb_edit.specs.declared.edit.Edit.TheVariants.{Command as OneCommand}
use Rattle.wb_reshape.specs.declared.new_indices.Displacement.TheVariants.{Translate, Expand}
use Rattle.wb_reshape.specs.declared.new_indices.SetOperation.TheVariants.{Union, Intersection, Difference, SymmetricDifference}
use Rattle.wb_reshape.specs.declared.new_indices.NewIndices.TheVariants.{To, Slice, Displace, Combine}
use Rattle.wb_requests.specs.Encoding.Encoded.{command_data, edit_data}

pub command_is : (c : Command) → command_data c ≡ edit_data (OneCommand c)
command_is (Domain d (Ranges is) m) = refl
command_is (Domain d Indices m) = refl
command_is (Remap d m) = refl
command_is (Sparse d parent) = refl
command_is (Assoc d type) = refl
command_is (DropDomain d) = refl
command_is (Reshape d (To g)) = refl
command_is (Reshape d (Slice g)) = refl
command_is (Reshape d (Displace Translate is)) = refl
command_is (Reshape d (Displace Expand is)) = refl
command_is (Reshape d (Combine Union g)) = refl
command_is (Reshape d (Combine Intersection g)) = refl
command_is (Reshape d (Combine Difference g)) = refl
command_is (Reshape d (Combine SymmetricDifference g)) = refl
command_is (Add d i) = refl
command_is (Remove d i) = refl
command_is (Array a d) = refl
command_is (DropArray a) = refl
command_is (Set a i v) = refl
command_is (Fill a (Ranges on) v) = refl
command_is (Fill a Indices v) = refl
command_is (Put a (numbered r)) = refl
command_is (Put a not_numbered) = refl
command_is (FillAll a v) = refl
command_is (Irv a v) = refl
command_is (Copy a i b j c) = refl
command_is (All a how b) = refl

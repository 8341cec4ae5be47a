-- Every command keeps a workbook well formed.
use Rattle.wb_edit.specs.Laws.{CommandKeeps}
use Rattle.wb_edit.specs.declared.command.Command.TheVariants.{Domain, Remap, Sparse, Assoc, Array, Set, Irv, Copy, Fill, Put, FillAll, DropArray, All, Add, Remove}
use Rattle.wb_edit.specs.declared.command.Command.TheVariants.{DropDomain, Reshape}
use Rattle.wb_edit.proofs.Kept.Domain.{domain_kept}
use Rattle.wb_edit.proofs.Kept.Sparse.{sparse_kept}
use Rattle.wb_edit.proofs.Kept.Assoc.{assoc_kept}
use Rattle.wb_edit.proofs.Kept.Remap.{remap_kept}
use Rattle.wb_edit.proofs.Kept.Array.{array_kept}
use Rattle.wb_edit.proofs.Kept.Irv.{irv_kept}
use Rattle.wb_edit.proofs.Kept.Set.{set_kept}
use Rattle.wb_edit.proofs.Kept.Copy.{copy_kept}
use Rattle.wb_edit.proofs.Kept.Fill.{fill_kept}
use Rattle.wb_edit.proofs.Kept.Put.{put_kept}
use Rattle.wb_edit.proofs.Kept.FillAll.{fill_all_kept}
use Rattle.wb_edit.proofs.Kept.DropArray.{drop_array_kept}
use Rattle.wb_edit.proofs.Kept.All.{all_kept}
use Rattle.wb_edit.proofs.Kept.DropDomain.{drop_domain_kept}
use Rattle.wb_edit.proofs.Kept.Add.{add_kept}
use Rattle.wb_edit.proofs.Kept.Remove.{remove_kept}
use Rattle.wb_edit.proofs.Kept.Reshape.{reshape_kept}

pub command_keeps : CommandKeeps
command_keeps (Domain d asked m) s valid h = domain_kept s d asked m valid h
command_keeps (Remap d m) s valid h = remap_kept s d m valid h
command_keeps (Sparse d parent) s valid h = sparse_kept s d parent valid h
command_keeps (Assoc d type) s valid h = assoc_kept s d type valid h
command_keeps (Array a d) s valid h = array_kept s a d valid h
command_keeps (Set a i v) s valid h = set_kept s a i v valid h
command_keeps (Irv a v) s valid h = irv_kept s a v valid h
command_keeps (Copy a i b j c) s valid h = copy_kept s a i b j c h
command_keeps (Fill a asked v) s valid h = fill_kept s a asked v valid h
command_keeps (Put a asked) s valid h = put_kept s a asked valid h
command_keeps (FillAll a v) s valid h = fill_all_kept s a v valid h
command_keeps (DropArray a) s valid h = drop_array_kept s a h
command_keeps (All a how b) s valid h = all_kept s a how b h
command_keeps (Add d i) s valid h = add_kept s d i valid h
command_keeps (Remove d i) s valid h = remove_kept s d i h
command_keeps (DropDomain d) s valid h = drop_domain_kept s d h
command_keeps (Reshape d source) s valid h = reshape_kept s d source valid h

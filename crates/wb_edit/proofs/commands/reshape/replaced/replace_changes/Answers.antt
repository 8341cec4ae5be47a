use Rattle.std.proofs.Common.{◌≡◌, ℤ, pos, List, sym, ap, subst, ◌∙◌}
use Rattle.std.specs.Map.{keys_of}
use Rattle.wb_range.specs.Domain.{IsListedOnce}
use Rattle.wb_cells.specs.Cells.{Name}
use Rattle.wb_reshape.proofs.Fills.{keys-numbered}
use Rattle.wb_edit.specs.Resizing.{zeros}
use Rattle.wb_edit.proofs.commands.reshape.replaced.replace_changes.Goals as goal

pub resize-requires-clause-once : goal.resize-requires-clause-once
resize-requires-clause-once c =
    let ns : List Name = c.args.names.now in
    let cleared : c.deref.result.now ≡ zeros ns = c.deref.ensures.value ∙ c.in_ok-cleared.ensures.same in
    subst (λ (ks : List Name). IsListedOnce ks) (sym (ap (λ (fs : List (Name × ℤ)). keys_of fs) cleared ∙ keys-numbered (λ a. pos 0) ns)) c.requires.once

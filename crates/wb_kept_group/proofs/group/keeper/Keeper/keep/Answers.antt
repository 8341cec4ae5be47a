use Rattle.std.proofs.Common.{rules, List, [], sym, subst, append-nil}
use Rattle.wb_kept_group.proofs.group.keeper.Keeper.keep.Goals as goal

pub note-requires : goal.note-requires
note-requires g c =
    let now : g.T.Store.has c.add.new.self c.again.result = search rules in
    (c.add.new.self, [], subst (λ (turns : List _). g.T.Store.has c.add.new.self turns) (sym (append-nil c.again.result)) now)

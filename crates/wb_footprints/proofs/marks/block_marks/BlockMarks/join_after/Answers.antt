use Rattle.std.proofs.Common.{List, sym, ap, ◌∙◌}
use Rattle.std.proofs.lemmas.Result.{on_ok_weaker}
use Rattle.std.specs.List.{list_any}
use Rattle.wb_cells.specs.declared.values.index.Index.{Index}
use Rattle.wb_footprints.specs.Reaches.{in_reaches}
use Rattle.wb_footprints.proofs.InReaches.{or_false}
use Rattle.wb_footprints.proofs.Joining.{joined_like}
use Rattle.wb_footprints.proofs.marks.block_marks.BlockMarks.join_after.Goals as goal

pub returns : goal.returns
returns c =
    let rs = c.args.self.now.reaches.items in
    on_ok_weaker c.join_in-2.result (λ h. joined_like c.args.waiting.now c.join_in-2.new.waiting (λ n. list_any (λ p. in_reaches rs p n) c.one.result)
    (in_reaches rs c.args.index.now) c.args.after
    (λ n. sym (ap (λ (ps : List Index). list_any (λ p. in_reaches rs p n) ps) c.one.ensures ∙ or_false (in_reaches rs c.args.index.now n))) h)
    c.join_in-2.ensures

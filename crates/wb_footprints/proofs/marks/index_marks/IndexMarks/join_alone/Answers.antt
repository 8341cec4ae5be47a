use Rattle.std.proofs.Common.{sym, ap, ◌∙◌}
use Rattle.std.specs.Cmp.Lexicographic.{slice_cmp}
use Rattle.std.specs.List.{list_any}
use Rattle.std.specs.Ordering.{nat_cmp}
use Rattle.wb_footprints.specs.HeldIndices.{indices_of}
use Rattle.wb_footprints.specs.Marks.{marked}
use Rattle.wb_footprints.specs.Parts.{alone_marked}
use Rattle.wb_footprints.specs.PointMarks.{point_marked}
use Rattle.wb_footprints.proofs.Indexed.{points_alone, texts_alone}
use Rattle.std.proofs.lemmas.Result.{on_ok_weaker}
use Rattle.wb_footprints.proofs.Joining.{joined_like}
use Rattle.wb_footprints.proofs.marks.index_marks.IndexMarks.join_alone.Goals as goal

pub returns-in-Points : goal.returns-in-Points
returns-in-Points c =
    let m = c.args.self.now in
    let is = c.args.indices.now in
    let ps = c.in-Points.points in
    on_ok_weaker c.join_in.result
    (λ h. joined_like c.args.waiting.now c.join_in.new.waiting (λ n. list_any (λ p. point_marked m.points p n) ps) (λ n. list_any (λ x. alone_marked m x n) is)
    c.args.after (points_alone m is ps (sym c.held.ensures ∙ ap indices_of c.in-Points.is)) h)
    c.join_in.ensures

pub returns-in-Labels : goal.returns-in-Labels
returns-in-Labels c =
    let m = c.args.self.now in
    let is = c.args.indices.now in
    let ts = c.in-Labels.labels in
    on_ok_weaker c.join_texts.result
    (λ h. joined_like c.args.waiting.now c.join_texts.new.waiting (λ n. list_any (λ t. marked (slice_cmp nat_cmp) m.texts t n) ts)
    (λ n. list_any (λ x. alone_marked m x n) is) c.args.after (texts_alone m is ts (sym c.held.ensures ∙ ap indices_of c.in-Labels.is)) h)
    c.join_texts.ensures

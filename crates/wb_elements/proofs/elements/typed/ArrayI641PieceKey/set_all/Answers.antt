use Rattle.std.proofs.Common.{ap, ◌∙◌}
use Rattle.std.specs.Map.{keys_of}
use Rattle.wb_cells.specs.declared.values.index.Index.TheVariants.{Point}
use Rattle.wb_elements.specs.Piecewise.Seen.{seen_of}
use Rattle.wb_elements.proofs.Blocks.{still_ranged, keys-with_all}
use Rattle.wb_elements.proofs.elements.typed.ArrayI641PieceKey.set_all.Goals as goal

pub invariant_of-elements : goal.invariant_of-elements
invariant_of-elements c =
    let p = c.elements.inside in
    record {
      kept = c.set_line.ensures.kept;
      ranged = still_ranged p.ranges (seen_of p.form).0 (seen_of c.set_line.new.form).0
          (ap keys_of c.set_line.ensures.elements ∙ keys-with_all Point c.args.changes.now (seen_of p.form).0) c.elements.invariant.ranged;
    }

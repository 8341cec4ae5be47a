use Rattle.wb_footprints.specs.Texts.{text_cmp}
use Rattle.wb_footprints.proofs.InTexts.{texts_total, texts_exact}
use Rattle.wb_footprints.proofs.SortedPoints.{alone}
use Rattle.wb_footprints.proofs.places.labels.Labels.one.Goals as goal

pub invariant_of-result : goal.invariant_of-result
invariant_of-result c = alone text_cmp texts_total texts_exact c.args.label.now

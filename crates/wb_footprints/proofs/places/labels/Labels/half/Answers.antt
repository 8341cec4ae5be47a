use Rattle.std.proofs.Common.{sym, ◌∙◌}
use Rattle.wb_footprints.specs.Texts.{text_cmp}
use Rattle.wb_footprints.proofs.AtMarks.{below_middle}
use Rattle.wb_footprints.proofs.InTexts.{texts_total, texts_exact}
use Rattle.wb_footprints.proofs.InBlocks.{less_of}
use Rattle.wb_footprints.proofs.places.labels.Labels.half.Goals as goal

pub returns-then-is_lt-clause-below : goal.returns-then-is_lt-clause-below
returns-then-is_lt-clause-below c = λ i d a b.
    below_middle text_cmp texts_total texts_exact c.args.self.now c.args.text.now c.text.result.now _ c.requires.ascending c.text.ensures.text
    (sym c.cmp.ensures ∙ less_of c.cmp.result (sym c.is_lt.ensures ∙ c.if-is_lt.true)) i d b

use Rattle.std.proofs.Common.{refl}
use Rattle.wb_cells.specs.declared.values.index.Index.TheVariants.{Text}
use Rattle.wb_cells.specs.Kinds.{is_text}
use Rattle.wb_dist.specs.Maps.{whole}
use Rattle.wb_elements.proofs.Piecewise.Lent.{piece_is}
use Rattle.wb_elements.proofs.piece.texts_on.Goals as goal

pub returns : goal.returns
returns c = piece_is Text is_text (λ k. 0) whole (λ k e. refl) c.pairs.result c.args.pieces.now.0 c.args.locale c.requires c.pairs.ensures.cases

use Rattle.wb_literals.proofs.ShortTexts.{short_is}
use Rattle.wb_literals.proofs.set.short_of.Goals as goal

pub returns : goal.returns
returns c = short_is c.of.result c.args.text.now c.of.ensures.value c.of.ensures.short

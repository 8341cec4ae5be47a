use Rattle.std.proofs.Common.{◌+◌, sym, ◌∙◌}
use Rattle.wb_footprints.proofs.InWords.{bits_behind, behind_none, behind_least, set_below}
use Rattle.wb_footprints.proofs.marks.word.lowest_above.Goals as goal

pub returns-then-left-eq0-clause-least : goal.returns-then-left-eq0-clause-least
returns-then-left-eq0-clause-least c = λ n up. behind_none c.args.word c.args.at n c.if-left-eq0.true up

pub returns-clause-least : goal.returns-clause-least
returns-clause-least c = behind_least c.args.word c.args.at c.lowest.result c.lowest.ensures.set c.lowest.ensures.lowest

pub returns-clause-below : goal.returns-clause-below
returns-clause-below c = set_below c.args.word (c.args.at + 1 + c.lowest.result) c.ranges.word.fits
    (sym (bits_behind c.args.word c.args.at c.lowest.result) ∙ c.lowest.ensures.set)

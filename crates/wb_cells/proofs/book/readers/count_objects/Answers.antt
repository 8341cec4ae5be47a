use Rattle.std.proofs.Common.{rules, tests, ◌∙◌}
use Rattle.std.specs.BTreeMap.{keys}
use Rattle.std.proofs.lemmas.Iterator.Consumers.{count_from_yields_List, YieldsList-at, YieldsList-from_rest}
use Rattle.std.proofs.lemmas.Iterator.Search.{YieldsList-from_take_while}
use Rattle.std.proofs.lemmas.List.Folds.{length-prefix_len}
use Rattle.wb_cells.specs.Readers.{object_of}
use Rattle.wb_cells.proofs.Leading.{takes}
use Rattle.wb_cells.proofs.Objects.{object_count}
use Rattle.wb_cells.proofs.book.readers.count_objects.Goals as goal

pub returns : goal.returns
returns c =
    let m = c.args.cells.now in
    let walk = YieldsList-from_take_while _ (takes object_of) (YieldsList-at c.take_while.ensures.source (YieldsList-from_rest (keys m) c.keys.ensures.rest))
    c.take_while.ensures.closure c.take_while.ensures.done (λ x b q k. search (rules, tests)) in
    count_from_yields_List c.take_while.result _ c.count.ensures.ran walk ∙ length-prefix_len (takes object_of) (keys m) ∙ object_count m c.keys.ensures.ordered

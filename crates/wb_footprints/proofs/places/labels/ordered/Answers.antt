use Rattle.wb_footprints.specs.Texts.{text_cmp}
use Rattle.wb_footprints.proofs.InTexts.{texts_total, texts_exact}
use Rattle.std.proofs.Common.{sym, ap, ◌∙◌, subst}
use Rattle.std.specs.List.{list_any}
use Rattle.std.specs.List.Sorted.{IsStrictlySortedBy}
use Rattle.wb_footprints.proofs.SortedPoints.{ascending, found_alike}
use Rattle.wb_footprints.proofs.places.labels.ordered.Goals as goal

pub invariant_of-result : goal.invariant_of-result
invariant_of-result c = subst (IsStrictlySortedBy text_cmp) (sym (c.in_ok-list.ensures ∙ c.as_slice.ensures.value))
    (ascending text_cmp texts_total texts_exact c.args.labels.items c.sort_unstable.new.self.items c.dedup.new.self.items
    c.sort_unstable.ensures.sorted c.dedup.ensures.filtered)

pub returns : goal.returns
returns c = λ f. ap (list_any f) (c.in_ok-list.ensures ∙ c.as_slice.ensures.value)
    ∙ found_alike text_cmp texts_total texts_exact c.args.labels.items c.sort_unstable.new.self.items c.dedup.new.self.items
    c.sort_unstable.ensures.sorted c.dedup.ensures.filtered c.sort_unstable.ensures.permutation f

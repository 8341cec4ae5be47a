use Rattle.std.proofs.Common.{ℕ, List, sym, subst}
use Rattle.std.specs.List.{All}
use Rattle.wb_footprints.specs.declared.places.label_list.LabelPlace.{LabelPlace}
use Rattle.wb_footprints.specs.Listed.{IsKept}
use Rattle.wb_footprints.proofs.places.label_list.LabelList.text.Goals as goal

pub text_at-requires-clause-kept : goal.text_at-requires-clause-kept
text_at-requires-clause-kept c =
    subst (λ (xs : List LabelPlace). All (IsKept c.as_slice.result.now) xs) (sym c.as_slice-2.ensures.value)
    (subst (λ (bs : List ℕ). All (IsKept bs) c.self.inside.places.items) (sym c.as_slice.ensures.value) c.self.invariant)

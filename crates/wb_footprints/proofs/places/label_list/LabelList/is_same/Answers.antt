use Rattle.std.proofs.Common.{ℕ, List, sym, ap, ◌∙◌}
use Rattle.wb_footprints.specs.declared.places.label_list.LabelPlace.{LabelPlace}
use Rattle.wb_footprints.specs.Listed.{labels_in}
use Rattle.wb_footprints.proofs.places.label_list.LabelList.is_same.Goals as goal

pub returns : goal.returns
returns c = λ yes.
    let places = sym c.as_slice.ensures.value ∙ c.are_same_places.ensures c.if-not-are_same_places.false ∙ c.as_slice-2.ensures.value in
    let bytes = sym c.as_slice-3.ensures.value ∙ c.are_same_bytes.ensures yes ∙ c.as_slice-4.ensures.value in
    sym c.self.view_is
    ∙ ap (λ (es : List LabelPlace). labels_in c.self.inside.bytes.items es) places
    ∙ ap (λ (bs : List ℕ). labels_in bs c.other.inside.places.items) bytes
    ∙ c.other.view_is

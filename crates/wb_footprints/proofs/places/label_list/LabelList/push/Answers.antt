use Rattle.std.proofs.Common.{◌≡◌, ◌++◌, [], ◌∷◌, ℕ, List, length, sym, ap, subst, ◌∙◌, arith}
use Rattle.std.specs.List.{All}
use Rattle.wb_footprints.specs.declared.places.label_list.LabelPlace.{LabelPlace}
use Rattle.wb_footprints.specs.Listed.{labels_in, IsKept}
use Rattle.wb_footprints.proofs.InLabels.{grown, all_kept_with, one_label_more}
use Rattle.wb_footprints.proofs.places.label_list.LabelList.push.Goals as goal

pub invariant_of-self-2 : goal.invariant_of-self-2
invariant_of-self-2 c =
    let bytes = c.self.inside.bytes.items in
    let text = c.args.text.now in
    let es = c.self.inside.places.items in
    let e = c.in-Some.place in
    let longer : c.extend_from_slice.new.self.items ≡ bytes ++ text =
    grown c.extend_from_slice.result c.is_err.result bytes (bytes ++ text) c.extend_from_slice.new.self.items c.is_err.ensures.value c.if-is_err.false
    c.extend_from_slice.ensures.items in
    let more : c.push.new.self.items ≡ es ++ e ∷ [] =
    grown c.push.result c.is_err-2.result es (es ++ e ∷ []) c.push.new.self.items c.is_err-2.ensures.value c.if-is_err-2.false c.push.ensures.items in
    let start : e.start ≡ length bytes = omega (arith, c.in-Some.ensures.start, c.len.ensures) in
    let kept : All (IsKept (bytes ++ text)) (es ++ e ∷ []) = all_kept_with bytes text es e c.self.invariant c.requires start c.in-Some.ensures.len in
    subst (λ (xs : List LabelPlace). All (IsKept c.extend_from_slice.new.self.items) xs) (sym more)
    (subst (λ (bs : List ℕ). All (IsKept bs) (es ++ e ∷ [])) (sym longer) kept)

pub returns : goal.returns
returns c =
    let bytes = c.self.inside.bytes.items in
    let text = c.args.text.now in
    let es = c.self.inside.places.items in
    let e = c.in-Some.place in
    let longer : c.extend_from_slice.new.self.items ≡ bytes ++ text =
    grown c.extend_from_slice.result c.is_err.result bytes (bytes ++ text) c.extend_from_slice.new.self.items c.is_err.ensures.value c.if-is_err.false
    c.extend_from_slice.ensures.items in
    let more : c.push.new.self.items ≡ es ++ e ∷ [] =
    grown c.push.result c.is_err-2.result es (es ++ e ∷ []) c.push.new.self.items c.is_err-2.ensures.value c.if-is_err-2.false c.push.ensures.items in
    let start : e.start ≡ length bytes = omega (arith, c.in-Some.ensures.start, c.len.ensures) in
    ap (λ (bs : List ℕ). labels_in bs c.push.new.self.items) longer
    ∙ ap (λ (xs : List LabelPlace). labels_in (bytes ++ text) xs) more
    ∙ one_label_more bytes text es e c.self.invariant start c.in-Some.ensures.len
    ∙ ap (λ (ts : List (List ℕ)). ts ++ text ∷ []) c.self.view_is

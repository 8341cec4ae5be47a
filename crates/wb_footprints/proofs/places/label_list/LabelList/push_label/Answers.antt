use Rattle.std.proofs.Common.{◌++◌, [], ◌∷◌, ℕ, List, sym, ap, subst, ◌∙◌}
use Rattle.std.proofs.lemmas.Result.{on_ok_weaker}
use Rattle.wb_sets.specs.Labels.{IsLabel}
use Rattle.wb_footprints.proofs.places.label_list.LabelList.push_label.Goals as goal

pub push-requires : goal.push-requires
push-requires c = subst IsLabel (sym (c.as_bytes.ensures.value ∙ c.as_str.ensures.value)) c.as_str.ensures.label

pub returns : goal.returns
returns c = on_ok_weaker c.push.result
    (λ e. e ∙ ap (λ (t : List ℕ). c.args.self.now ++ t ∷ []) (c.as_bytes.ensures.value ∙ c.as_str.ensures.value)) c.push.ensures

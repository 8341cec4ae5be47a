use Rattle.std.proofs.Common.{◌≡◌, true, is_some, List, [], ◌∷◌, ◌++◌, map, take, sym, ap, ◌∙◌, rules, tests}
use Rattle.std.proofs.lemmas.List.{map-append}
use Rattle.std.specs.List.{list_all}
use Rattle.wb_cells.specs.declared.values.index.Index.{Index}
use Rattle.wb_cells.specs.declared.values.index.Index.TheVariants.{Text}
use Rattle.wb_cells.proofs.LabelRuns.{text_more, all_more, number_more}
use Rattle.wb_cells.proofs.book.label_runs.texts_set.Goals as goal

pub loop-at-preserved : goal.loop-at-preserved
loop-at-preserved g c =
    let f = g.K.AsIndex.as_index in
    let es = c.args.labels.now.1 in
    let k = c.loop-at.at in
    let t = c.text.result.now in
    let ks = c.loop-at.keys.items in
    let key = c.in-Some.key in
    let pushed : c.push.new.self.items ≡ ks ++ key ∷ [] = search (rules, tests) in
    let mapped : map f c.push.new.self.items ≡ map f ks ++ f key ∷ [] = ap (map f) pushed ∙ map-append f ks (key ∷ []) in
    let some : is_some c.number.result ≡ true = search (rules, tests) in
    record {
      keys = mapped ∙ ap (λ (is : List Index). is ++ f key ∷ []) c.loop-at.invariant.keys
          ∙ ap (λ (i : Index). map (λ e. Text e.0) (take k es) ++ i ∷ []) c.in-Some.ensures.value ∙ sym (text_more Text es k t c.text.ensures.text);
      formed = ap (list_all g.K.AsIndex.is_of) mapped ∙ all_more g.K.AsIndex.is_of (map f ks) (f key) c.loop-at.invariant.formed c.formed.ensures;
      set = number_more es k t c.number.result c.text.ensures.text c.number.ensures some c.loop-at.invariant.set;
    }

use Rattle.std.proofs.Common.{◌≡◌, ◌≤◌, ◌-◌, true, length, get_or, sym, ap, ◌∙◌, arith}
use Rattle.std.specs.List.{slice_get}
use Rattle.std.proofs.lemmas.Option.{get_or_from_slice_get}
use Rattle.wb_footprints.specs.Keys.{text_key}
use Rattle.wb_footprints.specs.Texts.{text_cmp, in_texts}
use Rattle.wb_footprints.proofs.InTexts.{texts_total, texts_exact, all_rise, text_some}
use Rattle.wb_footprints.proofs.InKeys.{first_key, last_key, among}
use Rattle.wb_footprints.proofs.places.labels.Labels.ends.Goals as goal

pub returns-clause-within : goal.returns-clause-within
returns-clause-within c = λ p there.
    let ps = c.args.self.now in
    let a = c.text-first.result.now in
    let b = c.text-last.result.now in
    let low : get_or ps 0 a ≡ a = get_or_from_slice_get ps 0 a a c.text-first.ensures.text in
    let count = c.len.ensures.value in
    let high : get_or ps (length ps - 1) b ≡ b = get_or_from_slice_get ps (length ps - 1) b b (ap (λ n. slice_get ps (n - 1)) (sym count) ∙ c.text-last.ensures.text) in
    let from : text_key (get_or ps 0 a) ≤ text_key p = first_key text_cmp texts_total texts_exact text_key ps p a c.len.ensures.ascending (all_rise ps c.len.ensures.labels) there in
    let to : text_key p ≤ text_key (get_or ps (length ps - 1) b) = last_key text_cmp texts_total texts_exact text_key ps p b (length ps - 1) c.len.ensures.ascending
    (all_rise ps c.len.ensures.labels) (omega (arith, c.requires)) there in
    (omega (arith, from, ap text_key low, c.text_key.ensures), omega (arith, to, ap text_key high, c.text_key-2.ensures))

pub returns-clause-order : goal.returns-clause-order
returns-clause-order c =
    let ps = c.args.self.now in
    let a = c.text-first.result.now in
    let b = c.text-last.result.now in
    let low : get_or ps 0 a ≡ a = get_or_from_slice_get ps 0 a a c.text-first.ensures.text in
    let count = c.len.ensures.value in
    let high : get_or ps (length ps - 1) b ≡ b = get_or_from_slice_get ps (length ps - 1) b b (ap (λ n. slice_get ps (n - 1)) (sym count) ∙ c.text-last.ensures.text) in
    let there : in_texts ps b ≡ true = among text_cmp texts_total texts_exact text_key ps (length ps - 1) b (omega (arith, c.requires)) high in
    let from : text_key (get_or ps 0 a) ≤ text_key b = first_key text_cmp texts_total texts_exact text_key ps b a c.len.ensures.ascending (all_rise ps c.len.ensures.labels) there in
    omega (arith, from, ap text_key low, c.text_key.ensures, c.text_key-2.ensures)

pub returns-clause-first : goal.returns-clause-first
returns-clause-first c = let some = text_some c.text-first.result.now in omega (arith, some, c.text_key.ensures)

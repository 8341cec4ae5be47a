use Rattle.std.proofs.Common.{sym, ℕ, Bool, ◌≤◌, false, length, refl, arith}
use Rattle.std.proofs.lemmas.Option.{get_or_from_slice_get}
use Rattle.wb_footprints.specs.Marks.{marked}
use Rattle.wb_footprints.specs.Texts.{Text, text_cmp}
use Rattle.wb_footprints.proofs.InTexts.{texts_total, texts_exact}
use Rattle.wb_footprints.proofs.Joining.{none_joined, walked, all_joined}
use Rattle.wb_footprints.proofs.marks.text_marks.join_texts.Goals as goal

pub loop-at-init : goal.loop-at-init
loop-at-init c = record { within = omega arith; joined = none_joined c.args.waiting.now (λ n. false) c.args.after (λ n up. refl) }

pub loop-at-preserved : goal.loop-at-preserved
loop-at-preserved c =
    let f : Text → ℕ → Bool = λ q n. marked text_cmp c.args.marks.now q n in
    let is = sym (get_or_from_slice_get c.args.labels.now c.loop-at.at c.label-label.result c.label-label.result c.label-label.ensures) in
    let below = rw c.len-count.ensures.value at c.loop-at-test.true in
    record {
      within = c.next_text-at.ensures.within;
      joined = walked text_cmp texts_total texts_exact f c.args.after c.args.waiting.now c.loop-at.waiting c.join_after.new.waiting c.args.labels.now c.loop-at.at c.next_text-at.result
          c.label-label.result below is c.next_text-at.ensures.behind c.next_text-at.ensures.within c.next_text-at.ensures.none
          c.loop-at.invariant.joined c.in_ok-join_after.ensures;
    }

pub returns : goal.returns
returns c =
    let f : Text → ℕ → Bool = λ q n. marked text_cmp c.args.marks.now q n in
    let ps = c.args.labels.now in
    let test = rw c.len-count.ensures.value at c.loop-at-test.false in
    let high : length ps ≤ c.loop-at.at = omega (arith, test) in
    all_joined f c.args.after c.args.waiting.now c.loop-at.waiting ps c.loop-at.at high c.loop-at.invariant.joined

use Rattle.std.proofs.Common.{◌≡◌, ℕ, suc, ◌+◌, ◌-◌, List, [], ◌∷◌, ◌++◌, take, get_or, Ok, refl, sym, ap, subst, ◌∙◌, arith}
use Rattle.std.proofs.lemmas.Option.{slice_get-get_or}
use Rattle.wb_log.specs.Cascades.{AreUndone, IsFree}
use Rattle.wb_log.specs.Past.{meant, out_of_force}
use Rattle.wb_log.specs.Replies.{UndoReply}
use Rattle.wb_log.proofs.Undoings.{none_undone, one_undone, take_more}
use Rattle.wb_log.proofs.Whole.{next_free}
use Rattle.wb_log.proofs.log.Log.undo_each.Goals as goal

pub loop-done-init : goal.loop-done-init
loop-done-init g c = record { within = omega arith; undone = none_undone c.args.self.now.entries c.args.self.now.writes; none = λ zero_done. refl }

pub loop-done-preserved : goal.loop-done-preserved
loop-done-preserved g c =
    let all = c.args.undone.now in
    let i = c.loop-done.done in
    let number = get_or all i 0 in
    let one : i + 1 ≡ suc i = omega arith in
    let now : take (i + 1) all ≡ take i all ++ number ∷ [] = ap (λ (j : ℕ). take j all) one ∙
    take_more all i number (slice_get-get_or all i 0 c.loop-done-test.true) in
    let es = c.args.self.now.entries in
    let w = c.args.self.now.writes in
    let fs = c.loop-done.self.entries in
    let gs = c.undo.new.log.entries in
    let at_is : c.saturating_sub-at.result ≡ number - 1 = omega (arith, c.saturating_sub-at.ensures) in
    let reply = subst (λ (k : ℕ). UndoReply (meant fs) k (Ok c.in-Ok.more)) at_is c.in-Ok.ensures.reply in
    let out = subst (λ (k : ℕ). gs ≡ out_of_force k fs) at_is c.in-Ok.ensures.entries in
    let step = one_undone es fs gs w c.loop-done.count c.loop-done.self.writes c.saturating_add-count.result c.undo.new.log.writes number c.in-Ok.more
    (take i all)
    c.loop-done.invariant.undone reply out c.saturating_add-count.ensures c.in-Ok.ensures.writes in
    record {
      within = omega arith;
      undone = subst (λ (ns : List ℕ). AreUndone es w ns gs c.saturating_add-count.result c.undo.new.log.writes) (sym now) step;
      none = λ zero_done. absurd (omega (arith, zero_done));
    }

pub undo-requires-after_bounds : goal.undo-requires-after_bounds
undo-requires-after_bounds g c =
    let all = c.args.undone.now in
    let i = c.loop-done.done in
    let number = get_or all i 0 in
    let is = slice_get-get_or all i 0 c.loop-done-test.true in
    let at_is : c.saturating_sub-at.result ≡ number - 1 = omega (arith, c.saturating_sub-at.ensures) in
    let free = subst (λ es. IsFree (meant es) (number - 1)) (sym c.loop-done.invariant.undone.left)
    (next_free c.args.self.now.entries all i number c.requires is) in
    λ _ _. subst (λ (k : ℕ). IsFree (meant c.loop-done.self.entries) k) (sym at_is) free

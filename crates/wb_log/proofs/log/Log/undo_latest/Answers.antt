use Rattle.std.proofs.Common.{◌≡◌, ◌+◌, ◌-◌, None, Some, Ok, Err, add-one, arith, subst}
use Rattle.wb_edit.specs.declared.refusal.Refusal.TheVariants.{NoSuchEdit}
use Rattle.wb_log.specs.Kept.{numbered_entries, entries_meant, kept_all, IsLatest}
use Rattle.wb_log.specs.Past.{meant, out_of_force}
use Rattle.wb_log.specs.Replies.{LastReply, LeavesOthers, Restores}
use Rattle.wb_log.proofs.Entries.{may_free}
use Rattle.wb_log.proofs.Granted.{restores}
use Rattle.wb_log.proofs.Latest.{latest_is_last, none_in_force, latest_refused, latest_is_free}
use Rattle.wb_log.proofs.log.Log.undo_latest.Goals as goal

pub returns-in-None-clause-reply : goal.returns-in-None-clause-reply
returns-in-None-clause-reply g c =
    let es = c.self.inside.entries.items in
    let latest = subst (λ es. IsLatest (kept_all es) None) c.deref.ensures.value c.in-None.ensures.latest in
    subst (λ p. LastReply (meant p.entries) (Err NoSuchEdit)) c.self.view_is (none_in_force c.self.inside.book.cells es c.self.invariant.shows latest)

pub undo_free-requires-after_bounds : goal.undo_free-requires-after_bounds
undo_free-requires-after_bounds g c = λ _ _.
    let es = c.self.inside.entries.items in
    let at = c.in-Some.at in
    let latest = subst (λ es. IsLatest (kept_all es) (Some at)) c.deref.ensures.value c.in-Some.ensures.latest in
    let may = latest_is_free es at latest in
    may_free es at may.0 may.1 c.self.inside.book.cells c.self.invariant.shows may

pub returns-in-Ok-clause-reply : goal.returns-in-Ok-clause-reply
returns-in-Ok-clause-reply g c =
    let es = c.self.inside.entries.items in
    let at = c.in-Some.at in
    let latest = subst (λ es. IsLatest (kept_all es) (Some at)) c.deref.ensures.value c.in-Some.ensures.latest in
    let last = latest_is_last c.self.inside.book.cells es at c.self.invariant.shows latest in
    subst (λ p. LastReply (meant p.entries) (Ok (at + 1, c.in-Ok.count))) c.self.view_is (at, add-one at, last, c.in-Ok.ensures.reply)

pub returns-in-Err-clause-reply : goal.returns-in-Err-clause-reply
returns-in-Err-clause-reply g c =
    let es = c.self.inside.entries.items in
    let at = c.in-Some.at in
    let latest = subst (λ es. IsLatest (kept_all es) (Some at)) c.deref.ensures.value c.in-Some.ensures.latest in
    subst (λ p. LastReply (meant p.entries) (Err c.in-Err.why)) c.self.view_is
    (latest_refused c.self.inside.book.cells es at c.in-Err.why c.self.invariant.shows latest c.in-Err.ensures.reply)

pub returns-in-Ok-clause-restored : goal.returns-in-Ok-clause-restored
returns-in-Ok-clause-restored g c =
    let es = c.self.inside.entries.items in
    let s = c.self.inside.book.cells in
    let shows = c.self.invariant.shows in
    let fs = c.undo_free.new.self.entries in
    let at = c.in-Some.at in
    let latest = subst (λ es. IsLatest (kept_all es) (Some at)) c.deref.ensures.value c.in-Some.ensures.latest in
    let number : at ≡ at + 1 - 1 = omega arith in
    subst (λ p. Restores (meant p.entries) (at + 1 - 1) (meant fs)) c.self.view_is
    (restores s es fs shows (Ok (at + 1, c.in-Ok.count)) (at, add-one at, latest_is_last s es at shows latest, c.in-Ok.ensures.reply)
    (subst (λ k. fs ≡ out_of_force k (numbered_entries es)) number c.in-Ok.ensures.entries))

pub returns-in-Ok-clause-others : goal.returns-in-Ok-clause-others
returns-in-Ok-clause-others g c =
    let es = c.self.inside.entries.items in
    let fs = c.undo_free.new.self.entries in
    let at = c.in-Some.at in
    let number : at ≡ at + 1 - 1 = omega arith in
    subst (λ p. LeavesOthers (meant p.entries) (at + 1 - 1) (meant fs)) c.self.view_is
    (subst (λ k. LeavesOthers (entries_meant es) k (meant fs)) number c.in-Ok.ensures.others)

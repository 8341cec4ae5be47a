use Rattle.std.proofs.Common.{None, sym, ap, ◌∙◌}
use Rattle.wb_cells.specs.declared.book.member_set.MemberForm.{MemberForm}
use Rattle.wb_cells.specs.declared.changes.row.IndexedRow.{IndexedRow}
use Rattle.wb_cells.specs.declared.changes.row.IndexedRow.TheVariants.{Members}
use Rattle.wb_cells.specs.declared.values.index.Index.TheVariants.{Point}
use Rattle.wb_cells.specs.MemberRuns.{members_to}
use Rattle.wb_cells.specs.MemberSets.{listed}
use Rattle.wb_cells.specs.Runs.{packed_changes}
use Rattle.wb_cells.proofs.MemberRuns.{cleared_keys}
use Rattle.wb_cells.proofs.book.member_runs.clearing_form.Goals as goal

pub returns-in-Ok : goal.returns-in-Ok
returns-in-Ok c =
    let d = c.args.domain.now in
    ap (λ (r : IndexedRow). packed_changes r c.new.result.changes.items) c.new.ensures.row
    ∙ ap (packed_changes (Members d)) (c.new.ensures.changes ∙ c.in-Ok.ensures) ∙ cleared_keys Point d c.in-Rank1.keys.keys
    ∙ ap (λ (m : MemberForm). members_to d None (listed m)) (sym c.in-Rank1.is)

pub returns-in-Ok-clearing_keys : goal.returns-in-Ok-clearing_keys
returns-in-Ok-clearing_keys c =
    let d = c.args.domain.now in
    ap (λ (r : IndexedRow). packed_changes r c.new-in-Ok-clearing_keys.result.changes.items) c.new-in-Ok-clearing_keys.ensures.row
    ∙ ap (packed_changes (Members d)) (c.new-in-Ok-clearing_keys.ensures.changes ∙ c.in-Ok-clearing_keys.ensures) ∙ cleared_keys Point d c.in-Rank2.keys.keys
    ∙ ap (λ (m : MemberForm). members_to d None (listed m)) (sym c.in-Rank2.is)

pub returns-in-Ok-clearing_keys-2 : goal.returns-in-Ok-clearing_keys-2
returns-in-Ok-clearing_keys-2 c =
    let d = c.args.domain.now in
    ap (λ (r : IndexedRow). packed_changes r c.new-in-Ok-clearing_keys-2.result.changes.items) c.new-in-Ok-clearing_keys-2.ensures.row
    ∙ ap (packed_changes (Members d)) (c.new-in-Ok-clearing_keys-2.ensures.changes ∙ c.in-Ok-clearing_keys-2.ensures) ∙ cleared_keys Point d c.in-Rank3.keys.keys
    ∙ ap (λ (m : MemberForm). members_to d None (listed m)) (sym c.in-Rank3.is)

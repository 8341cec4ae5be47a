use Rattle.std.proofs.Common.{◌≡◌, Ok, Err, sym, ap, ◌∙◌}
use Rattle.std.proofs.lemmas.Result.{err_from_is_err_and}
use Rattle.wb_cells.specs.declared.cells.cell.Cell.TheVariants.{Member}
use Rattle.wb_cells.specs.declared.cells.kind.DomainKind.{DomainKind}
use Rattle.wb_cells.specs.declared.values.index.Index.{Index}
use Rattle.wb_cells.specs.Cells.{Name}
use Rattle.wb_cells.specs.Kinds.{kind_of}
use Rattle.wb_edit.specs.Commands.{remove_if}
use Rattle.wb_edit.specs.Trees.{read}
use Rattle.wb_edit.specs.Plans.{or_refused}
use Rattle.wb_edit.specs.Resizing.{has_members}
use Rattle.wb_edit.specs.Looks.{fits}
use Rattle.wb_edit.proofs.Attempts.{goes_on, stops}
use Rattle.wb_edit.proofs.Memberships.{reaches}
use Rattle.wb_edit.proofs.commands.remove.plan_remove.Goals as goal

pub returns-in_err-there : goal.returns-in_err-there
returns-in_err-there c =
    let p = err_from_is_err_and c.from_residual-in_err-there.result c.from_residual-in_err-there.ensures.1 in
    let s = c.args.book.now.cells in
    let d : Name = c.args.domain in
    let i : Index = c.args.index in
    let kind : DomainKind = c.in_ok-kind.kind in
    let why = c.in_err-there.field-0.0 in
    let ss = c.domain_named.new.footprint in
    let us = c.read.new.footprint in
    let set : or_refused (has_members kind) ≡ Ok tt = sym (c.or_refused.ensures ∙ ap (λ j. or_refused j) c.has_members.ensures) ∙ c.in_ok-or_refused.was in
    let fitting : or_refused (fits (kind_of kind) i) ≡ Ok tt = sym (c.or_refused-2.ensures ∙
    ap (λ j. or_refused j) (c.fits.ensures ∙ ap (λ k. fits k i) c.kind.ensures)) ∙ c.in_ok-or_refused-2.was in
    rw (p.1, p.2) (reaches s d i (λ there kind. remove_if there d kind i) c.args.footprint.now ss us kind (Err why) c.in_ok-kind.ensures set fitting (
    stops (read (Member d i)) s ss us (λ there. remove_if there d kind i) why c.in_err-there.ensures))

pub returns : goal.returns
returns c =
    let s = c.args.book.now.cells in
    let d : Name = c.args.domain in
    let i : Index = c.args.index in
    let kind : DomainKind = c.in_ok-kind.kind in
    let r = c.remove_if.result in
    let ss = c.domain_named.new.footprint in
    let us = c.remove_if.new.footprint in
    let set : or_refused (has_members kind) ≡ Ok tt = sym (c.or_refused.ensures ∙ ap (λ j. or_refused j) c.has_members.ensures) ∙ c.in_ok-or_refused.was in
    let fitting : or_refused (fits (kind_of kind) i) ≡ Ok tt = sym (c.or_refused-2.ensures ∙
    ap (λ j. or_refused j) (c.fits.ensures ∙ ap (λ k. fits k i) c.kind.ensures)) ∙ c.in_ok-or_refused-2.was in
    reaches s d i (λ there kind. remove_if there d kind i) c.args.footprint.now ss us kind r c.in_ok-kind.ensures set fitting (
    goes_on (read (Member d i)) s ss c.read.new.footprint (λ there. remove_if there d kind i) c.in_ok-there.there r us c.in_ok-there.ensures
    c.remove_if.ensures)

use Rattle.std.proofs.Common.{sym, ap, ◌∙◌}
use Rattle.wb_cells.specs.declared.cells.kind.Kind.{Kind}
use Rattle.wb_cells.specs.Cells.{Name}
use Rattle.wb_edit.specs.declared.operation.Operation.{Operation}
use Rattle.wb_edit.specs.Commands.{all_results}
use Rattle.wb_edit.specs.Elements.{same_domain, over_one_domain}
use Rattle.wb_edit.specs.Trees.{Tree}
use Rattle.wb_edit.specs.Plans.{or_refused}
use Rattle.wb_edit.specs.Looks.{array_named}
use Rattle.wb_edit.proofs.Attempts.{goes_on, passes}
use Rattle.wb_edit.proofs.SideBySide.{same_indices, saw_array, one_array, went_on}
use Rattle.wb_edit.proofs.commands.all.plan_all.Goals as goal

pub plan_all_results-requires : goal.plan_all_results-requires
plan_all_results-requires c =
    let s = c.args.book.now.cells in
    let a : Name = c.args.array in
    let b : Name = c.args.other in
    let one : Name × Kind = (c.in_ok-domain.domain, c.in_ok-domain._kind) in
    let two : Name × Kind = (c.in_ok-over.over, c.in_ok-over._kind_of_other) in
    let h = c.is_formed.ensures in
    let first = saw_array s a c.args.footprint.now c.array_named.new.footprint one c.in_ok-domain.ensures in
    let second = saw_array s b c.array_named.new.footprint c.array_named-2.new.footprint two c.in_ok-over.ensures in
    same_indices s a b h (one_array s a b one.0 two.0 one.1 two.1 tt h first second
    (went_on (same_domain one.0 two.0) tt (sym (c.or_refused.ensures ∙ ap (λ j. or_refused j) c.same_domain.ensures) ∙ c.in_ok-or_refused.was)))

pub returns : goal.returns
returns c =
    let s = c.args.book.now.cells in
    let a : Name = c.args.array in
    let b : Name = c.args.other in
    let how : Operation = c.args.how.now in
    let one : Name × Kind = (c.in_ok-domain.domain, c.in_ok-domain._kind) in
    let two : Name × Kind = (c.in_ok-over.over, c.in_ok-over._kind_of_other) in
    let rs = c.array_named.new.footprint in
    let ss = c.array_named-2.new.footprint in
    let us = c.plan_all_results.new.footprint in
    let r = c.plan_all_results.result in
    let last : Tree = all_results a how b in
    goes_on (array_named a) s c.args.footprint.now rs (λ array. array_named b (λ source. over_one_domain array.0 source.0 (λ x. last))) one r us
    c.in_ok-domain.ensures (
    goes_on (array_named b) s rs ss (λ source. over_one_domain one.0 source.0 (λ x. last)) two r us c.in_ok-over.ensures (
    goes_on (over_one_domain one.0 two.0) s ss ss (λ x. last) tt r us
    (passes s ss (same_domain one.0 two.0) tt (sym (c.or_refused.ensures ∙ ap (λ j. or_refused j) c.same_domain.ensures) ∙ c.in_ok-or_refused.was))
    c.plan_all_results.ensures))

use Rattle.std.proofs.Common.{List, Ok, subst}
use Rattle.wb_cells.specs.declared.cells.kind.DomainKind.{DomainKind}
use Rattle.wb_cells.specs.declared.cells.kind.Kind.{Kind}
use Rattle.wb_cells.specs.declared.values.index.Index.{Index}
use Rattle.wb_cells.specs.Cells.{Name}
use Rattle.wb_cells.specs.Kinds.{kind_of}
use Rattle.wb_cells.specs.Readers.{members}
use Rattle.wb_reshape.specs.declared.operand.Operand.{Operand}
use Rattle.wb_edit.specs.Trees.{Tree}
use Rattle.wb_edit.specs.Plans.{Attempts, Looks}
use Rattle.wb_edit.specs.Commands.Reshape.{with_indices}
use Rattle.wb_edit.specs.Sources.{gives_set}
use Rattle.wb_edit.proofs.Emptied.{seen_members}
use Rattle.wb_edit.proofs.Sets.{both_seen}
use Rattle.wb_edit.proofs.commands.reshape.sets.plan_to.Goals as goal

pub returns : goal.returns
returns c =
    let s = c.args.book.now.cells in
    let d : Name = c.args.domain in
    let kind : DomainKind = c.args.kind.now in
    let given : Operand = c.args.given.now in
    let rs = c.args.footprint.now in
    let ss = c.gives_set.new.footprint in
    let us = c.look_at_members.new.footprint in
    let vs = c.indices_given.new.footprint in
    let ws = c.plan_replaced.new.footprint in
    let r = c.plan_replaced.result in
    let old : List Index = members s d in
    let other : List Index = c.in_ok-new.new.items in
    let next : List Index → List Index → Tree = λ old new. with_indices d kind old new in
    let tested = subst (λ (k : Kind). Looks (gives_set k given) s rs (Ok tt) ss) c.kind.ensures c.in_ok-gives_set.ensures in
    both_seen s d (kind_of kind) given next rs ss us tested vs old (seen_members s d ss us c.in_ok-look_at_members.ensures.read) ws other r
    c.in_ok-new.ensures.looks (subst (λ (is : List Index). Attempts (with_indices d kind old is) s vs r ws) c.deref.ensures.value c.plan_replaced.ensures)

use Rattle.std.proofs.Common.{List, sym, ◌∙◌}
use Rattle.wb_cells.specs.declared.values.index.Index.{Index}
use Rattle.wb_cells.specs.Readers.{members}
use Rattle.wb_edit.proofs.Combined.{leaves-union, leaves-intersection, leaves-difference, leaves-symmetric}
use Rattle.wb_edit.proofs.Combined.{comes-union, comes-intersection, comes-difference, comes-symmetric}
use Rattle.wb_edit.proofs.Members.{members_ascending}
use Rattle.wb_edit.proofs.commands.reshape.operations.exchange_by.Goals as goal

pub returns-in_ok-parts-in-Union-clause-leaving : goal.returns-in_ok-parts-in-Union-clause-leaving
returns-in_ok-parts-in-Union-clause-leaving c =
    let old : List Index = members c.args.book.now.cells c.args.domain in
    rw c.in-Union.is (c.new.ensures.items ∙ sym (leaves-union c.args.given.now old))

pub returns-in_ok-parts-in-Union-clause-coming : goal.returns-in_ok-parts-in-Union-clause-coming
returns-in_ok-parts-in-Union-clause-coming c =
    let old : List Index = members c.args.book.now.cells c.args.domain in
    rw c.in-Union.is (c.in_ok-parts-in-Union.ensures.outside ∙ sym (comes-union c.args.given.now old))

pub returns-in-Intersection-clause-leaving : goal.returns-in-Intersection-clause-leaving
returns-in-Intersection-clause-leaving c =
    let old : List Index = members c.args.book.now.cells c.args.domain in
    rw (c.in-Intersection.is, leaves-intersection c.args.given.now old) c.intersection.ensures.leaving

pub returns-in-Intersection-clause-coming : goal.returns-in-Intersection-clause-coming
returns-in-Intersection-clause-coming c =
    let old : List Index = members c.args.book.now.cells c.args.domain in
    rw (c.in-Intersection.is, comes-intersection c.args.given.now old) c.intersection.ensures.coming

pub returns-in_ok-parts-in-Difference-clause-leaving :
    goal.returns-in_ok-parts-in-Difference-clause-leaving
returns-in_ok-parts-in-Difference-clause-leaving c =
    let s = c.args.book.now.cells in
    let old : List Index = members s c.args.domain in
    rw c.in-Difference.is (c.in_ok-parts-in-Difference.ensures.inside
    ∙ sym (leaves-difference c.args.given.now old c.requires (members_ascending s c.args.domain)))

pub returns-in_ok-parts-in-Difference-clause-coming :
    goal.returns-in_ok-parts-in-Difference-clause-coming
returns-in_ok-parts-in-Difference-clause-coming c =
    let old : List Index = members c.args.book.now.cells c.args.domain in
    rw c.in-Difference.is (c.new-in-Difference.ensures.items ∙ sym (comes-difference c.args.given.now old))

pub returns-in_ok-parts-in-SymmetricDifference-clause-leaving :
    goal.returns-in_ok-parts-in-SymmetricDifference-clause-leaving
returns-in_ok-parts-in-SymmetricDifference-clause-leaving c =
    let s = c.args.book.now.cells in
    let old : List Index = members s c.args.domain in
    rw c.in-SymmetricDifference.is (c.in_ok-parts-in-SymmetricDifference.ensures.inside
    ∙ sym (leaves-symmetric c.args.given.now old c.requires (members_ascending s c.args.domain)))

pub returns-in_ok-parts-in-SymmetricDifference-clause-coming :
    goal.returns-in_ok-parts-in-SymmetricDifference-clause-coming
returns-in_ok-parts-in-SymmetricDifference-clause-coming c =
    let old : List Index = members c.args.book.now.cells c.args.domain in
    rw c.in-SymmetricDifference.is (c.in_ok-parts-in-SymmetricDifference.ensures.outside ∙ sym (comes-symmetric c.args.given.now old))

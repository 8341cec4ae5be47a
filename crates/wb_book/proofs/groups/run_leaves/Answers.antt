use Rattle.std.proofs.Common.{sym, ap, ◌∙◌}
use Rattle.std.specs.List.{list_all}
use Rattle.wb_cells.specs.Runs.{changes_in, change_at, labelled_at, rectangle_entries, numbered_entries}
use Rattle.wb_cells.specs.declared.values.index.Index.TheVariants.{Point, Text}
use Rattle.wb_book.specs.Joined.{stored_in}
use Rattle.wb_book.specs.Groups.{leaves}
use Rattle.wb_book.proofs.Entries.{all_pass, leaves_row}
use Rattle.wb_book.proofs.groups.run_leaves.Goals as goal

pub returns-in-Rank1 : goal.returns-in-Rank1
returns-in-Rank1 c =
    let p = leaves (stored_in c.args.cells.now.entries) in
    let row = c.in-Rank1.field-0.row in
    sym (ap (λ f. list_all p (changes_in f)) c.in-Rank1.is
    ∙ all_pass p (change_at row) (λ e. leaves_row (stored_in c.args.cells.now.entries) row (Point e.0) _) c.in-Rank1.field-0.changes.items)

pub returns-in-Rank2 : goal.returns-in-Rank2
returns-in-Rank2 c =
    let p = leaves (stored_in c.args.cells.now.entries) in
    let row = c.in-Rank2.field-0.row in
    sym (ap (λ f. list_all p (changes_in f)) c.in-Rank2.is
    ∙ all_pass p (change_at row) (λ e. leaves_row (stored_in c.args.cells.now.entries) row (Point e.0) _) c.in-Rank2.field-0.changes.items)

pub returns-in-Rank3 : goal.returns-in-Rank3
returns-in-Rank3 c =
    let p = leaves (stored_in c.args.cells.now.entries) in
    let row = c.in-Rank3.field-0.row in
    sym (ap (λ f. list_all p (changes_in f)) c.in-Rank3.is
    ∙ all_pass p (change_at row) (λ e. leaves_row (stored_in c.args.cells.now.entries) row (Point e.0) _) c.in-Rank3.field-0.changes.items)

pub returns-in-Labels : goal.returns-in-Labels
returns-in-Labels c =
    let p = leaves (stored_in c.args.cells.now.entries) in
    let l = c.in-Labels.field-0 in
    sym (ap (λ f. list_all p (changes_in f)) c.in-Labels.is
    ∙ all_pass p (labelled_at l.0) (λ e. leaves_row (stored_in c.args.cells.now.entries) l.0 (Text e.0) _) l.1)

pub returns-in-Rectangle : goal.returns-in-Rectangle
returns-in-Rectangle c =
    let p = leaves (stored_in c.args.cells.now.entries) in
    let r = c.in-Rectangle.field-0 in
    sym (ap (λ f. list_all p (changes_in f)) c.in-Rectangle.is
    ∙ all_pass p (change_at r.row) (λ e. leaves_row (stored_in c.args.cells.now.entries) r.row (Point e.0) _) (rectangle_entries r.ranges r.number))

pub returns-in-Numbers : goal.returns-in-Numbers
returns-in-Numbers c =
    let p = leaves (stored_in c.args.cells.now.entries) in
    let r = c.in-Numbers.field-0 in
    sym (ap (λ f. list_all p (changes_in f)) c.in-Numbers.is
    ∙ all_pass p (change_at r.row) (λ e. leaves_row (stored_in c.args.cells.now.entries) r.row (Point e.0) _) (numbered_entries r.ranges r.numbers.items))

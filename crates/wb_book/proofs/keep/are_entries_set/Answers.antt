use Rattle.std.proofs.Common.{◌≡◌, Some, None, refl, sym, ap, ◌∙◌}
use Rattle.std.specs.List.{list_all}
use Rattle.wb_elements.specs.Entries.{row_changes}
use Rattle.wb_book.specs.Joined.{element_in}
use Rattle.wb_book.specs.Kept.{array_in, is_set}
use Rattle.wb_book.proofs.EntriesSet.{none_set, sets_found, sets_none}
use Rattle.wb_book.proofs.keep.are_entries_set.Goals as goal

pub returns-in-Inside : goal.returns-in-Inside
returns-in-Inside g c =
    let p = is_set (element_in c.args.arrays.now.entries) in
    let f = g.I.AsIndex.as_index in
    c.is_empty.ensures ∙ none_set p _ (λ y. refl) c.args.changes.now
    ∙ ap (λ r. list_all p (row_changes f r c.args.changes.now)) (sym c.in-Inside.is)

pub returns-in-Members : goal.returns-in-Members
returns-in-Members g c =
    let p = is_set (element_in c.args.arrays.now.entries) in
    let f = g.I.AsIndex.as_index in
    c.is_empty-in-Members.ensures ∙ none_set p _ (λ y. refl) c.args.changes.now
    ∙ ap (λ r. list_all p (row_changes f r c.args.changes.now)) (sym c.in-Members.is)

pub returns-in-Some : goal.returns-in-Some
returns-in-Some g c =
    let es = c.args.arrays.now.entries in
    let f = g.I.AsIndex.as_index in
    let found : array_in es c.in-Elements.array ≡ Some c.in-Some.elements.now = sym c.in-Some.ensures.value in
    c.are_set.ensures ∙ sym (sets_found f es c.in-Elements.array c.in-Some.elements.now c.args.changes.now found)
    ∙ ap (λ r. list_all (is_set (element_in es)) (row_changes f r c.args.changes.now)) (sym c.in-Elements.is)

pub returns-in-None : goal.returns-in-None
returns-in-None g c =
    let es = c.args.arrays.now.entries in
    let f = g.I.AsIndex.as_index in
    let gone : array_in es c.in-Elements.array ≡ None = sym c.in-None.ensures.value in
    c.is_empty-in-None.ensures ∙ sym (sets_none f es c.in-Elements.array c.args.changes.now gone)
    ∙ ap (λ r. list_all (is_set (element_in es)) (row_changes f r c.args.changes.now)) (sym c.in-Elements.is)

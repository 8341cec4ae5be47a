use Rattle.std.proofs.Common.{◌≡◌, ◌++◌, [], ◌∷◌, ℕ, ℤ, List, Option, length, sym, ap, subst, ◌∙◌, arith}
use Rattle.std.specs.List.{All}
use Rattle.wb_cells.specs.declared.changes.labels.LabelEntry.{LabelEntry}
use Rattle.wb_cells.specs.declared.changes.row.IndexedRow.{IndexedRow}
use Rattle.wb_cells.specs.Labelled.{entries_in, IsKept}
use Rattle.wb_cells.proofs.Labels.{grown, as_it_was, same_entries, all_kept_with, one_entry_more}
use Rattle.wb_cells.proofs.changes.labels.LabelChanges.push_text.Goals as goal

pub returns-then-is_err-2-clause-err : goal.returns-then-is_err-2-clause-err
returns-then-is_err-2-clause-err c =
    let bytes = c.self.inside.bytes.items in
    let text = c.args.text.now in
    let es = c.self.inside.entries.items in
    let row = c.self.inside.row in
    let longer : c.extend_from_slice.new.self.items ≡ bytes ++ text =
    grown c.extend_from_slice.result c.is_err.result bytes (bytes ++ text) c.extend_from_slice.new.self.items c.is_err.ensures.value c.if-is_err.false
    c.extend_from_slice.ensures.items in
    let same : c.push.new.self.items ≡ es =
    as_it_was c.push.result c.is_err-2.result es (es ++ c.in-Some.entry ∷ []) c.push.new.self.items c.is_err-2.ensures.value c.if-is_err-2.true
    c.push.ensures.items in
    ap (λ (bs : List ℕ). (row, entries_in bs c.push.new.self.items)) longer
    ∙ ap (λ (xs : List LabelEntry). (row, entries_in (bytes ++ text) xs)) same
    ∙ ap (λ (xs : List (List ℕ × Option ℤ)). (row, xs)) (same_entries bytes text es c.self.invariant)
    ∙ c.self.view_is

pub invariant_of-self-2 : goal.invariant_of-self-2
invariant_of-self-2 c =
    let bytes = c.self.inside.bytes.items in
    let text = c.args.text.now in
    let es = c.self.inside.entries.items in
    let e = c.in-Some.entry in
    let longer : c.extend_from_slice.new.self.items ≡ bytes ++ text =
    grown c.extend_from_slice.result c.is_err.result bytes (bytes ++ text) c.extend_from_slice.new.self.items c.is_err.ensures.value c.if-is_err.false
    c.extend_from_slice.ensures.items in
    let more : c.push.new.self.items ≡ es ++ e ∷ [] =
    grown c.push.result c.is_err-2.result es (es ++ e ∷ []) c.push.new.self.items c.is_err-2.ensures.value c.if-is_err-2.false c.push.ensures.items in
    let start : e.start ≡ length bytes = omega (arith, c.in-Some.ensures.start, c.len.ensures) in
    let kept : All (IsKept (bytes ++ text)) (es ++ e ∷ []) = all_kept_with bytes text es e c.self.invariant c.requires start c.in-Some.ensures.len in
    subst (λ (xs : List LabelEntry). All (IsKept c.extend_from_slice.new.self.items) xs) (sym more)
    (subst (λ (bs : List ℕ). All (IsKept bs) (es ++ e ∷ [])) (sym longer) kept)

pub returns-clause-added : goal.returns-clause-added
returns-clause-added c = λ said.
    let bytes = c.self.inside.bytes.items in
    let text = c.args.text.now in
    let es = c.self.inside.entries.items in
    let e = c.in-Some.entry in
    let n = c.args.number in
    let row = c.self.inside.row in
    let longer : c.extend_from_slice.new.self.items ≡ bytes ++ text =
    grown c.extend_from_slice.result c.is_err.result bytes (bytes ++ text) c.extend_from_slice.new.self.items c.is_err.ensures.value c.if-is_err.false
    c.extend_from_slice.ensures.items in
    let more : c.push.new.self.items ≡ es ++ e ∷ [] =
    grown c.push.result c.is_err-2.result es (es ++ e ∷ []) c.push.new.self.items c.is_err-2.ensures.value c.if-is_err-2.false c.push.ensures.items in
    let start : e.start ≡ length bytes = omega (arith, c.in-Some.ensures.start, c.len.ensures) in
    ap (λ (bs : List ℕ). (row, entries_in bs c.push.new.self.items)) longer
    ∙ ap (λ (xs : List LabelEntry). (row, entries_in (bytes ++ text) xs)) more
    ∙ ap (λ (xs : List (List ℕ × Option ℤ)). (row, xs)) (one_entry_more bytes text es e n c.self.invariant start c.in-Some.ensures.len c.in-Some.ensures.number)
    ∙ ap (λ (w : IndexedRow × List (List ℕ × Option ℤ)). (w.0, w.1 ++ (text, n) ∷ [])) c.self.view_is

use Rattle.std.proofs.Common.{List, [], ◌∷◌, sym, ap, subst, ◌∙◌}
use Rattle.std.specs.List.{list_all}
use Rattle.wb_cells.specs.Runs.{all_changes}
use Rattle.wb_cells.specs.Cells.{Name, Changes}
use Rattle.wb_book.specs.Groups.{Group, LeadTo, changes_in, is_numeric}
use Rattle.wb_book.proofs.ElementsSet.{both_true}
use Rattle.wb_book.proofs.Entries.{begins, only_runs}
use Rattle.wb_book.proofs.groups.grouped.Goals as goal

pub add_change-requires : goal.add_change-requires
add_change-requires c =
    let x = c.in-Some.first in
    let rs = c.parts-first.result.1.now in
    let all = ap (list_all is_numeric) (sym (begins c.args.delta.now c.parts-first.result.0 rs c.parts-first.ensures x c.in-Some.is)) ∙ c.requires in
    (both_true (is_numeric x) (list_all is_numeric (all_changes rs)) all).0

pub add_runs-requires-2 : goal.add_runs-requires-2
add_runs-requires-2 c =
    let x = c.in-Some.first in
    let rs = c.parts-first.result.1.now in
    let all = ap (list_all is_numeric) (sym (begins c.args.delta.now c.parts-first.result.0 rs c.parts-first.ensures x c.in-Some.is)) ∙ c.requires in
    (both_true (is_numeric x) (list_all is_numeric (all_changes rs)) all).1

pub add_runs-requires : goal.add_runs-requires
add_runs-requires c =
    let rs = c.parts-first.result.1.now in
    ap (list_all is_numeric) (sym (only_runs c.args.delta.now c.parts-first.result.0 rs c.parts-first.ensures (λ x e. c.in_default.not-Some x e))) ∙ c.requires

pub returns-clause-lead : goal.returns-clause-lead
returns-clause-lead c = λ b.
    let x = c.in-Some.first in
    let rs = c.parts-first.result.1.now in
    let none : (n : Name) → LeadTo [] n (changes_in c.new-groups.result.entries n) =
    subst (λ (gs : List (Name × Group)). (n : Name) → LeadTo [] n (changes_in gs n)) (sym c.new-groups.ensures.empty) (λ n s o i is. is) in
    subst (λ (ys : Changes). LeadTo ys b (changes_in c.add_runs-2.new.groups.entries b))
    (sym (begins c.args.delta.now c.parts-first.result.0 rs c.parts-first.ensures x c.in-Some.is))
    (c.in_ok-add_runs-2.ensures.lead (x ∷ []) (c.in_ok-add_change.ensures.lead [] none) b)

pub returns-in_default-clause-lead : goal.returns-in_default-clause-lead
returns-in_default-clause-lead c = λ b.
    let rs = c.parts-first.result.1.now in
    let none : (n : Name) → LeadTo [] n (changes_in c.new-groups.result.entries n) =
    subst (λ (gs : List (Name × Group)). (n : Name) → LeadTo [] n (changes_in gs n)) (sym c.new-groups.ensures.empty) (λ n s o i is. is) in
    subst (λ (ys : Changes). LeadTo ys b (changes_in c.add_runs.new.groups.entries b))
    (sym (only_runs c.args.delta.now c.parts-first.result.0 rs c.parts-first.ensures (λ x e. c.in_default.not-Some x e)))
    (c.in_ok-add_runs.ensures.lead [] none b)

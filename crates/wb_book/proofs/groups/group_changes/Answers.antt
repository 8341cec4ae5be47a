use Rattle.std.proofs.Common.{sym, ap, subst, ◌∙◌}
use Rattle.std.specs.BTreeMap.{BTreeMap}
use Rattle.wb_cells.specs.Cells.{Name}
use Rattle.wb_book.specs.Groups.{Group, LeadTo, changes_in}
use Rattle.wb_book.proofs.groups.group_changes.Goals as goal
use Rattle.wb_book.proofs.groups.group_changes.Goals.{then-not-are_left+in_ok-name_all, else-not-are_left}

pub returns-clause-lead : goal.returns-clause-lead
returns-clause-lead c = λ b.
    let was : LeadTo c.args.delta.now b (changes_in c.in_ok-groups.groups.entries b) = c.in_ok-groups.ensures.lead b in
    elim c.if-not-are_left.branch [
      | then-not-are_left+in_ok-name_all w ↦
          subst (λ (ys : Group). LeadTo c.args.delta.now b ys)
          (sym (ap (λ (m : BTreeMap Name Group). changes_in m.entries b) w.groups-is ∙ w.name_all.ensures.same b)) was
      | else-not-are_left w ↦
          subst (λ (ys : Group). LeadTo c.args.delta.now b ys) (sym (ap (λ (m : BTreeMap Name Group). changes_in m.entries b) w.groups-is)) was
    ]

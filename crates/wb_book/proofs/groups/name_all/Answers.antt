use Rattle.std.proofs.Common.{rules, ◌≡◌, List, ◌∷◌, IsSome, ◌⊎◌, subst, ◌∙◌}
use Rattle.wb_cells.specs.Cells.{Name}
use Rattle.wb_book.specs.Groups.{group_in}
use Rattle.wb_book.specs.Kept.{Pieced, array_in}
use Rattle.wb_book.proofs.Leads.{name_one}
use Rattle.wb_book.proofs.groups.name_all.Goals as goal

pub loop-name-preserved : goal.loop-name-preserved
loop-name-preserved c =
    let n : Name = c.in-Some.name.now in
    let p : Pieced = c.in-Some.field-0-1.now in
    let old = c.loop-name.invariant in
    let rest : c.loop-name.name-iterator ≡ (n, p) ∷ c.next.new.self = (search rules) in
    let ahead : (b : Name) → IsSome (array_in c.args.arrays.now.entries b) →
    IsSome (group_in c.loop-name.groups.entries b) ⊎ IsSome (array_in ((n, p) ∷ c.next.new.self) b) =
    λ b there. subst (λ (es : List (Name × Pieced)). IsSome (group_in c.loop-name.groups.entries b) ⊎ IsSome (array_in es b)) rest (old.ahead b there) in
    record {
      same = λ b. c.put_group.ensures.same b ∙ old.same b;
      stays = λ b there. c.put_group.ensures.stays b (old.stays b there);
      ahead = λ b there. name_one n b p c.next.new.self c.loop-name.groups.entries c.put_group.new.groups.entries (c.put_group.ensures.stays b)
          c.in_ok-put_group.ensures.there (ahead b there);
    }

use Rattle.std.proofs.Common.{◌≡◌, List, ◌∷◌, sym, ap, subst, ◌∙◌}
use Rattle.std.specs.Map.{keys_of}
use Rattle.std.specs.List.Sorted.{IsStrictlySortedBy}
use Rattle.std.specs.Cmp.Lexicographic.{slice_cmp}
use Rattle.std.specs.Ordering.{nat_cmp}
use Rattle.wb_cells.specs.Cells.{Name}
use Rattle.wb_book.specs.Kept.{Pieced, array_in}
use Rattle.wb_book.specs.Moved.{put_over}
use Rattle.wb_book.proofs.Moved.{over_more, sorted_rest}
use Rattle.wb_book.proofs.moving.put_in.Goals as goal

pub loop-name-preserved : goal.loop-name-preserved
loop-name-preserved c =
    let old = c.loop-name.invariant in
    let n : Name = c.in-Some.name in
    let p : Pieced = c.in-Some.fresh in
    let rest : List (Name × Pieced) = c.next.new.self.rest.items in
    let is : c.loop-name.name-iterator.rest.items ≡ (n, p) ∷ rest = c.in-Some.ensures.steps.0 in
    let sorted : IsStrictlySortedBy (slice_cmp nat_cmp) (keys_of ((n, p) ∷ rest)) =
    subst (λ (es : List (Name × Pieced)). IsStrictlySortedBy (slice_cmp nat_cmp) (keys_of es)) is old.ascending in
    record {
      arrays = λ b.
          over_more (array_in c.loop-name.arrays.entries b) (array_in c.put_one.new.arrays.entries b) n b p rest sorted (c.put_one.ensures.arrays b)
          ∙ ap (λ (es : List (Name × Pieced)). put_over (array_in c.loop-name.arrays.entries b) (array_in es b)) (sym is)
          ∙ old.arrays b;
      names = c.put_one.ensures.names ∙ old.names;
      ascending = sorted_rest n p rest sorted;
    }

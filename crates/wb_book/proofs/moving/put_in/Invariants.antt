use Rattle.std.proofs.Common.{◌≡◌, ℕ, List}
use Rattle.std.specs.Map.{keys_of}
use Rattle.std.specs.List.Sorted.{IsStrictlySortedBy}
use Rattle.std.specs.Cmp.Lexicographic.{slice_cmp}
use Rattle.std.specs.Ordering.{nat_cmp}
use Rattle.wb_book.specs.Kept.{array_in}
use Rattle.wb_book.specs.Moved.{put_over}
use Rattle.wb_book.proofs.moving.put_in.Given as goal

abbrev pub invariant-loop-name : goal.invariant-loop-name
invariant-loop-name l = record {
  arrays : (b : List ℕ) → put_over (array_in l.arrays.entries b) (array_in l.name-iterator.rest.items b) ≡ put_over (array_in l.fn.arrays.entries b)
      (array_in l.fn.moved.items b);
  names : keys_of l.arrays.entries ≡ keys_of l.fn.arrays.entries;
  ascending : IsStrictlySortedBy (slice_cmp nat_cmp) (keys_of l.name-iterator.rest.items);
}

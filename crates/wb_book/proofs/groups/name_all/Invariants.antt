use Rattle.std.proofs.Common.{◌≡◌, ℕ, List, IsSome, ◌⊎◌}
use Rattle.wb_book.specs.Groups.{group_in, changes_in}
use Rattle.wb_book.specs.Kept.{array_in}
use Rattle.wb_book.proofs.groups.name_all.Given as goal

abbrev pub invariant-loop-name : goal.invariant-loop-name
invariant-loop-name l = record {
  same : (b : List ℕ) → changes_in l.groups.entries b ≡ changes_in l.fn.groups.entries b;
  stays : (b : List ℕ) → IsSome (group_in l.fn.groups.entries b) → IsSome (group_in l.groups.entries b);
  ahead : (b : List ℕ) → IsSome (array_in l.arrays.entries b) → IsSome (group_in l.groups.entries b) ⊎ IsSome (array_in l.name-iterator b);
}

-- How often a reader was read.
use Rattle.std.proofs.Common.{◌≡◌, ℕ, arith}
use Rattle.wb_lines.specs.Reading.{Reading, read_limit}
use Rattle.wb_lines.specs.Causes.{RisesBy, CountsReads}

pub counts_none : (old new : Reading) (a : ℕ) → new.reads ≡ old.reads → CountsReads old new a a
counts_none old new a e = record { later = omega (arith, e); counted = omega (arith, e) }

pub counts_more : (start old new : Reading) (a b c : ℕ) → CountsReads start old a b → CountsReads old new b c → CountsReads start new a c
counts_more start old new a b c p q = record {
  later = omega (arith, p.later, q.later);
  counted = omega (arith, p.later, q.later, p.counted, q.counted);
}

-- of a buffer that counted none before, all reads that are allowed
pub counts_all : (old new : Reading) (a b : ℕ) → old.reads ≡ 0 → new.reads ≡ read_limit → CountsReads old new a b → RisesBy read_limit a b
counts_all old new a b none all p = omega (arith, none, all, p.counted)

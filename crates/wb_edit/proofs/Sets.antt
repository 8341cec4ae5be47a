-- A look at the indices of a domain and at those that are given as its source.
use Rattle.std.proofs.Common.{List, Result, Err}
use Rattle.wb_cells.specs.declared.cells.kind.Kind.{Kind}
use Rattle.wb_cells.specs.declared.cells.pattern.Pattern.{Pattern}
use Rattle.wb_cells.specs.declared.values.index.Index.{Index}
use Rattle.wb_cells.specs.Cells.{Name, Cells, Changes}
use Rattle.wb_reshape.specs.declared.operand.Operand.{Operand}
use Rattle.wb_edit.specs.declared.attempt_err.AttemptErr.{AttemptErr}
use Rattle.wb_edit.specs.Trees.{Tree}
use Rattle.wb_edit.specs.Plans.{Attempts, Gives, Looks}
use Rattle.wb_edit.specs.Sources.{gives_set, indices_given}
use Rattle.wb_edit.specs.Looks.{members}
use Rattle.wb_edit.proofs.Attempts.{goes_on, stops}

module _ (s : Cells) (d : Name) (kind : Kind) (given : Operand) (next : List Index → List Index → Tree) where
  abbrev after_old : List Index → Tree
  after_old old = indices_given given (next old)

  -- the test on what is given, and the looks at the indices of the domain and at those that are given
  abbrev pub sets_seen : Tree
  sets_seen = gives_set kind given (λ x. members d after_old)

  module _ (rs ss us : List Pattern) (tested : Gives (gives_set kind given) s rs tt ss) where
    pub stops_at_old : (why : AttemptErr) → Looks (members d) s ss (Err why) us → Attempts sets_seen s rs (Err why) us
    stops_at_old why seen = goes_on (gives_set kind given) s rs ss (λ x. members d after_old) tt (Err why) us tested
        (stops (members d) s ss us after_old why seen)

    module _ (vs : List Pattern) (old : List Index) (found : Gives (members d) s ss old us) where
      pub stops_at_given : (why : AttemptErr) → Looks (indices_given given) s us (Err why) vs → Attempts sets_seen s rs (Err why) vs
      stops_at_given why seen =
          goes_on (gives_set kind given) s rs ss (λ x. members d after_old) tt (Err why) vs tested (
          goes_on (members d) s ss us after_old old (Err why) vs found (stops (indices_given given) s us vs (next old) why seen))

      pub both_seen : (ws : List Pattern) (other : List Index) (r : Result Changes AttemptErr) → Gives (indices_given given) s us other vs →
          Attempts (next old other) s vs r ws → Attempts sets_seen s rs r ws
      both_seen ws other r seen rest =
          goes_on (gives_set kind given) s rs ss (λ x. members d after_old) tt r ws tested (
          goes_on (members d) s ss us after_old old r ws found (
          goes_on (indices_given given) s us vs (next old) other r ws seen rest))

-- Attempts, look by look, where the search does not find them.
use Rattle.std.proofs.Common.{◌≡◌, List, ◌++◌, Result, Ok, Err, sym, ap, ◌∙◌, append-nil}
use Rattle.selective_undo.specs.Edit.{write, outcome, reads}
use Rattle.wb_cells.specs.declared.cells.pattern.Pattern.{Pattern}
use Rattle.wb_cells.specs.Cells.{Cells, Changes}
use Rattle.wb_cells.specs.declared.refusal.WhyRefused.{WhyRefused}
use Rattle.wb_edit.specs.declared.attempt_err.AttemptErr.{AttemptErr}
use Rattle.wb_edit.specs.declared.attempt_err.AttemptErr.TheVariants.{Refused, NoMemory}
use Rattle.wb_edit.specs.Trees.{Tree, Look, judged}
use Rattle.wb_edit.specs.Plans.{Attempts, Gives, Looks, Makes, or_refused}

-- a look that goes on
pub goes_on : {X : Type 0} (t : Look X) (s : Cells) (rs ss : List Pattern) (next : X → Tree) (x : X) (r : Result Changes AttemptErr) (us : List Pattern) →
    Gives t s rs x ss → Attempts (next x) s ss r us → Attempts (t next) s rs r us
goes_on t s rs ss next x (Ok xs) us g a = ((g next).0 ∙ a.0, a.1 ∙ sym (g next).1)
goes_on t s rs ss next x (Err (Refused why)) us g a = ((g next).0 ∙ a.0, a.1 ∙ sym (g next).1)
goes_on t s rs ss next x (Err NoMemory) us g a = tt

-- a look that stops
pub stops : {X : Type 0} (t : Look X) (s : Cells) (rs ss : List Pattern) (next : X → Tree) (why : AttemptErr) → Looks t s rs (Err why) ss →
    Attempts (t next) s rs (Err why) ss
stops t s rs ss next (Refused why) h = h next
stops t s rs ss next NoMemory h = tt

-- a judgement that goes on
pub passes : {X : Type 0} (s : Cells) (rs : List Pattern) (j : Result X WhyRefused) (x : X) → or_refused j ≡ Ok x → Gives (judged j) s rs x rs
passes s rs (Ok y) x e =
    let same : y ≡ x = cc in
    λ next. (ap (λ z. outcome (next z) s) same, ap (λ z. rs ++ reads (next z) s) same)
passes s rs (Err why) x e = cc

-- the end
pub ends : (xs : Changes) (s : Cells) (rs : List Pattern) (r : Result Changes AttemptErr) → Makes xs r → Attempts (write xs) s rs r rs
ends xs s rs (Ok ys) is = (ap Ok (sym is), sym (append-nil rs))
ends xs s rs (Err why) is = rw is tt

-- What looks and attempts come to, step by step.
use Rattle.std.proofs.Common.{◌≡◌, true, false, cond, List, [], ◌∷◌, ◌++◌, Option, Some, Result, Ok, Err, refl, sym, ap, ◌∙◌, append_assoc, append-nil}
use Rattle.std.specs.Ordering.{eq_by_cmp}
use Rattle.std.specs.FinMap.{get, find, entries, get-entries}
use Rattle.std.specs.FinMap.Entries.{where_key}
use Rattle.selective_undo.proofs.Evaluation.{entries-retain_keys}
use Rattle.selective_undo.specs.Edit.{outcome, reads, seen}
use Rattle.wb_cells.specs.declared.cells.cell.Cell.{Cell}
use Rattle.wb_cells.specs.declared.cells.pattern.Pattern.{Pattern}
use Rattle.wb_cells.specs.declared.cells.pattern.Pattern.TheVariants.{One}
use Rattle.wb_cells.specs.declared.cells.value.Value.{Value}
use Rattle.wb_cells.specs.Cells.{cell_cmp, cell_order, Cells}
use Rattle.wb_cells.specs.declared.refusal.WhyRefused.{WhyRefused}
use Rattle.wb_edit.specs.declared.attempt_err.AttemptErr.{AttemptErr}
use Rattle.wb_edit.specs.declared.attempt_err.AttemptErr.TheVariants.{Refused, NoMemory}
use Rattle.wb_cells.specs.Schema.{workbook}
use Rattle.wb_edit.specs.Trees.{Look, first_value, read, judged}
use Rattle.wb_edit.specs.Plans.{Gives, Looks, or_refused}

-- ---- a look at one cell

first_of : (c : Cell) (es : List (Cell × Value)) → first_value (where_key cell_cmp (eq_by_cmp cell_cmp c) es) ≡ find cell_cmp c es
first_of c [] = refl
first_of c (e ∷ es) =
    elim (eq_by_cmp cell_cmp c e.0) as (λ b. first_value (cond b (e ∷ where_key cell_cmp (eq_by_cmp cell_cmp c) es)
    (where_key cell_cmp (eq_by_cmp cell_cmp c) es)) ≡ cond b (Some e.1) (find cell_cmp c es)) [
      | true ↦ refl
      | false ↦ first_of c es
    ]

-- it shows what the cell holds
pub seen_value : (s : Cells) (c : Cell) → first_value (seen workbook (One c) s) ≡ get s c
seen_value s c = ap first_value (entries-retain_keys cell_order s (eq_by_cmp cell_cmp c)) ∙ first_of c (entries s) ∙ sym (get-entries s c)

pub gives_read : (s : Cells) (c : Cell) (v : Option Value) (rs : List Pattern) → v ≡ get s c → Gives (read c) s rs v (rs ++ One c ∷ [])
gives_read s c v rs is next =
    let same = seen_value s c ∙ sym is in
    (ap (λ u. outcome (next u) s) same, ap (λ u. rs ++ One c ∷ reads (next u) s) same ∙ sym (append_assoc rs (One c ∷ []) (reads (next v) s)))

-- ---- a look, and then more

module _ {X : Type 0} (t : Look X) (s : Cells) (rs ss : List Pattern) where
  -- a look that stops stops whatever comes next
  pub halts : {Y : Type 0} (f : X → Look Y) (stop : AttemptErr) → Looks t s rs (Err stop) ss → Looks (λ next. t (λ x. f x next)) s rs (Err stop) ss
  halts f (Refused why) h = λ next. h (λ x. f x next)
  halts f NoMemory h = tt

  judged_by : {Y : Type 0} (j : X → Result Y WhyRefused) (x : X) → Gives t s rs x ss → (r : Result Y WhyRefused) → j x ≡ r →
      Looks (λ next. t (λ x. judged (j x) next)) s rs (or_refused r) ss
  judged_by j x g (Ok y) e = λ next.
      let h = g (λ x. judged (j x) next) in
      (h.0 ∙ ap (λ r. outcome (judged r next) s) e, h.1 ∙ ap (λ r. ss ++ reads (judged r next) s) e)
  judged_by j x g (Err why) e = λ next.
      let h = g (λ x. judged (j x) next) in
      (h.0 ∙ ap (λ r. outcome (judged r next) s) e, sym (h.1 ∙ ap (λ r. ss ++ reads (judged r next) s) e ∙ append-nil ss))

  -- a look that goes on, and then another one
  pub then_looks : {Y : Type 0} (f : X → Look Y) (x : X) (r : Result Y AttemptErr) (us : List Pattern) → Gives t s rs x ss → Looks (f x) s ss r us →
      Looks (λ next. t (λ x. f x next)) s rs r us
  then_looks f x (Ok y) us g l = λ next.
      let h = g (λ x. f x next) in
      let k = l next in
      (h.0 ∙ k.0, h.1 ∙ k.1)
  then_looks f x (Err (Refused why)) us g l = λ next.
      let h = g (λ x. f x next) in
      let k = l next in
      (h.0 ∙ k.0, k.1 ∙ sym h.1)
  then_looks f x (Err NoMemory) us g l = tt

  -- what was seen is judged
  pub then_judged : {Y : Type 0} (j : X → Result Y WhyRefused) (x : X) → Gives t s rs x ss → Looks (λ next. t (λ x. judged (j x) next)) s rs (or_refused (j x)) ss
  then_judged j x g = judged_by j x g (j x) refl

  -- what was seen is turned into something else
  pub then_shown : {Y : Type 0} (f : X → Y) (x : X) → Gives t s rs x ss → Gives (λ next. t (λ x. next (f x))) s rs (f x) ss
  then_shown f x g next = g (λ x. next (f x))

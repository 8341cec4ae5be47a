use Rattle.std.proofs.Common.{◌≡◌, List, map, sym, ap, ◌∷◌, ◌∙◌}
use Rattle.wb_cells.specs.declared.values.index.Index.{Index}
use Rattle.wb_cells.specs.declared.values.index.Index.TheVariants.{Text}
use Rattle.wb_cells.specs.WellFormed.{has}
use Rattle.wb_cells.proofs.MemberRuns.{has_first}
use Rattle.wb_cells.proofs.book.label_runs.is_there.Goals as goal

pub returns-then-are_same-clause-found : goal.returns-then-are_same-clause-found
returns-then-are_same-clause-found g c =
    let f = g.K.AsIndex.as_index in
    let i : Index = Text c.args.text.now in
    let told : f c.in-Some.next.now ≡ i = c.text.ensures.text ∙ ap Text (c.are_same.ensures c.if-are_same.true) in
    sym (c.requires.left i (ap (λ (is : List Index). has is i) (ap (map f) c.in-Some.ensures.steps ∙ ap (λ (j : Index). j ∷ map f c.next.new.self) told)
    ∙ has_first i (map f c.next.new.self)))

use Rattle.std.proofs.Common.{◌≡◌, ◌++◌, ℕ, List, ap, ◌∙◌, subst}
use Rattle.std.proofs.Common.{◌≢◌, MatchOption}
use Rattle.std.proofs.lemmas.Bool.Decides.{Decides-eqb}
use Rattle.std.proofs.lemmas.Slice.Eq.{strip_prefix_is}
use Rattle.wb_text.specs.Lines.{object_line}
use Rattle.wb_reading.proofs.Fronts.{some_follows, none_follows}
use Rattle.wb_reading.proofs.compared.behind_object.Goals as goal

pub returns-clause-some : goal.returns-clause-some
returns-clause-some c =
    let s = c.args.bytes.now in
    let line : c.as_bytes.result.now ≡ object_line c.args.book.now.cells c.args.name.now =
    c.as_bytes.ensures.value ∙ c.in_ok-push_object.ensures ∙ ap (λ (xs : List ℕ). xs ++ object_line c.args.book.now.cells c.args.name.now) c.new-line.ensures.bytes in
    some_follows s _ _
    (subst (λ p. MatchOption c.strip_prefix.result ((rest : List ℕ) → s ≢ p ++ rest) (λ x. s ≡ p ++ x.now)) line
    (strip_prefix_is Decides-eqb s _ c.strip_prefix.result c.strip_prefix.ensures.cases))

pub returns-clause-none : goal.returns-clause-none
returns-clause-none c =
    let s = c.args.bytes.now in
    let line : c.as_bytes.result.now ≡ object_line c.args.book.now.cells c.args.name.now =
    c.as_bytes.ensures.value ∙ c.in_ok-push_object.ensures ∙ ap (λ (xs : List ℕ). xs ++ object_line c.args.book.now.cells c.args.name.now) c.new-line.ensures.bytes in
    none_follows s _ _
    (subst (λ p. MatchOption c.strip_prefix.result ((rest : List ℕ) → s ≢ p ++ rest) (λ x. s ≡ p ++ x.now)) line
    (strip_prefix_is Decides-eqb s _ c.strip_prefix.result c.strip_prefix.ensures.cases))

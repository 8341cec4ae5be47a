use Rattle.std.proofs.Common.{rules, ◌≡◌, ℕ, sym, ap, subst, ◌∙◌}
use Rattle.wb_arrays.specs.Pieces.{LieBelow}
use Rattle.wb_arrays.proofs.Splits.{all_on_one}
use Rattle.wb_arrays.proofs.pieces.Pieces.only_piece.Goals as goal

pub returns-clause-cases : goal.returns-clause-cases
returns-clause-cases g c =
    let es = c.args.self.now.0 in
    let m = c.args.self.now.1 in
    let locale = g.M.Mapping.locale m in
    let one : c.locales.result ≡ 1 = search rules in
    let count : g.M.Mapping.locale_count m ≡ 1 = ap g.M.Mapping.locale_count (sym c.mapping.ensures.value) ∙ sym c.locales.ensures.count ∙ one in
    (count, c.list_of.ensures.value ∙ all_on_one locale es (subst (λ (k : ℕ). LieBelow locale k es) count c.mapping.ensures.below))

-- The indices of a slice are those that both rectangles have.
use Rattle.std.proofs.Common.{◌≡◌, ◌↔◌, ℕ, zero, suc, ◌<◌, Bool, true, false, ◌&&◌, ℤ, List, [], ◌∷◌, length, get_or, refl, sym, ap, ◌∙◌, arith}
use Rattle.std.specs.List.{All, Contains}
use Rattle.std.specs.Bool.{one_answer}
use Rattle.std.proofs.lemmas.List.Elements.{All-head, All-tail}
use Rattle.wb_range.specs.Canonical.{IsRange}
use Rattle.wb_rect.specs.Product.{product, IsRectangle}
use Rattle.wb_rect.specs.Slices.{IsCommon, sliced}
use Rattle.wb_rect.proofs.Common.{common_product}
use Rattle.wb_rect.proofs.Rectangles.{IsRectangle-sliced}
use Rattle.wb_rect.proofs.Slices.{common_is}
use Rattle.wb_cells.specs.declared.values.index.Index.{Index}
use Rattle.wb_cells.specs.declared.values.index.Index.TheVariants.{Point, Text}
use Rattle.wb_cells.specs.Shapes.{indices}
use Rattle.wb_cells.specs.WellFormed.{has}
use Rattle.wb_cells.proofs.Inside.{has_point, has_no_text}

common_at : (rs ts : List (List ℤ)) → length ts ≡ length rs → All IsRange rs → (p : ℕ) → p < length rs →
    IsCommon (get_or rs p []) (get_or ts p []) (get_or (sliced rs ts) p [])
common_at [] ts e h p low = absurd (omega arith)
common_at (xs ∷ rs) [] e h p low = absurd (omega arith)
common_at (xs ∷ rs) (ys ∷ ts) e h zero low = common_is xs ys (All-head IsRange xs rs h)
common_at (xs ∷ rs) (ys ∷ ts) e h (suc p) low = common_at rs ts (omega arith) (All-tail IsRange xs rs h) p (omega arith)

both : (a b : Bool) → (a ≡ true) × (b ≡ true) → (a && b) ≡ true
both true b h = h.1
both false b h = cc

each : (a b : Bool) → (a && b) ≡ true → (a ≡ true) × (b ≡ true)
each true b e = (refl, e)
each false b e = cc

pub has_sliced : (rank : ℕ) (rs ts : List (List ℤ)) → IsRectangle rank rs → IsRectangle rank ts → (i : Index) →
    has (indices (sliced rs ts)) i ≡ (has (indices rs) i && has (indices ts) i)
has_sliced rank rs ts h g (Text t) = sym (has_no_text (sliced rs ts) t) ∙ ap (λ b. b && has (indices ts) (Text t)) (has_no_text rs t)
has_sliced rank rs ts h g (Point i) =
    let whole = IsRectangle-sliced rank rs ts h g in
    let in_both : Contains (product (sliced rs ts)) i ↔ (Contains (product rs) i × Contains (product ts) i) =
    common_product rs ts (sliced rs ts) (g.dimensions ∙ sym h.dimensions) (whole.dimensions ∙ sym h.dimensions)
    (common_at rs ts (g.dimensions ∙ sym h.dimensions) h.kept) i in
    let sliced_has = has_point (sliced rs ts) i in
    let first = has_point rs i in
    let second = has_point ts i in
    one_answer {P = Contains (product rs) i × Contains (product ts) i}
    (has (indices (sliced rs ts)) (Point i)) (has (indices rs) (Point i) && has (indices ts) (Point i))
    (λ e. in_both.0 (sliced_has.0 e), λ c. sliced_has.1 (in_both.1 c))
    (λ e. let s = each _ _ e in (first.0 s.0, second.0 s.1), λ c. both _ _ (first.1 c.0, second.1 c.1))

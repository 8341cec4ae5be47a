-- Rectangles: what is spelled is read, and what is read is spelled.
use Rattle.std.proofs.Common.{◌≡◌, ◌↔◌, ℕ, List, [], ◌∷◌, ◌++◌, codes, Option, Some, option_map, refl, sym, ap, ◌∙◌, subst, append_assoc}
use Rattle.wb_literals.specs.Tokens.{close_at}
use Rattle.wb_literals.specs.Range.{range_at}
use Rattle.wb_literals.specs.Rectangle.{next_range_at, third_range_at, second_range_at, rectangle_at, rectangle_of}
use Rattle.wb_literals.specs.Grammar.{IsRange, ranges_of, IsRectangle}
use Rattle.wb_literals.specs.declared.range.RangeLiteral.{RangeLiteral}
use Rattle.wb_literals.specs.declared.rectangle.RectangleLiteral.{RectangleLiteral}
use Rattle.wb_literals.specs.declared.rectangle.RectangleLiteral.TheVariants.{Rank1, Rank2, Rank3}
use Rattle.wb_literals.proofs.Exact.{exact}
use Rattle.wb_literals.proofs.RangeGrammar.{Found, integer_starts, starts_unspaced, range_found, range_read}
use Rattle.wb_literals.proofs.TokenLemmas.{NoSpace}
use Rattle.wb_literals.proofs.ListGrammar.{Reads, brace, enclosed_read, enclosed_found, end_read, last_found, ends_read, goes_read, on_found}

range_unspaced : (text rest : List ℕ) (r : RangeLiteral) → IsRange text r → NoSpace (text ++ rest)
range_unspaced text rest r (low, s, up, by, h, a, u, k, e) =
    let joined : text ++ rest ≡ low ++ ((s ++ (up ++ by)) ++ rest) = ap (λ x. x ++ rest) e ∙ append_assoc low (s ++ (up ++ by)) rest in
    subst NoSpace (sym joined) (starts_unspaced low ((s ++ (up ++ by)) ++ rest) (integer_starts low r.low h))

range_reads : Reads range_at IsRange
range_reads = record { found = range_found; read = range_read; unspaced = range_unspaced }

abbrev third : RangeLiteral → RangeLiteral → RangeLiteral → List ℕ → Option (RectangleLiteral × List ℕ)
third a b c bytes = option_map {U = RectangleLiteral × List ℕ} (λ (z : List ℕ). (Rank3 a b c, z)) (close_at (codes "}") bytes)

pub rectangle_found : (bytes rest : List ℕ) (y : RectangleLiteral) → rectangle_at bytes ≡ Some (y, rest) → Found IsRectangle bytes y rest
rectangle_found bytes rest y e = enclosed_found range_at IsRange range_reads ranges_of (λ a z. second_range_at a z) 123 125 bytes rest y
    (λ a z f. on_found range_at IsRange range_reads ranges_of 125 brace (next_range_at z) (λ b w. third_range_at a b w) (a ∷ []) (Rank1 a) y z rest refl refl
    (λ b w g. on_found range_at IsRange range_reads ranges_of 125 brace (next_range_at w) (third a b) (a ∷ b ∷ []) (Rank2 a b) y w rest refl refl
    (λ c u h. last_found range_at IsRange range_reads ranges_of 125 brace (a ∷ b ∷ c ∷ []) y (Rank3 a b c) u rest refl h) g) f) e

pub rectangle_read : (text rest : List ℕ) (y : RectangleLiteral) → IsRectangle text y → rectangle_at (text ++ rest) ≡ Some (y, rest)
rectangle_read text rest (Rank1 a) h = enclosed_read range_at IsRange range_reads (λ a z. second_range_at a z) 123 125 text rest a [] (Rank1 a) (λ z. refl) brace
    h
    (λ b t m s. ends_read range_at IsRange range_reads ranges_of 125 brace (λ b w. third_range_at a b w) (Rank1 a) b t rest m s)
rectangle_read text rest (Rank2 a b) h = enclosed_read range_at IsRange range_reads (λ a z. second_range_at a z) 123 125 text rest a (b ∷ []) (Rank2 a b)
    (λ z. refl) brace h
    (λ v t m s. goes_read range_at IsRange range_reads ranges_of 125 brace (λ b w. third_range_at a b w) (Rank1 a) (Rank2 a b) v t rest b [] m s
    (λ w n. ends_read range_at IsRange range_reads ranges_of 125 brace (third a b) (Rank2 a b) w t rest n s))
rectangle_read text rest (Rank3 a b c) h = enclosed_read range_at IsRange range_reads (λ a z. second_range_at a z) 123 125 text rest a (b ∷ c ∷ [])
    (Rank3 a b c) (λ z. refl) brace h
    (λ v t m s. goes_read range_at IsRange range_reads ranges_of 125 brace (λ b w. third_range_at a b w) (Rank1 a) (Rank3 a b c) v t rest b (c ∷ []) m s
    (λ w n. goes_read range_at IsRange range_reads ranges_of 125 brace (third a b) (Rank2 a b) (Rank3 a b c) w t rest c [] n s
    (λ u o. end_read range_at IsRange range_reads ranges_of 125 brace (Rank3 a b c) u t rest o s)))

pub rectangle_exact : (text : List ℕ) (r : RectangleLiteral) → (rectangle_of text ≡ Some r) ↔ IsRectangle text r
rectangle_exact = exact rectangle_at IsRectangle rectangle_found (λ text r h. rectangle_read text [] r h)

-- The canonical texts of integers, lists, ranges, points and grids are spelled by the grammar.
use Rattle.std.proofs.Common.{ℕ, ◌≤◌, ℤ, pos, List, [], ◌∷◌, map, codes, length, Option, refl, sym, ap, ◌∙◌, append-nil, arith}
use Rattle.std.specs.Fmt.{signed_decimal}
use Rattle.std.specs.List.{join_by, flat_map}
use Rattle.wb_literals.specs.Integer.{integer_at, IsWithin}
use Rattle.wb_literals.specs.Spelling.{IsInteger}
use Rattle.wb_literals.specs.RangeText.{range_text, unaligned, IsStride}
use Rattle.wb_literals.specs.Grammar.{IsComma, AreMore, AreListed, IsEnclosed, IsRange, IsIndex, IsGrid}
use Rattle.wb_literals.specs.declared.index.GridLiteral.{GridLiteral}
use Rattle.wb_literals.specs.declared.index.GridLiteral.TheVariants as grids
use Rattle.wb_literals.specs.declared.index.IndexLiteral.{IndexLiteral}
use Rattle.wb_literals.specs.declared.index.IndexLiteral.TheVariants.{Integer, Pair, Triple}
use Rattle.wb_literals.specs.declared.range.Upper.TheVariants.{To}
use Rattle.wb_literals.proofs.DigitsBack.{integer_back}
use Rattle.wb_literals.proofs.PrintedRange.{range_back}
use Rattle.wb_literals.proofs.RangeGrammar.{range_exact}
use Rattle.wb_literals.proofs.Spelled.{integer_whole}
use Rattle.wb_text.specs.Literals.{further, enclosed, point_text, integers_text}
use Rattle.wb_text.proofs.Readable.{Each}
use Rattle.wb_text.proofs.ReadIndices.{AreWithin}

-- ---- integers and ranges

pub integer_spelled : (z : ℤ) → IsWithin z → IsInteger (signed_decimal z) z
integer_spelled z h = (integer_whole (signed_decimal z) z).0 (ap integer_at (sym (append-nil (signed_decimal z))) ∙ integer_back z [] h tt)

pub range_spelled : (low high : ℤ) (stride : Option ℤ) → IsWithin low → IsWithin high → IsStride stride →
    IsRange (range_text low high stride) (record { low = low; upper = To high; stride = unaligned stride })
range_spelled low high stride l h s = (range_exact (range_text low high stride) (record { low = low; upper = To high; stride = unaligned stride })).0
    (range_back low high stride l h s)

-- ---- lists

-- a comma and a space
pub comma_spelled : IsComma (44 ∷ 32 ∷ [])
comma_spelled = ([], 32 ∷ [], tt, (refl, tt), refl)

module _ {X L : Type 0} (Item : List ℕ → L → Type 0) (text : X → List ℕ) (literal : X → L) (Is : X → Type 0)
    (spelled : (x : X) → Is x → Item (text x) (literal x)) where
  pub more_spelled : (xs : List X) → Each Is xs → AreMore Item (flat_map (further text) xs) (map literal xs)
  more_spelled [] h = refl
  more_spelled (x ∷ xs) h = (44 ∷ 32 ∷ [], text x, flat_map (further text) xs, comma_spelled, spelled x h.0, more_spelled xs h.1, refl)

  pub listed_spelled : (x : X) (xs : List X) → Each Is (x ∷ xs) → AreListed Item (join_by text (codes ", ") (x ∷ xs)) (map literal (x ∷ xs))
  listed_spelled x xs h = (text x, flat_map (further text) xs, spelled x h.0, more_spelled xs h.1, refl)

  pub enclosed_spelled : (left right : List ℕ) (x : X) (xs : List X) → Each Is (x ∷ xs) →
      IsEnclosed left right Item (enclosed left right text (x ∷ xs)) (map literal (x ∷ xs))
  enclosed_spelled left right x xs h = ([], join_by text (codes ", ") (x ∷ xs), [], tt, listed_spelled x xs h, tt, refl)

integers_spelled : (left right : List ℕ) (z : ℤ) (zs : List ℤ) → AreWithin (z ∷ zs) →
    IsEnclosed left right IsInteger (enclosed left right signed_decimal (z ∷ zs)) (map (λ z. z) (z ∷ zs))
integers_spelled = enclosed_spelled IsInteger signed_decimal (λ z. z) IsWithin integer_spelled

-- ---- lists of one to three

-- one to three of them
pub record IsShort {X : Type 0} (xs : List X) : Type 0 where
  pub some : 1 ≤ length xs
  pub few : length xs ≤ 3

-- a fact of every list of one to three
pub by_length : {X : Type 0} (P : List X → Type 0) → ((x : X) → P (x ∷ [])) → ((x y : X) → P (x ∷ y ∷ [])) → ((x y z : X) → P (x ∷ y ∷ z ∷ [])) →
    (xs : List X) → IsShort xs → P xs
by_length P a b c [] h = let s = h.some in absurd (omega (arith, s))
by_length P a b c (x ∷ []) h = a x
by_length P a b c (x ∷ y ∷ []) h = b x y
by_length P a b c (x ∷ y ∷ z ∷ []) h = c x y z
by_length P a b c (x ∷ y ∷ z ∷ w ∷ xs) h = let f = h.few in absurd (omega (arith, f))

-- ---- grids and points

unfoldable pub grid_of : List ℤ → GridLiteral
grid_of [] = grids.Rank1 (pos 0)
grid_of (n ∷ []) = grids.Rank1 n
grid_of (n ∷ m ∷ []) = grids.Rank2 n m
grid_of (n ∷ m ∷ l ∷ ns) = grids.Rank3 n m l

pub grid_spelled : (ns : List ℤ) → IsShort ns → AreWithin ns → IsGrid (integers_text ns) (grid_of ns)
unfolding grid_of
grid_spelled ns = by_length (λ ns. AreWithin ns → IsGrid (integers_text ns) (grid_of ns))
    (λ n h. integers_spelled (codes "[") (codes "]") n [] h)
    (λ n m h. integers_spelled (codes "[") (codes "]") n (m ∷ []) h)
    (λ n m l h. integers_spelled (codes "[") (codes "]") n (m ∷ l ∷ []) h) ns

unfoldable pub index_of : List ℤ → IndexLiteral
index_of [] = Integer (pos 0)
index_of (i ∷ []) = Integer i
index_of (i ∷ j ∷ []) = Pair i j
index_of (i ∷ j ∷ k ∷ is) = Triple i j k

pub point_spelled : (is : List ℤ) → IsShort is → AreWithin is → IsIndex (point_text is) (index_of is)
unfolding index_of point_text
point_spelled is = by_length (λ is. AreWithin is → IsIndex (point_text is) (index_of is))
    (λ i h. integer_spelled i h.0)
    (λ i j h. integers_spelled (codes "(") (codes ")") i (j ∷ []) h)
    (λ i j k h. integers_spelled (codes "(") (codes ")") i (j ∷ k ∷ []) h) is

-- Indices and grids: what is spelled is read, and what is read is spelled.
use Rattle.std.proofs.Common.{◌≡◌, inl, inr, ℕ, ℤ, List, [], ◌∷◌, ◌++◌, codes, Option, Some, None, option_map, option_and_then, refl, ap, ◌∙◌, subst, arith}
use Rattle.std.proofs.lemmas.Option.{option_and_then_some}
use Rattle.std.specs.Option.{option_map_or}
use Rattle.wb_literals.specs.Integer.{integer_at}
use Rattle.wb_literals.specs.Spelling.{IsInteger}
use Rattle.wb_literals.specs.Tokens.{skip_spaces, after_token, close_at}
use Rattle.wb_literals.specs.Index.{next_integer_at, third_place_at, tuple_at, index_at, third_extent_at, second_extent_at, grid_at}
use Rattle.wb_literals.specs.Grammar.{IsEnclosed, extents_of, IsGrid, places_of, IsIndex}
use Rattle.wb_literals.specs.declared.index.IndexLiteral.{IndexLiteral}
use Rattle.wb_literals.specs.declared.index.IndexLiteral.TheVariants as indices
use Rattle.wb_literals.specs.declared.index.GridLiteral.{GridLiteral}
use Rattle.wb_literals.specs.declared.index.GridLiteral.TheVariants as grids
use Rattle.wb_literals.proofs.Spelled.{integer_read, integer_found}
use Rattle.wb_literals.proofs.RangeGrammar.{Ends, Found, Starts, ends_digits, integer_starts, starts_unspaced}
use Rattle.wb_literals.proofs.TokenLemmas.{not_after, mapped}
use Rattle.wb_literals.proofs.ListGrammar.{Reads, parenthesis, bracket, enclosed_read, enclosed_found, end_read, last_found, more_found, more_read, ends_read}
use Rattle.wb_literals.proofs.ListGrammar.{goes_read, on_found}

integer_found_at : (bytes rest : List ℕ) (z : ℤ) → integer_at bytes ≡ Some (z, rest) → Found IsInteger bytes z rest
integer_found_at bytes rest z e = let f = integer_found bytes rest z e in (f.0, f.1, f.3)

pub integer_reads : Reads integer_at IsInteger
integer_reads = record {
  found = integer_found_at;
  read = λ text rest z h f. integer_read text rest z h (ends_digits rest f);
  unspaced = λ text rest z h. starts_unspaced text rest (integer_starts text z h);
}

-- ---- grids

abbrev third_extent : ℤ → ℤ → ℤ → List ℕ → Option (GridLiteral × List ℕ)
third_extent i j k bytes = option_map {U = GridLiteral × List ℕ} (λ (z : List ℕ). (grids.Rank3 i j k, z)) (close_at (codes "]") bytes)

pub grid_found : (bytes rest : List ℕ) (y : GridLiteral) → grid_at bytes ≡ Some (y, rest) → Found IsGrid bytes y rest
grid_found bytes rest y e = enclosed_found integer_at IsInteger integer_reads extents_of (λ a z. second_extent_at a z) 91 93 bytes rest y
    (λ a z f. on_found integer_at IsInteger integer_reads extents_of 93 bracket (next_integer_at z) (λ b w. third_extent_at a b w) (a ∷ []) (grids.Rank1 a) y z
    rest refl refl
    (λ b w g. on_found integer_at IsInteger integer_reads extents_of 93 bracket (next_integer_at w) (third_extent a b) (a ∷ b ∷ []) (grids.Rank2 a b) y w rest
    refl refl
    (λ c u h. last_found integer_at IsInteger integer_reads extents_of 93 bracket (a ∷ b ∷ c ∷ []) y (grids.Rank3 a b c) u rest refl h) g) f) e

pub grid_read : (text rest : List ℕ) (y : GridLiteral) → IsGrid text y → grid_at (text ++ rest) ≡ Some (y, rest)
grid_read text rest (grids.Rank1 a) h = enclosed_read integer_at IsInteger integer_reads (λ a z. second_extent_at a z) 91 93 text rest a [] (grids.Rank1 a)
    (λ z. refl) bracket h
    (λ b t m s. ends_read integer_at IsInteger integer_reads extents_of 93 bracket (λ b w. third_extent_at a b w) (grids.Rank1 a) b t rest m s)
grid_read text rest (grids.Rank2 a b) h = enclosed_read integer_at IsInteger integer_reads (λ a z. second_extent_at a z) 91 93 text rest a (b ∷ [])
    (grids.Rank2 a b) (λ z. refl) bracket h
    (λ v t m s. goes_read integer_at IsInteger integer_reads extents_of 93 bracket (λ b w. third_extent_at a b w) (grids.Rank1 a) (grids.Rank2 a b) v t rest b
    [] m s
    (λ w n. ends_read integer_at IsInteger integer_reads extents_of 93 bracket (third_extent a b) (grids.Rank2 a b) w t rest n s))
grid_read text rest (grids.Rank3 a b c) h = enclosed_read integer_at IsInteger integer_reads (λ a z. second_extent_at a z) 91 93 text rest a (b ∷ c ∷ [])
    (grids.Rank3 a b c) (λ z. refl) bracket h
    (λ v t m s. goes_read integer_at IsInteger integer_reads extents_of 93 bracket (λ b w. third_extent_at a b w) (grids.Rank1 a) (grids.Rank3 a b c) v t rest b
    (c ∷ []) m s
    (λ w n. goes_read integer_at IsInteger integer_reads extents_of 93 bracket (third_extent a b) (grids.Rank2 a b) (grids.Rank3 a b c) w t rest c [] n s
    (λ u o. end_read integer_at IsInteger integer_reads extents_of 93 bracket (grids.Rank3 a b c) u t rest o s)))

-- ---- indices

abbrev third_place : ℤ → ℤ → ℤ → List ℕ → Option (IndexLiteral × List ℕ)
third_place i j k bytes = option_map {U = IndexLiteral × List ℕ} (λ (z : List ℕ). (indices.Triple i j k, z)) (close_at (codes ")") bytes)

-- a tuple behind its first number
abbrev second_place : ℤ → List ℕ → Option (IndexLiteral × List ℕ)
second_place i bytes = option_and_then (λ (j : ℤ × List ℕ). third_place_at i j.0 j.1) (next_integer_at bytes)

abbrev enclosed_tuple : List ℕ → Option (IndexLiteral × List ℕ)
enclosed_tuple bytes = option_and_then (λ inside. option_and_then (λ (a : ℤ × List ℕ). second_place a.0 a.1) (integer_at inside))
    (after_token (codes "(") bytes)

tuple_found : (bytes rest : List ℕ) (y : IndexLiteral) → enclosed_tuple bytes ≡ Some (y, rest) →
    Found (λ t i. IsEnclosed (codes "(") (codes ")") IsInteger t (places_of i)) bytes y rest
tuple_found bytes rest y e = enclosed_found integer_at IsInteger integer_reads places_of second_place 40 41 bytes rest y
    (λ a z f. option_and_then_some (λ (j : ℤ × List ℕ). third_place_at a j.0 j.1) (next_integer_at z) (y, rest) f (λ n o g.
    more_found integer_at IsInteger integer_reads places_of 41 parenthesis n (a ∷ []) y z rest o
    (on_found integer_at IsInteger integer_reads places_of 41 parenthesis (next_integer_at n.1) (third_place a n.0) (a ∷ n.0 ∷ []) (indices.Pair a n.0) y n.1
    rest refl refl
    (λ c u h. last_found integer_at IsInteger integer_reads places_of 41 parenthesis (a ∷ n.0 ∷ c ∷ []) y (indices.Triple a n.0 c) u rest refl h) g))) e

pair_read : (text rest : List ℕ) (i j : ℤ) → IsEnclosed (codes "(") (codes ")") IsInteger text (i ∷ j ∷ []) →
    enclosed_tuple (text ++ rest) ≡ Some (indices.Pair i j, rest)
pair_read text rest i j h = enclosed_read integer_at IsInteger integer_reads second_place 40 41 text rest i (j ∷ []) (indices.Pair i j) (λ z. refl) parenthesis
    h
    (λ v t m s.
    let n = more_read integer_at IsInteger integer_reads places_of 41 parenthesis v t rest j [] m s in
    ap (option_and_then (λ (j : ℤ × List ℕ). third_place_at i j.0 j.1)) n.2 ∙
    ends_read integer_at IsInteger integer_reads places_of 41 parenthesis (third_place i j) (indices.Pair i j) n.0 t rest n.1 s)

triple_read : (text rest : List ℕ) (i j k : ℤ) → IsEnclosed (codes "(") (codes ")") IsInteger text (i ∷ j ∷ k ∷ []) →
    enclosed_tuple (text ++ rest) ≡ Some (indices.Triple i j k, rest)
triple_read text rest i j k h = enclosed_read integer_at IsInteger integer_reads second_place 40 41 text rest i (j ∷ k ∷ []) (indices.Triple i j k) (λ z. refl)
    parenthesis h
    (λ v t m s.
    let n = more_read integer_at IsInteger integer_reads places_of 41 parenthesis v t rest j (k ∷ []) m s in
    ap (option_and_then (λ (j : ℤ × List ℕ). third_place_at i j.0 j.1)) n.2
    ∙ goes_read integer_at IsInteger integer_reads places_of 41 parenthesis (third_place i j) (indices.Pair i j) (indices.Triple i j k) n.0 t rest k [] n.1 s
    (λ u o. end_read integer_at IsInteger integer_reads places_of 41 parenthesis (indices.Triple i j k) u t rest o s))

-- where the first of two ways succeeds, the other is not asked
then_or : {A B : Type 0} (f : A → Option B) (o : Option A) (d : Option B) (y : B) → option_and_then f o ≡ Some y → option_map_or f o d ≡ Some y
then_or f None d y e = absurd (cc)
then_or f (Some x) d y e = e

no_tuple : (text rest : List ℕ) → Starts text → after_token (codes "(") (text ++ rest) ≡ None
no_tuple [] rest h = absurd h
no_tuple (b ∷ bytes) rest (inl e) = ap (option_map skip_spaces) (not_after 40 b [] (bytes ++ rest) (λ x. omega (arith, e, x)))
no_tuple (b ∷ bytes) rest (inr h) = ap (option_map skip_spaces) (not_after 40 b [] (bytes ++ rest) (λ x. omega (arith, h.0, x)))

abbrev integer_index : List ℕ → Option (IndexLiteral × List ℕ)
integer_index bytes = option_map {U = IndexLiteral × List ℕ} (λ (i : ℤ × List ℕ). (indices.Integer i.0, i.1)) (integer_at bytes)

pub index_read : (text rest : List ℕ) (y : IndexLiteral) → IsIndex text y → Ends rest → index_at (text ++ rest) ≡ Some (y, rest)
index_read text rest (indices.Integer i) h f =
    ap (λ o. option_map_or tuple_at o (integer_index (text ++ rest))) (no_tuple text rest (integer_starts text i h))
    ∙ ap (option_map {U = IndexLiteral × List ℕ} (λ (i : ℤ × List ℕ). (indices.Integer i.0, i.1))) (integer_read text rest i h (ends_digits rest f))
index_read text rest (indices.Pair i j) h f = then_or tuple_at (after_token (codes "(") (text ++ rest)) (integer_index (text ++ rest)) (indices.Pair i j, rest)
    (pair_read text rest i j h)
index_read text rest (indices.Triple i j k) h f = then_or tuple_at (after_token (codes "(") (text ++ rest)) (integer_index (text ++ rest))
    (indices.Triple i j k, rest) (triple_read text rest i j k h)

index_of_tuple : (text : List ℕ) (y : IndexLiteral) → IsEnclosed (codes "(") (codes ")") IsInteger text (places_of y) → IsIndex text y
index_of_tuple text (indices.Integer i) (s, l, t, p, none, q, e) = absurd none
index_of_tuple text (indices.Pair i j) h = h
index_of_tuple text (indices.Triple i j k) h = h

index_by : (o : Option (List ℕ)) (bytes rest : List ℕ) (y : IndexLiteral) → after_token (codes "(") bytes ≡ o →
    option_map_or tuple_at o (integer_index bytes) ≡ Some (y, rest) → Found IsIndex bytes y rest
index_by (Some inside) bytes rest y o e =
    let t = tuple_found bytes rest y (ap (option_and_then tuple_at) o ∙ e) in
    (t.0, index_of_tuple t.0 y t.1, t.2)
index_by None bytes rest y o e = mapped {B = IndexLiteral × List ℕ} (λ (i : ℤ × List ℕ). (indices.Integer i.0, i.1)) (integer_at bytes) (y, rest) e (λ i f p.
    let t = integer_found bytes i.1 i.0 f in
    let value : indices.Integer i.0 ≡ y = ap (λ (m : IndexLiteral × List ℕ). m.0) p in
    let left : i.1 ≡ rest = ap (λ (m : IndexLiteral × List ℕ). m.1) p in
    (t.0, subst (IsIndex t.0) value t.1, t.3 ∙ ap (λ x. t.0 ++ x) left))

pub index_found : (bytes rest : List ℕ) (y : IndexLiteral) → index_at bytes ≡ Some (y, rest) → Found IsIndex bytes y rest
index_found bytes rest y e = index_by (after_token (codes "(") bytes) bytes rest y refl e

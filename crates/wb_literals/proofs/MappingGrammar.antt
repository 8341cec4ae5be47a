-- Mappings: what is spelled is read, and what is read is spelled.
use Rattle.std.proofs.Common.{◌≡◌, ◌≢◌, ◌↔◌, ℕ, List, [], ◌∷◌, ◌++◌, codes, Option, Some, None, option_map, option_and_then, refl, sym, ap, ◌∙◌, subst}
use Rattle.std.proofs.Common.{append_assoc, arith}
use Rattle.std.proofs.lemmas.Option.{option_and_then_some}
use Rattle.std.specs.Option.{option_map_or}
use Rattle.wb_literals.specs.Tokens.{after, after_token, comma_at, close_at}
use Rattle.wb_literals.specs.Rectangle.{rectangle_at}
use Rattle.wb_literals.specs.Index.{index_at, grid_at}
use Rattle.wb_literals.specs.Mapping.{last_grid_at, next_index_at, block_at, cyclic_at, block_cyclic_at, mapping_at, mapping_of}
use Rattle.wb_literals.specs.Grammar.{IsComma, IsRectangle, IsIndex, IsGrid, IsLastGrid, IsMapping}
use Rattle.wb_literals.specs.declared.index.IndexLiteral.{IndexLiteral}
use Rattle.wb_literals.specs.declared.index.IndexLiteral.TheVariants as indices
use Rattle.wb_literals.specs.declared.index.GridLiteral.{GridLiteral}
use Rattle.wb_literals.specs.declared.rectangle.RectangleLiteral.{RectangleLiteral}
use Rattle.wb_literals.specs.declared.mapping.MappingLiteral.{MappingLiteral}
use Rattle.wb_literals.specs.declared.mapping.MappingLiteral.TheVariants as mappings
use Rattle.wb_literals.proofs.Exact.{exact}
use Rattle.wb_literals.proofs.RangeGrammar.{Ends, Found, integer_starts, starts_unspaced}
use Rattle.wb_literals.proofs.TokenLemmas.{NoSpace, skip_over, after_found, token_found, comma_over, comma_found, close_over, close_found, mapped}
use Rattle.wb_literals.proofs.ListGrammar.{comma_ends}
use Rattle.wb_literals.proofs.RectangleGrammar.{rectangle_found, rectangle_read}
use Rattle.wb_literals.proofs.IndexGrammar.{grid_found, grid_read, index_found, index_read}

-- a text that begins with another byte than a space
opened : (b : ℕ) (text more rest : List ℕ) → b ≢ 32 → text ≡ b ∷ more → NoSpace (text ++ rest)
opened b text more rest h e = subst (λ x. NoSpace (x ++ rest)) (sym e) h

rectangle_unspaced : (text rest : List ℕ) (r : RectangleLiteral) → IsRectangle text r → NoSpace (text ++ rest)
rectangle_unspaced text rest r (s, x, t, p, l, q, e) = opened 123 text (s ++ (x ++ (t ++ codes "}"))) rest (λ z. omega (arith, z)) e

grid_unspaced : (text rest : List ℕ) (g : GridLiteral) → IsGrid text g → NoSpace (text ++ rest)
grid_unspaced text rest g (s, x, t, p, l, q, e) = opened 91 text (s ++ (x ++ (t ++ codes "]"))) rest (λ z. omega (arith, z)) e

pub index_unspaced : (text rest : List ℕ) (i : IndexLiteral) → IsIndex text i → NoSpace (text ++ rest)
index_unspaced text rest (indices.Integer i) h = starts_unspaced text rest (integer_starts text i h)
index_unspaced text rest (indices.Pair i j) (s, x, t, p, l, q, e) = opened 40 text (s ++ (x ++ (t ++ codes ")"))) rest (λ z. omega (arith, z)) e
index_unspaced text rest (indices.Triple i j k) (s, x, t, p, l, q, e) = opened 40 text (s ++ (x ++ (t ++ codes ")"))) rest (λ z. omega (arith, z)) e

-- a comma and what follows it
pub comma_read : (c rest : List ℕ) → IsComma c → NoSpace rest → comma_at (c ++ rest) ≡ Some rest
comma_read c rest (s, t, a, b, e) h = ap comma_at (ap (λ x. x ++ rest) e ∙ append_assoc s (44 ∷ t) rest) ∙ comma_over s t rest a b h

pub comma_is : (bytes rest : List ℕ) → comma_at bytes ≡ Some rest → (c : List ℕ) × IsComma c × (bytes ≡ c ++ rest)
comma_is bytes rest e = let k = comma_found bytes rest e in (k.0 ++ (44 ∷ k.1), (k.0, k.1, k.2, k.3, refl), k.4 ∙ sym (append_assoc k.0 (44 ∷ k.1) rest))

last_read : (text rest : List ℕ) (g : GridLiteral) → IsLastGrid text g → last_grid_at (text ++ rest) ≡ Some (g, rest)
last_read text rest g (c, x, t, p, i, q, e) =
    let tail : List ℕ = t ++ (41 ∷ rest) in
    let joined : text ++ rest ≡ c ++ (x ++ tail) = ap (λ z. z ++ rest) e ∙ append_assoc c (x ++ (t ++ codes ")")) rest ∙
    ap (λ z. c ++ z) (append_assoc x (t ++ codes ")") rest ∙ ap (λ z. x ++ z) (append_assoc t (codes ")") rest)) in
    let close : GridLiteral × List ℕ → Option (GridLiteral × List ℕ) =
    λ g. option_map {U = GridLiteral × List ℕ} (λ (last : List ℕ). (g.0, last)) (close_at (codes ")") g.1) in
    ap last_grid_at joined
    ∙ ap (option_and_then (λ (rest : List ℕ). option_and_then close (grid_at rest))) (comma_read c (x ++ tail) p (grid_unspaced x tail g i))
    ∙ ap (option_and_then close) (grid_read x tail g i)
    ∙ ap (option_map {U = GridLiteral × List ℕ} (λ (last : List ℕ). (g, last))) (close_over 41 t rest (λ z. omega (arith, z)) q)

last_found : (bytes rest : List ℕ) (g : GridLiteral) → last_grid_at bytes ≡ Some (g, rest) → Found IsLastGrid bytes g rest
last_found bytes rest g e =
    option_and_then_some (λ (r : List ℕ). option_and_then (λ (g : GridLiteral × List ℕ). option_map {U = GridLiteral × List ℕ} (λ (last : List ℕ). (g.0, last))
    (close_at (codes ")") g.1)) (grid_at r)) (comma_at bytes) (g, rest) e (λ r f h.
    option_and_then_some (λ (g : GridLiteral × List ℕ). option_map {U = GridLiteral × List ℕ} (λ (last : List ℕ). (g.0, last)) (close_at (codes ")") g.1))
    (grid_at r) (g, rest) h (λ n k m.
    mapped {B = GridLiteral × List ℕ} (λ (last : List ℕ). (n.0, last)) (close_at (codes ")") n.1) (g, rest) m (λ last o p.
    let c = comma_is bytes r f in
    let x = grid_found r n.1 n.0 k in
    let t = close_found (codes ")") n.1 last o in
    let value : n.0 ≡ g = ap (λ (z : GridLiteral × List ℕ). z.0) p in
    let left : last ≡ rest = ap (λ (z : GridLiteral × List ℕ). z.1) p in
    let text : List ℕ = c.0 ++ (x.0 ++ (t.0 ++ codes ")")) in
    let joined : text ++ rest ≡ c.0 ++ (x.0 ++ (t.0 ++ (41 ∷ rest))) = append_assoc c.0 (x.0 ++ (t.0 ++ codes ")")) rest ∙
    ap (λ z. c.0 ++ z) (append_assoc x.0 (t.0 ++ codes ")") rest ∙ ap (λ z. x.0 ++ z) (append_assoc t.0 (codes ")") rest)) in (
      text,
      subst (IsLastGrid text) value (c.0, x.0, t.0, c.1, x.1, t.1, refl),
      c.2 ∙
          ap (λ z. c.0 ++ z) (x.2 ∙ ap (λ z. x.0 ++ z) (t.2 ∙ ap (λ z. t.0 ++ (41 ∷ z)) left)) ∙ sym joined,
    ))))

-- behind an index comes a comma
last_ends : (text rest : List ℕ) (g : GridLiteral) → IsLastGrid text g → Ends (text ++ rest)
last_ends text rest g (c, x, t, p, i, q, e) = subst Ends (sym (ap (λ z. z ++ rest) e ∙ append_assoc c (x ++ (t ++ codes ")")) rest))
    (comma_ends c ((x ++ (t ++ codes ")")) ++ rest) p)

block_body : (b l rest : List ℕ) (box : RectangleLiteral) (g : GridLiteral) → IsRectangle b box → IsLastGrid l g →
    block_at (b ++ (l ++ rest)) ≡ Some (mappings.Block box g, rest)
block_body b l rest box g h k = rw (rectangle_read b (l ++ rest) box h, last_read l rest g k) refl

cyclic_body : (i l rest : List ℕ) (start : IndexLiteral) (g : GridLiteral) → IsIndex i start → IsLastGrid l g →
    cyclic_at (i ++ (l ++ rest)) ≡ Some (mappings.Cyclic start g, rest)
cyclic_body i l rest start g h k = rw (index_read i (l ++ rest) start h (last_ends l rest g k), last_read l rest g k) refl

block_cyclic_body : (i c j l rest : List ℕ) (start sizes : IndexLiteral) (g : GridLiteral) → IsIndex i start → IsComma c → IsIndex j sizes → IsLastGrid l g
    → block_cyclic_at (i ++ (c ++ (j ++ (l ++ rest)))) ≡ Some (mappings.BlockCyclic start sizes g, rest)
block_cyclic_body i c j l rest start sizes g h p q k =
    rw (
      index_read i (c ++ (j ++ (l ++ rest))) start h (comma_ends c (j ++ (l ++ rest)) p),
      comma_read c (j ++ (l ++ rest)) p (index_unspaced j (l ++ rest) sizes q),
      index_read j (l ++ rest) sizes q (last_ends l rest g k),
      last_read l rest g k,
    ) refl

pub mapping_read : (text rest : List ℕ) (m : MappingLiteral) → IsMapping text m → mapping_at (text ++ rest) ≡ Some (m, rest)
mapping_read text rest mappings.Whole e = ap (λ x. mapping_at (x ++ rest)) e
mapping_read text rest (mappings.Block box g) (s, b, l, a, h, k, e) =
    ap mapping_at (ap (λ x. x ++ rest) e ∙ ap (λ x. codes "blockDist(" ++ x) (append_assoc s (b ++ l) rest ∙ ap (λ x. s ++ x) (append_assoc b l rest)))
    ∙ ap block_at (skip_over s (b ++ (l ++ rest)) a (rectangle_unspaced b (l ++ rest) box h)) ∙ block_body b l rest box g h k
mapping_read text rest (mappings.Cyclic start g) (s, i, l, a, h, k, e) =
    ap mapping_at (ap (λ x. x ++ rest) e ∙ ap (λ x. codes "cyclicDist(" ++ x) (append_assoc s (i ++ l) rest ∙ ap (λ x. s ++ x) (append_assoc i l rest)))
    ∙ ap cyclic_at (skip_over s (i ++ (l ++ rest)) a (index_unspaced i (l ++ rest) start h)) ∙ cyclic_body i l rest start g h k
mapping_read text rest (mappings.BlockCyclic start sizes g) (s, i, c, j, l, a, h, p, q, k, e) =
    ap mapping_at (ap (λ x. x ++ rest) e ∙ ap (λ x. codes "blockCycDist(" ++ x)
    (append_assoc s (i ++ (c ++ (j ++ l))) rest ∙ ap (λ x. s ++ x)
    (append_assoc i (c ++ (j ++ l)) rest ∙ ap (λ x. i ++ x) (append_assoc c (j ++ l) rest ∙ ap (λ x. c ++ x) (append_assoc j l rest)))))
    ∙ ap block_cyclic_at (skip_over s (i ++ (c ++ (j ++ (l ++ rest)))) a (index_unspaced i (c ++ (j ++ (l ++ rest))) start h)) ∙
    block_cyclic_body i c j l rest start sizes g h p q k

-- ---- what is read is spelled

block_is : (x rest : List ℕ) (m : MappingLiteral) → block_at x ≡ Some (m, rest)
    → (b l : List ℕ) × (box : RectangleLiteral) × (g : GridLiteral) × IsRectangle b box × IsLastGrid l g × (mappings.Block box g ≡ m) × (x ≡ b ++ (l ++ rest))
block_is x rest m e = option_and_then_some (λ (b : RectangleLiteral × List ℕ). option_map {U = MappingLiteral × List ℕ}
    (λ (g : GridLiteral × List ℕ). (mappings.Block b.0 g.0, g.1)) (last_grid_at b.1)) (rectangle_at x) (m, rest) e (λ b f h.
    mapped {B = MappingLiteral × List ℕ} (λ (g : GridLiteral × List ℕ). (mappings.Block b.0 g.0, g.1)) (last_grid_at b.1) (m, rest) h (λ g k p.
    let r = rectangle_found x b.1 b.0 f in
    let l = last_found b.1 g.1 g.0 k in
    let left : g.1 ≡ rest = ap (λ (z : MappingLiteral × List ℕ). z.1) p in
    (r.0, l.0, b.0, g.0, r.1, l.1, ap (λ (z : MappingLiteral × List ℕ). z.0) p, r.2 ∙ ap (λ z. r.0 ++ z) (l.2 ∙ ap (λ z. l.0 ++ z) left))))

cyclic_is : (x rest : List ℕ) (m : MappingLiteral) → cyclic_at x ≡ Some (m, rest)
    → (i l : List ℕ) × (start : IndexLiteral) × (g : GridLiteral) × IsIndex i start × IsLastGrid l g × (mappings.Cyclic start g ≡ m) × (x ≡ i ++ (l ++ rest))
cyclic_is x rest m e = option_and_then_some (λ (b : IndexLiteral × List ℕ). option_map {U = MappingLiteral × List ℕ}
    (λ (g : GridLiteral × List ℕ). (mappings.Cyclic b.0 g.0, g.1)) (last_grid_at b.1)) (index_at x) (m, rest) e (λ b f h.
    mapped {B = MappingLiteral × List ℕ} (λ (g : GridLiteral × List ℕ). (mappings.Cyclic b.0 g.0, g.1)) (last_grid_at b.1) (m, rest) h (λ g k p.
    let r = index_found x b.1 b.0 f in
    let l = last_found b.1 g.1 g.0 k in
    let left : g.1 ≡ rest = ap (λ (z : MappingLiteral × List ℕ). z.1) p in
    (r.0, l.0, b.0, g.0, r.1, l.1, ap (λ (z : MappingLiteral × List ℕ). z.0) p, r.2 ∙ ap (λ z. r.0 ++ z) (l.2 ∙ ap (λ z. l.0 ++ z) left))))

block_cyclic_is : (x rest : List ℕ) (m : MappingLiteral) → block_cyclic_at x ≡ Some (m, rest)
    → (i c j l : List ℕ) × (start sizes : IndexLiteral) × (g : GridLiteral) × IsIndex i start × IsComma c × IsIndex j sizes × IsLastGrid l g ×
    (mappings.BlockCyclic start sizes g ≡ m) × (x ≡ i ++ (c ++ (j ++ (l ++ rest))))
block_cyclic_is x rest m e =
    option_and_then_some (λ (a : IndexLiteral × List ℕ). option_and_then
    (λ (b : IndexLiteral × List ℕ). option_map {U = MappingLiteral × List ℕ} (λ (g : GridLiteral × List ℕ). (mappings.BlockCyclic a.0 b.0 g.0, g.1))
    (last_grid_at b.1)) (next_index_at a.1)) (index_at x) (m, rest) e (λ a f h.
    option_and_then_some (λ (b : IndexLiteral × List ℕ). option_map {U = MappingLiteral × List ℕ}
    (λ (g : GridLiteral × List ℕ). (mappings.BlockCyclic a.0 b.0 g.0, g.1)) (last_grid_at b.1)) (next_index_at a.1) (m, rest) h (λ b n o.
    option_and_then_some index_at (comma_at a.1) b n (λ y q w.
    mapped {B = MappingLiteral × List ℕ} (λ (g : GridLiteral × List ℕ). (mappings.BlockCyclic a.0 b.0 g.0, g.1)) (last_grid_at b.1) (m, rest) o (λ g k p.
    let r = index_found x a.1 a.0 f in
    let c = comma_is a.1 y q in
    let j = index_found y b.1 b.0 w in
    let l = last_found b.1 g.1 g.0 k in
    let left : g.1 ≡ rest = ap (λ (z : MappingLiteral × List ℕ). z.1) p in (
      r.0,
      c.0,
      j.0,
      l.0,
      a.0,
      b.0,
      g.0,
      r.1,
      c.1,
      j.1,
      l.1,
      ap (λ (z : MappingLiteral × List ℕ). z.0) p,
      r.2 ∙
          ap (λ z. r.0 ++ z) (c.2 ∙ ap (λ z. c.0 ++ z) (j.2 ∙ ap (λ z. j.0 ++ z) (l.2 ∙ ap (λ z. l.0 ++ z) left))),
    )))))

none_by : (bytes rest : List ℕ) (m : MappingLiteral) → option_map {U = MappingLiteral × List ℕ} (λ (z : List ℕ). (mappings.Whole, z))
    (after (codes "none") bytes) ≡ Some (m, rest) → Found IsMapping bytes m rest
none_by bytes rest m e = mapped {B = MappingLiteral × List ℕ} (λ (z : List ℕ). (mappings.Whole, z)) (after (codes "none") bytes) (m, rest) e (λ z f p.
    let left : z ≡ rest = ap (λ (q : MappingLiteral × List ℕ). q.1) p in (
      codes "none",
      subst (IsMapping (codes "none")) (ap (λ (q : MappingLiteral × List ℕ). q.0) p) refl,
      after_found (codes "none") bytes z f ∙
          ap (λ q. codes "none" ++ q) left,
    ))

third_by : (o : Option (List ℕ)) (bytes rest : List ℕ) (m : MappingLiteral) → after_token (codes "blockCycDist(") bytes ≡ o
    → option_map_or block_cyclic_at o (option_map {U = MappingLiteral × List ℕ} (λ (z : List ℕ). (mappings.Whole, z)) (after (codes "none") bytes)) ≡ Some
    (m, rest) → Found IsMapping bytes m rest
third_by None bytes rest m o e = none_by bytes rest m e
third_by (Some x) bytes rest m o e =
    let t = token_found (codes "blockCycDist(") bytes x o in
    let k = block_cyclic_is x rest m e in
    let text : List ℕ = codes "blockCycDist(" ++ (t.0 ++ (k.0 ++ (k.1 ++ (k.2 ++ k.3)))) in
    let joined : text ++ rest ≡ codes "blockCycDist(" ++ (t.0 ++ (k.0 ++ (k.1 ++ (k.2 ++ (k.3 ++ rest))))) =
    ap (λ z. codes "blockCycDist(" ++ z) (append_assoc t.0 (k.0 ++ (k.1 ++ (k.2 ++ k.3))) rest ∙
    ap (λ z. t.0 ++ z) (append_assoc k.0 (k.1 ++ (k.2 ++ k.3)) rest ∙
    ap (λ z. k.0 ++ z) (append_assoc k.1 (k.2 ++ k.3) rest ∙ ap (λ z. k.1 ++ z) (append_assoc k.2 k.3 rest)))) in (
      text,
      subst (IsMapping text) k.11 (t.0, k.0, k.1, k.2, k.3, t.1, k.7, k.8, k.9, k.10, refl),
      t.2 ∙ ap (λ z. codes "blockCycDist(" ++ (t.0 ++ z)) k.12 ∙
          sym joined,
    )

second_by : (o : Option (List ℕ)) (bytes rest : List ℕ) (m : MappingLiteral) → after_token (codes "cyclicDist(") bytes ≡ o
    → option_map_or cyclic_at o (option_map_or block_cyclic_at (after_token (codes "blockCycDist(") bytes)
    (option_map {U = MappingLiteral × List ℕ} (λ (z : List ℕ). (mappings.Whole, z)) (after (codes "none") bytes))) ≡ Some (m, rest) →
    Found IsMapping bytes m rest
second_by None bytes rest m o e = third_by (after_token (codes "blockCycDist(") bytes) bytes rest m refl e
second_by (Some x) bytes rest m o e =
    let t = token_found (codes "cyclicDist(") bytes x o in
    let k = cyclic_is x rest m e in
    let text : List ℕ = codes "cyclicDist(" ++ (t.0 ++ (k.0 ++ k.1)) in
    let joined : text ++ rest ≡ codes "cyclicDist(" ++ (t.0 ++ (k.0 ++ (k.1 ++ rest))) =
    ap (λ z. codes "cyclicDist(" ++ z) (append_assoc t.0 (k.0 ++ k.1) rest ∙ ap (λ z. t.0 ++ z) (append_assoc k.0 k.1 rest)) in
    (text, subst (IsMapping text) k.6 (t.0, k.0, k.1, t.1, k.4, k.5, refl), t.2 ∙ ap (λ z. codes "cyclicDist(" ++ (t.0 ++ z)) k.7 ∙ sym joined)

first_by : (o : Option (List ℕ)) (bytes rest : List ℕ) (m : MappingLiteral) → after_token (codes "blockDist(") bytes ≡ o
    → option_map_or block_at o (option_map_or cyclic_at (after_token (codes "cyclicDist(") bytes)
    (option_map_or block_cyclic_at (after_token (codes "blockCycDist(") bytes)
    (option_map {U = MappingLiteral × List ℕ} (λ (z : List ℕ). (mappings.Whole, z)) (after (codes "none") bytes)))) ≡ Some (m, rest) →
    Found IsMapping bytes m rest
first_by None bytes rest m o e = second_by (after_token (codes "cyclicDist(") bytes) bytes rest m refl e
first_by (Some x) bytes rest m o e =
    let t = token_found (codes "blockDist(") bytes x o in
    let k = block_is x rest m e in
    let text : List ℕ = codes "blockDist(" ++ (t.0 ++ (k.0 ++ k.1)) in
    let joined : text ++ rest ≡ codes "blockDist(" ++ (t.0 ++ (k.0 ++ (k.1 ++ rest))) =
    ap (λ z. codes "blockDist(" ++ z) (append_assoc t.0 (k.0 ++ k.1) rest ∙ ap (λ z. t.0 ++ z) (append_assoc k.0 k.1 rest)) in
    (text, subst (IsMapping text) k.6 (t.0, k.0, k.1, t.1, k.4, k.5, refl), t.2 ∙ ap (λ z. codes "blockDist(" ++ (t.0 ++ z)) k.7 ∙ sym joined)

pub mapping_found : (bytes rest : List ℕ) (m : MappingLiteral) → mapping_at bytes ≡ Some (m, rest) → Found IsMapping bytes m rest
mapping_found bytes rest m e = first_by (after_token (codes "blockDist(") bytes) bytes rest m refl e

pub mapping_exact : (text : List ℕ) (m : MappingLiteral) → (mapping_of text ≡ Some m) ↔ IsMapping text m
mapping_exact = exact mapping_at IsMapping mapping_found (λ text m h. mapping_read text [] m h)

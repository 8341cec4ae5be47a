-- Lines are read back.
use Rattle.std.proofs.Common.{◌≡◌, ℕ, zero, suc, ◌<◌, ◌≤◌, ℤ, true, false, List, [], ◌∷◌, ◌++◌, codes, length, Option, Some, option_map, refl, sym, ap, ◌∙◌}
use Rattle.std.proofs.Common.{append_assoc, arith}
use Rattle.std.proofs.lemmas.List.{length-append}
use Rattle.std.specs.List.{flat_map}
use Rattle.wb_rect.specs.Product.{IsRectangle}
use Rattle.wb_dist.specs.Maps.{LayoutMap}
use Rattle.wb_cells.specs.declared.cells.kind.KeyType.TheVariants.{Int, Text}
use Rattle.wb_cells.specs.declared.values.index.Index.{Index}
use Rattle.wb_cells.specs.Cells.{Name}
use Rattle.wb_cells.specs.Layouts.{IsMapping}
use Rattle.wb_cells.specs.Names.{is_name}
use Rattle.wb_text.specs.Literals.{rectangle_text, set_text, integers_text, mapping_text}
use Rattle.wb_text.specs.Lines.{implicit_text}
use Rattle.wb_text.specs.Said.{Line, rectangular, sparse, associative, array, line_text, lines_text}
use Rattle.wb_text.proofs.Readable.{Each}
use Rattle.wb_text.proofs.ReadIndices.{AreWithin}
use Rattle.wb_text.proofs.ReadLines.{IsLine, IsImplicit}
use Rattle.wb_text.proofs.ReadMappings.{IsMapped}
use Rattle.wb_text.specs.Parsed.Lines.{rectangular_at, sparse_at, associative_at, array_at, line_at, is_end, lines_at, lines_of}
use Rattle.wb_text.proofs.Parsed.Names.{name_back}
use Rattle.wb_text.proofs.Parsed.Listing.{more_at}
use Rattle.wb_text.proofs.Parsed.Back.Elements.{elements_back, implicit_back}
use Rattle.wb_text.proofs.Parsed.Back.Mappings.{layout_back}
use Rattle.wb_text.proofs.Parsed.Back.Ranges.{ranges_back}
use Rattle.wb_text.proofs.Parsed.Back.Sets.{AreAlike, members_back}

-- what the literals of a line stand for is within the limits, and the indices of a set are alike
abbrev pub IsMeant : Line → Type 0
IsMeant (rectangular d rs m) = (rank : ℕ) × IsRectangle rank rs × IsMapping rank m
IsMeant (sparse d parent is) = AreAlike is
IsMeant (associative d type is) = AreAlike is
IsMeant (array a d xs irv) = Unit {0}

-- ---- the parts of a line, and what follows it

rectangular_parts : (d t m rest : List ℕ) → (d ++ (32 ∷ (t ++ (32 ∷ (m ++ (10 ∷ [])))))) ++ rest ≡ d ++ (32 ∷ (t ++ (32 ∷ (m ++ (10 ∷ rest)))))
rectangular_parts d t m rest = simp append_assoc

sparse_parts : (d p t rest : List ℕ) → (d ++ (codes " of " ++ (p ++ (32 ∷ (t ++ (10 ∷ [])))))) ++ rest ≡ d ++ (codes " of " ++ (p ++ (32 ∷ (t ++ (10 ∷ rest)))))
sparse_parts d p t rest = simp append_assoc

array_parts : (a d t i rest : List ℕ) → (a ++ (codes " over " ++ (d ++ (32 ∷ (t ++ i))))) ++ rest ≡ a ++ (codes " over " ++ (d ++ (32 ∷ (t ++ (i ++ rest)))))
array_parts a d t i rest = simp append_assoc

-- ---- the four kinds of lines

rectangular_back : (d : Name) (rs : List (List ℤ)) (m : LayoutMap) (rest : List ℕ) → is_name d ≡ true → IsMapped m → (rank : ℕ) → IsRectangle rank rs →
    IsMapping rank m
    → rectangular_at (d ++ (32 ∷ (rectangle_text rs ++ (32 ∷ (mapping_text m ++ (10 ∷ rest)))))) ≡ Some (rectangular d rs m, rest)
rectangular_back d rs m rest named mapped rank r k =
    rw (
      name_back d (rectangle_text rs ++ (32 ∷ (mapping_text m ++ (10 ∷ rest)))) named,
      ranges_back rank rs (32 ∷ (mapping_text m ++ (10 ∷ rest))) r,
      layout_back rank m (10 ∷ rest) k mapped,
    ) refl

sparse_back : (d parent : Name) (is : List Index) (rest : List ℕ) → is_name d ≡ true → is_name parent ≡ true → AreAlike is
    → sparse_at (d ++ (codes " of " ++ (parent ++ (32 ∷ (set_text is ++ (10 ∷ rest)))))) ≡ Some (sparse d parent is, rest)
sparse_back d parent is rest named other alike =
    rw (
      name_back d (111 ∷ 102 ∷ 32 ∷ (parent ++ (32 ∷ (set_text is ++ (10 ∷ rest))))) named,
      name_back parent (set_text is ++ (10 ∷ rest)) other,
      members_back is rest alike,
    ) refl

integer_keys_back : (d : Name) (is : List Index) (rest : List ℕ) → is_name d ≡ true → AreAlike is
    → associative_at (d ++ (codes " of " ++ (codes "int" ++ (32 ∷ (set_text is ++ (10 ∷ rest)))))) ≡ Some (associative d Int is, rest)
integer_keys_back d is rest named alike =
    rw (name_back d (111 ∷ 102 ∷ 32 ∷ (codes "int" ++ (32 ∷ (set_text is ++ (10 ∷ rest))))) named, members_back is rest alike) refl

text_keys_back : (d : Name) (is : List Index) (rest : List ℕ) → is_name d ≡ true → AreAlike is
    → associative_at (d ++ (codes " of " ++ (codes "text" ++ (32 ∷ (set_text is ++ (10 ∷ rest)))))) ≡ Some (associative d Text is, rest)
text_keys_back d is rest named alike =
    rw (name_back d (111 ∷ 102 ∷ 32 ∷ (codes "text" ++ (32 ∷ (set_text is ++ (10 ∷ rest))))) named, members_back is rest alike) refl

array_back : (a d : Name) (xs : List ℤ) (irv : Option ℤ) (rest : List ℕ) → is_name a ≡ true → is_name d ≡ true → AreWithin xs → IsImplicit irv
    → array_at (a ++ (codes " over " ++ (d ++ (32 ∷ (integers_text xs ++ ((implicit_text irv ++ codes "\n") ++ rest)))))) ≡ Some (array a d xs irv, rest)
array_back a d xs irv rest named other within implicit =
    let end : List ℕ = (implicit_text irv ++ codes "\n") ++ rest in
    rw (
      name_back a (111 ∷ 118 ∷ 101 ∷ 114 ∷ 32 ∷ (d ++ (32 ∷ (integers_text xs ++ end)))) named,
      name_back d (integers_text xs ++ end) other,
      elements_back xs end within,
      implicit_back irv rest implicit,
    ) refl

-- ---- lines

pub line_back : (l : Line) (rest : List ℕ) → IsLine l → IsMeant l → line_at (line_text l ++ rest) ≡ Some (l, rest)
line_back (rectangular d rs m) rest h k =
    ap (λ t. line_at (codes "rect " ++ t)) (rectangular_parts d (rectangle_text rs) (mapping_text m) rest) ∙ rectangular_back d rs m rest h.0 h.2 k.0 k.1 k.2
line_back (sparse d parent is) rest h k = ap (λ t. line_at (codes "sparse " ++ t)) (sparse_parts d parent (set_text is) rest) ∙
    sparse_back d parent is rest h.0 h.1 k
line_back (associative d Int is) rest h k = ap (λ t. line_at (codes "assoc " ++ t)) (sparse_parts d (codes "int") (set_text is) rest) ∙
    integer_keys_back d is rest h.0 k
line_back (associative d Text is) rest h k = ap (λ t. line_at (codes "assoc " ++ t)) (sparse_parts d (codes "text") (set_text is) rest) ∙
    text_keys_back d is rest h.0 k
line_back (array a d xs irv) rest h k =
    ap (λ t. line_at (codes "array " ++ t)) (array_parts a d (integers_text xs) (implicit_text irv ++ codes "\n") rest) ∙
    array_back a d xs irv rest h.0 h.1 h.2 h.3

not_end : (l : Line) (rest : List ℕ) → is_end (line_text l ++ rest) ≡ false
not_end (rectangular d rs m) rest = refl
not_end (sparse d parent is) rest = refl
not_end (associative d type is) rest = refl
not_end (array a d xs irv) rest = refl

-- ---- all lines

lines_more : (l : Line) (ls : List Line) → lines_text (l ∷ ls) ≡ line_text l ++ lines_text ls
lines_more l ls = append_assoc (line_text l) (flat_map line_text ls) (codes "end\n")

some_bytes : (l : Line) → 1 ≤ length (line_text l)
some_bytes (rectangular d rs m) = omega arith
some_bytes (sparse d parent is) = omega arith
some_bytes (associative d type is) = omega arith
some_bytes (array a d xs irv) = omega arith

lines_long : (ls : List Line) → length ls < length (lines_text ls)
lines_long [] = omega arith
lines_long (l ∷ ls) =
    let h = lines_long ls in let some = some_bytes l in let e = ap length (lines_more l ls) in let f = length-append (line_text l) (lines_text ls) in
    omega (arith, h, some, e, f)

lines_back_by : (n : ℕ) (ls : List Line) → length ls < n → Each IsLine ls → Each IsMeant ls → lines_at n (lines_text ls) ≡ Some ls
lines_back_by zero ls z h k = absurd (omega (arith, z))
lines_back_by (suc n) [] z h k = refl
lines_back_by (suc n) (l ∷ ls) z h k =
    ap (lines_at (suc n)) (lines_more l ls)
    ∙ more_at n l (line_text l ++ lines_text ls) (lines_text ls) (not_end l (lines_text ls)) (sym (line_back l (lines_text ls) h.0 k.0))
    ∙ ap (option_map (λ ms. l ∷ ms)) (lines_back_by n ls (omega (arith, z)) h.1 k.1)

pub lines_back : (ls : List Line) → Each IsLine ls → Each IsMeant ls → lines_of (lines_text ls) ≡ Some ls
lines_back ls h k = lines_back_by (length (lines_text ls)) ls (lines_long ls) h k

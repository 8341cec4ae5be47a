-- The lines of objects are read in one way, and so are all lines of a workbook.
use Rattle.std.proofs.Common.{◌≡◌, ℕ, ℤ, true, List, [], ◌∷◌, ◌++◌, codes, Option, Some, None, refl, sym, ap, ◌∙◌, append_assoc}
use Rattle.std.proofs.lemmas.List.{append_cancel_left}
use Rattle.std.specs.Fmt.{signed_decimal}
use Rattle.std.specs.List.{list_all, flat_map}
use Rattle.wb_dist.specs.Maps.{LayoutMap}
use Rattle.wb_cells.specs.declared.cells.kind.KeyType.{KeyType}
use Rattle.wb_cells.specs.declared.cells.kind.KeyType.TheVariants.{Int, Text}
use Rattle.wb_cells.specs.declared.values.index.Index.{Index}
use Rattle.wb_cells.specs.Cells.{Name}
use Rattle.wb_cells.specs.Names.{is_name, is_name_part}
use Rattle.wb_literals.specs.Integer.{IsWithin}
use Rattle.wb_text.specs.Literals.{rectangle_text, set_text, integers_text, mapping_text}
use Rattle.wb_text.specs.Lines.{rectangular_line, sparse_line, type_text, associative_line, implicit_text, array_line}
use Rattle.wb_text.specs.Said.{Line, rectangular, sparse, associative, array, line_text, lines_text}
use Rattle.wb_text.proofs.Readable.{IsRead, Each, Any, tail_same, other_first}
use Rattle.wb_text.proofs.ReadIndices.{AreWithin, IsWritten, integer_read, integers_read, set_read, name_parts, name_read}
use Rattle.wb_text.proofs.ReadRanges.{IsSpelled, rectangle_read}
use Rattle.wb_text.proofs.ReadMappings.{IsMapped, mapping_read, after_word, part_read}

abbrev pub IsImplicit : Option ℤ → Type 0
IsImplicit None = Unit {0}
IsImplicit (Some z) = IsWithin z

-- a line of which each part may be written
abbrev pub IsLine : Line → Type 0
IsLine (rectangular d rs m) = (is_name d ≡ true) × Each IsSpelled rs × IsMapped m
IsLine (sparse d parent is) = (is_name d ≡ true) × (is_name parent ≡ true) × Each IsWritten is
IsLine (associative d type is) = (is_name d ≡ true) × Each IsWritten is
IsLine (array a d xs irv) = (is_name a ≡ true) × (is_name d ≡ true) × AreWithin xs × IsImplicit irv

-- a word, a name up to a space, and what follows
named_read : (word m n a b r q : List ℕ) → list_all is_name_part m ≡ true → list_all is_name_part n ≡ true →
    (word ++ (m ++ (32 ∷ a))) ++ r ≡ (word ++ (n ++ (32 ∷ b))) ++ q → (m ≡ n) × (a ++ r ≡ b ++ q)
named_read word m n a b r q h k e =
    let f = after_word word (m ++ (32 ∷ a)) (n ++ (32 ∷ b)) r q e in
    name_read m n (a ++ r) (b ++ q) h k (sym (append_assoc m (32 ∷ a) r) ∙ f ∙ append_assoc n (32 ∷ b) q)

-- ---- the four kinds of lines

rectangular_rest : List (List ℤ) → LayoutMap → List ℕ
rectangular_rest rs m = rectangle_text rs ++ (codes " " ++ (mapping_text m ++ codes "\n"))

rectangular_read : (d e : Name) (rs us : List (List ℤ)) (m n : LayoutMap) (r q : List ℕ) → IsLine (rectangular d rs m) → IsLine (rectangular e us n) →
    rectangular_line d rs m ++ r ≡ rectangular_line e us n ++ q → (rectangular d rs m ≡ rectangular e us n) × (r ≡ q)
unfolding rectangular_rest
rectangular_read d e rs us m n r q h k f =
    let name = named_read (codes "rect ") d e (rectangular_rest rs m) (rectangular_rest us n) r q (name_parts d h.0) (name_parts e k.0) f in
    let ranges = part_read Any (Each IsSpelled) rectangle_text rectangle_read rs us (codes " " ++ (mapping_text m ++ codes "\n"))
    (codes " " ++ (mapping_text n ++ codes "\n")) r q h.1 k.1 tt tt name.1 in
    let layout = part_read Any IsMapped mapping_text mapping_read m n (codes "\n") (codes "\n") r q h.2 k.2 tt tt (tail_same 32 32 _ _ ranges.1) in
    let one = name.0 in let two = ranges.0 in let three = layout.0 in
    let same : rectangular d rs m ≡ rectangular e us n = cc in
    (same, tail_same 10 10 _ _ layout.1)

set_rest : List Index → List ℕ
set_rest is = set_text is ++ codes "\n"

set_rest_read : (is js : List Index) (r q : List ℕ) → Each IsWritten is → Each IsWritten js → set_rest is ++ r ≡ set_rest js ++ q → (is ≡ js) × (r ≡ q)
unfolding set_rest
set_rest_read is js r q h k f =
    let set = part_read Any (Each IsWritten) set_text set_read is js (codes "\n") (codes "\n") r q h k tt tt f in
    (set.0, tail_same 10 10 _ _ set.1)

of_rest : Name → List Index → List ℕ
of_rest n is = codes "of " ++ (n ++ (codes " " ++ (set_text is ++ codes "\n")))

of_rest_read : (m n : Name) (is js : List Index) (r q : List ℕ) → list_all is_name_part m ≡ true → list_all is_name_part n ≡ true → Each IsWritten is →
    Each IsWritten js → of_rest m is ++ r ≡ of_rest n js ++ q
    → (m ≡ n) × (is ≡ js) × (r ≡ q)
unfolding of_rest set_rest
of_rest_read m n is js r q a b h k f =
    let name = named_read (codes "of ") m n (set_rest is) (set_rest js) r q a b f in
    let set = set_rest_read is js r q h k name.1 in
    (name.0, set.0, set.1)

sparse_read : (d e p o : Name) (is js : List Index) (r q : List ℕ) → IsLine (sparse d p is) → IsLine (sparse e o js) →
    sparse_line d p is ++ r ≡ sparse_line e o js ++ q → (sparse d p is ≡ sparse e o js) × (r ≡ q)
unfolding of_rest
sparse_read d e p o is js r q h k f =
    let name = named_read (codes "sparse ") d e (of_rest p is) (of_rest o js) r q (name_parts d h.0) (name_parts e k.0) f in
    let rest = of_rest_read p o is js r q (name_parts p h.1) (name_parts o k.1) h.2 k.2 name.1 in
    let one = name.0 in let two = rest.0 in let three = rest.1 in
    let same : sparse d p is ≡ sparse e o js = cc in
    (same, rest.2)

type_parts : (t : KeyType) → list_all is_name_part (type_text t) ≡ true
type_parts Int = refl
type_parts Text = refl

type_known : (t u : KeyType) → type_text t ≡ type_text u → t ≡ u
type_known Int Int e = refl
type_known Int Text e = other_first 105 116 _ _ refl e
type_known Text Int e = other_first 116 105 _ _ refl e
type_known Text Text e = refl

associative_read : (d e : Name) (t u : KeyType) (is js : List Index) (r q : List ℕ) → IsLine (associative d t is) → IsLine (associative e u js) →
    associative_line d t is ++ r ≡ associative_line e u js ++ q → (associative d t is ≡ associative e u js) × (r ≡ q)
unfolding of_rest
associative_read d e t u is js r q h k f =
    let name = named_read (codes "assoc ") d e (of_rest (type_text t) is) (of_rest (type_text u) js) r q (name_parts d h.0) (name_parts e k.0) f in
    let rest = of_rest_read (type_text t) (type_text u) is js r q (type_parts t) (type_parts u) h.1 k.1 name.1 in
    let one = name.0 in let two = type_known t u rest.0 in let three = rest.1 in
    let same : associative d t is ≡ associative e u js = cc in
    (same, rest.2)

implicit_rest : Option ℤ → List ℕ
implicit_rest irv = implicit_text irv ++ codes "\n"

implicit_shape : (z : ℤ) (r : List ℕ) → implicit_rest (Some z) ++ r ≡ codes " irv " ++ (signed_decimal z ++ (10 ∷ r))
unfolding implicit_rest
implicit_shape z r = ap (λ x. codes " irv " ++ x) (append_assoc (signed_decimal z) (10 ∷ []) r)

implicit_read : (z w : Option ℤ) (r q : List ℕ) → IsImplicit z → IsImplicit w → implicit_rest z ++ r ≡ implicit_rest w ++ q → (z ≡ w) × (r ≡ q)
unfolding implicit_rest
implicit_read None None r q h k e = (refl, tail_same 10 10 r q e)
implicit_read None (Some w) r q h k e = other_first 10 32 _ _ refl e
implicit_read (Some z) None r q h k e = other_first 32 10 _ _ refl e
implicit_read (Some z) (Some w) r q h k e =
    let after = append_cancel_left (codes " irv ") (signed_decimal z ++ (10 ∷ r)) (signed_decimal w ++ (10 ∷ q))
    (sym (implicit_shape z r) ∙ e ∙ implicit_shape w q) in
    let one = integer_read z w (10 ∷ r) (10 ∷ q) h k refl refl after in
    (ap Some one.0, tail_same 10 10 r q one.1)

array_rest : Name → List ℤ → Option ℤ → List ℕ
array_rest d xs irv = codes "over " ++ (d ++ (codes " " ++ (integers_text xs ++ (implicit_text irv ++ codes "\n"))))

array_read : (a c d e : Name) (xs ys : List ℤ) (z w : Option ℤ) (r q : List ℕ) → IsLine (array a d xs z) → IsLine (array c e ys w) →
    array_line a d xs z ++ r ≡ array_line c e ys w ++ q → (array a d xs z ≡ array c e ys w) × (r ≡ q)
unfolding array_rest implicit_rest
array_read a c d e xs ys z w r q h k f =
    let name = named_read (codes "array ") a c (array_rest d xs z) (array_rest e ys w) r q (name_parts a h.0) (name_parts c k.0) f in
    let over = named_read (codes "over ") d e (integers_text xs ++ implicit_rest z) (integers_text ys ++ implicit_rest w) r q (name_parts d h.1)
    (name_parts e k.1) name.1 in
    let elements = part_read Any AreWithin integers_text integers_read xs ys (implicit_rest z) (implicit_rest w) r q h.2 k.2 tt tt over.1 in
    let implicit = implicit_read z w r q h.3 k.3 elements.1 in
    let one = name.0 in let two = over.0 in let three = elements.0 in let four = implicit.0 in
    let same : array a d xs z ≡ array c e ys w = cc in
    (same, implicit.1)

-- ---- a line, and all of them

pub line_read : IsRead Any IsLine line_text
line_read (rectangular d rs m) (rectangular e us n) r q h k a b f = rectangular_read d e rs us m n r q h k f
line_read (rectangular d rs m) (sparse e o js) r q h k a b f = other_first 114 115 _ _ refl f
line_read (rectangular d rs m) (associative e u js) r q h k a b f = other_first 114 97 _ _ refl f
line_read (rectangular d rs m) (array c e ys w) r q h k a b f = other_first 114 97 _ _ refl f
line_read (sparse d p is) (rectangular e us n) r q h k a b f = other_first 115 114 _ _ refl f
line_read (sparse d p is) (sparse e o js) r q h k a b f = sparse_read d e p o is js r q h k f
line_read (sparse d p is) (associative e u js) r q h k a b f = other_first 115 97 _ _ refl f
line_read (sparse d p is) (array c e ys w) r q h k a b f = other_first 115 97 _ _ refl f
line_read (associative d t is) (rectangular e us n) r q h k a b f = other_first 97 114 _ _ refl f
line_read (associative d t is) (sparse e o js) r q h k a b f = other_first 97 115 _ _ refl f
line_read (associative d t is) (associative e u js) r q h k a b f = associative_read d e t u is js r q h k f
line_read (associative d t is) (array c e ys w) r q h k a b f = other_first 115 114 _ _ refl (append_cancel_left (codes "a") _ _ f)
line_read (array a d xs z) (rectangular e us n) r q h k i j f = other_first 97 114 _ _ refl f
line_read (array a d xs z) (sparse e o js) r q h k i j f = other_first 97 115 _ _ refl f
line_read (array a d xs z) (associative e u js) r q h k i j f = other_first 114 115 _ _ refl (append_cancel_left (codes "a") _ _ f)
line_read (array a d xs z) (array c e ys w) r q h k i j f = array_read a c d e xs ys z w r q h k f

not_end : {X : Type 0} (l : Line) (r : List ℕ) → line_text l ++ r ≡ codes "end\n" → X
not_end (rectangular d rs m) r f = other_first 114 101 _ _ refl f
not_end (sparse d p is) r f = other_first 115 101 _ _ refl f
not_end (associative d t is) r f = other_first 97 101 _ _ refl f
not_end (array a d xs z) r f = other_first 97 101 _ _ refl f

-- the lines of a text up to the last one are known from it
pub lines_read : (ls ms : List Line) → Each IsLine ls → Each IsLine ms → lines_text ls ≡ lines_text ms → ls ≡ ms
lines_read [] [] h k f = refl
lines_read [] (m ∷ ms) h k f = not_end m (lines_text ms) (sym (append_assoc (line_text m) (flat_map line_text ms) (codes "end\n")) ∙ sym f)
lines_read (l ∷ ls) [] h k f = not_end l (lines_text ls) (sym (append_assoc (line_text l) (flat_map line_text ls) (codes "end\n")) ∙ f)
lines_read (l ∷ ls) (m ∷ ms) h k f =
    let one = line_read l m (lines_text ls) (lines_text ms) h.0 k.0 tt tt
    (sym (append_assoc (line_text l) (flat_map line_text ls) (codes "end\n")) ∙ f ∙ append_assoc (line_text m) (flat_map line_text ms) (codes "end\n")) in
    let rest = lines_read ls ms h.1 k.1 one.1 in
    let first = one.0 in
    cc

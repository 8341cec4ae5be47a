-- The canonical object of a request is that request.
use Rattle.std.proofs.Common.{◌≡◌, ◌∙◌, ◌^◌, ℕ, ℤ, pos, negsuc, List, [], ◌∷◌, map, codes, length, Option, Some, None, inl, inr, nat_eq, refl, sym, ap, subst}
use Rattle.std.proofs.Common.{append-nil, if◌then◌else◌, arith, lt-ltb}
use Rattle.std.proofs.lemmas.List.Elements.{recursion_from_All}
use Rattle.serde_json.specs.Data.{Data, null, unsigned, string, no_items}
use Rattle.serde_json.specs.Find.{get_member, of_integer}
use Rattle.serde_json.specs.View.{items_of}
use Rattle.wb_range.specs.Canonical.{IsRange}
use Rattle.wb_rect.specs.Product.{IsRectangle}
use Rattle.wb_dist.specs.Maps.{LayoutMap, whole, block, cyclic, block_cyclic}
use Rattle.wb_cells.specs.Layouts.{IsLayout, IsMapping as IsMappingOf}
use Rattle.wb_cells.specs.declared.values.index.Index.{Index}
use Rattle.wb_cells.specs.declared.values.index.Index.TheVariants.{Point, Text}
use Rattle.wb_literals.specs.Integer.{IsWithin}
use Rattle.wb_literals.specs.Set.{Items as Listed, nothing, set_at, set_literal_of}
use Rattle.wb_literals.specs.declared.mapping.MappingLiteral.TheVariants.{Whole}
use Rattle.wb_literals.proofs.SetGrammar.{set_exact}
use Rattle.wb_reshape.specs.Sources.{ascending}
use Rattle.wb_reshape.specs.declared.operand.Operand.{Operand}
use Rattle.wb_reshape.specs.declared.operand.Operand.TheVariants.{Rectangle, Items, Named}
use Rattle.wb_text.specs.Literals.{rectangle_text, set_text, mapping_text}
use Rattle.wb_text.proofs.MappingWritten.{mapping_written}
use Rattle.wb_text.proofs.Readable.{Each}
use Rattle.wb_text.proofs.ReadIndices.{AreWithin}
use Rattle.wb_text.proofs.Parsed.Back.Mappings.{literal_of_mapping, mapping_spelled, mapping_back}
use Rattle.wb_text.proofs.Parsed.Back.Ranges.{literal_of_all, rectangle_spelled, domain_back, short}
use Rattle.wb_text.proofs.Parsed.Back.Sets as sets
use Rattle.wb_requests.specs.Encoding.Values.{integer_data, point_data, index_data}
use Rattle.wb_requests.specs.declared.requests.request.Request.{Request}
use Rattle.wb_requests.specs.Wire.Table.{Meaning, word, name, integer, number, index, given, mapping, optional_mapping, book, numbers}
use Rattle.wb_requests.specs.Wire.Table.{some_set, some_numbers, note, edits, Fields, command_table, table}
use Rattle.wb_edit.specs.declared.command.Command.{Command}
use Rattle.wb_requests.specs.Wire.Spelled.{IsInteger, AreIntegers, IsIndex, IsOperand, IsMapping, SpellsBy, SaysBy, without, HasFieldsBy, IsCommand, AreCommands, IsEdits, IsRequest}
use Rattle.wb_requests.specs.Encoding.Encoded.{data_by, members_by, command_data, commands_data}
use Rattle.wb_requests.specs.Wire.Encoded.{given_text, members_of, request_data}
use Rattle.wb_requests.specs.Wire.Proper.{AllWithin, ArePoints, AreTexts, AreAlike, IsProperIndex, IsProperOperand, IsProperBy, AreProperBy, AreProperCommands, AreProperEdits, IsProperRequest}
use Rattle.wb_requests.proofs.OnTheWire.Members.{found_by, same_key}

-- ---- numbers and indices

integer_spelled : (z : ℤ) → IsWithin z → IsInteger (integer_data z) z
integer_spelled (pos n) h = (unsigned n, refl, rw (lt-ltb n (2 ^ 63) h) refl)
integer_spelled (negsuc n) h = (of_integer (negsuc n), refl, refl)

integers_spelled : (zs : List ℤ) → AllWithin zs → AreIntegers (items_of (map integer_data zs)) zs
integers_spelled [] h = tt
integers_spelled (z ∷ zs) h = (integer_spelled z h.0, integers_spelled zs h.1)

index_spelled : (i : Index) → IsProperIndex i → IsIndex (index_data i) i
unfolding point_data
index_spelled (Point []) (low, high, h) = absurd (omega (arith, low))
index_spelled (Point (i ∷ [])) (low, high, h) = integer_spelled i h.0
index_spelled (Point (i ∷ j ∷ [])) (low, high, h) = (integer_data i, integer_data j, refl, integer_spelled i h.0, integer_spelled j h.1.0)
index_spelled (Point (i ∷ j ∷ k ∷ [])) (low, high, h) =
    (integer_data i, integer_data j, integer_data k, refl, integer_spelled i h.0, integer_spelled j h.1.0, integer_spelled k h.1.1.0)
index_spelled (Point (i ∷ j ∷ k ∷ l ∷ is)) (low, high, h) = absurd (omega (arith, high))
index_spelled (Text t) h = (refl, h)

-- ---- literals

rectangle_given : (ranges : List (List ℤ)) → IsRectangle (length ranges) ranges → IsOperand (string (rectangle_text ranges)) (Rectangle ranges)
rectangle_given ranges h =
    let few = short (length ranges) ranges h in let all = recursion_from_All IsRange ranges h.kept in
    (rectangle_text ranges, literal_of_all ranges, refl, rectangle_spelled ranges few all, domain_back ranges few all h.size)

each_within : (is : List ℤ) → AllWithin is → AreWithin is
each_within [] h = tt
each_within (i ∷ is) h = (h.0, each_within is h.1)

each_point : (rank : ℕ) (is : List Index) → ArePoints rank is → Each (sets.IsOfRank rank) is
each_point rank [] h = tt
each_point rank (Point js ∷ is) h = ((h.0.0, each_within js h.0.1), each_point rank is h.1)
each_point rank (Text t ∷ is) h = absurd h.0

each_text : (is : List Index) → AreTexts is → Each sets.IsOfText is
each_text [] h = tt
each_text (Point js ∷ is) h = absurd h.0
each_text (Text t ∷ is) h = (h.0, each_text is h.1)

alike : (is : List Index) → AreAlike is → sets.AreAlike is
alike is (inl h) = sets.points h.0 h.1 h.2 (each_point h.0 is h.3)
alike is (inr h) = sets.labels (each_text is h)

set_given : (is : List Index) → AreAlike is → ascending is ≡ is → IsOperand (string (set_text is)) (Items is)
set_given is h asc =
    let b = sets.set_back is [] (alike is h) in
    let whole_is : set_literal_of (set_text is) ≡ Some b.items = ap set_of_at (sym (ap set_at (append-nil (set_text is))) ∙ b.read) in
    (set_text is, b.items, refl, (set_exact (set_text is) b.items).0 whole_is, ap ascending b.lists ∙ asc)
  where
    set_of_at : Option (Listed × List ℕ) → Option Listed
    set_of_at None = None
    set_of_at (Some x) = if nat_eq (length x.1) 0 then Some x.0 else None

of_rank : (rank : ℕ) (m : LayoutMap) → IsMappingOf rank m → IsMapping (string (mapping_text m)) m
of_rank rank m h = (mapping_text m, literal_of_mapping m, refl, mapping_spelled rank m h (mapping_written rank m h), mapping_back rank m h)

mapping_given : (m : LayoutMap) → IsLayout m → IsMapping (string (mapping_text m)) m
mapping_given whole h = (mapping_text whole, Whole, refl, refl, refl)
mapping_given (block m) h = of_rank (length m.grid) (block m) h
mapping_given (cyclic m) h = of_rank (length m.grid) (cyclic m) h
mapping_given (block_cyclic m) h = of_rank (length m.grid) (block_cyclic m) h

given_spelled : (g : Operand) → IsProperOperand g → IsOperand (string (given_text g)) g
given_spelled (Rectangle ranges) h = rectangle_given ranges h
given_spelled (Items is) h = set_given is h.0 h.1
given_spelled (Named n) h = (refl, h)

-- ---- every member, and all of them, by what spells commands

module _ (P : List Command → Type 0) (E : Data → List Command → Type 0) (several : List Command → Data) (given_several : (cs : List Command) → P cs → E (several cs) cs) where
  spelled : (x : Meaning) → IsProperBy P x → SpellsBy E (data_by several x) x
  spelled (word w) h = refl
  spelled (name n) h = (refl, h)
  spelled (integer z) h = integer_spelled z h
  spelled (number k) h = (unsigned k, refl, refl)
  spelled (index i) h = index_spelled i h
  spelled (given g) h = given_spelled g h
  spelled (mapping m) h = mapping_given m h
  spelled (optional_mapping m) h = mapping_given m h
  spelled (book text) h = (refl, h)
  spelled (numbers on vs) h = ((items_of (map integer_data vs), refl, integers_spelled vs h.0), h.1)
  spelled some_set h = (codes "{}", nothing, refl, ([], tt, refl))
  spelled some_numbers h = ([], (no_items, refl, tt))
  spelled (note n) h = (refl, h)
  spelled (edits cs) h = given_several cs h

  has_members : (fs : Fields) → AreProperBy P fs → HasFieldsBy E (members_by several fs) fs
  has_members [] h = refl
  has_members (f ∷ fs) h =
      let k = same_key f.0 in
      let found : get_member f.0 (members_by several (f ∷ fs)) ≡ Some (data_by several f.1) =
      found_by f.0 f.0 (data_by several f.1) (members_by several fs) ∙ rw k refl in
      let rest : without f.0 (members_by several (f ∷ fs)) ≡ members_by several fs = rw k refl in
      (subst (λ o. SaysBy E o f.1) (sym found) (spelled f.1 h.0), subst (λ ms. HasFieldsBy E ms fs) (sym rest) (has_members fs h.1))

command_spelled : (c : Command) → AreProperBy (λ cs. ⊥) (command_table c) → IsCommand (command_data c) c
command_spelled c h =
    (members_by (λ cs. null) (command_table c), refl, has_members (λ cs. ⊥) (λ v cs. ⊥) (λ cs. null) (λ cs k. k) (command_table c) h)

commands_spelled : (cs : List Command) → AreProperCommands cs → AreCommands (items_of (map command_data cs)) cs
commands_spelled [] h = tt
commands_spelled (c ∷ cs) h = (command_spelled c h.0, commands_spelled cs h.1)

edits_spelled : (cs : List Command) → AreProperEdits cs → IsEdits (commands_data cs) cs
edits_spelled cs h = (items_of (map command_data cs), refl, commands_spelled cs h.0, h.1)

pub encoded : (r : Request) → IsProperRequest r → IsRequest (request_data r) r
encoded r h = (members_of (table r), refl, has_members AreProperEdits IsEdits commands_data edits_spelled (table r) h)

-- What is written straight of a piece is the compact text of its value.
use Rattle.std.proofs.Common.{◌≡◌, ℕ, ℤ, pos, negsuc, true, List, [], ◌∷◌, ◌++◌, map, codes, append_assoc, refl, ap, ◌∙◌}
use Rattle.std.specs.Fmt.{signed_decimal}
use Rattle.std.specs.List.{flat_map}
use Rattle.serde_json.proofs.OnLiterals.{serde_json_on_literals}
use Rattle.serde_json.specs.Data.{Data, array}
use Rattle.serde_json.specs.View.{items_of}
use Rattle.serde_json.specs.Written.{compact_text, items_text}
use Rattle.wb_cells.specs.declared.values.index.Index.{Index}
use Rattle.wb_cells.specs.declared.values.index.Index.TheVariants.{Point, Text}
use Rattle.wb_requests.specs.Encoding.Values.{integer_data, point_data, index_data}
use Rattle.wb_machine.specs.Pieces.{pair_data, piece_data, further, bracketed, point_text, index_text, pair_text, piece_text}

integer_is : (z : ℤ) → signed_decimal z ≡ compact_text (integer_data z)
integer_is (pos n) = refl
integer_is (negsuc n) = refl

-- items whose texts are those of their values
module _ {X : Type 0} (seen : X → Data) (text : X → List ℕ) (same : (x : X) → text x ≡ compact_text (seen x)) where
  rest_is : (xs : List X) → flat_map (further text) xs ++ codes "]" ≡ items_text true (items_of (map seen xs))
  rest_is [] = refl
  rest_is (x ∷ xs) =
      append_assoc (codes "," ++ text x) (flat_map (further text) xs) (codes "]")
      ∙ ap (λ t. (44 ∷ text x) ++ t) (rest_is xs)
      ∙ ap (λ t. (44 ∷ t) ++ items_text true (items_of (map seen xs))) (same x)

  pub items_are : (xs : List X) → bracketed text xs ≡ compact_text (array (items_of (map seen xs)))
  items_are [] = refl
  items_are (x ∷ xs) =
      ap (λ t. 91 ∷ t) (append_assoc (text x) (flat_map (further text) xs) (codes "]"))
      ∙ ap (λ t. 91 ∷ (text x ++ t)) (rest_is xs)
      ∙ ap (λ t. 91 ∷ (t ++ items_text true (items_of (map seen xs)))) (same x)

point_is : (is : List ℤ) → point_text is ≡ compact_text (point_data is)
unfolding point_text point_data
point_is [] = refl
point_is (i ∷ []) = integer_is i
point_is (i ∷ (j ∷ is)) = items_are integer_data signed_decimal integer_is (i ∷ (j ∷ is))

index_is : (i : Index) → index_text i ≡ compact_text (index_data i)
index_is (Point is) = point_is is
index_is (Text t) = refl

pair_is : (x : Index × ℤ) → pair_text x ≡ compact_text (pair_data x)
pair_is x =
    ap (λ t. 91 ∷ (t ++ 44 ∷ (signed_decimal x.1 ++ 93 ∷ []))) (index_is x.0)
    ∙ ap (λ t. 91 ∷ (compact_text (index_data x.0) ++ 44 ∷ (t ++ 93 ∷ []))) (integer_is x.1)

pub piece_is : (xs : List (Index × ℤ)) → piece_text xs ≡ compact_text (piece_data xs)
unfolding serde_json_on_literals
piece_is xs = ap (λ t. codes "{\"piece\":" ++ (t ++ codes "}")) (items_are pair_data pair_text pair_is xs)

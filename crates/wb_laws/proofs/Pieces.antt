-- The pieces of an array of a well-formed workbook are the array.
use Rattle.std.proofs.Common.{◌≡◌, ◌<◌, nat_lt, ℕ, ℤ, Bool, true, false, List, Option, Some, None, Result, Ok, Err, option_map, refl, sym, ap, subst, ◌∙◌, arith}
use Rattle.std.proofs.lemmas.Bool.{eq-eqb, eqb-true, ltb-true}
use Rattle.std.proofs.lemmas.Map.Views.{Contains-from_lookup}
use Rattle.std.specs.Prelude.{IsOk, option_and_then, unwrap_or, if◌then◌else◌}
use Rattle.std.specs.FinMap.{get}
use Rattle.std.specs.List.{AllByRecursion, Contains}
use Rattle.selective_undo.proofs.Log.{get-map}
use Rattle.wb_range.proofs.Members.{Contains-filter}
use Rattle.wb_range.specs.Domain.{IsListedOnce}
use Rattle.wb_cells.specs.declared.cells.cell.Cell.TheVariants.{Object, Element}
use Rattle.wb_cells.specs.declared.cells.kind.Kind.{Kind}
use Rattle.wb_cells.specs.declared.cells.value.Value.{Value}
use Rattle.wb_cells.specs.declared.cells.value.Value.TheVariants.{Number}
use Rattle.wb_cells.specs.declared.values.index.Index.{Index}
use Rattle.wb_cells.specs.Cells.{Name, Cells, is_same_index}
use Rattle.wb_cells.specs.Locales.{locale_by}
use Rattle.wb_cells.specs.Readers.{elements}
use Rattle.wb_cells.specs.WellFormed.{IsWellFormed, array_at}
use Rattle.wb_reshape.proofs.Sorted.{of_entries}
use Rattle.wb_reshape.proofs.States.{array_in-is, same_index}
use Rattle.wb_reshape.proofs.Without.{IsListedOnce-filter}
use Rattle.wb_edit.specs.Looks.{array_kind}
use Rattle.wb_cells.specs.declared.refusal.WhyRefused as why
use Rattle.wb_cells.specs.declared.refusal.WhyRefused.TheVariants.{OutOfDomain}
use Rattle.wb_edit.proofs.Elements.{number_of, index_order, elements_ascend, find_element, elements_once}
use Rattle.wb_edit.proofs.Kept.Resized.{holds_at}
use Rattle.wb_history.specs.Pieces.{mapped_at, locales_of, lies_on, piece_on, piece_by, piece_from, piece_of}
use Rattle.wb_laws.specs.Pieces.{IsElementOf, IsInPiece, AreArray, PiecesLaw}
use Rattle.wb_laws.proofs.Lying.{lies_below}
use Rattle.wb_laws.proofs.Reallocated.{element_is}

-- ---- the elements, as a list

number_is : (v : Option Value) (x : ℤ) → option_and_then number_of v ≡ Some x → v ≡ Some (Number x)
number_is (Some (Number y)) x e = let same : y ≡ x = cc in ap (λ z. Some (Number z)) same
number_is None x e = cc
number_is _ x e = cc

module _ (s : Cells) (a : Name) where
  all_elements : AllByRecursion (λ x. IsElementOf s a x) (elements s a)
  all_elements = of_entries index_order (λ i x. get s (Element a i) ≡ Some (Number x)) (elements s a) (elements_ascend s a)
      (λ i x there. number_is (get s (Element a i)) x (sym (find_element s a i) ∙ there))

  is_element : (x : Index × ℤ) → Contains (elements s a) x → IsElementOf s a x
  is_element x there = holds_at (λ y. IsElementOf s a y) (elements s a) x all_elements there

  is_listed : (x : Index × ℤ) → IsElementOf s a x → Contains (elements s a) x
  is_listed x is = Contains-from_lookup {eq = is_same_index} same_index x.0 x.1 (elements s a)
      (element_is s a x.0 ∙ ap (option_and_then number_of) is)

  listed_once : IsListedOnce (elements s a)
  listed_once p q x e f = elements_once s a p q x.0
      (get-map (λ (y : Index × ℤ). y.0) (elements s a) p ∙ ap (option_map (λ (y : Index × ℤ). y.0)) e)
      (get-map (λ (y : Index × ℤ). y.0) (elements s a) q ∙ ap (option_map (λ (y : Index × ℤ). y.0)) f)

-- ---- a piece

in_order : (m n : ℕ) → m < n → nat_lt m n ≡ true
in_order m n low = grind (arith, low)

given_below : (b : Bool) (xs : List (Index × ℤ)) → IsOk {E = why.WhyRefused} (if b then Ok xs else Err OutOfDomain) → b ≡ true
given_below true xs ok = refl
given_below false xs ok = absurd (cc)

given_is : (b : Bool) (xs ys : List (Index × ℤ)) → ◌≡◌ {A = Result (List (Index × ℤ)) why.WhyRefused} (if b then Ok xs else Err OutOfDomain) (Ok ys) →
    (b ≡ true) × (xs ≡ ys)
given_is true xs ys e = (refl, cc)
given_is false xs ys e = cc

module _ (s : Cells) (a d : Name) (kind : Kind) (h : IsWellFormed s) (over : array_at s a ≡ Some (d, kind)) where
  abbrev e : Name
  e = mapped_at s d

  -- the locale of an element
  abbrev home : Index × ℤ → ℕ
  home x = unwrap_or (locale_by s e x.0) 0

  piece_is : (l : ℕ) → piece_of s a l ≡ piece_by s a e l
  piece_is l = ap (λ v. piece_from s a l (array_kind v)) (array_in-is (get s (Object a)) (d, kind) over)

  -- a piece has the elements whose locale it is
  piece_has : (l : ℕ) (x : Index × ℤ) → IsInPiece s a l x → Contains (elements s a) x × (home x ≡ l)
  piece_has l x in_it =
      let given = given_is (nat_lt l (locales_of s e)) (piece_on s a e l) in_it.0 (sym (piece_is l) ∙ in_it.1) in
      let there : Contains (piece_on s a e l) x = subst (λ (xs : List (Index × ℤ)). Contains xs x) (sym given.1) in_it.2 in
      let both = (Contains-filter (lies_on s e l) (elements s a) x).0 there in
      (both.0, eqb-true (home x) l both.1)

  at_home : (x : Index × ℤ) → Contains (elements s a) x → IsInPiece s a (home x) x
  at_home x there =
      let below : nat_lt (home x) (locales_of s e) ≡ true = in_order (home x) (locales_of s e) (lies_below s e x.0 h) in (
        piece_on s a e (home x),
        piece_is (home x) ∙ ap (λ b. if b then Ok (piece_on s a e (home x)) else Err OutOfDomain) below,
        (Contains-filter (lies_on s e (home x)) (elements s a) x).1 (there, eq-eqb (home x) (home x) refl),
      )

  are_array : AreArray s a d
  are_array = record {
    there = λ l. (
      λ ok. ltb-true l (locales_of s e) (given_below (nat_lt l (locales_of s e)) (piece_on s a e l) (subst (λ r. IsOk r) (piece_is l) ok)),
      λ low. subst (λ r. IsOk r) (sym (piece_is l ∙ ap (λ b. if b then Ok (piece_on s a e l) else Err OutOfDomain) (in_order l (locales_of s e) low))) refl,
    );
    each = λ x is. (home x, at_home x (is_listed s a x is), λ m in_it. sym (piece_has m x in_it).1);
    only = λ l x in_it. is_element s a x (piece_has l x in_it).0;
    once = λ l xs is.
        let given = given_is (nat_lt l (locales_of s e)) (piece_on s a e l) xs (sym (piece_is l) ∙ is) in
        subst (λ (ys : List (Index × ℤ)). IsListedOnce ys) given.1 (IsListedOnce-filter (lies_on s e l) (elements s a) (listed_once s a));
  }

pub pieces_law : PiecesLaw
pieces_law s a d kind h over = are_array s a d kind h over

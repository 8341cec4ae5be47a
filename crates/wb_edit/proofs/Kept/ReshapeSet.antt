-- New indices of a sparse or associative domain, by their source, keep a workbook well formed.
use Rattle.std.proofs.Common.{◌≡◌, Bool, true, false, not, ◌&&◌, ◌||◌, List, [], ◌∷◌, Some, cond, refl, sym, ap, subst, ◌∙◌}
use Rattle.std.proofs.lemmas.List.Elements.{All-contains}
use Rattle.std.proofs.lemmas.List.Folds.{list_any-append}
use Rattle.std.proofs.lemmas.Map.Views.{Contains-from_any, list_any-from_Contains}
use Rattle.std.specs.Cmp.{eq_by_cmp_equiv}
use Rattle.std.specs.FinMap.{get}
use Rattle.std.specs.List.{All, AllByRecursion, Contains, filter, filter_map, list_all}
use Rattle.wb_cells.specs.declared.cells.cell.Cell.TheVariants.{Object, Member}
use Rattle.wb_cells.specs.declared.cells.kind.DomainKind.{DomainKind}
use Rattle.wb_cells.specs.declared.cells.kind.DomainKind.TheVariants.{Rectangular, Sparse, Associative}
use Rattle.wb_cells.specs.declared.cells.kind.KeyType.{KeyType}
use Rattle.wb_cells.specs.declared.cells.kind.KeyType.TheVariants.{Int, Text}
use Rattle.wb_cells.specs.declared.cells.kind.Kind.TheVariants.{Associative as over_associative}
use Rattle.wb_cells.specs.declared.cells.pattern.Pattern.TheVariants.{Members}
use Rattle.wb_cells.specs.declared.cells.value.Value.TheVariants.{Present}
use Rattle.wb_cells.specs.declared.values.index.Index.{Index}
use Rattle.wb_cells.specs.Cells.{Name, Cells, is_same_index}
use Rattle.wb_cells.specs.Kinds.{kind_of, is_key, IsIndex}
use Rattle.wb_cells.specs.Readers.{seen}
use Rattle.wb_cells.specs.WellFormed.{IsWellFormed, IsMember, has, present_if, domain_in, domain_at}
use Rattle.wb_reshape.specs.declared.operand.Operand.{Operand}
use Rattle.wb_reshape.specs.declared.operand.Operand.TheVariants.{Rectangle, Items, Named}
use Rattle.wb_reshape.specs.declared.new_indices.SetOperation.{SetOperation}
use Rattle.wb_reshape.specs.declared.new_indices.SetOperation.TheVariants.{Union, Intersection, Difference, SymmetricDifference}
use Rattle.wb_reshape.specs.Laws.{HasMembers}
use Rattle.wb_reshape.specs.Resized.{without}
use Rattle.wb_reshape.specs.Sources.{combined}
use Rattle.wb_reshape.proofs.States.{same_index}
use Rattle.wb_reshape.proofs.Without.{has-without}
use Rattle.wb_edit.specs.Trees.{Tree, judged}
use Rattle.wb_edit.specs.Commands.Reshape.{with_indices, to_set, combine_set}
use Rattle.wb_edit.specs.Sources.{is_same_type, is_alike, alike, all_fit, gives_set, indices_given}
use Rattle.wb_edit.specs.Looks.{domain_kind, member_in, members}
use Rattle.wb_edit.specs.ValidSources.{IsOperand}
use Rattle.wb_edit.proofs.Elements.{index_order}
use Rattle.wb_edit.proofs.Members.{members_found}
use Rattle.wb_edit.proofs.Kept.Fill.{first_and}
use Rattle.wb_edit.proofs.Kept.Resized.{IsKeyOf, holds_at, resized_kept}
use Rattle.wb_edit.proofs.Kept.Steps.{Keeps, keeps_read, keeps_judged, domain_is, passed_is}

-- ---- the indices that come

both_are : (a b : Bool) → (a && not b) ≡ true → (a ≡ true) × (b ≡ false)
both_are true true e = cc
both_are true false e = (refl, refl)
both_are false b e = cc

-- they are among the new ones, and not among the old ones
comes_new : (old new : List Index) (i : Index) → Contains (without old new) i → (has new i ≡ true) × (has old i ≡ false)
comes_new old new i comes =
    both_are (has new i) (has old i) (sym (has-without old new i) ∙ list_any-from_Contains (eq_by_cmp_equiv index_order.total) i (without old new) comes)

with_indices_kept : (s : Cells) (d : Name) (kind : DomainKind) (old new : List Index) → IsWellFormed s → domain_at s d ≡ Some kind → HasMembers kind →
    ((i : Index) → has new i ≡ true → has old i ≡ false → IsKeyOf kind i) → Keeps (with_indices d kind old new) s
with_indices_kept s d kind old new h there set keys =
    resized_kept s d kind new (without new old) (without old new) h there set (λ i comes.
    let is_new = comes_new old new i comes in
    (Contains-from_any same_index i new is_new.0, keys i is_new.0 is_new.1))

kept_first : (i j : Index) (keep : Bool) (xs ys : List Index) → (has ys i ≡ true → has xs i ≡ true) → has (cond keep (j ∷ ys) ys) i ≡ true →
    has (j ∷ xs) i ≡ true
kept_first i j true xs ys rest e = elim (is_same_index i j) as (λ b. (b || has ys i) ≡ true → (b || has xs i) ≡ true) [
  | true ↦ λ e. refl
  | false ↦ rest
] e
kept_first i j false xs ys rest e = elim (is_same_index i j) as (λ b. (b || has xs i) ≡ true) [
  | true ↦ refl
  | false ↦ rest e
]

-- an index that is kept was there
kept_was_there : (test : Index → Bool) (xs : List Index) (i : Index) → has (filter test xs) i ≡ true → has xs i ≡ true
kept_was_there test [] i e = e
kept_was_there test (x ∷ xs) i e = kept_first i x (test x) xs (filter test xs) (kept_was_there test xs i) e

in_second : (a b g : Bool) → (a ≡ true → ⊥) → (b ≡ true → g ≡ true) → (a || b) ≡ true → g ≡ true
in_second true b g not_a from e = absurd (not_a refl)
in_second false b g not_a from e = from e

-- an index of what two sets make that is not in the old one is in the given one
was_given : (how : SetOperation) (given old : List Index) (i : Index) → has (combined how given old) i ≡ true → has old i ≡ false → has given i ≡ true
was_given Union given old i e other =
    in_second (has old i) (has (without old given) i) (has given i) (λ there. let no : true ≡ false = sym there ∙ other in cc)
    (kept_was_there (λ j. not (has old j)) given i) (
    sym (list_any-append (is_same_index i) old (without old given)) ∙ e)
was_given Intersection given old i e other = let no : true ≡ false = sym (kept_was_there (has given) old i e) ∙ other in cc
was_given Difference given old i e other = let no : true ≡ false = sym (kept_was_there (λ j. not (has given j)) old i e) ∙ other in cc
was_given SymmetricDifference given old i e other =
    in_second (has (without given old) i) (has (without old given) i) (has given i)
    (λ there. let no : true ≡ false = sym (kept_was_there (λ j. not (has given j)) old i there) ∙ other in cc)
    (kept_was_there (λ j. not (has old j)) given i) (
    sym (list_any-append (is_same_index i) (without given old) (without old given)) ∙ e)

-- ---- what is given

-- what the test on it found
abbrev IsSetFor : Cells → DomainKind → Operand → Type 0
IsSetFor s kind (Rectangle rs) = ⊥
IsSetFor s kind (Items is) = list_all (is_key (kind_of kind)) is ≡ true
IsSetFor s kind (Named e) = (other : DomainKind) × (domain_at s e ≡ Some other) × (is_alike (kind_of kind) (kind_of other) ≡ true)

each_passes : (test : Index → Bool) (is : List Index) → list_all test is ≡ true → AllByRecursion (λ i. test i ≡ true) is
each_passes test [] e = tt
each_passes test (i ∷ is) e = let both = first_and (test i) (list_all test is) e in (both.0, each_passes test is both.1)

same_type : (type other : KeyType) → is_same_type type other ≡ true → other ≡ type
same_type Int Int e = refl
same_type Int Text e = cc
same_type Text Int e = cc
same_type Text Text e = refl

alike_associative : (type : KeyType) (other : DomainKind) → is_alike (over_associative type) (kind_of other) ≡ true → other ≡ Associative type
alike_associative type (Rectangular rank) e = cc
alike_associative type (Sparse parent rank) e = cc
alike_associative type (Associative t) e = ap Associative (same_type type t e)

listed_key : (kind : DomainKind) (is : List Index) (i : Index) → AllByRecursion (λ j. is_key (kind_of kind) j ≡ true) is → All IsIndex is → Contains is i →
    IsKeyOf kind i
listed_key (Rectangular rank) is i fitting valid there = tt
listed_key (Sparse parent rank) is i fitting valid there = tt
listed_key (Associative type) is i fitting valid there = (
  holds_at (λ j. is_key (over_associative type) j ≡ true) is i fitting there,
  All-contains IsIndex is i valid there,
)

module _ (s : Cells) (h : IsWellFormed s) where
  -- a member of a domain like one of a kind
  member_key : (kind other : DomainKind) (e : Name) (i : Index) → domain_at s e ≡ Some other → is_alike (kind_of kind) (kind_of other) ≡ true →
      has (filter_map member_in (seen s (Members e))) i ≡ true → IsKeyOf kind i
  member_key (Rectangular rank) other e i over same there = tt
  member_key (Sparse parent rank) other e i over same there = tt
  member_key (Associative type) other e i over same there =
      let kind : domain_at s e ≡ Some (Associative type) = over ∙ ap Some (alike_associative type other same) in
      let found : get s (Member e i) ≡ Some Present = members_found s e (domain_at s e) i (h.members e i) ∙ ap present_if there in
      let member : IsMember s (Some (Associative type)) i (Some Present) =
      subst (λ v. IsMember s (Some (Associative type)) i v) found (subst (λ k. IsMember s k i (get s (Member e i))) kind (h.members e i)) in
      member.1

  keeps_gives_set : (kind : DomainKind) (given : Operand) (next : Unit {0} → Tree) → ((x : Unit {0}) → IsSetFor s kind given → Keeps (next x) s) →
      Keeps (gives_set (kind_of kind) given next) s
  keeps_gives_set kind (Rectangle rs) next kept = h
  keeps_gives_set kind (Items is) next kept = keeps_judged s (all_fit (kind_of kind) is) next h
      (λ x ok. kept x (passed_is (list_all (is_key (kind_of kind)) is) x ok))
  keeps_gives_set kind (Named e) next kept =
      keeps_read s (Object e) (λ v. judged (domain_kind v) (λ other. judged (alike (kind_of kind) (kind_of other)) next)) (λ v is.
      keeps_judged s (domain_kind v) (λ other. judged (alike (kind_of kind) (kind_of other)) next) h (λ other found.
      keeps_judged s (alike (kind_of kind) (kind_of other)) next h (λ x ok.
      kept x (other, ap domain_in (is ∙ domain_is v other found), passed_is (is_alike (kind_of kind) (kind_of other)) x ok))))

  keeps_indices_given : (kind : DomainKind) (given : Operand) (next : List Index → Tree) → IsOperand given → IsSetFor s kind given →
      ((is : List Index) → ((i : Index) → has is i ≡ true → IsKeyOf kind i) → Keeps (next is) s) → Keeps (indices_given given next) s
  keeps_indices_given kind (Rectangle rs) next valid for kept = h
  keeps_indices_given kind (Items is) next valid for kept = kept is
      (λ i there. listed_key kind is i (each_passes (is_key (kind_of kind)) is for) valid (Contains-from_any same_index i is there))
  keeps_indices_given kind (Named e) next valid for kept = kept (filter_map member_in (seen s (Members e)))
      (λ i there. member_key kind for.0 e i for.1 for.2 there)

  -- ---- the sources

  module _ (d : Name) (kind : DomainKind) (there : domain_at s d ≡ Some kind) (set : HasMembers kind) (given : Operand) (valid : IsOperand given) where
    pub to_set_kept : Keeps (to_set d kind given) s
    to_set_kept =
        let last : List Index → Tree = λ old. indices_given given (λ new. with_indices d kind old new) in
        let old : List Index = filter_map member_in (seen s (Members d)) in
        keeps_gives_set kind given (λ x. members d last) (λ x for.
        keeps_indices_given kind given (λ new. with_indices d kind old new) valid for (λ new keys.
        with_indices_kept s d kind old new h there set (λ i is_new not_old. keys i is_new)))

    pub combine_set_kept : (how : SetOperation) → Keeps (combine_set d kind how given) s
    combine_set_kept how =
        let last : List Index → Tree = λ old. indices_given given (λ other. with_indices d kind old (combined how other old)) in
        let old : List Index = filter_map member_in (seen s (Members d)) in
        keeps_gives_set kind given (λ x. members d last) (λ x for.
        keeps_indices_given kind given (λ other. with_indices d kind old (combined how other old)) valid for (λ other keys.
        with_indices_kept s d kind old (combined how other old) h there set (λ i is_new not_old. keys i (was_given how other old i is_new not_old))))

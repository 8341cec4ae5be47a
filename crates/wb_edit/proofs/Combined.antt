-- Which indices leave a domain and which come to it, where it gets what a set operation makes of its indices and given ones.
use Rattle.std.proofs.Common.{◌≡◌, Bool, true, false, not, cond, ◌&&◌, ◌||◌, List, [], ◌∷◌, ◌++◌, refl, sym, ap, ◌∙◌}
use Rattle.std.proofs.lemmas.List.Elements.{filter-append}
use Rattle.std.proofs.lemmas.List.Kept.{IsStrictlySortedBy-filter}
use Rattle.std.specs.Cmp.{eq_by_cmp_equiv}
use Rattle.std.specs.List.{filter}
use Rattle.std.specs.List.Sorted.{IsStrictlySortedBy}
use Rattle.wb_sets.proofs.Unique.{same_members}
use Rattle.wb_cells.specs.declared.values.index.Index.{Index}
use Rattle.wb_cells.specs.Cells.{index_cmp, index_cmp-IsAntisymmetric, is_same_index}
use Rattle.wb_cells.specs.WellFormed.{has}
use Rattle.wb_reshape.specs.declared.new_indices.SetOperation.{SetOperation}
use Rattle.wb_reshape.specs.declared.new_indices.SetOperation.TheVariants.{Union, Intersection, Difference, SymmetricDifference}
use Rattle.wb_reshape.specs.Resized.{without}
use Rattle.wb_reshape.specs.Sources.{among, combined, keeps}
use Rattle.wb_reshape.proofs.Members.{index_total, Contains-has, has-Contains}
use Rattle.wb_reshape.proofs.Sources.{has-among, has-combined}
use Rattle.wb_reshape.proofs.Without.{has-without}

-- ---- filters of the elements of a list

either : (a b : Bool) → a ≡ true → (a || b) ≡ true
either true b e = refl
either false b e = cc

or_else : (a b : Bool) → b ≡ true → (a || b) ≡ true
or_else true b e = refl
or_else false b e = e

kept_first : (p q : Bool) (x : Index) (xs ys : List Index) → p ≡ q → xs ≡ ys → cond p (x ∷ xs) xs ≡ cond q (x ∷ ys) ys
kept_first p q x xs ys e f = ap (λ b. cond b (x ∷ xs) xs) e ∙ ap (λ zs. cond q (x ∷ zs) zs) f

-- tests that agree on the elements of a list leave the same of it
filter_where : (p q : Index → Bool) (xs : List Index) → ((i : Index) → has xs i ≡ true → p i ≡ q i) → filter p xs ≡ filter q xs
filter_where p q [] h = refl
filter_where p q (x ∷ xs) h =
    kept_first (p x) (q x) x (filter p xs) (filter q xs)
    (h x (either (is_same_index x x) (has xs x) ((eq_by_cmp_equiv index_total).refl x)))
    (filter_where p q xs (λ i there. h i (or_else (is_same_index i x) (has xs i) there)))

all_kept : (xs : List Index) → filter (λ i. true) xs ≡ xs
all_kept [] = refl
all_kept (x ∷ xs) = ap (λ ys. x ∷ ys) (all_kept xs)

none_kept : (xs : List Index) → filter (λ i. false) xs ≡ []
none_kept [] = refl
none_kept (x ∷ xs) = none_kept xs

-- ---- what leaves

-- whether an operation loses an index of the old ones, by whether the given ones have it
abbrev loses : SetOperation → Bool → Bool
loses Union given = false
loses Intersection given = not given
loses Difference given = given
loses SymmetricDifference given = given

not_kept : (how : SetOperation) (given old : Bool) → old ≡ true → not (keeps how given old) ≡ loses how given
not_kept Union true true e = refl
not_kept Union false true e = refl
not_kept Intersection true true e = refl
not_kept Intersection false true e = refl
not_kept Difference true true e = refl
not_kept Difference false true e = refl
not_kept SymmetricDifference true true e = refl
not_kept SymmetricDifference false true e = refl
not_kept how given false e = cc

leaves : (how : SetOperation) (given old : List Index) → without (combined how given old) old ≡ filter (λ i. loses how (has given i)) old
leaves how given old = filter_where (λ i. not (has (combined how given old) i)) (λ i. loses how (has given i)) old
    (λ i there. ap not (has-combined how given old i) ∙ not_kept how (has given i) (has old i) there)

pub leaves-union : (given old : List Index) → without (combined Union given old) old ≡ []
leaves-union given old = leaves Union given old ∙ none_kept old

pub leaves-intersection : (given old : List Index) → without (combined Intersection given old) old ≡ without given old
leaves-intersection given old = leaves Intersection given old

-- ---- the common indices of ascending lists are the same in the order of either

both : (a b : Bool) → (a && b) ≡ (b && a)
both true true = refl
both true false = refl
both false true = refl
both false false = refl

among_either : (xs ys : List Index) → IsStrictlySortedBy index_cmp xs → IsStrictlySortedBy index_cmp ys → among xs ys ≡ among ys xs
among_either xs ys s t =
    let same : (i : Index) → has (among xs ys) i ≡ has (among ys xs) i = λ i. has-among xs ys i ∙ both (has xs i) (has ys i) ∙ sym (has-among ys xs i) in
    same_members index_cmp index_total index_cmp-IsAntisymmetric (among xs ys) (among ys xs)
    (IsStrictlySortedBy-filter index_cmp (has xs) ys t) (IsStrictlySortedBy-filter index_cmp (has ys) xs s) (λ i. (
      λ m. Contains-has (among ys xs) i (sym (same i) ∙ has-Contains (among xs ys) i m),
      λ m. Contains-has (among xs ys) i (same i ∙ has-Contains (among ys xs) i m),
    ))

module _ (given old : List Index) (ascending : IsStrictlySortedBy index_cmp given) (sorted : IsStrictlySortedBy index_cmp old) where
  pub leaves-difference : without (combined Difference given old) old ≡ among old given
  leaves-difference = leaves Difference given old ∙ among_either given old ascending sorted

  pub leaves-symmetric : without (combined SymmetricDifference given old) old ≡ among old given
  leaves-symmetric = leaves SymmetricDifference given old ∙ among_either given old ascending sorted

-- ---- what comes

-- those of some of the indices of a list that are not in it are none
none_new : (old xs : List Index) → ((i : Index) → has xs i ≡ true → has old i ≡ true) → without old xs ≡ []
none_new old xs h = filter_where (λ i. not (has old i)) (λ i. false) xs (λ i there. ap not (h i there)) ∙ none_kept xs

second : (a b : Bool) → (a && b) ≡ true → b ≡ true
second true b e = e
second false b e = cc

first : (a b : Bool) → (a && b) ≡ true → a ≡ true
first true b e = refl
first false b e = cc

-- those that are not in a list stay so
all_new : (old given : List Index) → without old (without old given) ≡ without old given
all_new old given =
    filter_where (λ i. not (has old i)) (λ i. true) (without old given)
    (λ i there. second (has given i) (not (has old i)) (sym (has-without old given i) ∙ there))
    ∙ all_kept (without old given)

-- of indices of a list and of others that are not in it, the others come
others_come : (old xs given : List Index) → ((i : Index) → has xs i ≡ true → has old i ≡ true) → without old (xs ++ without old given) ≡ without old given
others_come old xs given h =
    filter-append (λ i. not (has old i)) xs (without old given)
    ∙ ap (λ ys. ys ++ without old (without old given)) (none_new old xs h)
    ∙ all_new old given

pub comes-union : (given old : List Index) → without old (combined Union given old) ≡ without old given
comes-union given old = others_come old old given (λ i there. there)

pub comes-intersection : (given old : List Index) → without old (combined Intersection given old) ≡ []
comes-intersection given old = none_new old (among given old) (λ i there. second (has given i) (has old i) (sym (has-among given old i) ∙ there))

pub comes-difference : (given old : List Index) → without old (combined Difference given old) ≡ []
comes-difference given old = none_new old (without given old) (λ i there. first (has old i) (not (has given i)) (sym (has-without given old i) ∙ there))

pub comes-symmetric : (given old : List Index) → without old (combined SymmetricDifference given old) ≡ without old given
comes-symmetric given old =
    others_come old (without given old) given (λ i there. first (has old i) (not (has given i)) (sym (has-without given old i) ∙ there))

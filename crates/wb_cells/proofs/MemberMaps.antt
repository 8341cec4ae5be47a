-- The members of the domains, when one is put in or taken out.
use Rattle.std.proofs.Common.{◌≡◌, Bool, true, false, cond, not, ◌&&◌, ◌||◌, List, [], ◌∷◌, Option, Some, None, refl, sym, ap, subst, ◌∙◌}
use Rattle.std.specs.BTreeMap.{is_at}
use Rattle.std.specs.Cmp.{eq_by_cmp_equiv}
use Rattle.std.specs.Cmp.Lexicographic.{slice_cmp, nat_list_cmp_total}
use Rattle.std.specs.List.Sorted.{IsStrictlySortedBy}
use Rattle.std.specs.Map.{lookup, set_value}
use Rattle.std.specs.Ordering.{nat_cmp}
use Rattle.wb_cells.specs.declared.values.index.Index.{Index}
use Rattle.wb_cells.specs.Cells.{Name, index_cmp, is_same_name, is_same_index}
use Rattle.wb_cells.specs.Stored.{indices_in, has_index, is_member, AscendEach}
use Rattle.wb_cells.specs.WellFormed.{has}
use Rattle.wb_cells.proofs.Parts.{same_name}

-- the domain d has the indices o afterwards, and each other domain has what it had
abbrev pub IsPut : List (Name × List Index) → List (Name × List Index) → Name → Option (List Index) → Type 0
IsPut before after d o = (e : Name) → indices_in after e ≡ cond (is_at (slice_cmp nat_cmp d) e) o (indices_in before e)

pub turned : (d e : Name) → is_at (slice_cmp nat_cmp d) e ≡ is_same_name e d
turned d e = (eq_by_cmp_equiv nat_list_cmp_total).symm d e

put_at : (before after : List (Name × List Index)) (d : Name) (o : Option (List Index)) → IsPut before after d o → (e : Name) (j : Index) →
    is_member after e j ≡ has_index (cond (is_same_name e d) o (indices_in before e)) j
put_at before after d o put e j = ap (λ p. has_index p j) (put e ∙ ap (λ b. cond b o (indices_in before e)) (turned d e))

there : (before : List (Name × List Index)) (d e : Name) (j : Index) (p : Option (List Index)) → indices_in before d ≡ p → is_same_name e d ≡ true →
    is_member before e j ≡ has_index p j
there before d e j p found same = ap (λ (n : Name). has_index (indices_in before n) j) (same_name e d same) ∙ ap (λ o. has_index o j) found

-- an index more
pub member_more : (before after : List (Name × List Index)) (d : Name) (i : Index) (p : Option (List Index)) (w : List Index) → indices_in before d ≡ p →
    IsPut before after d (Some w) → ((j : Index) → has w j ≡ is_same_index j i || has_index p j) → (e : Name) (j : Index) →
    is_member after e j ≡ (is_same_name e d && is_same_index j i) || is_member before e j
member_more before after d i p w found put more e j = put_at before after d (Some w) put e j ∙ by (is_same_name e d) refl
  where
    by : (b : Bool) → is_same_name e d ≡ b →
        has_index (cond b (Some w) (indices_in before e)) j ≡ (b && is_same_index j i) || is_member before e j
    by true same = more j ∙ ap (λ x. is_same_index j i || x) (sym (there before d e j p found same))
    by false other = refl

-- an index less
pub member_less : (before after : List (Name × List Index)) (d : Name) (i : Index) (p w : List Index) → indices_in before d ≡ Some p →
    IsPut before after d (Some w) → ((j : Index) → has w j ≡ not (is_same_index j i) && has p j) → (e : Name) (j : Index) →
    is_member after e j ≡ not (is_same_name e d && is_same_index j i) && is_member before e j
member_less before after d i p w found put less e j = put_at before after d (Some w) put e j ∙ by (is_same_name e d) refl
  where
    by : (b : Bool) → is_same_name e d ≡ b →
        has_index (cond b (Some w) (indices_in before e)) j ≡ not (b && is_same_index j i) && is_member before e j
    by true same = less j ∙ ap (λ x. not (is_same_index j i) && x) (sym (there before d e j (Some p) found same))
    by false other = refl

-- nothing to take out
pub member_none : (before : List (Name × List Index)) (d : Name) (i : Index) → indices_in before d ≡ None → (e : Name) (j : Index) →
    is_member before e j ≡ not (is_same_name e d && is_same_index j i) && is_member before e j
member_none before d i none e j = by (is_same_name e d) refl
  where
    and_false : (b : Bool) → false ≡ not b && false
    and_false true = refl
    and_false false = refl

    by : (b : Bool) → is_same_name e d ≡ b → is_member before e j ≡ not (b && is_same_index j i) && is_member before e j
    by true same =
        let never : is_member before e j ≡ false = there before d e j None none same in
        never ∙ and_false (is_same_index j i) ∙ sym (ap (λ x. not (is_same_index j i) && x) never)
    by false other = refl

-- a domain without indices may be left out
pub member_dropped : (before after : List (Name × List Index)) (d : Name) → indices_in before d ≡ Some [] → IsPut before after d None → (e : Name) (j : Index) →
    is_member after e j ≡ is_member before e j
member_dropped before after d empty put e j = put_at before after d None put e j ∙ by (is_same_name e d) refl
  where
    by : (b : Bool) → is_same_name e d ≡ b → has_index (cond b None (indices_in before e)) j ≡ is_member before e j
    by true same = sym (there before d e j (Some []) empty same)
    by false other = refl

-- ---- they ascend

some_same : {X : Type 0} (x y : X) → Some x ≡ Some y → x ≡ y
some_same x y e = cc

pub each_put : (before after : List (Name × List Index)) (d : Name) (w : List Index) → IsPut before after d (Some w) → IsStrictlySortedBy index_cmp w →
    AscendEach before → AscendEach after
each_put before after d w put sorted each = λ e is found. by e is (is_at (slice_cmp nat_cmp d) e) (sym (put e) ∙ found)
  where
    by : (e : Name) (is : List Index) (b : Bool) → cond b (Some w) (indices_in before e) ≡ Some is → IsStrictlySortedBy index_cmp is
    by e is true found = subst (λ (ks : List Index). IsStrictlySortedBy index_cmp ks) (some_same w is found) sorted
    by e is false found = each e is found

pub each_dropped : (before after : List (Name × List Index)) (d : Name) → IsPut before after d None → AscendEach before → AscendEach after
each_dropped before after d put each = λ e is found. by e is (is_at (slice_cmp nat_cmp d) e) (sym (put e) ∙ found)
  where
    by : (e : Name) (is : List Index) (b : Bool) → cond b None (indices_in before e) ≡ Some is → IsStrictlySortedBy index_cmp is
    by e is true found = cc
    by e is false found = each e is found

-- ---- what is written back unchanged

pub set_same : (test : Name → Bool) (es : List (Name × List Index)) (p : List Index) → lookup test es ≡ Some p → set_value test es p ≡ es
set_same test [] p found = refl
set_same test (e ∷ es) p found = by (test e.0) found (λ more. set_same test es p more)
  where
    by : (b : Bool) → cond b (Some e.1) (lookup test es) ≡ Some p → (lookup test es ≡ Some p → set_value test es p ≡ es) → cond b ((e.0, p) ∷ es) (e ∷ set_value test es p) ≡ e ∷ es
    by true h rest = ap (λ (is : List Index). (e.0, is) ∷ es) (sym (some_same e.1 p h))
    by false h rest = ap (λ ks. e ∷ ks) (rest h)

pub one_ascends : (i : Index) → IsStrictlySortedBy index_cmp (i ∷ [])
unfolding IsStrictlySortedBy
one_ascends i = (tt, tt)

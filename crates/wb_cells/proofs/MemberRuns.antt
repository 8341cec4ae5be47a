-- Members of one domain that are set, or cleared, together.
use Rattle.std.proofs.Common.{◌≡◌, ◌<◌, ◌+◌, ℕ, ℤ, suc, Bool, true, false, cond, ◌&&◌, ◌||◌, List, [], ◌∷◌, ◌++◌, length, map, drop, take, slice_get, Result, Ok, Err, IfOk, IfSome, drop-cons, get_or, add-one, Option, Some, None, is_some, unwrap_or, refl, sym, ap, ◌∙◌}
use Rattle.std.proofs.lemmas.List.{map-append, take_more}
use Rattle.std.proofs.lemmas.Option.{slice_get_within, get_or_from_slice_get}
use Rattle.std.specs.Cmp.{eq_by_cmp_equiv}
use Rattle.std.specs.Prelude.{option_map}
use Rattle.std.specs.BTreeMap.{BTreeMap}
use Rattle.std.specs.Cmp.Lexicographic.{slice_cmp}
use Rattle.std.specs.FinMap.{get}
use Rattle.std.specs.List.{list_all}
use Rattle.std.specs.Ordering.{eq_by_cmp, is_eq, nat_cmp, ordering_then}
use Rattle.std.specs.declared.cmp.Ordering.{Ordering}
use Rattle.std.specs.declared.cmp.Ordering.TheVariants.{Less, Equal, Greater}
use Rattle.selective_undo.specs.declared.Change.{Change}
use Rattle.selective_undo.specs.Changes.{applied, apply, changes, clears, sets}
use Rattle.selective_undo.proofs.Changes.{same_states, get-put}
use Rattle.wb_cells.specs.declared.cells.cell.Cell.{Cell}
use Rattle.wb_cells.specs.declared.cells.cell.Cell.TheVariants.{Member}
use Rattle.wb_cells.specs.declared.cells.value.Value.{Value}
use Rattle.wb_cells.specs.declared.cells.value.Value.TheVariants.{Present}
use Rattle.wb_cells.specs.declared.values.index.Index.{Index}
use Rattle.wb_cells.specs.Cells.{Name, Cells, Changes, cell_cmp, cell_order, index_cmp, is_same_name, is_same_index, state_of}
use Rattle.wb_cells.specs.declared.changes.row.IndexedRow.TheVariants.{Members}
use Rattle.wb_cells.specs.contracts.values.index.IndexOrd.TheImpl.Laws as index_laws
use Rattle.wb_cells.specs.MemberRuns.{members_to, number_if, keyed_changes, key_found, member_found}
use Rattle.wb_cells.specs.Runs.{value_of}
use Rattle.wb_cells.specs.Stored.{value_in, indices_in, has_index, is_member, whole, stored_of, IsStored}
use Rattle.wb_cells.specs.WellFormed.{has, present_if}
use Rattle.wb_cells.proofs.Shown.{get-state_of}
use Rattle.wb_cells.proofs.Parts.{is_middle, other, not_middle, high_not_middle, by_kind, value-low, value-member, value-high, same_name}

-- ---- walks over members

pub has_first : (i : Index) (is : List Index) → has (i ∷ is) i ≡ true
has_first i is = ap (λ b. b || has is i) ((eq_by_cmp_equiv index_laws.total-law).refl i)

or_true : (b : Bool) → b || true ≡ true
or_true true = refl
or_true false = refl

pub has_later : (i : Index) (is : List Index) (j : Index) → has is j ≡ true → has (i ∷ is) j ≡ true
has_later i is j h = ap (λ b. is_same_index j i || b) h ∙ or_true (is_same_index j i)

-- changes that clear what a walk has left, one change further: f makes a change of an entry
pub cleared_step : {X : Type 0} (f : X → Change Cell Value) (es : List X) (k : ℕ) (e : X) (d : Name) (i : Index) (is js : List Index) (r : Type 0) → k < length es →
    e ≡ get_or es k e → f e ≡ record { cell = Member d i; value = None } → is ≡ i ∷ js →
    (map f (drop k es) ≡ members_to d None is → r) → map f (drop (k + 1) es) ≡ members_to d None js → r
cleared_step f es k e d i is js r low at one walk before rest =
    let later : map f (drop (suc k) es) ≡ members_to d None js = rw (add-one) at rest in
    before (rw (drop-cons es k e low, ← at, one, walk) (ap (λ (ys : Changes). (let x : Change Cell Value = record { cell = Member d i; value = None } in x ∷ ys)) later))

-- ---- what members were

value_there : (b : Bool) → option_map (value_of (Members [])) (number_if b) ≡ present_if b
value_there true = refl
value_there false = refl

pub keys_told : {K : Type 0} (f : K → Index) (sets : List (Name × List Index)) (d : Name) (es : List (K × Option ℤ)) (answers : Cell → Option Value) →
    ((i : Index) → answers (Member d i) ≡ present_if (is_member sets d i)) →
    keyed_changes f (Members d) (map (member_found f sets d) es) ≡ map (λ x. record { cell = x.cell; value = answers x.cell }) (keyed_changes f (Members d) es)
keys_told f sets d [] answers is = refl
keys_told f sets d (e ∷ es) answers is =
    let i : Index = f e.0 in
    rw (keys_told f sets d es answers is, is i, ← value_there (is_member sets d i)) refl

-- the keys of a set, and those of a domain that has them
pub found_in : {K : Type 0} (f : K → Index) (sets : List (Name × List Index)) (d : Name) (is : List Index) (es : List (K × Option ℤ)) →
    indices_in sets d ≡ Some is → map (key_found f is) es ≡ map (member_found f sets d) es
found_in {K} f sets d is es there =
    ap (λ (o : Option (List Index)). map (λ (e : K × Option ℤ). (e.0, number_if (has_index o (f e.0)))) es) (sym there)

pub absent_in : {K : Type 0} (f : K → Index) (sets : List (Name × List Index)) (d : Name) (es : List (K × Option ℤ)) →
    indices_in sets d ≡ None → map (λ e. (e.0, None)) es ≡ map (member_found f sets d) es
absent_in {K} f sets d es none =
    ap (λ (o : Option (List Index)). map (λ (e : K × Option ℤ). (e.0, number_if (has_index o (f e.0)))) es) (sym none)

-- one more of a list, of which g makes an entry each
pub one_more : {X Y : Type 0} (g : X → Y) (es : List X) (k : ℕ) (e : X) → slice_get es k ≡ Some e → map g (take (k + 1) es) ≡ map g (take k es) ++ g e ∷ []
one_more {X} g es k e here =
    ap (map g) (take_more es k e (slice_get_within es k e here) ∙ ap (λ (x : X). take k es ++ x ∷ []) (get_or_from_slice_get es k e e here))
    ∙ map-append g (take k es) (e ∷ [])

pub if_told : {X E : Type 0} (P Q : X → Type 0) → ((x : X) → P x → Q x) → (r : Result (Option X) E) → IfOk r (λ o. IfSome o P) → IfOk r (λ o. IfSome o Q)
if_told P Q made (Ok (Some x)) h = made x h
if_told P Q made (Ok None) h = tt
if_told P Q made (Err e) h = tt

-- ---- changes by keys that set, or clear, all of them

pub cleared_keys : {K : Type 0} (f : K → Index) (d : Name) (ks : List K) → keyed_changes f (Members d) (map (λ k. (k, None)) ks) ≡ members_to d None (map f ks)
cleared_keys f d [] = refl
cleared_keys f d (k ∷ ks) =
    ap (λ (xs : Changes). (let x : Change Cell Value = record { cell = Member d (f k); value = None } in x ∷ xs)) (cleared_keys f d ks)

set_one : {K : Type 0} (f : K → Index) (d : Name) (k : K) (o : Option ℤ) (xs ys : Changes) → is_some o ≡ true → xs ≡ ys →
    elim (option_map (value_of (Members d)) o) [ Some v ↦ (let x : Change Cell Value = record { cell = Member d (f k); value = option_map (value_of (Members d)) o } in x ∷ xs) | None ↦ xs ] ≡
    (let x : Change Cell Value = record { cell = Member d (f k); value = Some Present } in x ∷ ys)
set_one f d k None xs ys h same = cc
set_one f d k (Some n) xs ys h same = ap (λ (zs : Changes). (let x : Change Cell Value = record { cell = Member d (f k); value = Some Present } in x ∷ zs)) same

pub set_keys : {K : Type 0} (f : K → Index) (d : Name) (es : List (K × Option ℤ)) → list_all (λ e. is_some e.1) es ≡ true →
    sets (keyed_changes f (Members d) es) ≡ members_to d (Some Present) (map (λ e. f e.0) es)
set_keys f d [] all = refl
set_keys f d (e ∷ es) all = by (is_some e.1) refl all (λ more. set_keys f d es more)
  where
    by : (b : Bool) → is_some e.1 ≡ b → b && list_all (λ e. is_some e.1) es ≡ true →
        (list_all (λ e. is_some e.1) es ≡ true → sets (keyed_changes f (Members d) es) ≡ members_to d (Some Present) (map (λ e. f e.0) es)) →
        sets (keyed_changes f (Members d) (e ∷ es)) ≡ members_to d (Some Present) (map (λ e. f e.0) (e ∷ es))
    by true h more rest = set_one f d e.0 e.1 _ _ h (rest more)
    by false h more rest = cc

-- the indices of keys that stand in entries
pub keys_of_entries : {K : Type 0} (f : K → Index) (es : List (K × Option ℤ)) → map f (map (λ e. e.0) es) ≡ map (λ e. f e.0) es
keys_of_entries f [] = refl
keys_of_entries f (e ∷ es) = ap (λ (is : List Index). f e.0 ∷ is) (keys_of_entries f es)

-- ---- what stands in a cell afterwards

either : {V : Type 0} (p q : Bool) (v w : Option V) → cond q v (cond p v w) ≡ cond (p || q) v w
either true true v w = refl
either true false v w = refl
either false q v w = refl

pub get-members_to : (d : Name) (v : Option Value) (is : List Index) (s : Cells) (c : Cell) →
    get (apply (members_to d v is) s) c ≡ cond (changes cell_cmp (members_to d v is) c) v (get s c)
get-members_to d v [] s c = refl
get-members_to d v (i ∷ is) s c =
    let x : Change Cell Value = record { cell = Member d i; value = v } in
    get-members_to d v is (applied x s) c
    ∙ ap (cond (changes cell_cmp (members_to d v is) c) v) (get-put cell_order x s c)
    ∙ either (eq_by_cmp cell_cmp c (Member d i)) (changes cell_cmp (members_to d v is) c) v (get s c)

pub clears_members : (d : Name) (is : List Index) → clears (members_to d None is) ≡ members_to d None is
clears_members d [] = refl
clears_members d (i ∷ is) =
    let x : Change Cell Value = record { cell = Member d i; value = None } in
    ap (λ (xs : Changes). x ∷ xs) (clears_members d is)

met : (o r : Ordering) (b : Bool) → is_eq (ordering_then o r) || (is_eq o && b) ≡ is_eq o && (is_eq r || b)
met Less r b = refl
met Greater r b = refl
met Equal r b = refl

and_false : (b : Bool) → false ≡ b && false
and_false true = refl
and_false false = refl

pub changes-members_to : (d : Name) (v : Option Value) (is : List Index) (e : Name) (j : Index) →
    changes cell_cmp (members_to d v is) (Member e j) ≡ is_same_name e d && has is j
changes-members_to d v [] e j = and_false (is_same_name e d)
changes-members_to d v (i ∷ is) e j =
    ap (λ b. eq_by_cmp cell_cmp (Member e j) (Member d i) || b) (changes-members_to d v is e j)
    ∙ met (slice_cmp nat_cmp e d) (index_cmp j i) (has is j)

pub changes_no_other : (d : Name) (v : Option Value) (is : List Index) (c : Cell) → is_middle c ≡ false →
    changes cell_cmp (members_to d v is) c ≡ false
changes_no_other d v [] c h = refl
changes_no_other d v (i ∷ is) c h = ap (λ b. b || changes cell_cmp (members_to d v is) c) (other d i c h) ∙ changes_no_other d v is c h

-- ---- all members of a domain are cleared

gone : (o : Option (List Index)) (j : Index) → None ≡ cond (has (unwrap_or o []) j) None (present_if (has_index o j))
gone None j = refl
gone (Some is) j = by (has is j)
  where
    by : (b : Bool) → None ≡ cond b None (present_if b)
    by true = refl
    by false = refl

-- the members of the domain d are none afterwards, and those of each other domain what they were
abbrev pub IsEmptied : List (Name × List Index) → List (Name × List Index) → Name → Type 0
IsEmptied before after d = (e : Name) → indices_in after e ≡ cond (is_same_name e d) None (indices_in before e)

module _ (low : BTreeMap Cell Value) (sets : BTreeMap Name (List Index)) (high : BTreeMap Cell Value) (kept : IsStored low sets high) where
  pub members_cleared : (sets' : BTreeMap Name (List Index)) (d : Name) → IsStored low sets' high → IsEmptied sets.entries sets'.entries d →
      state_of (stored_of low sets' high) ≡ apply (clears (members_to d None (unwrap_or (indices_in sets.entries d) []))) (state_of (stored_of low sets high))
  members_cleared sets' d kept' is_emptied =
      same_states cell_order _ _ λ c.
      get-state_of (stored_of low sets' high) c ∙ each c
      ∙ sym (ap (λ (ys : Changes). get (apply ys (state_of (stored_of low sets high))) c) (clears_members d is)
      ∙ get-members_to d None is (state_of (stored_of low sets high)) c
      ∙ ap (cond (changes cell_cmp (members_to d None is) c) None) (get-state_of (stored_of low sets high) c))
    where
      is : List Index
      is = unwrap_or (indices_in sets.entries d) []

      old : Cell → Option Value
      old c = value_in (whole low.entries sets.entries high.entries) c

      elsewhere : (c : Cell) → is_middle c ≡ false → old c ≡ cond (changes cell_cmp (members_to d None is) c) None (old c)
      elsewhere c h = sym (ap (λ b. cond b None (old c)) (changes_no_other d None is c h))

      at : (e : Name) (j : Index) (b : Bool) → is_same_name e d ≡ b →
          present_if (has_index (cond b None (indices_in sets.entries e)) j) ≡ cond (b && has is j) None (present_if (is_member sets.entries e j))
      at e j true same =
          gone (indices_in sets.entries d) j
          ∙ ap (λ (n : Name). cond (has is j) None (present_if (is_member sets.entries n j))) (sym (same_name e d same))
      at e j false apart = refl

      each : (c : Cell) → value_in (whole low.entries sets'.entries high.entries) c ≡ cond (changes cell_cmp (members_to d None is) c) None (old c)
      each = by_kind (λ c. value_in (whole low.entries sets'.entries high.entries) c ≡ cond (changes cell_cmp (members_to d None is) c) None (old c))
          (λ c h. value-low low sets' high kept' c h ∙ sym (value-low low sets high kept c h) ∙ elsewhere c (not_middle c h))
          (λ e j. value-member low sets' high kept' e j ∙ ap (λ (o : Option (List Index)). present_if (has_index o j)) (is_emptied e)
          ∙ at e j (is_same_name e d) refl
          ∙ sym (ap (λ b. cond b None (old (Member e j))) (changes-members_to d None is e j)
          ∙ ap (cond (is_same_name e d && has is j) None) (value-member low sets high kept e j)))
          (λ c h. value-high low sets' high kept' c h ∙ sym (value-high low sets high kept c h) ∙ elsewhere c (high_not_middle c h))

  -- the members of the domain d are these afterwards, and those of each other domain what they were
  pub members_put : (sets' : BTreeMap Name (List Index)) (d : Name) (is : List Index) → IsStored low sets' high → indices_in sets.entries d ≡ None →
      ((e : Name) → indices_in sets'.entries e ≡ cond (is_same_name e d) (Some is) (indices_in sets.entries e)) →
      state_of (stored_of low sets' high) ≡ apply (members_to d (Some Present) is) (state_of (stored_of low sets high))
  members_put sets' d is kept' none put =
      same_states cell_order _ _ λ c.
      get-state_of (stored_of low sets' high) c ∙ each c
      ∙ sym (get-members_to d (Some Present) is (state_of (stored_of low sets high)) c
      ∙ ap (cond (changes cell_cmp (members_to d (Some Present) is) c) (Some Present)) (get-state_of (stored_of low sets high) c))
    where
      old : Cell → Option Value
      old c = value_in (whole low.entries sets.entries high.entries) c

      elsewhere : (c : Cell) → is_middle c ≡ false → old c ≡ cond (changes cell_cmp (members_to d (Some Present) is) c) (Some Present) (old c)
      elsewhere c h = sym (ap (λ b. cond b (Some Present) (old c)) (changes_no_other d (Some Present) is c h))

      came : (b : Bool) → present_if b ≡ cond b (Some Present) None
      came true = refl
      came false = refl

      at : (e : Name) (j : Index) (b : Bool) → is_same_name e d ≡ b →
          present_if (has_index (cond b (Some is) (indices_in sets.entries e)) j) ≡ cond (b && has is j) (Some Present) (present_if (is_member sets.entries e j))
      at e j true same =
          came (has is j)
          ∙ ap (λ (o : Option (List Index)). cond (has is j) (Some Present) (present_if (has_index o j)))
          (sym (ap (indices_in sets.entries) (same_name e d same) ∙ none))
      at e j false apart = refl

      each : (c : Cell) → value_in (whole low.entries sets'.entries high.entries) c ≡ cond (changes cell_cmp (members_to d (Some Present) is) c) (Some Present) (old c)
      each = by_kind (λ c. value_in (whole low.entries sets'.entries high.entries) c ≡ cond (changes cell_cmp (members_to d (Some Present) is) c) (Some Present) (old c))
          (λ c h. value-low low sets' high kept' c h ∙ sym (value-low low sets high kept c h) ∙ elsewhere c (not_middle c h))
          (λ e j. value-member low sets' high kept' e j ∙ ap (λ (o : Option (List Index)). present_if (has_index o j)) (put e)
          ∙ at e j (is_same_name e d) refl
          ∙ sym (ap (λ b. cond b (Some Present) (old (Member e j))) (changes-members_to d (Some Present) is e j)
          ∙ ap (cond (is_same_name e d && has is j) (Some Present)) (value-member low sets high kept e j)))
          (λ c h. value-high low sets' high kept' c h ∙ sym (value-high low sets high kept c h) ∙ elsewhere c (high_not_middle c h))

-- ---- the same members, in any order

changes_same : (d : Name) (v : Option Value) (is js : List Index) → ((j : Index) → has is j ≡ has js j) → (c : Cell) →
    changes cell_cmp (members_to d v is) c ≡ changes cell_cmp (members_to d v js) c
changes_same d v is js same = by_kind (λ c. changes cell_cmp (members_to d v is) c ≡ changes cell_cmp (members_to d v js) c)
    (λ c h. changes_no_other d v is c (not_middle c h) ∙ sym (changes_no_other d v js c (not_middle c h)))
    (λ e j. changes-members_to d v is e j ∙ ap (λ b. is_same_name e d && b) (same j) ∙ sym (changes-members_to d v js e j))
    (λ c h. changes_no_other d v is c (high_not_middle c h) ∙ sym (changes_no_other d v js c (high_not_middle c h)))

pub members_same : (d : Name) (v : Option Value) (is js : List Index) (s : Cells) → ((j : Index) → has is j ≡ has js j) →
    apply (members_to d v is) s ≡ apply (members_to d v js) s
members_same d v is js s same =
    same_states cell_order _ _ λ c.
    get-members_to d v is s c ∙ ap (λ b. cond b v (get s c)) (changes_same d v is js same c) ∙ sym (get-members_to d v js s c)

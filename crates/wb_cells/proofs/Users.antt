-- The users of a domain stand together.
use Rattle.std.proofs.Common.{◌≡◌, ℕ, Bool, true, false, cond, List, [], ◌∷◌, Option, Some, None, option_map, slice_get, refl, sym, ap, ◌∙◌}
use Rattle.std.specs.BTreeMap.{BTreeMap, IsOrdered, ContainsKey, keys}
use Rattle.std.specs.BTreeMap.Range.{entries_between}
use Rattle.std.specs.List.{AllByRecursion, filter, filter_map}
use Rattle.std.specs.Map.{keys_of}
use Rattle.std.specs.Option.{option_and_then}
use Rattle.std.specs.declared.ops.Bound.TheVariants.{Included, Unbounded}
use Rattle.std.proofs.lemmas.List.Elements.{recursion_from_All}
use Rattle.std.proofs.lemmas.Map.Views.{All-keys_found}
use Rattle.selective_undo.proofs.Log.{get-map}
use Rattle.wb_cells.specs.declared.cells.cell.Cell.{Cell}
use Rattle.wb_cells.specs.declared.cells.cell.Cell.TheVariants.{Object, Shape, In, Member, Mapping, Use, Implicit, Element}
use Rattle.wb_cells.specs.declared.cells.value.Value.{Value}
use Rattle.wb_cells.specs.Cells.{Name, cell_cmp, cell_order, is_same_name, matches, map_state}
use Rattle.wb_cells.specs.Families.{Begins, AreNamed}
use Rattle.wb_cells.specs.declared.cells.pattern.Pattern.TheVariants.{Uses}
use Rattle.wb_cells.specs.Readers.{user_of, users}
use Rattle.wb_cells.proofs.Families.{is_from, together_from, all_covered}
use Rattle.wb_cells.proofs.Leading.{Stops, leads_from, same_taken, get_leading}
use Rattle.wb_cells.proofs.Order.{keys-map_state}

-- ---- what tells of no user is not named, and the reverse

unnamed : (d : Name) (x : Cell) → user_of d x ≡ None → matches (Uses d) x ≡ false
unnamed d (Object n) none = refl
unnamed d (Shape n) none = refl
unnamed d (In n i) none = refl
unnamed d (Member n i) none = refl
unnamed d (Mapping n) none = refl
unnamed d (Implicit n) none = refl
unnamed d (Element n i) none = refl
unnamed d (Use e n) none = by (is_same_name d e) none
  where
    by : (b : Bool) → cond b (Some n) None ≡ None → b ≡ false
    by true h = cc
    by false h = refl

unused : (d : Name) (x : Cell) → matches (Uses d) x ≡ false → user_of d x ≡ None
unused d (Object n) none = refl
unused d (Shape n) none = refl
unused d (In n i) none = refl
unused d (Member n i) none = refl
unused d (Mapping n) none = refl
unused d (Implicit n) none = refl
unused d (Element n i) none = refl
unused d (Use e n) none = rw none refl

module _ (d : Name) (c : Cell) (b : Begins (Uses d) c) where
  users_stop : Stops (user_of d) (λ x. is_from c x ≡ true)
  users_stop x y from up none = unused d y (together_from (Uses d) c b x y from up (unnamed d x none))

  no_user_before : (xs : List Cell) → AllByRecursion (λ x. is_from c x ≡ false → matches (Uses d) x ≡ false) xs →
      AllByRecursion (λ x. is_from c x ≡ false → user_of d x ≡ None) xs
  no_user_before [] all = tt
  no_user_before (x ∷ xs) all = (λ before. unused d x (all.0 before), no_user_before xs all.1)

-- ---- so a part of the map has them all

pub keys-filter : (test : Cell → Bool) (es : List (Cell × Value)) → keys_of (filter (λ e. test e.0) es) ≡ filter test (keys_of es)
keys-filter test [] = refl
keys-filter test (e ∷ es) = elim (test e.0) as (λ b. keys_of (cond b (e ∷ filter (λ x. test x.0) es) (filter (λ x. test x.0) es)) ≡ cond b
    (e.0 ∷ filter test (keys_of es)) (filter test (keys_of es))) [
      | true ↦ ap (λ xs. e.0 ∷ xs) (keys-filter test es)
      | false ↦ keys-filter test es
    ]

by_key : (d : Name) (found : Option (Cell × Value)) → option_and_then (λ (e : Cell × Value). user_of d e.0) found ≡ option_and_then (user_of d)
    (option_map (λ (e : Cell × Value). e.0) found)
by_key d None = refl
by_key d (Some e) = refl

pub user_found : (m : BTreeMap Cell Value) (d : Name) (c : Cell) (p : ℕ) (part : List (Cell × Value)) (found : Option (Cell × Value)) → AreNamed (map_state m) →
    IsOrdered cell_cmp m → Begins (Uses d) c
    → part ≡ entries_between cell_cmp (Included c) Unbounded m.entries → found ≡ slice_get part p →
    option_and_then (λ (e : Cell × Value). user_of d e.0) found ≡ slice_get (users (map_state m) d) p
user_found m d c p part found names s b is there =
    let all = no_user_before d c b (keys m) (all_covered (Uses d) c b m names (keys m)
    (recursion_from_All (ContainsKey cell_cmp m) (keys m) (All-keys_found cell_order.total m s))) in
    let cells : keys_of part ≡ filter (is_from c) (keys m) = ap (λ (es : List (Cell × Value)). keys_of es) is ∙ keys-filter (is_from c) m.entries in
    ap (λ (o : Option (Cell × Value)). option_and_then (λ (e : Cell × Value). user_of d e.0) o) there
    ∙ by_key d (slice_get part p)
    ∙ ap (option_and_then (user_of d)) (sym (get-map (λ (e : Cell × Value). e.0) part p) ∙ ap (λ (xs : List Cell). slice_get xs p) cells)
    ∙ get_leading (user_of d) (filter (is_from c) (keys m)) p (leads_from (user_of d) (is_from c) (users_stop d c b) (keys m) all s)
    ∙ ap (λ (ns : List Name). slice_get ns p) (same_taken (user_of d) (is_from c) (keys m) all)
    ∙ sym (ap (λ (xs : List Cell). slice_get (filter_map (user_of d) xs) p) (keys-map_state m s))

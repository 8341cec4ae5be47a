-- Changes made in two parts, first those that set cells and then those that clear them, and taken back halfway.
use Rattle.std.proofs.Common.{◌≡◌, ℕ, zero, suc, ◌+◌, ◌<◌, true, false, true≢false, cond, ◌||◌, List, [], ◌∷◌, length, get_or, drop, drop-cons, add-one, arith}
use Rattle.std.proofs.Common.{Some, None, IsSome, refl, sym, ap, ◌∙◌, Ordering}
use Rattle.std.specs.Ordering.{eq_by_cmp}
use Rattle.std.specs.Cmp.{Equal-is}
use Rattle.std.specs.FinMap.{FinMap, get}
use Rattle.selective_undo.specs.declared.Change.{Change}
use Rattle.selective_undo.specs.Edit.{Schema}
use Rattle.selective_undo.specs.Laws.{OfEach, ApplyLaw, TakeBackLaw, SetFirstLaw, RoomLaw}
use Rattle.selective_undo.specs.Changes.{IsOrder, applied, apply, inverse, changes, AllOnce, sets, clears, RoomFor, HasRoom}
use Rattle.selective_undo.proofs.Changes.{same_states, get-put, apply_keeps, apply_sets, apply_swap, changes-inverse, apply-inverse, is_itself, not_true}
use Rattle.selective_undo.proofs.Locality.{or_neither}

none_of_sets : {K V : Type 0} (order : K → K → Ordering) (xs : List (Change K V)) (c : K) → changes order xs c ≡ false → changes order (sets xs) c ≡ false
none_of_sets order [] c e = refl
none_of_sets {K = K} {V = V} order (x ∷ xs) c e =
    let parts = or_neither (eq_by_cmp order c x.cell) (changes order xs c) e in
    let rest = none_of_sets order xs c parts.1 in
    elim x.value as (λ v. let y : Change K V = record x { value = v } in changes order (sets (y ∷ xs)) c ≡ false) [
      | Some v ↦ rw (parts.0, rest) refl
      | None ↦ rest
    ]

pub tied : {K : Type 0} {order : K → K → Ordering} → IsOrder order → (y x : K) → eq_by_cmp order y x ≡ true → y ≡ x
tied {order = order} ordered y x e = ordered.strict y x ((Equal-is (order y x)).0 e)

module _ {K V : Type 0} {order : K → K → Ordering} where
  -- one change at a time
  pub sets-cons : (x : Change K V) (xs : List (Change K V)) (s : FinMap order V) → apply (sets (x ∷ xs)) s ≡ apply (sets xs) (apply (sets (x ∷ [])) s)
  sets-cons x xs s = elim x.value as (λ v. let y : Change K V = record x { value = v } in apply (sets (y ∷ xs)) s ≡ apply (sets xs) (apply (sets (y ∷ [])) s))
      [ Some v ↦ refl | None ↦ refl ]

  pub once-inverse : (xs : List (Change K V)) (s : FinMap order V) → AllOnce order xs → AllOnce order (inverse xs s)
  once-inverse [] s once = tt
  once-inverse (x ∷ xs) s once = (changes-inverse xs s x.cell ∙ once.0, once-inverse xs s once.1)

  -- where the cells that were there are still there, what they were can be put back
  pub room-inverse : (xs : List (Change K V)) (s t : FinMap order V) → ((c : K) → IsSome (get s c) → IsSome (get t c)) → HasRoom (inverse xs s) t
  room-inverse [] s t stays = tt
  room-inverse (x ∷ xs) s t stays = (
    elim (get s x.cell) as (λ o. (IsSome o → IsSome (get t x.cell)) → RoomFor o (get t x.cell)) [ Some v ↦ λ f. f refl | None ↦ λ f. tt ] (stays x.cell),
    room-inverse xs s t stays,
  )

module _ {K V : Type 0} {order : K → K → Ordering} (ordered : IsOrder order) where
  only : (x : Change K V) (c : K) → changes order (x ∷ []) c ≡ true → c ≡ x.cell
  only x c e =
      elim (eq_by_cmp order c x.cell) as (λ b. eq_by_cmp order c x.cell ≡ b → b || false ≡ true → c ≡ x.cell) [
        | true ↦ λ h f. tied ordered c x.cell h
        | false ↦ λ h f. cc
      ] refl e

  -- to set first and to clear afterwards comes to the same
  pub sets_clears : (xs : List (Change K V)) (s : FinMap order V) → AllOnce order xs → apply (clears xs) (apply (sets xs) s) ≡ apply xs s
  sets_clears [] s once = refl
  sets_clears (x ∷ xs) s once =
      elim x.value as (λ v. let y : Change K V = record x { value = v } in apply (clears (y ∷ xs)) (apply (sets (y ∷ xs)) s) ≡ apply xs (applied y s)) [
        | Some v ↦ sets_clears xs (applied (record x { value = Some v }) s) once.1
        | None ↦
            let y : Change K V = record x { value = None } in
            ap (apply (clears xs)) (apply_swap ordered (y ∷ []) (sets xs) s (λ c is. none_of_sets order xs c (ap (changes order xs) (only y c is) ∙ once.0)))
            ∙ sets_clears xs (applied y s) once.1
      ]

  -- changes that come midway over others of the same cells have the last word
  pub off_cells : (xs : List (Change K V)) (s t : FinMap order V) → ((c : K) → changes order xs c ≡ false → get t c ≡ get s c) → apply (inverse xs s) t ≡ s
  off_cells xs s t others =
      same_states ordered _ _ λ c.
      elim (changes order xs c) as (λ b. changes order xs c ≡ b → get (apply (inverse xs s) t) c ≡ get s c) [
        | true ↦ λ e. apply_sets ordered (inverse xs s) t s c (changes-inverse xs s c ∙ e) ∙ ap (λ r. get r c) (apply-inverse ordered xs s)
        | false ↦ λ e. apply_keeps ordered (inverse xs s) t c (changes-inverse xs s c ∙ e) ∙ others c e
      ] refl

  -- a change of one cell leaves room for changes of others
  pub room-put : (x : Change K V) (xs : List (Change K V)) (s : FinMap order V) → changes order xs x.cell ≡ false → HasRoom xs s → HasRoom xs (applied x s)
  room-put x [] s once room = tt
  room-put x (y ∷ xs) s once room =
      let parts = or_neither _ _ once in
      let other : eq_by_cmp order y.cell x.cell ≡ false = not_true _
      (λ e. true≢false (sym (is_itself ordered x.cell) ∙ ap (λ c. eq_by_cmp order x.cell c) (sym (tied ordered y.cell x.cell e)) ∙ parts.0)) in
      (rw (get-put ordered x s y.cell, other) room.0, room-put x xs s parts.1 room.1)

  -- a cell that is changed once has the value of its change
  set_value : (xs : List (Change K V)) (s : FinMap order V) (x : Change K V) (i : ℕ) → AllOnce order xs → i < length xs → get_or xs i x ≡ x →
      get (apply xs s) x.cell ≡ x.value
  set_value [] s x i once low is = absurd (omega (arith, low))
  set_value (y ∷ xs) s x zero once low is =
      let same : y ≡ x = is in
      apply_keeps ordered xs (applied y s) x.cell (rw (← same) once.0) ∙ rw (get-put ordered y s x.cell, same, is_itself ordered x.cell) refl
  set_value (y ∷ xs) s x (suc i) once low is = set_value xs (applied y s) x i once.1 (omega (arith, low)) is

  -- ---- a loop over the changes

  pub set_others : (x : Change K V) (s : FinMap order V) (c : K) → eq_by_cmp order c x.cell ≡ false → get (apply (sets (x ∷ [])) s) c ≡ get s c
  set_others x s c other =
      elim x.value as (λ v. let y : Change K V = record x { value = v } in get (apply (sets (y ∷ [])) s) c ≡ get s c) [
        | Some v ↦ rw (get-put ordered (record x { value = Some v }) s c, other) refl
        | None ↦ refl
      ]

  pub set_stays : (x : Change K V) (s : FinMap order V) (c : K) → IsSome (get s c) → IsSome (get (apply (sets (x ∷ [])) s) c)
  set_stays x s c there =
      elim x.value as (λ v. let y : Change K V = record x { value = v } in IsSome (get (apply (sets (y ∷ [])) s) c)) [
        | Some v ↦ rw (get-put ordered (record x { value = Some v }) s c)
            (elim (eq_by_cmp order c x.cell) as (λ b. IsSome (cond b (Some v) (get s c))) [ true ↦ refl | false ↦ there ])
        | None ↦ there
      ]

  pub other_cell : (xs : List (Change K V)) (i : ℕ) (d : Change K V) (c : K) → i < length xs → changes order xs c ≡ false →
      eq_by_cmp order c (get_or xs i d).cell ≡ false
  other_cell [] i d c low e = absurd (omega (arith, low))
  other_cell (x ∷ xs) zero d c low e = (or_neither _ _ e).0
  other_cell (x ∷ xs) (suc i) d c low e = other_cell xs i d c (omega (arith, low)) (or_neither _ _ e).1

  pub set_step : (xs : List (Change K V)) (i : ℕ) (d : Change K V) (s t r : FinMap order V) → i < length xs → t ≡ apply (sets (get_or xs i d ∷ [])) s →
      apply (sets (drop i xs)) s ≡ r → apply (sets (drop (i + 1) xs)) t ≡ r
  set_step xs i d s t r low is ahead =
      rw (add-one) (ap (apply (sets (drop (suc i) xs))) is ∙ sym (sets-cons (get_or xs i d) (drop (suc i) xs) s) ∙
      ap (λ ys. apply (sets ys) s) (sym (drop-cons xs i d low)) ∙ ahead)

  pub put_step : (xs : List (Change K V)) (i : ℕ) (d : Change K V) (s t r : FinMap order V) → i < length xs → t ≡ applied (get_or xs i d) s →
      apply (drop i xs) s ≡ r → apply (drop (i + 1) xs) t ≡ r
  put_step xs i d s t r low is ahead =
      rw (add-one) (ap (apply (drop (suc i) xs)) is ∙ ap (λ ys. apply ys s) (sym (drop-cons xs i d low)) ∙ ahead)

  pub once_step : (xs : List (Change K V)) (i : ℕ) (d : Change K V) → i < length xs → AllOnce order (drop i xs) → AllOnce order (drop (i + 1) xs)
  once_step xs i d low once = rw (add-one) (let h : AllOnce order (get_or xs i d ∷ drop (suc i) xs) = rw (drop-cons xs i d low) at once in h.1)

  pub room_step : (xs : List (Change K V)) (i : ℕ) (d : Change K V) (s t : FinMap order V) → i < length xs → t ≡ applied (get_or xs i d) s →
      AllOnce order (drop i xs) → HasRoom (drop i xs) s → HasRoom (drop (i + 1) xs) t
  room_step xs i d s t low is once room =
      let once' : AllOnce order (get_or xs i d ∷ drop (suc i) xs) = rw (drop-cons xs i d low) at once in
      let room' : HasRoom (get_or xs i d ∷ drop (suc i) xs) s = rw (drop-cons xs i d low) at room in
      rw (add-one, is) (room-put (get_or xs i d) (drop (suc i) xs) s once'.0 room'.1)

-- ---- laws

pub apply_law : (w : Schema) → ApplyLaw w
apply_law w xs s = (λ c other. apply_keeps w.is_order xs s c other, λ once x is. set_value w.is_order xs s x is.0 once is.1 is.2)

pub take_back_law : (w : Schema) → TakeBackLaw w
take_back_law w xs s t others = off_cells w.is_order xs s t others

pub set_first_law : (w : Schema) → SetFirstLaw w
set_first_law w xs s once = sets_clears w.is_order xs s once

pub room_law : (w : Schema) → RoomLaw w
room_law w xs s t stays = room-inverse xs s t stays

-- a law of each workbook, where the law names nothing that tells the patterns and refusals
pub of_each : (Cell Value Pattern Refusal : Type 0) (Law : Schema → Type 0) → ((w : Schema) → Law w) → OfEach Cell Value Pattern Refusal Law
of_each Cell Value Pattern Refusal Law all = λ order is_order matches. all
    (record { Cell = Cell; order = order; is_order = is_order; Value = Value; Pattern = Pattern; matches = matches; Refusal = Refusal })

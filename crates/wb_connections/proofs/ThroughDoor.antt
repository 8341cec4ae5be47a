-- What comes through a door.
use Rattle.std.proofs.Common.{◌≡◌, ◌≢◌, ◌∙◌, ◌<◌, ◌≤◌, ℕ, zero, suc, Bool, false, List, [], ◌++◌, length, length-take-le, take, take-take, arith, Option, None, Some, option_map, ap, refl, subst, sym}
use Rattle.std.specs.Io.KnownBytes.{Consumes, IsAtEnd}
use Rattle.wb_lines.specs.Causes.{RisesBy}
use Rattle.wb_connections.specs.Door.{through, heard, first_line, left_behind, failed_behind, reads_behind}
use Rattle.wb_connections.specs.declared.door.Way.{Way}
use Rattle.wb_connections.specs.declared.door.Way.TheVariants.{Unread, Open, Closing, Shut}

-- it came before what is left behind the door
before : {R : Type 0} (left : R → Option (List ℕ)) (v : Way) (s : R) (y all front : List ℕ) → left s ≡ Some y → all ≡ front ++ through v y
    → Consumes (Some all) (left_behind left v s) front
before left Unread s y all front is e = subst (λ o. Consumes (Some all) (option_map heard o) front) (sym is) e
before left Open s y all front is e = subst (λ o. Consumes (Some all) o front) (sym is) e
before left Closing s y all front is e = subst (λ o. Consumes (Some all) (option_map first_line o) front) (sym is) e
before left (Shut past) s y all front is e = e

-- what a read of a door gives, of what one of its reader gave
pub through_door : {R : Type 0} (left : R → Option (List ℕ)) (w v : Way) (r s : R) (a b : Option (List ℕ)) (all front : List ℕ)
    → ((past : ℕ) → w ≢ Shut past) → left r ≡ a → left s ≡ b → Consumes a b all
    → ((rest : List ℕ) → through w (all ++ rest) ≡ front ++ through v rest) → Consumes (left_behind left w r) (left_behind left v s) front
through_door left Unread v r s None b all front unshut is is_b p law = subst (λ o. Consumes (option_map heard o) (left_behind left v s) front) (sym is) tt
through_door left Open v r s None b all front unshut is is_b p law = subst (λ o. Consumes o (left_behind left v s) front) (sym is) tt
through_door left Closing v r s None b all front unshut is is_b p law = subst (λ o. Consumes (option_map first_line o) (left_behind left v s) front) (sym is) tt
through_door left w v r s (Some x) None all front unshut is is_b p law = absurd p
through_door left Unread v r s (Some x) (Some y) all front unshut is is_b p law =
    subst (λ o. Consumes (option_map heard o) (left_behind left v s) front) (sym is) (before left v s y (heard x) front is_b (ap heard p ∙ law y))
through_door left Open v r s (Some x) (Some y) all front unshut is is_b p law =
    subst (λ o. Consumes o (left_behind left v s) front) (sym is) (before left v s y x front is_b (p ∙ law y))
through_door left Closing v r s (Some x) (Some y) all front unshut is is_b p law =
    subst (λ o. Consumes (option_map first_line o) (left_behind left v s) front) (sym is) (before left v s y (first_line x) front is_b (ap first_line p ∙ law y))
through_door left (Shut past) v r s a b all front unshut is is_b p law = absurd (unshut past refl)

mapped_end : (f : List ℕ → List ℕ) (o : Option (List ℕ)) → f [] ≡ [] → IsAtEnd o → IsAtEnd (option_map f o)
mapped_end f None e p = tt
mapped_end f (Some x) e p = ap f p ∙ e

-- behind a reader at its end nothing is left to be heard
pub ended_door : {R : Type 0} (left : R → Option (List ℕ)) (v : Way) (s : R) → IsAtEnd (left s) → IsAtEnd (left_behind left v s)
ended_door left Unread s p = mapped_end heard (left s) refl p
ended_door left Open s p = p
ended_door left Closing s p = mapped_end first_line (left s) refl p
ended_door left (Shut past) s p = refl

pub sound_door : {R : Type 0} (failed : R → Bool) (v : Way) (s : R) → failed s ≡ false → failed_behind failed v s ≡ false
sound_door failed Unread s p = p
sound_door failed Open s p = p
sound_door failed Closing s p = p
sound_door failed (Shut past) s p = refl

-- a door that was shut just now, or isn't, was read as often as its reader
pub counted_door : {R : Type 0} (reads : R → ℕ) (v : Way) (s : R) → ((past : ℕ) → v ≡ Shut past → past ≡ 0) → reads_behind reads v s ≡ reads s
counted_door reads Unread s fresh = refl
counted_door reads Open s fresh = refl
counted_door reads Closing s fresh = refl
counted_door reads (Shut past) s fresh = omega (arith, fresh past refl)

none_of : (n k : ℕ) → (0 < n → 0 < k) → k ≡ 0 → n ≡ 0
none_of zero k some none = refl
none_of (suc n) k some none = absurd (omega (arith, some (omega arith), none))

-- a door gives no more than its reader did
pub shorter : (n k : ℕ) (bs : List ℕ) → n ≤ length bs → k ≤ length (take n bs) → (k ≤ length bs) × (k ≡ length (take k bs))
shorter n k bs low less =
    let short : k ≤ length bs = omega (arith, low, less, length-take-le n bs low) in
    (short, sym (length-take-le k bs short))

pub door_gives : {R : Type 0} (left : R → Option (List ℕ)) (w v : Way) (r s : R) (n k : ℕ) (bs : List ℕ) → n ≤ length bs
    → k ≤ length (take n bs) → (0 < length (take n bs) → 0 < k) → ((past : ℕ) → w ≢ Shut past)
    → Consumes (left r) (left s) (take n bs) × (n ≡ 0 → 0 < length bs → IsAtEnd (left s))
    → ((rest : List ℕ) → through w (take n bs ++ rest) ≡ take k (take n bs) ++ through v rest)
    → Consumes (left_behind left w r) (left_behind left v s) (take k bs) × (k ≡ 0 → 0 < length bs → IsAtEnd (left_behind left v s))
door_gives left w v r s n k bs low less some unshut gives law =
    let all : length (take n bs) ≡ n = length-take-le n bs low in
    let within : k ≤ n = omega (arith, less, all) in
    let given = through_door left w v r s (left r) (left s) (take n bs) (take k (take n bs)) unshut refl refl gives.0 law in (
      subst (Consumes (left_behind left w r) (left_behind left v s)) (take-take k n bs within) given,
      λ none room. ended_door left v s (gives.1 (sym all ∙ none_of (length (take n bs)) k some none) room),
    )

pub door_counts : {R : Type 0} (reads : R → ℕ) (w v : Way) (r s : R) → ((past : ℕ) → w ≢ Shut past) → ((past : ℕ) → v ≡ Shut past → past ≡ 0)
    → RisesBy 1 (reads r) (reads s) → RisesBy 1 (reads_behind reads w r) (reads_behind reads v s)
door_counts reads w v r s unshut fresh rises =
    let before = counted_door reads w r (λ past is. absurd (unshut past is)) in
    let after = counted_door reads v s fresh in
    subst (λ n. RisesBy 1 n (reads_behind reads v s)) (sym before) (subst (λ n. RisesBy 1 (reads r) n) (sym after) rises)

pub door_rests : {R : Type 0} (reads : R → ℕ) (w v : Way) (r s : R) → ((past : ℕ) → w ≢ Shut past) → ((past : ℕ) → v ≡ Shut past → past ≡ 0)
    → reads s ≡ reads r → reads_behind reads v s ≡ reads_behind reads w r
door_rests reads w v r s unshut fresh same =
    counted_door reads v s fresh ∙ same ∙ sym (counted_door reads w r (λ past is. absurd (unshut past is)))

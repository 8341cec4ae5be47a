-- Changes that are kept in runs.
use Rattle.std.proofs.Common.{if◌then◌else◌, ◌≡◌, Bool, add-one, ℕ, zero, suc, ◌+◌, ◌-◌, ◌<◌, ◌≤◌, List, [], ◌∷◌, ◌++◌}
use Rattle.std.proofs.Common.{Some, true, false, cond, length, take, set, get_or, slice_get, append_assoc, length-append, add-zero, refl, sym, ap, ◌∙◌, arith}
use Rattle.std.proofs.Common.{inl, inr, Option}
use Rattle.std.specs.Global.{Vec}
use Rattle.std.specs.List.{filter}
use Rattle.std.proofs.Math.Nat.{lt_of_not-le}
use Rattle.std.proofs.lemmas.List.{get_or_default}
use Rattle.std.proofs.lemmas.Option.{slice_get_read, slice_get_cases, get_or_from_slice_get}
use Rattle.selective_undo.specs.declared.Change.{Change}
use Rattle.wb_cells.specs.declared.changes.run.ChangeRun.{ChangeRun}
use Rattle.wb_cells.specs.declared.cells.cell.Cell.{Cell}
use Rattle.wb_cells.specs.declared.cells.value.Value.{Value}
use Rattle.wb_cells.specs.Cells.{Changes, is_counted, count_of}
use Rattle.wb_cells.specs.Runs.{changes_in, all_changes, in_first, runs_in, changes_of, AreStarted, HasPlace, IsList}

nothing_behind : (ys : Changes) → ys ++ [] ≡ ys
nothing_behind [] = refl
nothing_behind (y ∷ ys) = ap (λ zs. y ∷ zs) (nothing_behind ys)

pub all-append : (rs ss : List ChangeRun) → all_changes (rs ++ ss) ≡ all_changes rs ++ all_changes ss
all-append [] ss = refl
all-append (r ∷ rs) ss = ap (λ xs. changes_in r.form ++ xs) (all-append rs ss) ∙ sym (append_assoc (changes_in r.form) (all_changes rs) (all_changes ss))

-- what came behind the runs came behind the list
pub all_behind : (first rs ss xs : Changes) → ss ≡ rs ++ xs → first ++ ss ≡ (first ++ rs) ++ xs
all_behind first rs ss xs e = ap (λ ys. first ++ ys) e ∙ sym (append_assoc first rs xs)

count-append : (xs ys : Changes) → count_of (xs ++ ys) ≡ count_of xs + count_of ys
count-append [] ys = omega arith
count-append (x ∷ xs) ys =
    let counted : Changes → Changes = filter (λ y. is_counted y.cell) in
    elim (is_counted x.cell) as
    (λ b. length (cond b (x ∷ counted (xs ++ ys)) (counted (xs ++ ys))) ≡ length (cond b (x ∷ counted xs) (counted xs)) + count_of ys)
    [ true ↦ omega (arith, count-append xs ys) | false ↦ count-append xs ys ]

-- the list with xs behind it
pub pushed : (first : Option (Change Cell Value)) (old new : Option (Vec ChangeRun)) (xs : Changes) (n k m j : ℕ) → IsList first old n k →
    all_changes (runs_in new) ≡ all_changes (runs_in old) ++ xs → m ≡ n + length xs → j ≡ k + count_of xs →
    AreStarted (length (in_first first)) (runs_in new) → IsList first new m j
pushed first old new xs n k m j h e more counts begun =
    let is = all_behind (in_first first) (all_changes (runs_in old)) (all_changes (runs_in new)) xs e in
    let before = changes_of first old in
    record {
      all = more ∙ ap (λ i. i + length xs) h.all ∙ sym (length-append before xs) ∙ sym (ap length is);
      counted = counts ∙ ap (λ i. i + count_of xs) h.counted ∙ sym (count-append before xs) ∙ sym (ap count_of is);
      started = begun;
    }

-- the last run became another one, with xs behind its changes
pub last_more : (rs : List ChangeRun) (s t : ChangeRun) (xs : Changes) (n : ℕ) → suc n ≡ length rs → s ≡ get_or rs n s →
    changes_in t.form ≡ changes_in s.form ++ xs → all_changes (set rs n t) ≡ all_changes rs ++ xs
last_more [] s t xs n e is more = cc
last_more (r ∷ []) s t xs zero e is more =
    let here : changes_in t.form ≡ changes_in r.form ++ xs = more ∙ ap (λ (y : ChangeRun). changes_in y.form ++ xs) is in
    nothing_behind (changes_in t.form) ∙ here ∙ ap (λ ys. ys ++ xs) (sym (nothing_behind (changes_in r.form)))
last_more (r ∷ []) s t xs (suc n) e is more = cc
last_more (r ∷ (y ∷ rs)) s t xs zero e is more = cc
last_more (r ∷ (y ∷ rs)) s t xs (suc n) e is more =
    let f : suc n ≡ length (y ∷ rs) = omega arith in
    ap (λ zs. changes_in r.form ++ zs) (last_more (y ∷ rs) s t xs n f is more) ∙ sym (append_assoc (changes_in r.form) (all_changes (y ∷ rs)) xs)

pub last_same : (rs : List ChangeRun) (s t : ChangeRun) (n : ℕ) → suc n ≡ length rs → s ≡ get_or rs n s → changes_in t.form ≡ changes_in s.form →
    all_changes (set rs n t) ≡ all_changes rs
last_same rs s t n e is same = last_more rs s t [] n e is (same ∙ sym (nothing_behind (changes_in s.form))) ∙ nothing_behind (all_changes rs)

-- runs begin where they did when the last of them is another one that begins there
pub last_started : (rs : List ChangeRun) (s t : ChangeRun) (k n : ℕ) → suc k ≡ length rs → s ≡ get_or rs k s → t.start ≡ s.start → AreStarted n rs →
    AreStarted n (set rs k t)
last_started [] s t k n e is same h = cc
last_started (r ∷ []) s t zero n e is same h = (same ∙ ap (λ (y : ChangeRun). y.start) is ∙ h.0, tt)
last_started (r ∷ []) s t (suc k) n e is same h = cc
last_started (r ∷ (y ∷ rs)) s t zero n e is same h = cc
last_started (r ∷ (y ∷ rs)) s t (suc k) n e is same h =
    let f : suc k ≡ length (y ∷ rs) = omega arith in
    (h.0, last_started (y ∷ rs) s t k (n + length (changes_in r.form)) f is same h.1)

-- ---- places

get-front : (xs ys : Changes) (i : ℕ) (x : Change Cell Value) → slice_get xs i ≡ Some x → slice_get (xs ++ ys) i ≡ Some x
get-front [] ys i x e = cc
get-front (z ∷ xs) ys zero x e = e
get-front (z ∷ xs) ys (suc i) x e = get-front xs ys i x e

get-behind : (xs ys : Changes) (i k : ℕ) → k ≡ length xs + i → slice_get (xs ++ ys) k ≡ slice_get ys i
get-behind [] ys i k e = ap (slice_get ys) (omega arith)
get-behind (z ∷ xs) ys i zero e = absurd (omega arith)
get-behind (z ∷ xs) ys i (suc k) e = get-behind xs ys i k (omega arith)

-- each run begins behind those before it
pub started_at : (n : ℕ) (rs : List ChangeRun) (k : ℕ) (r : ChangeRun) → AreStarted n rs → slice_get rs k ≡ Some r →
    r.start ≡ n + length (all_changes (take k rs))
started_at n [] k r h e = cc
started_at n (x ∷ rs) zero r h e = let is : x ≡ r = cc in ap (λ (y : ChangeRun). y.start) (sym is) ∙ h.0 ∙ sym (add-zero n)
started_at n (x ∷ rs) (suc k) r h e =
    let rest = started_at (n + length (changes_in x.form)) rs k r h.1 e in
    let both : length (changes_in x.form ++ all_changes (take k rs)) ≡ length (changes_in x.form) + length (all_changes (take k rs)) =
    length-append (changes_in x.form) (all_changes (take k rs)) in
    omega (arith, rest, both)

-- what stands in a run stands in the list
pub stands_in : (rs : List ChangeRun) (k i p : ℕ) (r : ChangeRun) (x : Change Cell Value) → slice_get rs k ≡ Some r → slice_get (changes_in r.form) i ≡ Some x →
    p ≡ length (all_changes (take k rs)) + i → slice_get (all_changes rs) p ≡ Some x
stands_in [] k i p r x e f at = cc
stands_in (y ∷ rs) zero i p r x e f at =
    let is : y ≡ r = cc in
    let here : p ≡ i = omega arith in
    rw here (get-front (changes_in y.form) (all_changes rs) i x (ap (λ (z : ChangeRun). slice_get (changes_in z.form) i) is ∙ f))
stands_in (y ∷ rs) (suc k) i p r x e f at =
    let c = changes_in y.form in
    let t = all_changes (take k rs) in
    let far : p ≡ length c + (length t + i) = omega (arith, at, length-append c t) in
    get-behind c (all_changes rs) (length t + i) p far ∙ stands_in rs k i (length t + i) r x e f refl

-- the changes up to and with a run
pub one_run_more : (rs : List ChangeRun) (k : ℕ) (r : ChangeRun) → slice_get rs k ≡ Some r →
    length (all_changes (take (suc k) rs)) ≡ length (all_changes (take k rs)) + length (changes_in r.form)
one_run_more [] k r e = cc
one_run_more (y ∷ rs) zero r e =
    let is : y ≡ r = cc in
    let here : length (changes_in y.form ++ []) ≡ length (changes_in r.form) = ap length (nothing_behind (changes_in y.form)) ∙
    ap (λ (z : ChangeRun). length (changes_in z.form)) is in
    omega (arith, here)
one_run_more (y ∷ rs) (suc k) r e =
    let c = changes_in y.form in
    let rest = one_run_more rs k r e in
    omega (arith, rest, length-append c (all_changes (take (suc k) rs)), length-append c (all_changes (take k rs)))

-- a run that begins behind all others
pub one_started : (rs : List ChangeRun) (r : ChangeRun) (n : ℕ) → r.start ≡ n + length (all_changes rs) → AreStarted n rs → AreStarted n (rs ++ r ∷ [])
one_started [] r n e h = (e ∙ add-zero n, tt)
one_started (y ∷ rs) r n e h =
    let c = changes_in y.form in
    let at : r.start ≡ (n + length c) + length (all_changes rs) = omega (arith, e, length-append c (all_changes rs)) in
    (h.0, one_started rs r (n + length c) at h.1)

-- no more are counted than there are
pub count_few : (xs : Changes) → count_of xs ≤ length xs
count_few [] = omega arith
count_few (x ∷ xs) =
    elim (is_counted x.cell) as (λ b. length (cond b (x ∷ filter (λ y. is_counted y.cell) xs) (filter (λ y. is_counted y.cell) xs)) ≤ suc (length xs))
    [ true ↦ omega (arith, count_few xs) | false ↦ omega (arith, count_few xs) ]

-- a run was added that begins behind all others, or none was
pub started_pushed : (b : Bool) (rs ss : List ChangeRun) (r : ChangeRun) (n : ℕ) → ss ≡ (if b then rs ++ r ∷ [] else rs) →
    r.start ≡ n + length (all_changes rs) →
    AreStarted n rs → AreStarted n ss
started_pushed true rs ss r n is e h = rw is (one_started rs r n e h)
started_pushed false rs ss r n is e h = rw is h

-- what a run has at its place, the list has there, where n changes stand before the runs
item_in : (n : ℕ) (rs : List ChangeRun) (k p : ℕ) (r : ChangeRun) (x : Change Cell Value) → AreStarted n rs → slice_get rs k ≡ Some r → HasPlace r p →
    x ≡ get_or (changes_in r.form) (p - r.start) x → x ≡ get_or (all_changes rs) (p - n) x
item_in n rs k p r x h at has is =
    let start = started_at n rs k r h at in
    let i = p - r.start in
    let low : i < length (changes_in r.form) = omega (arith, has.0, has.1) in
    let here = slice_get_read (changes_in r.form) (length (changes_in r.form)) i x refl low is in
    sym (get_or_from_slice_get (all_changes rs) (p - n) x x (stands_in rs k i (p - n) r x at here (omega (arith, start, has.0))))

-- the same whatever stands for what is not there
pub stands_at : (n : ℕ) (rs : List ChangeRun) (k p : ℕ) (r : ChangeRun) (d : Change Cell Value) → AreStarted n rs → slice_get rs k ≡ Some r → HasPlace r p →
    p < n + length (all_changes rs) → get_or (changes_in r.form) (p - r.start) d ≡ get_or (all_changes rs) (p - n) d
stands_at n rs k p r d h at has within =
    let i = p - r.start in
    let x = get_or (changes_in r.form) i d in
    let low : i < length (changes_in r.form) = omega (arith, has.0, has.1) in
    let start = started_at n rs k r h at in
    item_in n rs k p r x h at has (get_or_default (changes_in r.form) i d x low)
    ∙ get_or_default (all_changes rs) (p - n) x d (omega (arith, start, has.0, within))

-- a place behind the runs before one, which isn't its own, is behind it
past_run : (n : ℕ) (rs : List ChangeRun) (k p : ℕ) (r : ChangeRun) → AreStarted n rs → slice_get rs k ≡ Some r → (HasPlace r p → ⊥) →
    n + length (all_changes (take k rs)) ≤ p → n + length (all_changes (take (k + 1) rs)) ≤ p
past_run n rs k p r h at none behind =
    let start = started_at n rs k r h at in
    let more = one_run_more rs k r at in
    let same : length (all_changes (take (k + 1) rs)) ≡ length (all_changes (take (suc k) rs)) = ap (λ j. length (all_changes (take j rs))) (add-one k) in
    let far : r.start + length (changes_in r.form) < suc p = lt_of_not-le (λ low. none (omega (arith, start, behind), omega (arith, low))) in
    omega (arith, start, more, same, far)

-- the same of the run of a number
pub past_number : (n : ℕ) (rs : List ChangeRun) (k p : ℕ) → AreStarted n rs → k < length rs → ((r : ChangeRun) → slice_get rs k ≡ Some r → HasPlace r p → ⊥) →
    n + length (all_changes (take k rs)) ≤ p → n + length (all_changes (take (k + 1) rs)) ≤ p
past_number n rs k p h low none behind =
    elim (slice_get_cases rs k).1 [
      | inl found ↦ past_run n rs k p found.0 h found.2 (none found.0 found.2) behind
      | inr past ↦ absurd (omega (arith, past.0, low))
    ]

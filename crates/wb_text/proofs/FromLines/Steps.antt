-- What loops over lines come to.
use Rattle.std.proofs.Common.{◌≡◌, ℕ, zero, suc, ◌<◌, ◌≤◌, Bool, true, false, ◌&&◌, cond, List, [], ◌∷◌, map, take, drop, length, get_or, slice_get, Option}
use Rattle.std.proofs.Common.{Some, None, is_some, option_and_then, refl, sym, ap, ◌∙◌, subst, arith, drop-cons}
use Rattle.std.proofs.lemmas.List.{take_all, drop-map}
use Rattle.std.proofs.lemmas.List.Folds.{list_all-map}
use Rattle.std.specs.BTreeMap.{BTreeMap, Updates}
use Rattle.std.specs.BTreeMap as tree
use Rattle.std.specs.Cmp.{eq_by_cmp_equiv}
use Rattle.std.specs.Cmp.Lexicographic.{slice_cmp, nat_list_cmp_total}
use Rattle.std.specs.List.{AllByRecursion, list_all}
use Rattle.std.specs.Ordering.{nat_cmp}
use Rattle.wb_cells.specs.Cells.{Name, is_same_name}
use Rattle.wb_text.specs.Said.{Line, name_of, first_line_of, line_of}
use Rattle.wb_text.specs.declared.said.ObjectLine.{ObjectLine}
use Rattle.wb_text.specs.FromLines.Found.{Finds}
use Rattle.wb_text.specs.FromLines.Told.{are_distinct}

-- ---- a fact of each line

each_of : (P : Line → Type 0) (xs : List ObjectLine) → AllByRecursion (λ x. P (line_of x)) xs → AllByRecursion P (map line_of xs)
each_of P [] h = tt
each_of P (x ∷ xs) h = (h.0, each_of P xs h.1)

pub all_lines : (P : Line → Type 0) (xs : List ObjectLine) (n : ℕ) → length xs ≤ n → AllByRecursion (λ x. P (line_of x)) (take n xs) →
    AllByRecursion P (map line_of xs)
all_lines P xs n h k = each_of P xs (subst (AllByRecursion (λ x. P (line_of x))) (take_all n xs h) k)

pub all_pass : (p : Line → Bool) (xs : List ObjectLine) (n : ℕ) → length xs ≤ n → list_all (λ x. p (line_of x)) (take n xs) ≡ true →
    list_all p (map line_of xs) ≡ true
all_pass p xs n h k = list_all-map p line_of xs ∙ sym (ap (list_all (λ x. p (line_of x))) (take_all n xs h)) ∙ k

pub one_fails : (p : Line → Bool) (xs : List ObjectLine) (i : ℕ) (x : ObjectLine) → i < length xs → x ≡ get_or xs i x → p (line_of x) ≡ false →
    list_all p (map line_of xs) ≡ false
one_fails p [] i x h this f = absurd (omega arith)
one_fails p (y ∷ xs) zero x h this f = ap (λ z. p (line_of z) && list_all p (map line_of xs)) (sym this) ∙ ap (λ b. b && list_all p (map line_of xs)) f
one_fails p (y ∷ xs) (suc i) x h this f =
    let rest : list_all p (map line_of xs) ≡ false = one_fails p xs i x (omega arith) this f in
    ap (λ b. p (line_of y) && b) rest ∙ neither (p (line_of y))
  where
    neither : (b : Bool) → b && false ≡ false
    neither true = refl
    neither false = refl

-- ---- names

pub not_distinct : (ls : List Line) (k : ℕ) → are_distinct (drop k ls) ≡ false → are_distinct ls ≡ false
not_distinct [] zero f = f
not_distinct [] (suc k) f = f
not_distinct (l ∷ ls) zero f = f
not_distinct (l ∷ ls) (suc k) f = ap (cond (is_some (first_line_of (name_of l) ls)) false) (not_distinct ls k f) ∙
    either (is_some (first_line_of (name_of l) ls))
  where
    either : (b : Bool) → cond b false false ≡ false
    either true = refl
    either false = refl

pub twice : (l : Line) (ls : List Line) → is_some (first_line_of (name_of l) ls) ≡ true → are_distinct (l ∷ ls) ≡ false
twice l ls e = ap (λ b. cond b false (are_distinct ls)) e

pub once : (l : Line) (ls : List Line) → is_some (first_line_of (name_of l) ls) ≡ false → are_distinct ls ≡ true → are_distinct (l ∷ ls) ≡ true
once l ls e d = ap (λ b. cond b false (are_distinct ls)) e ∙ d

pub turned : (n m : Name) → is_same_name n m ≡ is_same_name m n
turned n m = (eq_by_cmp_equiv nat_list_cmp_total).symm n m

chosen : (b : Bool) (lines : List Line) (p : ℕ) (o : Option ℕ) (l : Line) (r : Option Line) → slice_get lines p ≡ Some l →
    option_and_then (slice_get lines) o ≡ r → option_and_then (slice_get lines) (cond b (Some p) o) ≡ cond b (Some l) r
chosen true lines p o l r e f = e
chosen false lines p o l r e f = f

some_either : (b : Bool) (p : ℕ) (o : Option ℕ) (l : Line) (r : Option Line) → is_some o ≡ is_some r → is_some (cond b (Some p) o) ≡ is_some (cond b (Some l) r)
some_either true p o l r e = refl
some_either false p o l r e = e

-- a line that is put in ahead of those that are found
pub found_more : (lines ls : List Line) (l : Line) (m n : BTreeMap Name ℕ) (p : ℕ) → slice_get lines p ≡ Some l → Finds m lines ls →
    Updates (slice_cmp nat_cmp) m n (name_of l) (Some p) → Finds n lines (l ∷ ls)
found_more lines ls l m n p there found is = record {
  line = λ q.
      ap (option_and_then (slice_get lines)) (is.0 q ∙ ap (λ b. cond b (Some p) (tree.get (slice_cmp nat_cmp) m q)) (turned (name_of l) q))
      ∙ chosen (is_same_name q (name_of l)) lines p (tree.get (slice_cmp nat_cmp) m q) l (first_line_of q ls) there (found.line q);
  there = λ q.
      ap is_some (is.0 q ∙ ap (λ b. cond b (Some p) (tree.get (slice_cmp nat_cmp) m q)) (turned (name_of l) q))
      ∙ some_either (is_same_name q (name_of l)) p (tree.get (slice_cmp nat_cmp) m q) l (first_line_of q ls) (found.there q);
}

-- ---- one more line, from the last one back

pub drop_at : (xs : List ObjectLine) (k j : ℕ) (x : ObjectLine) → k < length xs → j ≡ suc k → x ≡ get_or xs k x → drop k xs ≡ x ∷ drop j xs
drop_at xs k j x low next this = drop-cons xs k x low ∙ ap (λ y. y ∷ drop (suc k) xs) (sym this) ∙ ap (λ i. x ∷ drop i xs) (sym next)

place_line : (xs : List ObjectLine) (k : ℕ) (x : ObjectLine) → k < length xs → x ≡ get_or xs k x → slice_get (map line_of xs) k ≡ Some (line_of x)
place_line [] k x low this = absurd (omega arith)
place_line (y ∷ xs) zero x low this = ap (λ z. Some (line_of z)) (sym this)
place_line (y ∷ xs) (suc k) x low this = place_line xs k x (omega arith) this

-- the line x at the place k was read, and its name is q; the lines from j on have been found
pub record IsRead (xs : List ObjectLine) (k j : ℕ) (x : ObjectLine) (q : Name) (m : BTreeMap Name ℕ) : Type 0 where
  pub low : k < length xs
  pub next : j ≡ suc k
  pub this : x ≡ get_or xs k x
  pub named : q ≡ name_of (line_of x)
  pub found : Finds m (map line_of xs) (map line_of (drop j xs))

pub is_read : (xs : List ObjectLine) (k j : ℕ) (x : ObjectLine) (q : Name) (m : BTreeMap Name ℕ) → k < length xs → j ≡ suc k → x ≡ get_or xs k x →
    q ≡ name_of (line_of x) → Finds m (map line_of xs) (map line_of (drop j xs)) → IsRead xs k j x q m
is_read xs k j x q m a b d e f = record { low = a; next = b; this = d; named = e; found = f }

pub next_found : (xs : List ObjectLine) (k j i : ℕ) (x : ObjectLine) (q : Name) (m n : BTreeMap Name ℕ) → IsRead xs k j x q m → i ≡ k →
    Updates (slice_cmp nat_cmp) m n q (Some k) → Finds n (map line_of xs) (map line_of (drop i xs))
next_found xs k j i x q m n h same is =
    subst (λ (ys : List ObjectLine). Finds n (map line_of xs) (map line_of ys)) (sym (ap (λ t. drop t xs) same ∙ drop_at xs k j x h.low h.next h.this))
    (found_more (map line_of xs) (map line_of (drop j xs)) (line_of x) m n k (place_line xs k x h.low h.this) h.found
    (subst (λ (r : Name). Updates (slice_cmp nat_cmp) m n r (Some k)) h.named is))

there_is : (xs : List ObjectLine) (k j : ℕ) (x : ObjectLine) (q : Name) (m : BTreeMap Name ℕ) → IsRead xs k j x q m →
    is_some (first_line_of (name_of (line_of x)) (map line_of (drop j xs))) ≡ is_some (tree.get (slice_cmp nat_cmp) m q)
there_is xs k j x q m h = sym (h.found.there (name_of (line_of x))) ∙ ap (λ r. is_some (tree.get (slice_cmp nat_cmp) m r)) (sym h.named)

pub next_distinct : (xs : List ObjectLine) (k j i : ℕ) (x : ObjectLine) (q : Name) (m : BTreeMap Name ℕ) → IsRead xs k j x q m → i ≡ k →
    tree.get (slice_cmp nat_cmp) m q ≡ None → are_distinct (map line_of (drop j xs)) ≡ true → are_distinct (map line_of (drop i xs)) ≡ true
next_distinct xs k j i x q m h same new before =
    ap (λ t. are_distinct (map line_of (drop t xs))) same ∙ ap (λ (ys : List ObjectLine). are_distinct (map line_of ys)) (drop_at xs k j x h.low h.next h.this)
    ∙ once (line_of x) (map line_of (drop j xs)) (there_is xs k j x q m h ∙ ap is_some new) before

pub name_again : (xs : List ObjectLine) (k j p : ℕ) (x : ObjectLine) (q : Name) (m : BTreeMap Name ℕ) → IsRead xs k j x q m →
    tree.get (slice_cmp nat_cmp) m q ≡ Some p → are_distinct (map line_of xs) ≡ false
name_again xs k j p x q m h old =
    not_distinct (map line_of xs) k
    (ap are_distinct (drop-map line_of k xs) ∙ ap (λ (ys : List ObjectLine). are_distinct (map line_of ys)) (drop_at xs k j x h.low h.next h.this)
    ∙ twice (line_of x) (map line_of (drop j xs)) (there_is xs k j x q m h ∙ ap is_some old))

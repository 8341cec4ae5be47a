-- Labels in one list of bytes, and changes at labels.
use Rattle.std.proofs.Common.{◌≡◌, ℕ, ◌+◌, ◌≤◌, ℤ, List, [], ◌∷◌, ◌++◌, length, map, take, drop, zero, suc, Option}
use Rattle.std.proofs.Common.{length-append, length-drop, refl, sym, ap, subst, ◌∙◌, arith}
use Rattle.std.specs.List.{All}
use Rattle.std.specs.Prelude.{Bool, true, false, if◌then◌else◌, Result, Ok, Err, is_ok, is_err}
use Rattle.std.proofs.lemmas.List.{map-append, take-append-le, drop-append-le, drop_at, take_all}
use Rattle.std.proofs.lemmas.List.Elements.{All-head, All-tail, All-push, All-weaker}
use Rattle.wb_sets.specs.Labels.{IsLabel}
use Rattle.wb_cells.specs.declared.changes.labels.LabelEntry.{LabelEntry}
use Rattle.wb_cells.specs.declared.changes.row.IndexedRow.TheVariants.{Inside, Members, Elements}
use Rattle.wb_cells.specs.Cells.{Name, count_of}
use Rattle.wb_cells.specs.Labelled.{label_in, number_in, entry_in, entries_in, IsKept}
use Rattle.wb_cells.specs.Runs.{labelled_changes}

-- ---- how many are counted

pub none_inside : (d : Name) (es : List (List ℕ × Option ℤ)) → count_of (labelled_changes (Inside d) es) ≡ zero
none_inside d [] = refl
none_inside d (e ∷ es) = none_inside d es

pub members_counted : (d : Name) (es : List (List ℕ × Option ℤ)) → count_of (labelled_changes (Members d) es) ≡ length (labelled_changes (Members d) es)
members_counted d [] = refl
members_counted d (e ∷ es) = ap suc (members_counted d es)

pub elements_counted : (a : Name) (es : List (List ℕ × Option ℤ)) → count_of (labelled_changes (Elements a) es) ≡ length (labelled_changes (Elements a) es)
elements_counted a [] = refl
elements_counted a (e ∷ es) = ap suc (elements_counted a es)

-- ---- labels in a list of bytes

-- what stands within a list is there when others come behind it
front_part : {X : Type 0} (n k : ℕ) (xs ys : List X) → n + k ≤ length xs → take k (drop n (xs ++ ys)) ≡ take k (drop n xs)
front_part n k xs ys within =
    ap (take k) (drop-append-le n xs ys (omega (arith, within)))
    ∙ take-append-le k (drop n xs) ys (omega (arith, within, length-drop n xs))

kept_more : (bytes more : List ℕ) (e : LabelEntry) → IsKept bytes e → IsKept (bytes ++ more) e
kept_more bytes more e kept = record {
  within = omega (arith, kept.within, length-append bytes more);
  text = subst IsLabel (sym (front_part e.start e.len bytes more kept.within)) kept.text;
}

pub all_kept_more : (bytes more : List ℕ) (es : List LabelEntry) → All (IsKept bytes) es → All (IsKept (bytes ++ more)) es
all_kept_more bytes more es kept = All-weaker (IsKept bytes) (IsKept (bytes ++ more)) (kept_more bytes more) es kept

pub same_entries : (bytes more : List ℕ) (es : List LabelEntry) → All (IsKept bytes) es → entries_in (bytes ++ more) es ≡ entries_in bytes es
same_entries bytes more [] kept = refl
same_entries bytes more (e ∷ es) kept =
    let first = All-head (IsKept bytes) e es kept in
    let label : entry_in (bytes ++ more) e ≡ entry_in bytes e =
    ap (λ text. (text, number_in e)) (front_part e.start e.len bytes more first.within) in
    ap (λ x. x ∷ entries_in (bytes ++ more) es) label
    ∙ ap (λ xs. entry_in bytes e ∷ xs) (same_entries bytes more es (All-tail (IsKept bytes) e es kept))

-- a text that came behind others
new_label : (bytes text : List ℕ) (e : LabelEntry) → e.start ≡ length bytes → e.len ≡ length text → label_in (bytes ++ text) e ≡ text
new_label bytes text e start len =
    ap (λ n. take e.len (drop n (bytes ++ text))) start
    ∙ ap (take e.len) (drop_at bytes text (length bytes) refl)
    ∙ ap (λ n. take n text) len
    ∙ take_all (length text) text (omega arith)

pub all_kept_with : (bytes text : List ℕ) (es : List LabelEntry) (e : LabelEntry) → All (IsKept bytes) es → IsLabel text → e.start ≡ length bytes →
    e.len ≡ length text → All (IsKept (bytes ++ text)) (es ++ e ∷ [])
all_kept_with bytes text es e kept label start len =
    All-push (IsKept (bytes ++ text)) es e (all_kept_more bytes text es kept) (record {
      within = omega (arith, start, len, length-append bytes text);
      text = subst IsLabel (sym (new_label bytes text e start len)) label;
    })

pub one_entry_more : (bytes text : List ℕ) (es : List LabelEntry) (e : LabelEntry) (n : Option ℤ) → All (IsKept bytes) es → e.start ≡ length bytes →
    e.len ≡ length text → number_in e ≡ n → entries_in (bytes ++ text) (es ++ e ∷ []) ≡ entries_in bytes es ++ (text, n) ∷ []
one_entry_more bytes text es e n kept start len number =
    let label : entry_in (bytes ++ text) e ≡ (text, n) =
    ap (λ t. (t, number_in e)) (new_label bytes text e start len) ∙ ap (λ m. (text, m)) number in
    map-append (entry_in (bytes ++ text)) es (e ∷ [])
    ∙ ap (λ xs. xs ++ entry_in (bytes ++ text) e ∷ []) (same_entries bytes text es kept)
    ∙ ap (λ x. entries_in bytes es ++ x ∷ []) label

-- the labels without their numbers
pub numbers_alone : (bytes : List ℕ) (es : List LabelEntry) → map (λ e. e.1) (entries_in bytes es) ≡ map number_in es
numbers_alone bytes [] = refl
numbers_alone bytes (e ∷ es) = ap (λ ns. number_in e ∷ ns) (numbers_alone bytes es)

pub texts_alone : (bytes : List ℕ) (es : List LabelEntry) → map (λ e. e.0) (entries_in bytes es) ≡ map (label_in bytes) es
texts_alone bytes [] = refl
texts_alone bytes (e ∷ es) = ap (λ ts. label_in bytes e ∷ ts) (texts_alone bytes es)

-- ---- a list that grew, unless it could not

pub grown : {T E X : Type 0} (r : Result T E) (b : Bool) (old more new : List X) → b ≡ is_err r → b ≡ false → new ≡ (if is_ok r then more else old) →
    new ≡ more
grown (Ok x) b old more new is said e = e
grown (Err x) b old more new is said e = cc

pub as_it_was : {T E X : Type 0} (r : Result T E) (b : Bool) (old more new : List X) → b ≡ is_err r → b ≡ true → new ≡ (if is_ok r then more else old) →
    new ≡ old
as_it_was (Ok x) b old more new is said e = cc
as_it_was (Err x) b old more new is said e = e

-- Labels in one list of bytes.
use Rattle.std.proofs.Common.{◌≡◌, ℕ, ◌+◌, ◌≤◌, ◌==◌, ◌&&◌, Decides, List, [], ◌∷◌, ◌++◌, length, take, drop}
use Rattle.std.proofs.Common.{length-append, length-drop, refl, sym, ap, subst, ◌∙◌, arith}
use Rattle.std.specs.List.{All, AllByRecursion}
use Rattle.std.specs.Prelude.{Bool, true, false, if◌then◌else◌, Result, Ok, Err, is_ok, is_err}
use Rattle.std.proofs.lemmas.List.{map-append, take-append-le, drop-append-le, drop_at, take_all}
use Rattle.std.proofs.lemmas.List.Elements.{All-head, All-tail, All-push, All-weaker}
use Rattle.std.proofs.lemmas.Bool.{and_parts}
use Rattle.std.proofs.lemmas.Bool.Decides.{nat_tests}
use Rattle.wb_sets.specs.Labels.{IsLabel}
use Rattle.wb_footprints.specs.declared.places.label_list.LabelPlace.{LabelPlace}
use Rattle.wb_footprints.specs.Listed.{label_in, labels_in, IsKept}
use Rattle.wb_footprints.proofs.InBlocks.{number_is}

-- what stands within a list is there when others come behind it
front_part : {X : Type 0} (n k : ℕ) (xs ys : List X) → n + k ≤ length xs → take k (drop n (xs ++ ys)) ≡ take k (drop n xs)
front_part n k xs ys within =
    ap (take k) (drop-append-le n xs ys (omega (arith, within)))
    ∙ take-append-le k (drop n xs) ys (omega (arith, within, length-drop n xs))

kept_more : (bytes more : List ℕ) (e : LabelPlace) → IsKept bytes e → IsKept (bytes ++ more) e
kept_more bytes more e kept = record {
  within = omega (arith, kept.within, length-append bytes more);
  text = subst IsLabel (sym (front_part e.start e.len bytes more kept.within)) kept.text;
}

pub all_kept_more : (bytes more : List ℕ) (es : List LabelPlace) → All (IsKept bytes) es → All (IsKept (bytes ++ more)) es
all_kept_more bytes more es kept = All-weaker (IsKept bytes) (IsKept (bytes ++ more)) (kept_more bytes more) es kept

same_labels : (bytes more : List ℕ) (es : List LabelPlace) → All (IsKept bytes) es → labels_in (bytes ++ more) es ≡ labels_in bytes es
same_labels bytes more [] kept = refl
same_labels bytes more (e ∷ es) kept =
    let first = All-head (IsKept bytes) e es kept in
    ap (λ x. x ∷ labels_in (bytes ++ more) es) (front_part e.start e.len bytes more first.within)
    ∙ ap (λ xs. label_in bytes e ∷ xs) (same_labels bytes more es (All-tail (IsKept bytes) e es kept))

-- a text that came behind others
new_label : (bytes text : List ℕ) (e : LabelPlace) → e.start ≡ length bytes → e.len ≡ length text → label_in (bytes ++ text) e ≡ text
new_label bytes text e start len =
    ap (λ n. take e.len (drop n (bytes ++ text))) start
    ∙ ap (take e.len) (drop_at bytes text (length bytes) refl)
    ∙ ap (λ n. take n text) len
    ∙ take_all (length text) text (omega arith)

pub all_kept_with : (bytes text : List ℕ) (es : List LabelPlace) (e : LabelPlace) → All (IsKept bytes) es → IsLabel text → e.start ≡ length bytes →
    e.len ≡ length text → All (IsKept (bytes ++ text)) (es ++ e ∷ [])
all_kept_with bytes text es e kept label start len =
    All-push (IsKept (bytes ++ text)) es e (all_kept_more bytes text es kept) (record {
      within = omega (arith, start, len, length-append bytes text);
      text = subst IsLabel (sym (new_label bytes text e start len)) label;
    })

pub one_label_more : (bytes text : List ℕ) (es : List LabelPlace) (e : LabelPlace) → All (IsKept bytes) es → e.start ≡ length bytes →
    e.len ≡ length text → labels_in (bytes ++ text) (es ++ e ∷ []) ≡ labels_in bytes es ++ text ∷ []
one_label_more bytes text es e kept start len =
    map-append (label_in (bytes ++ text)) es (e ∷ [])
    ∙ ap (λ xs. xs ++ label_in (bytes ++ text) e ∷ []) (same_labels bytes text es kept)
    ∙ ap (λ x. labels_in bytes es ++ x ∷ []) (new_label bytes text e start len)

pub kept_labels : (bytes : List ℕ) (es : List LabelPlace) → All (IsKept bytes) es → AllByRecursion IsLabel (labels_in bytes es)
kept_labels bytes [] kept = tt
kept_labels bytes (e ∷ es) kept = ((All-head (IsKept bytes) e es kept).text, kept_labels bytes es (All-tail (IsKept bytes) e es kept))

-- ---- a list that grew, unless it could not

pub grown : {T E X : Type 0} (r : Result T E) (b : Bool) (old more new : List X) → b ≡ is_err r → b ≡ false → new ≡ (if is_ok r then more else old) →
    new ≡ more
grown (Ok x) b old more new is said e = e
grown (Err x) b old more new is said e = cc

-- ---- places that are the same

-- which are one where both numbers are
pub same_place : (a b : LabelPlace) → Decides ((a.start == b.start) && (a.len == b.len)) (a ≡ b)
same_place a b = (
  λ e.
      let both = and_parts (a.start == b.start) (a.len == b.len) e in
      let start : a.start ≡ b.start = number_is a.start b.start both.0 in
      let len : a.len ≡ b.len = number_is a.len b.len both.1 in
      λ i. record { start = start i; len = len i },
  λ same. subst (λ (x : LabelPlace). (a.start == x.start) && (a.len == x.len) ≡ true) same (and_both (itself a.start) (itself a.len)),
)
  where
    itself : (n : ℕ) → (n == n) ≡ true
    itself n = grind (arith, nat_tests)

    and_both : {x y : Bool} → x ≡ true → y ≡ true → x && y ≡ true
    and_both e f = cc

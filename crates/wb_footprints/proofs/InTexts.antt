-- Labels: their order, their bytes, and their keys, which never fall along ascending labels.
use Rattle.std.proofs.Common.{◌≡◌, ℕ, ◌+◌, ◌*◌, ◌<◌, ◌≤◌, ◌/◌, ◌%◌, Bool, true, false, cond, zero, suc, List, [], ◌∷◌, ◌++◌}
use Rattle.std.proofs.Common.{◌⊎◌, inl, inr, drop, get_or, refl, subst, arith, ltb-true}
use lib.Dec.{ltb}
use lib.Utf8.{scalar, scalars, encode, encodes, scalar_cases}
use Rattle.std.proofs.lemmas.Bool.{and_parts}
use Rattle.std.proofs.lemmas.Cmp.{ranked, nat_list_cmp_total}
use Rattle.std.specs.Cmp.{IsTotalOrder}
use Rattle.std.specs.FinMap.{IsAntisymmetric, slice_cmp-IsAntisymmetric, nat_cmp-IsAntisymmetric}
use Rattle.std.specs.List.{AllByRecursion}
use Rattle.std.specs.Ordering.{MatchOrdering, is_eq, eq_by_cmp, nat_cmp, ordering_then}
use Rattle.std.specs.declared.cmp.Ordering.{Ordering}
use Rattle.std.specs.declared.cmp.Ordering.TheVariants.{Less, Equal, Greater}
use Rattle.wb_sets.specs.Labels.{IsLabel}
use Rattle.wb_footprints.specs.Keys.{with_bytes, text_key}
use Rattle.wb_footprints.specs.Texts.{Text, text_cmp, in_texts}
use Rattle.wb_footprints.proofs.Setting.{either}

pub texts_total : IsTotalOrder text_cmp
texts_total = nat_list_cmp_total

pub texts_exact : IsAntisymmetric text_cmp
texts_exact = slice_cmp-IsAntisymmetric nat_cmp-IsAntisymmetric

equal_from : (o : Ordering) → is_eq o ≡ true → o ≡ Equal
equal_from Less e = cc
equal_from Equal e = refl
equal_from Greater e = cc

-- labels that compare as equal are one
pub same_text : (a b : Text) → eq_by_cmp text_cmp a b ≡ true → a ≡ b
same_text a b e = texts_exact a b (equal_from (text_cmp a b) e)

-- ---- the bytes of a label

-- each is below 256
abbrev pub AreBytes : List ℕ → Type 0
AreBytes bs = AllByRecursion (λ b. b < 256) bs

both_bytes : (xs ys : List ℕ) → AreBytes xs → AreBytes ys → AreBytes (xs ++ ys)
both_bytes [] ys h g = g
both_bytes (x ∷ xs) ys h g = (h.0, both_bytes xs ys h.1 g)

bytes_by : (c : ℕ) → c < 1114112 → (a b d : Bool) → (a ≡ true → c < 128) → (b ≡ true → c < 2048) → (d ≡ true → c < 65536) →
    AreBytes (cond a (c ∷ []) (cond b ((192 + c / 64) ∷ (128 + c % 64) ∷ []) (cond d ((224 + c / 4096) ∷ (128 + (c / 64) % 64) ∷ (128 + c % 64) ∷ [])
    ((240 + c / 262144) ∷ (128 + (c / 4096) % 64) ∷ (128 + (c / 64) % 64) ∷ (128 + c % 64) ∷ []))))
bytes_by c l true b d e f g = (omega (arith, e refl), tt)
bytes_by c l false true d e f g = (omega (arith, f refl), (omega arith, tt))
bytes_by c l false false true e f g = (omega (arith, g refl), (omega arith, (omega arith, tt)))
bytes_by c l false false false e f g = (omega (arith, l), (omega arith, (omega arith, (omega arith, tt))))

char_bytes : (c : ℕ) → scalar c ≡ true → AreBytes (encode c)
unfolding encode
char_bytes c ok = bytes_by c (below (scalar_cases c ok)) (ltb c 128) (ltb c 2048) (ltb c 65536) (ltb-true c 128) (ltb-true c 2048) (ltb-true c 65536)
  where
    below : (c < 55296) ⊎ ((57344 ≤ c) × (c < 1114112)) → c < 1114112
    below (inl l) = omega (arith, l)
    below (inr h) = h.1

chars_bytes : (cs : List ℕ) → scalars cs ≡ true → AreBytes (encodes cs)
chars_bytes [] e = tt
chars_bytes (c ∷ cs) e =
    let p = and_parts (scalar c) (scalars cs) e in
    both_bytes (encode c) (encodes cs) (char_bytes c p.0) (chars_bytes cs p.1)

label_bytes : (t : List ℕ) → IsLabel t → AreBytes t
label_bytes t l = subst AreBytes l.utf8.1.1 (chars_bytes l.utf8.0 l.utf8.1.0)

-- ---- the keys of labels

-- the byte at a place comes next, or a zero
pub next_byte : (n a k : ℕ) (bs : List ℕ) → with_bytes a (suc n) (drop k bs) ≡ with_bytes (a * 256 + get_or bs k 0) n (drop (k + 1) bs)
next_byte n a zero [] = let e : a * 256 + 0 ≡ a * 256 = omega arith in rw e refl
next_byte n a (suc k) [] = let e : a * 256 + 0 ≡ a * 256 = omega arith in let f : suc k + 1 ≡ suc (k + 1) = omega arith in rw (e, f) refl
next_byte n a zero (b ∷ bs) = refl
next_byte n a (suc k) (b ∷ bs) = let e : suc k + 1 ≡ suc (k + 1) = omega arith in rw e (next_byte n a k bs)

-- what begins with a greater number is greater, whatever bytes follow
above_all : (n a c : ℕ) (xs ys : List ℕ) → a < c → AreBytes xs → with_bytes a n xs < with_bytes c n ys
above_all zero a c xs ys l h = l
above_all (suc n) a c [] [] l h = above_all n (a * 256) (c * 256) [] [] (omega (arith, l)) tt
above_all (suc n) a c [] (y ∷ ys) l h = above_all n (a * 256) (c * 256 + y) [] ys (omega (arith, l)) tt
above_all (suc n) a c (x ∷ xs) [] l h = above_all n (a * 256 + x) (c * 256) xs [] (omega (arith, l, h.0)) h.1
above_all (suc n) a c (x ∷ xs) (y ∷ ys) l h = above_all n (a * 256 + x) (c * 256 + y) xs ys (omega (arith, l, h.0)) h.1

-- no bytes are the least
least_none : (n a c : ℕ) (ys : List ℕ) → a ≤ c → with_bytes a n [] ≤ with_bytes c n ys
least_none zero a c ys l = l
least_none (suc n) a c [] l = least_none n (a * 256) (c * 256) [] (omega (arith, l))
least_none (suc n) a c (y ∷ ys) l = least_none n (a * 256) (c * 256 + y) ys (omega (arith, l))

by_first : (n a x y : ℕ) (xs ys : List ℕ) (o : Ordering) → MatchOrdering o (x < y) (x ≡ y) (y < x) → x < 256 → AreBytes xs →
    ordering_then o (text_cmp xs ys) ≡ Less → ((c : ℕ) → text_cmp xs ys ≡ Less → with_bytes c n xs ≤ with_bytes c n ys) →
    with_bytes (a * 256 + x) n xs ≤ with_bytes (a * 256 + y) n ys
by_first n a x y xs ys Less h l b e more = let strict = above_all n (a * 256 + x) (a * 256 + y) xs ys (omega (arith, h)) b in omega (arith, strict)
by_first n a x y xs ys Equal h l b e more = subst (λ (z : ℕ). with_bytes (a * 256 + x) n xs ≤ with_bytes (a * 256 + z) n ys) h (more (a * 256 + x) e)
by_first n a x y xs ys Greater h l b e more = cc

never_falls : (n a : ℕ) (xs ys : List ℕ) → AreBytes xs → text_cmp xs ys ≡ Less → with_bytes a n xs ≤ with_bytes a n ys
never_falls n a [] [] h e = cc
never_falls n a [] (y ∷ ys) h e = least_none n a a (y ∷ ys) (omega arith)
never_falls n a (x ∷ xs) [] h e = cc
never_falls zero a (x ∷ xs) (y ∷ ys) h e = omega arith
never_falls (suc n) a (x ∷ xs) (y ∷ ys) h e =
    by_first n a x y xs ys (nat_cmp x y) (ranked x y (nat_cmp x y) refl) h.0 h.1 e (λ c less. never_falls n c xs ys h.1 less)

text_rises : (a b : Text) → AreBytes a → text_cmp a b ≡ Less → text_key a ≤ text_key b
text_rises a b h e = let l = never_falls 7 0 a b h e in omega (arith, l)

pub text_some : (t : Text) → 0 < text_key t
text_some t = omega arith

all_bytes : (ts : List Text) (t : Text) → AllByRecursion IsLabel ts → in_texts ts t ≡ true → AreBytes t
all_bytes [] t h there = cc
all_bytes (u ∷ us) t h there = either (eq_by_cmp text_cmp u t) (in_texts us t) (AreBytes t)
    (λ same. subst AreBytes (same_text u t same) (label_bytes u h.0)) (λ more. all_bytes us t h.1 more) there

-- labels in order have keys in order
pub all_rise : (ts : List Text) → AllByRecursion IsLabel ts → (a b : Text) → in_texts ts a ≡ true → text_cmp a b ≡ Less → text_key a ≤ text_key b
all_rise ts h a b there less = text_rises a b (all_bytes ts a h there) less

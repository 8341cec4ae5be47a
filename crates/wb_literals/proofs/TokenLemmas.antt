-- Tokens and spaces: what is there is read, and what is read is there.
use Rattle.std.proofs.Common.{◌≡◌, ◌≢◌, ℕ, Bool, true, false, cond, nat_eq, List, [], ◌∷◌, ◌++◌, length, take, drop, Option, Some, None, option_map}
use Rattle.std.proofs.Common.{option_and_then, refl, sym, ap, ◌∙◌, eq-eqb, ne_eqb, eqb-true, arith}
use Rattle.std.proofs.lemmas.Bool.Decides.{Decides-eqb}
use Rattle.std.proofs.lemmas.Option.{same_Some, none-some, option_and_then_some}
use Rattle.std.proofs.lemmas.Slice.Eq.{starts_is}
use Rattle.std.specs.Cmp.Lexicographic.{pointwise}
use Rattle.wb_literals.specs.Tokens.{skip_spaces, after, after_token, after_word, comma_at, close_at}
use Rattle.wb_literals.specs.Grammar.{AreSpaces}

-- the text doesn't go on with a space
abbrev pub NoSpace : List ℕ → Type 0
NoSpace [] = Unit {0}
NoSpace (b ∷ bytes) = b ≢ 32

skip_none : (bytes : List ℕ) → NoSpace bytes → skip_spaces bytes ≡ bytes
skip_none [] h = refl
skip_none (b ∷ bytes) h = rw (ne_eqb b 32 h) refl

pub skip_over : (s rest : List ℕ) → AreSpaces s → NoSpace rest → skip_spaces (s ++ rest) ≡ rest
skip_over [] rest a h = skip_none rest h
skip_over (b ∷ s) rest a h = rw (eq-eqb b 32 a.0) (skip_over s rest a.1 h)

spaces_by : (t : Bool) (b : ℕ) (bytes : List ℕ) → nat_eq b 32 ≡ t → ((s : List ℕ) × AreSpaces s × (bytes ≡ s ++ skip_spaces bytes)) → (s : List ℕ) ×
    AreSpaces s × (b ∷ bytes ≡ s ++ cond t (skip_spaces bytes) (b ∷ bytes))
spaces_by true b bytes e (s, a, f) = (b ∷ s, (eqb-true b 32 e, a), ap (λ x. b ∷ x) f)
spaces_by false b bytes e r = ([], tt, refl)

-- the spaces at the front
pub spaces_of : (bytes : List ℕ) → (s : List ℕ) × AreSpaces s × (bytes ≡ s ++ skip_spaces bytes)
spaces_of [] = ([], tt, refl)
spaces_of (b ∷ bytes) = spaces_by (nat_eq b 32) b bytes refl (spaces_of bytes)

found_by : (t : Bool) (front bytes rest : List ℕ) → t ≡ pointwise nat_eq front (take (length front) bytes) →
    cond {A = Option (List ℕ)} t (Some (drop (length front) bytes)) None ≡ Some rest → bytes ≡ front ++ rest
found_by true front bytes rest t e = (starts_is Decides-eqb bytes front true t).0 refl ∙ ap (λ x. front ++ x) (same_Some _ _ e)
found_by false front bytes rest t e = absurd (cc)

pub after_found : (front bytes rest : List ℕ) → after front bytes ≡ Some rest → bytes ≡ front ++ rest
after_found front bytes rest e = found_by (pointwise nat_eq front (take (length front) bytes)) front bytes rest refl e

-- another byte comes first
pub not_after : (c b : ℕ) (front bytes : List ℕ) → b ≢ c → after (c ∷ front) (b ∷ bytes) ≡ None
not_after c b front bytes h = rw (ne_eqb c b (λ e. h (sym e))) refl

token_by : (o : Option (List ℕ)) (token bytes rest : List ℕ) → after token bytes ≡ o → option_map skip_spaces o ≡ Some rest → (s : List ℕ) × AreSpaces s ×
    (bytes ≡ token ++ (s ++ rest))
token_by None token bytes rest e f = absurd (cc)
token_by (Some x) token bytes rest e f =
    let sp = spaces_of x in
    (sp.0, sp.1, after_found token bytes x e ∙ ap (λ y. token ++ y) (sp.2 ∙ ap (λ y. sp.0 ++ y) (same_Some _ _ f)))

pub token_found : (token bytes rest : List ℕ) → after_token token bytes ≡ Some rest → (s : List ℕ) × AreSpaces s × (bytes ≡ token ++ (s ++ rest))
token_found token bytes rest e = token_by (after token bytes) token bytes rest refl e

pub comma_over : (s t rest : List ℕ) → AreSpaces s → AreSpaces t → NoSpace rest → comma_at (s ++ (44 ∷ (t ++ rest))) ≡ Some rest
comma_over s t rest a b h = ap (after_token (44 ∷ [])) (skip_over s (44 ∷ (t ++ rest)) a (λ e. omega (arith, e))) ∙ ap (λ x. Some x) (skip_over t rest b h)

pub comma_found : (bytes rest : List ℕ) → comma_at bytes ≡ Some rest → (s t : List ℕ) × AreSpaces s × AreSpaces t × (bytes ≡ s ++ (44 ∷ (t ++ rest)))
comma_found bytes rest e =
    let sp = spaces_of bytes in
    let f = token_found (44 ∷ []) (skip_spaces bytes) rest e in
    (sp.0, f.0, sp.1, f.1, sp.2 ∙ ap (λ x. sp.0 ++ x) f.2)

-- another byte than a comma comes first
pub no_comma : (b : ℕ) (s rest : List ℕ) → AreSpaces s → b ≢ 32 → b ≢ 44 → comma_at (s ++ (b ∷ rest)) ≡ None
no_comma b s rest a h k = ap (after_token (44 ∷ [])) (skip_over s (b ∷ rest) a h) ∙ ap (option_map skip_spaces) (not_after 44 b [] rest k)

pub close_over : (c : ℕ) (s rest : List ℕ) → c ≢ 32 → AreSpaces s → close_at (c ∷ []) (s ++ (c ∷ rest)) ≡ Some rest
close_over c s rest h a = ap (after (c ∷ [])) (skip_over s (c ∷ rest) a h) ∙ rw (eq-eqb c c refl) refl

pub close_found : (token bytes rest : List ℕ) → close_at token bytes ≡ Some rest → (s : List ℕ) × AreSpaces s × (bytes ≡ s ++ (token ++ rest))
close_found token bytes rest e =
    let sp = spaces_of bytes in
    (sp.0, sp.1, sp.2 ∙ ap (λ x. sp.0 ++ x) (after_found token (skip_spaces bytes) rest e))

-- a word is there: `again` says that it is found before any rest
pub word_over : (c : ℕ) (word s t rest : List ℕ) → ((r : List ℕ) → after (c ∷ word) ((c ∷ word) ++ r) ≡ Some r) → c ≢ 32 → AreSpaces s → AreSpaces t →
    NoSpace rest
    → after_word (c ∷ word) ((32 ∷ s) ++ ((c ∷ word) ++ (32 ∷ (t ++ rest)))) ≡ Some rest
word_over c word s t rest again h a b n =
    ap (λ x. option_and_then (λ y. after_token (32 ∷ []) y) (after (c ∷ word) x)) (skip_over s ((c ∷ word) ++ (32 ∷ (t ++ rest))) a h)
    ∙ ap (λ x. option_and_then (λ y. after_token (32 ∷ []) y) x) (again (32 ∷ (t ++ rest)))
    ∙ ap (λ x. Some x) (skip_over t rest b n)

pub word_found : (word bytes rest : List ℕ) → after_word word bytes ≡ Some rest → (s t : List ℕ) × AreSpaces s × AreSpaces t ×
    (bytes ≡ (32 ∷ s) ++ (word ++ (32 ∷ (t ++ rest))))
word_found word bytes rest e =
    option_and_then_some (λ spaced. option_and_then (after_token (32 ∷ [])) (after word spaced)) (after_token (32 ∷ []) bytes) rest e
    (λ x f g. option_and_then_some (after_token (32 ∷ [])) (after word x) rest g
    (λ y h k.
    let first = token_found (32 ∷ []) bytes x f in
    let last = token_found (32 ∷ []) y rest k in
    (first.0, last.0, first.1, last.1, first.2 ∙ ap (λ z. 32 ∷ (first.0 ++ z)) (after_found word x y h ∙ ap (λ z. word ++ z) last.2))))

-- a word of another first byte is not there
pub word_none : (c : ℕ) (word s e : List ℕ) → AreSpaces s → NoSpace e → after (c ∷ word) e ≡ None → after_word (c ∷ word) (s ++ e) ≡ None
word_none c word [] [] a n h = refl
word_none c word [] (b ∷ e) a n h = rw (not_after 32 b [] e n) refl
word_none c word (b ∷ s) e a n h = rw (eq-eqb 32 b (sym a.0))
    (ap (λ x. option_and_then (after_token (32 ∷ [])) (after (c ∷ word) x)) (skip_over s e a.1 n) ∙ ap (option_and_then (after_token (32 ∷ []))) h)

-- what a mapped value comes from
pub mapped : {A B P : Type 0} (f : A → B) (o : Option A) (y : B) → option_map f o ≡ Some y → ((x : A) → o ≡ Some x → f x ≡ y → P) → P
mapped f None y e k = absurd (none-some y e)
mapped f (Some x) y e k = k x refl (same_Some (f x) y e)

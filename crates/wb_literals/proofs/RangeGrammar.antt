-- Ranges: what is spelled is read, and what is read is spelled.
use Rattle.std.proofs.Common.{◌≡◌, ◌↔◌, ◌≢◌, ◌⊎◌, inl, inr, ℕ, ◌^◌, ◌<◌, ◌≤◌, ℤ, pos, Bool, true, false, cond, ◌&&◌, nat_eq, nat_le, nat_lt, List, [], ◌∷◌}
use Rattle.std.proofs.Common.{◌++◌, codes, Option, Some, None, option_map, option_and_then, refl, sym, ap, ◌∙◌, subst, append_assoc, eqb-true, ne_eqb, lt-ltb}
use Rattle.std.proofs.Common.{ltb-true, arith}
use Rattle.std.proofs.lemmas.Bool.{leb-true, true≢false}
use Rattle.std.proofs.lemmas.Option.{same_Some, option_and_then_some, some_pair_parts}
use Rattle.std.specs.Option.{option_map_or}
use Rattle.std.specs.Ordering.{int_eq}
use Rattle.wb_literals.specs.Integer.{is_digit, digits_at, natural, natural_at, integer_at}
use Rattle.wb_literals.specs.Spelling.{IsNatural, IsInteger}
use Rattle.wb_literals.specs.Tokens.{skip_spaces, after, after_token, after_word}
use Rattle.wb_literals.specs.Range.{to_at, below_at, count_at, upper_at, align_at, nonzero_at, stride_at, range_at, range_of}
use Rattle.wb_literals.specs.Grammar.{AreSpaces, IsUpper, IsAlign, IsBy, IsRange}
use Rattle.wb_literals.specs.declared.range.Upper.{Upper}
use Rattle.wb_literals.specs.declared.range.Upper.TheVariants.{To, Below, Count}
use Rattle.wb_literals.specs.declared.range.Stride.{Stride}
use Rattle.wb_literals.specs.declared.range.RangeLiteral.{RangeLiteral}
use Rattle.wb_literals.proofs.DigitsBack.{EndsDigits}
use Rattle.wb_literals.proofs.Exact.{exact}
use Rattle.wb_literals.proofs.PrintedRange.{int_ne, int_same}
use Rattle.wb_literals.proofs.Spelled.{integer_read, integer_found, natural_read, natural_found}
use Rattle.wb_literals.proofs.TokenLemmas.{NoSpace, skip_over, token_found, not_after, word_over, word_found, word_none, mapped, spaces_of}

-- the first byte of a number
abbrev pub Starts : List ℕ → Type 0
Starts [] = ⊥
Starts (c ∷ bytes) = (c ≡ 45) ⊎ ((48 ≤ c) × (c ≤ 57))

both_true : (a b : Bool) → (a && b) ≡ true → (a ≡ true) × (b ≡ true)
both_true true true e = (refl, refl)
both_true true false e = absurd (cc)
both_true false b e = absurd (cc)

digit_within : (b : ℕ) → is_digit b ≡ true → (48 ≤ b) × (b ≤ 57)
digit_within b e = let p = both_true (nat_le 48 b) (nat_le b 57) e in (leb-true 48 b p.0, leb-true b 57 p.1)

pub natural_starts : (text : List ℕ) (n : ℕ) → IsNatural text n → Starts text
natural_starts [] n h = absurd (h.1 refl)
natural_starts (b ∷ bytes) n h = inr (digit_within b h.0.0)

starts_by : (t : Bool) (b : ℕ) (bytes : List ℕ) (z : ℤ) → nat_eq b 45 ≡ t → IsInteger (b ∷ bytes) z → Starts (b ∷ bytes)
starts_by true b bytes z e h = inl (eqb-true b 45 e)
starts_by false b bytes z e h = let k = rw e at h in natural_starts (b ∷ bytes) k.0 k.1

pub integer_starts : (text : List ℕ) (z : ℤ) → IsInteger text z → Starts text
integer_starts [] z h = absurd h
integer_starts (b ∷ bytes) z h = starts_by (nat_eq b 45) b bytes z refl h

pub starts_unspaced : (text rest : List ℕ) → Starts text → NoSpace (text ++ rest)
starts_unspaced [] rest h = absurd h
starts_unspaced (b ∷ bytes) rest (inl e) = λ x. omega (arith, e, x)
starts_unspaced (b ∷ bytes) rest (inr h) = λ x. omega (arith, h.0, x)

-- the text stops: behind spaces it ends, or goes on with a byte that begins no part of a range
abbrev pub IsStop : List ℕ → Type 0
IsStop [] = Unit {0}
IsStop (b ∷ bytes) = (is_digit b ≡ false) × (b ≢ 32) × (b ≢ 97) × (b ≢ 98)

pub record Ends (rest : List ℕ) : Type 0 where
  pub spaces : List ℕ
  pub stop : List ℕ
  pub are : AreSpaces spaces
  pub is : rest ≡ spaces ++ stop
  pub stops : IsStop stop

ends_by : (s e : List ℕ) → AreSpaces s → IsStop e → EndsDigits (s ++ e)
ends_by [] [] a h = tt
ends_by [] (b ∷ e) a h = h.0
ends_by (b ∷ s) e a h = ap is_digit a.0

pub ends_digits : (rest : List ℕ) → Ends rest → EndsDigits rest
ends_digits rest e = subst EndsDigits (sym e.is) (ends_by e.spaces e.stop e.are e.stops)

stop_unspaced : (e : List ℕ) → IsStop e → NoSpace e
stop_unspaced [] h = tt
stop_unspaced (b ∷ e) h = h.1

no_align_at : (e : List ℕ) → IsStop e → after (codes "align") e ≡ None
no_align_at [] h = refl
no_align_at (b ∷ e) h = not_after 97 b (codes "lign") e h.2

no_by_at : (e : List ℕ) → IsStop e → after (codes "by") e ≡ None
no_by_at [] h = refl
no_by_at (b ∷ e) h = not_after 98 b (codes "y") e h.3

no_align : (rest : List ℕ) → Ends rest → after_word (codes "align") rest ≡ None
no_align rest e = ap (after_word (codes "align")) e.is ∙ word_none 97 (codes "lign") e.spaces e.stop e.are (stop_unspaced e.stop e.stops)
    (no_align_at e.stop e.stops)

no_by : (rest : List ℕ) → Ends rest → after_word (codes "by") rest ≡ None
no_by rest e = ap (after_word (codes "by")) e.is ∙ word_none 98 (codes "y") e.spaces e.stop e.are (stop_unspaced e.stop e.stops) (no_by_at e.stop e.stops)

-- ---- bounds

record Opens (bytes : List ℕ) : Type 0 where
  first : ℕ
  more : List ℕ
  is : bytes ≡ first ∷ more
  no_hash : first ≢ 35
  no_less : first ≢ 60

opens : (s b rest : List ℕ) → AreSpaces s → Starts b → Opens (s ++ (b ++ rest))
opens [] [] rest a h = absurd h
opens [] (c ∷ b) rest a (inl e) = record { first = c; more = b ++ rest; is = refl; no_hash = λ x. omega (arith, e, x); no_less = λ x. omega (arith, e, x) }
opens [] (c ∷ b) rest a (inr h) = record { first = c; more = b ++ rest; is = refl; no_hash = λ x. omega (arith, h.0, x); no_less = λ x. omega (arith, h.1, x) }
opens (c ∷ s) b rest a h = let e = a.0 in record {
  first = c;
  more = s ++ (b ++ rest);
  is = refl;
  no_hash = λ x. omega (arith, e, x);
  no_less =
      λ x. omega (arith, e, x);
}

other_dots : (b k : ℕ) (bytes : List ℕ) → b ≢ k → after_token (46 ∷ 46 ∷ k ∷ []) (46 ∷ 46 ∷ b ∷ bytes) ≡ None
other_dots b k bytes h = ap (λ (t : Bool). option_map skip_spaces (cond (t && true) (Some bytes) None)) (ne_eqb k b (λ e. h (sym e)))

to_by : (b : ℕ) (bytes : List ℕ) → b ≢ 35 → b ≢ 60 → upper_at (46 ∷ 46 ∷ b ∷ bytes) ≡ to_at (skip_spaces (b ∷ bytes))
to_by b bytes hash less =
    let text : List ℕ = 46 ∷ 46 ∷ b ∷ bytes in
    let last = option_and_then to_at (after_token (codes "..") text) in
    ap (λ (o : Option (List ℕ)). option_map_or below_at o (option_map_or count_at (after_token (codes "..#") text) last)) (other_dots b 60 bytes less)
    ∙ ap (λ (o : Option (List ℕ)). option_map_or count_at o last) (other_dots b 35 bytes hash)

to_read : (s b rest : List ℕ) (n : ℤ) → AreSpaces s → IsInteger b n → EndsDigits rest → upper_at (46 ∷ 46 ∷ (s ++ (b ++ rest))) ≡ Some (To n, rest)
to_read s b rest n a h e =
    let o = opens s b rest a (integer_starts b n h) in
    ap (λ x. upper_at (46 ∷ 46 ∷ x)) o.is ∙ to_by o.first o.more o.no_hash o.no_less ∙ ap (λ x. to_at (skip_spaces x)) (sym o.is)
    ∙ ap to_at (skip_over s (b ++ rest) a (starts_unspaced b rest (integer_starts b n h)))
    ∙ ap (option_map (λ (m : ℤ × List ℕ). (To m.0, m.1))) (integer_read b rest n h e)

count_read : (b rest : List ℕ) (n : ℕ) → IsNatural b n → n < 2 ^ 63 → EndsDigits rest → natural_at (b ++ rest) ≡ Some (n, rest)
count_read b rest n h l e = ap (option_and_then natural) (natural_read b rest n h e) ∙ rw (lt-ltb n (2 ^ 63) l) refl

upper_read : (text rest : List ℕ) (u : Upper) → IsUpper text u → EndsDigits rest → upper_at (text ++ rest) ≡ Some (u, rest)
upper_read text rest (To n) (s, b, a, h, e) f = ap upper_at (ap (λ x. x ++ rest) e ∙ ap (λ x. 46 ∷ 46 ∷ x) (append_assoc s b rest)) ∙ to_read s b rest n a h f
upper_read text rest (Below n) (s, b, a, h, e) f = ap upper_at (ap (λ x. x ++ rest) e ∙ ap (λ x. 46 ∷ 46 ∷ 60 ∷ x) (append_assoc s b rest))
    ∙ ap below_at (skip_over s (b ++ rest) a (starts_unspaced b rest (integer_starts b n h))) ∙
    ap (option_map (λ (m : ℤ × List ℕ). (Below m.0, m.1))) (integer_read b rest n h f)
upper_read text rest (Count n) (s, b, a, h, l, e) f = ap upper_at (ap (λ x. x ++ rest) e ∙ ap (λ x. 46 ∷ 46 ∷ 35 ∷ x) (append_assoc s b rest))
    ∙ ap count_at (skip_over s (b ++ rest) a (starts_unspaced b rest (natural_starts b n h))) ∙
    ap (option_map (λ (m : ℕ × List ℕ). (Count m.0, m.1))) (count_read b rest n h l f)

-- a text at the front spells the value, and the rest follows it
abbrev pub Found : {X : Type 0} → (List ℕ → X → Type 0) → List ℕ → X → List ℕ → Type 0
Found G bytes x rest = (text : List ℕ) × G text x × (bytes ≡ text ++ rest)

within_by : (t : Bool) (d : ℕ × List ℕ) (n : ℕ) (rest : List ℕ) → nat_lt d.0 (2 ^ 63) ≡ t → cond {A = Option (ℕ × List ℕ)} t (Some d) None ≡ Some (n, rest) →
    (d.0 < 2 ^ 63) × (d.0 ≡ n) × (d.1 ≡ rest)
within_by true d n rest t e = let p = some_pair_parts d.0 n d.1 rest e in (ltb-true d.0 (2 ^ 63) t, p.0, p.1)
within_by false d n rest t e = absurd (cc)

bound_found : (f : ℤ → Upper) (token bytes x rest : List ℕ) (u : Upper) →
    ((s b : List ℕ) (n : ℤ) → AreSpaces s → IsInteger b n → IsUpper (token ++ (s ++ b)) (f n))
    → ((s : List ℕ) × AreSpaces s × (bytes ≡ token ++ (s ++ x))) →
    option_map {U = Upper × List ℕ} (λ (n : ℤ × List ℕ). (f n.0, n.1)) (integer_at x) ≡ Some (u, rest) → Found IsUpper bytes u rest
bound_found f token bytes x rest u g (s, a, h) e = mapped (λ (n : ℤ × List ℕ). (f n.0, n.1)) (integer_at x) (u, rest) e (λ n o p.
    let t = integer_found x n.1 n.0 o in
    let same : f n.0 ≡ u = ap (λ (q : Upper × List ℕ). q.0) p in
    let left : n.1 ≡ rest = ap (λ (q : Upper × List ℕ). q.1) p in
    let joined : (token ++ (s ++ t.0)) ++ rest ≡ token ++ (s ++ (t.0 ++ rest)) = simp append_assoc in (
      token ++ (s ++ t.0),
      subst (IsUpper (token ++ (s ++ t.0))) same (g s t.0 n.0 a t.1),
      h ∙ ap (λ y. token ++ (s ++ y)) (t.3 ∙ ap (λ y. t.0 ++ y) left) ∙
          sym joined,
    ))

count_found : (bytes x rest : List ℕ) (u : Upper) → ((s : List ℕ) × AreSpaces s × (bytes ≡ codes "..#" ++ (s ++ x))) → count_at x ≡ Some (u, rest) →
    Found IsUpper bytes u rest
count_found bytes x rest u (s, a, h) e = mapped (λ (n : ℕ × List ℕ). (Count n.0, n.1)) (natural_at x) (u, rest) e (λ n o p.
    option_and_then_some natural (digits_at x) n o (λ d q f.
    let k = within_by (nat_lt d.0 (2 ^ 63)) d n.0 n.1 refl f in
    let t = natural_found x d.1 d.0 q in
    let same : Count d.0 ≡ u = ap (λ m. Count m) k.1 ∙ ap (λ (q : Upper × List ℕ). q.0) p in
    let left : d.1 ≡ rest = k.2 ∙ ap (λ (q : Upper × List ℕ). q.1) p in
    let joined : (codes "..#" ++ (s ++ t.0)) ++ rest ≡ codes "..#" ++ (s ++ (t.0 ++ rest)) = simp append_assoc in (
      codes "..#" ++ (s ++ t.0),
      subst (IsUpper (codes "..#" ++ (s ++ t.0))) same (s, t.0, a, t.1, k.0, refl),
      h ∙
          ap (λ y. codes "..#" ++ (s ++ y)) (t.3 ∙ ap (λ y. t.0 ++ y) left) ∙ sym joined,
    )))

hash_by : (o : Option (List ℕ)) (bytes rest : List ℕ) (u : Upper) → after_token (codes "..#") bytes ≡ o →
    option_map_or count_at o (option_and_then to_at (after_token (codes "..") bytes)) ≡ Some (u, rest) → Found IsUpper bytes u rest
hash_by (Some x) bytes rest u o e = count_found bytes x rest u (token_found (codes "..#") bytes x o) e
hash_by None bytes rest u o e = option_and_then_some to_at (after_token (codes "..") bytes) (u, rest) e (λ x q f.
    bound_found (λ n. To n) (codes "..") bytes x rest u (λ s b n a h. (s, b, a, h, refl)) (token_found (codes "..") bytes x q) f)

less_by : (o : Option (List ℕ)) (bytes rest : List ℕ) (u : Upper) → after_token (codes "..<") bytes ≡ o
    → option_map_or below_at o (option_map_or count_at (after_token (codes "..#") bytes) (option_and_then to_at (after_token (codes "..") bytes))) ≡ Some
    (u, rest) → Found IsUpper bytes u rest
less_by (Some x) bytes rest u o e = bound_found (λ n. Below n) (codes "..<") bytes x rest u (λ s b n a h. (s, b, a, h, refl))
    (token_found (codes "..<") bytes x o) e
less_by None bytes rest u o e = hash_by (after_token (codes "..#") bytes) bytes rest u refl e

upper_found : (bytes rest : List ℕ) (u : Upper) → upper_at bytes ≡ Some (u, rest) → Found IsUpper bytes u rest
upper_found bytes rest u e = less_by (after_token (codes "..<") bytes) bytes rest u refl e

-- ---- strides

word_joined : (word s u rest : List ℕ) → ((32 ∷ s) ++ (word ++ (32 ∷ u))) ++ rest ≡ (32 ∷ s) ++ (word ++ (32 ∷ (u ++ rest)))
word_joined word s u rest = append_assoc (32 ∷ s) (word ++ (32 ∷ u)) rest ∙ ap (λ x. (32 ∷ s) ++ x) (append_assoc word (32 ∷ u) rest)

align_read : (stride : ℤ) (text rest : List ℕ) (al : Option ℤ) → IsAlign text al → Ends rest →
    align_at stride (text ++ rest) ≡ Some (Some (record { stride = stride; align = al }), rest)
align_read stride text rest None e f = ap (λ x. align_at stride (x ++ rest)) e ∙ rw (no_align rest f) refl
align_read stride text rest (Some t) (w, n, (s, u, a, b, we), h, e) f =
    let joined : text ++ rest ≡ (32 ∷ s) ++ (codes "align" ++ (32 ∷ (u ++ (n ++ rest)))) = rw (e, we) (simp append_assoc) in
    ap (align_at stride) joined
    ∙ rw (
      word_over 97 (codes "lign") s u (n ++ rest) (λ r. refl) (λ x. omega (arith, x)) a b (starts_unspaced n rest (integer_starts n t h)),
      integer_read n rest t h (ends_digits rest f),
    ) refl

align_ends : (text rest : List ℕ) (al : Option ℤ) → IsAlign text al → Ends rest → EndsDigits (text ++ rest)
align_ends text rest None e f = subst (λ x. EndsDigits (x ++ rest)) (sym e) (ends_digits rest f)
align_ends text rest (Some t) (w, n, (s, u, a, b, we), h, e) f = rw (e, we) refl

by_read : (text rest : List ℕ) (by : Option Stride) → IsBy text by → Ends rest → stride_at (text ++ rest) ≡ Some (by, rest)
by_read text rest None e f = ap (λ x. stride_at (x ++ rest)) e ∙ rw (no_by rest f) refl
by_read text rest (Some st) (w, n, al, (s, u, a, b, we), h, nz, k, e) f =
    let joined : text ++ rest ≡ (32 ∷ s) ++ (codes "by" ++ (32 ∷ (u ++ (n ++ (al ++ rest))))) =
    ap (λ x. x ++ rest) e ∙ append_assoc w (n ++ al) rest ∙ ap (λ x. w ++ x) (append_assoc n al rest) ∙ ap (λ x. x ++ (n ++ (al ++ rest))) we ∙
    word_joined (codes "by") s u (n ++ (al ++ rest)) in
    ap stride_at joined
    ∙ rw (
      word_over 98 (codes "y") s u (n ++ (al ++ rest)) (λ r. refl) (λ x. omega (arith, x)) a b
          (starts_unspaced n (al ++ rest) (integer_starts n st.stride h)),
      integer_read n (al ++ rest) st.stride h (align_ends al rest st.align k f),
      int_ne st.stride nz,
    )
    (align_read st.stride al rest st.align k f)

by_ends : (text rest : List ℕ) (by : Option Stride) → IsBy text by → Ends rest → EndsDigits (text ++ rest)
by_ends text rest None e f = subst (λ x. EndsDigits (x ++ rest)) (sym e) (ends_digits rest f)
by_ends text rest (Some st) (w, n, al, (s, u, a, b, we), h, nz, k, e) f = rw (e, we) refl

-- what the reader of an alignment found
record AlignFound (stride : ℤ) (bytes rest : List ℕ) (st : Option Stride) : Type 0 where
  text : List ℕ
  align : Option ℤ
  spelled : IsAlign text align
  is : st ≡ Some (record { stride = stride; align = align })
  bytes_are : bytes ≡ text ++ rest

align_by : (o : Option (List ℕ)) (stride : ℤ) (bytes rest : List ℕ) (st : Option Stride) → after_word (codes "align") bytes ≡ o
    → option_map_or {T = List ℕ} {U = Option (Option Stride × List ℕ)}
    (λ r. option_map (λ (t : ℤ × List ℕ). (Some (record { stride = stride; align = Some t.0 }), t.1)) (integer_at r)) o
    (Some (Some (record { stride = stride; align = None }), bytes)) ≡ Some (st, rest)
    → AlignFound stride bytes rest st
align_by None stride bytes rest st o e =
    let p = some_pair_parts (Some (record { stride = stride; align = None })) st bytes rest e in
    record { text = []; align = None; spelled = refl; is = sym p.0; bytes_are = p.1 }
align_by (Some x) stride bytes rest st o e =
    let w = word_found (codes "align") bytes x o in
    mapped (λ (t : ℤ × List ℕ). (Some (record { stride = stride; align = Some t.0 }), t.1)) (integer_at x) (st, rest) e (λ n q p.
    let t = integer_found x n.1 n.0 q in
    let word : List ℕ = (32 ∷ w.0) ++ (codes "align" ++ (32 ∷ w.1)) in
    record {
      text = word ++ t.0;
      align = Some n.0;
      spelled = (word, t.0, (w.0, w.1, w.2, w.3, refl), t.1, refl);
      is = sym (ap (λ (q : Option Stride × List ℕ). q.0) p);
      bytes_are = w.4 ∙ sym (word_joined (codes "align") w.0 w.1 x) ∙
          ap (λ y. word ++ y) (t.3 ∙ ap (λ y. t.0 ++ y) (ap (λ (q : Option Stride × List ℕ). q.1) p)) ∙ sym (append_assoc word t.0 rest);
    })

nonzero_by : (t : Bool) (i s : ℤ × List ℕ) → int_eq i.0 (pos 0) ≡ t → cond {A = Option (ℤ × List ℕ)} t None (Some i) ≡ Some s → (i ≡ s) × (i.0 ≢ pos 0)
nonzero_by true i s t e = absurd (cc)
nonzero_by false i s t e = (same_Some i s e, λ z. true≢false (sym (int_same i.0 z) ∙ t))

by_by : (o : Option (List ℕ)) (bytes rest : List ℕ) (st : Option Stride) → after_word (codes "by") bytes ≡ o
    → option_map_or {T = List ℕ} {U = Option (Option Stride × List ℕ)} (λ r. option_and_then (λ s. align_at s.0 s.1) (nonzero_at r)) o
    (Some (None, bytes)) ≡ Some (st, rest) → Found IsBy bytes st rest
by_by None bytes rest st o e =
    let p = some_pair_parts None st bytes rest e in
    ([], subst (IsBy []) p.0 refl, p.1)
by_by (Some x) bytes rest st o e =
    let w = word_found (codes "by") bytes x o in
    option_and_then_some (λ (s : ℤ × List ℕ). align_at s.0 s.1) (nonzero_at x) (st, rest) e (λ s q f.
    option_and_then_some (λ (i : ℤ × List ℕ). cond (int_eq i.0 (pos 0)) None (Some i)) (integer_at x) s q (λ i k z.
    let fits = nonzero_by (int_eq i.0 (pos 0)) i s refl z in
    let t = integer_found x i.1 i.0 k in
    let a = align_by (after_word (codes "align") s.1) s.0 s.1 rest st refl f in
    let word : List ℕ = (32 ∷ w.0) ++ (codes "by" ++ (32 ∷ w.1)) in
    let value : i.0 ≡ s.0 = ap (λ (q : ℤ × List ℕ). q.0) fits.0 in
    let left : i.1 ≡ s.1 = ap (λ (q : ℤ × List ℕ). q.1) fits.0 in (
      word ++ (t.0 ++ a.text),
      subst (IsBy (word ++ (t.0 ++ a.text))) (sym a.is) (
        word,
        t.0,
        a.text,
        (w.0, w.1, w.2, w.3, refl),
        subst (IsInteger t.0) value t.1,
        subst (λ n. n ≢ pos 0) value fits.1,
        a.spelled,
        refl,
      ),
      w.4 ∙ sym (word_joined (codes "by") w.0 w.1 x) ∙ ap (λ y. word ++ y) (t.3 ∙ ap (λ y. t.0 ++ y) (left ∙ a.bytes_are) ∙ sym (append_assoc t.0 a.text rest))
          ∙ sym (append_assoc word (t.0 ++ a.text) rest),
    )))

by_found : (bytes rest : List ℕ) (st : Option Stride) → stride_at bytes ≡ Some (st, rest) → Found IsBy bytes st rest
by_found bytes rest st e = by_by (after_word (codes "by") bytes) bytes rest st refl e

-- ---- ranges

upper_dots : (text : List ℕ) (u : Upper) → IsUpper text u → (more : List ℕ) × (text ≡ 46 ∷ more)
upper_dots text (To n) (s, b, a, h, e) = (46 ∷ (s ++ b), e)
upper_dots text (Below n) (s, b, a, h, e) = (46 ∷ 60 ∷ (s ++ b), e)
upper_dots text (Count n) (s, b, a, h, l, e) = (46 ∷ 35 ∷ (s ++ b), e)

dots_unspaced : (text rest : List ℕ) (u : Upper) → IsUpper text u → NoSpace (text ++ rest)
dots_unspaced text rest u h = let d = upper_dots text u h in subst (λ x. NoSpace (x ++ rest)) (sym d.1) (λ x. omega (arith, x))

dots_by : (s text rest : List ℕ) → AreSpaces s → (more : List ℕ) → text ≡ 46 ∷ more → EndsDigits (s ++ (text ++ rest))
dots_by [] text rest a more e = subst (λ x. EndsDigits (x ++ rest)) (sym e) refl
dots_by (b ∷ s) text rest a more e = ap is_digit a.0

dots_end : (s text rest : List ℕ) (u : Upper) → AreSpaces s → IsUpper text u → EndsDigits (s ++ (text ++ rest))
dots_end s text rest u a h = let d = upper_dots text u h in dots_by s text rest a d.0 d.1

pub range_read : (text rest : List ℕ) (r : RangeLiteral) → IsRange text r → Ends rest → range_at (text ++ rest) ≡ Some (r, rest)
range_read text rest r (low, s, up, by, h, a, u, k, e) f =
    let joined : text ++ rest ≡ low ++ (s ++ (up ++ (by ++ rest))) = rw e (simp append_assoc) in
    ap range_at joined
    ∙ rw (
      integer_read low (s ++ (up ++ (by ++ rest))) r.low h (dots_end s up (by ++ rest) r.upper a u),
      skip_over s (up ++ (by ++ rest)) a (dots_unspaced up (by ++ rest) r.upper u),
      upper_read up (by ++ rest) r.upper u (by_ends by rest r.stride k f),
      by_read by rest r.stride k f,
    ) refl

pub range_found : (bytes rest : List ℕ) (r : RangeLiteral) → range_at bytes ≡ Some (r, rest) → Found IsRange bytes r rest
range_found bytes rest r e = option_and_then_some (λ (low : ℤ × List ℕ). option_and_then
    (λ (up : Upper × List ℕ). option_map (λ (s : Option Stride × List ℕ). (record { low = low.0; upper = up.0; stride = s.0 }, s.1)) (stride_at up.1))
    (upper_at (skip_spaces low.1))) (integer_at bytes) (r, rest) e (λ low f g.
    option_and_then_some (λ (up : Upper × List ℕ). option_map (λ (s : Option Stride × List ℕ). (record { low = low.0; upper = up.0; stride = s.0 }, s.1))
    (stride_at up.1)) (upper_at (skip_spaces low.1)) (r, rest) g (λ up h k.
    mapped (λ (s : Option Stride × List ℕ). (record { low = low.0; upper = up.0; stride = s.0 }, s.1)) (stride_at up.1) (r, rest) k (λ st m p.
    let l = integer_found bytes low.1 low.0 f in
    let sp = spaces_of low.1 in
    let u = upper_found (skip_spaces low.1) up.1 up.0 h in
    let b = by_found up.1 st.1 st.0 m in
    let left : st.1 ≡ rest = ap (λ (q : RangeLiteral × List ℕ). q.1) p in
    let whole : (l.0 ++ (sp.0 ++ (u.0 ++ b.0))) ++ rest ≡ l.0 ++ (sp.0 ++ (u.0 ++ (b.0 ++ rest))) = simp append_assoc in (
      l.0 ++ (sp.0 ++ (u.0 ++ b.0)),
      subst (IsRange (l.0 ++ (sp.0 ++ (u.0 ++ b.0)))) (ap (λ (q : RangeLiteral × List ℕ). q.0) p) (l.0, sp.0, u.0, b.0, l.1, sp.1, u.1, b.1, refl),
      l.3 ∙ ap (λ x. l.0 ++ x) (sp.2 ∙ ap (λ x. sp.0 ++ x) (u.2 ∙ ap (λ x. u.0 ++ x) (b.2 ∙ ap (λ x. b.0 ++ x) left))) ∙ sym whole,
    ))))

pub ends_nil : Ends []
ends_nil = record { spaces = []; stop = []; are = tt; is = refl; stops = tt }

pub range_exact : (text : List ℕ) (r : RangeLiteral) → (range_of text ≡ Some r) ↔ IsRange text r
range_exact = exact range_at IsRange range_found (λ text r h. range_read text [] r h ends_nil)

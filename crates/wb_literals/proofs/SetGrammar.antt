-- Sets and domains: what is spelled is read, and what is read is spelled.
use Rattle.std.proofs.Common.{◌≡◌, ◌≢◌, ◌↔◌, ◌⊎◌, inl, inr, ℕ, zero, suc, ◌+◌, ◌<◌, ◌≤◌, ℤ, Bool, true, false, cond, not, ◌&&◌, nat_eq, nat_le, nat_lt, List}
use Rattle.std.proofs.Common.{[], ◌∷◌, ◌++◌, codes, length, take, drop, position, Option, Some, None, option_map, option_and_then, IsUtf8, refl, sym, ap, ◌∙◌}
use Rattle.std.proofs.Common.{subst, append_assoc, append-nil, length-append, take_all, take_at, drop_at, lt-ltb, ltb-true, eqb-true, arith}
use Rattle.std.proofs.lemmas.Bool.{and_parts, not-true, cond_both}
use Rattle.std.proofs.lemmas.List.{length_push}
use Rattle.std.proofs.lemmas.List.Sums.{split_at_first, passes_at_first}
use Rattle.std.proofs.lemmas.Option.{none-some, same_Some, cond_some, option_and_then_some, some_pair_parts}
use Rattle.std.proofs.lemmas.Str.{IsUtf8-nil, IsUtf8-from_is_utf8}
use Rattle.std.specs.List.{list_all, before_first, after_first, position_or_len}
use Rattle.std.specs.Option.{option_map_or}
use Rattle.std.specs.Str.{is_utf8}
use Rattle.std.specs.Str.Lossy.{valid_len_up_to, utf8_valid_len}
use Rattle.wb_sets.specs.Labels.{IsLabel, is_label, is_plain}
use Rattle.wb_literals.specs.Integer.{integer_at}
use Rattle.wb_literals.specs.Spelling.{IsInteger}
use Rattle.wb_literals.specs.Tokens.{skip_spaces, after, after_token, comma_at, close_at}
use Rattle.wb_literals.specs.Range.{upper_at, range_at}
use Rattle.wb_literals.specs.Rectangle.{rectangle_at, rectangle_of}
use Rattle.wb_literals.specs.Index.{index_at}
use Rattle.wb_literals.specs.Set.{Items, nothing, integers, pairs, triples, texts, items_at, listed_at, as_pair, pair_at, as_triple, triple_at, is_text}
use Rattle.wb_literals.specs.Set.{label_of, is_quote, quoted_at, text_at, indices_at, texts_at, filled_at, set_at, set_literal_of}
use Rattle.wb_literals.specs.Domain.{Domain, rectangle, set, domain_of}
use Rattle.wb_literals.specs.Grammar.{AreSpaces, IsComma, AreMore, AreListed, IsEnclosed, IsPair, IsTriple, IsText, IsIndex, IsSet, IsDomain}
use Rattle.wb_literals.specs.declared.rectangle.RectangleLiteral.{RectangleLiteral}
use Rattle.wb_literals.specs.declared.index.IndexLiteral.{IndexLiteral}
use Rattle.wb_literals.specs.declared.index.IndexLiteral.TheVariants.{Integer, Pair, Triple}
use Rattle.wb_literals.proofs.Exact.{exact}
use Rattle.wb_literals.proofs.Texts.{label_yes}
use Rattle.wb_literals.proofs.TokenLemmas.{NoSpace, skip_over, not_after, after_found, token_found, no_comma, close_over, close_found, mapped}
use Rattle.wb_literals.proofs.RangeGrammar.{Starts, Ends, Found, integer_starts}
use Rattle.wb_literals.proofs.ListGrammar.{Closes, brace, Reads, closing_ends, more_ends}
use Rattle.wb_literals.proofs.RectangleGrammar.{rectangle_exact}
use Rattle.wb_literals.proofs.IndexGrammar.{integer_reads, index_found, index_read}
use Rattle.wb_literals.proofs.MappingGrammar.{index_unspaced, comma_read, comma_is}

-- ---- lists of any length

module _ {X : Type 0} (at : List ℕ → Option (X × List ℕ)) (Item : List ℕ → X → Type 0) (r : Reads at Item) where
  -- an item, and then the further ones
  abbrev then_more : ℕ → X × List ℕ → Option (List X × List ℕ)
  then_more n x = option_map_or {T = List ℕ} {U = Option (List X × List ℕ)}
      (λ (rest : List ℕ). option_map {U = List X × List ℕ} (λ (more : List X × List ℕ). (x.0 ∷ more.0, more.1)) (items_at at n rest)) (comma_at x.1)
      (Some (x.0 ∷ [], x.1))

  more_of : (c l : List ℕ) (xs : List X) → IsComma c → AreListed Item l xs → AreMore Item (c ++ l) xs
  more_of c l [] k h = absurd h
  more_of c l (x ∷ xs) k (a, b, i, m, e) = (c, a, b, k, i, m, ap (λ y. c ++ y) e)

  next_items : (o : Option (List ℕ)) (n : ℕ) (bytes behind rest a : List ℕ) (x : X) (xs : List X) →
      ((z w : List ℕ) (ys : List X) → items_at at n z ≡ Some (ys, w) → Found (AreListed Item) z ys w)
      → Item a x → bytes ≡ a ++ behind → comma_at behind ≡ o
      → option_map_or {T = List ℕ} {U = Option (List X × List ℕ)} (λ (z : List ℕ). option_map {U = List X × List ℕ}
      (λ (more : List X × List ℕ). (x ∷ more.0, more.1)) (items_at at n z)) o (Some (x ∷ [], behind)) ≡ Some (xs, rest)
      → Found (AreListed Item) bytes xs rest
  next_items None n bytes behind rest a x xs again i h o e =
      let p = some_pair_parts (x ∷ []) xs behind rest e in
      (a, subst (AreListed Item a) p.0 (a, [], i, refl, sym (append-nil a)), h ∙ ap (λ z. a ++ z) p.1)
  next_items (Some z) n bytes behind rest a x xs again i h o e =
      mapped {B = List X × List ℕ} (λ (more : List X × List ℕ). (x ∷ more.0, more.1)) (items_at at n z) (xs, rest) e (λ m f p.
      let t = again z m.1 m.0 f in
      let c = comma_is behind z o in
      let value : x ∷ m.0 ≡ xs = ap (λ (q : List X × List ℕ). q.0) p in
      let left : m.1 ≡ rest = ap (λ (q : List X × List ℕ). q.1) p in
      let text : List ℕ = a ++ (c.0 ++ t.0) in
      let joined : text ++ rest ≡ a ++ (c.0 ++ (t.0 ++ rest)) = append_assoc a (c.0 ++ t.0) rest ∙ ap (λ y. a ++ y) (append_assoc c.0 t.0 rest) in (
        text,
        subst (AreListed Item text) value (a, c.0 ++ t.0, i, more_of c.0 t.0 m.0 c.1 t.1, refl),
        h ∙
            ap (λ y. a ++ y) (c.2 ∙ ap (λ y. c.0 ++ y) (t.2 ∙ ap (λ y. t.0 ++ y) left)) ∙ sym joined,
      ))

  pub items_found : (n : ℕ) (bytes rest : List ℕ) (xs : List X) → items_at at n bytes ≡ Some (xs, rest) → Found (AreListed Item) bytes xs rest
  items_found zero bytes rest xs e = absurd (none-some (xs, rest) e)
  items_found (suc n) bytes rest xs e = option_and_then_some (then_more n) (at bytes) (xs, rest) e (λ x f g.
      let i = r.found bytes x.1 x.0 f in
      next_items (comma_at x.1) n bytes x.1 rest i.0 x.0 xs (λ z w ys h. items_found n z w ys h) i.1 i.2 refl g)

  pub items_read : (n d : ℕ) (a b t rest : List ℕ) (x : X) (xs : List X) → Closes d → Item a x → AreMore Item b xs → AreSpaces t → length xs < n →
      items_at at n (a ++ (b ++ (t ++ (d ∷ rest)))) ≡ Some (x ∷ xs, t ++ (d ∷ rest))
  items_read zero d a b t rest x xs k i m s l = absurd (omega (arith, l))
  items_read (suc n) d a b t rest x [] k i m s l =
      let tail : List ℕ = t ++ (d ∷ rest) in
      ap (λ z. items_at at (suc n) (a ++ (z ++ tail))) m
      ∙ ap (option_and_then (then_more n)) (r.read a tail x i (closing_ends d t rest k s))
      ∙ ap (λ o. option_map_or {T = List ℕ} {U = Option (List X × List ℕ)}
      (λ (z : List ℕ). option_map {U = List X × List ℕ} (λ (more : List X × List ℕ). (x ∷ more.0, more.1)) (items_at at n z)) o (Some (x ∷ [], tail)))
      (no_comma d t rest s k.stop.1 k.other)
  items_read (suc n) d a b t rest x (y ∷ ys) k i (c, u, w, p, j, m, e) s l =
      let tail : List ℕ = t ++ (d ∷ rest) in
      let joined : b ++ tail ≡ c ++ (u ++ (w ++ tail)) = ap (λ z. z ++ tail) e ∙ append_assoc c (u ++ w) tail ∙ ap (λ z. c ++ z) (append_assoc u w tail) in
      ap (option_and_then (then_more n)) (r.read a (b ++ tail) x i (more_ends at Item r d b t rest (y ∷ ys) k (c, u, w, p, j, m, e) s))
      ∙ ap (λ o. option_map_or {T = List ℕ} {U = Option (List X × List ℕ)}
      (λ (z : List ℕ). option_map {U = List X × List ℕ} (λ (more : List X × List ℕ). (x ∷ more.0, more.1)) (items_at at n z)) o (Some (x ∷ [], b ++ tail)))
      (ap comma_at joined ∙ comma_read c (u ++ (w ++ tail)) p (r.unspaced u (w ++ tail) y j))
      ∙ ap (option_map {U = List X × List ℕ} (λ (more : List X × List ℕ). (x ∷ more.0, more.1))) (items_read n d u w t rest y ys k j m s (omega (arith, l)))

  -- each further item takes a byte or more
  pub more_long : (b : List ℕ) (xs : List X) → AreMore Item b xs → length xs ≤ length b
  more_long b [] e = omega arith
  more_long b (x ∷ xs) (c, a, w, (s, t, p, q, f), i, m, e) =
      let all : length b ≡ length c + (length a + length w) = ap length e ∙ length-append c (a ++ w) ∙ ap (λ n. length c + n) (length-append a w) in
      let comma : length c ≡ length s + length (44 ∷ t) = ap length f ∙ length-append s (44 ∷ t) in
      let fewer : length xs ≤ length w = more_long w xs m in
      omega (arith, all, comma, fewer)

  -- the items of a set, and its closing brace
  abbrev closed : List X × List ℕ → Option (List X × List ℕ)
  closed x = option_map {U = List X × List ℕ} (λ (rest : List ℕ). (x.0, rest)) (close_at (codes "}") x.1)

  listed_found : (inside rest : List ℕ) (xs : List X) → listed_at at inside ≡ Some (xs, rest) → (l t : List ℕ) × AreListed Item l xs × AreSpaces t ×
      (inside ≡ l ++ (t ++ (125 ∷ rest)))
  listed_found inside rest xs e = option_and_then_some closed (items_at at (length inside) inside) (xs, rest) e (λ y f g.
      mapped {B = List X × List ℕ} (λ (z : List ℕ). (y.0, z)) (close_at (codes "}") y.1) (xs, rest) g (λ z h p.
      let i = items_found (length inside) inside y.1 y.0 f in
      let q = close_found (125 ∷ []) y.1 z h in
      let value : y.0 ≡ xs = ap (λ (m : List X × List ℕ). m.0) p in
      let left : z ≡ rest = ap (λ (m : List X × List ℕ). m.1) p in
      (i.0, q.0, subst (AreListed Item i.0) value i.1, q.1, i.2 ∙ ap (λ w. i.0 ++ w) (q.2 ∙ ap (λ w. q.0 ++ (125 ∷ w)) left))))

  braced_found : (bytes inside s rest : List ℕ) (xs : List X) → AreSpaces s → bytes ≡ 123 ∷ (s ++ inside) → listed_at at inside ≡ Some (xs, rest) →
      Found (IsEnclosed (codes "{") (codes "}") Item) bytes xs rest
  braced_found bytes inside s rest xs a h e =
      let f = listed_found inside rest xs e in
      let l = f.0 in
      let t = f.1 in
      let text : List ℕ = 123 ∷ (s ++ (l ++ (t ++ (125 ∷ [])))) in
      let joined : text ++ rest ≡ 123 ∷ (s ++ (l ++ (t ++ (125 ∷ rest)))) =
      ap (λ z. 123 ∷ z) (append_assoc s (l ++ (t ++ (125 ∷ []))) rest ∙
      ap (λ z. s ++ z) (append_assoc l (t ++ (125 ∷ [])) rest ∙ ap (λ z. l ++ z) (append_assoc t (125 ∷ []) rest))) in
      (text, (s, l, t, a, f.2, f.3, refl), h ∙ ap (λ z. 123 ∷ (s ++ z)) f.4 ∙ sym joined)

  -- what stands in the braces: a first item, and a comma or the closing brace behind it
  record Inside (text rest : List ℕ) (xs : List X) : Type 0 where
    first : List ℕ
    behind : List ℕ
    value : X
    item : Item first value
    ends : Ends behind
    opened : after_token (codes "{") (text ++ rest) ≡ Some (first ++ behind)
    listed : listed_at at (first ++ behind) ≡ Some (xs, rest)
    byte : ℕ
    more : List ℕ
    next : skip_spaces behind ≡ byte ∷ more
    no_dot : byte ≢ 46

  listed_read : (a b t rest : List ℕ) (x : X) (xs : List X) → Item a x → AreMore Item b xs → AreSpaces t →
      listed_at at (a ++ (b ++ (t ++ (125 ∷ rest)))) ≡ Some (x ∷ xs, rest)
  listed_read a b t rest x xs i m s =
      let tail : List ℕ = t ++ (125 ∷ rest) in
      let all : length (a ++ (b ++ tail)) ≡ length a + (length b + (length t + length (125 ∷ rest))) =
      length-append a (b ++ tail) ∙ ap (λ n. length a + n) (length-append b tail ∙ ap (λ n. length b + n) (length-append t (125 ∷ rest))) in
      let fewer : length xs ≤ length b = more_long b xs m in
      ap (option_and_then closed) (items_read (length (a ++ (b ++ tail))) 125 a b t rest x xs brace i m s (omega (arith, all, fewer)))
      ∙ ap (option_map {U = List X × List ℕ} (λ (z : List ℕ). (x ∷ xs, z))) (close_over 125 t rest brace.stop.1 s)

  next_byte : (b t rest : List ℕ) (xs : List X) → AreMore Item b xs → AreSpaces t → (byte : ℕ) × (more : List ℕ) ×
      (skip_spaces (b ++ (t ++ (125 ∷ rest))) ≡ byte ∷ more) × (byte ≢ 46)
  next_byte b t rest [] e s = (125, rest, ap (λ z. skip_spaces (z ++ (t ++ (125 ∷ rest)))) e ∙ skip_over t (125 ∷ rest) s brace.stop.1, λ z. omega (arith, z))
  next_byte b t rest (x ∷ xs) (c, a, w, (u, v, p, q, f), i, m, e) s =
      let tail : List ℕ = (a ++ w) ++ (t ++ (125 ∷ rest)) in
      let joined : b ++ (t ++ (125 ∷ rest)) ≡ u ++ (44 ∷ (v ++ tail)) = ap (λ z. z ++ (t ++ (125 ∷ rest))) e ∙ append_assoc c (a ++ w) (t ++ (125 ∷ rest)) ∙
      ap (λ z. z ++ tail) f ∙ append_assoc u (44 ∷ v) tail in
      (44, v ++ tail, ap skip_spaces joined ∙ skip_over u (44 ∷ (v ++ tail)) p (λ z. omega (arith, z)), λ z. omega (arith, z))

  inside_of : (text rest : List ℕ) (xs : List X) → IsEnclosed (codes "{") (codes "}") Item text xs → Inside text rest xs
  inside_of text rest [] (s, l, t, p, none, q, f) = absurd none
  inside_of text rest (x ∷ xs) (s, l, t, p, (a, b, i, m, e), q, f) =
      let behind : List ℕ = b ++ (t ++ (125 ∷ rest)) in
      let inner : (l ++ (t ++ (125 ∷ []))) ++ rest ≡ a ++ behind = append_assoc l (t ++ (125 ∷ [])) rest ∙ ap (λ z. z ++ ((t ++ (125 ∷ [])) ++ rest)) e ∙
      append_assoc a b ((t ++ (125 ∷ [])) ++ rest) ∙ ap (λ z. a ++ (b ++ z)) (append_assoc t (125 ∷ []) rest) in
      let joined : text ++ rest ≡ 123 ∷ (s ++ (a ++ behind)) = ap (λ z. z ++ rest) f ∙
      ap (λ z. 123 ∷ z) (append_assoc s (l ++ (t ++ (125 ∷ []))) rest ∙ ap (λ z. s ++ z) inner) in
      let n = next_byte b t rest xs m q in
      record {
        first = a;
        behind = behind;
        value = x;
        item = i;
        ends = more_ends at Item r 125 b t rest xs brace m q;
        opened = ap (after_token (codes "{")) joined ∙ ap (λ z. Some z) (skip_over s (a ++ behind) p (r.unspaced a behind x i));
        listed = listed_read a b t rest x xs i m q;
        byte = n.0;
        more = n.1;
        next = n.2;
        no_dot = n.3;
      }

-- ---- indices of one rank

abbrev paired : IndexLiteral × List ℕ → Option (List ℤ × List ℕ)
paired x = option_map {U = List ℤ × List ℕ} (λ (p : List ℤ). (p, x.1)) (as_pair x.0)

pair_by : (y : IndexLiteral) (bytes z rest : List ℕ) (p : List ℤ) → Found IsIndex bytes y z → paired (y, z) ≡ Some (p, rest) → Found IsPair bytes p rest
pair_by (Integer i) bytes z rest p f e = absurd (none-some (p, rest) e)
pair_by (Pair i j) bytes z rest p f e =
    let q = some_pair_parts (i ∷ j ∷ []) p z rest e in
    (f.0, (i, j, f.1, sym q.0), f.2 ∙ ap (λ x. f.0 ++ x) q.1)
pair_by (Triple i j k) bytes z rest p f e = absurd (none-some (p, rest) e)

pair_found : (bytes rest : List ℕ) (p : List ℤ) → pair_at bytes ≡ Some (p, rest) → Found IsPair bytes p rest
pair_found bytes rest p e = option_and_then_some paired (index_at bytes) (p, rest) e (λ x f g. pair_by x.0 bytes x.1 rest p (index_found bytes x.1 x.0 f) g)

pair_read : (text rest : List ℕ) (p : List ℤ) → IsPair text p → Ends rest → pair_at (text ++ rest) ≡ Some (p, rest)
pair_read text rest p (i, j, h, q) f = ap (option_and_then paired) (index_read text rest (Pair i j) h f) ∙ ap (λ (z : List ℤ). Some (z, rest)) (sym q)

pair_reads : Reads pair_at IsPair
pair_reads = record { found = pair_found; read = pair_read; unspaced = λ text rest p h. index_unspaced text rest (Pair h.0 h.1) h.2 }

abbrev tripled : IndexLiteral × List ℕ → Option (List ℤ × List ℕ)
tripled x = option_map {U = List ℤ × List ℕ} (λ (p : List ℤ). (p, x.1)) (as_triple x.0)

triple_by : (y : IndexLiteral) (bytes z rest : List ℕ) (p : List ℤ) → Found IsIndex bytes y z → tripled (y, z) ≡ Some (p, rest) → Found IsTriple bytes p rest
triple_by (Integer i) bytes z rest p f e = absurd (none-some (p, rest) e)
triple_by (Pair i j) bytes z rest p f e = absurd (none-some (p, rest) e)
triple_by (Triple i j k) bytes z rest p f e =
    let q = some_pair_parts (i ∷ j ∷ k ∷ []) p z rest e in
    (f.0, (i, j, k, f.1, sym q.0), f.2 ∙ ap (λ x. f.0 ++ x) q.1)

triple_found : (bytes rest : List ℕ) (p : List ℤ) → triple_at bytes ≡ Some (p, rest) → Found IsTriple bytes p rest
triple_found bytes rest p e = option_and_then_some tripled (index_at bytes) (p, rest) e
    (λ x f g. triple_by x.0 bytes x.1 rest p (index_found bytes x.1 x.0 f) g)

triple_read : (text rest : List ℕ) (p : List ℤ) → IsTriple text p → Ends rest → triple_at (text ++ rest) ≡ Some (p, rest)
triple_read text rest p (i, j, k, h, q) f = ap (option_and_then tripled) (index_read text rest (Triple i j k) h f) ∙ ap (λ (z : List ℤ). Some (z, rest)) (sym q)

triple_reads : Reads triple_at IsTriple
triple_reads = record { found = triple_found; read = triple_read; unspaced = λ text rest p h. index_unspaced text rest (Triple h.0 h.1 h.2) h.3 }

-- ---- texts in quotes

valid_le : (bs : List ℕ) (m : ℕ) → valid_len_up_to bs m ≤ m
valid_le bs zero = omega arith
valid_le bs (suc m) =
    let below = valid_le bs m in
    cond_both (is_utf8 (take (suc m) bs)) (suc m) (valid_len_up_to bs m) (λ n. n ≤ suc m) (λ e. omega arith) (λ e. omega (arith, below))

valid_by : (t : Bool) (bs : List ℕ) (m : ℕ) → is_utf8 (take (suc m) bs) ≡ t → cond t (suc m) (valid_len_up_to bs m) ≡ suc m → IsUtf8 (take (suc m) bs)
valid_by true bs m e f = IsUtf8-from_is_utf8 (take (suc m) bs) e
valid_by false bs m e f = let below = valid_le bs m in absurd (omega (arith, f, below))

valid_front : (bs : List ℕ) (m : ℕ) → valid_len_up_to bs m ≡ m → IsUtf8 (take m bs)
valid_front bs zero e = IsUtf8-nil
valid_front bs (suc m) e = valid_by (is_utf8 (take (suc m) bs)) bs m refl e

valid_whole : (bs : List ℕ) → utf8_valid_len bs ≡ length bs → IsUtf8 bs
unfolding utf8_valid_len
valid_whole bs e = subst IsUtf8 (take_all (length bs) bs (omega arith)) (valid_front bs (length bs) e)

label_found : (bytes label : List ℕ) → label_of bytes ≡ Some label → IsLabel label × (bytes ≡ label)
label_found bytes label e =
    let c = cond_some (is_text bytes) bytes label e in
    let b = and_parts (nat_eq (utf8_valid_len bytes) (length bytes)) (is_label bytes) c.0 in
    (subst IsLabel c.1 (record { utf8 = valid_whole bytes (eqb-true (utf8_valid_len bytes) (length bytes) b.0); accepted = b.1 }), c.1)

quote_found : (inside : List ℕ) (n : ℕ) → position is_quote inside ≡ Some n → inside ≡ take n inside ++ (34 ∷ drop (n + 1) inside)
quote_found inside n e =
    let c = cond_some (nat_lt (position_or_len is_quote inside) (length inside)) (position_or_len is_quote inside) n e in
    let lt = ltb-true (position_or_len is_quote inside) (length inside) c.0 in
    split_at_first is_quote inside 0 lt ∙ ap (λ b. before_first is_quote inside ++ (b ∷ after_first is_quote inside))
    (eqb-true _ 34 (passes_at_first is_quote inside 0 lt))
    ∙ ap (λ m. take m inside ++ (34 ∷ drop (m + 1) inside)) c.1

-- no quote is in a label
quote_place : (label rest : List ℕ) → list_all is_plain label ≡ true → position_or_len is_quote (label ++ (34 ∷ rest)) ≡ length label
quote_place [] rest h = refl
quote_place (b ∷ label) rest h =
    let p = and_parts (is_plain b) (list_all is_plain label) h in
    let visible = and_parts (nat_le 32 b) (not (nat_eq b 34) && (not (nat_eq b 92) && not (nat_eq b 127))) p.0 in
    let other = and_parts (not (nat_eq b 34)) (not (nat_eq b 92) && not (nat_eq b 127)) visible.1 in
    let again : position_or_len is_quote (label ++ (34 ∷ rest)) ≡ length label = quote_place label rest p.1 in
    ap (λ t. cond (not t) (1 + position_or_len is_quote (label ++ (34 ∷ rest))) 0) (not-true (nat_eq b 34) other.0) ∙ omega (arith, again)

quote_read : (label rest : List ℕ) → list_all is_plain label ≡ true → position is_quote (label ++ (34 ∷ rest)) ≡ Some (length label)
quote_read label rest h =
    let all : length (label ++ (34 ∷ rest)) ≡ length label + length (34 ∷ rest) = length-append label (34 ∷ rest) in
    ap (λ n. cond {A = Option ℕ} (nat_lt n (length (label ++ (34 ∷ rest)))) (Some n) None) (quote_place label rest h)
    ∙ ap (λ t. cond {A = Option ℕ} t (Some (length label)) None) (lt-ltb (length label) (length (label ++ (34 ∷ rest))) (omega (arith, all)))

text_found : (bytes rest label : List ℕ) → text_at bytes ≡ Some (label, rest) → Found IsText bytes label rest
text_found bytes rest label e =
    option_and_then_some (λ (inside : List ℕ). option_and_then (quoted_at inside) (position is_quote inside)) (after (codes "\"") bytes) (label, rest) e
    (λ inside f g.
    option_and_then_some (quoted_at inside) (position is_quote inside) (label, rest) g (λ n h k.
    mapped {B = List ℕ × List ℕ} (λ (t : List ℕ). (t, drop (n + 1) inside)) (label_of (take n inside)) (label, rest) k (λ l m p.
    let t = label_found (take n inside) l m in
    let value : l ≡ label = ap (λ (m : List ℕ × List ℕ). m.0) p in
    let left : drop (n + 1) inside ≡ rest = ap (λ (m : List ℕ × List ℕ). m.1) p in
    let split : inside ≡ label ++ (34 ∷ rest) = quote_found inside n h ∙ ap (λ z. z ++ (34 ∷ drop (n + 1) inside)) (t.1 ∙ value) ∙
    ap (λ z. label ++ (34 ∷ z)) left in (
      34 ∷ (label ++ (34 ∷ [])),
      (subst IsLabel value t.0, refl),
      after_found (34 ∷ []) bytes inside f ∙
          ap (λ z. 34 ∷ z) (split ∙ sym (append_assoc label (34 ∷ []) rest)),
    ))))

quoted_read : (label rest : List ℕ) → IsLabel label → quoted_at (label ++ (34 ∷ rest)) (length label) ≡ Some (label, rest)
quoted_read label rest h =
    let front : take (length label) (label ++ (34 ∷ rest)) ≡ label = take_at label (34 ∷ rest) (length label) refl in
    let left : drop (length label + 1) (label ++ (34 ∷ rest)) ≡ rest = ap (drop (length label + 1)) (sym (append_assoc label (34 ∷ []) rest)) ∙
    drop_at (label ++ 34 ∷ []) rest (length label + 1) (length_push label 34) in
    ap (λ z. option_map {U = List ℕ × List ℕ} (λ (t : List ℕ). (t, drop (length label + 1) (label ++ (34 ∷ rest)))) z)
    (ap label_of front ∙ label_yes label h.utf8 h.accepted)
    ∙ ap (λ z. Some (label, z)) left

text_read : (text rest label : List ℕ) → IsText text label → Ends rest → text_at (text ++ rest) ≡ Some (label, rest)
text_read text rest label (h, e) f =
    let inside : List ℕ = label ++ (34 ∷ rest) in
    let plain = and_parts (nat_le (length label) 64) (list_all is_plain label) h.accepted in
    ap text_at (ap (λ z. z ++ rest) e ∙ ap (λ z. 34 ∷ z) (append_assoc label (34 ∷ []) rest))
    ∙ ap (option_and_then (quoted_at inside)) (quote_read label rest plain.1) ∙ quoted_read label rest h

text_reads : Reads text_at IsText
text_reads = record {
  found = λ bytes rest label e. text_found bytes rest label e;
  read = λ text rest label h f. text_read text rest label h f;
  unspaced =
      λ text rest label h. subst (λ z. NoSpace (z ++ rest)) (sym h.1) (λ z. omega (arith, z));
}

-- ---- sets

kind_found : {X : Type 0} (at : List ℕ → Option (X × List ℕ)) (Item : List ℕ → X → Type 0) (r : Reads at Item) (kind : List X → Items)
    (bytes inside s rest : List ℕ) (x : Items)
    → ((text : List ℕ) (xs : List X) → IsEnclosed (codes "{") (codes "}") Item text xs → IsSet text (kind xs)) → AreSpaces s → bytes ≡ 123 ∷ (s ++ inside)
    → option_map {U = Items × List ℕ} (λ (y : List X × List ℕ). (kind y.0, y.1)) (listed_at at inside) ≡ Some (x, rest) → Found IsSet bytes x rest
kind_found {X} at Item r kind bytes inside s rest x fits a h e =
    mapped {B = Items × List ℕ} (λ (y : List X × List ℕ). (kind y.0, y.1)) (listed_at at inside) (x, rest) e (λ y f p.
    let w = braced_found at Item r bytes inside s y.1 y.0 a h f in
    let value : kind y.0 ≡ x = ap (λ (m : Items × List ℕ). m.0) p in
    let left : y.1 ≡ rest = ap (λ (m : Items × List ℕ). m.1) p in
    (w.0, subst (IsSet w.0) value (fits w.0 y.0 w.1), w.2 ∙ ap (λ z. w.0 ++ z) left))

indices_found : (first : IndexLiteral) (bytes inside s rest : List ℕ) (x : Items) → AreSpaces s → bytes ≡ 123 ∷ (s ++ inside) →
    indices_at first inside ≡ Some (x, rest) → Found IsSet bytes x rest
indices_found (Integer i) bytes inside s rest x a h e = kind_found integer_at IsInteger integer_reads (λ xs. integers xs) bytes inside s rest x
    (λ text xs h. h) a h e
indices_found (Pair i j) bytes inside s rest x a h e = kind_found pair_at IsPair pair_reads (λ xs. pairs xs) bytes inside s rest x (λ text xs h. h) a h e
indices_found (Triple i j k) bytes inside s rest x a h e = kind_found triple_at IsTriple triple_reads (λ xs. triples xs) bytes inside s rest x (λ text xs h. h)
    a h e

-- indices like the first one
abbrev filled_indices : List ℕ → Option (Items × List ℕ)
filled_indices inside = option_and_then (λ (first : IndexLiteral × List ℕ). indices_at first.0 inside) (index_at inside)

filled_found : (o : Option (List ℕ)) (bytes inside s rest : List ℕ) (x : Items) → AreSpaces s → bytes ≡ 123 ∷ (s ++ inside)
    → option_map_or {T = List ℕ} {U = Option (Items × List ℕ)} (λ (z : List ℕ). texts_at inside) o (filled_indices inside) ≡ Some (x, rest) →
    Found IsSet bytes x rest
filled_found (Some z) bytes inside s rest x a h e = kind_found text_at IsText text_reads (λ xs. texts xs) bytes inside s rest x (λ text xs h. h) a h e
filled_found None bytes inside s rest x a h e = option_and_then_some (λ (first : IndexLiteral × List ℕ). indices_at first.0 inside) (index_at inside) (x, rest)
    e (λ y f g. indices_found y.0 bytes inside s rest x a h g)

set_by : (o : Option (List ℕ)) (bytes inside s rest : List ℕ) (x : Items) → AreSpaces s → bytes ≡ 123 ∷ (s ++ inside) → after (codes "}") inside ≡ o
    → option_map_or {T = List ℕ} {U = Option (Items × List ℕ)} (λ (z : List ℕ). Some (nothing, z)) o (filled_at inside) ≡ Some (x, rest) →
    Found IsSet bytes x rest
set_by (Some z) bytes inside s rest x a h o e =
    let p = some_pair_parts nothing x z rest e in
    let text : List ℕ = 123 ∷ (s ++ (125 ∷ [])) in (
      text,
      subst (IsSet text) p.0 (s, a, refl),
      h ∙ ap (λ y. 123 ∷ (s ++ y)) (after_found (125 ∷ []) inside z o ∙ ap (λ y. 125 ∷ y) p.1) ∙
          ap (λ y. 123 ∷ y) (sym (append_assoc s (125 ∷ []) rest)),
    )
set_by None bytes inside s rest x a h o e = filled_found (after (codes "\"") inside) bytes inside s rest x a h e

-- what follows the opening brace
abbrev in_braces : List ℕ → Option (Items × List ℕ)
in_braces inside = option_map_or {T = List ℕ} {U = Option (Items × List ℕ)} (λ (z : List ℕ). Some (nothing, z)) (after (codes "}") inside) (filled_at inside)

pub set_found : (bytes rest : List ℕ) (x : Items) → set_at bytes ≡ Some (x, rest) → Found IsSet bytes x rest
set_found bytes rest x e = option_and_then_some in_braces (after_token (codes "{") bytes) (x, rest) e (λ inside f g.
    let sp = token_found (123 ∷ []) bytes inside f in
    set_by (after (codes "}") inside) bytes inside sp.0 rest x sp.1 sp.2 refl g)

-- the first byte of a number is a minus or a digit
outside : (k b : ℕ) → (k < 45) ⊎ (57 < k) → (b ≡ 45) ⊎ ((48 ≤ b) × (b ≤ 57)) → b ≢ k
outside k b (inl o) (inl e) = λ x. omega (arith, o, e, x)
outside k b (inl o) (inr h) = λ x. omega (arith, o, h.0, x)
outside k b (inr o) (inl e) = λ x. omega (arith, o, e, x)
outside k b (inr o) (inr h) = λ x. omega (arith, o, h.1, x)

no_token : (k : ℕ) (text rest : List ℕ) → (k < 45) ⊎ (57 < k) → Starts text → after (k ∷ []) (text ++ rest) ≡ None
no_token k [] rest o h = absurd h
no_token k (b ∷ text) rest o h = not_after k b [] (text ++ rest) (outside k b o h)

-- another byte begins the text
other_token : (k b : ℕ) (text more rest : List ℕ) → b ≢ k → text ≡ b ∷ more → after (k ∷ []) (text ++ rest) ≡ None
other_token k b text more rest h e = ap (λ z. after (k ∷ []) (z ++ rest)) e ∙ not_after k b [] (more ++ rest) h

in_braces_read : (bytes inside rest : List ℕ) (x : Items) → after_token (codes "{") bytes ≡ Some inside → after (codes "}") inside ≡ None →
    filled_at inside ≡ Some (x, rest) → set_at bytes ≡ Some (x, rest)
in_braces_read bytes inside rest x o n e = ap (option_and_then in_braces) o ∙
    ap (λ c. option_map_or {T = List ℕ} {U = Option (Items × List ℕ)} (λ (z : List ℕ). Some (nothing, z)) c (filled_at inside)) n ∙ e

indices_read : (inside behind : List ℕ) (first : IndexLiteral) → after (codes "\"") inside ≡ None → index_at inside ≡ Some (first, behind) →
    filled_at inside ≡ indices_at first inside
indices_read inside behind first n f =
    ap (λ o. option_map_or {T = List ℕ} {U = Option (Items × List ℕ)} (λ (z : List ℕ). texts_at inside) o (filled_indices inside)) n
    ∙ ap (option_and_then (λ (first : IndexLiteral × List ℕ). indices_at first.0 inside)) f

pair_opens : (text : List ℕ) (p : List ℤ) → IsPair text p → (more : List ℕ) × (text ≡ 40 ∷ more)
pair_opens text p (i, j, (s, x, t, a, l, q, e), v) = (s ++ (x ++ (t ++ (41 ∷ []))), e)

triple_opens : (text : List ℕ) (p : List ℤ) → IsTriple text p → (more : List ℕ) × (text ≡ 40 ∷ more)
triple_opens text p (i, j, k, (s, x, t, a, l, q, e), v) = (s ++ (x ++ (t ++ (41 ∷ []))), e)

nothing_opened : (text rest : List ℕ) → IsSet text nothing → after_token (codes "{") (text ++ rest) ≡ Some (125 ∷ rest)
nothing_opened text rest (s, a, e) =
    ap (after_token (codes "{")) (ap (λ z. z ++ rest) e ∙ ap (λ z. 123 ∷ z) (append_assoc s (125 ∷ []) rest)) ∙
    ap (λ z. Some z) (skip_over s (125 ∷ rest) a brace.stop.1)

pub set_read : (text rest : List ℕ) (x : Items) → IsSet text x → set_at (text ++ rest) ≡ Some (x, rest)
set_read text rest nothing h = ap (option_and_then in_braces) (nothing_opened text rest h)
set_read text rest (integers is) h =
    let w = inside_of integer_at IsInteger integer_reads text rest is h in
    let starts = integer_starts w.first w.value w.item in
    in_braces_read (text ++ rest) (w.first ++ w.behind) rest (integers is) w.opened (no_token 125 w.first w.behind (inr (omega arith)) starts)
    (indices_read (w.first ++ w.behind) w.behind (Integer w.value) (no_token 34 w.first w.behind (inl (omega arith)) starts)
    (index_read w.first w.behind (Integer w.value) w.item w.ends)
    ∙ ap (option_map {U = Items × List ℕ} (λ (y : List ℤ × List ℕ). (integers y.0, y.1))) w.listed)
set_read text rest (pairs ps) h =
    let w = inside_of pair_at IsPair pair_reads text rest ps h in
    let o = pair_opens w.first w.value w.item in
    let i = w.item in
    in_braces_read (text ++ rest) (w.first ++ w.behind) rest (pairs ps) w.opened (other_token 125 40 w.first o.0 w.behind (λ z. omega (arith, z)) o.1)
    (indices_read (w.first ++ w.behind) w.behind (Pair i.0 i.1) (other_token 34 40 w.first o.0 w.behind (λ z. omega (arith, z)) o.1)
    (index_read w.first w.behind (Pair i.0 i.1) i.2 w.ends)
    ∙ ap (option_map {U = Items × List ℕ} (λ (y : List (List ℤ) × List ℕ). (pairs y.0, y.1))) w.listed)
set_read text rest (triples ts) h =
    let w = inside_of triple_at IsTriple triple_reads text rest ts h in
    let o = triple_opens w.first w.value w.item in
    let i = w.item in
    in_braces_read (text ++ rest) (w.first ++ w.behind) rest (triples ts) w.opened (other_token 125 40 w.first o.0 w.behind (λ z. omega (arith, z)) o.1)
    (indices_read (w.first ++ w.behind) w.behind (Triple i.0 i.1 i.2) (other_token 34 40 w.first o.0 w.behind (λ z. omega (arith, z)) o.1)
    (index_read w.first w.behind (Triple i.0 i.1 i.2) i.3 w.ends)
    ∙ ap (option_map {U = Items × List ℕ} (λ (y : List (List ℤ) × List ℕ). (triples y.0, y.1))) w.listed)
set_read text rest (texts ls) h =
    let w = inside_of text_at IsText text_reads text rest ls h in
    let quote : w.first ≡ 34 ∷ (w.value ++ (34 ∷ [])) = w.item.1 in
    let there : after (codes "\"") (w.first ++ w.behind) ≡ Some ((w.value ++ (34 ∷ [])) ++ w.behind) = ap (λ z. after (codes "\"") (z ++ w.behind)) quote in
    in_braces_read (text ++ rest) (w.first ++ w.behind) rest (texts ls) w.opened
    (other_token 125 34 w.first (w.value ++ (34 ∷ [])) w.behind (λ z. omega (arith, z)) quote)
    (ap (λ o. option_map_or {T = List ℕ} {U = Option (Items × List ℕ)} (λ (z : List ℕ). texts_at (w.first ++ w.behind)) o
    (filled_indices (w.first ++ w.behind))) there
    ∙ ap (option_map {U = Items × List ℕ} (λ (y : List (List ℕ) × List ℕ). (texts y.0, y.1))) w.listed)

pub set_exact : (text : List ℕ) (x : Items) → (set_literal_of text ≡ Some x) ↔ IsSet text x
set_exact = exact set_at IsSet set_found (λ text x h. set_read text [] x h)

-- ---- domains: no text is a set and a rectangle

-- no bound follows the first number
no_upper : (b : ℕ) (bytes : List ℕ) → b ≢ 46 → upper_at (b ∷ bytes) ≡ None
no_upper b bytes h = rw (not_after 46 b (46 ∷ 60 ∷ []) bytes h, not_after 46 b (46 ∷ 35 ∷ []) bytes h, not_after 46 b (46 ∷ []) bytes h) refl

no_range : (inside behind more : List ℕ) (z : ℤ) (b : ℕ) → integer_at inside ≡ Some (z, behind) → skip_spaces behind ≡ b ∷ more → b ≢ 46 →
    range_at inside ≡ None
no_range inside behind more z b e f h = rw (e, f, no_upper b more h) refl

no_rectangle : (bytes inside : List ℕ) → after_token (codes "{") bytes ≡ Some inside → range_at inside ≡ None → rectangle_at bytes ≡ None
no_rectangle bytes inside o n = rw (o, n) refl

-- a range begins with another byte
other_range : (b : ℕ) (text more rest : List ℕ) → ((z : List ℕ) → range_at (b ∷ z) ≡ None) → text ≡ b ∷ more → range_at (text ++ rest) ≡ None
other_range b text more rest h e = ap (λ z. range_at (z ++ rest)) e ∙ h (more ++ rest)

set_no_rectangle : (text rest : List ℕ) (x : Items) → IsSet text x → rectangle_at (text ++ rest) ≡ None
set_no_rectangle text rest nothing h = no_rectangle (text ++ rest) (125 ∷ rest) (nothing_opened text rest h) refl
set_no_rectangle text rest (integers is) h =
    let w = inside_of integer_at IsInteger integer_reads text rest is h in
    no_rectangle (text ++ rest) (w.first ++ w.behind) w.opened
    (no_range (w.first ++ w.behind) w.behind w.more w.value w.byte (integer_reads.read w.first w.behind w.value w.item w.ends) w.next w.no_dot)
set_no_rectangle text rest (pairs ps) h =
    let w = inside_of pair_at IsPair pair_reads text rest ps h in
    let o = pair_opens w.first w.value w.item in
    no_rectangle (text ++ rest) (w.first ++ w.behind) w.opened (other_range 40 w.first o.0 w.behind (λ z. refl) o.1)
set_no_rectangle text rest (triples ts) h =
    let w = inside_of triple_at IsTriple triple_reads text rest ts h in
    let o = triple_opens w.first w.value w.item in
    no_rectangle (text ++ rest) (w.first ++ w.behind) w.opened (other_range 40 w.first o.0 w.behind (λ z. refl) o.1)
set_no_rectangle text rest (texts ls) h =
    let w = inside_of text_at IsText text_reads text rest ls h in
    no_rectangle (text ++ rest) (w.first ++ w.behind) w.opened (other_range 34 w.first (w.value ++ (34 ∷ [])) w.behind (λ z. refl) w.item.1)

not_rectangle : (text : List ℕ) (x : Items) → IsSet text x → rectangle_of text ≡ None
not_rectangle text x h = ap (option_and_then (λ (p : RectangleLiteral × List ℕ). cond (nat_eq (length p.1) 0) (Some p.0) None))
    (ap rectangle_at (sym (append-nil text)) ∙ set_no_rectangle text [] x h)

-- where no rectangle is there, a set is
abbrev or_set : List ℕ → Option RectangleLiteral → Option Domain
or_set text o = option_map_or {T = RectangleLiteral} {U = Option Domain} (λ (r : RectangleLiteral). Some (rectangle r)) o (option_map set (set_literal_of text))

domain_by : (o : Option RectangleLiteral) (text : List ℕ) (d : Domain) → rectangle_of text ≡ o → or_set text o ≡ Some d → IsDomain text d
domain_by (Some r) text d o e = subst (IsDomain text) (same_Some (rectangle r) d e) ((rectangle_exact text r).0 o)
domain_by None text d o e = mapped set (set_literal_of text) d e (λ x f p. subst (IsDomain text) p ((set_exact text x).0 f))

domain_read : (text : List ℕ) (d : Domain) → IsDomain text d → domain_of text ≡ Some d
domain_read text (rectangle r) h = ap (or_set text) ((rectangle_exact text r).1 h)
domain_read text (set x) h = ap (or_set text) (not_rectangle text x h) ∙ ap (option_map set) ((set_exact text x).1 h)

pub domain_exact : (text : List ℕ) (d : Domain) → (domain_of text ≡ Some d) ↔ IsDomain text d
domain_exact text d = (λ e. domain_by (rectangle_of text) text d refl e, λ h. domain_read text d h)

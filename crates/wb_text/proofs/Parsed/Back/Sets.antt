-- Sets are read back: indices of one rank, or texts.
use Rattle.std.proofs.Common.{◌≡◌, ◌≢◌, ℕ, zero, suc, ◌+◌, ◌≤◌, ℤ, pos, Bool, true, false, nat_le, nat_eq, List, [], ◌∷◌, ◌++◌, map, codes, length, drop}
use Rattle.std.proofs.Common.{Option, Some, None, option_map, option_and_then, position, inl, inr, refl, sym, ap, ◌∙◌, subst, append_assoc, ne_eqb, eq-eqb}
use Rattle.std.proofs.Common.{arith}
use Rattle.std.proofs.Math.Seq.{take-append_seam, drop-append-add}
use Rattle.std.specs.Fmt.{signed_decimal}
use Rattle.std.specs.List.{list_all, flat_map}
use Rattle.std.specs.Option.{option_map_or}
use Rattle.wb_sets.specs.Labels.{IsLabel, is_plain}
use Rattle.wb_cells.specs.declared.values.index.Index.{Index}
use Rattle.wb_cells.specs.declared.values.index.Index.TheVariants.{Point, Text}
use Rattle.wb_literals.specs.Integer.{integer_at}
use Rattle.wb_literals.specs.Index.{index_at}
use Rattle.wb_literals.specs.Tokens.{after, close_at}
use Rattle.wb_literals.specs.Set.{Items, nothing, integers, pairs, triples, texts, items_at, listed_at, as_pair, pair_at, as_triple, triple_at, is_quote}
use Rattle.wb_literals.specs.Set.{label_of, quoted_at, text_at, indices_at, texts_at, filled_at, set_at}
use Rattle.wb_literals.specs.declared.index.IndexLiteral.{IndexLiteral}
use Rattle.wb_literals.proofs.DigitsBack.{integer_back}
use Rattle.wb_literals.proofs.IndexGrammar.{index_read}
use Rattle.wb_literals.proofs.ListGrammar.{brace}
use Rattle.wb_literals.proofs.RangeGrammar.{Ends, Starts, ends_digits, integer_starts}
use Rattle.wb_literals.proofs.Texts.{label_yes}
use Rattle.wb_literals.proofs.TokenLemmas.{NoSpace, skip_over, not_after}
use Rattle.wb_literals.specs.Limits.Literals.{listed_in}
use Rattle.wb_text.specs.Literals.{further, point_text, index_text, set_text}
use Rattle.wb_text.proofs.Readable.{Each, both}
use Rattle.wb_text.proofs.ReadIndices.{AreWithin}
use Rattle.wb_text.specs.Parsed.Parts.{members_at}
use Rattle.wb_text.proofs.Parsed.Names.{found_at, none_of}
use Rattle.wb_text.proofs.Parsed.Back.Spelled.{IsShort, by_length, integer_spelled, index_of, point_spelled}
use Rattle.wb_text.proofs.Parsed.Back.Items.{tail_ends, all_back, inside}

-- ---- indices of one rank, and texts

-- so many coordinates, each of 64 bits
abbrev pub IsOfRank : ℕ → Index → Type 0
IsOfRank rank (Point is) = (length is ≡ rank) × AreWithin is
IsOfRank rank (Text t) = ⊥

abbrev pub IsOfText : Index → Type 0
IsOfText (Point is) = ⊥
IsOfText (Text t) = IsLabel t

-- all are indices of one rank from 1 to 3, or all are texts
pub data AreAlike (is : List Index) : Type 0 where
  points : (rank : ℕ) → 1 ≤ rank → rank ≤ 3 → Each (IsOfRank rank) is → AreAlike is
  labels : Each IsOfText is → AreAlike is

coordinates : Index → List ℤ
coordinates (Point is) = is
coordinates (Text t) = []

single : Index → ℤ
single (Point (i ∷ is)) = i
single _ = pos 0

label : Index → List ℕ
label (Point is) = []
label (Text t) = t

-- ---- the first byte of an index

-- the first byte is neither a space nor the closing brace
record Opens (quote : Bool) (bytes : List ℕ) : Type 0 where
  first : ℕ
  more : List ℕ
  is : bytes ≡ first ∷ more
  space : first ≢ 32
  close : first ≢ 125
  quoted : nat_eq first 34 ≡ quote

number_opens : (text rest : List ℕ) → Starts text → Opens false (text ++ rest)
number_opens [] rest h = absurd h
number_opens (b ∷ text) rest (inl e) = record {
  first = b;
  more = text ++ rest;
  is = refl;
  space = λ x. omega (arith, x, e);
  close = λ x. omega (arith, x, e);
  quoted = ne_eqb b 34 (λ x. omega (arith, x, e));
}
number_opens (b ∷ text) rest (inr h) =
    let low = h.0 in let high = h.1 in
    record {
      first = b;
      more = text ++ rest;
      is = refl;
      space = λ x. omega (arith, x, low);
      close = λ x. omega (arith, x, high);
      quoted =
          ne_eqb b 34 (λ x. omega (arith, x, low));
    }

parenthesis_opens : (rest : List ℕ) → Opens false (40 ∷ rest)
parenthesis_opens rest = record { first = 40; more = rest; is = refl; space = λ x. omega (arith, x); close = λ x. omega (arith, x); quoted = refl }

quote_opens : (rest : List ℕ) → Opens true (34 ∷ rest)
quote_opens rest = record { first = 34; more = rest; is = refl; space = λ x. omega (arith, x); close = λ x. omega (arith, x); quoted = refl }

point_opens : (is : List ℤ) (rest : List ℕ) → IsShort is → AreWithin is → Opens false (point_text is ++ rest)
unfolding point_text
point_opens is rest = by_length (λ is. AreWithin is → Opens false (point_text is ++ rest))
    (λ i h. number_opens (signed_decimal i) rest (integer_starts (signed_decimal i) i (integer_spelled i h.0)))
    (λ i j h. parenthesis_opens _) (λ i j k h. parenthesis_opens _) is

opens_unspaced : (quote : Bool) (bytes : List ℕ) → Opens quote bytes → NoSpace bytes
opens_unspaced quote bytes o = subst NoSpace (sym o.is) o.space

-- ---- one index

short_point : (rank : ℕ) (is : List ℤ) → 1 ≤ rank → rank ≤ 3 → length is ≡ rank → IsShort is
short_point rank is low high e = record { some = omega (arith, low, e); few = omega (arith, high, e) }

index_back : (rank : ℕ) (is : List ℤ) (rest : List ℕ) → 1 ≤ rank → rank ≤ 3 → length is ≡ rank → AreWithin is → Ends rest →
    index_at (point_text is ++ rest) ≡ Some (index_of is, rest)
index_back rank is rest low high e h f = index_read (point_text is) rest (index_of is) (point_spelled is (short_point rank is low high e) h) f

point_unspaced : (rank : ℕ) → 1 ≤ rank → rank ≤ 3 → (i : Index) (rest : List ℕ) → IsOfRank rank i → NoSpace (index_text i ++ rest)
point_unspaced rank low high (Point is) rest h = opens_unspaced false (point_text is ++ rest) (point_opens is rest (short_point rank is low high h.0) h.1)
point_unspaced rank low high (Text t) rest h = absurd h

single_back : (i : Index) (rest : List ℕ) → IsOfRank 1 i → Ends rest → integer_at (index_text i ++ rest) ≡ Some (single i, rest)
unfolding point_text single
single_back (Point []) rest h f = let e = h.0 in absurd (omega (arith, e))
single_back (Point (i ∷ [])) rest h f = integer_back i rest h.1.0 (ends_digits rest f)
single_back (Point (i ∷ j ∷ is)) rest h f = let e = h.0 in absurd (omega (arith, e))
single_back (Text t) rest h f = absurd h

two : (is : List ℤ) → length is ≡ 2 → as_pair (index_of is) ≡ Some is
unfolding index_of
two [] e = absurd (omega (arith, e))
two (i ∷ []) e = absurd (omega (arith, e))
two (i ∷ j ∷ []) e = refl
two (i ∷ j ∷ k ∷ is) e = absurd (omega (arith, e))

three : (is : List ℤ) → length is ≡ 3 → as_triple (index_of is) ≡ Some is
unfolding index_of
three [] e = absurd (omega (arith, e))
three (i ∷ []) e = absurd (omega (arith, e))
three (i ∷ j ∷ []) e = absurd (omega (arith, e))
three (i ∷ j ∷ k ∷ []) e = refl
three (i ∷ j ∷ k ∷ l ∷ is) e = absurd (omega (arith, e))

pair_back : (i : Index) (rest : List ℕ) → IsOfRank 2 i → Ends rest → pair_at (index_text i ++ rest) ≡ Some (coordinates i, rest)
unfolding coordinates
pair_back (Point is) rest h f = rw (index_back 2 is rest (omega arith) (omega arith) h.0 h.1 f, two is h.0) refl
pair_back (Text t) rest h f = absurd h

triple_back : (i : Index) (rest : List ℕ) → IsOfRank 3 i → Ends rest → triple_at (index_text i ++ rest) ≡ Some (coordinates i, rest)
unfolding coordinates
triple_back (Point is) rest h f = rw (index_back 3 is rest (omega arith) (omega arith) h.0 h.1 f, three is h.0) refl
triple_back (Text t) rest h f = absurd h

-- ---- one text

plain_unquoted : (c : ℕ) → is_plain c ≡ true → is_quote c ≡ false
plain_unquoted c e = ne_eqb c 34 (λ x. let h = ap is_plain x in cc)

quoted_back : (t rest : List ℕ) → IsLabel t → quoted_at (t ++ (34 ∷ rest)) (length t) ≡ Some (t, rest)
quoted_back t rest h =
    let e : drop (length t + 1) (t ++ (34 ∷ rest)) ≡ rest = drop-append-add t (34 ∷ rest) 1 in
    ap (λ m. option_map (λ u. (u, drop (length t + 1) (t ++ (34 ∷ rest)))) (label_of m)) (take-append_seam t (34 ∷ rest))
    ∙ ap (option_map (λ u. (u, drop (length t + 1) (t ++ (34 ∷ rest))))) (label_yes t h.utf8 h.accepted)
    ∙ ap (λ m. Some (t, m)) e

text_back : (i : Index) (rest : List ℕ) → IsOfText i → Ends rest → text_at (index_text i ++ rest) ≡ Some (label i, rest)
unfolding label
text_back (Point is) rest h f = absurd h
text_back (Text t) rest h f =
    let plain = (both (nat_le (length t) 64) (list_all is_plain t) h.accepted).1 in
    let behind : List ℕ → Option (List ℕ × List ℕ) = λ inside. option_and_then (quoted_at inside) (position is_quote inside) in
    ap behind (append_assoc t (34 ∷ []) rest)
    ∙ ap (option_and_then (quoted_at (t ++ (34 ∷ rest)))) (found_at is_quote t 34 rest (none_of is_plain is_quote plain_unquoted t plain) refl)
    ∙ quoted_back t rest h

text_unspaced : (i : Index) (rest : List ℕ) → IsOfText i → NoSpace (index_text i ++ rest)
text_unspaced (Point is) rest h = absurd h
text_unspaced (Text t) rest h = opens_unspaced true (34 ∷ ((t ++ (34 ∷ [])) ++ rest)) (quote_opens ((t ++ (34 ∷ [])) ++ rest))

-- ---- several of them

-- what stands behind an index of a set
abbrev behind : List Index → List ℕ → List ℕ
behind is rest = flat_map (further index_text) is ++ (125 ∷ rest)

listed_by : {X : Type 0} (at : List ℕ → Option (X × List ℕ)) (bytes rest : List ℕ) (xs : List X) → items_at at (length bytes) bytes ≡ Some (xs, 125 ∷ rest) →
    listed_at at bytes ≡ Some (xs, rest)
listed_by {X} at bytes rest xs e = ap (option_and_then (λ (x : List X × List ℕ). option_map (λ (rest : List ℕ). (x.0, rest)) (close_at (codes "}") x.1))) e

unquoted : (bytes : List ℕ) → Opens false bytes → after (34 ∷ []) bytes ≡ None
unquoted bytes o = ap (after (34 ∷ [])) o.is ∙ not_after 34 o.first [] o.more (λ x. let t = eq-eqb o.first 34 x in let f = o.quoted in cc)

-- the first index tells which ones follow
filled_points : (is : List ℤ) (rest : List ℕ) → IsShort is → AreWithin is → Ends rest →
    filled_at (point_text is ++ rest) ≡ indices_at (index_of is) (point_text is ++ rest)
filled_points is rest s h f =
    let text : List ℕ = point_text is ++ rest in
    ap (λ (o : Option (List ℕ)). option_map_or (λ _. texts_at text) o
    (option_and_then (λ (first : IndexLiteral × List ℕ). indices_at first.0 text) (index_at text))) (unquoted text (point_opens is rest s h))
    ∙ ap (option_and_then (λ (first : IndexLiteral × List ℕ). indices_at first.0 text)) (index_read (point_text is) rest (index_of is) (point_spelled is s h) f)

singles_kind : (is : List ℤ) (text : List ℕ) → length is ≡ 1 →
    indices_at (index_of is) text ≡ option_map (λ (x : List ℤ × List ℕ). (integers x.0, x.1)) (listed_at integer_at text)
unfolding index_of
singles_kind [] text e = absurd (omega (arith, e))
singles_kind (i ∷ []) text e = refl
singles_kind (i ∷ j ∷ is) text e = absurd (omega (arith, e))

pairs_kind : (is : List ℤ) (text : List ℕ) → length is ≡ 2 →
    indices_at (index_of is) text ≡ option_map (λ (x : List (List ℤ) × List ℕ). (pairs x.0, x.1)) (listed_at pair_at text)
unfolding index_of
pairs_kind [] text e = absurd (omega (arith, e))
pairs_kind (i ∷ []) text e = absurd (omega (arith, e))
pairs_kind (i ∷ j ∷ []) text e = refl
pairs_kind (i ∷ j ∷ k ∷ is) text e = absurd (omega (arith, e))

triples_kind : (is : List ℤ) (text : List ℕ) → length is ≡ 3 →
    indices_at (index_of is) text ≡ option_map (λ (x : List (List ℤ) × List ℕ). (triples x.0, x.1)) (listed_at triple_at text)
unfolding index_of
triples_kind [] text e = absurd (omega (arith, e))
triples_kind (i ∷ []) text e = absurd (omega (arith, e))
triples_kind (i ∷ j ∷ []) text e = absurd (omega (arith, e))
triples_kind (i ∷ j ∷ k ∷ []) text e = refl
triples_kind (i ∷ j ∷ k ∷ l ∷ is) text e = absurd (omega (arith, e))

-- one kind of indices: how they are read, and what they stand for
record IsKind {L : Type 0} (rank : ℕ) (at : List ℕ → Option (L × List ℕ)) (literal : Index → L) (items : List L → Items) : Type 0 where
  low : 1 ≤ rank
  high : rank ≤ 3
  back : (i : Index) (rest : List ℕ) → IsOfRank rank i → Ends rest → at (index_text i ++ rest) ≡ Some (literal i, rest)
  told : (is : List ℤ) (text : List ℕ) → length is ≡ rank → indices_at (index_of is) text ≡ option_map (λ (x : List L × List ℕ). (items x.0, x.1))
      (listed_at at text)
  lists : (is : List Index) → Each (IsOfRank rank) is → listed_in (items (map literal is)) ≡ is

-- the set and what follows it
pub record SetBack (is : List Index) (rest : List ℕ) : Type 0 where
  pub items : Items
  pub read : set_at (set_text is ++ rest) ≡ Some (items, rest)
  pub lists : listed_in items ≡ is

set_by : (quote : Bool) (bytes rest : List ℕ) (items : Items) → Opens quote bytes → filled_at bytes ≡ Some (items, rest) →
    set_at (123 ∷ bytes) ≡ Some (items, rest)
set_by quote bytes rest items o e =
    let go : List ℕ → Option (Items × List ℕ) = λ inside. option_map_or (λ (rest : List ℕ). Some (nothing, rest)) (after (codes "}") inside) (filled_at inside)
    in
    ap go (skip_over [] bytes tt (opens_unspaced quote bytes o))
    ∙ ap (λ (z : Option (List ℕ)). option_map_or (λ (rest : List ℕ). Some (nothing, rest)) z (filled_at bytes))
    (ap (after (125 ∷ [])) o.is ∙ not_after 125 o.first [] o.more o.close)
    ∙ e

points_back : {L : Type 0} (rank : ℕ) (at : List ℕ → Option (L × List ℕ)) (literal : Index → L) (items : List L → Items) → IsKind rank at literal items
    → (i : Index) (is : List Index) (rest : List ℕ) → Each (IsOfRank rank) (i ∷ is) → SetBack (i ∷ is) rest
points_back rank at literal items k (Text t) is rest h = absurd h.0
points_back {L} rank at literal items k (Point ns) is rest h =
    let unspaced = point_unspaced rank k.low k.high in
    let short = short_point rank ns k.low k.high h.0.0 in
    let text : List ℕ = point_text ns ++ behind is rest in
    let ends : Ends (behind is rest) = tail_ends at index_text literal (IsOfRank rank) 125 brace k.back unspaced is rest in
    let listed : listed_at at text ≡ Some (map literal (Point ns ∷ is), rest) =
    listed_by at text rest (map literal (Point ns ∷ is)) (all_back at index_text literal (IsOfRank rank) 125 brace k.back unspaced (Point ns) is rest h) in
    let filled : filled_at text ≡ Some (items (map literal (Point ns ∷ is)), rest) =
    filled_points ns (behind is rest) short h.0.1 ends ∙ k.told ns text h.0.0 ∙ ap (option_map (λ (x : List L × List ℕ). (items x.0, x.1))) listed in
    record {
      items = items (map literal (Point ns ∷ is));
      read = ap set_at (inside at index_text literal (IsOfRank rank) 125 brace k.back unspaced (codes "{") (Point ns) is rest) ∙
          set_by false text rest (items (map literal (Point ns ∷ is))) (point_opens ns (behind is rest) short h.0.1) filled;
      lists = k.lists (Point ns ∷ is) h;
    }

labels_are : (is : List Index) → Each IsOfText is → map Text (map label is) ≡ is
unfolding label
labels_are [] h = refl
labels_are (Point ns ∷ is) h = absurd h.0
labels_are (Text t ∷ is) h = ap (λ x. Text t ∷ x) (labels_are is h.1)

texts_back : (i : Index) (is : List Index) (rest : List ℕ) → Each IsOfText (i ∷ is) → SetBack (i ∷ is) rest
texts_back (Point ns) is rest h = absurd h.0
texts_back (Text t) is rest h =
    let text : List ℕ = 34 ∷ ((t ++ (34 ∷ [])) ++ behind is rest) in
    let listed : listed_at text_at text ≡ Some (map label (Text t ∷ is), rest) =
    listed_by text_at text rest (map label (Text t ∷ is)) (all_back text_at index_text label IsOfText 125 brace text_back text_unspaced (Text t) is rest h)
    in
    record {
      items = texts (map label (Text t ∷ is));
      read = ap set_at (inside text_at index_text label IsOfText 125 brace text_back text_unspaced (codes "{") (Text t) is rest)
          ∙ set_by true text rest (texts (map label (Text t ∷ is))) (quote_opens ((t ++ (34 ∷ [])) ++ behind is rest))
          (ap (option_map (λ (x : List (List ℕ) × List ℕ). (texts x.0, x.1))) listed);
      lists = labels_are (Text t ∷ is) h;
    }

-- ---- the three ranks

singles_are : (is : List Index) → Each (IsOfRank 1) is → map (λ i. Point (i ∷ [])) (map single is) ≡ is
unfolding single
singles_are [] h = refl
singles_are (Point [] ∷ is) h = let e = h.0.0 in absurd (omega (arith, e))
singles_are (Point (n ∷ []) ∷ is) h = ap (λ x. Point (n ∷ []) ∷ x) (singles_are is h.1)
singles_are (Point (n ∷ m ∷ ns) ∷ is) h = let e = h.0.0 in absurd (omega (arith, e))
singles_are (Text t ∷ is) h = absurd h.0

points_are : (rank : ℕ) (is : List Index) → Each (IsOfRank rank) is → map Point (map coordinates is) ≡ is
unfolding coordinates
points_are rank [] h = refl
points_are rank (Point ns ∷ is) h = ap (λ x. Point ns ∷ x) (points_are rank is h.1)
points_are rank (Text t ∷ is) h = absurd h.0

singles_kept : IsKind 1 integer_at single integers
singles_kept = record { low = omega arith; high = omega arith; back = single_back; told = singles_kind; lists = singles_are }

pairs_kept : IsKind 2 pair_at coordinates pairs
pairs_kept = record { low = omega arith; high = omega arith; back = pair_back; told = pairs_kind; lists = points_are 2 }

triples_kept : IsKind 3 triple_at coordinates triples
triples_kept = record { low = omega arith; high = omega arith; back = triple_back; told = triples_kind; lists = points_are 3 }

by_rank : (rank : ℕ) → 1 ≤ rank → rank ≤ 3 → (i : Index) (is : List Index) (rest : List ℕ) → Each (IsOfRank rank) (i ∷ is) → SetBack (i ∷ is) rest
by_rank zero low high i is rest h = absurd (omega (arith, low))
by_rank (suc zero) low high i is rest h = points_back 1 integer_at single integers singles_kept i is rest h
by_rank (suc (suc zero)) low high i is rest h = points_back 2 pair_at coordinates pairs pairs_kept i is rest h
by_rank (suc (suc (suc zero))) low high i is rest h = points_back 3 triple_at coordinates triples triples_kept i is rest h
by_rank (suc (suc (suc (suc n)))) low high i is rest h = absurd (omega (arith, high))

pub set_back : (is : List Index) (rest : List ℕ) → AreAlike is → SetBack is rest
set_back [] rest a = record { items = nothing; read = refl; lists = refl }
set_back (i ∷ is) rest (points rank low high h) = by_rank rank low high i is rest h
set_back (i ∷ is) rest (labels h) = texts_back i is rest h

pub members_back : (is : List Index) (rest : List ℕ) → AreAlike is → members_at (32 ∷ (set_text is ++ (10 ∷ rest))) ≡ Some (is, rest)
members_back is rest a = let b = set_back is (10 ∷ rest) a in rw b.read (ap (λ m. Some (m, rest)) b.lists)

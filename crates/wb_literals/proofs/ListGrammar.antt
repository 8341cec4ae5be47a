-- Lists of items between tokens: what is spelled is read, and what is read is spelled.
use Rattle.std.proofs.Common.{◌≡◌, ◌≢◌, ℕ, List, [], ◌∷◌, ◌++◌, Option, Some, None, option_map, option_and_then, refl, sym, ap, ◌∙◌, subst, append_assoc}
use Rattle.std.proofs.Common.{append-nil, arith}
use Rattle.std.proofs.lemmas.Option.{option_and_then_some}
use Rattle.std.specs.Option.{option_map_or}
use Rattle.wb_literals.specs.Tokens.{skip_spaces, after, after_token, comma_at, close_at}
use Rattle.wb_literals.specs.Grammar.{AreSpaces, IsComma, AreMore, IsEnclosed}
use Rattle.wb_literals.proofs.TokenLemmas.{NoSpace, skip_over, comma_over, comma_found, no_comma, close_over, close_found, token_found, mapped}
use Rattle.wb_literals.proofs.RangeGrammar.{Ends, IsStop, Found}

-- a byte that closes a list
pub record Closes (d : ℕ) : Type 0 where
  pub stop : IsStop (d ∷ [])
  pub other : d ≢ 44

pub brace : Closes 125
brace = record { stop = (refl, λ x. omega (arith, x), λ x. omega (arith, x), λ x. omega (arith, x)); other = λ x. omega (arith, x) }

pub parenthesis : Closes 41
parenthesis = record { stop = (refl, λ x. omega (arith, x), λ x. omega (arith, x), λ x. omega (arith, x)); other = λ x. omega (arith, x) }

pub bracket : Closes 93
bracket = record { stop = (refl, λ x. omega (arith, x), λ x. omega (arith, x), λ x. omega (arith, x)); other = λ x. omega (arith, x) }

-- what the proofs take of the reader of an item
pub record Reads {X : Type 0} (at : List ℕ → Option (X × List ℕ)) (Item : List ℕ → X → Type 0) : Type 0 where
  pub found : (bytes rest : List ℕ) (x : X) → at bytes ≡ Some (x, rest) → Found Item bytes x rest
  pub read : (text rest : List ℕ) (x : X) → Item text x → Ends rest → at (text ++ rest) ≡ Some (x, rest)
  pub unspaced : (text rest : List ℕ) (x : X) → Item text x → NoSpace (text ++ rest)

pub closing_ends : (d : ℕ) (t rest : List ℕ) → Closes d → AreSpaces t → Ends (t ++ (d ∷ rest))
closing_ends d t rest k a = record { spaces = t; stop = d ∷ rest; are = a; is = refl; stops = k.stop }

pub comma_ends : (c rest : List ℕ) → IsComma c → Ends (c ++ rest)
comma_ends c rest (s, t, a, b, e) = record {
  spaces = s;
  stop = 44 ∷ (t ++ rest);
  are = a;
  is = rw e (append_assoc s (44 ∷ t) rest);
  stops =
      (refl, λ x. omega (arith, x), λ x. omega (arith, x), λ x. omega (arith, x));
}

module _ {X : Type 0} (at : List ℕ → Option (X × List ℕ)) (Item : List ℕ → X → Type 0) (r : Reads at Item) where
  -- behind an item come further ones, or the end
  pub more_ends : (d : ℕ) (b t rest : List ℕ) (xs : List X) → Closes d → AreMore Item b xs → AreSpaces t → Ends (b ++ (t ++ (d ∷ rest)))
  more_ends d b t rest [] k e a = subst (λ x. Ends (x ++ (t ++ (d ∷ rest)))) (sym e) (closing_ends d t rest k a)
  more_ends d b t rest (x ∷ xs) k (c, u, v, w, i, m, e) a = subst Ends (sym (ap (λ y. y ++ (t ++ (d ∷ rest))) e ∙ append_assoc c (u ++ v) (t ++ (d ∷ rest))))
      (comma_ends c ((u ++ v) ++ (t ++ (d ∷ rest))) w)

  -- an item after a comma
  pub next_read : (c a rest : List ℕ) (x : X) → IsComma c → Item a x → Ends rest → option_and_then at (comma_at (c ++ (a ++ rest))) ≡ Some (x, rest)
  next_read c a rest x (s, t, p, q, e) i f =
      ap (λ y. option_and_then at (comma_at y)) (ap (λ y. y ++ (a ++ rest)) e ∙ append_assoc s (44 ∷ t) (a ++ rest))
      ∙ ap (option_and_then at) (comma_over s t (a ++ rest) p q (r.unspaced a rest x i)) ∙ r.read a rest x i f

  pub next_none : (d : ℕ) (t rest : List ℕ) → Closes d → AreSpaces t → option_and_then at (comma_at (t ++ (d ∷ rest))) ≡ None
  next_none d t rest k a = ap (option_and_then at) (no_comma d t rest a k.stop.1 k.other)

  pub next_found : (bytes rest : List ℕ) (x : X) → option_and_then at (comma_at bytes) ≡ Some (x, rest) → (c a : List ℕ) × IsComma c × Item a x ×
      (bytes ≡ c ++ (a ++ rest))
  next_found bytes rest x e = option_and_then_some at (comma_at bytes) (x, rest) e (λ y f g.
      let k = comma_found bytes y f in
      let i = r.found y rest x g in
      (k.0 ++ (44 ∷ k.1), i.0, (k.0, k.1, k.2, k.3, refl), i.1, k.4 ∙ ap (λ z. k.0 ++ (44 ∷ (k.1 ++ z))) i.2 ∙ sym (append_assoc k.0 (44 ∷ k.1) (i.0 ++ rest))))

  -- what follows the first items of a list: further items and the closing token
  abbrev pub TailFound : {Y : Type 0} → (Y → List X) → ℕ → List X → List ℕ → List ℕ → Y → Type 0
  TailFound items d before bytes rest y = (b t : List ℕ) × (xs : List X) × AreMore Item b xs × AreSpaces t × (bytes ≡ b ++ (t ++ (d ∷ rest))) ×
      (items y ≡ before ++ xs)

  pub enclosed_read : {Y : Type 0} (T : X → List ℕ → Option (Y × List ℕ)) (o d : ℕ) (text rest : List ℕ) (x : X) (xs : List X) (y : Y) →
      ((z : List ℕ) → after (o ∷ []) (o ∷ z) ≡ Some z) → Closes d
      → IsEnclosed (o ∷ []) (d ∷ []) Item text (x ∷ xs) → ((b t : List ℕ) → AreMore Item b xs → AreSpaces t → T x (b ++ (t ++ (d ∷ rest))) ≡ Some (y, rest))
      → option_and_then (λ inside. option_and_then (λ (a : X × List ℕ). T a.0 a.1) (at inside)) (after_token (o ∷ []) (text ++ rest)) ≡ Some (y, rest)
  enclosed_read {Y} T o d text rest x xs y again k (s, l, t, p, (a, b, i, m, e), q, f) tail =
      let behind : List ℕ = b ++ (t ++ (d ∷ rest)) in
      let inner : (l ++ (t ++ (d ∷ []))) ++ rest ≡ a ++ behind = append_assoc l (t ++ (d ∷ [])) rest ∙ ap (λ z. z ++ ((t ++ (d ∷ [])) ++ rest)) e ∙
      append_assoc a b ((t ++ (d ∷ [])) ++ rest) ∙ ap (λ z. a ++ (b ++ z)) (append_assoc t (d ∷ []) rest) in
      let joined : text ++ rest ≡ o ∷ (s ++ (a ++ behind)) = ap (λ z. z ++ rest) f ∙
      ap (λ z. o ∷ z) (append_assoc s (l ++ (t ++ (d ∷ []))) rest ∙ ap (λ z. s ++ z) inner) in
      let go : Option (List ℕ) → Option (Y × List ℕ) = option_and_then (λ inside. option_and_then (λ (a : X × List ℕ). T a.0 a.1) (at inside)) in
      ap (λ z. go (after_token (o ∷ []) z)) joined
      ∙ ap (λ z. go (option_map skip_spaces z)) (again (s ++ (a ++ behind)))
      ∙ ap (λ z. go (Some z)) (skip_over s (a ++ behind) p (r.unspaced a behind x i))
      ∙ ap (option_and_then (λ (a : X × List ℕ). T a.0 a.1)) (r.read a behind x i (more_ends d b t rest xs k m q))
      ∙ tail b t m q

  pub enclosed_found : {Y : Type 0} (items : Y → List X) (T : X → List ℕ → Option (Y × List ℕ)) (o d : ℕ) (bytes rest : List ℕ) (y : Y)
      → ((x : X) (z : List ℕ) → T x z ≡ Some (y, rest) → TailFound items d (x ∷ []) z rest y)
      → option_and_then (λ inside. option_and_then (λ (a : X × List ℕ). T a.0 a.1) (at inside)) (after_token (o ∷ []) bytes) ≡ Some (y, rest)
      → (text : List ℕ) × IsEnclosed (o ∷ []) (d ∷ []) Item text (items y) × (bytes ≡ text ++ rest)
  enclosed_found {Y} items T o d bytes rest y tail e =
      option_and_then_some (λ inside. option_and_then (λ (a : X × List ℕ). T a.0 a.1) (at inside)) (after_token (o ∷ []) bytes) (y, rest) e (λ inside f g.
      option_and_then_some (λ (a : X × List ℕ). T a.0 a.1) (at inside) (y, rest) g (λ a h k.
      let sp = token_found (o ∷ []) bytes inside f in
      let i = r.found inside a.1 a.0 h in
      let w = tail a.0 a.1 k in
      let text : List ℕ = o ∷ (sp.0 ++ ((i.0 ++ w.0) ++ (w.1 ++ (d ∷ [])))) in
      let joined : text ++ rest ≡ o ∷ (sp.0 ++ (i.0 ++ (w.0 ++ (w.1 ++ (d ∷ rest))))) =
      ap (λ z. o ∷ z) (append_assoc sp.0 ((i.0 ++ w.0) ++ (w.1 ++ (d ∷ []))) rest
      ∙ ap (λ z. sp.0 ++ z) (append_assoc (i.0 ++ w.0) (w.1 ++ (d ∷ [])) rest ∙ ap (λ z. (i.0 ++ w.0) ++ z) (append_assoc w.1 (d ∷ []) rest) ∙
      append_assoc i.0 w.0 (w.1 ++ (d ∷ rest)))) in (
        text,
        subst (IsEnclosed (o ∷ []) (d ∷ []) Item text) (sym w.6) (sp.0, i.0 ++ w.0, w.1, sp.1, (i.0, w.0, i.1, w.3, refl), w.4, refl),
        sp.2 ∙ ap (λ z. o ∷ (sp.0 ++ z)) (i.2 ∙ ap (λ z. i.0 ++ z) w.5) ∙ sym joined,
      )))

  -- ---- one item more, or none

  module _ {Y : Type 0} (items : Y → List X) (d : ℕ) (k : Closes d) where
    -- the list ends here
    pub last_read : (y : Y) (t rest : List ℕ) → AreSpaces t → option_map {U = Y × List ℕ} (λ (z : List ℕ). (y, z)) (close_at (d ∷ []) (t ++ (d ∷ rest))) ≡ Some
        (y, rest)
    last_read y t rest a = ap (option_map {U = Y × List ℕ} (λ (z : List ℕ). (y, z))) (close_over d t rest k.stop.1 a)

    pub end_read : (y : Y) (b t rest : List ℕ) → b ≡ [] → AreSpaces t →
        option_map {U = Y × List ℕ} (λ (z : List ℕ). (y, z)) (close_at (d ∷ []) (b ++ (t ++ (d ∷ rest)))) ≡ Some (y, rest)
    end_read y b t rest e a = ap (λ x. option_map {U = Y × List ℕ} (λ (z : List ℕ). (y, z)) (close_at (d ∷ []) (x ++ (t ++ (d ∷ rest))))) e ∙
        last_read y t rest a

    pub last_found : (before : List X) (y v : Y) (bytes rest : List ℕ) → items v ≡ before →
        option_map {U = Y × List ℕ} (λ (z : List ℕ). (v, z)) (close_at (d ∷ []) bytes) ≡ Some (y, rest) → TailFound items d before bytes rest y
    last_found before y v bytes rest i e = mapped {B = Y × List ℕ} (λ (z : List ℕ). (v, z)) (close_at (d ∷ []) bytes) (y, rest) e (λ z f p.
        let q = close_found (d ∷ []) bytes z f in
        let value : v ≡ y = ap (λ (m : Y × List ℕ). m.0) p in
        let left : z ≡ rest = ap (λ (m : Y × List ℕ). m.1) p in
        ([], q.0, [], refl, q.1, q.2 ∙ ap (λ m. q.0 ++ (d ∷ m)) left, ap items (sym value) ∙ i ∙ sym (append-nil before)))

    -- a further item
    pub more_found : (n : X × List ℕ) (before : List X) (y : Y) (bytes rest : List ℕ) → option_and_then at (comma_at bytes) ≡ Some n →
        TailFound items d (before ++ n.0 ∷ []) n.1 rest y → TailFound items d before bytes rest y
    more_found n before y bytes rest o w =
        let m = next_found bytes n.1 n.0 o in
        let joined : (m.0 ++ (m.1 ++ w.0)) ++ (w.1 ++ (d ∷ rest)) ≡ m.0 ++ (m.1 ++ (w.0 ++ (w.1 ++ (d ∷ rest)))) =
        append_assoc m.0 (m.1 ++ w.0) (w.1 ++ (d ∷ rest)) ∙ ap (λ z. m.0 ++ z) (append_assoc m.1 w.0 (w.1 ++ (d ∷ rest))) in (
          m.0 ++ (m.1 ++ w.0),
          w.1,
          n.0 ∷ w.2,
          (m.0, m.1, w.0, m.2, m.3, w.3, refl),
          w.4,
          m.4 ∙ ap (λ z. m.0 ++ (m.1 ++ z)) w.5 ∙ sym joined,
          w.6 ∙
              append_assoc before (n.0 ∷ []) w.2,
        )

    pub more_read : (b t rest : List ℕ) (x : X) (xs : List X) → AreMore Item b (x ∷ xs) → AreSpaces t
        → (w : List ℕ) × AreMore Item w xs × (option_and_then at (comma_at (b ++ (t ++ (d ∷ rest)))) ≡ Some (x, w ++ (t ++ (d ∷ rest))))
    more_read b t rest x xs (c, u, w, p, i, m, e) a =
        let behind : List ℕ = w ++ (t ++ (d ∷ rest)) in
        let joined : b ++ (t ++ (d ∷ rest)) ≡ c ++ (u ++ behind) = ap (λ z. z ++ (t ++ (d ∷ rest))) e ∙ append_assoc c (u ++ w) (t ++ (d ∷ rest)) ∙
        ap (λ z. c ++ z) (append_assoc u w (t ++ (d ∷ rest))) in
        (w, m, ap (λ z. option_and_then at (comma_at z)) joined ∙ next_read c u behind x p i (more_ends d w t rest xs k m a))

    -- the list goes on, or ends here
    abbrev pub goes_on : (X → List ℕ → Option (Y × List ℕ)) → Y → List ℕ → Option (Y × List ℕ)
    goes_on T v bytes = option_map_or (λ (b : X × List ℕ). T b.0 b.1) (option_and_then at (comma_at bytes))
        (option_map {U = Y × List ℕ} (λ (z : List ℕ). (v, z)) (close_at (d ∷ []) bytes))

    pub ends_read : (T : X → List ℕ → Option (Y × List ℕ)) (v : Y) (b t rest : List ℕ) → b ≡ [] → AreSpaces t →
        goes_on T v (b ++ (t ++ (d ∷ rest))) ≡ Some (v, rest)
    ends_read T v b t rest e a = ap (λ z. goes_on T v (z ++ (t ++ (d ∷ rest)))) e
        ∙ ap (λ z. option_map_or (λ (b : X × List ℕ). T b.0 b.1) z (option_map {U = Y × List ℕ} (λ (z : List ℕ). (v, z))
        (close_at (d ∷ []) (t ++ (d ∷ rest))))) (next_none d t rest k a) ∙ last_read v t rest a

    pub goes_read : (T : X → List ℕ → Option (Y × List ℕ)) (v y : Y) (b t rest : List ℕ) (x : X) (xs : List X) → AreMore Item b (x ∷ xs) → AreSpaces t
        → ((w : List ℕ) → AreMore Item w xs → T x (w ++ (t ++ (d ∷ rest))) ≡ Some (y, rest)) → goes_on T v (b ++ (t ++ (d ∷ rest))) ≡ Some (y, rest)
    goes_read T v y b t rest x xs h a tail =
        let m = more_read b t rest x xs h a in
        ap (λ z. option_map_or (λ (b : X × List ℕ). T b.0 b.1) z (option_map {U = Y × List ℕ} (λ (z : List ℕ). (v, z))
        (close_at (d ∷ []) (b ++ (t ++ (d ∷ rest)))))) m.2 ∙ tail m.0 m.1

    pub on_found : (o : Option (X × List ℕ)) (T : X → List ℕ → Option (Y × List ℕ)) (before : List X) (v y : Y) (bytes rest : List ℕ) → items v ≡ before →
        option_and_then at (comma_at bytes) ≡ o
        → ((x : X) (z : List ℕ) → T x z ≡ Some (y, rest) → TailFound items d (before ++ x ∷ []) z rest y)
        → option_map_or (λ (b : X × List ℕ). T b.0 b.1) o (option_map {U = Y × List ℕ} (λ (z : List ℕ). (v, z)) (close_at (d ∷ []) bytes)) ≡ Some (y, rest) →
        TailFound items d before bytes rest y
    on_found None T before v y bytes rest i o tail e = last_found before y v bytes rest i e
    on_found (Some n) T before v y bytes rest i o tail e = more_found n before y bytes rest o (tail n.0 n.1 e)

-- Items between tokens are read back, whatever the items are.
use Rattle.std.proofs.Common.{◌≡◌, ℕ, zero, suc, ◌<◌, List, [], ◌∷◌, ◌++◌, map, codes, length, Option, Some, option_map, refl, sym, ap, ◌∙◌, append_assoc}
use Rattle.std.proofs.Common.{arith}
use Rattle.std.proofs.lemmas.List.{length-append}
use Rattle.std.specs.List.{join_by, flat_map}
use Rattle.wb_literals.specs.Tokens.{comma_at}
use Rattle.wb_literals.specs.Set.{items_at}
use Rattle.wb_literals.proofs.Listing.{last_at, more_at}
use Rattle.wb_literals.proofs.ListGrammar.{Closes, closing_ends, comma_ends}
use Rattle.wb_literals.proofs.RangeGrammar.{Ends}
use Rattle.wb_literals.proofs.TokenLemmas.{NoSpace, comma_over, no_comma}
use Rattle.wb_text.specs.Literals.{further, enclosed}
use Rattle.wb_text.proofs.Readable.{Each}
use Rattle.wb_text.proofs.Parsed.Back.Spelled.{comma_spelled}

module _ {X L : Type 0} (at : List ℕ → Option (L × List ℕ)) (text : X → List ℕ) (literal : X → L) (Is : X → Type 0) (close : ℕ) (k : Closes close)
    (read : (x : X) (rest : List ℕ) → Is x → Ends rest → at (text x ++ rest) ≡ Some (literal x, rest))
    (unspaced : (x : X) (rest : List ℕ) → Is x → NoSpace (text x ++ rest)) where
  -- what stands behind an item
  abbrev pub tail : List X → List ℕ → List ℕ
  tail xs rest = flat_map (further text) xs ++ (close ∷ rest)

  pub tail_ends : (xs : List X) (rest : List ℕ) → Ends (tail xs rest)
  tail_ends [] rest = closing_ends close [] rest k tt
  tail_ends (x ∷ xs) rest = comma_ends (44 ∷ 32 ∷ []) ((text x ++ flat_map (further text) xs) ++ (close ∷ rest)) comma_spelled

  tail_more : (x : X) (xs : List X) (rest : List ℕ) → tail (x ∷ xs) rest ≡ 44 ∷ 32 ∷ (text x ++ tail xs rest)
  tail_more x xs rest = ap (λ z. 44 ∷ 32 ∷ z) (append_assoc (text x) (flat_map (further text) xs) (close ∷ rest))

  tail_long : (xs : List X) (rest : List ℕ) → length xs < length (tail xs rest)
  tail_long [] rest = omega arith
  tail_long (x ∷ xs) rest =
      let h = tail_long xs rest in let e = ap length (tail_more x xs rest) in let f = length-append (text x) (tail xs rest) in
      omega (arith, h, e, f)

  goes_on : (x : X) (xs : List X) (rest : List ℕ) → Is x → comma_at (tail (x ∷ xs) rest) ≡ Some (text x ++ tail xs rest)
  goes_on x xs rest h = ap comma_at (tail_more x xs rest) ∙ comma_over [] (32 ∷ []) (text x ++ tail xs rest) tt (refl, tt) (unspaced x (tail xs rest) h)

  pub items_back : (n : ℕ) (x : X) (xs : List X) (rest : List ℕ) → length xs < n → Each Is (x ∷ xs) →
      items_at at n (text x ++ tail xs rest) ≡ Some (map literal (x ∷ xs), close ∷ rest)
  items_back zero x xs rest z h = absurd (omega (arith, z))
  items_back (suc n) x [] rest z h =
      sym (last_at at (suc n) (literal x) (text x ++ tail [] rest) (close ∷ rest) (omega arith) (sym (read x (tail [] rest) h.0 (tail_ends [] rest)))
      (sym (no_comma close [] rest tt k.stop.1 k.other)))
  items_back (suc n) x (y ∷ ys) rest z h =
      more_at at n (literal x) (text x ++ tail (y ∷ ys) rest) (tail (y ∷ ys) rest) (text y ++ tail ys rest)
      (sym (read x (tail (y ∷ ys) rest) h.0 (tail_ends (y ∷ ys) rest))) (sym (goes_on y ys rest h.1.0))
      ∙ ap (option_map (λ (more : List L × List ℕ). (literal x ∷ more.0, more.1))) (items_back n y ys rest (omega (arith, z)) h.1)

  -- a text has more bytes than items
  pub all_back : (x : X) (xs : List X) (rest : List ℕ) → Each Is (x ∷ xs) →
      items_at at (length (text x ++ tail xs rest)) (text x ++ tail xs rest) ≡ Some (map literal (x ∷ xs), close ∷ rest)
  all_back x xs rest h =
      let l = tail_long xs rest in let f = length-append (text x) (tail xs rest) in
      items_back (length (text x ++ tail xs rest)) x xs rest (omega (arith, l, f)) h

  -- the items behind the opening token
  pub inside : (left : List ℕ) (x : X) (xs : List X) (rest : List ℕ) → enclosed left (close ∷ []) text (x ∷ xs) ++ rest ≡ left ++ (text x ++ tail xs rest)
  inside left x xs rest =
      append_assoc left (join_by text (codes ", ") (x ∷ xs) ++ (close ∷ [])) rest
      ∙ ap (λ z. left ++ z) (append_assoc (join_by text (codes ", ") (x ∷ xs)) (close ∷ []) rest ∙
      append_assoc (text x) (flat_map (further text) xs) (close ∷ rest))

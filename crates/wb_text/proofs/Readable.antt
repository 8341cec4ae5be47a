-- Texts that are read in one way: what is written is known from the text, and so is where it ends.
use Rattle.std.proofs.Common.{◌≡◌, ◌≢◌, ℕ, Bool, true, false, ◌&&◌, List, [], ◌∷◌, ◌++◌, codes, refl, sym, ap, ◌∙◌, append_assoc, nat_eq}
use Rattle.std.proofs.lemmas.Bool.{eq-eqb}
use Rattle.std.proofs.lemmas.List.{append_cancel_left}
use Rattle.std.specs.List.{list_all, flat_map, join_by}
use Rattle.wb_text.specs.Literals.{further, enclosed}

-- two texts alike, each of a value that may be written and of something that may follow it, are of one value, and what
-- follows is alike
abbrev pub IsRead : {X : Type 0} → (Ends : List ℕ → Type 0) → (Is : X → Type 0) → (X → List ℕ) → Type 0
IsRead {X} Ends Is text = (x y : X) (r q : List ℕ) → Is x → Is y → Ends r → Ends q → text x ++ r ≡ text y ++ q → (x ≡ y) × (r ≡ q)

-- the text of a value never begins with this byte
abbrev pub IsNever : {X : Type 0} → (Ends : List ℕ → Type 0) → (Is : X → Type 0) → (X → List ℕ) → ℕ → Type 0
IsNever {X} Ends Is text b = (x : X) (r q : List ℕ) → Is x → Ends r → text x ++ r ≡ b ∷ q → ⊥

-- each of them
abbrev pub Each : {X : Type 0} → (X → Type 0) → List X → Type 0
Each Is [] = Unit {0}
Each Is (x ∷ xs) = Is x × Each Is xs

-- anything may follow
abbrev pub Any : List ℕ → Type 0
Any r = Unit {0}

-- ---- the bytes up to the first one that cannot be among them

pub head_same : (a b : ℕ) (r q : List ℕ) → a ∷ r ≡ b ∷ q → a ≡ b
head_same a b r q e = cc

pub tail_same : (a b : ℕ) (r q : List ℕ) → a ∷ r ≡ b ∷ q → r ≡ q
tail_same a b r q e = cc

true_false : true ≡ false → ⊥
true_false e = cc

unequal : (a b : ℕ) → nat_eq a b ≡ false → a ≡ b → ⊥
unequal a b f e = let t = eq-eqb a b e in true_false (sym t ∙ f)

-- texts with other first bytes are not alike
pub other_first : {X : Type 0} (a b : ℕ) (r q : List ℕ) → nat_eq a b ≡ false → a ∷ r ≡ b ∷ q → X
other_first a b r q f e = absurd (unequal a b f (head_same a b r q e))

pub both : (a b : Bool) → a && b ≡ true → (a ≡ true) × (b ≡ true)
both true b e = (refl, e)
both false b e = cc

apart : (p : ℕ → Bool) (b c : ℕ) → p b ≡ false → p c ≡ true → b ≡ c → ⊥
apart p b c f t e = let g = ap p e in cc

pub bytes_until : (p : ℕ → Bool) (b : ℕ) → p b ≡ false → (m n r q : List ℕ) → list_all p m ≡ true → list_all p n ≡ true → m ++ (b ∷ r) ≡ n ++ (b ∷ q) →
    (m ≡ n) × (r ≡ q)
bytes_until p b f [] [] r q h k e = (refl, tail_same b b r q e)
bytes_until p b f [] (c ∷ n) r q h k e = absurd (apart p b c f (both (p c) (list_all p n) k).0 (head_same b c r (n ++ (b ∷ q)) e))
bytes_until p b f (c ∷ m) [] r q h k e = absurd (apart p b c f (both (p c) (list_all p m) h).0 (sym (head_same c b (m ++ (b ∷ r)) q e)))
bytes_until p b f (c ∷ m) (d ∷ n) r q h k e =
    let rest = bytes_until p b f m n r q (both (p c) (list_all p m) h).1 (both (p d) (list_all p n) k).1 (tail_same c d _ _ e) in
    let first = head_same c d _ _ e in
    let same = rest.0 in
    (cc, rest.1)

-- ---- lists

-- further items up to a closing byte other than a comma
further_read : {X : Type 0} (Ends : List ℕ → Type 0) (Is : X → Type 0) (text : X → List ℕ) (close : ℕ) → IsRead Ends Is text → close ≢ 44
    → ((r : List ℕ) → Ends (44 ∷ r)) → ((r : List ℕ) → Ends (close ∷ r))
    → (xs ys : List X) (r q : List ℕ) → Each Is xs → Each Is ys → flat_map (further text) xs ++ (close ∷ r) ≡ flat_map (further text) ys ++ (close ∷ q) →
    (xs ≡ ys) × (r ≡ q)
further_read Ends Is text close read other comma closing [] [] r q h k e = (refl, tail_same close close r q e)
further_read Ends Is text close read other comma closing [] (y ∷ ys) r q h k e = absurd (other (head_same close 44 _ _ e))
further_read Ends Is text close read other comma closing (x ∷ xs) [] r q h k e = absurd (other (sym (head_same 44 close _ _ e)))
further_read {X} Ends Is text close read other comma closing (x ∷ xs) (y ∷ ys) r q h k e =
    let more : List X → List ℕ → List ℕ = λ zs t. flat_map (further text) zs ++ (close ∷ t) in
    let after : text x ++ more xs r ≡ text y ++ more ys q =
    sym (append_assoc (text x) _ _) ∙ tail_same 32 32 _ _ (tail_same 44 44 _ _ e) ∙ append_assoc (text y) _ _ in
    let one = read x y (more xs r) (more ys q) h.0 k.0 (ends xs r) (ends ys q) after in
    let rest = further_read Ends Is text close read other comma closing xs ys r q h.1 k.1 one.1 in
    let same = rest.0 in let first = one.0 in
    (cc, rest.1)
  where
    ends : (zs : List X) (t : List ℕ) → Ends (flat_map (further text) zs ++ (close ∷ t))
    ends [] t = closing t
    ends (z ∷ zs) t = comma _

-- items between tokens, of which the closing one is a single byte, and no item begins with it
pub enclosed_read : {X : Type 0} (Ends : List ℕ → Type 0) (Is : X → Type 0) (text : X → List ℕ) (left : List ℕ) (close : ℕ) → IsRead Ends Is text → close ≢ 44
    → ((r : List ℕ) → Ends (44 ∷ r)) → ((r : List ℕ) → Ends (close ∷ r)) → IsNever Ends Is text close
    → IsRead Any (Each Is) (enclosed left (close ∷ []) text)
enclosed_read {X} Ends Is text left close read other comma closing never xs ys r q h k a b e =
    within xs ys h k (append_cancel_left left _ _ (sym (shifted xs r) ∙ e ∙ shifted ys q))
  where
    shifted : (zs : List X) (t : List ℕ) → enclosed left (close ∷ []) text zs ++ t ≡ left ++ (join_by text (codes ", ") zs ++ (close ∷ t))
    shifted zs t = append_assoc left _ t ∙ ap (λ x. left ++ x) (append_assoc (join_by text (codes ", ") zs) (close ∷ []) t)

    ends : (zs : List X) (t : List ℕ) → Ends (flat_map (further text) zs ++ (close ∷ t))
    ends [] t = closing t
    ends (z ∷ zs) t = comma _

    begun : (z : X) (zs : List X) (t : List ℕ) → join_by text (codes ", ") (z ∷ zs) ++ (close ∷ t) ≡ text z ++ (flat_map (further text) zs ++ (close ∷ t))
    begun z zs t = append_assoc (text z) (flat_map (further text) zs) (close ∷ t)

    within : (us vs : List X) → Each Is us → Each Is vs → join_by text (codes ", ") us ++ (close ∷ r) ≡ join_by text (codes ", ") vs ++ (close ∷ q) →
        (us ≡ vs) × (r ≡ q)
    within [] [] i j f = (refl, tail_same close close r q f)
    within [] (v ∷ vs) i j f = absurd (never v _ r j.0 (ends vs q) (sym (f ∙ begun v vs q)))
    within (u ∷ us) [] i j f = absurd (never u _ q i.0 (ends us r) (sym (begun u us r) ∙ f))
    within (u ∷ us) (v ∷ vs) i j f =
        let one = read u v _ _ i.0 j.0 (ends us r) (ends vs q) (sym (begun u us r) ∙ f ∙ begun v vs q) in
        let rest = further_read Ends Is text close read other comma closing us vs r q i.1 j.1 one.1 in
        let same = rest.0 in let first = one.0 in
        (cc, rest.1)

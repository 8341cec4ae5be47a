-- What is read as a list of short texts, is read as that list of texts.
use Rattle.std.proofs.Common.{◌≡◌, ℕ, zero, suc, Bool, true, false, List, [], ◌∷◌, length, nat_le, if◌then◌else◌, Option, Some, None, refl, sym, ap, ◌∙◌}
use Rattle.std.specs.Prelude.{option_map, option_and_then, is_some, IfSome}
use Rattle.std.specs.Option.{option_map_or}
use Rattle.wb_literals.specs.Tokens.{comma_at}
use Rattle.wb_literals.specs.Set.{Items, texts, items_at, listed_at, text_at, short_of, short_text_at, short_texts_at, texts_at}

-- a label in less room is the text, where it is short
pub short_is : (o : Option (List ℕ)) (t : List ℕ) → IfSome o (λ k. k ≡ t) → is_some o ≡ nat_le (length t) 23 → o ≡ short_of t
short_is None t same short = rw (← short) refl
short_is (Some k) t same short = rw (← short) (ap (λ u. Some u) same)

and_then : {X Y : Type 0} (o p : Option X) (f g : X → Option Y) → ((x : X) → o ≡ Some x → p ≡ Some x) → ((x : X) (y : Y) → f x ≡ Some y → g x ≡ Some y) → (y : Y) →
    option_and_then f o ≡ Some y → option_and_then g p ≡ Some y
and_then None p f g same more y e = cc
and_then (Some x) p f g same more y e = ap (option_and_then g) (same x refl) ∙ more x y e

map_or : {X Y : Type 0} (o : Option X) (d : Option Y) (f g : X → Option Y) → ((x : X) (y : Y) → f x ≡ Some y → g x ≡ Some y) → (y : Y) →
    option_map_or f o d ≡ Some y → option_map_or g o d ≡ Some y
map_or None d f g more y e = e
map_or (Some x) d f g more y e = more x y e

mapped : {X Y : Type 0} (o p : Option X) (f : X → Y) → ((x : X) → o ≡ Some x → p ≡ Some x) → (y : Y) → option_map f o ≡ Some y → option_map f p ≡ Some y
mapped None p f same y e = cc
mapped (Some x) p f same y e = ap (option_map f) (same x refl) ∙ e

items : {X : Type 0} (f g : List ℕ → Option (X × List ℕ)) → ((b : List ℕ) (x : X × List ℕ) → f b ≡ Some x → g b ≡ Some x) → (n : ℕ) (b : List ℕ) (y : List X × List ℕ) →
    items_at f n b ≡ Some y → items_at g n b ≡ Some y
items f g same zero b y e = e
items f g same (suc n) b y e = and_then (f b) (g b) _ _ (same b)
    (λ x z. map_or (comma_at x.1) (Some (x.0 ∷ [], x.1)) _ _ (λ r. mapped (items_at f n r) (items_at g n r) _ (items f g same n r)) z) y e

one : (t r : List ℕ) (b : Bool) (x : List ℕ × List ℕ) → option_map (λ u. (u, r)) (if b then Some t else None) ≡ Some x → Some (t, r) ≡ Some x
one t r true x e = e
one t r false x e = cc

text : (o : Option (List ℕ × List ℕ)) (x : List ℕ × List ℕ) → option_and_then (λ y. option_map (λ t. (t, y.1)) (short_of y.0)) o ≡ Some x → o ≡ Some x
text None x e = e
text (Some y) x e = one y.0 y.1 (nat_le (length y.0) 23) x e

listed : (b : List ℕ) (y : List (List ℕ) × List ℕ) → listed_at short_text_at b ≡ Some y → listed_at text_at b ≡ Some y
listed b y e = and_then (items_at short_text_at (length b) b) (items_at text_at (length b) b) _ _
    (items short_text_at text_at (λ c. text (text_at c)) (length b) b) (λ x z h. h) y e

pub texts_short : (b : List ℕ) (y : Items × List ℕ) → Some y ≡ short_texts_at b → Some y ≡ texts_at b
texts_short b y e = sym (mapped (listed_at short_text_at b) (listed_at text_at b) (λ x. (texts x.0, x.1)) (listed b) y (sym e))

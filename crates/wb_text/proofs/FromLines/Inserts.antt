-- What stands at a key after pairs were put into a map.
use Rattle.std.proofs.Common.{◌≡◌, Bool, true, false, cond, ◌||◌, List, [], ◌∷◌, map, Option, Some, None, option_map, refl, sym, ap, ◌∙◌, Ordering}
use Rattle.std.specs.FinMap.{FinMap, get, insert, get-insert}
use Rattle.std.specs.List.{list_any}
use Rattle.std.specs.Ordering.{eq_by_cmp}
use Rattle.selective_undo.specs.Changes.{IsOrder}
use Rattle.wb_text.specs.FromLines.Inserted.{inserted, or_else, last_of}

pub none_first : {V : Type 0} (o : Option V) → or_else None o ≡ o
none_first None = refl
none_first (Some v) = refl

one_more : {V : Type 0} (a : Option V) (b : Bool) (v : V) (o : Option V) → or_else a (cond b (Some v) o) ≡ or_else (or_else a (cond b (Some v) None)) o
one_more a true v None = refl
one_more a true v (Some w) = refl
one_more a false v o = refl

mapped : {V W : Type 0} (f : W → V) (a : Option W) (b : Bool) (w : W) →
    or_else (option_map f a) (cond b (Some (f w)) None) ≡ option_map f (or_else a (cond b (Some w) None))
mapped f None true w = refl
mapped f (Some v) true w = refl
mapped f a false w = refl

one_or : {V : Type 0} (r b : Bool) (v : V) → or_else (cond r (Some v) None) (cond b (Some v) None) ≡ cond (b || r) (Some v) None
one_or true true v = refl
one_or false true v = refl
one_or r false v = refl

module _ {K V : Type 0} (order : K → K → Ordering) where
  -- one more pair ahead of others
  pub head : (e : K × V) (es : List (K × V)) (c : K) (b : Bool) (o : Option V) → eq_by_cmp order c e.0 ≡ b → last_of order es c ≡ o →
      last_of order (e ∷ es) c ≡ or_else o (cond b (Some e.1) None)
  head e es c b o f h = ap (λ t. or_else (last_of order es c) (cond t (Some e.1) None)) f ∙ ap (λ x. or_else x (cond b (Some e.1) None)) h

  pub never : {I : Type 0} (g : I → K × V) (is : List I) (c : K) → ((i : I) → eq_by_cmp order c (g i).0 ≡ false) → last_of order (map g is) c ≡ None
  never g [] c h = refl
  never g (i ∷ is) c h = head (g i) (map g is) c false None (h i) (never g is c h)

  -- pairs of one value, by the index of the key
  pub alike : {I : Type 0} (cmp : I → I → Ordering) (make : I → K) (v : V) (is : List I) (c : K) (i : I) →
      ((j : I) → eq_by_cmp order c (make j) ≡ eq_by_cmp cmp i j)
      → last_of order (map (λ j. (make j, v)) is) c ≡ cond (list_any (eq_by_cmp cmp i) is) (Some v) None
  alike cmp make v [] c i h = refl
  alike cmp make v (j ∷ is) c i h =
      ap (λ o. or_else o (cond (eq_by_cmp order c (make j)) (Some v) None)) (alike cmp make v is c i h)
      ∙ ap (λ b. or_else (cond (list_any (eq_by_cmp cmp i) is) (Some v) None) (cond b (Some v) None)) (h j)
      ∙ one_or (list_any (eq_by_cmp cmp i) is) (eq_by_cmp cmp i j) v

  -- pairs of which each has a value of its own
  pub by_index : {I W : Type 0} (cmp : I → I → Ordering) (make : I → K) (f : W → V) (ps : List (I × W)) (c : K) (i : I) →
      ((j : I) → eq_by_cmp order c (make j) ≡ eq_by_cmp cmp i j)
      → last_of order (map (λ (p : I × W). (make p.0, f p.1)) ps) c ≡ option_map f (last_of cmp ps i)
  by_index cmp make f [] c i h = refl
  by_index cmp make f (p ∷ ps) c i h =
      ap (λ o. or_else o (cond (eq_by_cmp order c (make p.0)) (Some (f p.1)) None)) (by_index cmp make f ps c i h)
      ∙ ap (λ b. or_else (option_map f (last_of cmp ps i)) (cond b (Some (f p.1)) None)) (h p.0)
      ∙ mapped f (last_of cmp ps i) (eq_by_cmp cmp i p.0) p.1

module _ {K V : Type 0} {order : K → K → Ordering} where
  pub get-inserted : IsOrder order → (es : List (K × V)) (s : FinMap order V) (c : K) → get (inserted es s) c ≡ or_else (last_of order es c) (get s c)
  get-inserted ordered [] s c = sym (none_first (get s c))
  get-inserted ordered (e ∷ es) s c =
      get-inserted ordered es (insert s e.0 e.1) c
      ∙ ap (or_else (last_of order es c)) (get-insert ordered.total s e.0 e.1 c)
      ∙ one_more (last_of order es c) (eq_by_cmp order c e.0) e.1 (get s c)

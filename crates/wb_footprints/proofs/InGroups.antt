-- Blocks by keys: what is in them after the blocks of a key are set, put in or dropped.
use Rattle.std.proofs.Common.{◌≡◌, ℕ, ◌<◌, ◌⊎◌, inl, inr, Bool, true, false, true≢false, cond, ◌&&◌, ◌||◌, ◌==◌, if◌then◌else◌}
use Rattle.std.proofs.Common.{List, [], ◌∷◌, Some, None, refl, sym, ap, subst, ◌∙◌, arith}
use Rattle.std.specs.BTreeMap.{BTreeMap, get, insert_entry, is_at}
use Rattle.std.specs.List.{AllByRecursion}
use Rattle.std.specs.List.Sorted.{IsStrictlySortedBy}
use Rattle.std.specs.Map.{lookup, set_value, remove_entry, keys_of}
use Rattle.std.specs.Ordering.{nat_cmp, is_eq, match_ordering}
use Rattle.std.specs.declared.cmp.Ordering.{Ordering}
use Rattle.std.specs.declared.cmp.Ordering.TheVariants.{Less, Equal, Greater}
use Rattle.std.proofs.lemmas.Bool.Decides.{nat_tests}
use Rattle.std.proofs.lemmas.Cmp.{ranked}
use Rattle.wb_footprints.specs.declared.marks.blocks.Blocks.{Blocks}
use Rattle.wb_cells.specs.declared.values.index.Index.{Index}
use Rattle.wb_footprints.specs.Relation.{Sets}
use Rattle.wb_footprints.specs.Blocks.{in_blocks}
use Rattle.wb_footprints.specs.Groups.{in_groups, is_apart, AreAll}

pub within : (c x r : Bool) → (if c then true else x) || r ≡ (if c then true else (x || r))
within true x r = refl
within false x r = refl

pub beside : (x c r : Bool) → x || (if c then true else r) ≡ (if c then true else (x || r))
beside true true r = refl
beside true false r = refl
beside false c r = refl

turned : (a b c : Bool) → a || (b || c) ≡ b || (a || c)
turned true true c = refl
turned true false c = refl
turned false b c = refl

-- ---- a number at a point

module _ (p : Index) (n : ℕ) where
  abbrev pub has : Blocks → Bool
  has b = in_blocks b.list.items p n

  set_by : (test : ℕ → Bool) (e : ℕ × Blocks) (es : List (ℕ × Blocks)) (v w : Blocks) (c b : Bool) → has w ≡ (if c then true else has v) →
      (lookup test es ≡ Some v → in_groups (set_value test es w) p n ≡ (if c then true else in_groups es p n)) → cond b (Some e.1) (lookup test es) ≡ Some v →
      in_groups (cond b ((e.0, w) ∷ es) (e ∷ set_value test es w)) p n ≡ (if c then true else in_groups (e ∷ es) p n)
  set_by test e es v w c true is more here =
      let same : v ≡ e.1 = cc in
      ap (λ x. x || in_groups es p n) (is ∙ ap (λ (y : Blocks). if c then true else has y) same) ∙ within c (has e.1) (in_groups es p n)
  set_by test e es v w c false is more there = ap (λ x. has e.1 || x) (more there) ∙ beside (has e.1) c (in_groups es p n)

  -- the blocks of a key become others that say more of a number
  pub any_set : (test : ℕ → Bool) (es : List (ℕ × Blocks)) (v w : Blocks) (c : Bool) → lookup test es ≡ Some v → has w ≡ (if c then true else has v) →
      in_groups (set_value test es w) p n ≡ (if c then true else in_groups es p n)
  any_set test [] v w c found is = cc
  any_set test (e ∷ es) v w c found is = set_by test e es v w c (test e.0) is (λ there. any_set test es v w c there is) found

  put_by : (e : ℕ × Blocks) (es : List (ℕ × Blocks)) (k : ℕ) (w : Blocks) (o : Ordering) →
      (lookup (is_at (nat_cmp k)) es ≡ None → in_groups (insert_entry nat_cmp es k w) p n ≡ has w || in_groups es p n) →
      cond (is_eq o) (Some e.1) (lookup (is_at (nat_cmp k)) es) ≡ None →
      in_groups (match_ordering o ((k, w) ∷ e ∷ es) ((e.0, w) ∷ es) (e ∷ insert_entry nat_cmp es k w)) p n ≡ has w || in_groups (e ∷ es) p n
  put_by e es k w Less more none = refl
  put_by e es k w Equal more none = cc
  put_by e es k w Greater more none = ap (λ x. has e.1 || x) (more none) ∙ turned (has e.1) (has w) (in_groups es p n)

  -- a key comes with its first blocks
  pub any_put : (es : List (ℕ × Blocks)) (k : ℕ) (w : Blocks) → lookup (is_at (nat_cmp k)) es ≡ None →
      in_groups (insert_entry nat_cmp es k w) p n ≡ has w || in_groups es p n
  any_put [] k w none = refl
  any_put (e ∷ es) k w none = put_by e es k w (nat_cmp k e.0) (λ out. any_put es k w out) none

  removed_by : (test : ℕ → Bool) (e : ℕ × Blocks) (es : List (ℕ × Blocks)) (b : Bool) →
      (((v : Blocks) → lookup test es ≡ Some v → has v ≡ false) → in_groups (remove_entry test es) p n ≡ in_groups es p n) →
      ((v : Blocks) → cond b (Some e.1) (lookup test es) ≡ Some v → has v ≡ false) →
      in_groups (cond b es (e ∷ remove_entry test es)) p n ≡ in_groups (e ∷ es) p n
  removed_by test e es true more bare = sym (ap (λ x. x || in_groups es p n) (bare e.1 refl))
  removed_by test e es false more bare = ap (λ x. has e.1 || x) (more bare)

  -- a key goes that has no blocks
  pub any_removed : (test : ℕ → Bool) (es : List (ℕ × Blocks)) → ((v : Blocks) → lookup test es ≡ Some v → has v ≡ false) →
      in_groups (remove_entry test es) p n ≡ in_groups es p n
  any_removed test [] bare = refl
  any_removed test (e ∷ es) bare = removed_by test e es (test e.0) (λ out. any_removed test es out) bare

-- ---- a test of all

abbrev pub Passes : (ℕ → Index → ℕ → Bool) → ℕ → Blocks → Type 0
Passes f k b = (p : Index) (n : ℕ) → in_blocks b.list.items p n ≡ true → f k p n ≡ true

module _ (f : ℕ → Index → ℕ → Bool) (k : ℕ) where
  moved : (j : ℕ) (w : Blocks) → Equal ≡ nat_cmp k j → Passes f k w → Passes f j w
  moved j w is h = let key : k ≡ j = ranked k j Equal is in λ p n there. subst (λ (i : ℕ). f i p n ≡ true) key (h p n there)

  at_by : (e : ℕ × Blocks) (es : List (ℕ × Blocks)) (v : Blocks) (o : Ordering) → o ≡ nat_cmp k e.0 → Passes f e.0 e.1 →
      (lookup (is_at (nat_cmp k)) es ≡ Some v → Passes f k v) → cond (is_eq o) (Some e.1) (lookup (is_at (nat_cmp k)) es) ≡ Some v → Passes f k v
  at_by e es v Less is a more found = more found
  at_by e es v Equal is a more found =
      let same : e.1 ≡ v = cc in
      let key : k ≡ e.0 = ranked k e.0 Equal is in
      λ p n there. subst (λ (i : ℕ). f i p n ≡ true) (sym key) (a p n (ap (λ (b : Blocks). in_blocks b.list.items p n) same ∙ there))
  at_by e es v Greater is a more found = more found

  pub all_at : (es : List (ℕ × Blocks)) (v : Blocks) → lookup (is_at (nat_cmp k)) es ≡ Some v → AreAll f es → Passes f k v
  all_at [] v found a = cc
  all_at (e ∷ es) v found a = at_by e es v (nat_cmp k e.0) refl a.0 (λ there. all_at es v there a.1) found

  all_set_by : (e : ℕ × Blocks) (es : List (ℕ × Blocks)) (w : Blocks) (o : Ordering) → o ≡ nat_cmp k e.0 → Passes f k w →
      AreAll f (set_value (is_at (nat_cmp k)) es w) → AreAll f (e ∷ es) → AreAll f (cond (is_eq o) ((e.0, w) ∷ es) (e ∷ set_value (is_at (nat_cmp k)) es w))
  all_set_by e es w Less is h rest a = (a.0, rest)
  all_set_by e es w Equal is h rest a = (moved e.0 w is h, a.1)
  all_set_by e es w Greater is h rest a = (a.0, rest)

  pub all_set : (es : List (ℕ × Blocks)) (w : Blocks) → Passes f k w → AreAll f es → AreAll f (set_value (is_at (nat_cmp k)) es w)
  all_set [] w h a = tt
  all_set (e ∷ es) w h a = all_set_by e es w (nat_cmp k e.0) refl h (all_set es w h a.1) a

  all_put_by : (e : ℕ × Blocks) (es : List (ℕ × Blocks)) (w : Blocks) (o : Ordering) → o ≡ nat_cmp k e.0 → Passes f k w →
      AreAll f (insert_entry nat_cmp es k w) → AreAll f (e ∷ es) →
      AreAll f (match_ordering o ((k, w) ∷ e ∷ es) ((e.0, w) ∷ es) (e ∷ insert_entry nat_cmp es k w))
  all_put_by e es w Less is h rest a = (h, a)
  all_put_by e es w Equal is h rest a = (moved e.0 w is h, a.1)
  all_put_by e es w Greater is h rest a = (a.0, rest)

  pub all_put : (es : List (ℕ × Blocks)) (w : Blocks) → Passes f k w → AreAll f es → AreAll f (insert_entry nat_cmp es k w)
  all_put [] w h a = (h, tt)
  all_put (e ∷ es) w h a = all_put_by e es w (nat_cmp k e.0) refl h (all_put es w h a.1) a

module _ (f : ℕ → Index → ℕ → Bool) where
  all_removed_by : (test : ℕ → Bool) (e : ℕ × Blocks) (es : List (ℕ × Blocks)) (b : Bool) → AreAll f (remove_entry test es) → AreAll f (e ∷ es) →
      AreAll f (cond b es (e ∷ remove_entry test es))
  all_removed_by test e es true rest a = a.1
  all_removed_by test e es false rest a = (a.0, rest)

  pub all_removed : (test : ℕ → Bool) (es : List (ℕ × Blocks)) → AreAll f es → AreAll f (remove_entry test es)
  all_removed test [] a = tt
  all_removed test (e ∷ es) a = all_removed_by test e es (test e.0) (all_removed test es a.1) a

  pub all_more : (g : ℕ → Index → ℕ → Bool) → ((k : ℕ) (p : Index) (n : ℕ) → f k p n ≡ true → g k p n ≡ true) → (es : List (ℕ × Blocks)) →
      AreAll f es → AreAll g es
  all_more g h [] a = tt
  all_more g h (e ∷ es) a = (λ p n there. h e.0 p n (a.0 p n there), all_more g h es a.1)

-- ---- a number is taken away at a key

pub and_both : (a b : Bool) → a ≡ true → b ≡ true → a && b ≡ true
and_both true b e g = g
and_both false b e g = cc

apart_key : (key number k n : ℕ) → (key == k) ≡ false → is_apart key number k n ≡ true
apart_key key number k n e = ap (λ b. cond (b && (number == n)) false true) e

apart_by : (a b : Bool) → b ≡ false → cond (a && b) false true ≡ true
apart_by true b e = ap (λ v. cond v false true) e
apart_by false b e = refl

unlike : (key k : ℕ) (o : Ordering) → o ≡ nat_cmp key k → is_eq o ≡ false → (key == k) ≡ false
unlike key k Less is e = let l : key < k = ranked key k Less is in grind (arith, nat_tests)
unlike key k Equal is e = cc
unlike key k Greater is e = let l : k < key = ranked key k Greater is in grind (arith, nat_tests)

module _ (f : ℕ → Index → ℕ → Bool) (key number : ℕ) where
  -- the test, and that the key and the number are not those that are taken apart
  abbrev pub cut : ℕ → Index → ℕ → Bool
  cut k p n = f k p n && is_apart key number k n

  cut_other : (k : ℕ) (b : Blocks) → (key == k) ≡ false → Passes f k b → Passes cut k b
  cut_other k b e h = λ p n there. and_both (f k p n) (is_apart key number k n) (h p n there) (apart_key key number k n e)

  cut_here : (k : ℕ) (v w : Blocks) → ((p : Index) (n : ℕ) → in_blocks w.list.items p n ≡ true → (in_blocks v.list.items p n ≡ true) × ((number == n) ≡ false)) →
      Passes f k v → Passes cut k w
  cut_here k v w less h = λ p n there.
      let was = less p n there in
      and_both (f k p n) (is_apart key number k n) (h p n was.0) (apart_by (key == k) (number == n) was.1)

  absent_by : (e : ℕ × Blocks) (es : List (ℕ × Blocks)) (o : Ordering) → o ≡ nat_cmp key e.0 → cond (is_eq o) (Some e.1) (lookup (is_at (nat_cmp key)) es) ≡ None →
      AreAll f (e ∷ es) → (lookup (is_at (nat_cmp key)) es ≡ None → AreAll cut es) → AreAll cut (e ∷ es)
  absent_by e es Less is none a more = (cut_other e.0 e.1 (unlike key e.0 Less is refl) a.0, more none)
  absent_by e es Equal is none a more = cc
  absent_by e es Greater is none a more = (cut_other e.0 e.1 (unlike key e.0 Greater is refl) a.0, more none)

  -- the key has no blocks
  pub cut_absent : (es : List (ℕ × Blocks)) → lookup (is_at (nat_cmp key)) es ≡ None → AreAll f es → AreAll cut es
  cut_absent [] none a = tt
  cut_absent (e ∷ es) none a = absent_by e es (nat_cmp key e.0) refl none a (λ out. cut_absent es out a.1)

  behind : (k : ℕ) (es : List (ℕ × Blocks)) → Equal ≡ nat_cmp key k → AllByRecursion (λ y. nat_cmp k y ≡ Less) (keys_of es) → AreAll f es → AreAll cut es
  behind k [] is s a = tt
  behind k (e ∷ es) is s a =
      let same : key ≡ k = ranked key k Equal is in
      let less : Less ≡ nat_cmp key e.0 = sym (ap (λ i. nat_cmp i e.0) same ∙ s.0) in
      (cut_other e.0 e.1 (unlike key e.0 Less less refl) a.0, behind k es is s.1 a.1)

  present_by : (e : ℕ × Blocks) (es : List (ℕ × Blocks)) (v w : Blocks) (o : Ordering) → o ≡ nat_cmp key e.0 →
      AllByRecursion (λ y. nat_cmp e.0 y ≡ Less) (keys_of es) → cond (is_eq o) (Some e.1) (lookup (is_at (nat_cmp key)) es) ≡ Some v →
      ((p : Index) (n : ℕ) → in_blocks w.list.items p n ≡ true → (in_blocks v.list.items p n ≡ true) × ((number == n) ≡ false)) → AreAll f (e ∷ es) →
      (lookup (is_at (nat_cmp key)) es ≡ Some v → AreAll cut (set_value (is_at (nat_cmp key)) es w)) →
      AreAll cut (cond (is_eq o) ((e.0, w) ∷ es) (e ∷ set_value (is_at (nat_cmp key)) es w))
  present_by e es v w Less is s found less a more = (cut_other e.0 e.1 (unlike key e.0 Less is refl) a.0, more found)
  present_by e es v w Equal is s found less a more =
      let same : e.1 ≡ v = cc in
      (cut_here e.0 v w less (subst (λ (b : Blocks). Passes f e.0 b) same a.0), behind e.0 es is s a.1)
  present_by e es v w Greater is s found less a more = (cut_other e.0 e.1 (unlike key e.0 Greater is refl) a.0, more found)

  -- its blocks say less, and nothing of the number
  pub cut_present : (es : List (ℕ × Blocks)) (v w : Blocks) → IsStrictlySortedBy nat_cmp (keys_of es) → lookup (is_at (nat_cmp key)) es ≡ Some v →
      ((p : Index) (n : ℕ) → in_blocks w.list.items p n ≡ true → (in_blocks v.list.items p n ≡ true) × ((number == n) ≡ false)) → AreAll f es →
      AreAll cut (set_value (is_at (nat_cmp key)) es w)
  unfolding IsStrictlySortedBy
  cut_present [] v w s found less a = cc
  cut_present (e ∷ es) v w s found less a = present_by e es v w (nat_cmp key e.0) refl s.0 found less a (λ there. cut_present es v w s.1 there less a.1)

-- ---- the blocks of a key after a number is set, or taken away

set_then : (h num x : Bool) → (if h && num then true else x) ≡ true → ((h ≡ true) × (num ≡ true)) ⊎ (x ≡ true)
set_then true true x e = inl (refl, refl)
set_then true false x e = inr e
set_then false num x e = inr e

number_of : (m n : ℕ) → (m == n) ≡ true → m ≡ n
number_of m n e = grind (arith, nat_tests)

and_last_true : (a b : Bool) → a && b ≡ true → b ≡ true
and_last_true true b e = e
and_last_true false b e = cc

-- where a number came in at some indices, and passes there, all pass
pub passes_set : (f : ℕ → Index → ℕ → Bool) (key number : ℕ) (v w : Blocks) (done : Bool) (here : Index → Bool) →
    Sets (in_blocks v.list.items) (in_blocks w.list.items) (λ p. done && here p) number true → ((p : Index) → here p ≡ true → f key p number ≡ true) →
    Passes f key v → Passes f key w
passes_set f key number v w done here s new old = λ p n there. elim (set_then (done && here p) (number == n) (in_blocks v.list.items p n) (sym (s.at p n) ∙ there)) [
  | inl both ↦ subst (λ (i : ℕ). f key p i ≡ true) (number_of number n both.1) (new p (and_last_true done (here p) both.0))
  | inr had ↦ old p n had
]

taken_then : (num x : Bool) → (if true && num then false else x) ≡ true → (x ≡ true) × (num ≡ false)
taken_then true x e = cc
taken_then false x e = (e, refl)

-- where a number was taken away, less is left, and nothing of the number
pub less_left : (number : ℕ) (v w : Blocks) → Sets (in_blocks v.list.items) (in_blocks w.list.items) (λ p. true) number false →
    (p : Index) (n : ℕ) → in_blocks w.list.items p n ≡ true → (in_blocks v.list.items p n ≡ true) × ((number == n) ≡ false)
less_left number v w s p n there = taken_then (number == n) (in_blocks v.list.items p n) (sym (s.at p n) ∙ there)

others_then : (num x y : Bool) → num ≡ false → y ≡ (if true && num then false else x) → y ≡ x
others_then true x y e is = cc
others_then false x y e is = is

pub others_left : (number : ℕ) (v w : Blocks) → Sets (in_blocks v.list.items) (in_blocks w.list.items) (λ p. true) number false →
    (p : Index) (n : ℕ) → (number == n) ≡ false → in_blocks w.list.items p n ≡ in_blocks v.list.items p n
others_left number v w s p n other = others_then (number == n) (in_blocks v.list.items p n) (in_blocks w.list.items p n) other (s.at p n)

-- ---- a key comes with its first blocks

only_then : (c x : Bool) → x ≡ false → (if c then true else x) ≡ c
only_then true x e = refl
only_then false x e = e

or_if : (c x : Bool) → c || x ≡ (if c then true else x)
or_if true x = refl
or_if false x = refl

module _ (old mid new : BTreeMap ℕ Blocks) (key : ℕ) (fresh w : Blocks) (same : mid ≡ old) (absent : get nat_cmp old key ≡ None)
    (entries : new.entries ≡ insert_entry nat_cmp mid.entries key w) (bare : fresh.list.items ≡ []) where
  put_in : new.entries ≡ insert_entry nat_cmp old.entries key w
  put_in = entries ∙ ap (λ (m : BTreeMap ℕ Blocks). insert_entry nat_cmp m.entries key w) same

  nothing : (p : Index) (n : ℕ) → in_blocks fresh.list.items p n ≡ false
  nothing p n = ap (λ bs. in_blocks bs p n) bare

  pub groups_put : (here : Index → Bool) (number : ℕ) → Sets (in_blocks fresh.list.items) (in_blocks w.list.items) here number true →
      Sets (in_groups old.entries) (in_groups new.entries) here number true
  groups_put here number s = record {
    at = λ p n.
        ap (λ es. in_groups es p n) put_in
        ∙ any_put p n old.entries key w absent
        ∙ ap (λ b. b || in_groups old.entries p n) (s.at p n ∙ only_then (here p && (number == n)) (in_blocks fresh.list.items p n) (nothing p n))
        ∙ or_if (here p && (number == n)) (in_groups old.entries p n);
  }

  pub all_put_in : (f : ℕ → Index → ℕ → Bool) (number : ℕ) (done : Bool) (here : Index → Bool) →
      Sets (in_blocks fresh.list.items) (in_blocks w.list.items) (λ p. done && here p) number true → ((p : Index) → here p ≡ true → f key p number ≡ true) →
      AreAll f old.entries → AreAll f new.entries
  all_put_in f number done here s pass a =
      subst (AreAll f) (sym put_in) (all_put f key old.entries w
      (passes_set f key number fresh w done here s pass (λ p n there. absurd (true≢false (sym there ∙ nothing p n)))) a)

-- Blocks of several reaches: what is in them after one is set or comes, and what stands at several indices.
use Rattle.std.proofs.Common.{◌≡◌, ℕ, ◌<◌, Bool, true, false, ◌&&◌, ◌||◌, ◌==◌, if◌then◌else◌}
use Rattle.std.proofs.Common.{List, [], ◌∷◌, ◌++◌, length, set, get_or, suc, zero, refl, ap, ◌∙◌, arith}
use Rattle.std.specs.List.{list_any}
use Rattle.std.proofs.lemmas.List.Folds.{list_any-append}
use Rattle.wb_footprints.specs.declared.marks.reach_marks.ReachMarks.{ReachMarks}
use Rattle.wb_footprints.specs.Groups.{in_groups}
use Rattle.wb_cells.specs.declared.values.index.Index.{Index}
use Rattle.wb_footprints.specs.Reaches.{in_reaches}
use Rattle.wb_footprints.specs.Relation.{Sets}
use Rattle.wb_footprints.proofs.InGroups.{within, beside}
use Rattle.wb_footprints.proofs.Meeting.{any_swap}

-- whether a number stands at one of some indices by a block of one reach
abbrev pub asked : List Index → ReachMarks → ℕ → Bool
asked ps r n = list_any (λ p. in_groups r.groups.entries p n) ps

pub asked_all : (rs : List ReachMarks) (ps : List Index) (n : ℕ) → list_any (λ p. in_reaches rs p n) ps ≡ list_any (λ r. asked ps r n) rs
asked_all rs ps n = any_swap (λ p (r : ReachMarks). in_groups r.groups.entries p n) ps rs

set_more : {X : Type 0} (f : X → Bool) (xs : List X) (i : ℕ) (y d : X) (c : Bool) → i < length xs → f y ≡ (if c then true else f (get_or xs i d)) →
    list_any f (set xs i y) ≡ (if c then true else list_any f xs)
set_more f [] i y d c l h = absurd (omega (arith, l))
set_more f (x ∷ xs) zero y d c l h = ap (λ b. b || list_any f xs) h ∙ within c (f x) (list_any f xs)
set_more f (x ∷ xs) (suc i) y d c l h = ap (λ b. f x || b) (set_more f xs i y d c (omega (arith, l)) h) ∙ beside (f x) c (list_any f xs)

-- the marks of one reach become others
pub reach_set : (rs : List ReachMarks) (i : ℕ) (old new : ReachMarks) (here : Index → Bool) (number : ℕ) → i < length rs → old ≡ get_or rs i old →
    Sets (in_groups old.groups.entries) (in_groups new.groups.entries) here number true → Sets (in_reaches rs) (in_reaches (set rs i new)) here number true
reach_set rs i old new here number l is s = record {
  at = λ p n. set_more (λ (r : ReachMarks). in_groups r.groups.entries p n) rs i new old (here p && (number == n)) l
      (s.at p n ∙ ap (λ (r : ReachMarks). if here p && (number == n) then true else in_groups r.groups.entries p n) is);
}

-- the others, where a number is taken away from the marks of one reach
taken_then : (num x : Bool) → num ≡ false → (if true && num then false else x) ≡ x
taken_then true x e = cc
taken_then false x e = refl

pub reach_less : (rs : List ReachMarks) (i : ℕ) (old new : ReachMarks) (number : ℕ) → i < length rs → old ≡ get_or rs i old →
    Sets (in_groups old.groups.entries) (in_groups new.groups.entries) (λ p. true) number false → (p : Index) (n : ℕ) → (number == n) ≡ false →
    in_reaches (set rs i new) p n ≡ in_reaches rs p n
reach_less rs i old new number l is s p n other = set_more (λ (r : ReachMarks). in_groups r.groups.entries p n) rs i new old false l
    (s.at p n ∙ taken_then (number == n) (in_groups old.groups.entries p n) other ∙ ap (λ (r : ReachMarks). in_groups r.groups.entries p n) is)

or_true : (a : Bool) → a || true ≡ true
or_true true = refl
or_true false = refl

pub or_false : (a : Bool) → a || false ≡ a
or_false true = refl
or_false false = refl

last_then : (a c : Bool) → a || (c || false) ≡ (if c then true else a)
last_then a true = or_true a
last_then a false = or_false a

if_then : (c x : Bool) → x ≡ false → (if c then true else x) ≡ c
if_then true x e = refl
if_then false x e = e

-- a reach comes with its first blocks
pub reach_more : (rs : List ReachMarks) (fresh new : ReachMarks) (here : Index → Bool) (number : ℕ) →
    ((p : Index) (n : ℕ) → in_groups fresh.groups.entries p n ≡ false) → Sets (in_groups fresh.groups.entries) (in_groups new.groups.entries) here number true →
    Sets (in_reaches rs) (in_reaches (rs ++ new ∷ [])) here number true
reach_more rs fresh new here number none s = record {
  at = λ p n.
      list_any-append (λ (r : ReachMarks). in_groups r.groups.entries p n) rs (new ∷ [])
      ∙ ap (λ b. in_reaches rs p n || (b || false)) (s.at p n ∙ if_then (here p && (number == n)) (in_groups fresh.groups.entries p n) (none p n))
      ∙ last_then (in_reaches rs p n) (here p && (number == n));
}

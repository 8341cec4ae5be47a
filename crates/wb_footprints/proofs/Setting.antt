-- What several writes of one number do together.
use Rattle.std.proofs.Common.{◌≡◌, ℕ, Bool, true, false, ◌&&◌, ◌||◌, ◌==◌, if◌then◌else◌, List, [], ◌∷◌, suc, ◌<◌, length, take, drop, get_or, refl, sym, ap}
use Rattle.std.proofs.Common.{◌∙◌}
use Rattle.std.proofs.Math.Seq.{take-suc}
use Rattle.std.proofs.lemmas.List.{take-append-drop}
use Rattle.std.proofs.lemmas.List.Folds.{list_any-append}
use Rattle.std.specs.Prelude.{Result, Ok, Err, OnErr}
use Rattle.std.specs.List.{list_any}
use Rattle.wb_footprints.specs.Relation.{Sets, Stays, Clears}

twice : (h g num b x : Bool) → (if g && num then b else (if h && num then b else x)) ≡ (if (h || g) && num then b else x)
twice true true true b x = refl
twice true true false b x = refl
twice true false true b x = refl
twice true false false b x = refl
twice false true true b x = refl
twice false true false b x = refl
twice false false true b x = refl
twice false false false b x = refl

pub part_out : (h g num : Bool) → (h || g) && num ≡ false → (h && num ≡ false) × (g && num ≡ false)
part_out true g true out = cc
part_out true true false out = (refl, refl)
part_out true false false out = (refl, refl)
part_out false g num out = (refl, out)

if_not : (c b x : Bool) → c ≡ false → (if c then b else x) ≡ x
if_not true b x e = cc
if_not false b x e = refl

module _ {A : Type 0} where
  pub then_sets : (o m n : A → ℕ → Bool) (h g : A → Bool) (number : ℕ) (b : Bool) → Sets o m h number b → Sets m n g number b →
      Sets o n (λ a. h a || g a) number b
  then_sets o m n h g number b p q = record { at = λ a k. q.at a k ∙ rw (p.at a k) (twice (h a) (g a) (number == k) b (o a k)) }

  pub like : (o n : A → ℕ → Bool) (h g : A → Bool) (number : ℕ) (b : Bool) → ((a : A) → h a ≡ g a) → Sets o n h number b → Sets o n g number b
  like o n h g number b e p = record { at = λ a k. rw (← e a) (p.at a k) }

  pub sets_none : (o : A → ℕ → Bool) (number : ℕ) (b : Bool) → Sets o o (λ a. false) number b
  sets_none o number b = record { at = λ a k. refl }

  -- a write, and one that failed
  pub then_stays : (o m n : A → ℕ → Bool) (h g w : A → Bool) (number : ℕ) (b : Bool) → Sets o m h number b → Stays m n g number →
      ((a : A) (k : ℕ) → w a && (number == k) ≡ false → (h a || g a) && (number == k) ≡ false) → Stays o n w number
  then_stays o m n h g w number b p q more = record {
    at = λ a k out.
        let parts = part_out (h a) (g a) (number == k) (more a k out) in
        q.at a k parts.1 ∙ p.at a k ∙ if_not (h a && (number == k)) b (o a k) parts.0;
  }

  pub stays_none : (o n : A → ℕ → Bool) (g : A → Bool) (number : ℕ) → ((a : A) (k : ℕ) → n a k ≡ o a k) → Stays o n g number
  stays_none o n g number e = record { at = λ a k out. e a k }

pub either : (h g : Bool) (P : Type 0) → (h ≡ true → P) → (g ≡ true → P) → h || g ≡ true → P
either true g P f k e = f refl
either false g P f k e = k e

module _ {A : Type 0} where
  pub then_clears : (o m n : A → ℕ → Bool) (h g : A → Bool) (number : ℕ) → Clears o m h number → Clears m n g number → Clears o n (λ a. h a || g a) number
  then_clears o m n h g number p q = record {
    gone = λ a here. either (h a) (g a) (n a number ≡ false) (λ e. q.fewer a (p.gone a e)) (q.gone a) here;
    fewer = λ a was. q.fewer a (p.fewer a was);
    others = λ a k other. q.others a k other ∙ p.others a k other;
  }

  pub clears_like : (o n : A → ℕ → Bool) (h g : A → Bool) (number : ℕ) → ((a : A) → h a ≡ g a) → Clears o n h number → Clears o n g number
  clears_like o n h g number e p = record { gone = λ a here. p.gone a (e a ∙ here); fewer = p.fewer; others = p.others }

  pub clears_none : (o : A → ℕ → Bool) (number : ℕ) → Clears o o (λ a. false) number
  clears_none o number = record { gone = λ a here. cc; fewer = λ a was. was; others = λ a k other. refl }

or_false : (a : Bool) → a || false ≡ a
or_false true = refl
or_false false = refl

-- one more element of a list
pub more_any : {X A : Type 0} (f : X → A → Bool) (xs : List X) (i : ℕ) (d : X) → i < length xs → (a : A) →
    (list_any (λ x. f x a) (take i xs) || f (get_or xs i d) a) ≡ list_any (λ x. f x a) (take (suc i) xs)
more_any f xs i d below a = sym (ap (list_any (λ x. f x a)) (take-suc xs i d below) ∙ list_any-append (λ x. f x a) (take i xs) (get_or xs i d ∷ []) ∙
    ap (λ b. list_any (λ x. f x a) (take i xs) || b) (or_false (f (get_or xs i d) a)))

pub any_out : {X A : Type 0} (f : X → A → Bool) (xs : List X) (i : ℕ) (d : X) → i < length xs → (a : A) (num : Bool) → list_any (λ x. f x a) xs &&
    num ≡ false → (list_any (λ x. f x a) (take i xs) || f (get_or xs i d) a) && num ≡ false
any_out f xs i d below a num out =
    let whole = ap (list_any (λ x. f x a)) (take-append-drop (suc i) xs) in
    let parts = list_any-append (λ x. f x a) (take (suc i) xs) (drop (suc i) xs) in
    rw (more_any f xs i d below a) (part_out (list_any (λ x. f x a) (take (suc i) xs)) (list_any (λ x. f x a) (drop (suc i) xs)) num
    (rw (← parts, whole) out)).0

pub on_err : {T E P : Type 0} (r : Result T E) → P → OnErr r P
on_err (Ok x) p = tt
on_err (Err e) p = p

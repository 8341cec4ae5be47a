-- Marks of a list part by part.
use Rattle.std.proofs.Common.{◌≡◌, ℕ, Bool, true, ◌&&◌, ◌||◌, ◌==◌, List, ◌++◌, sym, ap, ◌∙◌}
use Rattle.std.proofs.lemmas.List.Folds.{list_any-append}
use Rattle.std.specs.List.{list_any}
use Rattle.wb_footprints.specs.declared.places.place.Place.{Place}
use Rattle.wb_footprints.specs.Relation.{Sets, Stays}
use Rattle.wb_footprints.proofs.Setting.{then_sets, like, then_stays, part_out}

module _ {X : Type 0} (f : X → Place → Bool) (number : ℕ) where
  abbrev any_at : List X → Place → Bool
  any_at ys q = list_any (λ x. f x q) ys

  -- two lists, one behind the other
  module _ (xs ys zs : List X) (e : zs ≡ xs ++ ys) where
    beside : (q : Place) → (any_at xs q || any_at ys q) ≡ any_at zs q
    beside q = sym (list_any-append (λ x. f x q) xs ys) ∙ ap (list_any (λ x. f x q)) (sym e)

    pub both_set : (o m n : Place → ℕ → Bool) → Sets o m (any_at xs) number true → Sets m n (any_at ys) number true → Sets o n (any_at zs) number true
    both_set o m n h k = like o n (λ q. any_at xs q || any_at ys q) (any_at zs) number true beside (then_sets o m n (any_at xs) (any_at ys) number true h k)

    pub first_stays : (o n : Place → ℕ → Bool) → Stays o n (any_at xs) number → Stays o n (any_at zs) number
    first_stays o n h = record {
      at = λ q l out. h.at q l (part_out (any_at xs q) (any_at ys q) (number == l) (ap (λ b. b && (number == l)) (beside q) ∙ out)).0;
    }

    pub second_stays : (o m n : Place → ℕ → Bool) → Sets o m (any_at xs) number true → Stays m n (any_at ys) number → Stays o n (any_at zs) number
    second_stays o m n h g = then_stays o m n (any_at xs) (any_at ys) (any_at zs) number true h g
        (λ q l out. ap (λ b. b && (number == l)) (beside q) ∙ out)

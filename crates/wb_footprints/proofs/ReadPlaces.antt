-- What was read: a pattern alone, those of cells, and one list behind another.
use Rattle.std.proofs.Common.{◌≡◌, ℕ, Bool, true, false, ◌||◌, ◌&&◌, ◌==◌, List, [], ◌∷◌, ◌++◌, refl, sym, ap, ◌∙◌}
use Rattle.std.specs.List.{list_any}
use Rattle.std.proofs.lemmas.List.Folds.{list_any-append}
use Rattle.wb_cells.specs.declared.cells.pattern.Pattern.{Pattern}
use Rattle.wb_cells.specs.declared.cells.pattern.Pattern.TheVariants.{Objects, One, Members, Uses, Elements}
use Rattle.wb_cells.specs.Cells.{Changes}
use Rattle.wb_cells.specs.Reads.{patterns_of}
use Rattle.wb_footprints.specs.declared.places.marking.Marking.{Marking}
use Rattle.wb_footprints.specs.declared.places.marking.Marking.TheVariants.{Own}
use Rattle.wb_footprints.specs.declared.places.place.Place.{Place}
use Rattle.wb_footprints.specs.Relation.{Clears, Stays}
use Rattle.wb_footprints.specs.Places.{own, place_of, is_same_place}
use Rattle.wb_footprints.specs.Footprints.{at_cell, marked_at, read_at}
use Rattle.wb_footprints.proofs.Meeting.{any_like, any_map}
use Rattle.wb_footprints.proofs.Setting.{then_clears, clears_like}

pub or_false : (a : Bool) → a || false ≡ a
or_false true = refl
or_false false = refl

-- a pattern alone
pub one_read : (p : Pattern) (q : Place) → is_same_place (place_of p) q ≡ read_at (p ∷ []) q
one_read p q = sym (or_false (is_same_place (place_of p) q))

-- to read cells is to read their own places
pub cells_read : (xs : Changes) (q : Place) → marked_at Own xs q ≡ read_at (patterns_of xs) q
cells_read xs q =
    any_like (λ x. is_same_place (own x.cell) q || false) (λ x. is_same_place (own x.cell) q) xs (λ x. or_false (is_same_place (own x.cell) q))
    ∙ sym (any_map (λ p. is_same_place (place_of p) q) (λ x. One x.cell) xs)

pub both_cleared : (o m n : Place → ℕ → Bool) (number : ℕ) (xs ys zs : List Pattern) → zs ≡ xs ++ ys → Clears o m (read_at xs) number →
    Clears m n (read_at ys) number → Clears o n (read_at zs) number
both_cleared o m n number xs ys zs e h k = clears_like o n (λ q. read_at xs q || read_at ys q) (read_at zs) number
    (λ q. sym (ap (λ l. read_at l q) e ∙ list_any-append (λ p. is_same_place (place_of p) q) xs ys)) (then_clears o m n (read_at xs) (read_at ys) number h k)

pub stays_like : (o n : Place → ℕ → Bool) (h g : Place → Bool) (number : ℕ) → ((q : Place) → h q ≡ g q) → Stays o n h number → Stays o n g number
stays_like o n h g number e k = record { at = λ q j out. k.at q j (ap (λ b. b && (number == j)) (e q) ∙ out) }

-- ---- lists of changes of the same cells

abbrev at_pattern : Marking → Pattern → Place → Bool
at_pattern m (One c) q = at_cell m c q
at_pattern m Objects q = false
at_pattern m (Members d) q = false
at_pattern m (Uses d) q = false
at_pattern m (Elements d) q = false

pub alike_marked : (m : Marking) (xs ys : Changes) → patterns_of xs ≡ patterns_of ys → (q : Place) → marked_at m xs q ≡ marked_at m ys q
alike_marked m xs ys e q = sym (any_map (λ p. at_pattern m p q) (λ x. One x.cell) xs) ∙ ap (list_any (λ p. at_pattern m p q)) e
    ∙ any_map (λ p. at_pattern m p q) (λ x. One x.cell) ys

-- patterns, and the cells of changes behind them
pub then_cells : (rs : List Pattern) (xs : Changes) (q : Place) → read_at (rs ++ patterns_of xs) q ≡ read_at rs q || marked_at Own xs q
then_cells rs xs q = list_any-append (λ p. is_same_place (place_of p) q) rs (patterns_of xs) ∙ ap (λ b. read_at rs q || b) (sym (cells_read xs q))

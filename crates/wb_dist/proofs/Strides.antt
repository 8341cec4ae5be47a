-- the strides of the ranges of a box, one after another
use Rattle.std.proofs.Common.{◌≡◌, ℕ, ◌+◌, ◌<◌, Bool, true, false, ◌&&◌, ℤ, pos, List, [], Some, None, length, slice_get, get_or, take, int_eq, SFits, w64}
use Rattle.std.proofs.Common.{of_z, to_z, to_z-of_z, refl, sym, ap, ◌∙◌}
use Rattle.std.specs.List.{list_all}
use Rattle.std.proofs.lemmas.Bool.Decides.{Decides-int_eq}
use Rattle.std.proofs.lemmas.List.Folds.{list_all_more, list_all_at}
use Rattle.std.proofs.lemmas.Option.{none-some, slice_get-get_or, get_or_from_slice_get}
use Rattle.wb_range.specs.Steps.{stride_of}
use Rattle.wb_dist.specs.Maps.{has_unit_stride}

not_unit : (xs : List ℤ) (s : ℤ) → s ≡ stride_of xs → (of_z w64 s ≡ 1 → ⊥) → has_unit_stride xs ≡ false
not_unit xs s e n = by (int_eq (stride_of xs) (pos 1)) refl
  where
    by : (b : Bool) → int_eq (stride_of xs) (pos 1) ≡ b → int_eq (stride_of xs) (pos 1) ≡ false
    by true f = absurd (n (ap (of_z w64) (e ∙ (Decides-int_eq (stride_of xs) (pos 1)).0 f)))
    by false f = f

unit : (xs : List ℤ) (s : ℤ) → s ≡ stride_of xs → SFits w64 s → of_z w64 s ≡ 1 → has_unit_stride xs ≡ true
unit xs s e f o = (Decides-int_eq (stride_of xs) (pos 1)).1 (sym e ∙ sym (to_z-of_z f) ∙ ap (to_z w64) o)

pub strided_at : (box : List (List ℤ)) (k : ℕ) (xs : List ℤ) (s : ℤ) → k < length box → slice_get box k ≡ Some xs → s ≡ stride_of xs → (of_z w64 s ≡ 1 → ⊥) →
    list_all has_unit_stride box ≡ false
strided_at box k xs s l g e n = list_all_at has_unit_stride box k xs l (ap has_unit_stride (get_or_from_slice_get box k xs xs g) ∙ not_unit xs s e n)

pub unit_more : (box : List (List ℤ)) (k : ℕ) (xs : List ℤ) (s : ℤ) → list_all has_unit_stride (take k box) ≡ true → k < length box →
    slice_get box k ≡ Some xs → s ≡ stride_of xs → SFits w64 s → of_z w64 s ≡ 1 → list_all has_unit_stride (take (k + 1) box) ≡ true
unit_more box k xs s h l g e f o =
    list_all_more has_unit_stride box k xs l
    ∙ ap (λ b. b && has_unit_stride (get_or box k xs)) h
    ∙ ap has_unit_stride (get_or_from_slice_get box k xs xs g)
    ∙ unit xs s e f o

-- a list has an element at each place below its length
pub not_missing : (box : List (List ℤ)) (k : ℕ) → k < length box → slice_get box k ≡ None → ⊥
not_missing box k l e = none-some (get_or box k []) (sym e ∙ slice_get-get_or box k [] l)

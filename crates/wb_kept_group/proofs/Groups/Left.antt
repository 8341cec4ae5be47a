-- What is left of a store that failed.
use Rattle.std.proofs.Common.{◌≡◌, Bool, true, false, MatchBool, List, ◌++◌, sym, ap, ◌∙◌, append_assoc}
use mathlib.Core.List.{IsPrefix}
use Rattle.wb_kept_group.specs.Group.Keeping.{IsLeft}

prefix_more : {A : Type 0} (xs ys more all : List A) → IsPrefix xs ys → all ≡ ys ++ more → IsPrefix xs all
prefix_more xs ys more all (rest, is) e = (rest ++ more, sym (append_assoc xs rest more) ∙ ap (λ l. l ++ more) is ∙ sym e)

-- more turns were made behind those that it was asked to add
pub left_more : {T C : Type 0} (has : T → List C → Type 0) (leaves : T → T → List C → List C → Type 0) (ys more all : List C) (store : T) (is_open : Bool)
    → is_open ≡ false → MatchBool is_open (has store ys) (IsLeft has leaves ys store) → all ≡ ys ++ more → IsLeft has leaves all store
left_more has leaves ys more all store true closed is e = absurd (let both : true ≡ false = closed in cc)
left_more has leaves ys more all store false closed is e =
    record { old = is.old; before = is.before; turns = is.turns; had = is.had; left = is.left; within = prefix_more (is.before ++ is.turns) ys more all is.within e }

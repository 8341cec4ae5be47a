-- Items of a list, one at a time.
use Rattle.std.proofs.Common.{◌≡◌, ℕ, zero, suc, ◌+◌, ◌-◌, ◌<◌, List, [], ◌∷◌, ◌++◌, Option, Some, None, option_map, refl, sym, ap, ◌∙◌, append_assoc, arith}
use Rattle.wb_literals.specs.Tokens.{comma_at}
use Rattle.wb_literals.specs.Set.{items_at}

-- what was read before, and then what is read
abbrev pub onto : {X : Type 0} → List X → Option (List X × List ℕ) → Option (List X × List ℕ)
onto xs r = option_map (λ x. (xs ++ x.0, x.1)) r

onto-push : {X : Type 0} (xs : List X) (x : X) (r : Option (List X × List ℕ)) → onto xs (option_map (λ more. (x ∷ more.0, more.1)) r) ≡ onto (xs ++ x ∷ []) r
onto-push xs x None = refl
onto-push xs x (Some more) = ap (λ ys. Some (ys, more.1)) (sym (append_assoc xs (x ∷ []) more.0))

-- no item is there
none_at : {X : Type 0} (f : List ℕ → Option (X × List ℕ)) (n : ℕ) (rest : List ℕ) → None ≡ f rest → None ≡ items_at f n rest
none_at f zero rest h = refl
none_at f (suc n) rest h = rw (← h) refl

pub no_item : {X : Type 0} (f : List ℕ → Option (X × List ℕ)) (n : ℕ) (xs : List X) (rest : List ℕ) → None ≡ f rest → None ≡ onto xs (items_at f n rest)
no_item f n xs rest h = ap (onto xs) (none_at f n rest h)

pub last_at : {X : Type 0} (f : List ℕ → Option (X × List ℕ)) (n : ℕ) (x : X) (rest behind : List ℕ) → 0 < n → Some (x, behind) ≡ f rest →
    None ≡ comma_at behind → Some (x ∷ [], behind) ≡ items_at f n rest
last_at f zero x rest behind z h k = absurd (omega (arith, z))
last_at f (suc n) x rest behind z h k = rw (← h, ← k) refl

pub last_item : {X : Type 0} (f : List ℕ → Option (X × List ℕ)) (n : ℕ) (xs : List X) (x : X) (rest behind : List ℕ) → 0 < n → Some (x, behind) ≡ f rest →
    None ≡ comma_at behind → Some (xs ++ x ∷ [], behind) ≡ onto xs (items_at f n rest)
last_item f n xs x rest behind z h k = ap (onto xs) (last_at f n x rest behind z h k)

pub more_at : {X : Type 0} (f : List ℕ → Option (X × List ℕ)) (n : ℕ) (x : X) (rest behind next : List ℕ) → Some (x, behind) ≡ f rest →
    Some next ≡ comma_at behind → items_at f (suc n) rest ≡ option_map (λ more. (x ∷ more.0, more.1)) (items_at f n next)
more_at f n x rest behind next h k = rw (← h, ← k) refl

pub more_items : {X : Type 0} (f : List ℕ → Option (X × List ℕ)) (end i : ℕ) (xs : List X) (x : X) (rest behind next : List ℕ) → i < end →
    Some (x, behind) ≡ f rest → Some next ≡ comma_at behind
    → onto xs (items_at f (end - i) rest) ≡ onto (xs ++ x ∷ []) (items_at f (end - (i + 1)) next)
more_items f end i xs x rest behind next z h k =
    let e : end - i ≡ suc (end - (i + 1)) = omega (arith, z) in
    ap (λ n. onto xs (items_at f n rest)) e ∙ ap (onto xs) (more_at f (end - (i + 1)) x rest behind next h k) ∙ onto-push xs x (items_at f (end - (i + 1)) next)

-- Nobody undoes an edit by fewer undos than it has dependents.
use Rattle.std.proofs.Common.{◌≡◌, ◌≢◌, ◌≤◌, ◌-◌, ◌++◌, ℕ, zero, suc, List, [], ◌∷◌, length, map, Ok, inl, inr, arith, refl, sym, ap, subst, ◌∙◌}
use Rattle.std.proofs.lemmas.List.{length-map}
use Rattle.selective_undo.specs.History.{Entry, traces, IsLegal, CanUndoAll, Has, Falls}
use Rattle.selective_undo.proofs.Dependents.{no_shorter_law}
use Rattle.wb_cells.specs.Schema.{workbook}
use Rattle.wb_log.specs.Cascades.{IsDependent, DependentsReply, NoShorter}

-- ---- falling lists

has_front : (ns left : List ℕ) (n : ℕ) → Has ns n → Has (ns ++ left) n
has_front [] left n has = absurd has
has_front (m ∷ ns) left n has = elim has [ inl same ↦ inl same | inr there ↦ inr (has_front ns left n there) ]

falls_front : (ns left : List ℕ) → Falls (ns ++ left) → Falls ns
falls_front [] left falls = tt
falls_front (n ∷ ns) left (below, falls) = (λ j has. below j (has_front ns left j has), falls_front ns left falls)

raised : (ks : List ℕ) (j : ℕ) → Has ks j → Has (map suc ks) (suc j)
raised [] j has = absurd has
raised (k ∷ ks) j has = elim has [ inl same ↦ inl (ap suc same) | inr there ↦ inr (raised ks j there) ]

-- a list without one of its numbers
taken_out : (ks : List ℕ) (m : ℕ) → Has ks m → (rest : List ℕ) × (length ks ≡ suc (length rest)) × ((j : ℕ) → j ≢ m → Has ks j → Has rest j)
taken_out [] m has = absurd has
taken_out (k ∷ ks) m has =
    elim has [
      | inl same ↦ (ks, refl, λ j other h. elim h [ inl e ↦ absurd (other (e ∙ sym same)) | inr there ↦ there ])
      | inr further ↦
          (let (rest, n, stay) = taken_out ks m further in
          (k ∷ rest, ap suc n, λ j other h. elim h [ inl e ↦ inl e | inr there ↦ inr (stay j other there) ]))
    ]

-- a list that has all numbers of a falling one is as long
as_long : (ms ks : List ℕ) → Falls ms → ((j : ℕ) → Has ms j → Has ks j) → length ms ≤ length ks
as_long [] ks falls all = omega arith
as_long (m ∷ ms) ks (below, falls) all =
    let (rest, n, stay) = taken_out ks m (all m (inl refl)) in
    let less = as_long ms rest falls (λ j has. stay j (λ same. omega (arith, below j has, same)) (all j (inr has))) in
    omega (arith, n, less)

-- ---- dependents

module _ (es : List (Entry workbook)) (k : ℕ) (ks : List ℕ) (legal : IsLegal es) (can : CanUndoAll es ks) (has : Has ks k) where
  at_place : (n : ℕ) → IsDependent (traces es) k n → Has ks (n - 1)
  at_place zero d = absurd d
  at_place (suc j) d = let here : j ≡ suc j - 1 = omega arith in subst (Has ks) here (no_shorter_law workbook es k ks legal can has j d)

  at_number : (n : ℕ) → IsDependent (traces es) k n → Has (map suc ks) n
  at_number zero d = absurd d
  at_number (suc j) d = raised ks j (no_shorter_law workbook es k ks legal can has j d)

pub no_shorter : (es : List (Entry workbook)) (k : ℕ) (ns left : List ℕ) → IsLegal es → DependentsReply es k (Ok (ns ++ left)) → NoShorter es k ns
no_shorter es k ns left legal due ks can has =
    let depends : (n : ℕ) → Has ns n → IsDependent (traces es) k n = λ n here. (due.1.1 n).0 (has_front ns left n here) in
    let long = as_long ns (map suc ks) (falls_front ns left due.1.0) (λ n here. at_number es k ks legal can has n (depends n here)) in
    let same = length-map ks suc in
    (λ n here. at_place es k ks legal can has n (depends n here), omega (arith, long, same))

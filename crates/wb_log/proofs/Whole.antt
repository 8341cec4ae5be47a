-- That the undos of a cascade may all be made, one after another, and what they leave.
use Rattle.std.proofs.Common.{◌≡◌, ℕ, zero, suc, ◌-◌, ◌<◌, List, [], ◌∷◌, Option, Some, None, Ok, length, take}
use Rattle.std.proofs.Common.{slice_get, slice_set, if◌then◌else◌, inl, inr, arith, refl, sym, ap, subst, ◌∙◌}
use Rattle.std.specs.FinMap.{get}
use Rattle.std.proofs.lemmas.List.{length-map}
use Rattle.selective_undo.specs.Edit.{Trace, step}
use Rattle.selective_undo.specs.History.{Entry, done, undone, undo, traces, traces_from, replay, state_before, InForce, IsLegal, Dependent, itself, CanUndoAll}
use Rattle.selective_undo.specs.History.{Has, Falls}
use Rattle.selective_undo.proofs.Dependents.{dependents_law, gone, others_stay}
use Rattle.selective_undo.proofs.Inverses.{set_back_law}
use Rattle.selective_undo.proofs.Undo.{undo_law, still}
use Rattle.wb_cells.specs.Cells.{Cells}
use Rattle.wb_cells.specs.Schema.{workbook}
use Rattle.wb_log.specs.Past.{Numbered, meant, entry_at, out_of_force}
use Rattle.wb_log.specs.Cascades.{IsDependent, DependentsReply, IsFree, OthersStay, OtherCellsStay, places, all_out_of_force}
use Rattle.wb_log.proofs.Granted.{undo_meant}
use Rattle.wb_log.proofs.Undoings.{undo_all, left_meant}

-- ---- numbers and places

place_has : (ns : List ℕ) (n : ℕ) → Has ns n → Has (places ns) (n - 1)
place_has [] n has = absurd has
place_has (m ∷ ns) n has = elim has [ inl same ↦ inl (ap (λ (i : ℕ). i - 1) same) | inr there ↦ inr (place_has ns n there) ]

number_of : (ns : List ℕ) (j : ℕ) → Has (places ns) j → (n : ℕ) × Has ns n × (j ≡ n - 1)
number_of [] j has = absurd has
number_of (m ∷ ns) j has = elim has [
  | inl same ↦ (m, inl refl, same)
  | inr there ↦ let (n, deep, is) = number_of ns j there in (n, inr deep, is)
]

places_fall : (ns : List ℕ) → ((n : ℕ) → Has ns n → 0 < n) → Falls ns → Falls (places ns)
places_fall [] some falls = tt
places_fall (n ∷ ns) some (below, falls) = (
  λ j has. let (m, there, is) = number_of ns j has in
      let up = below m there in
      let low = some m (inr there) in
      omega (arith, is, up, low),
  places_fall ns (λ m has. some m (inr has)) falls,
)

-- ---- each may be made

from_1 : (ts : List (Option (Trace workbook))) (k n : ℕ) → IsDependent ts k n → 0 < n
from_1 ts k zero d = absurd d
from_1 ts k (suc j) d = omega arith

by_place : (ts : List (Option (Trace workbook))) (k n j : ℕ) → IsDependent ts k n → j ≡ n - 1 → Dependent ts k j
by_place ts k zero j d is = absurd d
by_place ts k (suc i) j d is = let same : i ≡ j = omega (arith, is) in subst (Dependent ts k) same d

all_free : (h : List (Entry workbook)) (k : ℕ) (ns : List ℕ) → IsLegal h → DependentsReply h k (Ok ns) → CanUndoAll h (places ns)
all_free h k ns legal ((t, is), (falls, set)) =
    dependents_law workbook h k t (places ns) legal is (places_fall ns (λ n has. from_1 (traces h) k n ((set n).0 has)) falls)
    (λ j. (
      λ has. let (n, there, same) = number_of ns j has in by_place (traces h) k n j ((set n).0 there) same,
      λ d. let here : suc j - 1 ≡ j = omega arith in subst (Has (places ns)) here (place_has ns (suc j) ((set (suc j)).1 d)),
    ))

-- the next one, once those before it are made
pub next_free : (es : List Numbered) (ns : List ℕ) (i n : ℕ) → CanUndoAll (meant es) (places ns) → slice_get ns i ≡ Some n →
    IsFree (meant (all_out_of_force (take i ns) es)) (n - 1)
next_free es [] i n can is = cc
next_free es (m ∷ ns) zero n can is = let same : m ≡ n = cc in subst (λ (j : ℕ). IsFree (meant es) (j - 1)) same can.0
next_free es (m ∷ ns) (suc i) n can is =
    next_free (out_of_force (m - 1) es) ns i n (subst (λ h. CanUndoAll h (places ns)) (undo_meant (m - 1) es) can.1) is

-- ---- what is in force is in the history

in_history : (h : List (Entry workbook)) (s : Cells) (k : ℕ) (t : Trace workbook) → InForce (traces_from h s) k t → k < length h
in_history [] s k t is = cc
in_history (done e ∷ h) s zero t is = omega arith
in_history (done e ∷ h) s (suc k) t is = let less = in_history h (step e s) k t is in omega (arith, less)
in_history (undone e ∷ h) s zero t is = omega arith
in_history (undone e ∷ h) s (suc k) t is = let less = in_history h s k t is in omega (arith, less)

pub free_in_past : (es : List Numbered) (k : ℕ) → IsFree (meant es) k → k < length es
free_in_past es k (t, can) =
    let less = in_history (meant es) _ k t can.in_force in
    let same = length-map es (λ x. entry_at x.edit x.in_force) in
    omega (arith, less, same)

-- ---- what they leave

all_others : (h : List (Entry workbook)) (ks : List ℕ) → IsLegal h → CanUndoAll h ks → OthersStay h ks (undo_all ks h)
all_others h [] legal can = λ j t. (λ is. (is, λ has. has), λ p. p.0)
all_others h (k ∷ ks) legal ((u, may), can) = λ j t.
    let after = undo_law workbook h k u legal may in
    let rest = all_others (undo k h) ks after.legal can j t in (
      λ is. let there = rest.0 is in
          let now = subst (λ ts. InForce ts j t) after.same_traces there.0 in (
            still (traces h) k j t now,
            λ has. elim has [
              | inl same ↦ gone (traces h) k t (subst (λ (m : ℕ). InForce (slice_set (traces h) k None) m t) same now)
              | inr deep ↦ there.1 deep
            ],
          ),
      λ p. rest.1
          (subst (λ ts. InForce ts j t) (sym after.same_traces) (others_stay (traces h) k j t (λ same. p.1 (inl same)) p.0), λ has. p.1 (inr has)),
    )

all_cells : (h : List (Entry workbook)) (ks : List ℕ) → IsLegal h → CanUndoAll h ks → OtherCellsStay h ks (undo_all ks h)
all_cells h [] legal can = λ c spared. refl
all_cells h (k ∷ ks) legal ((u, may), can) = λ c spared.
    let after = undo_law workbook h k u legal may in
    let one = set_back_law workbook h k u c legal may in
    let off = spared k u (inl refl) may.in_force in
    all_cells (undo k h) ks after.legal can c
    (λ m v has is. spared m v (inr has) (still (traces h) k m v (subst (λ ts. InForce ts m v) after.same_traces is)))
    ∙ one ∙ ap (λ b. if b then get (state_before k h) c else get (replay h) c) off

module _ (es : List Numbered) (legal : IsLegal (meant es)) where
  pub listed_free : (k : ℕ) (ns : List ℕ) → DependentsReply (meant es) k (Ok ns) → CanUndoAll (meant es) (places ns)
  listed_free k ns due = all_free (meant es) k ns legal due

  module _ (fs : List Numbered) (ns : List ℕ) (can : CanUndoAll (meant es) (places ns)) (out : fs ≡ all_out_of_force ns es) where
    left : undo_all (places ns) (meant es) ≡ meant fs
    left = left_meant ns es ∙ sym (ap meant out)

    pub others_left : OthersStay (meant es) (places ns) (meant fs)
    others_left = subst (OthersStay (meant es) (places ns)) left (all_others (meant es) (places ns) legal can)

    pub cells_left : OtherCellsStay (meant es) (places ns) (meant fs)
    cells_left = subst (OtherCellsStay (meant es) (places ns)) left (all_cells (meant es) (places ns) legal can)

-- ---- all of them

-- an edit with its dependents is one at least
pub some_listed : (es : List (Entry workbook)) (k : ℕ) (ns : List ℕ) → DependentsReply es k (Ok ns) → 0 < length ns
some_listed es k [] (there, (falls, set)) = absurd ((set (suc k)).1 itself)
some_listed es k (n ∷ ns) due = omega arith

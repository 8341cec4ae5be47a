-- A sweep over what is kept, from each number that is found to those that need it.
use Rattle.std.proofs.Common.{if◌then◌else◌, ◌≡◌, ℕ, ◌<◌, ◌≤◌, ◌==◌, true, false, true≢false, List, [], ◌∷◌, Some, None, length, Result, Ok, Err, OnOk}
use Rattle.std.proofs.Common.{arith, sym, ap, ◌∙◌, subst, ◌⊎◌, inl, inr}
use Rattle.std.proofs.lemmas.Bool.{cases_eq}
use Rattle.selective_undo.specs.History.{Has, Falls}
use Rattle.selective_undo.specs.Log.{Footprint, blocks_undo}
use Rattle.selective_undo.proofs.Log.{cases_lt}
use Rattle.wb_cells.specs.Cells.{Changes}
use Rattle.wb_cells.specs.Schema.{workbook}
use Rattle.wb_footprints.specs.declared.foot_index.FootIndex.{FootIndex}
use Rattle.wb_footprints.specs.Footprints.{Footprints, IsIndexOf}
use Rattle.wb_footprints.specs.Numbers.{Numbers, numbered}
use Rattle.wb_footprints.specs.declared.questions.swept.SweptCells.{SweptCells}
use Rattle.wb_footprints.specs.Relation.{IsLeast, JoinedAfter}
use Rattle.wb_footprints.specs.Swept.{AreSwept}
use Rattle.wb_footprints.proofs.Added.{at_self, at_other, added_here, added_from}
use Rattle.wb_log.specs.declared.entry.LoggedEdit as kept
use Rattle.wb_log.specs.Kept.{by_number}
use Rattle.wb_log.proofs.Entered.{none_past}
use Rattle.wb_log.specs.Needed.{NeedsKept, FromFootprints, itself, through, AreFromFootprints, Joined}

-- ---- those that need one number

pub none_needs : (old : Numbers) (footprints : Footprints) (m : ℕ) → footprints m ≡ None → Joined old old footprints m
none_needs old footprints m off = record { from = λ n has. inl has; stay = λ n has. has; all = λ n need. absurd (no_footprint (sym off ∙ need.kept)) }
  where
    no_footprint : {f : Footprint workbook} → None ≡ Some f → ⊥
    no_footprint e = cc

pub those_needing : (old new : Numbers) (footprints : Footprints) (m : ℕ) (f : Footprint workbook) → footprints m ≡ Some f →
    JoinedAfter old new (λ n. blocks_undo f.touched (footprints n)) m → Joined old new footprints m
those_needing old new footprints m f is h =
    record {
      from = λ n has. elim (h.from n has) [
        | inl had ↦ inl had
        | inr met ↦ inr (record { later = met.0; footprint = f; kept = is; needs = met.1 })
      ];
      stay = h.stay;
      all = λ n need. let same : need.footprint ≡ f = one_footprint (sym need.kept ∙ is) in
          h.all n need.later (subst (λ g. blocks_undo g.touched (footprints n) ≡ true) same need.needs);
    }
  where
    one_footprint : {f g : Footprint workbook} → Some f ≡ Some g → f ≡ g
    one_footprint e = cc

pub on_ok_needing : {X E : Type 0} (r : Result X E) (idx : FootIndex) (old new : Numbers) (footprints : Footprints) (m : ℕ) (f : Footprint workbook)
    (bs : Changes) → footprints m ≡ Some f → bs ≡ f.touched → IsIndexOf idx footprints
    → OnOk r ((footprints : Footprints) → IsIndexOf idx footprints → JoinedAfter old new (λ n. blocks_undo bs (footprints n)) m) →
    OnOk r (Joined old new footprints m)
on_ok_needing (Ok x) idx old new footprints m f bs is same indexed h =
    those_needing old new footprints m f is (subst (λ cs. JoinedAfter old new (λ n. blocks_undo cs (footprints n)) m) same (h footprints indexed))
on_ok_needing (Err e) idx old new footprints m f bs is same indexed h = tt

-- an edit that needs another one is in the log
pub within_log : (es : List kept.LoggedEdit) (n m : ℕ) → NeedsKept (by_number es) n m → n ≤ length es
within_log es n m need = elim (cases_lt (length es) n) [
  | inl past ↦ absurd (true≢false (sym need.needs ∙ ap (blocks_undo need.footprint.touched) (none_past es n past)))
  | inr low ↦ low
]

-- ---- the sweep

-- What was found, from the greatest down, and what waits: dependents alone; and each that needs one found was found, or waits.
pub record Swept (footprints : Footprints) (k size : ℕ) (ns : List ℕ) (last : ℕ) (waiting : Numbers) : Type 0 where
  pub falls : Falls ns
  pub up_to : (n : ℕ) → Has ns n → n ≤ last
  pub above : (n : ℕ) → numbered waiting n ≡ true → last < n
  pub within : (n : ℕ) → numbered waiting n ≡ true → n ≤ size
  pub found : (n : ℕ) → Has ns n → FromFootprints footprints k n
  pub coming : (n : ℕ) → numbered waiting n ≡ true → FromFootprints footprints k n
  pub begun : Has ns k ⊎ (numbered waiting k ≡ true)
  pub closed : (m j : ℕ) → Has ns m → NeedsKept footprints j m → Has ns j ⊎ (numbered waiting j ≡ true)

-- at first the number itself waits
pub first_swept : (footprints : Footprints) (k size : ℕ) (none w : Numbers) → 0 < k → k ≤ size → ((n : ℕ) → numbered none n ≡ false) →
    ((n : ℕ) → numbered w n ≡ (if k == n then true else numbered none n)) → Swept footprints k size [] 0 w
first_swept footprints k size none w some low empty is =
    record {
      falls = tt;
      up_to = λ n has. absurd has;
      above = λ n has. subst (λ (m : ℕ). 0 < m) (only n has) some;
      within = λ n has. subst (λ (m : ℕ). m ≤ size) (only n has) low;
      found = λ n has. absurd has;
      coming = λ n has. subst (λ (m : ℕ). FromFootprints footprints k m) (only n has) itself;
      begun = inr (added_here none w k is);
      closed = λ m j has need. absurd has;
    }
  where
    only : (n : ℕ) → numbered w n ≡ true → k ≡ n
    only n has = elim (added_from none w k is n has) [ inl had ↦ absurd (true≢false (sym had ∙ empty n)) | inr same ↦ same ]

-- the least that waits is found, and those that need it wait
pub next_swept : (footprints : Footprints) (k size : ℕ) (ns : List ℕ) (last j : ℕ) (w v u : Numbers) → Swept footprints k size ns last w →
    IsLeast (numbered w) (Some j)
    → ((n : ℕ) → numbered v n ≡ (if j == n then false else numbered w n)) → Joined v u footprints j → ((n : ℕ) → NeedsKept footprints n j → n ≤ size) →
    Swept footprints k size (j ∷ ns) j u
next_swept footprints k size ns last j w v u h (waits, least) taken joined fits =
    record {
      falls = (λ n has. let up = h.up_to n has in let over = h.above j waits in omega (arith, up, over), h.falls);
      up_to = λ n has. elim has [ inl same ↦ omega (arith, same) | inr old ↦ let up = h.up_to n old in let over = h.above j waits in omega (arith, up, over) ];
      above = λ n has. elim (joined.from n has) [ inl had ↦ later n had | inr need ↦ need.later ];
      within = λ n has. elim (joined.from n has) [ inl had ↦ h.within n (was n had) | inr need ↦ fits n need ];
      found = λ n has. elim has [ inl same ↦ subst (λ (m : ℕ). FromFootprints footprints k m) (sym same) (h.coming j waits) | inr old ↦ h.found n old ];
      coming = λ n has. elim (joined.from n has) [ inl had ↦ h.coming n (was n had) | inr need ↦ through need (h.coming j waits) ];
      begun = still k h.begun;
      closed = λ m i has need. elim has [
        | inl same ↦ inr (joined.all i (subst (λ (l : ℕ). NeedsKept footprints i l) same need))
        | inr old ↦ still i (h.closed m i old need)
      ];
    }
  where
    was : (n : ℕ) → numbered v n ≡ true → numbered w n ≡ true
    was n has = elim (j == n) as (λ b. (if b then false else numbered w n) ≡ true → numbered w n ≡ true)
        [ true ↦ λ e. absurd (true≢false (sym e)) | false ↦ λ e. e ] (sym (taken n) ∙ has)

    other : (n : ℕ) → numbered v n ≡ true → j ≡ n → ⊥
    other n has same = true≢false (sym has ∙ taken n ∙ ap (λ b. if b then false else numbered w n) (subst (λ (m : ℕ). (j == m) ≡ true) same (at_self j)))

    later : (n : ℕ) → numbered v n ≡ true → j < n
    later n has = elim (cases_lt j n) [
      | inl low ↦ low
      | inr up ↦ let down = least n (was n has) in absurd (other n has (omega (arith, up, down)))
    ]

    still : (n : ℕ) → Has ns n ⊎ (numbered w n ≡ true) → Has (j ∷ ns) n ⊎ (numbered u n ≡ true)
    still n (inl old) = inl (inr old)
    still n (inr waited) = elim (cases_eq j n) [
      | inl same ↦ inl (inl (sym same))
      | inr apart ↦ inr (joined.stay n (taken n ∙ ap (λ b. if b then false else numbered w n) (at_other j n apart) ∙ waited))
    ]

-- once none waits, all were found
pub all_swept : (footprints : Footprints) (k size : ℕ) (ns : List ℕ) (last : ℕ) (w : Numbers) → Swept footprints k size ns last w → IsLeast (numbered w) None →
    AreFromFootprints footprints k ns
all_swept footprints k size ns last w h none = (h.falls, λ n. (h.found n, λ d. all n d))
  where
    here : (n : ℕ) → Has ns n ⊎ (numbered w n ≡ true) → Has ns n
    here n (inl has) = has
    here n (inr waits) = absurd (true≢false (sym waits ∙ none n))

    all : (n : ℕ) → FromFootprints footprints k n → Has ns n
    all n itself = here k h.begun
    all n (through need d) = here n (h.closed _ n (all _ d) need)

-- the cells that the sweep went through, once the least that waits was taken
pub cells_taken : (m : FootIndex) (s : SweptCells) (w v : Numbers) (last j : ℕ) → AreSwept m s w last → last < j →
    ((n : ℕ) → numbered v n ≡ (if j == n then false else numbered w n)) → AreSwept m s v j
cells_taken m s w v last j h low taken = record {
  cells = λ c k n is up met. still n up (h.cells c k n is (omega (arith, low, up)) met);
  families = λ c k n is up met. still n up (h.families c k n is (omega (arith, low, up)) met);
}
  where
    still : (n : ℕ) → j < n → numbered w n ≡ true → numbered v n ≡ true
    still n up had =
        let apart : j ≡ n → ⊥ = λ same. omega (arith, up, same) in
        taken n ∙ ap (λ b. if b then false else numbered w n) (at_other j n apart) ∙ had

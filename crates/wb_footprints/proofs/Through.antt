-- Cells that a sweep went through, and families that it asked for.
use Rattle.std.proofs.Common.{if◌then◌else◌, ◌≡◌, ℕ, ◌+◌, ◌<◌, ◌==◌, Bool, true, false, true≢false, ◌&&◌, ◌||◌, List, length, take, get_or, refl, sym, ap, ◌∙◌}
use Rattle.std.proofs.Common.{subst, arith, ◌⊎◌, inl, inr, [], ◌∷◌, ◌++◌, zero, suc}
use Rattle.std.proofs.lemmas.List.Folds.{list_any_more, list_any-append, list_any_at, Any-from_list_any}
use Rattle.std.specs.List.{list_any, Contains}
use Rattle.std.specs.Global.{Vec}
use Rattle.std.specs.Ordering.{eq_by_cmp}
use Rattle.std.specs.Cmp.{Equal-is}
use Rattle.wb_cells.specs.declared.cells.cell.Cell.{Cell}
use Rattle.wb_cells.specs.Cells.{cell_cmp, cell_order}
use Rattle.wb_cells.specs.Runs.{cell_of}
use Rattle.wb_cells.specs.declared.changes.row.IndexedRow.{IndexedRow}
use Rattle.wb_footprints.specs.declared.foot_index.FootIndex.{FootIndex}
use Rattle.wb_footprints.specs.declared.marks.key_marks.Marks.{Marks}
use Rattle.wb_footprints.specs.declared.places.runs.Run.{Run}
use Rattle.wb_footprints.specs.declared.questions.swept.SweptCells.{SweptCells}
use Rattle.wb_footprints.specs.Numbers.{Numbers, numbered}
use Rattle.wb_footprints.specs.Marks.{marked}
use Rattle.wb_cells.specs.declared.values.index.Index.{Index}
use Rattle.wb_footprints.specs.Footprints.{marked_own, marked_family}
use Rattle.wb_footprints.specs.Relation.{Sets, JoinedAfter}
use Rattle.wb_footprints.specs.Swept.{AreSwept, AreWaiting, FailsBehind, IsGone}
use Rattle.wb_footprints.proofs.InBlocks.{or_last}
use Rattle.wb_footprints.proofs.Meeting.{any_in_front}

-- what is to join waits already
pub wait_already : (old : Numbers) (p : ℕ → Bool) (after : ℕ) → ((n : ℕ) → after < n → p n ≡ true → numbered old n ≡ true) → JoinedAfter old old p after
wait_already old p after all = record { from = λ n has. inl has; stay = λ n had. had; all = all }

-- more numbers wait
pub swept_stays : (m : FootIndex) (s : SweptCells) (w v : Numbers) (after : ℕ) → AreSwept m s w after →
    ((n : ℕ) → numbered w n ≡ true → numbered v n ≡ true) → AreSwept m s v after
swept_stays m s w v after h stay = record {
  cells = λ c k n is up met. stay n (h.cells c k n is up met);
  families = λ c k n is up met. stay n (h.families c k n is up met);
}

one_cell : (c d : Cell) → eq_by_cmp cell_cmp c d ≡ true → c ≡ d
one_cell c d e = cell_order.strict c d ((Equal-is (cell_cmp c d)).0 e)

both_first : (a b : Bool) → a && b ≡ true → a ≡ true
both_first true b e = refl
both_first false b e = e

-- the numbers of a test wait that are above another one, at each cell of some marks
abbrev pub Wait : (Cell → ℕ → Bool) → Marks Cell → Numbers → ℕ → Type 0
Wait f s w after = (c : Cell) (k n : ℕ) → marked cell_cmp s c k ≡ true → after < n → f c n ≡ true → numbered w n ≡ true

-- one cell more
wait_more : (f : Cell → ℕ → Bool) (s t : Marks Cell) (w v : Numbers) (after : ℕ) (c : Cell) → Wait f s w after → JoinedAfter w v (f c) after →
    Sets (marked cell_cmp s) (marked cell_cmp t) (eq_by_cmp cell_cmp c) 1 true → Wait f t v after
wait_more f s t w v after c h joined sets = λ d k n is up met. by d k n up met (eq_by_cmp cell_cmp c d && (1 == k)) refl (sym (sets.at d k) ∙ is)
  where
    by : (d : Cell) (k n : ℕ) → after < n → f d n ≡ true → (b : Bool) → eq_by_cmp cell_cmp c d && (1 == k) ≡ b →
        (if b then true else marked cell_cmp s d k) ≡ true → numbered v n ≡ true
    by d k n up met true e is = joined.all n up (subst (λ x. f x n ≡ true) (sym (one_cell c d (both_first _ _ e))) met)
    by d k n up met false e is = joined.stay n (h d k n is up met)

-- the same marks, and more numbers wait
wait_stays : (f : Cell → ℕ → Bool) (s t : Marks Cell) (w v : Numbers) (after : ℕ) → t ≡ s → ((n : ℕ) → numbered w n ≡ true → numbered v n ≡ true) →
    Wait f s w after → Wait f t v after
wait_stays f s t w v after e stay h = λ c k n is up met. stay n (h c k n (sym (ap (λ x. marked cell_cmp x c k) e) ∙ is) up met)

-- a cell that the sweep went through is still one
gone_stays : (s t : SweptCells) (c : Cell) (k : ℕ) → t.cells ≡ s.cells → t.runs ≡ s.runs → IsGone t c k → IsGone s c k
gone_stays s t c k e same (inl is) = inl (sym (ap (λ m. marked cell_cmp m c k) e) ∙ is)
gone_stays s t c k e same (inr g) = inr (g.0, subst (λ (v : Vec Run). Contains v.items g.0) same g.1, g.2)

-- the sweep goes through a cell, of which all wait
pub swept_more : (m : FootIndex) (s t : SweptCells) (w v : Numbers) (after : ℕ) (c : Cell) → AreSwept m s w after → JoinedAfter w v (marked_own m c) after →
    Sets (marked cell_cmp s.cells) (marked cell_cmp t.cells) (eq_by_cmp cell_cmp c) 1 true → t.runs ≡ s.runs → t.families ≡ s.families → AreSwept m t v after
swept_more m s t w v after c h joined sets runs same = record {
  cells = λ d k n is up met. by d k n up met is;
  families = wait_stays (marked_family m) s.families t.families w v after same joined.stay h.families;
}
  where
    by : (d : Cell) (k n : ℕ) → after < n → marked_own m d n ≡ true → IsGone t d k → numbered v n ≡ true
    by d k n up met (inl is) = wait_more (marked_own m) s.cells t.cells w v after c (λ e j i at high own. h.cells e j i (inl at) high own) joined sets d k n is up met
    by d k n up met (inr g) =
        joined.stay n (h.cells d k n (inr (g.0, subst (λ (x : Vec Run). Contains x.items g.0) runs g.1, g.2)) up met)

-- it asks for a family, of which all wait
pub asked_more : (m : FootIndex) (s t : SweptCells) (w v : Numbers) (after : ℕ) (c : Cell) → AreSwept m s w after → JoinedAfter w v (marked_family m c) after →
    Sets (marked cell_cmp s.families) (marked cell_cmp t.families) (eq_by_cmp cell_cmp c) 1 true → t.cells ≡ s.cells → t.runs ≡ s.runs → AreSwept m t v after
asked_more m s t w v after c h joined sets same runs = record {
  cells = λ d k n is up met. joined.stay n (h.cells d k n (gone_stays s t d k same runs is) up met);
  families = wait_more (marked_family m) s.families t.families w v after c h.families joined sets;
}

-- ---- runs kept whole

-- runs are one where their cells are of one row and at the same indices
pub same_run : (a b : Run) → a.row ≡ b.row → a.indices ≡ b.indices → a ≡ b
same_run a b row indices = λ i. record { row = row i; indices = indices i }

pub point_there : (f : Index → Bool) (ps : List Index) (p : Index) → Contains ps p → f p ≡ true → list_any f ps ≡ true
point_there f ps p h e = list_any_at f ps h.0 p h.1 (ap f h.2 ∙ e)

-- those at the cells of a run that is kept wait
pub run_waits : (m : FootIndex) (s : SweptCells) (w : Numbers) (after : ℕ) (run : Run) → AreSwept m s w after → Contains s.runs.items run →
    AreWaiting m run.row run.indices w after
run_waits m s w after run h kept n up met =
    let one = Any-from_list_any (λ p. marked_own m (cell_of run.row p) n) run.indices met in
    h.cells (cell_of run.row one.1) 0 n (inr (run, kept, (one.1, (one.0, one.2, one.3), refl))) up one.4

-- and those at the cells of one whose cells are among its cells
pub within_waits : (m : FootIndex) (s : SweptCells) (w : Numbers) (after : ℕ) (kept run : Run) → AreSwept m s w after → Contains s.runs.items kept →
    kept.row ≡ run.row → ((f : Index → Bool) → list_any f run.indices ≡ true → list_any f kept.indices ≡ true) → AreWaiting m run.row run.indices w after
within_waits m s w after kept run h there row among n up met =
    run_waits m s w after kept h there n up
    (subst (λ (r : IndexedRow). list_any (λ p. marked_own m (cell_of r p) n) kept.indices ≡ true) (sym row)
    (among (λ p. marked_own m (cell_of run.row p) n) met))

in_behind : {X : Type 0} (xs : List X) (y x : X) → Contains (xs ++ y ∷ []) x → Contains xs x ⊎ (x ≡ y)
in_behind [] y x (zero, l, e) = inr (sym e)
in_behind [] y x (suc k, l, e) = absurd (omega (arith, l))
in_behind (z ∷ zs) y x (zero, l, e) = inl (zero, omega arith, e)
in_behind (z ∷ zs) y x (suc k, l, e) = elim (in_behind zs y x (k, omega (arith, l), e)) [
  | inl h ↦ inl (suc h.0, omega (arith, h.1), h.2)
  | inr same ↦ inr same
]

-- one run more of which all wait
pub kept_more : (m : FootIndex) (s t : SweptCells) (w : Numbers) (after : ℕ) (run : Run) → AreSwept m s w after →
    AreWaiting m run.row run.indices w after → t.cells ≡ s.cells → t.families ≡ s.families → t.runs.items ≡ s.runs.items ++ run ∷ [] →
    AreSwept m t w after
kept_more m s t w after run h waits cells families runs = record {
  cells = λ c k n is up met. by c k n up met is;
  families = wait_stays (marked_family m) s.families t.families w w after families (λ n had. had) h.families;
}
  where
    own : (c : Cell) (k n : ℕ) → after < n → marked_own m c n ≡ true → (r : Run) → (Contains s.runs.items r ⊎ (r ≡ run)) →
        ((p : Index) × Contains r.indices p × (c ≡ cell_of r.row p)) → numbered w n ≡ true
    own c k n up met r (inl had) g = h.cells c k n (inr (r, had, g)) up met
    own c k n up met r (inr same) g =
        let there = subst (λ (x : Run). (p : Index) × Contains x.indices p × (c ≡ cell_of x.row p)) same g in
        waits n up (point_there (λ p. marked_own m (cell_of run.row p) n) run.indices there.0 there.1
        (ap (λ x. marked_own m x n) (sym there.2) ∙ met))

    by : (c : Cell) (k n : ℕ) → after < n → marked_own m c n ≡ true → IsGone t c k → numbered w n ≡ true
    by c k n up met (inl is) = h.cells c k n (inl (sym (ap (λ x. marked cell_cmp x c k) cells) ∙ is)) up met
    by c k n up met (inr g) = own c k n up met g.0 (in_behind s.runs.items run g.0 (subst (λ (xs : List Run). Contains xs g.0) runs g.1)) g.2

-- ---- the indices of a run

pub any_here : {X : Type 0} (f : X → Bool) (xs : List X) (i : ℕ) (d : X) → i < length xs → f (get_or xs i d) ≡ true → list_any f xs ≡ true
any_here f xs i d low is = any_in_front f xs (i + 1) (list_any_more f xs i d low ∙ or_last (list_any f (take i xs)) (f (get_or xs i d)) is)

-- one index more of those of which all wait
pub run_more : (m : FootIndex) (s t : SweptCells) (w : Numbers) (after : ℕ) (row : IndexedRow) (ps : List Index) (i : ℕ) (p : Index) (c : Cell) →
    AreSwept m s w after → AreWaiting m row ps w after → i < length ps → p ≡ get_or ps i p → c ≡ cell_of row p →
    Sets (marked cell_cmp s.cells) (marked cell_cmp t.cells) (eq_by_cmp cell_cmp c) 1 true → t.runs ≡ s.runs → t.families ≡ s.families → AreSwept m t w after
run_more m s t w after row ps i p c h waits low is at sets runs same =
    swept_more m s t w w after c h
    (wait_already w (marked_own m c) after (λ n up met. waits n up (any_here (λ q. marked_own m (cell_of row q) n) ps i p low
    (ap (λ q. marked_own m (cell_of row q) n) (sym is) ∙ ap (λ x. marked_own m x n) (sym at) ∙ met))))
    sets runs same

not_true : (b : Bool) → (b ≡ true → ⊥) → b ≡ false
not_true true never = absurd (never refl)
not_true false never = refl

-- those of the new indices join, and those of the others wait already
pub new_joined : (m : FootIndex) (s : SweptCells) (w v : Numbers) (after : ℕ) (row : IndexedRow) (fresh ps : List Index) →
    AreSwept m s w after → ((f : Index → Bool) → FailsBehind s row f → list_any f fresh ≡ list_any f ps) →
    JoinedAfter w v (λ n. list_any (λ p. marked_own m (cell_of row p) n) fresh) after →
    JoinedAfter w v (λ n. list_any (λ p. marked_own m (cell_of row p) n) ps) after
new_joined m s w v after row fresh ps h is joined = record {
  from = λ n has. came n has (numbered w n) refl;
  stay = joined.stay;
  all = λ n up met. come n up met (numbered w n) refl;
}
  where
    fails : (n : ℕ) → after < n → numbered w n ≡ false → FailsBehind s row (λ p. marked_own m (cell_of row p) n)
    fails n up none = λ p k gone. not_true (marked_own m (cell_of row p) n)
        (λ met. true≢false (sym (h.cells (cell_of row p) k n (inl gone) up met) ∙ none))

    came : (n : ℕ) → numbered v n ≡ true → (b : Bool) → numbered w n ≡ b →
        (numbered w n ≡ true) ⊎ ((after < n) × (list_any (λ p. marked_own m (cell_of row p) n) ps ≡ true))
    came n has true e = inl e
    came n has false e = elim (joined.from n has) [
      | inl had ↦ inl had
      | inr met ↦ inr (met.0, sym (is (λ p. marked_own m (cell_of row p) n) (fails n met.0 e)) ∙ met.1)
    ]

    come : (n : ℕ) → after < n → list_any (λ p. marked_own m (cell_of row p) n) ps ≡ true → (b : Bool) → numbered w n ≡ b → numbered v n ≡ true
    come n up met true e = joined.stay n e
    come n up met false e = joined.all n up (is (λ p. marked_own m (cell_of row p) n) (fails n up e) ∙ met)

-- ---- new indices

or_nothing : (b : Bool) → b ≡ (b || false)
or_nothing true = refl
or_nothing false = refl

-- one at which the test fails is left out
pub none_new : {X : Type 0} (f : X → Bool) (ps : List X) (p : X) → f p ≡ false → list_any f ps ≡ (list_any f ps || f p)
none_new f ps p e = or_nothing (list_any f ps) ∙ ap (λ b. list_any f ps || b) (sym e)

-- one comes last
pub one_new : {X : Type 0} (f : X → Bool) (ps qs : List X) (p : X) → qs ≡ ps ++ p ∷ [] → list_any f qs ≡ (list_any f ps || f p)
one_new f ps qs p e = ap (list_any f) e ∙ list_any-append f ps (p ∷ []) ∙ ap (λ b. list_any f ps || b) (sym (or_nothing (f p)))

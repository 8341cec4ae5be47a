-- A history is made again edit by edit.
use Rattle.std.proofs.Common.{◌≡◌, ℕ, ◌+◌, Bool, true, false, List, [], ◌∷◌, ◌++◌, length, refl, sym, ap, ◌∙◌, subst, Option, Some, None}
use Rattle.std.proofs.Common.{Ok, Err, IsOk, arith}
use Rattle.std.specs.Prelude.{min, ◌-◌, ◌^◌}
use Rattle.std.proofs.Math.Nat.{sub-add-min_cancel}
use Rattle.selective_undo.specs.Edit.{Schema, Change, EditTree, Trace, outcome, written, trace, step}
use Rattle.selective_undo.specs.History.{Entry, done, undone, traces_from, replay, traces, InForce, IsLegal}
use Rattle.selective_undo.proofs.Log.{append-map}
use Rattle.std.specs.FinMap.{empty}
use Rattle.wb_cells.specs.Cells.{count_of, saturating_add}
use Rattle.wb_edit.specs.declared.edit.Edit as command
use Rattle.wb_cells.specs.Schema.{workbook}
use Rattle.wb_edit.specs.Edits.{meaning}
use Rattle.wb_edit.specs.declared.refusal.Refusal.{Refusal}
use Rattle.wb_edit.specs.declared.refusal.Refusal.TheVariants.{BadRequest, BadLiteral, Refused, NoSuchEdit, NotInForce, InForce as IsInForce, Blocked}
use Rattle.wb_edit.specs.declared.refusal.Refusal.TheVariants.{RefusedInPlace, NoMemory, StrangePass}
use Rattle.wb_history.specs.declared.restore.RestoreErr.{RestoreErr}
use Rattle.wb_history.specs.declared.restore.RestoreErr.TheVariants.{NotLegal, NoMemory as NoRoom}
use Rattle.wb_log.specs.Past.{Numbered, Past, entry_at, meant}
use Rattle.wb_log.specs.Replies.{EditReply}
use Rattle.wb_history.specs.Restored.{stopped, one_of, marked, cells_written, IsCounted, BeginsNone, RestoreReply}
use Rattle.wb_log.proofs.Appended.{follows}

-- ---- one history after another

module _ {w : Schema} where
  seam : (ts us : List (Option (Trace w))) (t : Trace w) → InForce (ts ++ Some t ∷ us) (length ts) t
  seam [] us t = refl
  seam (x ∷ ts) us t = seam ts us t

-- ---- counts

written_append : (ts us : List (Option (Trace workbook))) → cells_written (ts ++ us) ≡ cells_written ts + cells_written us
written_append [] us = sym (omega arith)
written_append (Some t ∷ ts) us = let e = written_append ts us in omega (arith, e)
written_append (None ∷ ts) us = written_append ts us

meant_more : (es fs : List Numbered) → meant (es ++ fs) ≡ meant es ++ meant fs
meant_more es fs = append-map (λ x. entry_at x.edit x.in_force) es fs

-- a count that stops at m
capped : (c n m : ℕ) → min (min c m + n) m ≡ min (c + n) m
capped c n m =
    let a = sub-add-min_cancel c m in
    let b = sub-add-min_cancel (min c m + n) m in
    let d = sub-add-min_cancel (c + n) m in
    omega (arith, a, b, d)

counted_on : (c d n w v : ℕ) → w ≡ saturating_add 0 c → v ≡ saturating_add w n → d ≡ c + n → v ≡ saturating_add 0 d
counted_on c d n w v is more sum =
    let m = 2 ^ 128 - 1 in
    let zero_c : 0 + c ≡ c = omega arith in
    let zero_d : 0 + (c + n) ≡ c + n = omega arith in
    more ∙ ap (λ x. min (x + n) m) (is ∙ ap (λ x. min x m) zero_c) ∙ capped c n m ∙ ap (λ x. min x m) (sym zero_d) ∙ ap (λ x. min (0 + x) m) (sym sum)

one_more : (h : List (Entry workbook)) (e : EditTree workbook) →
    cells_written (traces (h ++ done e ∷ [])) ≡ cells_written (traces h) + count_of (written (outcome e (replay h)))
one_more h e =
    let zero_more : count_of (written (outcome e (replay h))) + 0 ≡ count_of (written (outcome e (replay h))) = omega arith in
    ap cells_written (follows h (done e ∷ []) empty).1 ∙ written_append (traces h) (Some (trace e (replay h)) ∷ []) ∙
    ap (λ n. cells_written (traces h) + n) zero_more

none_more : (h : List (Entry workbook)) (e : EditTree workbook) → cells_written (traces (h ++ undone e ∷ [])) ≡ cells_written (traces h)
none_more h e =
    let same : cells_written (traces h) + 0 ≡ cells_written (traces h) = omega arith in
    ap cells_written (follows h (undone e ∷ []) empty).1 ∙ written_append (traces h) (None ∷ []) ∙ same

pub counted_edit : (p q : Past) (e : command.Edit) (r : ℕ × ℕ) → EditReply (meant p.entries) (meaning e) (Ok r) → q.entries ≡ p.entries ++ one_of e true ∷ [] →
    q.writes ≡ saturating_add p.writes r.1 → IsCounted p → IsCounted q
counted_edit p q e r (k, (xs, accepted, n)) more writes counted =
    let h = meant p.entries in
    let now_is : traces (meant q.entries) ≡ traces (h ++ done (meaning e) ∷ []) = ap (λ es. traces (meant es)) more ∙
    ap traces (meant_more p.entries (one_of e true ∷ [])) in
    let count : count_of (written (outcome (meaning e) (replay h))) ≡ r.1 = ap (λ o. count_of (written o)) accepted ∙ sym n in
    counted_on (cells_written (traces h)) (cells_written (traces (meant q.entries))) r.1 p.writes q.writes counted writes
    (ap cells_written now_is ∙ one_more h (meaning e) ∙ ap (λ c. cells_written (traces h) + c) count)

pub counted_undone : (p q : Past) (e : command.Edit) → q.entries ≡ p.entries ++ one_of e false ∷ [] → q.writes ≡ p.writes → IsCounted p → IsCounted q
counted_undone p q e more writes counted =
    let h = meant p.entries in
    let now_is : traces (meant q.entries) ≡ traces (h ++ undone (meaning e) ∷ []) = ap (λ es. traces (meant es)) more ∙
    ap traces (meant_more p.entries (one_of e false ∷ [])) in
    writes ∙ counted ∙ ap (saturating_add 0) (sym (ap cells_written now_is ∙ none_more h (meaning e)))

-- ---- an edit in force that is refused

never_ok : {E : Type 0} (T : Type 0) (o : E) → IsOk {T = T} (Err o) → ⊥
never_ok T o q = cc

not_ok : (h k : List (Entry workbook)) (e : EditTree workbook) (o : _) → outcome e (replay h) ≡ Err o → IsLegal (h ++ done e ∷ k) → ⊥
not_ok h k e o refused legal =
    let t = trace e (replay h) in
    let there = subst (λ ts. InForce ts (length (traces h)) t) (sym (follows h (done e ∷ k) empty).1) (seam (traces h) (traces_from k (step e (replay h))) t) in
    let ok = legal (length (traces h)) t there in
    never_ok (List (Change workbook)) o (subst IsOk refused ok)

begins : (es fs : List Numbered) (e : command.Edit) → meant ((es ++ one_of e true ∷ []) ++ fs) ≡ meant es ++ done (meaning e) ∷ meant fs
begins [] fs e = refl
begins (x ∷ es) fs e = ap (λ h. entry_at x.edit x.in_force ∷ h) (begins es fs e)

pub refused_here : (es : List Numbered) (e : command.Edit) (why : Refusal) → EditReply (meant es) (meaning e) (Err why) → stopped why ≡ NotLegal →
    BeginsNone (es ++ one_of e true ∷ [])
refused_here es e (Refused o) reply is fs legal = not_ok (meant es) (meant fs) (meaning e) o reply (subst (λ h. IsLegal h) (begins es fs e) legal)
refused_here es e NoMemory reply is fs legal = cc
refused_here es e BadRequest reply is fs legal = reply
refused_here es e BadLiteral reply is fs legal = reply
refused_here es e NoSuchEdit reply is fs legal = reply
refused_here es e NotInForce reply is fs legal = reply
refused_here es e IsInForce reply is fs legal = reply
refused_here es e (Blocked k) reply is fs legal = reply
refused_here es e (RefusedInPlace o) reply is fs legal = reply
refused_here es e StrangePass reply is fs legal = reply

one_by_one : (es fs : List Numbered) (x : Numbered) → (es ++ x ∷ []) ++ fs ≡ es ++ x ∷ fs
one_by_one [] fs x = refl
one_by_one (y ∷ es) fs x = ap (λ zs. y ∷ zs) (one_by_one es fs x)

pub stopped_reply : (all rest : List (command.Edit × Bool)) (es : List Numbered) (e : command.Edit) (b : Bool) (why : RestoreErr)
    → es ++ marked ((e, b) ∷ rest) ≡ marked all → (why ≡ NotLegal → BeginsNone (es ++ one_of e b ∷ [])) → RestoreReply (marked all) (Err why)
stopped_reply all rest es e b NotLegal is none = λ legal. none refl (marked rest)
    (subst (λ fs. IsLegal (meant fs)) (sym (one_by_one es (marked rest) (one_of e b) ∙ is)) legal)
stopped_reply all rest es e b NoRoom is none = tt

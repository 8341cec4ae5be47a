-- Arrays with what new indices bring to them.
use Rattle.std.proofs.Common.{◌≡◌, ℕ, ◌+◌, ◌<◌, ℤ, List, [], ◌∷◌, ◌++◌, map, take, length, get_or, Result, Ok, Err, refl, sym, ap, subst, ◌∙◌, append_assoc}
use Rattle.std.proofs.Common.{add-one}
use Rattle.std.proofs.Math.Seq.{take-suc}
use Rattle.std.specs.FinMap.{get}
use Rattle.std.specs.Global.{Vec}
use Rattle.std.specs.List.{zip}
use Rattle.std.specs.Map.{keys_of}
use Rattle.std.specs.Result.{IfOk, IfErr, OnOk}
use Rattle.wb_range.specs.Domain.{IsListedOnce}
use Rattle.wb_cells.specs.declared.cells.cell.Cell.TheVariants.{Implicit}
use Rattle.wb_cells.specs.declared.cells.pattern.Pattern.{Pattern}
use Rattle.wb_cells.specs.Cells.{Name, Cells}
use Rattle.wb_edit.specs.declared.attempt_err.AttemptErr.{AttemptErr}
use Rattle.wb_edit.specs.declared.attempt_err.AttemptErr.TheVariants.{NoMemory}
use Rattle.wb_edit.specs.Changed.{items_of}
use Rattle.wb_edit.specs.Plans.{Gives, Looks}
use Rattle.wb_cells.specs.Reads.{one_of}
use Rattle.wb_edit.specs.Resizing.{number_or_zero, implicits}
use Rattle.wb_edit.specs.Rectangles.{read_all}
use Rattle.wb_edit.proofs.IndexedRows.{map-append}
use Rattle.wb_edit.proofs.Rectangles.{gives_all}
use Rattle.wb_edit.proofs.Trees.{then_shown}

-- an array with its implicit value
abbrev pub with_implicit : Cells → Name → Name × ℤ
with_implicit s a = (a, number_or_zero (get s (Implicit a)))

module _ (names : List Name) (k : ℕ) (a : Name) (low : k < length names) (here : a ≡ get_or names k a) where
  names_more : take (k + 1) names ≡ take k names ++ a ∷ []
  names_more = ap (λ n. take n names) (add-one k) ∙ take-suc names k a low ∙ ap (λ b. take k names ++ b ∷ []) (sym here)

  -- one more name
  pub reads_more : (rs : List Pattern) → rs ++ map one_of (map Implicit (take (k + 1) names)) ≡ (rs ++ map one_of (map Implicit (take k names))) ++ one_of
      (Implicit a) ∷ []
  reads_more rs =
      ap (λ ns. rs ++ map one_of (map Implicit ns)) names_more
      ∙ ap (λ cs. rs ++ map one_of cs) (map-append Implicit (take k names) (a ∷ []))
      ∙ ap (λ ps. rs ++ ps) (map-append one_of (map Implicit (take k names)) (Implicit a ∷ []))
      ∙ sym (append_assoc rs (map one_of (map Implicit (take k names))) (one_of (Implicit a) ∷ []))

  pub values_more : (s : Cells) → map (with_implicit s) (take (k + 1) names) ≡ map (with_implicit s) (take k names) ++ with_implicit s a ∷ []
  values_more s = ap (map (with_implicit s)) names_more ∙ map-append (with_implicit s) (take k names) (a ∷ [])

-- ---- what a look at the implicit values shows

pub shown_implicits : (s : Cells) (names : List Name) → zip names (map number_or_zero (map (get s) (map Implicit names))) ≡ map (with_implicit s) names
shown_implicits s [] = refl
shown_implicits s (a ∷ names) = ap (λ fs. with_implicit s a ∷ fs) (shown_implicits s names)

pub gives_implicits : (s : Cells) (names : List Name) (rs : List Pattern) →
    Gives (implicits names) s rs (map (with_implicit s) names) (rs ++ map one_of (map Implicit names))
gives_implicits s names rs =
    subst (λ (fs : List (Name × ℤ)). Gives (implicits names) s rs fs (rs ++ map one_of (map Implicit names))) (shown_implicits s names)
    (then_shown (read_all (map Implicit names)) s rs (rs ++ map one_of (map Implicit names)) (λ vs. zip names (map number_or_zero vs))
    (map (get s) (map Implicit names)) (gives_all s (map Implicit names) rs))

-- ---- what the code says of them

pub keys_by_items : (r : Result (Vec (Name × ℤ)) AttemptErr) (fs : List (Name × ℤ)) (ns : List Name) → IfOk r (λ v. v.items ≡ fs) → keys_of fs ≡ ns →
    IfOk r (λ v. keys_of v.items ≡ ns)
keys_by_items (Ok v) fs ns same keys = ap keys_of same ∙ keys
keys_by_items (Err why) fs ns same keys = tt

pub once_by_keys : (r : Result (Vec (Name × ℤ)) AttemptErr) (ns : List Name) → IfOk r (λ v. keys_of v.items ≡ ns) → IsListedOnce ns →
    IfOk r (λ v. IsListedOnce (keys_of v.items))
once_by_keys (Ok v) ns keys once = subst (λ (ks : List Name). IsListedOnce ks) (sym keys) once
once_by_keys (Err why) ns keys once = tt

pub found_implicits : (s : Cells) (ns : List Name) (rs ss : List Pattern) (r : Result (Vec (Name × ℤ)) AttemptErr) →
    OnOk r (ss ≡ rs ++ map one_of (map Implicit ns)) → IfOk r (λ v. v.items ≡ map (with_implicit s) ns) → IfErr r (λ e. e ≡ NoMemory)
    → Looks (implicits ns) s rs (items_of r) ss
found_implicits s ns rs ss (Ok v) read values only =
    subst (λ (fs : List (Name × ℤ)). Gives (implicits ns) s rs fs ss) (sym values) (
    subst (λ (us : List Pattern). Gives (implicits ns) s rs (map (with_implicit s) ns) us) (sym read) (gives_implicits s ns rs))
found_implicits s ns rs ss (Err why) read values only = subst (λ (w : AttemptErr). Looks (implicits ns) s rs (Err w) ss) (sym only) tt

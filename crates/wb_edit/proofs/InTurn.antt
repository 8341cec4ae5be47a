-- Several commands as one, command by command.
use Rattle.std.proofs.Common.{◌≡◌, ℕ, ◌+◌, ◌<◌, ◌≤◌, List, [], ◌∷◌, ◌++◌, map, take, drop, length, get_or, Result, Ok, Err, refl, sym, ap, subst, ◌∙◌, append_assoc, append-nil, take_all, arith}
use Rattle.std.proofs.lemmas.List.{length-map, length-take-le, map-append, take-append-drop, take_more}
use Rattle.selective_undo.specs.Changes.{apply}
use Rattle.selective_undo.specs.Edit.{Trace, refuse, write, look, seen, outcome, reads, written, trace}
use Rattle.selective_undo.specs.Together.{together, both, refused_as, all_of, followed}
use Rattle.selective_undo.proofs.Together.{apply-together, both_trace, front_law}
use Rattle.wb_cells.specs.declared.cells.pattern.Pattern.{Pattern}
use Rattle.wb_cells.specs.declared.refusal.EditRefusal.{EditRefusal}
use Rattle.wb_cells.specs.declared.refusal.WhyRefused.{WhyRefused}
use Rattle.wb_cells.specs.Cells.{Cells, Changes, cell_cmp, cell_order}
use Rattle.wb_cells.specs.Schema.{workbook}
use Rattle.wb_edit.specs.declared.command.Command.{Command}
use Rattle.wb_edit.specs.Commands.{command_meaning}
use Rattle.wb_edit.specs.declared.several.AllErr.{AllErr}
use Rattle.wb_edit.specs.declared.several.AllErr.TheVariants.{Refused as FirstRefused, NoMemory as NoMemoryForAll}
use Rattle.wb_edit.specs.declared.several.PlanAllErr.TheVariants.{Refused as AllRefused}
use Rattle.wb_edit.specs.Several.{meaning_of_all, AttemptsAll, IsPlanOfAll, MakesNext}
use Rattle.wb_edit.specs.Trees.{Tree, plain}
use Rattle.wb_layers.specs.Laid.{Laid}

-- ---- a refusal that is told otherwise

told_made : (f : EditRefusal → EditRefusal) (e : Tree) (s : Cells) (xs : Changes) → outcome e s ≡ Ok xs → outcome (refused_as f e) s ≡ Ok xs
told_made f (refuse why) s xs is = cc
told_made f (write ys) s xs is = is
told_made f (look p next) s xs is = told_made f (next (seen workbook p s)) s xs is

told_refused : (f : EditRefusal → EditRefusal) (e : Tree) (s : Cells) (why : EditRefusal) → outcome e s ≡ Err why → outcome (refused_as f e) s ≡ Err (f why)
told_refused f (refuse because) s why is = let same : because ≡ why = cc in ap (λ r. Err (f r)) same
told_refused f (write ys) s why is = cc
told_refused f (look p next) s why is = told_refused f (next (seen workbook p s)) s why is

told_reads : (f : EditRefusal → EditRefusal) (e : Tree) (s : Cells) → reads (refused_as f e) s ≡ reads e s
told_reads f (refuse why) s = refl
told_reads f (write ys) s = refl
told_reads f (look p next) s = ap (λ ps. p ∷ ps) (told_reads f (next (seen workbook p s)) s)

-- ---- one more edit

pub followed_made : (t u : Trace workbook) (ls xs : Changes) → t.outcome ≡ Ok ls → u.outcome ≡ Ok xs →
    ((followed t u).outcome ≡ Ok (together cell_cmp ls xs)) × ((followed t u).reads ≡ t.reads ++ u.reads)
followed_made t u ls xs h k = rw (h, k) (refl, refl)

pub followed_refused : (t u : Trace workbook) (ls : Changes) (why : EditRefusal) → t.outcome ≡ Ok ls → u.outcome ≡ Err why →
    ((followed t u).outcome ≡ Err why) × ((followed t u).reads ≡ t.reads ++ u.reads)
followed_refused t u ls why h k = rw (h, k) (refl, refl)

-- after an edit that is made, what the two did is this
pub both_after : (e d : Tree) (s : Cells) (ls : Changes) → outcome e s ≡ Ok ls → trace (both e d) s ≡ followed (trace e s) (trace d (apply ls s))
both_after e d s ls h =
    both_trace e d s ∙ ap (λ (q : Cells). followed (trace e s) (trace d q)) (ap (λ (o : Result Changes EditRefusal). apply (written o) s) h)

both_made : (e d : Tree) (f : EditRefusal → EditRefusal) (s : Cells) (ls xs : Changes) → outcome e s ≡ Ok ls → outcome d (apply ls s) ≡ Ok xs →
    (outcome (both e (refused_as f d)) s ≡ Ok (together cell_cmp ls xs)) × (reads (both e (refused_as f d)) s ≡ reads e s ++ reads d (apply ls s))
both_made e d f s ls xs h k =
    let all = both_after e (refused_as f d) s ls h in
    let known = followed_made (trace e s) (trace (refused_as f d) (apply ls s)) ls xs h (told_made f d (apply ls s) xs k) in (
      ap (λ (t : Trace workbook). t.outcome) all ∙ known.0,
      ap (λ (t : Trace workbook). t.reads) all ∙ known.1 ∙ ap (λ ps. reads e s ++ ps) (told_reads f d (apply ls s)),
    )

both_refused : (e d : Tree) (f : EditRefusal → EditRefusal) (s : Cells) (ls : Changes) (why : EditRefusal) → outcome e s ≡ Ok ls → outcome d (apply ls s) ≡ Err why →
    (outcome (both e (refused_as f d)) s ≡ Err (f why)) × (reads (both e (refused_as f d)) s ≡ reads e s ++ reads d (apply ls s))
both_refused e d f s ls why h k =
    let all = both_after e (refused_as f d) s ls h in
    let known = followed_refused (trace e s) (trace (refused_as f d) (apply ls s)) ls (f why) h (told_refused f d (apply ls s) why k) in (
      ap (λ (t : Trace workbook). t.outcome) all ∙ known.0,
      ap (λ (t : Trace workbook). t.reads) all ∙ known.1 ∙ ap (λ ps. reads e s ++ ps) (told_reads f d (apply ls s)),
    )

-- ---- one more command

one_more : (m : ℕ → EditRefusal → EditRefusal) (cs : List Command) (k : ℕ) (c : Command) → k < length cs → c ≡ get_or cs k c →
    meaning_of_all m (take (k + 1) cs) ≡ both (meaning_of_all m (take k cs)) (refused_as (m k) (command_meaning c))
one_more m cs k c low is =
    let front : List Command = take k cs in
    ap (meaning_of_all m) (take_more cs k c low ∙ ap (λ (x : Command). front ++ x ∷ []) (sym is))
    ∙ ap (all_of m) (map-append command_meaning front (c ∷ []))
    ∙ (front_law workbook m (map command_meaning front) (command_meaning c ∷ [])).0
    ∙ ap (λ n. both (meaning_of_all m front) (refused_as (m n) (command_meaning c))) (length-map front command_meaning ∙ length-take-le k cs (omega (arith, low)))

-- What the first commands come to, whatever is made of places.
abbrev pub Made : List Command → Cells → List Pattern → Changes → List Pattern → Type 0
Made cs s rs ls ss = (m : ℕ → EditRefusal → EditRefusal) → (outcome (meaning_of_all m cs) s ≡ Ok ls) × (ss ≡ rs ++ reads (meaning_of_all m cs) s)

pub made_more : (cs : List Command) (k : ℕ) (c : Command) (s q : Cells) (rs ss us : List Pattern) (ls ms xs : Changes) → k < length cs → c ≡ get_or cs k c →
    Made (take k cs) s rs ls ss → q ≡ apply ls s → outcome (command_meaning c) q ≡ Ok xs → us ≡ ss ++ reads (command_meaning c) q → ms ≡ together cell_cmp ls xs →
    Made (take (k + 1) cs) s rs ms us
made_more cs k c s q rs ss us ls ms xs low is made here next read laid = λ m.
    let e : Tree = meaning_of_all m (take k cs) in
    let so_far = made m in
    let same = one_more m cs k c low is in
    let known = both_made e (command_meaning c) (m k) s ls xs so_far.0 (subst (λ (r : Cells). outcome (command_meaning c) r ≡ Ok xs) here next) in (
      ap (λ (t : Tree). outcome t s) same ∙ known.0 ∙ ap Ok (sym laid),
      read ∙ ap (λ ps. ps ++ reads (command_meaning c) q) so_far.1 ∙ append_assoc rs (reads e s) (reads (command_meaning c) q)
          ∙ ap (λ (r : Cells). rs ++ (reads e s ++ reads (command_meaning c) r)) here
          ∙ ap (λ ps. rs ++ ps) (sym known.1 ∙ ap (λ (t : Tree). reads t s) (sym same)),
    )

-- What all come to once one of them is refused.
pub refused_at : (cs : List Command) (k : ℕ) (c : Command) (s q : Cells) (rs ss us : List Pattern) (ls : Changes) (why : WhyRefused) → k < length cs →
    c ≡ get_or cs k c → Made (take k cs) s rs ls ss → q ≡ apply ls s → outcome (command_meaning c) q ≡ Err (plain why) → us ≡ ss ++ reads (command_meaning c) q →
    (m : ℕ → EditRefusal → EditRefusal) → (outcome (meaning_of_all m cs) s ≡ Err (m k (plain why))) × (us ≡ rs ++ reads (meaning_of_all m cs) s)
refused_at cs k c s q rs ss us ls why low is made here stop read = λ m.
    let e : Tree = meaning_of_all m (take k cs) in
    let so_far = made m in
    let same = one_more m cs k c low is in
    let known = both_refused e (command_meaning c) (m k) s ls (plain why) so_far.0 (subst (λ (r : Cells). outcome (command_meaning c) r ≡ Err (plain why)) here stop) in
    let front : List Command = take (k + 1) cs in
    let refused : outcome (meaning_of_all m front) s ≡ Err (m k (plain why)) = ap (λ (t : Tree). outcome t s) same ∙ known.0 in
    let whole : meaning_of_all m cs ≡ all_of m (map command_meaning front ++ map command_meaning (drop (k + 1) cs)) =
    ap (meaning_of_all m) (sym (take-append-drop (k + 1) cs)) ∙ ap (all_of m) (map-append command_meaning front (drop (k + 1) cs)) in
    let ends : trace (meaning_of_all m cs) s ≡ trace (meaning_of_all m front) s =
    ap (λ (t : Tree). trace t s) whole ∙ (front_law workbook m (map command_meaning front) (map command_meaning (drop (k + 1) cs))).1 s (m k (plain why)) refused in (
      ap (λ (t : Trace workbook). t.outcome) ends ∙ refused,
      read ∙ ap (λ ps. ps ++ reads (command_meaning c) q) so_far.1 ∙ append_assoc rs (reads e s) (reads (command_meaning c) q)
          ∙ ap (λ (r : Cells). rs ++ (reads e s ++ reads (command_meaning c) r)) here
          ∙ ap (λ ps. rs ++ ps) (sym known.1 ∙ ap (λ (t : Tree). reads t s) (sym same) ∙ ap (λ (t : Trace workbook). t.reads) (sym ends)),
    )

-- ---- the loop over the commands

pub none_made : (s : Cells) (rs : List Pattern) (ls : Changes) → ls ≡ [] → Made [] s rs ls rs
none_made s rs ls none = λ m. (ap Ok (sym none), sym (append-nil rs))

pub all_made : (cs : List Command) (k : ℕ) (s : Cells) (rs ss : List Pattern) (l : Laid) → length cs ≤ k → Made (take k cs) s rs l.laid ss →
    AttemptsAll cs s rs (Ok l) ss
all_made cs k s rs ss l high made = subst (λ (xs : List Command). Made xs s rs l.laid ss) (take_all k cs high) made

-- a command that stops them
pub stopped_at : (cs : List Command) (k : ℕ) (c : Command) (s : Cells) (rs ss us : List Pattern) (l : Laid) (why : AllErr) → k < length cs →
    c ≡ get_or cs k c → Made (take k cs) s rs l.laid ss → l.cells ≡ apply l.laid s → MakesNext c k l ss (Err why) us → AttemptsAll cs s rs (Err why) us
stopped_at cs k c s rs ss us l (FirstRefused j why) low is made here h =
    let there : k ≡ j = sym h.0 in
    subst (λ (n : ℕ). AttemptsAll cs s rs (Err (FirstRefused n why)) us) there (low, refused_at cs k c s l.cells rs ss us l.laid why low is made here h.1 h.2)
stopped_at cs k c s rs ss us l NoMemoryForAll low is made here h = tt

-- one that is made
pub next_here : (s q r : Cells) (ls ms xs : Changes) → q ≡ apply ls s → r ≡ apply xs q → ms ≡ together cell_cmp ls xs → r ≡ apply ms s
next_here s q r ls ms xs here next laid =
    next ∙ ap (apply xs) here ∙ sym (ap (λ (zs : Changes). apply zs s) laid ∙ apply-together cell_order ls xs s)

-- ---- the plan of all, where one is refused

pub refused_all : (cs : List Command) (s q : Cells) (rs ss : List Pattern) (k : ℕ) (why : WhyRefused) → q ≡ s → rs ≡ [] →
    AttemptsAll cs q rs (Err (FirstRefused k why)) ss → IsPlanOfAll cs s (Err (AllRefused k why ss))
refused_all cs s q rs ss k why here none stop = (
  stop.0,
  λ m.
      let tree : Tree = meaning_of_all m cs in
      let whole = stop.1 m in (
        ap (λ (r : Cells). outcome tree r) (sym here) ∙ whole.0,
        whole.1 ∙ ap (λ ps. ps ++ reads tree q) none ∙ ap (λ (r : Cells). reads tree r) here,
      ),
)

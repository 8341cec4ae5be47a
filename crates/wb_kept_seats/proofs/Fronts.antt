-- What stands for a front of the entries.
use Rattle.std.proofs.Common.{◌≡◌, ℕ, true, List, [], ◌∷◌, ◌++◌, refl, sym, ap, ◌∙◌, subst, append_assoc, append-nil}
use Rattle.std.specs.Prelude.{Result, Ok, Err, IfOk, IfErr}
use mathlib.Core.List.{IsPrefix}
use Rattle.wb_keep.specs.declared.keep.LineLog.{LineLog}
use Rattle.wb_kept.specs.Runs.{Leads}
use Rattle.wb_kept.specs.Sessions.{IsFront}
use Rattle.wb_kept_group.specs.Together.{changes_in}
use Rattle.wb_history.specs.Past.{Past}
use Rattle.wb_keeping.specs.Granting.Granting.{Grants, no_edit}
use Rattle.wb_desk.specs.Courses.{Course, Marked, Tells, Runs, all_of, empty_lists}
use Rattle.wb_desk.specs.Early.{SettlesSeat, DiffersSeat, course_settled}
use Rattle.wb_desk.specs.Serving.{Held}
use Rattle.wb_desk.specs.declared.settling.Difference.{Difference}
use Rattle.wb_desk.proofs.Courses.{all_settled, tells_nothing}
use Rattle.wb_desk.specs.declared.entry.Entry.{Entry}
use Rattle.wb_kept_seats.specs.KeptCourses.{KeptCourse, StandsForFront, EachFrontStands, EachFrontStandsIn, IsKeptCourse}
use Rattle.wb_kept_seats.specs.Files.{LeavesTurns, LeavesFrontsOf}
use Rattle.wb_kept_seats.proofs.Beginnings.{each_front_more, front_of_none, turn_behind}

front_all : {T : Type 0} (xs : List T) → IsFront xs xs
front_all xs = ([], sym (append-nil xs))

front_more : {T : Type 0} (xs ys zs : List T) → IsFront xs ys → IsFront xs (ys ++ zs)
front_more xs ys zs (rest, e) = (rest ++ zs, ap (λ l. l ++ zs) e ∙ append_assoc xs rest zs)

-- it stands for the same front of more entries
pub stands_more : (opening : Past) (es more : List Entry) (lines : List (List ℕ)) → StandsForFront opening es lines → StandsForFront opening (es ++ more) lines
stands_more opening es more lines s =
    record { front = s.front; is_front = front_more s.front es more s.is_front; history = s.history; run = s.run; leads = s.leads }

pub stands_all : (opening : Past) (es : List Entry) (history : Past) (lines : List (List ℕ)) → Runs opening es history → Leads Grants no_edit lines history
    → StandsForFront opening es lines
stands_all opening es history lines run leads = record { front = es; is_front = front_all es; history = history; run = run; leads = leads }

-- ---- a desk as it is opened

pub kept_opened : (opening history : Past) (lines : List (List ℕ)) (n : ℕ) (k : KeptCourse) → opening ≡ history → Leads Grants no_edit lines history
    → k.course ≡ record { seats = n; entries = empty_lists n; settled = 0; history = history } → k.made ≡ [] → k.waiting ≡ [] → IsKeptCourse opening lines k
kept_opened opening history lines n k first leads opened made waiting =
    let all : lines ≡ lines ++ changes_in k.made = sym (append-nil lines) ∙ ap (λ turns. lines ++ changes_in turns) (sym made) in
    let whole : lines ≡ (lines ++ changes_in k.made) ++ k.waiting = all ∙ sym (append-nil (lines ++ changes_in k.made)) ∙ ap (λ ls. (lines ++ changes_in k.made) ++ ls) (sym waiting) in
    let now : k.course.history ≡ history = ap (λ (c : Course). c.history) opened in
    let here : Leads Grants no_edit lines k.course.history = subst (λ s. Leads Grants no_edit lines s) (sym now) leads in
    let run : Runs opening [] k.course.history = now ∙ sym first in
    record {
      all = [];
      tells = tells_nothing opening k.course n (ap (λ (c : Course). c.seats) opened) (ap (λ (c : Course). c.entries) opened) (ap (λ (c : Course). c.settled) opened) run;
      fronts = λ front begins.
          let empty : front ≡ [] = front_of_none front (subst (λ turns. IsPrefix front turns) made begins) in
          let only : lines ≡ lines ++ changes_in front = sym (append-nil lines) ∙ ap (λ turns. lines ++ changes_in turns) (sym empty) in
          stands_all opening [] k.course.history (lines ++ changes_in front) run (subst (λ ls. Leads Grants no_edit ls k.course.history) only here);
      leads = λ is. subst (λ ls. Leads Grants no_edit ls k.course.history) whole here;
    }

-- ---- a turn that ends

pub turn_leads : (opening : Past) (lines : List (List ℕ)) (k : KeptCourse) → IsKeptCourse opening lines k → k.is_open ≡ true
    → Leads Grants no_edit (lines ++ changes_in (k.made ++ k.waiting ∷ [])) k.course.history
turn_leads opening lines k kept is = subst (λ ls. Leads Grants no_edit ls k.course.history) (turn_behind lines k.made k.waiting) (kept.leads is)

pub kept_ended : (opening : Past) (lines : List (List ℕ)) (k l : KeptCourse) → IsKeptCourse opening lines k → k.is_open ≡ true
    → l.course ≡ k.course → l.made ≡ k.made ++ k.waiting ∷ [] → l.waiting ≡ [] → IsKeptCourse opening lines l
kept_ended opening lines k l kept is same made waiting =
    let leads = turn_leads opening lines k kept is in
    let fronts : EachFrontStands opening lines (all_of kept.all) (k.made ++ k.waiting ∷ []) = each_front_more
    (λ front. StandsForFront opening (all_of kept.all) (lines ++ changes_in front)) k.made k.waiting kept.fronts
    (stands_all opening (all_of kept.all) k.course.history (lines ++ changes_in (k.made ++ k.waiting ∷ [])) kept.tells.run leads) in
    let all : lines ++ changes_in (k.made ++ k.waiting ∷ []) ≡ (lines ++ changes_in l.made) ++ l.waiting =
    ap (λ turns. lines ++ changes_in turns) (sym made) ∙ sym (append-nil (lines ++ changes_in l.made)) ∙ ap (λ ls. (lines ++ changes_in l.made) ++ ls) (sym waiting) in
    record {
      all = kept.all;
      tells = subst (λ (c : Course). Tells opening kept.all c) (sym same) kept.tells;
      fronts = subst (λ turns. EachFrontStands opening lines (all_of kept.all) turns) (sym made) fronts;
      leads = λ now. subst (λ ls. Leads Grants no_edit ls l.course.history) all
          (subst (λ (c : Course). Leads Grants no_edit (lines ++ changes_in (k.made ++ k.waiting ∷ [])) c.history) (sym same) leads);
    }

-- the course, the turns that were made and the one under way are as they were
pub kept_same : (opening : Past) (lines : List (List ℕ)) (k l : KeptCourse) → IsKeptCourse opening lines k → l.course ≡ k.course → l.made ≡ k.made
    → l.waiting ≡ k.waiting → l.is_open ≡ k.is_open → IsKeptCourse opening lines l
kept_same opening lines k l kept course made waiting open_same = record {
  all = kept.all;
  tells = subst (λ (c : Course). Tells opening kept.all c) (sym course) kept.tells;
  fronts = subst (λ turns. EachFrontStands opening lines (all_of kept.all) turns) (sym made) kept.fronts;
  leads = λ now. rw (course, made, waiting) (kept.leads (sym open_same ∙ now));
}

-- ---- a seat that is settled early

same_settled : (ms : List Marked) (seat : ℕ) (r : Result ℕ Difference) → all_of (course_settled ms seat r) ≡ all_of ms
same_settled ms seat (Ok n) = all_settled seat ms
same_settled ms seat (Err why) = refl

pub settled_history : (c d : Course) (p q : Held) (r : Result ℕ Difference) → IfOk r (λ n. SettlesSeat c p n d q)
    → IfErr r (λ why. DiffersSeat c p why d q) → d.history ≡ c.history
settled_history c d p q (Ok n) ok err = ok.0.history
settled_history c d p q (Err why) ok err = ap (λ (x : Course). x.history) err.1

pub kept_settled : (opening : Past) (lines : List (List ℕ)) (k l : KeptCourse) (seat : ℕ) (r : Result ℕ Difference) → IsKeptCourse opening lines k
    → ((all : List Marked) → Tells opening all k.course → Tells opening (course_settled all seat r) l.course) → l.course.history ≡ k.course.history
    → l.made ≡ k.made → l.waiting ≡ k.waiting → l.is_open ≡ k.is_open → IsKeptCourse opening lines l
kept_settled opening lines k l seat r kept goes_on history made waiting open_same =
    let same : all_of (course_settled kept.all seat r) ≡ all_of kept.all = same_settled kept.all seat r in
    record {
      all = course_settled kept.all seat r;
      tells = goes_on kept.all kept.tells;
      fronts = subst (λ (es : List Entry). EachFrontStands opening lines es l.made) (sym same)
          (subst (λ turns. EachFrontStands opening lines (all_of kept.all) turns) (sym made) kept.fronts);
      leads = λ now. rw (history, made, waiting) (kept.leads (sym open_same ∙ now));
    }

-- ---- its file

module _ {D : Type 0} (moment : D → ℕ) (left_since : D → ℕ → List ℕ → Type 0) (opening : Past) (lines : List (List ℕ)) (begun : ℕ) where
  -- each front of the turns stands for a front of all entries
  pub fronts_left : (c : Course) (turns : List (List (List ℕ))) (log : LineLog D) → EachFrontStandsIn opening lines c turns
      → LeavesTurns moment left_since lines begun log turns → LeavesFrontsOf moment left_since opening begun c log
  fronts_left c turns log (all, tells, fronts) left = (
    all,
    tells,
    record {
      later = left.later;
      each = λ file was.
          let one = left.each file was in
          subst (λ ls. StandsForFront opening (all_of all) ls) (sym one.2) (fronts one.0 one.1);
    },
  )

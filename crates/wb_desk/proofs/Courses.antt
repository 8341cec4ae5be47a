-- What becomes of the entries of a course by one more, and by an early settlement of a seat.
use Rattle.std.proofs.Common.{◌≡◌, ◌≢◌, ℕ, zero, suc, ◌+◌, ◌-◌, ◌^◌, ◌<◌, ◌≤◌, Bool, true, false, cond, List, [], ◌∷◌, ◌++◌, length, refl, ap, sym, ◌∙◌, arith, append_assoc, append-nil}
use Rattle.std.proofs.Common.{MatchBool, subst, ⊎_elim, slice_get, None, length-append, add-one}
use Rattle.std.specs.Prelude.{◌==◌, slice_set}
use Rattle.std.specs.List.{All}
use Rattle.std.proofs.lemmas.Bool.{cases_lt}
use Rattle.std.proofs.lemmas.Bool.Decides.{nat_tests}
use Rattle.std.proofs.lemmas.Grind.{get_or-set_at}
use Rattle.std.proofs.lemmas.List.{get_or_past, length-set, get_or-set_other}
use Rattle.std.proofs.lemmas.List.Elements.{filter-append, All-append, All-cons, All-nil}
use Rattle.std.proofs.lemmas.List.Sums.{sum_by_push}
use Rattle.wb_history.specs.Past.{Past}
use Rattle.wb_edit.specs.declared.refusal.Refusal.TheVariants.{StrangePass}
use Rattle.wb_requests.specs.declared.requests.request.Request.{Request}
use Rattle.wb_machine.specs.Machine.{Step}
use Rattle.wb_machine.specs.declared.replies.reply.Reply.{Reply}
use Rattle.wb_machine.specs.declared.replies.reply.Reply.TheVariants.{Refused}
use Rattle.wb_desk.specs.declared.entry.Entry.{Entry}
use Rattle.wb_desk.specs.Entries.{of_seat, is_entered}
use Rattle.wb_desk.specs.Courses.{Course, Marked, Runs, Tells, all_of, done_of, kept_of, with_entry, settled_seat, list_of, count_of, empty_lists}
use Rattle.wb_desk.specs.Serving.{Held, Enters, AnswersCourse, IsStrange, course_after, entry}
use Rattle.wb_desk.specs.Settling.{Agrees, IsSettled, FirstDifference}
use Rattle.wb_desk.specs.Early.{LetsGo, EndsWith, EndsWithAll}

-- ---- one entry more

pub all_more : (ms : List Marked) (e : Entry) → all_of (with_entry ms e) ≡ all_of ms ++ e ∷ []
all_more [] e = refl
all_more (m ∷ ms) e = ap (λ es. m.entry ∷ es) (all_more ms e)

done_more : (ms : List Marked) (e : Entry) → done_of (with_entry ms e) ≡ done_of ms
done_more [] e = refl
done_more (m ∷ ms) e = ap (λ es. cond m.settled (m.entry ∷ es) es) (done_more ms e)

kept_more : (ms : List Marked) (e : Entry) → kept_of (with_entry ms e) ≡ kept_of ms ++ e ∷ []
kept_more [] e = refl
kept_more (m ∷ ms) e = by (kept_more ms e) m.settled
  where
    by : kept_of (with_entry ms e) ≡ kept_of ms ++ e ∷ [] → (b : Bool)
        → cond b (kept_of (with_entry ms e)) (m.entry ∷ kept_of (with_entry ms e)) ≡ cond b (kept_of ms) (m.entry ∷ kept_of ms) ++ e ∷ []
    by rest true = rest
    by rest false = ap (λ es. m.entry ∷ es) rest

run_more : (p : Past) (es : List Entry) (q : Past) (e : Entry) (n : Past) → Runs p es q → is_entered e.reply ≡ true → Step q e.request e.reply n
    → Runs p (es ++ e ∷ []) n
run_more p [] q e n same entered step = (n, entered, rw same at step, refl)
run_more p (x ∷ es) q e n (m, x_entered, x_step, rest) entered step = (m, x_entered, x_step, run_more m es q e n rest entered step)

in_order_more : (ms : List Marked) (e : Entry) (k : ℕ) → of_seat k (all_of ms) ≡ of_seat k (done_of ms) ++ of_seat k (kept_of ms)
    → of_seat k (all_of (with_entry ms e)) ≡ of_seat k (done_of (with_entry ms e)) ++ of_seat k (kept_of (with_entry ms e))
in_order_more ms e k h =
    let p = λ (x : Entry). x.seat == k in
    ap (of_seat k) (all_more ms e) ∙ filter-append p (all_of ms) (e ∷ []) ∙ ap (λ es. es ++ of_seat k (e ∷ [])) h ∙
    append_assoc (of_seat k (done_of ms)) (of_seat k (kept_of ms)) (of_seat k (e ∷ [])) ∙
    ap (λ es. of_seat k (done_of ms) ++ es) (sym (filter-append p (kept_of ms) (e ∷ []))) ∙
    sym (ap (λ es. of_seat k es ++ of_seat k (kept_of ms ++ e ∷ [])) (done_more ms e)) ∙
    sym (ap (λ es. of_seat k (done_of (with_entry ms e)) ++ of_seat k es) (kept_more ms e))

kept_by_test : (lists : List (List Entry)) (kept : List Entry) (e : Entry) (k : ℕ) (b : Bool) → (e.seat == k) ≡ b → e.seat < length lists
    → list_of lists k ≡ of_seat k kept → list_of (slice_set lists e.seat (list_of lists e.seat ++ e ∷ [])) k ≡ of_seat k kept ++ cond b (e ∷ []) []
kept_by_test lists kept e k true is within h =
    let same : k ≡ e.seat = grind (arith, nat_tests) in
    get_or-set_at lists e.seat k (list_of lists e.seat ++ e ∷ []) [] same within ∙ ap (λ j. list_of lists j ++ e ∷ []) (sym same) ∙
    ap (λ es. es ++ e ∷ []) h
kept_by_test lists kept e k false is within h =
    let other : k ≢ e.seat = λ s. let t : (e.seat == k) ≡ true = grind (arith, nat_tests) in cc in
    get_or-set_other lists e.seat k (list_of lists e.seat ++ e ∷ []) [] other ∙ h ∙ sym (append-nil (of_seat k kept))

-- a reply that is entered goes on with the course
tells_more : (opening : Past) (ms : List Marked) (c : Course) (seat : ℕ) (asked : Request) (r : Reply) (d : Course) → seat < c.seats → is_entered r ≡ true
    → Enters c seat asked r d → Tells opening ms c → Tells opening (with_entry ms (entry seat asked r)) d
tells_more opening ms c seat asked r d below entered enters tells =
    let x = entry seat asked r in
    let within : seat < length c.entries = rw tells.lists below in
    let long : length d.entries ≡ length c.entries = ap length enters.entries ∙ length-set c.entries seat (list_of c.entries seat ++ x ∷ []) in
    record {
      run = rw (all_more ms x) (run_more opening (all_of ms) c.history x d.history tells.run entered enters.reply);
      seated = rw (all_more ms x, enters.seats) (All-append (λ (y : Entry). y.seat < c.seats) (all_of ms) (x ∷ []) tells.seated
          (All-cons (λ (y : Entry). y.seat < c.seats) x [] below (All-nil (λ (y : Entry). y.seat < c.seats))));
      lists = long ∙ tells.lists ∙ sym enters.seats;
      in_order = λ k. in_order_more ms x k (tells.in_order k);
      kept = λ k k_below. rw (kept_more ms x, enters.entries) (kept_by_test c.entries (kept_of ms) x k (x.seat == k) refl within
          (tells.kept k (rw enters.seats at k_below)) ∙ sym (filter-append (λ (y : Entry). y.seat == k) (kept_of ms) (x ∷ [])));
      settled = rw (done_more ms x) (enters.settled ∙ tells.settled);
    }

entered_known : (r : Reply) → is_entered r ≡ true → ¬ (r ≡ Refused StrangePass)
entered_known r is strange = let no : is_entered (Refused StrangePass) ≡ true = rw strange at is in cc

-- A desk's answer goes on with its course.
pub tells_answered : (opening : Past) (ms : List Marked) (c : Course) (seat : ℕ) (own : List Entry) (asked : Request) (r : Reply) (d : Course)
    → IsStrange c seat own r → AnswersCourse c seat asked r d → Tells opening ms c → Tells opening (course_after ms seat asked r) d
tells_answered opening ms c seat own asked r d strange answers tells = by_entered (is_entered r) refl answers
  where
    by_entered : (b : Bool) → is_entered r ≡ b → MatchBool b (Enters c seat asked r d) (d ≡ c) → Tells opening (course_after ms seat asked r) d
    by_entered true is enters =
        let below : seat < c.seats = (strange.1 (entered_known r is)).0 in
        rw (course_after, is) (tells_more opening ms c seat asked r d below is enters tells)
    by_entered false is same = rw (course_after, is) (subst (λ x. Tells opening ms x) (sym same) tells)

-- ---- an early settlement of a seat

pub all_settled : (k : ℕ) (ms : List Marked) → all_of (settled_seat k ms) ≡ all_of ms
all_settled k [] = refl
all_settled k (m ∷ ms) = ap (λ es. m.entry ∷ es) (all_settled k ms)

kept_none : (k : ℕ) (ms : List Marked) → of_seat k (kept_of (settled_seat k ms)) ≡ []
kept_none k [] = refl
kept_none k (m ∷ ms) = by (kept_none k ms) (m.entry.seat == k) refl m.settled
  where
    by : of_seat k (kept_of (settled_seat k ms)) ≡ [] → (b : Bool) → (m.entry.seat == k) ≡ b → (s : Bool)
        → of_seat k (cond (cond b true s) (kept_of (settled_seat k ms)) (m.entry ∷ kept_of (settled_seat k ms))) ≡ []
    by rest true is s = rest
    by rest false is true = rest
    by rest false is false = rw is rest

kept_others : (j k : ℕ) → j ≢ k → (ms : List Marked) → of_seat j (kept_of (settled_seat k ms)) ≡ of_seat j (kept_of ms)
kept_others j k other [] = refl
kept_others j k other (m ∷ ms) = by (kept_others j k other ms) (m.entry.seat == k) refl m.settled
  where
    by : of_seat j (kept_of (settled_seat k ms)) ≡ of_seat j (kept_of ms) → (b : Bool) → (m.entry.seat == k) ≡ b → (s : Bool)
        → of_seat j (cond (cond b true s) (kept_of (settled_seat k ms)) (m.entry ∷ kept_of (settled_seat k ms))) ≡ of_seat j (cond s (kept_of ms) (m.entry ∷ kept_of ms))
    by rest true is true = rest
    by rest true is false =
        let same : m.entry.seat ≡ k = grind (arith, nat_tests) in
        let no : (m.entry.seat == j) ≡ false = grind (arith, nat_tests) in
        rw no rest
    by rest false is true = rest
    by rest false is false = ap (λ es. cond (m.entry.seat == j) (m.entry ∷ es) es) rest

done_others : (j k : ℕ) → j ≢ k → (ms : List Marked) → of_seat j (done_of (settled_seat k ms)) ≡ of_seat j (done_of ms)
done_others j k other [] = refl
done_others j k other (m ∷ ms) = by (done_others j k other ms) (m.entry.seat == k) refl m.settled
  where
    by : of_seat j (done_of (settled_seat k ms)) ≡ of_seat j (done_of ms) → (b : Bool) → (m.entry.seat == k) ≡ b → (s : Bool)
        → of_seat j (cond (cond b true s) (m.entry ∷ done_of (settled_seat k ms)) (done_of (settled_seat k ms))) ≡ of_seat j (cond s (m.entry ∷ done_of ms) (done_of ms))
    by rest true is true = ap (λ es. cond (m.entry.seat == j) (m.entry ∷ es) es) rest
    by rest true is false =
        let same : m.entry.seat ≡ k = grind (arith, nat_tests) in
        let no : (m.entry.seat == j) ≡ false = grind (arith, nat_tests) in
        rw no rest
    by rest false is true = ap (λ es. cond (m.entry.seat == j) (m.entry ∷ es) es) rest
    by rest false is false = rest

-- of the seat itself, all are settled
done_whole : (k : ℕ) (ms : List Marked) → of_seat k (all_of ms) ≡ of_seat k (done_of (settled_seat k ms)) ++ of_seat k (kept_of (settled_seat k ms))
done_whole k [] = refl
done_whole k (m ∷ ms) = by (done_whole k ms) (kept_none k ms) (m.entry.seat == k) refl m.settled
  where
    by : of_seat k (all_of ms) ≡ of_seat k (done_of (settled_seat k ms)) ++ of_seat k (kept_of (settled_seat k ms)) → of_seat k (kept_of (settled_seat k ms)) ≡ [] → (b : Bool)
        → (m.entry.seat == k) ≡ b → (s : Bool)
        → of_seat k (m.entry ∷ all_of ms) ≡ of_seat k (cond (cond b true s) (m.entry ∷ done_of (settled_seat k ms)) (done_of (settled_seat k ms))) ++
        of_seat k (cond (cond b true s) (kept_of (settled_seat k ms)) (m.entry ∷ kept_of (settled_seat k ms)))
    by rest none true is s = rw is (ap (λ es. m.entry ∷ es) rest)
    by rest none false is true = rw is rest
    by rest none false is false = rw is rest

done_longer : (k : ℕ) (ms : List Marked) → length (done_of (settled_seat k ms)) ≡ length (done_of ms) + length (of_seat k (kept_of ms))
done_longer k [] = refl
done_longer k (m ∷ ms) = by (done_longer k ms) (m.entry.seat == k) refl m.settled
  where
    by : length (done_of (settled_seat k ms)) ≡ length (done_of ms) + length (of_seat k (kept_of ms)) → (b : Bool) → (m.entry.seat == k) ≡ b → (s : Bool)
        → length (cond (cond b true s) (m.entry ∷ done_of (settled_seat k ms)) (done_of (settled_seat k ms))) ≡
        length (cond s (m.entry ∷ done_of ms) (done_of ms)) + length (of_seat k (cond s (kept_of ms) (m.entry ∷ kept_of ms)))
    by rest true is true = omega (arith, rest)
    by rest true is false = rw is (omega (arith, rest))
    by rest false is true = omega (arith, rest)
    by rest false is false = rw is (omega (arith, rest))

-- a seat that the desk hasn't got
none_beyond : (n k : ℕ) (ms : List Marked) → n ≤ k → All (λ e. e.seat < n) (all_of ms) → settled_seat k ms ≡ ms
none_beyond n k [] le h = refl
none_beyond n k (m ∷ ms) le h =
    let first : m.entry.seat < n = h 0 m.entry (omega arith) in
    let no : (m.entry.seat == k) ≡ false = grind (arith, nat_tests) in
    let rest = none_beyond n k ms le (λ i d below. h (suc i) d (omega arith)) in
    rw no (ap (λ xs. m ∷ xs) rest)

beyond_is_none : (n k : ℕ) (ms : List Marked) → n ≤ k → All (λ e. e.seat < n) (all_of ms) → of_seat k (kept_of ms) ≡ []
beyond_is_none n k ms le h = sym (ap (λ xs. of_seat k (kept_of xs)) (none_beyond n k ms le h)) ∙ kept_none k ms

-- the list of any seat is its entries that are kept
list_is : (opening : Past) (ms : List Marked) (c : Course) (k : ℕ) → Tells opening ms c → list_of c.entries k ≡ of_seat k (kept_of ms)
list_is opening ms c k tells = ⊎_elim (λ below. tells.kept k below)
    (λ past. get_or_past c.entries k [] (rw tells.lists past) ∙ sym (beyond_is_none c.seats k ms past tells.seated)) (cases_lt k c.seats)

in_order_by : (k j : ℕ) (ms : List Marked) (b : Bool) → (j == k) ≡ b → of_seat j (all_of ms) ≡ of_seat j (done_of ms) ++ of_seat j (kept_of ms)
    → of_seat j (all_of ms) ≡ of_seat j (done_of (settled_seat k ms)) ++ of_seat j (kept_of (settled_seat k ms))
in_order_by k j ms true is h =
    let same : j ≡ k = grind (arith, nat_tests) in
    rw same (done_whole k ms)
in_order_by k j ms false is h =
    let other : j ≢ k = λ s. let t : (j == k) ≡ true = grind (arith, nat_tests) in cc in
    rw (done_others j k other ms, kept_others j k other ms) h

kept_by_settled : (lists : List (List Entry)) (k j : ℕ) (ms : List Marked) (b : Bool) → (j == k) ≡ b → j < length lists
    → list_of lists j ≡ of_seat j (kept_of ms) → list_of (slice_set lists k []) j ≡ of_seat j (kept_of (settled_seat k ms))
kept_by_settled lists k j ms true is within h =
    let same : j ≡ k = grind (arith, nat_tests) in
    get_or-set_at lists k j [] [] same (rw same at within) ∙ sym (ap (λ i. of_seat i (kept_of (settled_seat k ms))) same ∙ kept_none k ms)
kept_by_settled lists k j ms false is within h =
    let other : j ≢ k = λ s. let t : (j == k) ≡ true = grind (arith, nat_tests) in cc in
    get_or-set_other lists k j [] [] other ∙ h ∙ sym (kept_others j k other ms)

-- An early settlement goes on with the course.
pub tells_settled : (opening : Past) (ms : List Marked) (c : Course) (k : ℕ) (own : List Entry) (n : ℕ) (d : Course) → LetsGo c k own n d → Tells opening ms c
    → Tells opening (settled_seat k ms) d
tells_settled opening ms c k own n d goes tells =
    let long : length d.entries ≡ length c.entries = ap length goes.entries ∙ length-set c.entries k [] in
    let here : n ≡ length (of_seat k (kept_of ms)) = goes.count ∙ sym (ap length goes.agreed) ∙ ap length (list_is opening ms c k tells) in
    record {
      run = rw (all_settled k ms, goes.history) tells.run;
      seated = rw (all_settled k ms, goes.seats) tells.seated;
      lists = long ∙ tells.lists ∙ sym goes.seats;
      in_order = λ j. rw (all_settled k ms) (in_order_by k j ms (j == k) refl (tells.in_order j));
      kept = λ j j_below.
          let below : j < c.seats = rw goes.seats at j_below in
          rw goes.entries (kept_by_settled c.entries k j ms (j == k) refl (rw tells.lists below) (tells.kept j below));
      settled = let more = goes.settled in let was = tells.settled in let longer = done_longer k ms in omega (arith, more, was, longer, here);
    }

-- In a course the seat's entries end with those that are kept.
pub ends_with : (opening : Past) (ms : List Marked) (c : Course) (k : ℕ) (own : List Entry) → list_of c.entries k ≡ own → Tells opening ms c → EndsWith ms k own
ends_with opening ms c k own same tells = tells.in_order k ∙ ap (λ es. of_seat k (done_of ms) ++ es) (sym (list_is opening ms c k tells) ∙ same)

pub ends_with_all : (opening : Past) (ms : List Marked) (c : Course) (ps : List Held) → IsSettled c.seats c.entries ps → Tells opening ms c → EndsWithAll ms c.seats ps
ends_with_all opening ms c ps settled tells k below =
    let (p, only, same) : Agrees c.entries ps k = settled k below in
    (p, only, ends_with opening ms c k p.own same tells)

something : {X : Type 0} (xs : List X) → 0 < length xs → slice_get xs 0 ≢ None
something [] h e = absurd (omega arith)
something (x ∷ xs) h e = cc

-- a list of a seat that the desk hasn't got differs from its first place on
pub differs_beyond : (lists : List (List Entry)) (k : ℕ) (own : List Entry) → length lists ≤ k → 0 < length own → FirstDifference (list_of lists k) own 0
differs_beyond lists k own le some =
    let none : list_of lists k ≡ [] = get_or_past lists k [] le in
    rw none (refl, λ h. something own some (sym h))

none_more : (xs : List (List Entry)) (k : ℕ) → ((j : ℕ) → list_of xs j ≡ []) → list_of (xs ++ [] ∷ []) k ≡ []
none_more [] zero h = refl
none_more [] (suc k) h = get_or_past ([] ∷ []) (suc k) [] (omega arith)
none_more (x ∷ xs) zero h = h 0
none_more (x ∷ xs) (suc k) h = none_more xs k (λ j. h (suc j))

all_empty : (n k : ℕ) → list_of (empty_lists n) k ≡ []
all_empty zero k = get_or_past [] k [] (omega arith)
all_empty (suc n) k = none_more (empty_lists n) k (λ j. all_empty n j)

pub so_many_lists : (n : ℕ) → length (empty_lists n) ≡ n
so_many_lists zero = refl
so_many_lists (suc n) = length-append (empty_lists n) ([] ∷ []) ∙ ap (λ m. m + 1) (so_many_lists n) ∙ add-one n

-- nothing was asked yet
pub tells_nothing : (opening : Past) (c : Course) (n : ℕ) → c.seats ≡ n → c.entries ≡ empty_lists n → c.settled ≡ 0 → c.history ≡ opening → Tells opening [] c
tells_nothing opening c n seats entries settled history = record {
  run = history;
  seated = All-nil (λ (e : Entry). e.seat < c.seats);
  lists = ap length entries ∙ so_many_lists n ∙ sym seats;
  in_order = λ k. refl;
  kept = λ k below. ap (λ lists. list_of lists k) entries ∙ all_empty n k;
  settled = omega (arith, settled);
}

-- ---- how many entries there are in all lists

pub count_none : (n : ℕ) → count_of (empty_lists n) ≡ 0
count_none zero = refl
count_none (suc n) = sum_by_push (λ (es : List Entry). length es) (empty_lists n) [] ∙ ap (λ m. m + 0) (count_none n)

-- the seats, and what was settled, after an answer
pub seats_same : (c : Course) (seat : ℕ) (asked : Request) (r : Reply) (d : Course) → AnswersCourse c seat asked r d → d.seats ≡ c.seats
seats_same c seat asked r d answers = by_entered (is_entered r) answers
  where
    by_entered : (b : Bool) → MatchBool b (Enters c seat asked r d) (d ≡ c) → d.seats ≡ c.seats
    by_entered true enters = enters.seats
    by_entered false same = ap (λ (x : Course). x.seats) same

pub settled_same : (c : Course) (seat : ℕ) (asked : Request) (r : Reply) (d : Course) → AnswersCourse c seat asked r d → d.settled ≡ c.settled
settled_same c seat asked r d answers = by_entered (is_entered r) answers
  where
    by_entered : (b : Bool) → MatchBool b (Enters c seat asked r d) (d ≡ c) → d.settled ≡ c.settled
    by_entered true enters = enters.settled
    by_entered false same = ap (λ (x : Course). x.settled) same

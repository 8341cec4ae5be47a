-- How many entries a course has, and how many the passes of a desk that is settled have together.
use Rattle.std.proofs.Common.{◌≡◌, ℕ, zero, suc, ◌+◌, ◌-◌, ◌^◌, ◌<◌, ◌≤◌, Bool, true, false, cond, List, [], ◌∷◌, ◌++◌, length, refl, ap, sym, ◌∙◌, arith, add-one}
use Rattle.std.specs.Prelude.{◌==◌}
use Rattle.std.specs.List.{All, sum_by}
use Rattle.std.proofs.lemmas.Bool.Decides.{nat_tests}
use Rattle.std.proofs.lemmas.List.{nil_from_length}
use Rattle.std.proofs.lemmas.List.Elements.{All-cons}
use Rattle.std.proofs.lemmas.List.Sums.{sum_by-cons}
use Rattle.wb_history.specs.Past.{Past}
use Rattle.wb_desk.specs.declared.entry.Entry.{Entry}
use Rattle.wb_desk.specs.Entries.{of_seat}
use Rattle.wb_desk.specs.Courses.{Course, Marked, Tells, IsWhole, all_of, done_of, kept_of, list_of, count_of}
use Rattle.wb_desk.specs.Serving.{Held}
use Rattle.wb_desk.specs.Settling.{Agrees, IsSettled, total_of_passes}

-- ---- entries by seats

-- the entries of so many seats, counted
abbrev counted : ℕ → List Entry → ℕ
counted zero es = 0
counted (suc k) es = counted k es + length (of_seat k es)

none_counted : (n : ℕ) → counted n [] ≡ 0
none_counted zero = refl
none_counted (suc k) = let h = none_counted k in omega (arith, h)

own_count : (k : ℕ) (e : Entry) (es : List Entry) (b : Bool) → (e.seat == k) ≡ b → length (of_seat k (e ∷ es)) ≡ length (of_seat k es) + cond b 1 0
own_count k e es true is = rw is (sym (add-one (length (of_seat k es))))
own_count k e es false is = rw is (omega arith)

-- an entry of a later seat isn't counted
later : (n : ℕ) (e : Entry) (es : List Entry) → n ≤ e.seat → counted n (e ∷ es) ≡ counted n es
later zero e es h = refl
later (suc k) e es h =
    let other : (e.seat == k) ≡ false = grind (arith, nat_tests) in
    let own = own_count k e es false other in
    let before = later k e es (omega arith) in
    omega (arith, own, before)

by_seat : (k : ℕ) (e : Entry) (es : List Entry) (b : Bool) → (e.seat == k) ≡ b → e.seat < suc k
    → (e.seat < k → counted k (e ∷ es) ≡ counted k es + 1) → counted (suc k) (e ∷ es) ≡ counted (suc k) es + 1
by_seat k e es true is h rest =
    let at : e.seat ≡ k = grind (arith, nat_tests) in
    let own = own_count k e es true is in
    let before = later k e es (omega arith) in
    omega (arith, own, before)
by_seat k e es false is h rest =
    let below : e.seat < k = grind (arith, nat_tests) in
    let own = own_count k e es false is in
    let before = rest below in
    omega (arith, own, before)

-- an entry of one of the seats is counted once
once : (n : ℕ) (e : Entry) (es : List Entry) → e.seat < n → counted n (e ∷ es) ≡ counted n es + 1
once zero e es h = absurd (omega arith)
once (suc k) e es h = by_seat k e es (e.seat == k) refl h (λ below. once k e es below)

all_counted : (n : ℕ) (es : List Entry) → All (λ e. e.seat < n) es → counted n es ≡ length es
all_counted n [] h = none_counted n
all_counted n (e ∷ es) h =
    let first : e.seat < n = h 0 e (omega arith) in
    let here = once n e es first in
    let rest = all_counted n es (λ k d below. h (suc k) d (omega arith)) in
    omega (arith, here, rest)

-- ---- lists by seats

-- the entries in the first so many lists, counted
abbrev listed : ℕ → List (List Entry) → ℕ
listed zero lists = 0
listed (suc k) lists = listed k lists + length (list_of lists k)

first_listed : (k : ℕ) (x : List Entry) (xs : List (List Entry)) → listed (suc k) (x ∷ xs) ≡ length x + listed k xs
first_listed zero x xs = omega arith
first_listed (suc k) x xs = let before = first_listed k x xs in omega (arith, before)

all_listed : (lists : List (List Entry)) → listed (length lists) lists ≡ count_of lists
all_listed [] = refl
all_listed (x ∷ xs) = first_listed (length xs) x xs ∙ ap (λ n. length x + n) (all_listed xs) ∙ sym (sum_by-cons (λ (es : List Entry). length es) x xs)

-- ---- a desk that is settled

told_listed : (n : ℕ) (lists : List (List Entry)) (ps : List Held) → IsSettled n lists ps → total_of_passes n ps ≡ listed n lists
told_listed zero lists ps h = refl
told_listed (suc k) lists ps h =
    let (p, only, same) : Agrees lists ps k = h k (omega arith) in
    let before = told_listed k lists ps (λ j below. h j (omega arith)) in
    let own = ap (sum_by (λ (q : Held). length q.own)) only in
    let list = ap length same in
    omega (arith, before, own, list)

-- Its lists have as many entries as its passes together.
pub whole_journal : (n : ℕ) (lists : List (List Entry)) (ps : List Held) → length lists ≡ n → IsSettled n lists ps → count_of lists ≡ total_of_passes n ps
whole_journal n lists ps long settled = sym (told_listed n lists ps settled ∙ ap (λ m. listed m lists) (sym long) ∙ all_listed lists)

-- ---- a course of which nothing was settled early

kept_seated : (n : ℕ) (ms : List Marked) → All (λ e. e.seat < n) (all_of ms) → All (λ e. e.seat < n) (kept_of ms)
kept_seated n [] h = h
kept_seated n (m ∷ ms) h =
    let first : m.entry.seat < n = h 0 m.entry (omega arith) in
    by m.settled first (kept_seated n ms (λ k d below. h (suc k) d (omega arith)))
  where
    by : (b : Bool) → m.entry.seat < n → All (λ e. e.seat < n) (kept_of ms) → All (λ e. e.seat < n) (cond b (kept_of ms) (m.entry ∷ kept_of ms))
    by true first rest = rest
    by false first rest = All-cons (λ (e : Entry). e.seat < n) m.entry (kept_of ms) first rest

each_listed : (n : ℕ) (lists : List (List Entry)) (es : List Entry) → ((k : ℕ) → k < n → list_of lists k ≡ of_seat k es) → listed n lists ≡ counted n es
each_listed zero lists es h = refl
each_listed (suc k) lists es h =
    let before = each_listed k lists es (λ j below. h j (omega arith)) in
    let here = ap length (h k (omega arith)) in
    omega (arith, before, here)

-- the lists have as many entries as are kept
pub kept_counted : (opening : Past) (ms : List Marked) (c : Course) → Tells opening ms c → count_of c.entries ≡ length (kept_of ms)
kept_counted opening ms c tells = sym (all_listed c.entries) ∙ ap (λ n. listed n c.entries) tells.lists ∙ each_listed c.seats c.entries (kept_of ms) tells.kept ∙
    all_counted c.seats (kept_of ms) (kept_seated c.seats ms tells.seated)

all_kept : (ms : List Marked) → done_of ms ≡ [] → all_of ms ≡ kept_of ms
all_kept [] none = refl
all_kept (m ∷ ms) none = by m.settled none (λ rest. all_kept ms rest)
  where
    by : (b : Bool) → cond b (m.entry ∷ done_of ms) (done_of ms) ≡ [] → (done_of ms ≡ [] → all_of ms ≡ kept_of ms)
        → m.entry ∷ all_of ms ≡ cond b (kept_of ms) (m.entry ∷ kept_of ms)
    by true some rest = cc
    by false some rest = ap (λ es. m.entry ∷ es) (rest some)

pub is_whole : (opening : Past) (ms : List Marked) (c : Course) → c.settled ≡ 0 → Tells opening ms c → IsWhole opening (all_of ms) c
is_whole opening ms c none tells =
    let was = tells.settled in
    let done : done_of ms ≡ [] = nil_from_length (done_of ms) (omega (arith, was, none)) in
    let all : all_of ms ≡ kept_of ms = all_kept ms done in
    record {
      run = tells.run;
      seated = tells.seated;
      lists = λ k below. tells.kept k below ∙ ap (of_seat k) (sym all);
      count = kept_counted opening ms c tells ∙ ap length (sym all);
    }

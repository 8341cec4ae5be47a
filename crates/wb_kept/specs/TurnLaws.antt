-- That lines which are answered and kept go on from turn to turn.
use Rattle.std.proofs.Common.{◌≡◌, inl, inr, ⊎_elim, ◌≤◌, ◌+◌, ℕ, zero, suc, List, [], ◌∷◌, ◌++◌, length, take, refl, sym, ap, ◌∙◌, subst, append_assoc, append-nil, length-append, arith}
use Rattle.std.proofs.lemmas.List.{take_all, take-append-le, length-map, map-append}
use Rattle.std.proofs.lemmas.List.Concat.{flat_map-append}
use Rattle.wb_keep.specs.Disk.Device.{LeavesOnly}
use Rattle.wb_keep.specs.Lines.{recovered}
use Rattle.wb_keep.specs.Keep.{IsSettled}
use Rattle.wb_keep.specs.declared.keep.LineLog.{LineLog}
use Rattle.wb_keep.proofs.Disks.Moments.{joined, started}
use Rattle.wb_lines.specs.Lines.{ended}
use Rattle.wb_lines.specs.Serving.{AreTurns}
use Rattle.wb_lines.specs.declared.machine.Stop.{Stop}
use Rattle.wb_lines.specs.declared.machine.Stop.TheVariants as stops
use Rattle.wb_kept.specs.Runs.{Step, Run, lines_asked, replies_of, changes_of}
use Rattle.wb_kept.specs.Sessions.{IsFront}
use Rattle.wb_kept.specs.Turning.{HasFrom, IsCommitted, Takes, Goes, StopsBy, Halts}
use Rattle.wb_kept.specs.declared.kept.Kept.{Kept}
use Rattle.wb_kept.specs.declared.session.DiskFault.{DiskFault}

pub asked-append : (xs ys : List Step) → lines_asked (xs ++ ys) ≡ lines_asked xs ++ lines_asked ys
asked-append xs ys = map-append (λ (step : Step). step.line) xs ys

pub replies-append : (xs ys : List Step) → replies_of (xs ++ ys) ≡ replies_of xs ++ replies_of ys
replies-append xs ys = flat_map-append (λ (step : Step). ended step.reply) xs ys

pub changes-append : (xs ys : List Step) → changes_of (xs ++ ys) ≡ changes_of xs ++ changes_of ys
changes-append xs ys = flat_map-append (λ (step : Step). step.changes) xs ys

-- the front of two lists that reaches into the second
take_to : (xs ys : List Step) (n k : ℕ) → k ≡ length xs + n → take k (xs ++ ys) ≡ xs ++ take n ys
take_to [] ys n k e = let same : k ≡ n = omega (arith, e) in ap (λ (m : ℕ). take m ys) same
take_to (x ∷ xs) ys n zero e = absurd (omega (arith, e))
take_to (x ∷ xs) ys n (suc k) e = ap (λ (zs : List Step). x ∷ zs) (take_to xs ys n k (omega (arith, e)))

take_behind : (xs ys : List Step) (n : ℕ) → take (length xs + n) (xs ++ ys) ≡ xs ++ take n ys
take_behind xs ys n = take_to xs ys n (length xs + n) refl

more_lines : (before lines : List (List ℕ)) (steps more : List Step) → lines ≡ before ++ changes_of steps
    → lines ++ changes_of more ≡ before ++ changes_of (steps ++ more)
more_lines before lines steps more e =
    ap (λ (ls : List (List ℕ)). ls ++ changes_of more) e ∙ append_assoc before (changes_of steps) (changes_of more)
    ∙ ap (λ (ls : List (List ℕ)). before ++ ls) (sym (changes-append steps more))

pub has_all : (before : List (List ℕ)) (steps : List Step) (file : List ℕ) → recovered file ≡ before ++ changes_of steps → HasFrom before steps (length steps) file
has_all before steps file e =
    (length steps, omega arith, omega arith, e ∙ ap (λ (xs : List Step). before ++ changes_of xs) (sym (take_all (length steps) steps (omega arith))))

has_fewer : (before : List (List ℕ)) (steps : List Step) (j k : ℕ) (file : List ℕ) → j ≤ k → HasFrom before steps k file → HasFrom before steps j file
has_fewer before steps j k file le h = (h.0, omega (arith, le, h.1), h.2, h.3)

has_more : (before : List (List ℕ)) (steps more : List Step) (k : ℕ) (file : List ℕ) → HasFrom before steps k file → HasFrom before (steps ++ more) k file
has_more before steps more k file h =
    (h.0, h.1, omega (arith, h.2, length-append steps more), h.3 ∙ ap (λ (xs : List Step). before ++ changes_of xs) (sym (take-append-le h.0 steps more h.2)))

-- all changes of the steps before, and then so many
has_behind : (before lines : List (List ℕ)) (steps more : List Step) (k : ℕ) (file : List ℕ) → lines ≡ before ++ changes_of steps
    → HasFrom lines more k file → HasFrom before (steps ++ more) (length steps + k) file
has_behind before lines steps more k file e h = (
  length steps + h.0,
  omega (arith, h.1),
  omega (arith, h.2, length-append steps more),
  h.3 ∙ more_lines before lines steps (take h.0 more) e ∙ ap (λ (xs : List Step). before ++ changes_of xs) (sym (take_behind steps more h.0)),
)

module _ {D : Type 0} (moment : D → ℕ) (left_since : D → ℕ → List ℕ → Type 0) where
  pub implied : (old new : D) (P Q : List ℕ → Type 0) → ((c : List ℕ) → P c → Q c) → LeavesOnly moment left_since old new P → LeavesOnly moment left_since old new Q
  implied old new P Q f h = record {
    later = h.later;
    each = λ c left. f c (h.each c left);
    before = λ t c le left. ⊎_elim inl (λ p. inr (f c p)) (h.before t c le left);
  }

  -- no call was made
  pub unmoved : (seen : D → List ℕ) (may_leave : D → List ℕ → Type 0) → ((file : D) (c : List ℕ) → left_since file (moment file) c → may_leave file c)
      → (log log' : LineLog D) (P : List ℕ → Type 0) → log' ≡ log → IsSettled seen may_leave log → ((c : List ℕ) → recovered c ≡ recovered (seen log.device) → P c)
      → LeavesOnly moment left_since log.device log'.device P
  unmoved seen may_leave only_now log log' P e s f = subst (λ (l : LineLog D). LeavesOnly moment left_since log.device l.device P) (sym e)
      (started moment left_since log.device P (λ c left. f c (ap recovered (s.durable c (only_now log.device c left)))))

module _ {S : Type 0} (answers : S → List ℕ → List ℕ → List (List ℕ) → S → Type 0) where
  pub run_append : (s m t : S) (xs ys : List Step) → Run answers s xs m → Run answers m ys t → Run answers s (xs ++ ys) t
  run_append s m t [] ys a b = subst (λ (x : S). Run answers x ys t) a b
  run_append s m t (x ∷ xs) ys a b = (a.0, a.1, run_append a.0 m t xs ys a.2 b)

module _ {S D : Type 0} (answers : S → List ℕ → List ℕ → List (List ℕ) → S → Type 0) (seen : D → List ℕ) (may_leave : D → List ℕ → Type 0) (moment : D → ℕ)
    (left_since : D → ℕ → List ℕ → Type 0) (faults : D → ℕ) where
  abbrev goes : Kept S D → List (List ℕ) → List ℕ → ℕ → Kept S D → Type 0
  goes = Goes answers seen may_leave moment left_since faults

  abbrev halts : Stop DiskFault → Kept S D → List (List ℕ) → List ℕ → ℕ → Kept S D → Type 0
  halts = Halts answers seen may_leave moment left_since faults

  abbrev committed : Kept S D → Kept S D → List Step → S → ℕ → Type 0
  committed = IsCommitted answers seen may_leave moment left_since faults

  -- nothing was asked
  none : ((file : D) (c : List ℕ) → left_since file (moment file) c → may_leave file c) → (s : Kept S D) → IsSettled seen may_leave s.log → goes s [] [] 0 s
  none only_now s settled =
      let lines : recovered (seen s.log.device) ≡ recovered (seen s.log.device) ++ [] = sym (append-nil (recovered (seen s.log.device))) in
      record {
        steps = [];
        all = refl;
        takes = record {
          run = refl;
          moments = unmoved moment left_since seen may_leave only_now s.log s.log (HasFrom (recovered (seen s.log.device)) [] 0) refl settled
              (λ c h. (0, omega arith, omega arith, h ∙ lines));
          later = omega arith;
        };
        kept = record { state = refl; settled = settled; lines = lines; counted = refl };
        given = refl;
      }

  module _ (s t u : Kept S D) (xs : List (List ℕ)) (a : List ℕ) (n : ℕ) (g : goes s xs a n t) (more : List Step) (last : S) where
    taken : Takes answers seen may_leave moment left_since faults t u more last → Takes answers seen may_leave moment left_since faults s u (g.steps ++ more) last
    taken k =
        let before = recovered (seen s.log.device) in
        record {
          run = run_append answers s.state t.state last g.steps more g.takes.run k.run;
          moments = joined moment left_since s.log.device t.log.device u.log.device (HasFrom before (g.steps ++ more) 0) (HasFrom (recovered (seen t.log.device)) more 0)
              (implied moment left_since s.log.device t.log.device (HasFrom before g.steps 0) (HasFrom before (g.steps ++ more) 0)
              (λ c h. has_more before g.steps more 0 c h) g.takes.moments)
              k.moments
              (λ c h. has_fewer before (g.steps ++ more) 0 (length g.steps + 0) c (omega arith)
              (has_behind before (recovered (seen t.log.device)) g.steps more 0 c g.kept.lines h));
          later = omega (arith, g.takes.later, k.later);
        }

    counted : (m : ℕ) → m ≡ length more → n + m ≡ length (g.steps ++ more)
    counted m e = omega (arith, g.kept.counted, e, length-append g.steps more)

    kept_too : (m : ℕ) → committed t u more last m → committed s u (g.steps ++ more) last (n + m)
    kept_too m k = record {
      state = k.state;
      settled = k.settled;
      lines = k.lines ∙ more_lines (recovered (seen s.log.device)) (recovered (seen t.log.device)) g.steps more g.kept.lines;
      counted = counted m k.counted;
    }

    -- the replies of the first lines, and then of so many more
    given : (b : List ℕ) (m : ℕ) → b ≡ replies_of (take m more) → a ++ b ≡ replies_of (take (n + m) (g.steps ++ more))
    given b m e =
        ap (λ (x : List ℕ). x ++ b) g.given ∙ ap (λ (x : List ℕ). replies_of g.steps ++ x) e ∙ sym (replies-append g.steps (take m more))
        ∙ ap replies_of (sym (take_behind g.steps more m)) ∙ ap (λ (k : ℕ). replies_of (take (k + m) (g.steps ++ more))) (sym g.kept.counted)

    front : (b : List ℕ) → IsFront b (replies_of more) → IsFront (a ++ b) (replies_of (g.steps ++ more))
    front b f = (
      f.0,
      replies-append g.steps more ∙ ap (λ (x : List ℕ). x ++ replies_of more) (sym g.given) ∙ ap (λ (x : List ℕ). a ++ x) f.1 ∙ sym (append_assoc a b f.0),
    )

    stopped : (stop : Stop DiskFault) (b : List ℕ) (m : ℕ) → StopsBy answers seen may_leave moment left_since faults stop t u more last b m
        → StopsBy answers seen may_leave moment left_since faults stop s u (g.steps ++ more) last (a ++ b) (n + m)
    stopped stops.WriteFault b m k = (kept_too m k.0, front b k.1)
    stopped stops.NoMemory b m k = given b m k
    stopped (stops.Other fault) b m k = (given b m k.0, omega (arith, g.takes.later, k.1))

  two : (s t u : Kept S D) (xs ys : List (List ℕ)) (a b : List ℕ) (n m : ℕ) → goes s xs a n t → goes t ys b m u → goes s (xs ++ ys) (a ++ b) (n + m) u
  two s t u xs ys a b n m g h = record {
    steps = g.steps ++ h.steps;
    all = ap (λ (ls : List (List ℕ)). ls ++ ys) g.all ∙ ap (λ (ls : List (List ℕ)). lines_asked g.steps ++ ls) h.all ∙ sym (asked-append g.steps h.steps);
    takes = taken s t u xs a n g h.steps u.state h.takes;
    kept = kept_too s t u xs a n g h.steps u.state m h.kept;
    given = ap (λ (x : List ℕ). x ++ b) g.given ∙ ap (λ (x : List ℕ). replies_of g.steps ++ x) h.given ∙ sym (replies-append g.steps h.steps);
  }

  then_stops : (stop : Stop DiskFault) (s t u : Kept S D) (xs ys : List (List ℕ)) (a b : List ℕ) (n m : ℕ) → goes s xs a n t → halts stop t ys b m u
      → halts stop s (xs ++ ys) (a ++ b) (n + m) u
  then_stops stop s t u xs ys a b n m g h = record {
    steps = g.steps ++ h.steps;
    last = h.last;
    front = (
      h.front.0,
      ap (λ (ls : List (List ℕ)). ls ++ ys) g.all ∙ ap (λ (ls : List (List ℕ)). lines_asked g.steps ++ ls) h.front.1
          ∙ sym (append_assoc (lines_asked g.steps) (lines_asked h.steps) h.front.0)
          ∙ ap (λ (ls : List (List ℕ)). ls ++ h.front.0) (sym (asked-append g.steps h.steps)),
    );
    takes = taken s t u xs a n g h.steps h.last h.takes;
    few = omega (arith, h.few, g.kept.counted, length-append g.steps h.steps);
    at_least = λ c left. subst (λ (k : ℕ). HasFrom (recovered (seen s.log.device)) (g.steps ++ h.steps) (k + m) c) (sym g.kept.counted)
        (has_behind (recovered (seen s.log.device)) (recovered (seen t.log.device)) g.steps h.steps m c g.kept.lines (h.at_least c left));
    stops = stopped s t u xs a n g h.steps h.last stop b m h.stops;
  }

  stops_before : (stop : Stop DiskFault) (s t : Kept S D) (xs ys : List (List ℕ)) (a : List ℕ) (n : ℕ) → halts stop s xs a n t → halts stop s (xs ++ ys) a n t
  stops_before stop s t xs ys a n h = record {
    steps = h.steps;
    last = h.last;
    front = (
      h.front.0 ++ ys,
      ap (λ (ls : List (List ℕ)). ls ++ ys) h.front.1 ∙ append_assoc (lines_asked h.steps) h.front.0 ys,
    );
    takes = h.takes;
    few = h.few;
    at_least = h.at_least;
    stops = h.stops;
  }

  -- all was kept, and a session ends
  at_rest : (stop : Stop DiskFault) (s t : Kept S D) (xs : List (List ℕ)) (a : List ℕ) (n : ℕ) → (g : goes s xs a n t)
      → StopsBy answers seen may_leave moment left_since faults stop s t g.steps t.state a n → halts stop s xs a n t
  at_rest stop s t xs a n g k = record {
    steps = g.steps;
    last = t.state;
    front = ([], g.all ∙ sym (append-nil (lines_asked g.steps)));
    takes = g.takes;
    few = omega (arith, g.kept.counted);
    at_least = λ c left. subst (λ (m : ℕ). HasFrom (recovered (seen s.log.device)) g.steps m c) (sym g.kept.counted)
        (has_all (recovered (seen s.log.device)) g.steps c (ap recovered (g.kept.settled.durable c left) ∙ g.kept.lines));
    stops = k;
  }

  pub kept_turns : ((file : D) (c : List ℕ) → left_since file (moment file) c → may_leave file c)
      → AreTurns {S = Kept S D} {E = DiskFault} (λ kept. IsSettled seen may_leave kept.log) goes halts
  kept_turns only_now = record {
    none = λ s settled. none only_now s settled;
    more = λ s t u xs ys a b n m g h. two s t u xs ys a b n m g h;
    then_halts = λ stop s t u xs ys a b n m g h. then_stops stop s t u xs ys a b n m g h;
    halts_before = λ stop s t xs ys a n h. stops_before stop s t xs ys a n h;
    unsent = λ s t xs a n g. at_rest stops.WriteFault s t xs a n g (g.kept, ([], sym g.given ∙ sym (append-nil a)));
    short = λ s t xs a n g. at_rest stops.NoMemory s t xs a n g
        (g.given ∙ ap replies_of (sym (take_all n g.steps (omega (arith, g.kept.counted)))));
    few = λ s t xs a n g. omega (arith, g.kept.counted, ap length g.all, length-map g.steps (λ (step : Step). step.line));
    halts_few = λ stop s t xs a n h. omega (
      arith,
      h.few,
      ap length h.front.1,
      length-append (lines_asked h.steps) h.front.0,
      length-map h.steps (λ (step : Step). step.line),
    );
  }

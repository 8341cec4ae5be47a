-- A turn while it is answered, and as it ends.
use Rattle.std.proofs.Common.{◌≡◌, inl, inr, ⊎_elim, ◌+◌, ◌<◌, ◌≤◌, ℕ, List, [], ◌∷◌, ◌++◌, length, refl, sym, ap, ◌∙◌, subst, append_assoc, append-nil, length-append, arith}
use Rattle.wb_keep.specs.Disk.Device.{LeavesOnly}
use Rattle.wb_keep.specs.Lines.{recovered}
use Rattle.wb_keep.specs.Keep.{IsSettled, IsBeforeOrAfter}
use Rattle.wb_keep.specs.declared.keep.LineLog.{LineLog}
use Rattle.wb_lines.specs.Lines.{ended}
use Rattle.wb_lines.specs.Reading.{Reading}
use Rattle.wb_lines.specs.Turns.{TakesLines}
use Rattle.wb_lines.specs.declared.machine.Stop.{Stop}
use Rattle.wb_lines.specs.declared.machine.Stop.TheVariants.{WriteFault, NoMemory, Other}
use Rattle.wb_lines.proofs.Taking.{takes_more}
use Rattle.wb_kept.specs.Runs.{Step, AnswersLine, Run, lines_asked, replies_of, changes_of}
use Rattle.wb_kept.specs.Sessions.{IsFront}
use Rattle.wb_kept.specs.Turning.{AnswersTurn, HasFrom, IsCommitted, Takes, Goes, StopsBy, Halts}
use Rattle.wb_kept.specs.TurnLaws.{run_append, asked-append, replies-append, changes-append, has_all, implied, unmoved}
use Rattle.wb_kept.specs.declared.kept.Kept.{Kept}
use Rattle.wb_kept.specs.declared.session.DiskFault.{DiskFault}

module _ {S : Type 0} (answers : S → List ℕ → List ℕ → List (List ℕ) → S → Type 0) where
  -- lines that lay ahead, as far as they were answered
  abbrev pub Ahead : (old now : S) (buffer rest : Reading) (replies told : List ℕ) (changes made : List (List ℕ)) (count : ℕ) → Type 0
  Ahead old now buffer rest replies told changes made count = (steps : List Step) × TakesLines buffer rest (lines_asked steps) × Run answers old steps now
      × (told ≡ replies ++ replies_of steps) × (made ≡ changes ++ changes_of steps) × (count ≡ length steps)

  pub ahead_more : (old mid now : S) (buffer between rest : Reading) (r0 r1 r2 : List ℕ) (c0 c1 c2 : List (List ℕ)) (count : ℕ) (step : Step)
      → Ahead old mid buffer between r0 r1 c0 c1 count → TakesLines between rest (step.line ∷ []) → AnswersLine answers mid step now
      → r2 ≡ r1 ++ ended step.reply → c2 ≡ c1 ++ step.changes → Ahead old now buffer rest r0 r2 c0 c2 (count + 1)
  ahead_more old mid now buffer between rest r0 r1 r2 c0 c1 c2 count step (steps, t, r, e, f, n) u a h k = (
    steps ++ step ∷ [],
    subst (λ (ls : List (List ℕ)). TakesLines buffer rest ls) (sym (asked-append steps (step ∷ [])))
        (takes_more buffer between rest (lines_asked steps) (step.line ∷ []) t u),
    run_append answers old mid now steps (step ∷ []) r (now, a, refl),
    h ∙ ap (λ (x : List ℕ). x ++ ended step.reply) e ∙ append_assoc r0 (replies_of steps) (ended step.reply)
        ∙ ap (λ (x : List ℕ). r0 ++ (replies_of steps ++ x)) (sym (append-nil (ended step.reply)))
        ∙ ap (λ (x : List ℕ). r0 ++ x) (sym (replies-append steps (step ∷ []))),
    k ∙ ap (λ (x : List (List ℕ)). x ++ step.changes) f ∙ append_assoc c0 (changes_of steps) step.changes
        ∙ ap (λ (x : List (List ℕ)). c0 ++ (changes_of steps ++ x)) (sym (append-nil step.changes))
        ∙ ap (λ (x : List (List ℕ)). c0 ++ x) (sym (changes-append steps (step ∷ []))),
    omega (arith, n, length-append steps (step ∷ [])),
  )

  -- the first line and those behind it were answered
  pub whole : (old mid now : S) (buffer rest : Reading) (r0 r1 r2 : List ℕ) (c0 c1 c2 : List (List ℕ)) (count : ℕ) (step : Step)
      → r0 ≡ [] → c0 ≡ [] → AnswersLine answers old step mid → r1 ≡ r0 ++ ended step.reply → c1 ≡ c0 ++ step.changes
      → Ahead mid now buffer rest r1 r2 c1 c2 count → AnswersTurn answers old now step.line buffer rest r2 c2 (count + 1)
  whole old mid now buffer rest r0 r1 r2 c0 c1 c2 count step e0 f0 a e1 f1 (steps, t, r, e, f, n) = record {
    steps = step ∷ steps;
    more = lines_asked steps;
    takes = t;
    asked = refl;
    run = (mid, a, r);
    told = e ∙ ap (λ (x : List ℕ). x ++ replies_of steps) (e1 ∙ ap (λ (x : List ℕ). x ++ ended step.reply) e0);
    made = f ∙ ap (λ (x : List (List ℕ)). x ++ changes_of steps) (f1 ∙ ap (λ (x : List (List ℕ)). x ++ step.changes) f0);
    counted = omega (arith, n);
  }

module _ {S D : Type 0} (answers : S → List ℕ → List ℕ → List (List ℕ) → S → Type 0) (seen : D → List ℕ) (may_leave : D → List ℕ → Type 0) (moment : D → ℕ)
    (left_since : D → ℕ → List ℕ → Type 0) (faults : D → ℕ) where
  abbrev stops_by : Stop DiskFault → Kept S D → Kept S D → List Step → S → List ℕ → ℕ → Type 0
  stops_by = StopsBy answers seen may_leave moment left_since faults

  abbrev halts : Stop DiskFault → Kept S D → List (List ℕ) → List ℕ → ℕ → Kept S D → Type 0
  halts = Halts answers seen may_leave moment left_since faults

  -- no line was answered, or what was does not count
  pub nothing_kept : ((file : D) (c : List ℕ) → left_since file (moment file) c → may_leave file c) → (old new : Kept S D) (asked : List (List ℕ))
      → new.log ≡ old.log → IsSettled seen may_leave old.log → halts NoMemory old asked [] 0 new
  nothing_kept only_now old new asked same settled =
      let before = recovered (seen old.log.device) in
      let as_before : (c : List ℕ) → recovered c ≡ before → HasFrom before [] 0 c = λ c h. (0, omega arith, omega arith, h ∙ sym (append-nil before)) in
      record {
        steps = [];
        last = old.state;
        front = (asked, refl);
        takes = record {
          run = refl;
          moments = unmoved moment left_since seen may_leave only_now old.log new.log (HasFrom before [] 0) same settled as_before;
          later = omega (arith, ap (λ (l : LineLog D). faults l.device) same);
        };
        few = omega arith;
        at_least = λ c left. as_before c (ap recovered (settled.durable c (subst (λ (l : LineLog D). may_leave l.device c) same left)));
        stops = refl;
      }

  -- the lines of a turn were answered, and all their changes are in the file or none
  module _ (old mid new : Kept S D) (first : List ℕ) (buffer rest : Reading) (replies : List ℕ) (changes : List (List ℕ)) (count : ℕ)
      (same : mid.log ≡ old.log) (w : AnswersTurn answers old.state mid.state first buffer rest replies changes count)
      (moments : LeavesOnly moment left_since mid.log.device new.log.device (IsBeforeOrAfter (recovered (seen mid.log.device)) changes))
      (later : faults mid.log.device ≤ faults new.log.device) where
    lines_behind : (ls : List (List ℕ)) → ls ≡ recovered (seen mid.log.device) ++ changes → ls ≡ recovered (seen old.log.device) ++ changes_of w.steps
    lines_behind ls e = e ∙ ap (λ (l : LineLog D). recovered (seen l.device) ++ changes) same
        ∙ ap (λ (cs : List (List ℕ)). recovered (seen old.log.device) ++ cs) w.made

    all_or_none : (file : List ℕ) → IsBeforeOrAfter (recovered (seen mid.log.device)) changes file → HasFrom (recovered (seen old.log.device)) w.steps 0 file
    all_or_none file h =
        let before = recovered (seen old.log.device) in
        ⊎_elim
        (λ b. (0, omega arith, omega arith, b ∙ ap (λ (l : LineLog D). recovered (seen l.device)) same ∙ sym (append-nil before)))
        (λ a. let all = has_all before w.steps file (lines_behind (recovered file) a) in (all.0, omega arith, all.2, all.3))
        h.lines

    taken : Takes answers seen may_leave moment left_since faults old new w.steps mid.state
    taken = record {
      run = w.run;
      moments = implied moment left_since old.log.device new.log.device (IsBeforeOrAfter (recovered (seen mid.log.device)) changes)
          (HasFrom (recovered (seen old.log.device)) w.steps 0) all_or_none
          (subst (λ (l : LineLog D). LeavesOnly moment left_since l.device new.log.device (IsBeforeOrAfter (recovered (seen mid.log.device)) changes)) same moments);
      later = omega (arith, later, ap (λ (l : LineLog D). faults l.device) same);
    }

    -- of no reply anything was given out
    pub turn_lost : ((file : D) (m : ℕ) (c : List ℕ) → m ≤ moment file → may_leave file c → left_since file m c) → (stop : Stop DiskFault)
        → stops_by stop old new w.steps mid.state [] 0 → halts stop old (first ∷ w.more) [] 0 new
    turn_lost counts_now stop k = record {
      steps = w.steps;
      last = mid.state;
      front = ([], sym w.asked ∙ sym (append-nil (lines_asked w.steps)));
      takes = taken;
      few = omega arith;
      at_least = λ c left. all_or_none c (moments.each c (counts_now new.log.device (moment mid.log.device) c moments.later left));
      stops = k;
    }

    -- the changes are on the disk
    module _ (settled : IsSettled seen may_leave new.log) (lines : recovered (seen new.log.device) ≡ recovered (seen mid.log.device) ++ changes)
        (state : new.state ≡ mid.state) where
      committed : IsCommitted answers seen may_leave moment left_since faults old new w.steps mid.state count
      committed = record { state = state; settled = settled; lines = lines_behind (recovered (seen new.log.device)) lines; counted = w.counted }

      pub turn_goes : (text : List ℕ) → text ≡ replies → Goes answers seen may_leave moment left_since faults old (first ∷ w.more) text count new
      turn_goes text e = record {
        steps = w.steps;
        all = sym w.asked;
        takes = subst (λ s. Takes answers seen may_leave moment left_since faults old new w.steps s) (sym state) taken;
        kept = subst (λ s. IsCommitted answers seen may_leave moment left_since faults old new w.steps s count) (sym state) committed;
        given = e ∙ w.told;
      }

      -- and of the replies a front was given out
      pub turn_unsent : (text given : List ℕ) → given ≡ replies → IsFront text given → halts WriteFault old (first ∷ w.more) text count new
      turn_unsent text given e f = record {
        steps = w.steps;
        last = mid.state;
        front = ([], sym w.asked ∙ sym (append-nil (lines_asked w.steps)));
        takes = taken;
        few = omega (arith, w.counted);
        at_least = λ c left. subst (λ (n : ℕ). HasFrom (recovered (seen old.log.device)) w.steps n c) (sym w.counted)
            (has_all (recovered (seen old.log.device)) w.steps c
            (lines_behind (recovered c) (ap recovered (settled.durable c left) ∙ lines)));
        stops = (committed, (f.0, sym w.told ∙ sym e ∙ f.1));
      }

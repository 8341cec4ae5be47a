-- A session while it runs.
use Rattle.std.proofs.Common.{◌≡◌, ◌⊎◌, inl, inr, ◌<◌, ◌≤◌, ◌+◌, ◌-◌, ◌*◌, ℕ, List, [], ◌∷◌, ◌++◌, length, true≢false, false, Option, None, flat_map}
use Rattle.std.proofs.Common.{refl, sym, ap, ◌∙◌, subst, append_assoc, append-nil, length-append, arith}
use Rattle.std.specs.Io.KnownBytes.{Appends, Consumes}
use Rattle.std.proofs.KnownBytes.{Appends-nil, Consumes-nil}
use Rattle.wb_lines.specs.Causes.{CountsReads}
use Rattle.wb_lines.specs.Lines.{IsUnbroken, lines, whole_lines, finished_lines, ended}
use Rattle.wb_lines.specs.Reading.{Reading, Takes, TakesLine, KnowsEnd, unread, block_size, read_limit}
use Rattle.wb_lines.specs.Serving.{AreTurns}
use Rattle.wb_lines.specs.Turns.{TakesLines}
use Rattle.wb_lines.specs.declared.machine.Stop.{Stop}
use Rattle.wb_lines.specs.declared.machine.Stop.TheVariants.{WriteFault, NoMemory}
use Rattle.wb_lines.proofs.Counting.{counts_none}
use Rattle.wb_lines.proofs.Standing.{Standing, IsOpen, IsClosed, standing_line, standing_end, standing_fault, standing_some, standing_broken, less_left, few}
use Rattle.wb_lines.proofs.Taking.{flat_append, unbroken_append}

-- nothing lies ahead, so no line was taken
none_taken : (old new : Reading) (more : List (List ℕ)) → old.ahead ≡ [] → TakesLines old new more → (more ≡ []) × (new.ahead ≡ [])
none_taken old new [] none t = (refl, sym t.bytes ∙ none)
none_taken old new (l ∷ ls) none t = absurd (omega (
  arith,
  ap length (sym none ∙ t.bytes),
  length-append (flat_map ended (l ∷ ls)) new.ahead,
  length-append
      (ended l) (flat_map ended ls),
  length-append l (10 ∷ []),
))

lines_by : (read : List ℕ) (answered more : List (List ℕ)) (old new : Reading) → IsOpen read answered old ⊎ IsClosed read answered old → TakesLines old new more
    → IsOpen read (answered ++ more) new ⊎ IsClosed read (answered ++ more) new
lines_by read answered more old new (inl o) t = inl (record {
  unbroken = unbroken_append answered more o.unbroken t.unbroken;
  bytes = o.bytes ∙ ap (λ x. flat_map ended answered ++ x) t.bytes ∙ sym (append_assoc (flat_map ended answered) (flat_map ended more) new.ahead) ∙ ap
      (λ x. x ++ new.ahead) (sym (flat_append answered more));
})
lines_by read answered more old new (inr s) t =
    let none = none_taken old new more s.ahead t in
    inr (record {
      earlier = s.earlier;
      last = s.last;
      all = ap (λ x. answered ++ x) none.0 ∙ append-nil answered ∙ s.all;
      unbroken = s.unbroken;
      last_unbroken = s.last_unbroken;
      filled = s.filled;
      bytes = s.bytes;
      at_end = t.same.at_end ∙ s.at_end;
      ahead = none.1;
    })

standing_lines : (read : List ℕ) (answered more : List (List ℕ)) (old new : Reading) → Standing read answered old → TakesLines old new more → Standing
    read (answered ++ more) new
standing_lines read answered more old new s t = record {
  split = lines_by read answered more old new s.split t;
  size = omega (arith, s.size, t.same.reads);
  reads = omega (arith, s.reads, t.same.reads);
}

pub record Running {S : Type 0} (goes : S → List (List ℕ) → List ℕ → ℕ → S → Type 0) (m n : S) (read text : List ℕ) (count : ℕ) (now : Reading) : Type 0 where
  pub answered : List (List ℕ)
  pub standing : Standing read answered now
  pub went : goes m answered text count n
  pub fault : now.fault ≡ None

module _ {S E : Type 0} (rests : S → Type 0) (goes : S → List (List ℕ) → List ℕ → ℕ → S → Type 0)
    (halts : Stop E → S → List (List ℕ) → List ℕ → ℕ → S → Type 0) (turns : AreTurns rests goes halts) where
  running_none : (m : S) → rests m → Running goes m m [] [] 0 unread
  running_none m at_rest = record {
    answered = [];
    standing = record { split = inl (record { unbroken = tt; bytes = refl }); size = omega arith; reads = omega arith };
    went = turns.none m at_rest;
    fault = refl;
  }

  -- before the first line
  pub session_begins : (m : S) (now : Reading) (left sent : Option (List ℕ)) (reads : ℕ) → rests m → now ≡ unread
      → ((read text : List ℕ) × Consumes left left read × Appends sent sent text × Running goes m m read text 0 now) × KnowsEnd now left
      × CountsReads unread now reads reads
  session_begins m now left sent reads at_rest e = subst
      (λ b. ((read text : List ℕ) × Consumes left left read × Appends sent sent text × Running goes m m read text 0 b) × KnowsEnd b left × CountsReads
      unread b reads reads)
      (sym e)
      (([], [], Consumes-nil left, Appends-nil sent, running_none m at_rest), λ x. absurd (true≢false (sym x)), counts_none unread unread reads refl)

  -- nothing more is read or answered
  module _ (m n : S) (read got text line : List ℕ) (count : ℕ) (old new : Reading) (left : Option (List ℕ)) (r : Running goes m n read text count old) where
    along : (asked : List (List ℕ)) → asked ≡ r.answered → goes m asked text count n
    along asked e = subst (λ x. goes m x text count n) (sym e) r.went

    pub running_end : Takes old new got [] → new.ahead ≡ [] → goes m (lines (read ++ got)) text count n
    running_end t none = along _ (standing_end read got r.answered old new r.standing t none)

    pub running_fault : old.at_end ≡ false → IsUnbroken line → Takes old new got line → new.ahead ≡ [] → goes m (whole_lines (read ++ got)) text count n
    running_fault f u t none = along _ (standing_fault read got line r.answered old new r.standing f u t none)

    -- the writer failed before the next line
    pub running_unsent : KnowsEnd old left → halts WriteFault m (finished_lines read left) text count n
    running_unsent k =
        let s = standing_some read r.answered old left r.standing k in
        subst (λ x. halts WriteFault m x text count n) (sym s.1) (turns.halts_before WriteFault m n r.answered s.0 text count (turns.unsent m n r.answered text count r.went))

    -- the next line breaks off for want of memory
    pub running_short : Takes old new got line → KnowsEnd new left → halts NoMemory m (finished_lines (read ++ got) left) text count n
    running_short t k =
        let s = standing_broken read got line r.answered old new left r.standing t k in
        subst (λ x. halts NoMemory m x text count n) (sym s.1) (turns.halts_before NoMemory m n r.answered s.0 text count (turns.short m n r.answered text count r.went))

  -- a turn more
  module _ (m n : S) (read got text line : List ℕ) (more : List (List ℕ)) (count : ℕ) (old mid new : Reading) (r : Running goes m n read text count old)
      (l : TakesLine old mid got line) (t : TakesLines mid new more) (k : S) (sent : List ℕ) (next : ℕ) where
    turn_standing : Standing (read ++ got) (r.answered ++ line ∷ more) new
    turn_standing = subst (λ ls. Standing (read ++ got) ls new) (append_assoc r.answered (line ∷ []) more)
        (standing_lines (read ++ got) (r.answered ++ line ∷ []) more mid new (standing_line read got line r.answered old mid r.standing l) t)

    all_went : goes n (line ∷ more) sent next k → goes m (r.answered ++ line ∷ more) (text ++ sent) (count + next) k
    all_went w = turns.more m n k r.answered (line ∷ more) text sent count next r.went w

    -- it went
    pub running_turn : mid.fault ≡ None → goes n (line ∷ more) sent next k → Running goes m k (read ++ got) (text ++ sent) (count + next) new
    running_turn f w = record {
      answered = r.answered ++ line ∷ more;
      standing = turn_standing;
      went = all_went w;
      fault = t.same.fault ∙ f;
    }

    -- what is left to read and to answer gets less
    pub turn_less : block_size * (read_limit - new.reads) + length new.ahead < block_size * (read_limit - old.reads) + length old.ahead
    turn_less = omega (
      arith,
      less_left read got line r.answered old mid r.standing l,
      t.same.reads,
      ap length t.bytes,
      length-append (flat_map ended more)
          new.ahead,
    )

    -- the counts stay small
    turn_few : next ≤ length (line ∷ more) → count + next ≤ block_size * read_limit
    turn_few h = omega (
      arith,
      h,
      turns.few m n r.answered text count r.went,
      few (read ++ got) (r.answered ++ line ∷ more) new turn_standing,
      length-append r.answered (line ∷ more),
    )

    pub turn_fits : goes n (line ∷ more) sent next k → count + next ≤ block_size * read_limit
    turn_fits w = turn_few (turns.few n k (line ∷ more) sent next w)

    pub halt_fits : (stop : Stop E) → halts stop n (line ∷ more) sent next k → count + next ≤ block_size * read_limit
    halt_fits stop h = turn_few (turns.halts_few stop n k (line ∷ more) sent next h)

    -- it halted
    pub running_halts : (stop : Stop E) (left : Option (List ℕ)) → KnowsEnd mid left → halts stop n (line ∷ more) sent next k
        → halts stop m (finished_lines (read ++ got) left) (text ++ sent) (count + next) k
    running_halts stop left known h =
        let s = standing_some (read ++ got) (r.answered ++ line ∷ more) new left turn_standing (λ e. known (sym t.same.at_end ∙ e)) in
        subst (λ x. halts stop m x (text ++ sent) (count + next) k) (sym (s.1 ∙ append_assoc r.answered (line ∷ more) s.0))
        (turns.then_halts stop m n k r.answered ((line ∷ more) ++ s.0) text sent count next r.went
        (turns.halts_before stop n k (line ∷ more) s.0 sent next h))

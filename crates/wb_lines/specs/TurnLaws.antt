-- That lines which are answered go on from turn to turn.
use Rattle.std.proofs.Common.{◌≡◌, ◌+◌, ◌≤◌, ℕ, List, [], ◌∷◌, ◌++◌, length, refl, sym, ap, ◌∙◌, subst, append_assoc, append-nil, length-append, arith}
use Rattle.wb_lines.specs.Lines.{ended}
use Rattle.wb_lines.specs.Replies.{Replies}
use Rattle.wb_lines.specs.Serving.{AreTurns}
use Rattle.wb_lines.specs.Session.{AnswersLine, AnswersAll}
use Rattle.wb_lines.specs.Turns.{LeavesUntold, AnswersTold}
use Rattle.wb_lines.specs.declared.machine.Stop.{Stop}

Replies-append : {M : Type 0} (answers : M → List ℕ → List ℕ → M → Type 0) (m n k : M) (ls more : List (List ℕ)) (text sent : List ℕ)
    → Replies answers m ls text n → Replies answers n more sent k → Replies answers m (ls ++ more) (text ++ sent) k
Replies-append answers m n k [] more text sent r s = subst (λ x. Replies answers x more (text ++ sent) k) r.1
    (subst (λ x. Replies answers n more (x ++ sent) k) (sym r.0) s)
Replies-append answers m n k (l ∷ ls) more text sent r s =
    (r.0, r.1 ++ sent, r.2, r.3, Replies-append answers r.2 n k ls more r.1 sent r.4 s, ap (λ x. x ++ sent) r.5 ∙ append_assoc (ended r.0) r.1 sent)

-- lines and then more lines were answered
pub all_append : {M : Type 0} (answers : M → List ℕ → List ℕ → M → Type 0) (m n k : M) (ls more : List (List ℕ)) (text sent : List ℕ) (count next : ℕ)
    → AnswersAll answers m ls text count n → AnswersAll answers n more sent next k → AnswersAll answers m (ls ++ more) (text ++ sent) (count + next) k
all_append answers m n k ls more text sent count next r s =
    (Replies-append (AnswersLine answers) m n k ls more text sent r.0 s.0, omega (arith, r.1, s.1, length-append ls more))

module _ {M : Type 0} (limit : ℕ) (answers : M → List ℕ → List ℕ → M → Type 0) where
  -- what was answered before it, and told
  pub told_behind : (m n k : M) (asked first rest : List (List ℕ)) (text sent : List ℕ) (count next : ℕ) → asked ≡ first ++ rest
      → AnswersAll answers m first text count n → AnswersTold limit answers n rest sent next k
      → AnswersTold limit answers m asked (text ++ sent) (count + next) k
  told_behind m n k asked first rest text sent count next e a (answered, untold, beyond, whole, part, between, split, b, cut, short, last) = (
    first ++ answered,
    untold,
    beyond,
    text ++ whole,
    part,
    between,
    e ∙ ap (λ x. first ++ x) split ∙ sym (append_assoc first answered (untold ++ beyond)),
    all_append answers m n between first answered text whole count next a b,
    ap (λ x. text ++ x) cut ∙ sym (append_assoc text whole part),
    short,
    last,
  )

  -- and lines that were not come to
  told_more : (m n : M) (asked behind : List (List ℕ)) (text : List ℕ) (count : ℕ) → AnswersTold limit answers m asked text count n
      → AnswersTold limit answers m (asked ++ behind) text count n
  told_more m n asked behind text count (answered, untold, beyond, whole, part, between, split, b, cut, short, last) = (
    answered,
    untold,
    beyond ++ behind,
    whole,
    part,
    between,
    ap (λ x. x ++ behind) split ∙ append_assoc answered (untold ++ beyond) behind ∙ ap (λ x. answered ++ x) (append_assoc untold beyond behind),
    b,
    cut,
    short,
    last,
  )

  -- all were told
  told_all : (m n : M) (asked : List (List ℕ)) (text : List ℕ) (count : ℕ) → AnswersAll answers m asked text count n → AnswersTold limit answers m asked text count n
  told_all m n asked text count a = (asked, [], [], text, [], n, sym (append-nil asked), a, sym (append-nil text), omega arith, (refl, refl))

  told_few : (m n : M) (asked : List (List ℕ)) (text : List ℕ) (count : ℕ) → AnswersTold limit answers m asked text count n → count ≤ length asked
  told_few m n asked text count (answered, untold, beyond, whole, part, between, split, b, cut, short, last) =
      omega (arith, b.1, ap length split, length-append answered (untold ++ beyond))

  pub told_turns : {E : Type 0} → AreTurns {S = M} {E = E} (λ m. Unit {0}) (AnswersAll answers) (λ stop. AnswersTold limit answers)
  told_turns = record {
    none = λ m rests. ((refl, refl), refl);
    more = λ m n k ls more text sent count next a b. all_append answers m n k ls more text sent count next a b;
    then_halts = λ stop m n k ls more text sent count next a b. told_behind m n k (ls ++ more) ls more text sent count next refl a b;
    halts_before = λ stop m n ls behind text count a. told_more m n ls behind text count a;
    unsent = λ m n ls text count a. told_all m n ls text count a;
    short = λ m n ls text count a. told_all m n ls text count a;
    few = λ m n ls text count a. omega (arith, a.1);
    halts_few = λ stop m n ls text count a. told_few m n ls text count a;
  }

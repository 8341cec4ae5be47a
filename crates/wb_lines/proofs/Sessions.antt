-- A session of turns that have one line each.
use Rattle.std.proofs.Common.{◌≡◌, ◌⊎◌, ◌<◌, ℕ, List, [], ◌∷◌, ◌++◌, length, take, Option, inl, inr, refl, sym, ◌∙◌, subst, append-nil, length-append, arith}
use Rattle.std.specs.Io.KnownBytes.{Appends}
use Rattle.wb_lines.specs.Lines.{ended}
use Rattle.wb_lines.specs.Serving.{EndsBy}
use Rattle.wb_lines.specs.Session.{AnswersLine, AnswersAll, AnswersSome, Serves}
use Rattle.wb_lines.specs.Turns.{AnswersTold}
use Rattle.wb_lines.specs.declared.machine.SessionEnd.{SessionEnd}
use Rattle.wb_lines.specs.declared.machine.SessionEnd.TheVariants.{Done, ReadFault, TooManyReads, WriteFault, NoMemory}

module _ {M : Type 0} (answers : M → List ℕ → List ℕ → M → Type 0) where
  -- the line was answered, and its reply sent
  pub line_told : (m n : M) (line : List ℕ) (before after : Option (List ℕ))
      → (reply : List ℕ) × AnswersLine answers m line reply n × Appends before after (ended reply)
      → (text : List ℕ) × Appends before after text × AnswersAll answers m (line ∷ []) text 1 n
  line_told m n line before after (reply, a, w) = (ended reply, w, ((reply, [], n, a, (refl, refl), sym (append-nil (ended reply))), refl))

  -- or its reply was not sent whole
  pub line_untold : (m n : M) (line : List ℕ) (before after : Option (List ℕ))
      → ((n ≡ m) × Appends before after []) ⊎ ((reply : List ℕ) × AnswersLine answers m line reply n
      × ((k : ℕ) × (k < length (ended reply)) × Appends before after (take k (ended reply))))
      → (text : List ℕ) × Appends before after text × AnswersTold 1 answers m (line ∷ []) text 0 n
  line_untold m n line before after (inl (same, w)) =
      ([], w, ([], [], line ∷ [], [], [], m, refl, ((refl, refl), refl), refl, omega arith, (refl, same)))
  line_untold m n line before after (inr (reply, a, (k, h, w))) = (
    take k (ended reply),
    w,
    (
      [],
      line ∷ [],
      [],
      [],
      take k (ended reply),
      m,
      refl,
      ((refl, refl), refl),
      refl,
      omega arith,
      (reply, [], n, a, (refl, refl), (k, h, refl)),
    ),
  )

  some_told : (m n : M) (asked : List (List ℕ)) (text : List ℕ) (count : ℕ) → AnswersTold 1 answers m asked text count n
      → AnswersSome answers m asked text count n
  some_told m n asked text count (answered, [], rest, sent, part, between, split, all, cut, short, last) =
      (answered, rest, sent, part, between, split, all, cut, inl last)
  some_told m n asked text count (answered, line ∷ [], rest, sent, part, between, split, all, cut, short, (reply, more, after, a, r, k)) =
      (answered, line ∷ rest, sent, part, between, split, all, cut, inr (reply, subst (λ x. AnswersLine answers between line reply x) (sym r.1) a, k))
  some_told m n asked text count (answered, line ∷ next ∷ untold, rest, sent, part, between, split, all, cut, short, last) = absurd (omega (arith, short))

  -- so of a line at most the reply was not sent whole
  pub one_by_one : (end : SessionEnd) (m n : M) (read text : List ℕ) (left : Option (List ℕ))
      → EndsBy (AnswersAll answers) (AnswersTold 1 answers) (AnswersTold 1 answers) end m read left text n → Serves answers end m read left text n
  one_by_one (Done count) m n read text left s = s
  one_by_one (ReadFault count) m n read text left s = s
  one_by_one (TooManyReads count) m n read text left s = s
  one_by_one (WriteFault count) m n read text left s = some_told m n _ text count s
  one_by_one (NoMemory count) m n read text left s = some_told m n _ text count s

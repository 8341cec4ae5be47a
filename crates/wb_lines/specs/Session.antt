-- What a session does, up to its end.
use Rattle.std.specs.Prelude.{◌≡◌, ◌⊎◌, ◌<◌, ℕ, List, [], ◌∷◌, ◌++◌, length, take, nat_lt, codes, Result, Ok, Err, MatchBool, Option}
use Rattle.std.specs.Fn.{Shared}
use Rattle.std.specs.declared.vec.Vec.{Vec}
use denote.Ref.{Bor, MutBor}
use Rattle.wb_lines.specs.Lines.{ended}
use Rattle.wb_lines.specs.Reading.{line_limit}
use Rattle.wb_lines.specs.Replies.{Replies}
use Rattle.wb_lines.specs.Serving.{EndsBy}
use Rattle.wb_lines.specs.declared.machine.SessionEnd.{SessionEnd}

-- the reply to a line that is too long
abbrev pub too_long : List ℕ
too_long = codes "{\"error\":\"E91\",\"name\":\"line-too-long\"}"

-- A line that is too long is answered without the machine.
abbrev pub AnswersLine : {M : Type 0} → (M → List ℕ → List ℕ → M → Type 0) → M → List ℕ → List ℕ → M → Type 0
AnswersLine answers m line reply n = MatchBool (nat_lt line_limit (length line)) ((reply ≡ too_long) × (n ≡ m)) (answers m line reply n)

-- The machine may have stood still, or have answered with nobody told.
abbrev pub MayAnswer : {M : Type 0} → (M → List ℕ → List ℕ → M → Type 0) → M → List ℕ → M → Type 0
MayAnswer answers m line n = (n ≡ m) ⊎ ((reply : List ℕ) × answers m line reply n)

-- What answers a line gives a reply of the machine, or has no memory for it.
abbrev pub Answered : {M Z E : Type 0} → (M → List ℕ → List ℕ → M → Type 0) → M → List ℕ → Result (Vec ℕ Z) E → M → Type 0
Answered answers m line (Ok reply) n = answers m line reply.items n
Answered answers m line (Err e) n = MayAnswer answers m line n

-- so does f, called at any state and any line
abbrev pub AnswersBy : {F M Z E : Type 0} → Shared F (MutBor M × (Bor (List ℕ) × Unit {0})) (Result (Vec ℕ Z) E × (MutBor M × Unit {0})) → F
    → (M → List ℕ → List ℕ → M → Type 0) → Type 0
AnswersBy {F} {M} {Z} {E} g f answers = (m : MutBor M) (line : Bor (List ℕ)) (r : Result (Vec ℕ Z) E) (n : MutBor M)
    → g.post f (m, (line, tt)) (r, (n, tt)) → Answered answers m.now line.now r n.now

-- each of these lines was answered, and so many they are
abbrev pub AnswersAll : {M : Type 0} → (M → List ℕ → List ℕ → M → Type 0) → M → List (List ℕ) → List ℕ → ℕ → M → Type 0
AnswersAll answers m asked text count n = Replies (AnswersLine answers) m asked text n × (count ≡ length asked)

-- the next line was answered, and of the reply and its line end a front was sent, and not all
abbrev pub BreaksOff : {M : Type 0} → (M → List ℕ → List ℕ → M → Type 0) → M → List (List ℕ) → List ℕ → M → Type 0
BreaksOff answers m [] text n = ⊥
BreaksOff answers m (line ∷ more) text n = (reply : List ℕ) × AnswersLine answers m line reply n ×
    ((k : ℕ) × (k < length (ended reply)) × (text ≡ take k (ended reply)))

-- some of these lines were answered, and perhaps one more, whose reply was not sent whole
abbrev pub AnswersSome : {M : Type 0} → (M → List ℕ → List ℕ → M → Type 0) → M → List (List ℕ) → List ℕ → ℕ → M → Type 0
AnswersSome answers m asked text count n = (answered rest : List (List ℕ)) × (sent part : List ℕ) × (between : _)
    × (asked ≡ answered ++ rest) × AnswersAll answers m answered sent count between × (text ≡ sent ++ part)
    × (((part ≡ []) × (n ≡ between)) ⊎ BreaksOff answers between rest part n)

-- from the bytes that were read, with these left, to the text that was written
abbrev pub Serves : {M : Type 0} → (M → List ℕ → List ℕ → M → Type 0) → SessionEnd → M → (read : List ℕ) → (left : Option (List ℕ)) → List ℕ → M → Type 0
Serves answers end m read left text n = EndsBy (AnswersAll answers) (AnswersSome answers) (AnswersSome answers) end m read left text n

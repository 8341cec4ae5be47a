-- Lines that are taken first, answered then in turns, and told after each.
use Rattle.std.specs.Prelude.{◌≡◌, ◌<◌, ◌≤◌, ◌+◌, ℕ, List, [], ◌∷◌, ◌++◌, length, take, Bool, false, Option, None, Some, Result, IfOk}
use Rattle.std.specs.List.{flat_map}
use Rattle.std.specs.Fn.{Shared}
use Rattle.std.specs.declared.vec.Vec.{Vec}
use denote.Ref.{Bor, MutBor}
use Rattle.wb_lines.specs.Lines.{AreUnbroken, ended}
use Rattle.wb_lines.specs.Reading.{Reading, IsSameReader, line_limit}
use Rattle.wb_lines.specs.Replies.{Replies}
use Rattle.wb_lines.specs.Session.{AnswersLine, AnswersAll, too_long}
use Rattle.wb_lines.specs.Serving.{EndsBy}
use Rattle.wb_lines.specs.declared.machine.SessionEnd.{SessionEnd}

-- These lines lay ahead, each with its end, and were taken. Nothing was read.
pub record TakesLines (old new : Reading) (texts : List (List ℕ)) : Type 0 where
  pub unbroken : AreUnbroken texts
  pub bytes : old.ahead ≡ flat_map ended texts ++ new.ahead
  pub same : IsSameReader old new

-- A turn has so many lines at most.
abbrev pub turn_limit : ℕ
turn_limit = 256

-- A turn ends as soon as its lines have cost so much.
abbrev pub cost_limit : ℕ
cost_limit = 65536

-- A turn may go on: its lines have cost less than that, and are fewer than it may have.
abbrev pub HasRoom : {K : Type 0} → (K → ℕ) → (K → ℕ) → K → Type 0
HasRoom spent answered k = (spent k < cost_limit) × (answered k < turn_limit)

-- No turn has begun: no line was answered.
abbrev pub IsUnspent : {K : Type 0} → (K → ℕ) → (K → ℕ) → K → Type 0
IsUnspent spent answered k = (spent k ≡ 0) × (answered k ≡ 0)

-- One more line was answered, which cost so much.
abbrev pub IsSpent : {K : Type 0} → (K → ℕ) → (K → ℕ) → K → ℕ → K → Type 0
IsSpent spent answered h cost k = (spent k ≡ spent h + cost) × (answered k ≡ answered h + 1)

-- g, called at any line, gives what the line may be read as
abbrev pub ReadsBy : {G P : Type 0} → Shared G (Bor (List ℕ) × Unit {0}) P → G → (List ℕ → P → Type 0) → Type 0
ReadsBy {G} {P} g read reads = (line : Bor (List ℕ)) (asked : P) → g.post read (line, tt) asked → reads line.now asked

-- f, called at any state and at what a line may be read as, answers the line by a reply of that text, and tells a cost
abbrev pub AnswersReadBy : {F M K P Q : Type 0}
    → Shared F (MutBor M × (MutBor K × (P × Unit {0}))) ((Q × ℕ) × (MutBor M × (MutBor K × Unit {0}))) → F
    → (List ℕ → P → Type 0) → (Q → List ℕ) → (M → List ℕ → List ℕ → M → Type 0) → Type 0
AnswersReadBy {F} {M} {K} {P} {Q} g f reads text answers = (m n : MutBor M) (h k : MutBor K) (asked : P) (line : List ℕ)
    (given : Q × ℕ) → g.post f (m, (h, (asked, tt))) (given, (n, (k, tt))) → reads line asked
    → answers m.now line (text given.0) n.now

-- f may be called at any state and at what any line is read as, while the turn may go on
abbrev pub AnswersWithin : {F M K P Q : Type 0}
    → Shared F (MutBor M × (MutBor K × (P × Unit {0}))) ((Q × ℕ) × (MutBor M × (MutBor K × Unit {0}))) → F → (K → ℕ) → (K → ℕ) → Type 0
AnswersWithin {F} {M} {K} {P} g f spent answered = (m : MutBor M) (h : MutBor K) (asked : P) → HasRoom spent answered h.now
    → g.pre f (m, (h, (asked, tt)))

-- f counts the line as one of the turn, at the cost that it tells
abbrev pub CountsCost : {F M K P Q : Type 0}
    → Shared F (MutBor M × (MutBor K × (P × Unit {0}))) ((Q × ℕ) × (MutBor M × (MutBor K × Unit {0}))) → F → (K → ℕ) → (K → ℕ) → Type 0
CountsCost {F} {M} {K} {P} {Q} g f spent answered = (m n : MutBor M) (h k : MutBor K) (asked : P) (given : Q × ℕ)
    → g.post f (m, (h, (asked, tt))) (given, (n, (k, tt))) → IsSpent spent answered h.now given.1 k.now

-- t may be called at any reply while nothing is held
abbrev pub TellsWhileFree : {T K Q Z E : Type 0} → Shared T (Bor K × (Q × Unit {0})) (Result (Vec ℕ Z) E) → T → (K → Bool) → Type 0
TellsWhileFree {T} {K} {Q} g t held = (h : Bor K) (reply : Q) → held h.now ≡ false → g.pre t (h, (reply, tt))

-- and gives its text then, where it finds memory
abbrev pub TellsBy : {T K Q Z E : Type 0} → Shared T (Bor K × (Q × Unit {0})) (Result (Vec ℕ Z) E) → T → (Q → List ℕ) → Type 0
TellsBy {T} {K} {Q} {Z} {E} g t text = (h : Bor K) (reply : Q) (made : Result (Vec ℕ Z) E) → g.post t (h, (reply, tt)) made
    → IfOk made (λ bytes. bytes.items ≡ text reply)

-- h, called at whatever is held, leaves nothing held, and no turn begun
abbrev pub LetsGo : {H K : Type 0} → Shared H (MutBor K × Unit {0}) (Unit {0} × (MutBor K × Unit {0})) → H → (K → Bool) → (K → ℕ) → (K → ℕ) → Type 0
LetsGo {H} {K} g h held spent answered = (m n : MutBor K) → g.post h (m, tt) (tt, (n, tt)) → (held n.now ≡ false) × IsUnspent spent answered n.now

-- what a line was taken as: what it was read as, or nothing where it is too long
abbrev pub IsTaken : {P : Type 0} → (List ℕ → P → Type 0) → List ℕ → Option P → Type 0
IsTaken reads line None = line_limit < length line
IsTaken reads line (Some asked) = (length line ≤ line_limit) × reads line asked

-- so each of these lines was
abbrev pub AreTaken : {P : Type 0} → (List ℕ → P → Type 0) → List (List ℕ) → List (Option P) → Type 0
AreTaken reads [] [] = Unit {0}
AreTaken reads [] (t ∷ ts) = ⊥
AreTaken reads (l ∷ ls) [] = ⊥
AreTaken reads (l ∷ ls) (t ∷ ts) = IsTaken reads l t × AreTaken reads ls ts

-- the text of what a line got: that of the reply, or of none where the line is too long
abbrev pub reply_text : {Q : Type 0} → (Q → List ℕ) → Option Q → List ℕ
reply_text text None = too_long
reply_text text (Some reply) = text reply

-- these texts in order, each with a line end
abbrev pub all_texts : {Q : Type 0} → (Q → List ℕ) → List (Option Q) → List ℕ
all_texts text [] = []
all_texts text (reply ∷ more) = ended (reply_text text reply) ++ all_texts text more

-- The machine goes from one state to the next at each line, and these are its replies.
abbrev pub GetReplies : {M Q : Type 0} → (M → List ℕ → List ℕ → M → Type 0) → (Q → List ℕ) → M → List (List ℕ) → List (Option Q) → M → Type 0
GetReplies answers text m [] [] n = n ≡ m
GetReplies answers text m [] (reply ∷ replies) n = ⊥
GetReplies answers text m (line ∷ lines) [] n = ⊥
GetReplies answers text m (line ∷ lines) (reply ∷ replies) n = (after : _) × AnswersLine answers m line (reply_text text reply) after
    × GetReplies answers text after lines replies n

-- These lines were answered, and of their replies a front was sent, and not the whole of the first.
abbrev pub LeavesUntold : {M : Type 0} → (M → List ℕ → List ℕ → M → Type 0) → M → List (List ℕ) → List ℕ → M → Type 0
LeavesUntold answers m [] text n = (text ≡ []) × (n ≡ m)
LeavesUntold answers m (line ∷ more) text n = (reply rest : List ℕ) × (after : _) × AnswersLine answers m line reply after
    × Replies (AnswersLine answers) after more rest n × ((k : ℕ) × (k < length (ended reply)) × (text ≡ take k (ended reply)))

-- some of these lines were answered and told, and perhaps further ones, so many at most, were answered and not told
abbrev pub AnswersTold : {M : Type 0} → (limit : ℕ) → (M → List ℕ → List ℕ → M → Type 0) → M → List (List ℕ) → List ℕ → ℕ → M → Type 0
AnswersTold limit answers m asked text count n = (answered untold rest : List (List ℕ)) × (sent part : List ℕ) × (between : _)
    × (asked ≡ answered ++ (untold ++ rest)) × AnswersAll answers m answered sent count between × (text ≡ sent ++ part)
    × (length untold ≤ limit) × LeavesUntold answers between untold part n

-- from the bytes that were read, with these left, to the text that was written; no more than a turn of lines is not told
abbrev pub ServesTurns : {M : Type 0} → (M → List ℕ → List ℕ → M → Type 0) → SessionEnd → M → (read : List ℕ) → (left : Option (List ℕ)) → List ℕ → M →
    Type 0
ServesTurns answers end m read left text n =
    EndsBy (AnswersAll answers) (AnswersTold turn_limit answers) (AnswersTold turn_limit answers) end m read left text n

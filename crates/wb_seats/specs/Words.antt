-- Words: lines that are for a desk itself, and not for its workbook. No request of the protocol is one.
use Rattle.std.specs.Prelude.{◌≡◌, ◌⊎◌, ◌*◌, ℕ, List, length, min, Result, Ok, Err, Some}
use Rattle.wb_lines.specs.Turns.{cost_limit}
use Rattle.wb_edit.specs.declared.refusal.Refusal.{Refusal}
use Rattle.wb_edit.specs.declared.refusal.Refusal.TheVariants.{BadRequest, NoMemory}
use Rattle.wb_requests.specs.Requests.{request}
use Rattle.wb_machine.specs.Replies.{reply_of}
use Rattle.wb_machine.specs.declared.replies.reply.Reply.TheVariants.{Refused}
use Rattle.wb_company.specs.Texts.{answer_text}
use Rattle.wb_company.specs.Words.{word}
use Rattle.wb_company.specs.declared.company.Standing.{Standing}
use Rattle.wb_company.specs.declared.doings.Told.{Told}
use Rattle.wb_company.specs.declared.telling.Answer.{Answer}
use Rattle.wb_company.specs.declared.telling.Answer.TheVariants as answers
use Rattle.wb_company.specs.declared.words.Word.{Word}
use Rattle.wb_company.specs.declared.words.Word.TheVariants as words
use Rattle.wb_desk.specs.Courses.{Start}
use Rattle.wb_desk.specs.Serving.{Held}
use Rattle.wb_seats.specs.Early.{AnswersEarly}
use Rattle.wb_seats.specs.Serving.{IsReadAs}
use Rattle.wb_seats.specs.declared.words.Answered.{Answered}
use Rattle.wb_seats.specs.declared.words.Answered.TheVariants as told
use Rattle.wb_seats.specs.declared.words.Heard.{Heard}
use Rattle.wb_seats.specs.declared.words.Heard.TheVariants as heard

-- ---- what a line is

-- what a line may be heard as: what it may be read as, or a word for the desk, by what is one
abbrev pub IsHeardAs : {Q : Type 0} → (List ℕ → Result Q Refusal → Type 0) → (List ℕ → Word → Type 0) → List ℕ → Heard Q → Type 0
IsHeardAs reads hears line (heard.Asked asked) = reads line asked
IsHeardAs reads hears line (heard.Word w) = hears line w

-- the text of a reply, or of what a word is answered
abbrev pub heard_text : {Q : Type 0} → (Q → List ℕ) → Answered Q → List ℕ
heard_text text (told.Reply r) = text r
heard_text text (told.Word a) = answer_text a

-- ---- at a desk that stays

-- A line is this word: it is no request of the protocol, and spells the word.
abbrev pub IsWord : List ℕ → Word → Type 0
IsWord line w = (request line ≡ Err BadRequest) × (word line ≡ Some w)

-- what may be answered to a word at a seat: the number of the seat, what some seats did, how the desk stands
abbrev pub IsAnswerTo : ℕ → Word → Answer → Type 0
IsAnswerTo seat (words.Hello name) a = a ≡ answers.Seat seat
IsAnswerTo seat (words.EditsFrom from) a = (told : Told) × (a ≡ answers.Done told)
IsAnswerTo seat words.Desk a = (desk : Standing) × (a ≡ answers.Desk desk)

-- why a word may be refused: a name since one was said before, which no clause tells; another for want of memory
abbrev pub MayRefuse : Word → Refusal → Type 0
MayRefuse (words.Hello name) why = why ≡ BadRequest
MayRefuse (words.EditsFrom from) why = why ≡ NoMemory
MayRefuse words.Desk why = why ≡ NoMemory

-- one or the other
abbrev pub IsSaidTo : ℕ → Word → Result Answer Refusal → Type 0
IsSaidTo seat word (Ok a) = IsAnswerTo seat word a
IsSaidTo seat word (Err why) = MayRefuse word why

-- the text of what a word is answered, or of why it is refused
abbrev pub said_text : Result Answer Refusal → List ℕ
said_text (Ok a) = answer_text a
said_text (Err why) = reply_of (Refused why)

-- A line that is a word is answered so, and nothing is done to the pass.
pub record AnswersWord (h : Held) (line text : List ℕ) (k : Held) : Type 0 where
  pub word : Word
  pub is_word : IsWord line word
  pub said : Result Answer Refusal
  pub is_said : IsSaidTo h.seat word said
  pub is_text : text ≡ said_text said
  pub same : k ≡ h

-- What a line gets at a desk of so many seats that stays: what it gets where seats are settled early, which is all that a request of the
-- protocol may get; or, where it is a word, what that is answered.
abbrev pub AnswersStaying : ℕ → Start → Held → List ℕ → List ℕ → Held → Type 0
AnswersStaying seats opening h line text k = AnswersEarly seats opening h line text k ⊎ AnswersWord h line text k

-- ---- what it costs

-- sixty-four for each thing that was done
abbrev pub word_cost : Answer → ℕ
word_cost (answers.Seat seat) = 0
word_cost (answers.Done told) = min cost_limit (64 * length told.doings.items)
word_cost (answers.Desk desk) = 0

-- of a line, where a line that is read costs so
abbrev pub heard_cost : {Q X : Type 0} → (Result Q Refusal → X → ℕ) → Heard Q → Answered X → ℕ
heard_cost cost (heard.Asked asked) (told.Reply r) = cost asked r
heard_cost cost (heard.Asked asked) (told.Word a) = word_cost a
heard_cost cost (heard.Word w) (told.Reply r) = 0
heard_cost cost (heard.Word w) (told.Word a) = word_cost a

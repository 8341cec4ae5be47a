-- Lines that were taken, while they are answered in turns.
use Rattle.std.proofs.Common.{◌≡◌, ◌<◌, ◌+◌, ◌≤◌, ℕ, suc, List, [], ◌∷◌, ◌++◌, take, length, Option, Some, Result, Ok, Err, IfOk, IfErr}
use Rattle.std.proofs.Common.{MatchBool, Bool, true, ◌==◌, ne_eqb, refl, sym, ap, ◌∙◌, subst, append_assoc, append-nil, length-append}
use Rattle.std.proofs.Common.{arith}
use Rattle.std.specs.Io.KnownBytes.{Appends}
use Rattle.std.proofs.KnownBytes.{Appends-trans}
use Rattle.std.proofs.lemmas.Bool.{le-ltb, true≢false}
use Rattle.wb_lines.specs.Lines.{ended}
use Rattle.wb_lines.specs.Replies.{Replies}
use Rattle.wb_lines.specs.Session.{AnswersLine, AnswersAll, too_long}
use Rattle.wb_lines.specs.Reading.{Reading, IsText, line_limit}
use Rattle.wb_lines.specs.TurnLaws.{all_append, told_behind}
use Rattle.wb_lines.specs.Turns.{TakesLines, IsTaken, AreTaken, reply_text, all_texts, GetReplies, LeavesUntold, AnswersTold, turn_limit}
use Rattle.wb_lines.specs.declared.buffer.Line.{Line}

-- Of the lines asked a front was answered, and the rest is what is left.
pub record Answering {M P : Type 0} (answers : M → List ℕ → List ℕ → M → Type 0) (reads : List ℕ → P → Type 0) (m n : M) (before after : Option (List ℕ))
    (asked : List (List ℕ)) (left : List (Option P)) (count : ℕ) : Type 0 where
  pub answered : List (List ℕ)
  pub rest : List (List ℕ)
  pub text : List ℕ
  pub all : asked ≡ answered ++ rest
  pub taken : AreTaken reads rest left
  pub replies : AnswersAll answers m answered text count n
  pub written : Appends before after text

whole_line : {M : Type 0} (answers : M → List ℕ → List ℕ → M → Type 0) (m n : M) (line reply : List ℕ) → length line ≤ line_limit → answers m line reply n →
    AnswersLine answers m line reply n
whole_line answers m n line reply h x = subst (λ b. MatchBool b ((reply ≡ too_long) × (n ≡ m)) (answers m line reply n))
    (sym (le-ltb line_limit (length line) h)) x

-- Of the lines asked, these were answered by these replies, and the rest is what is left.
pub record Asked {M P Q : Type 0} (answers : M → List ℕ → List ℕ → M → Type 0) (reads : List ℕ → P → Type 0) (text : Q → List ℕ) (m n : M)
    (asked : List (List ℕ)) (left : List (Option P)) (replies : List (Option Q)) : Type 0 where
  pub done : List (List ℕ)
  pub rest : List (List ℕ)
  pub all : asked ≡ done ++ rest
  pub taken : AreTaken reads rest left
  pub got : GetReplies answers text m done replies n

pub taken_length : {P : Type 0} (reads : List ℕ → P → Type 0) (asked : List (List ℕ)) (held : List (Option P)) → AreTaken reads asked held
    → length asked ≡ length held
taken_length reads [] [] a = refl
taken_length reads [] (t ∷ ts) a = absurd a
taken_length reads (l ∷ ls) [] a = absurd a
taken_length reads (l ∷ ls) (t ∷ ts) a = ap suc (taken_length reads ls ts a.1)

pub none_left : {X : Type 0} (xs : List X) (b : Bool) → b ≡ (length xs == 0) → b ≡ true → xs ≡ []
none_left [] b e t = refl
none_left (x ∷ xs) b e t = absurd (true≢false (sym t ∙ e ∙ ne_eqb (length (x ∷ xs)) 0 (λ h. omega (arith, h))))

pub texts_push : {Q : Type 0} (text : Q → List ℕ) (rs : List (Option Q)) (r : Option Q) → all_texts text (rs ++ r ∷ []) ≡ all_texts text rs ++ ended
    (reply_text text r)
texts_push text [] r = append-nil (ended (reply_text text r))
texts_push text (q ∷ rs) r = ap (λ x. ended (reply_text text q) ++ x) (texts_push text rs r) ∙ sym
    (append_assoc (ended (reply_text text q)) (all_texts text rs) (ended (reply_text text r)))

module _ {M : Type 0} (answers : M → List ℕ → List ℕ → M → Type 0) where
  pub told_none : (m : M) (asked : List (List ℕ)) → AnswersTold turn_limit answers m asked [] 0 m
  told_none m asked = ([], [], asked, [], [], m, refl, ((refl, refl), refl), refl, omega arith, (refl, refl))

  untold_all : (m n : M) (done : List (List ℕ)) (texts : List ℕ) → Replies (AnswersLine answers) m done texts n → LeavesUntold answers m done [] n
  untold_all m n [] texts r = (refl, r.1)
  untold_all m n (l ∷ done) texts (reply, rest, after, a, r, e) =
      (reply, rest, after, a, r, (0, omega (arith, length-append reply (10 ∷ [])), refl))

  -- lines were answered, and none was told
  pub told_nothing : (m n : M) (asked done rest : List (List ℕ)) (texts : List ℕ) → asked ≡ done ++ rest → length asked ≤ 256
      → Replies (AnswersLine answers) m done texts n → AnswersTold turn_limit answers m asked [] 0 n
  told_nothing m n asked done rest texts e short r = (
    [],
    done,
    rest,
    [],
    [],
    m,
    e,
    ((refl, refl), refl),
    refl,
    omega (arith, short, ap length e, length-append done rest),
    untold_all m n done texts r,
  )

module _ {M Q : Type 0} (answers : M → List ℕ → List ℕ → M → Type 0) (text : Q → List ℕ) where
  got_push : (m n k : M) (ls : List (List ℕ)) (rs : List (Option Q)) (l : List ℕ) (r : Option Q) → GetReplies answers text m ls rs n
      → AnswersLine answers n l (reply_text text r) k → GetReplies answers text m (ls ++ l ∷ []) (rs ++ r ∷ []) k
  got_push m n k [] [] l r g a = (k, subst (λ x. AnswersLine answers x l (reply_text text r) k) g a, refl)
  got_push m n k [] (q ∷ rs) l r g a = absurd g
  got_push m n k (j ∷ ls) [] l r g a = absurd g
  got_push m n k (j ∷ ls) (q ∷ rs) l r g a = (g.0, g.1, got_push g.0 n k ls rs l r g.2 a)

  got_all : (m n : M) (ls : List (List ℕ)) (rs : List (Option Q)) → GetReplies answers text m ls rs n
      → Replies (AnswersLine answers) m ls (all_texts text rs) n
  got_all m n [] [] g = (refl, g)
  got_all m n [] (q ∷ rs) g = absurd g
  got_all m n (j ∷ ls) [] g = absurd g
  got_all m n (j ∷ ls) (q ∷ rs) g = (reply_text text q, all_texts text rs, g.0, g.1, got_all g.0 n ls rs g.2, refl)

  got_length : (m n : M) (ls : List (List ℕ)) (rs : List (Option Q)) → GetReplies answers text m ls rs n → length ls ≡ length rs
  got_length m n [] [] g = refl
  got_length m n [] (q ∷ rs) g = absurd g
  got_length m n (j ∷ ls) [] g = absurd g
  got_length m n (j ∷ ls) (q ∷ rs) g = ap suc (got_length g.0 n ls rs g.2)

  got_split : (m n : M) (ls : List (List ℕ)) (a b : List (Option Q)) → GetReplies answers text m ls (a ++ b) n → (front back : List (List ℕ)) × (mid : M)
      × (ls ≡ front ++ back) × GetReplies answers text m front a mid × GetReplies answers text mid back b n
  got_split m n ls [] b g = ([], ls, m, refl, refl, g)
  got_split m n [] (r ∷ a) b g = absurd g
  got_split m n (l ∷ ls) (r ∷ a) b g =
      let more = got_split g.0 n ls a b g.2 in
      (l ∷ more.0, more.1, more.2, ap (λ x. l ∷ x) more.3, (g.0, g.1, more.4), more.5)

  untold_first : (mid n : M) (back : List (List ℕ)) (first : Option Q) (left : List (Option Q)) (k : ℕ) → k < length (ended (reply_text text first))
      → GetReplies answers text mid back (first ∷ left) n → LeavesUntold answers mid back (take k (ended (reply_text text first))) n
  untold_first mid n [] first left k h g = absurd g
  untold_first mid n (l ∷ back) first left k h g =
      (reply_text text first, all_texts text left, g.0, g.1, got_all g.0 n back left g.2, (k, h, refl))

  -- of the replies to these lines a front was sent, and the next in part
  pub told_part : (m n : M) (asked done rest : List (List ℕ)) (replies sent left : List (Option Q)) (first : Option Q) (k : ℕ) → asked ≡ done ++ rest
      → length asked ≤ 256 → GetReplies answers text m done replies n → replies ≡ sent ++ first ∷ left → k < length (ended (reply_text text first))
      → AnswersTold turn_limit answers m asked (all_texts text sent ++ take k (ended (reply_text text first))) (length sent) n
  told_part m n asked done rest replies sent left first k e short g split h =
      let parts = got_split m n done sent (first ∷ left) (subst (λ rs. GetReplies answers text m done rs n) split g) in
      let all : asked ≡ parts.0 ++ (parts.1 ++ rest) = e ∙ ap (λ x. x ++ rest) parts.3 ∙ append_assoc parts.0 parts.1 rest in (
        parts.0,
        parts.1,
        rest,
        all_texts text sent,
        take k (ended (reply_text text first)),
        parts.2,
        all,
        (got_all m parts.2 parts.0 sent parts.4, sym (got_length m parts.2 parts.0 sent parts.4)),
        refl,
        omega (arith, short, ap length all, length-append parts.0 (parts.1 ++ rest), length-append parts.1 rest),
        untold_first parts.2 n parts.1 first left k h parts.5,
      )

  -- all were
  pub told_whole : (m n : M) (done : List (List ℕ)) (replies : List (Option Q)) (count : ℕ) → GetReplies answers text m done replies n
      → count ≡ length replies → AnswersAll answers m done (all_texts text replies) count n
  told_whole m n done replies count g e = (got_all m n done replies g, e ∙ sym (got_length m n done replies g))

  module _ {P : Type 0} (reads : List ℕ → P → Type 0) where
    -- what a line was read as is answered
    pub reply_is : (m n : M) (asked : P) (t : Option P) (reply : Q) → t ≡ Some asked → ((line : List ℕ) → reads line asked → answers m line (text reply) n)
        → (line : List ℕ) → IsTaken reads line t → AnswersLine answers m line (text reply) n
    reply_is m n asked t reply e h line i =
        let j = subst (λ x. IsTaken reads line x) e i in
        whole_line answers m n line (text reply) j.0 (h line j.1)

    line_by : (m n k : M) (asked done rest : List (List ℕ)) (t : Option P) (left : List (Option P)) (replies : List (Option Q)) (r : Option Q)
        → asked ≡ done ++ rest → AreTaken reads rest (t ∷ left) → GetReplies answers text m done replies n
        → ((line : List ℕ) → IsTaken reads line t → AnswersLine answers n line (reply_text text r) k)
        → Asked answers reads text m k asked left (replies ++ r ∷ [])
    line_by m n k asked done [] t left replies r e a g h = absurd a
    line_by m n k asked done (l ∷ rest) t left replies r e a g h = record {
      done = done ++ l ∷ [];
      rest = rest;
      all = e ∙ sym (append_assoc done (l ∷ []) rest);
      taken = a.1;
      got = got_push m n k done replies l r g (h l a.0);
    }

    pub asked_line : (m n k : M) (asked : List (List ℕ)) (t : Option P) (held left : List (Option P)) (replies : List (Option Q)) (r : Option Q)
        → held ≡ t ∷ left → Asked answers reads text m n asked held replies
        → ((line : List ℕ) → IsTaken reads line t → AnswersLine answers n line (reply_text text r) k)
        → Asked answers reads text m k asked left (replies ++ r ∷ [])
    asked_line m n k asked t held left replies r e a h =
        line_by m n k asked a.done a.rest t left replies r a.all (subst (λ ts. AreTaken reads a.rest ts) e a.taken) a.got h

    -- a reply was made, and lost
    pub asked_lost : (m n : M) (asked : List (List ℕ)) (left : List (Option P)) (replies : List (Option Q)) → Asked answers reads text m n asked left replies
        → (done rest : List (List ℕ)) × (asked ≡ done ++ rest) × ((texts : List ℕ) × Replies (AnswersLine answers) m done texts n)
    asked_lost m n asked left replies a = (a.done, a.rest, a.all, (all_texts text replies, got_all m n a.done replies a.got))

    -- the turn's replies were told
    pub turn_told : {X : Type 0} (r : Result ℕ X) (m n : M) (before after : Option (List ℕ)) (held left : List (Option P)) (replies : List (Option Q))
        → ((asked : List (List ℕ)) → AreTaken reads asked held → (done rest : List (List ℕ)) × (asked ≡ done ++ rest) × AreTaken reads rest left
        × GetReplies answers text m done replies n)
        → IfOk r (λ count. Appends before after (all_texts text replies) × (count ≡ length replies))
        → IfOk r (λ count. (asked : List (List ℕ)) → AreTaken reads asked held → (done rest : List (List ℕ)) × (asked ≡ done ++ rest)
        × AreTaken reads rest left × ((sent : List ℕ) × Appends before after sent × AnswersAll answers m done sent count n))
    turn_told (Ok count) m n before after held left replies h g = λ asked t.
        let a = h asked t in
        (a.0, a.1, a.2, a.3, (all_texts text replies, g.0, told_whole m n a.0 replies count a.4 g.1))
    turn_told (Err x) m n before after held left replies h g = tt

    -- or not all of them
    pub turn_halts : {X Y : Type 0} (r : Result X (ℕ × Y)) (m n : M) (before after : Option (List ℕ)) (held left : List (Option P))
        (replies : List (Option Q)) → length held ≤ 256
        → ((asked : List (List ℕ)) → AreTaken reads asked held → (done rest : List (List ℕ)) × (asked ≡ done ++ rest) × AreTaken reads rest left
        × GetReplies answers text m done replies n)
        → IfErr r (λ halt. (sent later : List (Option Q)) × (first : Option Q) × (k : ℕ) × (replies ≡ sent ++ first ∷ later) × (halt.0 ≡ length sent)
        × (k < length (ended (reply_text text first))) × Appends before after (all_texts text sent ++ take k (ended (reply_text text first))))
        → IfErr r (λ halt. (asked : List (List ℕ)) → AreTaken reads asked held → (sent : List ℕ) × Appends before after sent
        × AnswersTold turn_limit answers m asked sent halt.0 n)
    turn_halts (Ok x) m n before after held left replies short h g = tt
    turn_halts (Err halt) m n before after held left replies short h (sent, later, first, k, split, count, fits, w) = λ asked t.
        let a = h asked t in (
          all_texts text sent ++ take k (ended (reply_text text first)),
          w,
          subst (λ c. AnswersTold turn_limit answers m asked (all_texts text sent ++ take k (ended (reply_text text first))) c n) (sym count)
              (told_part m n asked a.0 a.1 replies sent later first k a.2 (omega (arith, short, taken_length reads asked held t)) a.4 split fits),
        )

    pub halts_within : {X Y : Type 0} (r : Result X (ℕ × Y)) (before after : Option (List ℕ)) (size : ℕ) (replies : List (Option Q)) → length replies ≤ size
        → IfErr r (λ halt. (sent later : List (Option Q)) × (first : Option Q) × (k : ℕ) × (replies ≡ sent ++ first ∷ later) × (halt.0 ≡ length sent)
        × (k < length (ended (reply_text text first))) × Appends before after (all_texts text sent ++ take k (ended (reply_text text first))))
        → IfErr r (λ halt. halt.0 ≤ size)
    halts_within (Ok x) before after size replies h g = tt
    halts_within (Err halt) before after size replies h (sent, later, first, k, split, count, fits, w) =
        omega (arith, h, count, ap length split, length-append sent (first ∷ later))

module _ {M P : Type 0} (answers : M → List ℕ → List ℕ → M → Type 0) (reads : List ℕ → P → Type 0) where
  -- a turn was answered and told
  pub answering_turn : (m n k : M) (before mid after : Option (List ℕ)) (asked : List (List ℕ)) (held left : List (Option P)) (count next : ℕ)
      → Answering answers reads m n before mid asked held count
      → ((now : List (List ℕ)) → AreTaken reads now held → (done rest : List (List ℕ)) × (now ≡ done ++ rest) × AreTaken reads rest left
      × ((text : List ℕ) × Appends mid after text × AnswersAll answers n done text next k))
      → Answering answers reads m k before after asked left (count + next)
  answering_turn m n k before mid after asked held left count next a h =
      let turn = h a.rest a.taken in
      record {
        answered = a.answered ++ turn.0;
        rest = turn.1;
        text = a.text ++ turn.4.0;
        all = a.all ∙ ap (λ x. a.answered ++ x) turn.2 ∙ sym (append_assoc a.answered turn.0 turn.1);
        taken = turn.3;
        replies = all_append answers m n k a.answered turn.0 a.text turn.4.0 count next a.replies turn.4.2;
        written = Appends-trans before mid after a.text turn.4.0 a.written turn.4.1;
      }

  all_by : (m n : M) (asked answered rest : List (List ℕ)) (text : List ℕ) (count : ℕ) → asked ≡ answered ++ rest → AreTaken reads rest [] → AnswersAll
      answers m answered text count n
      → AnswersAll answers m asked text count n
  all_by m n asked answered [] text count e a r = subst (λ ls. AnswersAll answers m ls text count n) (sym (e ∙ append-nil answered)) r
  all_by m n asked answered (l ∷ rest) text count e a r = absurd a

  pub answering_end : (m n : M) (before after : Option (List ℕ)) (asked : List (List ℕ)) (held : List (Option P)) (count : ℕ) → held ≡ []
      → Answering answers reads m n before after asked held count → (text : List ℕ) × Appends before after text × AnswersAll answers m asked text count n
  answering_end m n before after asked held count e a =
      (a.text, a.written, all_by m n asked a.answered a.rest a.text count a.all (subst (λ ts. AreTaken reads a.rest ts) e a.taken) a.replies)

  -- a turn was answered, and not all told
  pub answering_stops : (m n k : M) (before mid after : Option (List ℕ)) (asked : List (List ℕ)) (held : List (Option P)) (count next : ℕ)
      → Answering answers reads m n before mid asked held count
      → ((now : List (List ℕ)) → AreTaken reads now held → (text : List ℕ) × Appends mid after text × AnswersTold turn_limit answers n now text next k)
      → (text : List ℕ) × Appends before after text × AnswersTold turn_limit answers m asked text (count + next) k
  answering_stops m n k before mid after asked held count next a h =
      let turn = h a.rest a.taken in (
        a.text ++ turn.0,
        Appends-trans before mid after a.text turn.0 a.written turn.1,
        told_behind turn_limit answers m n k asked a.answered a.rest a.text turn.0 count next a.all a.replies turn.2,
      )

  -- a turn whose lines were taken, and then answered
  pub turn_ok : {E : Type 0} (m n : M) (before after : Option (List ℕ)) (line : Line) (kept : List ℕ) (old mid : Reading) (held : List (Option P))
      (r : Result ℕ E) (more : List (List ℕ)) → TakesLines old mid more → ((first : List ℕ) → IsText line kept first → AreTaken reads (first ∷ more) held)
      → IfOk r (λ count. (asked : List (List ℕ)) → AreTaken reads asked held → (text : List ℕ) × Appends before after text
      × AnswersAll answers m asked text count n)
      → IfOk r (λ count. (first : List ℕ) → IsText line kept first → (behind : List (List ℕ)) × TakesLines old mid behind
      × ((text : List ℕ) × Appends before after text × AnswersAll answers m (first ∷ behind) text count n))
  turn_ok m n before after line kept old mid held (Ok count) more t h a = λ first is. (more, t, a (first ∷ more) (h first is))
  turn_ok m n before after line kept old mid held (Err x) more t h a = tt

  pub turn_err : {X Y : Type 0} (m n : M) (before after : Option (List ℕ)) (line : Line) (kept : List ℕ) (old mid : Reading) (held : List (Option P))
      (r : Result X (ℕ × Y)) (more : List (List ℕ)) → TakesLines old mid more → ((first : List ℕ) → IsText line kept first → AreTaken reads (first ∷ more) held)
      → IfErr r (λ halt. (asked : List (List ℕ)) → AreTaken reads asked held → (text : List ℕ) × Appends before after text
      × AnswersTold turn_limit answers m asked text halt.0 n)
      → IfErr r (λ halt. (first : List ℕ) → IsText line kept first → (behind : List (List ℕ)) × TakesLines old mid behind
      × ((text : List ℕ) × Appends before after text × AnswersTold turn_limit answers m (first ∷ behind) text halt.0 n))
  turn_err m n before after line kept old mid held (Ok count) more t h a = tt
  turn_err m n before after line kept old mid held (Err x) more t h a = λ first is. (more, t, a (first ∷ more) (h first is))

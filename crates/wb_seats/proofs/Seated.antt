-- Seats whose threads were started, and what came back of them.
use Rattle.std.proofs.Common.{◌≡◌, ◌∙◌, ℕ, List, Some, get_or, slice_get, sym, subst, ap}
use Rattle.std.proofs.lemmas.Option.{get_or_from_slice_get}
use Rattle.wb_lines.specs.declared.sink.Sink as Sink
use Rattle.wb_lines.specs.declared.source.Source as Source
use Rattle.wb_desk.specs.Courses.{Start}
use Rattle.wb_desk.specs.Serving.{Held}
use Rattle.wb_seats.specs.Days.{CameBack, ServedOn}
use Rattle.wb_seats.specs.Serving.{AnswersSeat}
use Rattle.wb_connections.specs.declared.accepting.Accepts as Accepts

-- the connection of this number came, and the pass is the one at that place
pub record IsSeated {I O N : Type 0} (accepts : Accepts.Ghosts N I O) (from : N) (hs : List Held) (number : ℕ) (h : Held) (i : I) (o : O) : Type 0 where
  pub came : accepts.came from number i o
  pub pass : (d : Held) → get_or hs number d ≡ h

-- it still came after the next one
pub later : {I O N : Type 0} (accepts : Accepts.Ghosts N I O) (old new : N) (hs : List Held) (number : ℕ) (h : Held) (i : I) (o : O)
    → ((k : ℕ) (i : I) (o : O) → accepts.came old k i o → accepts.came new k i o) → IsSeated accepts old hs number h i o
    → IsSeated accepts new hs number h i o
later accepts old new hs number h i o kept w = record { came = kept number i o w.came; pass = w.pass }

-- what was promised for the connection that came last
pub seated : {I O N : Type 0} (accepts : Accepts.Ghosts N I O) (from : N) (hs : List Held) (number n : ℕ) (p h : Held) (j i : I) (q o : O)
    → n ≡ number → accepts.came from n j q → h ≡ p → i ≡ j → o ≡ q → ((d : Held) → get_or hs number d ≡ p) → IsSeated accepts from hs number h i o
seated accepts from hs number n p h j i q o at came is_pass is_reader is_writer place =
    let here = subst (λ n. accepts.came from n j q) at came in
    let read = subst (λ j. accepts.came from number j q) (sym is_reader) here in
    record { came = subst (λ q. accepts.came from number i q) (sym is_writer) read; pass = λ d. place d ∙ sym is_pass }

-- a thread that kept its promise
pub came_back : {I O N : Type 0} (source : Source.Ghosts I) (sink : Sink.Ghosts O) (accepts : Accepts.Ghosts N I O) (opening : Start) (from : N)
    (hs ks first : List Held) (number : ℕ) (h k p : Held) (i : I) (o : O) → first ≡ hs → slice_get hs number ≡ Some h → slice_get ks number ≡ Some k
    → IsSeated accepts from first number p i o → ServedOn source sink (AnswersSeat opening) p i o (get_or ks number k)
    → CameBack source sink accepts opening from number h k
came_back source sink accepts opening from hs ks first number h k p i o is_first is_h is_k seat kept =
    let same : p ≡ h = sym (seat.pass h) ∙ (ap (λ l. get_or l number h) is_first ∙ get_or_from_slice_get hs number h h is_h) in
    let there : get_or ks number k ≡ k = get_or_from_slice_get ks number k k is_k in
    record {
      reader = i;
      writer = o;
      came = seat.came;
      served = subst (λ p. ServedOn source sink (AnswersSeat opening) p i o k) same (subst (ServedOn source sink (AnswersSeat opening) p i o) there kept);
    }

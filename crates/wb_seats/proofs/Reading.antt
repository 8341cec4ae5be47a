-- What a line was read as, and what is replied to that.
use Rattle.std.proofs.Common.{◌≡◌, ◌⊎◌, inl, inr, List, ℕ, Result, Ok, Err, refl, sym, subst}
use Rattle.wb_edit.specs.declared.refusal.Refusal.{Refusal}
use Rattle.wb_requests.specs.Requests.{request}
use Rattle.wb_requests.specs.declared.requests.request.Request.{Request}
use Rattle.wb_machine.specs.declared.replies.reply.Reply.{Reply}
use Rattle.wb_machine.specs.declared.replies.reply.Reply.TheVariants.{Refused}
use Rattle.wb_desk.specs.Courses.{Start}
use Rattle.wb_desk.specs.Serving.{Held, AnswersSome, own_after, share_after}
use Rattle.wb_seats.specs.Serving.{RepliesIfRead, NothingAsked, IsReadAs, held_after}

held_is : (h k : Held) (asked : Request) (r : Reply) → k.seat ≡ h.seat → k.own ≡ own_after h.seat h.own asked r →
    k.share ≡ share_after h.share r → k ≡ held_after h asked r
held_is h k asked r a b c = λ i. record { seat = a i; own = b i; share = c i }

by_read : (opening : Start) (h k : Held) (line : List ℕ) (asked : Request) (r : Reply) → IsReadAs line (Ok asked) →
    AnswersSome opening h.seat h.own asked r → k ≡ held_after h asked r → RepliesIfRead opening h (request line) r k ⊎ NothingAsked h r k
by_read opening h k line asked r (inl e) a s = inl (subst (λ q. RepliesIfRead opening h q r k) (sym e) (a, s))
by_read opening h k line asked r (inr e) a s = absurd (cc)

-- a line that was read as a request is answered by the desk
pub asked_here : (opening : Start) (h k : Held) (line : List ℕ) (all : Result Request Refusal) (asked : Request) (r : Reply) → all ≡ Ok asked →
    IsReadAs line all → AnswersSome opening h.seat h.own asked r → k.seat ≡ h.seat → k.own ≡ own_after h.seat h.own asked r →
    k.share ≡ share_after h.share r → RepliesIfRead opening h (request line) r k ⊎ NothingAsked h r k
asked_here opening h k line all asked r e is a x y z = by_read opening h k line asked r (subst (IsReadAs line) e is) a (held_is h k asked r x y z)

by_refusal : (opening : Start) (h : Held) (line : List ℕ) (why : Refusal) → IsReadAs line (Err why) →
    RepliesIfRead opening h (request line) (Refused why) h ⊎ NothingAsked h (Refused why) h
by_refusal opening h line why (inl e) = inl (subst (λ q. RepliesIfRead opening h q (Refused why) h) (sym e) (refl, refl))
by_refusal opening h line why (inr e) = inr (cc, refl)

-- and one that was read as none is answered with why
pub refused_here : (opening : Start) (h : Held) (line : List ℕ) (all : Result Request Refusal) (why : Refusal) → all ≡ Err why → IsReadAs line all →
    RepliesIfRead opening h (request line) (Refused why) h ⊎ NothingAsked h (Refused why) h
refused_here opening h line all why e is = by_refusal opening h line why (subst (IsReadAs line) e is)

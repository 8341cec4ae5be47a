use Rattle.std.proofs.Common.{[], inl, inr, rules}
use Rattle.std.proofs.KnownBytes.{Appends-nil}
use Rattle.wb_program.proofs.KeptEnding.{bad_seats, no_memory}
use Rattle.wb_program.proofs.KeptStayEnding.{all_new, ends, not_lent}
use Rattle.wb_program.proofs.stays.kept_staying.lend_kept_desk.Goals as goal

pub settled-requires : goal.settled-requires
settled-requires g c =
    record {
      back =
          all_new g.I.Source g.O.Sink g.G.Guests g.D.Device g.L.Opening.opening g.L.Opening.seats c.args.seats c.in-Ok.made.1.items
          c.in-Ok-lend_all_kept.passes.items c.requires.seats c.in-Ok.ensures.ok.1 c.in-Ok-lend_all_kept.ensures.ok;
    }

pub returns-in-Ok-lend_all_kept-clause-ends : goal.returns-in-Ok-lend_all_kept-clause-ends
returns-in-Ok-lend_all_kept-clause-ends g c =
    let told = c.settled.ensures.ends in (
      told.0,
      told.1,
      ends g.I.Source g.O.Sink g.G.Guests g.D.Device g.L.Opening.opening g.L.KeptOpening.begun g.L.Opening.seats _ c.settled.result told.0 told.2,
    )

pub returns-in-Err-clause-ends : goal.returns-in-Err-clause-ends
returns-in-Err-clause-ends g c = ([], Appends-nil _, inr (inl c.left_off.ensures.off))

pub returns-in-Err-clause-failed : goal.returns-in-Err-clause-failed
returns-in-Err-clause-failed g c h =
    not_lent g.I.Source g.O.Sink g.G.Guests g.D.Device g.L.Opening.opening g.L.Opening.seats c.in-Err.status c.left_off.result _
    c.in-Err.ensures.failed (c.left_off.ensures.cause h)

pub returns-in-Err-default-BadSeats-clause-ends : goal.returns-in-Err-default-BadSeats-clause-ends
returns-in-Err-default-BadSeats-clause-ends g c =
    let told = c.in-Err-default-BadSeats.ensures in (
      [],
      Appends-nil _,
      inr (inr (bad_seats g.D.Device g.L.Opening.seats c.args.seats c.args.kept c.in-Err-default-BadSeats.kept c.never_begun.result c.requires.seats
          told.back c.never_begun.ensures (told.bad.0 (search rules)))),
    )

pub returns-in-Err-default-NoMemory-clause-ends : goal.returns-in-Err-default-NoMemory-clause-ends
returns-in-Err-default-NoMemory-clause-ends g c = (
  [],
  Appends-nil _,
  inr (inr (no_memory g.D.Device g.L.Opening.seats c.args.kept c.in-Err-default-NoMemory.kept c.never_begun-in-Err-default-NoMemory.result c.in-Err-default-NoMemory.ensures.back
      c.never_begun-in-Err-default-NoMemory.ensures)),
)

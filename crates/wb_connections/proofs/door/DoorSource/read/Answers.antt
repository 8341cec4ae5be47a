use Rattle.wb_connections.proofs.ThroughDoor.{shorter, door_gives, sound_door, door_counts, door_rests}
use Rattle.wb_connections.proofs.door.DoorSource.read.Goals as goal

pub returns-in-Ok : goal.returns-in-Ok
returns-in-Ok g c =
    let way = c.args.self.now.way in
    let next = c.let_through-way.result.0 in
    let heard = c.let_through-way.result.1 in
    let was = c.args.self.now.reader in
    let now = c.read.new.self in
    let bytes = c.read.new.bytes in
    let told = c.in-Ok.ensures in
    let went = c.let_through-way.ensures in
    record {
      bound = shorter c.in-Ok.n heard bytes told.bound.0 went.most;
      bytes = door_gives g.R.Source.remaining way next was now c.in-Ok.n heard bytes told.bound.0 went.most went.some c.in_default.not-Shut told.bytes
          went.bytes;
      cause = sound_door g.R.Source.failed next now told.cause;
      counted = λ room. door_counts g.R.Source.reads way next was now c.in_default.not-Shut went.fresh (told.counted room);
      idle = λ none. door_rests g.R.Source.reads way next was now c.in_default.not-Shut went.fresh (told.idle none);
    }

use Rattle.stay.specs.Contents.{contents}
use Rattle.stay.specs.Jobs.{queue_of}
use Rattle.stay.proofs.Rooms.{room_as_told}
use Rattle.stay.proofs.stay.Stay.has_room_for.Goals as goal

pub returns : goal.returns
returns c =
    let me = c.args.self.now in
    let exact = rw (c.ahead.ensures.slots, c.ahead.ensures.clock) at c.has_room.ensures in
    room_as_told (contents me) (queue_of c.args.table) c.has_room.result me.speeds.lawful exact

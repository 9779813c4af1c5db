use Rattle.std.proofs.Common.{take}
use Rattle.stay.specs.Jobs.{queue_of}
use Rattle.stay.proofs.Rooms.{room_by_top}
use Rattle.stay.proofs.room.Table+Job.has_room.Goals as goal

pub returns : goal.returns
returns c =
    let list = c.args.speeds in
    let speeds = take list.count list.speeds in
    room_by_top c.args.ahead.slots c.args.ahead.clock c.top.result speeds (queue_of c.args.self.now) c.keeps_time.result list.lawful c.top.ensures (c.keeps_time.ensures speeds)

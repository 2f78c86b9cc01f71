use Rattle.std.proofs.Common.{◌+◌, ◌-◌, arith}
use Rattle.std.specs.Prelude.{Some}
use Rattle.http_bodies.specs.Bodies.{frames_of}
use Rattle.body_reading.specs.Streams.{room_of}
use Rattle.body_reading.proofs.Passing.{refused_called}
use Rattle.body_reading.proofs.Taking.{takes_most}
use Rattle.body_reading.proofs.streaming.StreamingBody.next_data.Goals as goal

pub returns-in-Err-clause-taken : goal.returns-in-Err-clause-taken
returns-in-Err-clause-taken c =
    let room = c.next_content.ensures.room in
    takes_most (Some (frames_of c.args.self.now.body)) (Some (frames_of c.next_content.new.self.body))
    (Some (frames_of c.refuse.new.self.body)) (room_of c.args.self.now + 1 - room_of c.next_content.new.self)
    (room_of c.next_content.new.self) (room_of c.args.self.now + 1) c.next_content.ensures.taken c.refuse.ensures.taken
    (omega arith)

pub returns-in-Err-clause-called : goal.returns-in-Err-clause-called
returns-in-Err-clause-called c =
    refused_called c.args.self.now.body c.next_content.new.self.body c.refuse.new.self.body c.in-Err.flaw
    c.next_content.ensures.called c.in-Err.ensures.paired c.refuse.ensures.called c.refuse.ensures.unasked c.refuse.ensures.still

use Rattle.std.proofs.Common.{◌+◌, ◌≤◌}
use Rattle.http_bodies.specs.Bodies.{calls_of}
use Rattle.reply_lines.proofs.BodyReading.{IsReading}
use Rattle.reply_lines.proofs.response_body.read_content.Given as goal

abbrev pub invariant-loop : goal.invariant-loop
invariant-loop l = record {
  reading : IsReading l.fn.body l.body l.content.items l.counter;
  calls : calls_of l.body ≤ calls_of l.fn.body + l.counter;
}

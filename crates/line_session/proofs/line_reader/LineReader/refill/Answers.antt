use Rattle.std.proofs.Common.{◌≡◌, length, take, ap, arith, refl, sym, append-nil}
use Rattle.line_session.specs.Calls.{GivesPiece}
use Rattle.line_session.specs.Reading.{Reading}
use Rattle.line_session.proofs.Calling.{ByCalls-one}
use Rattle.line_session.proofs.Pieces.{front_read}
use Rattle.line_session.proofs.line_reader.LineReader.refill.Goals as goal

pub returns-clause-calls : goal.returns-clause-calls
returns-clause-calls g c =
    let bytes = take c.in_ok-count.count c.read.new.buf in
    let short = c.in_ok-count.ensures.bound.0 in
    let room : length c.read.new.buf ≡ 4096 = omega
    (arith, c.self.invariant.2, c.deref_mut.ensures.len, c.read.auto.buf) in
    record {
      input = bytes;
      calls = ByCalls-one (GivesPiece g.S.Source) _ _ _ (record {
        buf = c.read.new.buf;
        count = c.in_ok-count.count;
        call = record {
          room = room;
          bound = c.in_ok-count.ensures.bound;
          bytes = c.in_ok-count.ensures.bytes;
          cause = c.in_ok-count.ensures.cause;
          counts = c.in_ok-count.ensures.counts;
          gives = c.in_ok-count.ensures.gives;
        };
        some = omega (arith, c.if-count-eq0.false);
        given = refl;
      });
      handles = record {
        input = bytes;
        consumed = sym (append-nil bytes);
        split = front_read _ _ _ _ _ c.requires short (omega (arith, short, room, c.self.invariant.2));
        budget = omega (arith, ap (λ (x : Reading). x.budget) c.self.view_is);
      };
    }

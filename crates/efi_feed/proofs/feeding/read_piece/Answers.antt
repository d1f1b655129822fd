-- What came was fed.
use Rattle.std.proofs.Common.{rules, ◌<◌, ◌≤◌, length, take, arith}
use Rattle.std.proofs.lemmas.List.{length-take}
use Rattle.efi_feed.proofs.feeding.read_piece.Goals as goal

pub returns-in-Ok-feed-clause-piece : goal.returns-in-Ok-feed-clause-piece
returns-in-Ok-feed-clause-piece g c =
    let room = c.read.new.room in
    let some : 0 < length room = search rules in
    let bound : c.in-Ok.count ≤ length room = search rules in
    record {
      piece = take c.in-Ok.count room;
      taken = c.in-Ok.ensures.bytes.0;
      count = omega (arith, length-take c.in-Ok.count room, bound);
      end = λ none. c.in-Ok.ensures.bytes.1 none some;
      fed = c.in-Ok-feed.ensures;
    }

-- The next part of the piece.
use Rattle.std.proofs.Common.{◌+◌, ◌++◌, ◌∙◌, take}
use Rattle.std.proofs.Transfers.{starts_with_trans}
use Rattle.load_core.proofs.Readings.{reads-step, reads-rest, part_some, part_end, part_bound}
use Rattle.load_core.proofs.reading.read_with.Goals as goal

pub returns-then-count-eq0-clause-reads : goal.returns-then-count-eq0-clause-reads
returns-then-count-eq0-clause-reads c rest octets h p bound =
    let piece = c.args.piece.now in
    let at = c.loop-at.at in
    let inside = c.loop-at.invariant.inside in
    let before = c.loop-at.invariant.reads rest octets h p bound in
    let t = rest ++ take at piece in
    let after = c.in_ok-count.ensures.reads t (octets ++ before.0) before.1 before.2 (part_bound rest piece at _ inside bound) in
    let on = reads-step c.advance.new.reading c.args.most c.advance.new.placed.items rest piece octets before.0 at c.in_ok-count.count inside after in
    let ended = c.in_ok-count.ensures.stops t (octets ++ before.0) before.1 (part_some piece at c.loop-at-test.true) c.if-count-eq0.true in
    reads-rest c.advance.new.reading c.args.most c.advance.new.placed.items rest piece octets (at + c.in_ok-count.count) on ended

pub returns-in_err-count-clause-front : goal.returns-in_err-count-clause-front
returns-in_err-count-clause-front c = starts_with_trans _ _ _ c.advance.ensures.front c.loop-at.invariant.front

pub returns-then-count-eq0-clause-front : goal.returns-then-count-eq0-clause-front
returns-then-count-eq0-clause-front c = starts_with_trans _ _ _ c.advance.ensures.front c.loop-at.invariant.front

pub loop-at-preserved : goal.loop-at-preserved
loop-at-preserved c =
    let piece = c.args.piece.now in
    let at = c.loop-at.at in
    let inside = c.loop-at.invariant.inside in
    record {
      inside = part_end piece at c.in_ok-count.count inside c.in_ok-count.ensures.within;
      info = c.advance.ensures.info ∙ c.loop-at.invariant.info;
      some = c.advance.ensures.room ∙ c.loop-at.invariant.some;
      front = starts_with_trans _ _ _ c.advance.ensures.front c.loop-at.invariant.front;
      reads = λ rest octets h p bound.
          let before = c.loop-at.invariant.reads rest octets h p bound in
          let after = c.in_ok-count.ensures.reads (rest ++ take at piece) (octets ++ before.0) before.1 before.2
          (part_bound rest piece at _ inside bound) in
          reads-step c.advance.new.reading c.args.most c.advance.new.placed.items rest piece octets before.0 at c.in_ok-count.count inside after;
    }

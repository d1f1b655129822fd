-- What was fed, with a piece more.
use Rattle.boot_top.proofs.Inputs.{fed-on, fed-stopped}
use Rattle.boot_top.proofs.watching.WatchingFeed.feed.Goals as goal

pub returns-in-Ok : goal.returns-in-Ok
returns-in-Ok c most fed watched =
    fed-on most fed c.args.piece.now _ _ _ _ _ _ c.feed.result watched c.in-Ok.ensures.ok.1 c.in-Ok.ensures.ok.0 c.in-Ok.ensures.ok.2 c.hear_ready.ensures

pub returns-in-Err-BadAt : goal.returns-in-Err-BadAt
returns-in-Err-BadAt c most fed watched =
    fed-stopped most fed c.args.piece.now _ _ _ _ _ watched c.in-Err-BadAt.field-0-is c.in-Err-BadAt.ensures.stops c.feed.ensures.stays

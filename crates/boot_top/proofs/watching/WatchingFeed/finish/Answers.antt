-- What came of all that was fed.
use Rattle.boot_top.proofs.Inputs.{heard-whole, heard-refused, fault-one}
use Rattle.boot_top.proofs.watching.WatchingFeed.finish.Goals as goal

pub returns-in-Ok : goal.returns-in-Ok
returns-in-Ok c most fed watched =
    heard-whole most fed _ _ _ watched c.in-Ok.ensures.whole.0 c.in-Ok.ensures.whole.1 c.finish-in-Ok.ensures.seen

pub returns-in-Err-BadAt : goal.returns-in-Err-BadAt
returns-in-Err-BadAt c most fed watched =
    rw c.in-Err-BadAt.place-is
    (heard-refused most fed _ _ _ _ watched c.in-Err-BadAt.field-0-is c.in-Err-BadAt.ensures.refused
    (λ f told. fault-one _ _ f c.in-Err-BadAt.is (c.finish.ensures.told f told)))

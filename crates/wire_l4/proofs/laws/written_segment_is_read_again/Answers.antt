use Rattle.wire_l4.proofs.Spelled.{segment-again}
use Rattle.wire_l4.proofs.laws.written_segment_is_read_again.Goals as goal

pub returns : goal.returns
returns c = segment-again

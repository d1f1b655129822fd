use Rattle.ip_core.proofs.Filling.{slot-added}
use Rattle.ip_core.proofs.slot.Slot.add.Goals as goal

pub returns : goal.returns
returns c = rw (← c.self.view_is) (slot-added _ _ _ _ _ _ _ c.self.invariant.whole c.self.invariant.from_start c.requires c.put.ensures c.end_with-self-inside.ensures)

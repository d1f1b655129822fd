-- The last place that counts has a byte.
use Rattle.std.proofs.Common.{◌-◌}
use Rattle.efi_window.proofs.Cells.{free-from}
use Rattle.efi_window.proofs.by_place.Window.is_free_from.Goals as goal

pub returns : goal.returns
returns c =
    let w = c.self.inside in
    rw (← c.self.view_is)
    (free-from w.room w.ring.items w.words.items (w.taken - w.origin) w.span (c.args.place - w.taken) c.self.invariant.last)

use Rattle.std.proofs.Common.{sym, ap, ◌∙◌}
use Rattle.efi_book.specs.Drives.{drive}
use Rattle.arp_cache.specs.Caches.{entered}
use Rattle.drv_arp.specs.Arps.{ArpState, added_by, answered, entry_of, in_entries, known}
use Rattle.drv_arp.proofs.driver.DrvArp.add.Goals as goal

pub returns-clause-ok : goal.returns-clause-ok
returns-clause-ok c =
    let d = c.self.inside in
    let v : ArpState = record { drive = drive d.core; mac = d.mac; stations = d.stations.items; moment = d.moment; entries = d.cache } in
    c.answer.ensures.after
    ∙ ap (λ es. answered (in_entries v es)) (c.in_ok-add.ensures.ok ∙ ap (λ es. entered es (entry_of v c.in-Ok.c c.args.ip c.args.mac c.args.fixed)) c.expire.ensures)
    ∙ ap (λ s. answered (in_entries s (entered (known s) (entry_of s c.in-Ok.c c.args.ip c.args.mac c.args.fixed)))) c.self.view_is
    ∙ sym (ap (λ o. added_by o c.args.self.now c.args.ip c.args.mac c.args.fixed) c.in-Ok.ensures.ok)

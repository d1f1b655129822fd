use Rattle.std.proofs.Common.{◌∙◌, ◌+◌, ◌-◌, ◌%◌, ap, sym}
use Rattle.efi_window.specs.Kept.{is_kept}
use Rattle.efi_window.proofs.Cells.{ready-slots}
use Rattle.efi_window.proofs.by_place.Window.ready.Goals as goal

pub returns-clause-count : goal.returns-clause-count
returns-clause-count c =
    rw (← c.self.view_is)
    (sym (ready-slots c.self.inside.room c.self.inside.ring.items c.self.inside.words.items (c.self.inside.taken - c.self.inside.origin) c.self.inside.span c.run.result c.run.ensures.most
    (λ i h. ap (λ w. is_kept w ((c.self.inside.taken - c.self.inside.origin + i) % c.self.inside.room)) (sym c.deref.ensures.value) ∙ c.run.ensures.alike i h)
    (λ h. ap (λ w. is_kept w ((c.self.inside.taken - c.self.inside.origin + c.run.result) % c.self.inside.room)) (sym c.deref.ensures.value) ∙ c.run.ensures.ends h)))

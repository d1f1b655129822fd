use Rattle.std.proofs.Common.{◌≡◌, true, is_some, Some, sym, ap, ◌∙◌}
use Rattle.std.specs.Option.{option_copied}
use Rattle.slab.specs.Slab.{get, with_value}
use Rattle.slab.proofs.SlabLemmas.{Updates-with_value}
use Rattle.efi_book.specs.declared.children.Child.{Child}
use Rattle.efi_book.specs.Tables.{children_at, in_slot}
use Rattle.efi_book.proofs.Places.{look, renew, renew_none, slot_and}
use Rattle.efi_book.proofs.Kept.{kept_with}
use Rattle.efi_book.proofs.table.Table.put.Goals as goal

pub returns-in-None : goal.returns-in-None
returns-in-None g c =
    let l = look (get c.self.inside.slots) c.self.inside.order.items c.args.key c.args.serial c.self.invariant.stands (c.self.invariant.known c.args.key) in
    rw (← c.self.view_is) (
    ap
    (λ cs. record { children = cs; room = c.self.inside.room })
    (sym (renew_none c.args.key c.args.serial c.args.value (children_at (get c.self.inside.slots) c.self.inside.order.items) (l ∙ sym c.under.ensures ∙ ap option_copied c.in-None.is)))
    )

pub invariant_of-self : goal.invariant_of-self
invariant_of-self g c =
    let there : is_some (get c.self.inside.slots c.args.key) ≡ true = ap is_some c.index_mut.ensures.value in
    let named : c.replace-old.new.dest.key ≡ c.args.key = ap (λ (x : Child g.row.C.Denot). x.key) c.replace-old.ensures.after in
    kept_with c.self.inside.slots c.self.inside.order.items c.self.inside.room _ c.args.key c.replace-old.new.dest c.self.invariant there named

pub returns : goal.returns
returns g c =
    let s = c.self.inside.slots in
    let ks = c.self.inside.order.items in
    let new = c.replace-old.new.dest in
    let there : is_some (get s c.args.key) ≡ true = ap is_some c.index_mut.ensures.value in
    let up = Updates-with_value s c.args.key new there in
    let hit : is_some (in_slot (get s c.args.key) c.args.serial) ≡ true = ap is_some (sym c.under.ensures ∙ ap option_copied c.in_default.is) in
    rw (← c.self.view_is) (
    ap
    (λ cs. record { children = cs; room = c.self.inside.room })
    (renew (get s) (get (with_value s c.args.key new)) ks c.args.key c.args.serial c.args.value c.self.invariant.stands (up.changed ∙ ap Some c.replace-old.ensures.after) (slot_and (get s c.args.key) c.args.serial hit) up.others)
    )

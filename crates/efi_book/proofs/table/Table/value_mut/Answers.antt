use Rattle.std.proofs.Common.{◌≡◌, inr, true, is_some, option_map, sym, ap, ◌∙◌}
use Rattle.std.specs.Option.{option_copied}
use Rattle.slab.specs.Slab.{get}
use Rattle.efi_book.specs.declared.children.Child.{Child}
use Rattle.efi_book.specs.Tables.{in_slot}
use Rattle.efi_book.proofs.Places.{look, slot_and, slot_is, names}
use Rattle.efi_book.proofs.Kept.{kept_with, row_lent}
use Rattle.efi_book.proofs.Lent.{ends_alike}
use Rattle.efi_book.proofs.table.Table.value_mut.Goals as goal

pub returns-in-None : goal.returns-in-None
returns-in-None g c =
    let l = look (get c.self.inside.slots) c.self.inside.order.items c.args.key c.args.serial c.self.invariant.stands (c.self.invariant.known c.args.key) in (
      ap (λ t. inr t) c.self.view_is,
      record {
        writes_back = tt;
        value = rw (← c.self.view_is) (ap (option_map (λ (x : Child g.row.C.Denot). x.value)) (sym (ap option_copied c.in-None.is) ∙ c.under.ensures ∙ sym l));
      },
    )

pub invariant_of-self-lent : goal.invariant_of-self-lent
invariant_of-self-lent g c = λ w.
    let s = c.self.inside.slots in
    let old = c.index_mut.result.now in
    let there : is_some (get s c.args.key) ≡ true = ap is_some c.index_mut.ensures.value in
    let named : old.key ≡ c.args.key = names (get s) c.self.inside.order.items c.args.key old c.self.invariant.stands c.index_mut.ensures.value (c.self.invariant.known c.args.key there) in
    kept_with s c.self.inside.order.items c.self.inside.room _ c.args.key (record { key = old.key; serial = old.serial; value = w }) c.self.invariant there named

pub returns : goal.returns
returns g c =
    let s = c.self.inside.slots in
    let ks = c.self.inside.order.items in
    let old = c.index_mut.result.now in
    let there : is_some (get s c.args.key) ≡ true = ap is_some c.index_mut.ensures.value in
    let known = c.self.invariant.known c.args.key there in
    let hit : is_some (in_slot (get s c.args.key) c.args.serial) ≡ true = ap is_some (sym c.under.ensures ∙ ap option_copied c.in_default.is) in
    let was = slot_and (get s c.args.key) c.args.serial hit in
    let l = look (get s) ks c.args.key c.args.serial c.self.invariant.stands (c.self.invariant.known c.args.key) in
    let it = slot_is (get s c.args.key) c.args.serial old c.index_mut.ensures.value hit in
    rw (← c.self.view_is) (
      ends_alike (λ w. ap (λ cs. record { children = cs; room = c.self.inside.room }) (row_lent s ks c.args.key c.args.serial old c.self.invariant.stands c.index_mut.ensures.value known was w)),
      record { writes_back = tt; value = ap (option_map (λ (x : Child g.row.C.Denot). x.value)) (sym (l ∙ it)) },
    )

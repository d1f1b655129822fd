use Rattle.std.proofs.Common.{◌≡◌, true, is_some, option_map, sym, ap, ◌∙◌, arith}
use Rattle.std.specs.Option.{option_copied}
use Rattle.slab.specs.Slab.{get}
use Rattle.efi_book.specs.declared.children.Child.{Child}
use Rattle.efi_book.specs.Tables.{children_at, in_slot}
use Rattle.efi_book.proofs.Places.{look, removed, stands_removed, known_left, fewer, slot_and, slot_is}
use Rattle.efi_book.proofs.table.Table.remove.Goals as goal

pub returns-in-None-clause-value : goal.returns-in-None-clause-value
returns-in-None-clause-value g c =
    let l = look (get c.self.inside.slots) c.self.inside.order.items c.args.key c.args.serial c.self.invariant.stands (c.self.invariant.known c.args.key) in
    rw (← c.self.view_is) (ap (option_map (λ (x : Child g.row.C.Denot). x.value)) (sym (ap option_copied c.in-None.is) ∙ c.under.ensures ∙ sym l))

pub invariant_of-self : goal.invariant_of-self
invariant_of-self g c =
    let at = get c.self.inside.slots in
    let at' = get c.remove-child.new.self in
    let ks = c.self.inside.order.items in
    let up = c.remove-child.ensures.updates in
    let there : is_some (at c.args.key) ≡ true = ap is_some c.remove-child.ensures.value in
    rw c.leave_out.ensures.kept (record {
      stands = stands_removed at at' ks c.args.key c.self.invariant.stands up.others;
      known = λ k h. known_left at at' ks c.args.key k c.self.invariant.known up.changed up.others h;
      count = omega (arith, c.remove-child.ensures.len, c.self.invariant.count, fewer at ks c.args.key c.self.invariant.stands (c.self.invariant.known c.args.key there));
      slots_room = omega (arith, c.self.invariant.slots_room, c.remove-child.ensures.capacity);
      order_room = omega (arith, c.self.invariant.order_room, c.leave_out.ensures.room);
    })

pub returns-clause-value : goal.returns-clause-value
returns-clause-value g c =
    let l = look (get c.self.inside.slots) c.self.inside.order.items c.args.key c.args.serial c.self.invariant.stands (c.self.invariant.known c.args.key) in
    let hit : is_some (in_slot (get c.self.inside.slots c.args.key) c.args.serial) ≡ true = ap is_some (sym c.under.ensures ∙ ap option_copied c.in_default.is) in
    let it = slot_is (get c.self.inside.slots c.args.key) c.args.serial c.remove-child.result c.remove-child.ensures.value hit in
    rw (← c.self.view_is, c.value_in.ensures) (ap (option_map (λ (x : Child g.row.C.Denot). x.value)) (sym (l ∙ it)))

pub returns-clause-some : goal.returns-clause-some
returns-clause-some g c =
    let at = get c.self.inside.slots in
    let at' = get c.remove-child.new.self in
    let ks = c.self.inside.order.items in
    let hit : is_some (in_slot (at c.args.key) c.args.serial) ≡ true = ap is_some (sym c.under.ensures ∙ ap option_copied c.in_default.is) in
    rw (← c.self.view_is) (
    ap
    (λ cs. record { children = cs; room = c.self.inside.room })
    (ap (λ l. children_at at' l) c.leave_out.ensures.kept
    ∙ removed at at' ks c.args.key c.args.serial c.self.invariant.stands (slot_and (at c.args.key) c.args.serial hit) c.remove-child.ensures.updates.others)
    )

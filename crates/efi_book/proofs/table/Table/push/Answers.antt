use Rattle.std.proofs.Common.{◌≡◌, false, [], ◌∷◌, Some, refl, sym, ap, ◌∙◌, length-append, arith}
use Rattle.slab.specs.Slab.{get, Updates}
use Rattle.efi_book.specs.Tables.{has_key, children_at}
use Rattle.efi_book.proofs.Places.{vacant, counted, pushed, stands_pushed, known_pushed}
use Rattle.efi_book.proofs.table.Table.push.Goals as goal

pub insert_reserved-requires : goal.insert_reserved-requires
insert_reserved-requires g c =
    let fits = rw (← c.self.view_is) at c.requires in
    omega (arith, fits, c.self.invariant.count, c.self.invariant.slots_room, counted (get c.self.inside.slots) c.self.inside.order.items c.self.invariant.stands)

pub push_reserved-requires : goal.push_reserved-requires
push_reserved-requires g c =
    let fits = rw (← c.self.view_is) at c.requires in
    omega (arith, fits, c.self.inside.order.ok, c.self.invariant.order_room, counted (get c.self.inside.slots) c.self.inside.order.items c.self.invariant.stands)

pub invariant_of-self : goal.invariant_of-self
invariant_of-self g c =
    let at = get c.self.inside.slots in
    let at' = get c.insert_reserved.new.self in
    let key = c.vacant_key-key.result in
    let ks = c.self.inside.order.items in
    let none : has_key key ks ≡ false = vacant at ks key c.self.invariant.stands c.vacant_key-key.ensures.vacant in
    let same : c.insert_reserved.result ≡ key = c.insert_reserved.ensures.key ∙ sym c.vacant_key-key.ensures.value in
    let up : Updates c.self.inside.slots c.insert_reserved.new.self key (Some (record { key = key; serial = c.args.serial; value = c.args.value })) = rw same at c.insert_reserved.ensures.updates in
    let named : key ≡ key = refl in
    rw c.push_reserved.ensures.items (record {
      stands = stands_pushed at at' ks key (record { key = key; serial = c.args.serial; value = c.args.value }) c.self.invariant.stands none up.changed named up.others;
      known = λ k h. known_pushed at at' ks key k c.self.invariant.known up.others h;
      count = omega (arith, c.insert_reserved.ensures.len, c.self.invariant.count, length-append ks (key ∷ []));
      slots_room = omega (arith, c.self.invariant.slots_room, c.insert_reserved.ensures.capacity);
      order_room = omega (arith, c.self.invariant.order_room, c.push_reserved.ensures.capacity);
    })

pub returns : goal.returns
returns g c =
    let at = get c.self.inside.slots in
    let at' = get c.insert_reserved.new.self in
    let key = c.vacant_key-key.result in
    let ks = c.self.inside.order.items in
    let none : has_key key ks ≡ false = vacant at ks key c.self.invariant.stands c.vacant_key-key.ensures.vacant in
    let same : c.insert_reserved.result ≡ key = c.insert_reserved.ensures.key ∙ sym c.vacant_key-key.ensures.value in
    let up : Updates c.self.inside.slots c.insert_reserved.new.self key (Some (record { key = key; serial = c.args.serial; value = c.args.value })) = rw same at c.insert_reserved.ensures.updates in
    rw (← c.self.view_is) (
    ap
    (λ cs. record { children = cs; room = c.self.inside.room })
    (ap (λ l. children_at at' l) c.push_reserved.ensures.items ∙ pushed at at' ks key (record { key = key; serial = c.args.serial; value = c.args.value }) none up.changed up.others)
    )

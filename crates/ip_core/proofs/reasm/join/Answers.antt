use Rattle.std.proofs.Common.{◌++◌, ◌∷◌, sym, ap, ◌∙◌, [], is_ok, arith}
use Rattle.wire_ip4.specs.Seen.{packet_seen}
use Rattle.ip_core.proofs.Joining.{join-found, join-full, join-new, within, blank, pushed}
use Rattle.ip_core.proofs.reasm.join.Goals as goal

pub returns-in-Some-clause-bytes : goal.returns-in-Some-clause-bytes
returns-in-Some-clause-bytes c =
    (join-found _ _ c.args.now c.in-Some.place _ _ _ _ _ blank c.key_of-key.ensures c.deref.ensures.value (sym c.in-Some.is ∙ c.find.ensures) (within (packet_seen c.args.f.now) (sym c.is_too_long.ensures ∙ c.if-is_too_long.false))
    (c.join_at.ensures.bytes blank) (c.join_at.ensures.pools blank)).bytes

pub returns-in-Some-clause-pools : goal.returns-in-Some-clause-pools
returns-in-Some-clause-pools c =
    (join-found _ _ c.args.now c.in-Some.place _ _ _ _ _ blank c.key_of-key.ensures c.deref.ensures.value (sym c.in-Some.is ∙ c.find.ensures) (within (packet_seen c.args.f.now) (sym c.is_too_long.ensures ∙ c.if-is_too_long.false))
    (c.join_at.ensures.bytes blank) (c.join_at.ensures.pools blank)).pools_are

pub returns-in_default-pop-clause-bytes : goal.returns-in_default-pop-clause-bytes
returns-in_default-pop-clause-bytes c =
    (join-full (λ n. []) c.args.now _ _ _ _ c.key_of-key.ensures c.deref.ensures.value (sym c.in_default.is ∙ c.find.ensures)
    (omega (arith, c.requires.slots, c.in_default-pop.ensures.cases.0))).bytes

pub returns-in_default-pop-clause-pools : goal.returns-in_default-pop-clause-pools
returns-in_default-pop-clause-pools c =
    (join-full (λ n. []) c.args.now _ _ _ _ c.key_of-key.ensures c.deref.ensures.value (sym c.in_default.is ∙ c.find.ensures)
    (omega (arith, c.requires.slots, c.in_default-pop.ensures.cases.0))).pools_are

pub returns-clause-bytes : goal.returns-clause-bytes
returns-clause-bytes c =
    let ok = c.push.ensures.succeeds (omega (arith, c.requires.slots, c.requires.pools_memory, c.in-Some-pop.ensures.cases)) in
    let opened = pushed (is_ok c.push.result) c.args.pools.now.items _ _ ok c.push.ensures.items ∙ ap (λ s. c.args.pools.now.items ++ s ∷ []) c.restart.ensures in
    (join-new _ _ c.args.now c.len-place.result _ _ _ _ _ _ blank c.key_of-key.ensures c.deref.ensures.value (sym c.in_default.is ∙ c.find.ensures) (within (packet_seen c.args.f.now) (sym c.is_too_long.ensures ∙ c.if-is_too_long.false))
    (omega (arith, c.requires.slots, c.in-Some-pop.ensures.cases)) (omega (arith, c.len-place.ensures)) opened (c.join_at-2.ensures.bytes blank) (c.join_at-2.ensures.pools blank)).bytes

pub returns-clause-pools : goal.returns-clause-pools
returns-clause-pools c =
    let ok = c.push.ensures.succeeds (omega (arith, c.requires.slots, c.requires.pools_memory, c.in-Some-pop.ensures.cases)) in
    let opened = pushed (is_ok c.push.result) c.args.pools.now.items _ _ ok c.push.ensures.items ∙ ap (λ s. c.args.pools.now.items ++ s ∷ []) c.restart.ensures in
    (join-new _ _ c.args.now c.len-place.result _ _ _ _ _ _ blank c.key_of-key.ensures c.deref.ensures.value (sym c.in_default.is ∙ c.find.ensures) (within (packet_seen c.args.f.now) (sym c.is_too_long.ensures ∙ c.if-is_too_long.false))
    (omega (arith, c.requires.slots, c.in-Some-pop.ensures.cases)) (omega (arith, c.len-place.ensures)) opened (c.join_at-2.ensures.bytes blank) (c.join_at-2.ensures.pools blank)).pools_are

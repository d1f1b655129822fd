-- The options are those of the grant, which can be written.
use Rattle.std.proofs.Common.{◌≡◌, ap, ◌∙◌, subst, arith}
use Rattle.efi_base.specs.Writes.{Writes}
use Rattle.wire_dhcp.specs.Granted.{addresses_text, answer_fields, grant_options, grant_text, router_text}
use Rattle.wire_dhcp.specs.Spelling.{can_write, dhcp_text}
use Rattle.wire_dhcp.specs.Walk.{items_seen}
use Rattle.wire_dhcp.proofs.Granted.{addresses-size, grant-good, grant-items, router-size}
use Rattle.wire_dhcp.proofs.granting.put_grant.Goals as goal

pub write_dhcp-requires : goal.write_dhcp-requires
write_dhcp-requires c =
    let g = c.args.grant.now in
    let items : items_seen c.as_slice-3.result.now ≡ grant_options c.args.kind g =
    grant-items (items_seen c.as_slice-3.result.now) (items_seen c.put_main.new.options.items) c.args.kind g.server.0 g.secs g.mask
    _ _ _ c.as_slice.result.now c.as_slice-2.result.now (router_text g.router) (addresses_text g.dns.now) g.uri.now
    c.put_main.ensures.options c.four_octets-server.ensures c.four_octets-secs.ensures c.four_octets-mask.ensures
    (ap items_seen c.as_slice-3.ensures.value ∙ c.put_more.ensures)
    (c.as_slice.ensures.value ∙ c.router_text-router.ensures) (c.as_slice-2.ensures.value ∙ c.addresses_text-dns.ensures) in
    ap (λ f. can_write f (items_seen c.as_slice-3.result.now)) c.answer_fields.ensures
    ∙ ap (λ l. can_write (answer_fields c.args.asked.now g.ip) l) items
    ∙ grant-good c.args.asked.now g.ip c.args.kind g.server.0 g.secs g.mask (router_text g.router) (addresses_text g.dns.now) g.uri.now
    (omega (arith, router-size g.router)) (omega (arith, addresses-size g.dns.now, c.requires.dns)) c.requires.uri

pub returns : goal.returns
unfolding grant_text
returns c =
    let g = c.args.grant.now in
    let items : items_seen c.as_slice-3.result.now ≡ grant_options c.args.kind g =
    grant-items (items_seen c.as_slice-3.result.now) (items_seen c.put_main.new.options.items) c.args.kind g.server.0 g.secs g.mask
    _ _ _ c.as_slice.result.now c.as_slice-2.result.now (router_text g.router) (addresses_text g.dns.now) g.uri.now
    c.put_main.ensures.options c.four_octets-server.ensures c.four_octets-secs.ensures c.four_octets-mask.ensures
    (ap items_seen c.as_slice-3.ensures.value ∙ c.put_more.ensures)
    (c.as_slice.ensures.value ∙ c.router_text-router.ensures) (c.as_slice-2.ensures.value ∙ c.addresses_text-dns.ensures) in
    subst (λ f. Writes (dhcp_text f (grant_options c.args.kind g)) c.args.room.now c.write_dhcp.result c.write_dhcp.new.room) c.answer_fields.ensures
    (subst (λ l. Writes (dhcp_text c.answer_fields.result l) c.args.room.now c.write_dhcp.result c.write_dhcp.new.room) items c.write_dhcp.ensures)

use Rattle.std.proofs.Common.{rules, ◌≡◌, Some, None, refl, ◌∙◌, arith}
use Rattle.std.proofs.lemmas.Grind.{common_steps}
use Rattle.wire_ip4.specs.Seen.{packet_seen}
use Rattle.ip_core.specs.Bytes.{bytes_kept}
use Rattle.ip_core.specs.Pools.{datagram_at}
use Rattle.ip_core.specs.Seen.{whole_seen}
use Rattle.ip_core.proofs.Standings.{stand-datagram}
use Rattle.ip_core.proofs.reasm.Reasm.put.Goals as goal

pub returns-in-Some : goal.returns-in-Some
returns-in-Some c =
    let d : Some (whole_seen c.lent-in-Some.result) ≡ datagram_at bytes_kept c.args.self.now c.args.now.0 (packet_seen c.args.p.now) = grind (arith, common_steps) in
    ((refl, (λ w. tt), search rules), record { datagram = d; fragments = λ pools s. d ∙ stand-datagram c.args.now.0 (packet_seen c.args.p.now) pools c.args.self.now s; after = tt })

pub returns-in-None : goal.returns-in-None
returns-in-None c =
    let d : None ≡ datagram_at bytes_kept c.args.self.now c.args.now.0 (packet_seen c.args.p.now) = search rules in
    ((refl, (λ w. tt), search rules), record { datagram = d; fragments = λ pools s. d ∙ stand-datagram c.args.now.0 (packet_seen c.args.p.now) pools c.args.self.now s; after = tt })

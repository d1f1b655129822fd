use Rattle.std.proofs.Common.{is_none, option_map, sym, ap, ◌∙◌}
use Rattle.efi_base.specs.declared.plain.Ip4.{Ip4}
use Rattle.ip_core.specs.Routing.{best_of, next_hop}
use Rattle.drv_udp4.proofs.Steps.{none_mapped}
use Rattle.drv_udp4.proofs.refusing.is_apart.Goals as goal

pub returns-in-Some : goal.returns-in-Some
returns-in-Some c =
    ap (λ o. is_none (option_map (λ (hop : Ip4). hop.0) o)) (sym c.in-Some.is)
    ∙ ap is_none c.route.ensures.hop
    ∙ none_mapped (next_hop c.args.dest.0) (best_of c.args.dest.0 c.args.routes.now)

pub returns-in-None : goal.returns-in-None
returns-in-None c =
    ap (λ o. is_none (option_map (λ (hop : Ip4). hop.0) o)) (sym c.in-None.is)
    ∙ ap is_none c.route.ensures.hop
    ∙ none_mapped (next_hop c.args.dest.0) (best_of c.args.dest.0 c.args.routes.now)

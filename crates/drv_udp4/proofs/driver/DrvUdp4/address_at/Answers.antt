use Rattle.drv_udp4.specs.Networks.{address_named}
use Rattle.drv_udp4.proofs.Steps.{mapped-at}
use Rattle.drv_udp4.proofs.driver.DrvUdp4.address_at.Goals as goal

pub returns : goal.returns
returns c = rw (← c.self.view_is) (mapped-at address_named _ c.args.i _ _ c.at.ensures c.address_named.ensures)

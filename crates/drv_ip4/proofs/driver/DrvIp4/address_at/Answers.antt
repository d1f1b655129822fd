use Rattle.drv_ip4.specs.Nets.{address_named}
use Rattle.drv_ip4.proofs.Steps.{mapped-at}
use Rattle.drv_ip4.proofs.driver.DrvIp4.address_at.Goals as goal

pub returns : goal.returns
returns c = rw (← c.self.view_is) (mapped-at address_named _ c.args.i _ _ c.at.ensures c.address_named.ensures)

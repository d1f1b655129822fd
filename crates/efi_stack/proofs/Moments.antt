-- No call and no frame brings the clock on.
use Rattle.std.proofs.Common.{◌≡◌, ℕ, zero, suc, ◌+◌, Bool, Option, Some, None, refl, ◌∙◌, arith}
use Rattle.efi_base.specs.declared.plain.Ip4.{Ip4}
use Rattle.efi_base.specs.declared.plain.Mac.{Mac}
use Rattle.efi_base.specs.declared.tokens.Owner.{Owner}
use Rattle.wire_link.specs.declared.resolution.Arp.{Arp}
use Rattle.drv_arp.specs.declared.asks.ArpCfg.{ArpCfg}
use Rattle.drv_arp.specs.declared.asks.ArpWork.{ArpWork}
use Rattle.drv_arp.specs.declared.asks.Ask.{Ask}
use Rattle.drv_arp.specs.Asks.{ask_of}
use Rattle.drv_arp.specs.Arps.{ArpState, added, added_by, arp_posted, asked_as, asked_by, known_mac}
use Rattle.drv_arp.specs.Hears.{with_reply}
use Rattle.drv_arp.specs.Ticks.{acted, ticked}
use Rattle.efi_book.specs.Cores.{cfg_of}

added-by : (c : Option ArpCfg) (s : ArpState) (ip : Ip4) (mac : Mac) (fixed : Bool) → (added_by c s ip mac fixed).moment ≡ s.moment
added-by None s ip mac fixed = refl
added-by (Some c) s ip mac fixed = refl

pub added-moment : (s : ArpState) (key serial : ℕ) (ip : Ip4) (mac : Mac) (fixed : Bool) → (added s key serial ip mac fixed).moment ≡ s.moment
added-moment s key serial ip mac fixed = added-by (cfg_of s.drive key serial) s ip mac fixed

asked-by : (m : Option Mac) (s : ArpState) (a : Ask) (serial : ℕ) (o : Owner) → (asked_by m s a serial o).moment ≡ s.moment
asked-by None s a serial o = refl
asked-by (Some mac) s a serial o = refl

asked-as : (c : Option ArpCfg) (s : ArpState) (serial : ℕ) (o : Owner) (w : ArpWork) → (asked_as c s serial o w).moment ≡ s.moment
asked-as None s serial o w = refl
asked-as (Some c) s serial o w = asked-by (known_mac s w.ip.0) s (ask_of s.moment c w) serial o

pub posted-moment : (s : ArpState) (key serial : ℕ) (o : Owner) (w : ArpWork) → (arp_posted s key serial o w).moment ≡ s.moment
posted-moment s key serial o w = asked-as (cfg_of s.drive key serial) s serial o w

pub replied-moment : (m : Option Arp) (s : ArpState) → (with_reply s m).moment ≡ s.moment
replied-moment None s = refl
replied-moment (Some m) s = refl

-- so many ticks bring it on so far
pub ticks-moment : (n : ℕ) (s : ArpState) → (ticked n s).moment.0 ≡ s.moment.0 + n
ticks-moment zero s = omega arith
ticks-moment (suc n) s =
    let more : s.moment.0 + 1 + n ≡ s.moment.0 + suc n = omega arith in
    ticks-moment n (acted (s.moment.0 + 1) s) ∙ more

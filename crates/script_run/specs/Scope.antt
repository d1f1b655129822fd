-- Which steps the stack can do today: those of the device, MNP and ARP.
use Rattle.std.specs.Prelude.{Bool, true, false, is_some, Option, Some, None}
use Rattle.efi_base.specs.declared.tokens.Proto.{Proto}
use Rattle.efi_base.specs.declared.tokens.Proto.TheVariants.{Mnp, Arp}
use Rattle.efi_stack.specs.declared.any.Layer.{Layer}
use Rattle.efi_stack.specs.declared.any.Layer.TheVariants as layer
use Rattle.script_text.specs.declared.step.Step.{Step}
use Rattle.script_text.specs.declared.step.Step.TheVariants.{Create, Address, AddRoute, RemoveRoute, DnsCache}

-- the driver of a protocol, where it is built
abbrev pub layer_of : Proto → Option Layer
layer_of Mnp = Some layer.Mnp
layer_of Arp = Some layer.Arp
layer_of other = None

-- a step of another protocol's child can't be, since none is made
abbrev pub is_built : Step → Bool
is_built (Create proto) = is_some (layer_of proto)
is_built (Address addr) = false
is_built (AddRoute path) = false
is_built (RemoveRoute path) = false
is_built (DnsCache h name ip secs) = false
is_built other = true

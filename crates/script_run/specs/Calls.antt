-- Calls of the stack that a script's steps are.
use Rattle.std.specs.Prelude.{ℕ, ◌-◌, ◌==◌, false, List, Option, Some, None, option_map, slice_get, if◌then◌else◌}
use Rattle.efi_stack.specs.declared.any.Layer.{Layer}
use Rattle.efi_stack.specs.declared.any.AnyHandle.{AnyHandle}
use Rattle.efi_stack.specs.declared.any.AnyHandle.TheVariants as handle
use Rattle.efi_stack.specs.declared.any.AnyCfg.{AnyCfg}
use Rattle.efi_stack.specs.declared.any.AnyCfg.TheVariants as cfg
use Rattle.efi_stack.specs.declared.any.AnyWork.{AnyWork}
use Rattle.efi_stack.specs.declared.any.AnyWork.TheVariants as any_work
use Rattle.efi_stack.specs.declared.any.SnpCall.{SnpCall as DeviceCall}
use Rattle.efi_stack.specs.declared.any.SnpCall.TheVariants as device
use Rattle.efi_stack.specs.declared.any.ArpCall.TheVariants as cache
use Rattle.efi_stack.specs.declared.any.Call.{Call}
use Rattle.efi_stack.specs.declared.any.Call.TheVariants as call
use Rattle.drv_mnp.specs.declared.work.MnpWork.TheVariants.{Transmit, Receive}
use Rattle.script_text.specs.declared.handles.Handle.{Handle}
use Rattle.script_text.specs.declared.handles.Handle.TheVariants.{Created, Accepted}
use Rattle.script_text.specs.declared.settings.Settings.{Settings}
use Rattle.script_text.specs.declared.settings.Settings.TheVariants as settings
use Rattle.script_text.specs.declared.works.Work.{Work}
use Rattle.script_text.specs.declared.works.Work.TheVariants as work
use Rattle.script_text.specs.declared.step.SnpCall.{SnpCall}
use Rattle.script_text.specs.declared.step.SnpCall.TheVariants as snp
use Rattle.script_text.specs.declared.step.ArpCall.{ArpCall}
use Rattle.script_text.specs.declared.step.ArpCall.TheVariants as arp
use Rattle.script_text.specs.declared.step.Step.{Step}
use Rattle.script_text.specs.declared.step.Step.TheVariants as step
use Rattle.script_run.specs.Scope.{layer_of}

-- the child that was given as this number, counted from 1
abbrev pub child_of : List AnyHandle → Handle → Option AnyHandle
child_of given (Created n) = if n == 0 then None else slice_get given (n - 1)
child_of given (Accepted t) = None

abbrev pub snp_call_of : SnpCall → DeviceCall
snp_call_of snp.Start = device.Start
snp_call_of snp.Initialize = device.Initialize
snp_call_of snp.Shutdown = device.Shutdown
snp_call_of snp.Stop = device.Stop
snp_call_of (snp.Filters mask) = device.Filters mask

abbrev pub cfg_of : Settings → Option AnyCfg
cfg_of (settings.Mnp s) = Some (cfg.Mnp (record {
  proto = s.kind;
  unicast = s.unicast;
  multicast = s.multicast;
  broadcast = s.broadcast;
  promiscuous = s.promiscuous;
}))
cfg_of (settings.Arp s) = Some (cfg.Arp (record { ip = s.ip; entry = s.entry; tries = s.tries; gap = s.gap }))
cfg_of other = None

abbrev pub work_of : Work → Option AnyWork
work_of (work.SendFrame dest proto octets) = Some (any_work.Mnp (Transmit (record { dest = dest; proto = proto; payload = octets })))
work_of work.Receive = Some (any_work.Mnp (Receive None))
work_of (work.Request ip) = Some (any_work.Arp (record { ip = ip; mac = None }))
work_of other = None

abbrev pub configure_of : Option AnyHandle → Option AnyCfg → Option Call
configure_of None c = None
configure_of (Some child) None = None
configure_of (Some child) (Some c) = Some (call.Configure child (Some c))

abbrev pub post_of : Option AnyHandle → Option AnyWork → Option Call
post_of None w = None
post_of (Some child) None = None
post_of (Some child) (Some w) = Some (call.Post child w)

-- an entry of a script takes the place of none
abbrev pub arp_call_of : Option AnyHandle → ArpCall → Option Call
arp_call_of (Some (handle.Arp h)) (arp.Add ip mac fixed) = Some (call.Arp (cache.Add h ip mac fixed false))
arp_call_of (Some (handle.Arp h)) (arp.Find ip) = Some (call.Arp (cache.Find h ip))
arp_call_of (Some (handle.Arp h)) (arp.Delete ip) = Some (call.Arp (cache.Delete h ip))
arp_call_of (Some (handle.Arp h)) arp.Flush = Some (call.Arp (cache.Flush h))
arp_call_of child c = None

-- the call that a step is, where the child that it names was given
abbrev pub call_of : List AnyHandle → Step → Option Call
call_of given (step.Snp c) = Some (call.Snp (snp_call_of c))
call_of given (step.Create proto) = option_map (λ (l : Layer). call.Create l) (layer_of proto)
call_of given (step.Destroy h) = option_map (λ (child : AnyHandle). call.Destroy child) (child_of given h)
call_of given (step.Reset h) = option_map (λ (child : AnyHandle). call.Configure child None) (child_of given h)
call_of given (step.Configure h s) = configure_of (child_of given h) (cfg_of s)
call_of given (step.Cancel h t) = option_map (λ (child : AnyHandle). call.Cancel child t) (child_of given h)
call_of given (step.Post h w) = post_of (child_of given h) (work_of w)
call_of given (step.Arp h c) = arp_call_of (child_of given h) c
call_of given other = None

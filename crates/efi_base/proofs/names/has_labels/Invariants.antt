use Rattle.std.proofs.Common.{◌≡◌, ◌≤◌, drop}
use Rattle.std.specs.List.{list_all}
use Rattle.efi_base.specs.HostNames.{labels, is_label}
use Rattle.efi_base.proofs.LabelLaw.{labels_after}
use Rattle.efi_base.proofs.names.has_labels.Given as goal

abbrev pub invariant-loop-octet : goal.invariant-loop-octet
invariant-loop-octet l =
    (labels_after l.label (labels (drop l.octet-index l.text)) ≡ list_all is_label (labels l.text))
    × (l.label ≤ l.octet-index)

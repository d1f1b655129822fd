-- What was put, with the labels left, is what was there with the name.
use Rattle.std.proofs.Common.{◌≡◌, ◌++◌, true}
use Rattle.std.specs.List.{list_all}
use Rattle.efi_base.specs.HostNames.{is_label}
use Rattle.wire_dns.specs.Left.{labels_left, size_left}
use Rattle.wire_dns.specs.Spelling.{labels_text, name_text}
use Rattle.wire_dns.proofs.writing.put_name.Given as goal

abbrev pub invariant-loop-left : goal.invariant-loop-left
invariant-loop-left l = record {
  same : l.fn.rest.items ++ name_text l.name ≡ l.rest.items ++ labels_text (labels_left l.left);
  fit : list_all is_label (labels_left l.left) ≡ true;
}

abbrev pub decreases-loop-left : goal.decreases-loop-left
decreases-loop-left l = size_left l.left

use Rattle.std.proofs.Common.{◌≡◌, ◌+◌, Bool, ◌&&◌, ◌==◌, true, drop, get_or, sym, ap, ◌∙◌, arith}
use Rattle.std.proofs.lemmas.Bool.Decides.{nat_tests}
use Rattle.std.proofs.lemmas.List.{drop_more}
use Rattle.efi_base.specs.HostNames.{labels}
use Rattle.efi_base.proofs.LabelLaw.{labels_after, labels_whole, labels_dot}
use Rattle.efi_base.proofs.names.has_labels.Goals as goal

pub loop-octet-init : goal.loop-octet-init
loop-octet-init c = (labels_whole c.args.text.now, omega arith)

pub loop-octet-preserved : goal.loop-octet-preserved
loop-octet-preserved c =
    let text = c.args.text.now in
    let i = c.loop-octet.octet-index in
    let n = c.loop-octet.label in
    let octet = get_or text i 0 in
    let rest = drop (i + 1) text in
    let dot : (octet == 46) ≡ true = grind (arith, nat_tests, c.if-octet-ne46.false) in
    let fits = sym c.is_label_length.ensures ∙ c.if-not-is_label_length.false in (
      sym (ap (λ (t : Bool). t && labels_after 0 (labels rest)) fits) ∙ sym (labels_dot n octet rest dot)
          ∙ sym (ap (λ t. labels_after n (labels t)) (drop_more text i 0 c.loop-octet-test.true)) ∙ c.loop-octet.invariant.0,
      omega arith,
    )

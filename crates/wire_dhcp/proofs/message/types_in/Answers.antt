-- The options of all fields are counted.
use Rattle.std.proofs.Common.{◌∙◌, ap}
use Rattle.wire_dhcp.specs.Options.{count_of, items_in}
use Rattle.wire_dhcp.proofs.Fields.{count-fields}
use Rattle.wire_dhcp.proofs.message.types_in.Goals as goal

pub returns : goal.returns
returns c =
    count-fields 53 c.count-main.result c.count-file.result c.count.result c.args.octets.now
    (c.count-main.ensures.count ∙ ap (λ f. count_of 53 (items_in f)) c.options_field.ensures.field)
    (c.count-file.ensures.count ∙ ap (λ f. count_of 53 (items_in f)) c.file_options.ensures.options)
    (c.count.ensures.count ∙ ap (λ f. count_of 53 (items_in f)) c.sname_options.ensures.options)

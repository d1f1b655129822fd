-- The walk over the options, one after the other.
use Rattle.std.specs.Prelude.{◌≡◌, ℕ, ◌||◌, List, ◌∷◌, codes, Option, Some, None}
use Rattle.std.specs.List.{list_any}
use Rattle.std.specs.Option.{option_map}
use Rattle.wire_tftp.specs.declared.options.Opts.{Opts}
use Rattle.wire_tftp.specs.Options.{Item, items_in, said, is_other, opts_from}

-- what was said first counts
abbrev pub first_said : Option ℕ → Option (Option ℕ) → Option (Option ℕ)
first_said None later = later
first_said (Some n) later = Some (Some n)

-- what was read, joined with the options behind it
unfoldable pub joined : Opts → List Item → Option Opts
joined found items =
    opts_from (first_said found.blksize (said (codes "blksize") items)) (first_said found.tsize (said (codes "tsize") items))
    (found.other || list_any is_other items)

-- the options of the octets are this one and those of the rest
unfoldable pub BeginsWith : List ℕ → Item → List ℕ → Type 0
BeginsWith octets item rest = items_in octets ≡ option_map (λ items. item ∷ items) (items_in rest)

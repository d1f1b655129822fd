-- The lines that documents of version 2 have besides.
use Rattle.std.specs.Prelude.{ℕ, Bool, true, false, List, bytes_eq, codes, Option, Some, None, option_map, option_and_then, if◌then◌else◌}
use Rattle.efi_base.specs.declared.plain.Peer.{Peer}
use Rattle.text_base.specs.Addresses.{ip_of}
use Rattle.session_text.specs.Putting.{once}
use Rattle.session_text.specs.Words.{number_in, split}
use Rattle.session_text.specs.declared.second.SecondLine.{SecondLine}
use Rattle.session_text.specs.declared.second.SecondLine.TheVariants as line
use Rattle.session_text.specs.declared.second.SecondSaid.{SecondSaid}

-- `on` or `off`
abbrev pub scale_of : List ℕ → Option Bool
scale_of text =
    if bytes_eq text (codes "on") then Some true else if bytes_eq text (codes "off") then Some false else None

-- the line of this word, and what stands behind it
abbrev pub second_line : List ℕ → List ℕ → Option SecondLine
second_line key text =
    if bytes_eq key (codes "scale") then option_map line.Scale (scale_of text)
    else if bytes_eq key (codes "stations") then option_map line.Stations (number_in 1 16 text)
    else None

-- an address and a port
abbrev pub site_of_words : List ℕ → Option Peer
site_of_words text =
    option_and_then (λ w. option_and_then (λ addr. option_map (λ port. record { addr = addr; port = port }) (number_in 1 65535 w.1)) (ip_of w.0))
    (split text)

abbrev pub site_line : List ℕ → List ℕ → Option Peer
site_line key text = if bytes_eq key (codes "site") then site_of_words text else None

-- each of these lines is said once
abbrev pub put_bootfile : SecondSaid → Option SecondSaid
put_bootfile said = if said.bootfile then None else Some (record said { bootfile = true })

abbrev pub put_second : SecondSaid → SecondLine → Option SecondSaid
put_second said (line.Scale scale) = option_map (λ s. record said { scale = s }) (once said.scale scale)
put_second said line.BootFile = put_bootfile said
put_second said (line.Stations n) = option_map (λ m. record said { stations = m }) (once said.stations n)

-- The lines that tell of the station.
use Rattle.std.specs.Prelude.{ℕ, ◌==◌, ◌||◌, nat_le, List, bytes_eq, codes, Option, Some, None, option_map, option_and_then, if◌then◌else◌}
use Rattle.text_base.specs.Addresses.{ip_of}
use Rattle.session_text.specs.Putting.{once}
use Rattle.session_text.specs.Words.{where_is, behind, number_in, mac_in}
use Rattle.session_text.specs.declared.station.Choose.{Choose}
use Rattle.session_text.specs.declared.station.Choose.TheVariants as choose
use Rattle.session_text.specs.declared.station.Progress.{Progress}
use Rattle.session_text.specs.declared.station.Progress.TheVariants as progress
use Rattle.session_text.specs.declared.station.StationLine.{StationLine}
use Rattle.session_text.specs.declared.station.StationLine.TheVariants as line
use Rattle.session_text.specs.declared.station.StationSaid.{StationSaid}

-- `http`, `any`, `never`, `stop`, or `from` and an address
abbrev pub choose_of : List ℕ → Option Choose
choose_of text =
    if bytes_eq text (codes "http") then Some choose.Http
    else if bytes_eq text (codes "any") then Some choose.Any
    else if bytes_eq text (codes "never") then Some choose.Never
    else if bytes_eq text (codes "stop") then Some choose.Stop
    else option_and_then (λ from. option_map choose.From (ip_of from)) (behind (codes "from") text)

-- `go`, or `abort` and a number of octets
abbrev pub progress_of : List ℕ → Option Progress
progress_of text =
    if bytes_eq text (codes "go") then Some progress.Go
    else option_and_then (λ count. option_map progress.Abort (number_in 0 18446744073709551615 count)) (behind (codes "abort") text)

-- the octets of a block: 0 for none asked for, or from 8 to 1468
abbrev pub block_size : List ℕ → Option ℕ
block_size text = where_is (λ n. (n == 0) || nat_le 8 n) (number_in 0 1468 text)

-- the line of this word, and what stands behind it
abbrev pub station_line : List ℕ → List ℕ → Option StationLine
station_line key text =
    if bytes_eq key (codes "mac") then option_map line.Mac (mac_in text)
    else if bytes_eq key (codes "seed") then option_map line.Seed (number_in 0 4294967295 text)
    else if bytes_eq key (codes "buffer") then option_map line.Buffer (number_in 0 1073741824 text)
    else if bytes_eq key (codes "last") then option_map line.Last (number_in 0 1099511627776 text)
    else if bytes_eq key (codes "choose") then option_map line.Choose (choose_of text)
    else if bytes_eq key (codes "progress") then option_map line.Progress (progress_of text)
    else if bytes_eq key (codes "blksize") then option_map line.BlockSize (block_size text)
    else None

-- each line of the station is said once
abbrev pub put_station : StationSaid → StationLine → Option StationSaid
put_station said (line.Mac mac) = option_map (λ m. record said { mac = m }) (once said.mac mac)
put_station said (line.Seed n) = option_map (λ s. record said { seed = s }) (once said.seed n)
put_station said (line.Buffer n) = option_map (λ b. record said { buffer = b }) (once said.buffer n)
put_station said (line.Last n) = option_map (λ l. record said { last = l }) (once said.last n)
put_station said (line.Choose c) = option_map (λ d. record said { choose = d }) (once said.choose c)
put_station said (line.Progress p) = option_map (λ q. record said { progress = q }) (once said.progress p)
put_station said (line.BlockSize n) = option_map (λ b. record said { blksize = b }) (once said.blksize n)

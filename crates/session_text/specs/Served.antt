-- The lines that tell what a site serves.
use Rattle.std.specs.Prelude.{ℕ, List, bytes_eq, codes, Option, Some, None, option_map, option_and_then, if◌then◌else◌}
use Rattle.session_text.specs.Putting.{once}
use Rattle.session_text.specs.Words.{behind, number_in}
use Rattle.session_text.specs.declared.served.Framing.{Framing}
use Rattle.session_text.specs.declared.served.Framing.TheVariants as framing
use Rattle.session_text.specs.declared.served.Finish.{Finish}
use Rattle.session_text.specs.declared.served.Finish.TheVariants as finish
use Rattle.session_text.specs.declared.served.ServedLine.{ServedLine}
use Rattle.session_text.specs.declared.served.ServedLine.TheVariants as line
use Rattle.session_text.specs.declared.served.SiteSaid.{SiteSaid}

-- `length`, `close`, or `chunked` and the octets of a chunk
abbrev pub framing_of : List ℕ → Option Framing
framing_of text =
    if bytes_eq text (codes "length") then Some framing.Length
    else if bytes_eq text (codes "close") then Some framing.Close
    else option_and_then (λ size. option_map framing.Chunked (number_in 1 65536 size)) (behind (codes "chunked") text)

-- `fin` or `rst`
abbrev pub finish_of : List ℕ → Option Finish
finish_of text =
    if bytes_eq text (codes "fin") then Some finish.Fin else if bytes_eq text (codes "rst") then Some finish.Rst else None

-- the line of this word, and what stands behind it
abbrev pub served_line : List ℕ → List ℕ → Option ServedLine
served_line key text =
    if bytes_eq key (codes "mss") then option_map line.Mss (number_in 64 1460 text)
    else if bytes_eq key (codes "status") then option_map line.Status (number_in 200 599 text)
    else if bytes_eq key (codes "interim") then option_map line.Interim (number_in 0 8 text)
    else if bytes_eq key (codes "framing") then option_map line.Framing (framing_of text)
    else if bytes_eq key (codes "finish") then option_map line.Finish (finish_of text)
    else None

-- each of these lines is said once for a site
abbrev pub put_served : SiteSaid → ServedLine → Option SiteSaid
put_served said (line.Mss n) = option_map (λ m. record said { mss = m }) (once said.mss n)
put_served said (line.Status n) = option_map (λ s. record said { status = s }) (once said.status n)
put_served said (line.Interim n) = option_map (λ i. record said { interim = i }) (once said.interim n)
put_served said (line.Framing f) = option_map (λ g. record said { framing = g }) (once said.framing f)
put_served said (line.Finish f) = option_map (λ g. record said { finish = g }) (once said.finish f)

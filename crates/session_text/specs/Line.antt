-- A line by itself: its kind, and what its words tell.
use Rattle.std.specs.Prelude.{ℕ, Bool, ◌&&◌, nat_le, List, length, bytes_eq, codes, Option, Some, None, option_map, if◌then◌else◌}
use Rattle.std.specs.Option.{option_or}
use Rattle.std.specs.List.{list_all}
use Rattle.session_text.specs.Image.{piece_of}
use Rattle.session_text.specs.Lan.{lan_line}
use Rattle.session_text.specs.Names.{name_line}
use Rattle.session_text.specs.Schedule.{rule_line}
use Rattle.session_text.specs.Second.{second_line, site_line}
use Rattle.session_text.specs.Served.{served_line}
use Rattle.session_text.specs.Station.{station_line}
use Rattle.session_text.specs.Words.{split}
use Rattle.session_text.specs.declared.second.SecondLine.TheVariants.{BootFile}
use Rattle.session_text.specs.declared.line.Version.{Version}
use Rattle.session_text.specs.declared.line.Version.TheVariants.{One, Two}
use Rattle.session_text.specs.declared.line.Line.{Line}
use Rattle.session_text.specs.declared.line.Line.TheVariants as line

-- the first line
abbrev pub first_line : List ℕ → List ℕ → Option Version
first_line key text =
    if bytes_eq key (codes "efiboot")
    then (if bytes_eq text (codes "1") then Some One else if bytes_eq text (codes "2") then Some Two else None) else None

-- a line of one word
abbrev pub bare_line : List ℕ → Option Line
bare_line text =
    if bytes_eq text (codes "end") then Some line.End
    else if bytes_eq text (codes "bootfile") then Some (line.Second BootFile) else None

abbrev pub plain_line : List ℕ → List ℕ → Option Line
plain_line key text =
    option_or (option_map line.First (first_line key text))
    (option_or (option_map line.Station (station_line key text))
    (option_or (option_map line.Lan (lan_line key text))
    (option_or (option_map line.Name (name_line key text))
    (option_or (option_map line.Rule (rule_line key text))
    (option_or (option_map line.Second (second_line key text))
    (option_or (option_map line.Site (site_line key text))
    (option_map line.Served (served_line key text))))))))

-- an ASCII character that is seen, and one that is that or a space
abbrev pub is_visible : ℕ → Bool
is_visible b = nat_le 33 b && nat_le b 126

abbrev pub is_printable : ℕ → Bool
is_printable b = nat_le 32 b && nat_le b 126

-- from one octet up to so many
abbrev pub text_within : ℕ → List ℕ → Bool
text_within most text = nat_le 1 (length text) && nat_le (length text) most

abbrev pub uri_of : List ℕ → Option (List ℕ)
uri_of text = if text_within 255 text && list_all is_visible text then Some text else None

abbrev pub header_of : List ℕ → Option (List ℕ)
header_of text = if text_within 200 text && list_all is_printable text then Some text else None

-- a line whose octets are kept
abbrev pub kept_line : List ℕ → List ℕ → Option Line
kept_line key text =
    if bytes_eq key (codes "uri") then option_map line.Uri (uri_of text)
    else if bytes_eq key (codes "header") then option_map line.Header (header_of text)
    else if bytes_eq key (codes "image") then option_map line.Image (piece_of text)
    else None

-- the kinds have different words, so that at most one of them fits
abbrev pub line_from : List ℕ → Option (List ℕ × List ℕ) → Option Line
line_from text None = bare_line text
line_from text (Some w) = option_or (plain_line w.0 w.1) (kept_line w.0 w.1)

abbrev pub line_of : List ℕ → Option Line
line_of text = line_from text (split text)

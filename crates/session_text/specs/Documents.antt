-- Session documents: which line may stand behind which, and what all of them say.
use Rattle.std.specs.Prelude.{ℕ, ◌+◌, Bool, true, false, ◌&&◌, ◌==◌, not, nat_lt, List, [], ◌∷◌, ◌++◌, length, Option, Some, None, option_map, option_and_then, if◌then◌else◌}
use Rattle.std.specs.Option.{is_none}
use Rattle.efi_base.specs.declared.plain.Peer.{Peer}
use Rattle.session_text.specs.Drafts.{here, lease_of}
use Rattle.session_text.specs.Ending.{end_fits}
use Rattle.session_text.specs.Image.{piece_length}
use Rattle.session_text.specs.Lan.{put_lan}
use Rattle.session_text.specs.Line.{line_of}
use Rattle.session_text.specs.Names.{put_name}
use Rattle.session_text.specs.Putting.{once}
use Rattle.session_text.specs.Schedule.{put_rule}
use Rattle.session_text.specs.Second.{put_second}
use Rattle.session_text.specs.Served.{put_served}
use Rattle.session_text.specs.Sites.{new_site, site_of, same_peer, has_peer}
use Rattle.session_text.specs.Station.{put_station}
use Rattle.session_text.specs.declared.draft.Draft.{Draft}
use Rattle.session_text.specs.declared.image.Piece.{Piece}
use Rattle.session_text.specs.declared.line.Version.{Version}
use Rattle.session_text.specs.declared.line.Version.TheVariants.{One, Two}
use Rattle.session_text.specs.declared.line.Line.{Line}
use Rattle.session_text.specs.declared.line.Line.TheVariants as line

abbrev pub is_second : Version → Bool
is_second One = false
is_second Two = true

-- The first line stands once. Lines of version 2 stand in its documents alone. Behind the first line `site` stand those that
-- tell of a site, further sites, and the last line.
abbrev pub may_stand : Version → Bool → Line → Bool
may_stand version front (line.First first) = false
may_stand version front (line.Station said) = front
may_stand version front (line.Lan said) = front
may_stand version front (line.Uri uri) = front
may_stand version front (line.Name said) = front
may_stand version front (line.Rule rule) = front
may_stand version front (line.Second said) = front && is_second version
may_stand version front (line.Site at) = is_second version
may_stand version front (line.Served said) = true
may_stand version front (line.Header header) = true
may_stand version front (line.Image piece) = true
may_stand version front line.End = true

-- at most 8 field lines of a site
abbrev pub put_header : List (List ℕ) → List ℕ → Option (List (List ℕ))
put_header headers header = if nat_lt (length headers) 8 then Some (headers ++ (header ∷ [])) else None

-- all images together are under 1073741824 octets
abbrev pub put_piece : Draft → Piece → Option Draft
put_piece d piece =
    if nat_lt (d.octets + piece_length piece) 1073741824
    then Some (record d { octets = d.octets + piece_length piece; site = record d.site { image = d.site.image ++ (piece ∷ []) } })
    else None

-- no site stands there, and it isn't the leased address
abbrev pub is_free : Draft → Peer → Bool
is_free d at = not (at.addr.0 == (lease_of d).ip.0) && (not (same_peer (here d) at) && not (has_peer d.sites at))

-- at most 7 lines that begin a site
abbrev pub put_site : Draft → Peer → Option Draft
put_site d at =
    if nat_lt (length d.sites) 7 && is_free d at
    then Some (record d { sites = d.sites ++ (site_of (here d) d.site ∷ []); site = new_site; at = Some at })
    else None

abbrev pub put_end : Draft → Option Draft
put_end d = if end_fits d then Some (record d { ended = true }) else None

abbrev pub put_line : Draft → Line → Option Draft
put_line d (line.First version) = None
put_line d (line.Station said) = option_map (λ s. record d { station = s }) (put_station d.station said)
put_line d (line.Lan said) = option_map (λ l. record d { lan = l }) (put_lan d.lan said)
put_line d (line.Uri uri) = option_map (λ u. record d { uri = u }) (once d.uri uri)
put_line d (line.Name said) = option_map (λ n. record d { names = n }) (put_name d.names said)
put_line d (line.Rule rule) = option_map (λ r. record d { rules = r }) (put_rule d.rules rule)
put_line d (line.Second said) = option_map (λ s. record d { second = s }) (put_second d.second said)
put_line d (line.Site at) = put_site d at
put_line d (line.Served said) = option_map (λ s. record d { site = s }) (put_served d.site said)
put_line d (line.Header header) = option_map (λ h. record d { site = record d.site { headers = h } }) (put_header d.site.headers header)
put_line d (line.Image piece) = put_piece d piece
put_line d line.End = put_end d

-- the first line tells the version
abbrev pub put_first : Draft → Line → Option Draft
put_first d (line.First version) = Some (record d { version = Some version })
put_first d _ = None

abbrev pub said_behind : Option Version → Draft → Line → Option Draft
said_behind None d said = put_first d said
said_behind (Some version) d said = if may_stand version (is_none d.at) said then put_line d said else None

-- what is said behind one line more: nothing stands behind the last
unfoldable pub session_next : Draft → List ℕ → Option Draft
session_next d text = if d.ended then None else option_and_then (said_behind d.version d) (line_of text)

abbrev pub is_ended : Draft → Bool
is_ended d = d.ended

-- The request of a load (RFC 9112, section 3; RFC 9110, section 7.2): GET in origin form, without the fragment, the user
-- name and the password.
use Rattle.std.specs.Prelude.{ℕ, ◌==◌, List, [], ◌∷◌, ◌++◌, codes, decimal, Option, Some, None, if◌then◌else◌}
use Rattle.std.specs.List.{concat}
use Rattle.httparse.specs.Ascii.{crlf_bytes}
use Rattle.url.specs.declared.host.Host.{Host}
use Rattle.url.specs.Parts.{Parts}
use Rattle.url.specs.Host.{host_text}
use Rattle.wire_http.specs.Uris.{port_of}

-- `?` and the query where there is one, an empty one too
abbrev pub query_text : Option (List ℕ) → List ℕ
query_text None = []
query_text (Some query) = codes "?" ++ query

-- the path and query
abbrev pub target_text : Parts → List ℕ
target_text url = url.path ++ query_text url.query

-- `:` and the port, where it isn't 80
abbrev pub port_text : ℕ → List ℕ
port_text port = if port == 80 then [] else codes ":" ++ decimal port

-- the host as the URL writes it
abbrev pub host_part : Option (Host (List ℕ)) → List ℕ
host_part None = []
host_part (Some host) = host_text host

-- the host, and the port where it isn't 80
abbrev pub authority_text : Parts → List ℕ
authority_text url = host_part url.host ++ port_text (port_of url)

-- the request, in pieces
abbrev pub request_pieces : Parts → List (List ℕ)
request_pieces url =
    codes "GET "
    ∷ target_text url
    ∷ codes " HTTP/1.1"
    ∷ crlf_bytes
    ∷ codes "Host: "
    ∷ authority_text url
    ∷ crlf_bytes
    ∷ codes "User-Agent: efiboot"
    ∷ crlf_bytes
    ∷ codes "Accept: */*"
    ∷ crlf_bytes
    ∷ codes "Connection: close"
    ∷ crlf_bytes
    ∷ crlf_bytes
    ∷ []

-- the head of the request, which is all of it
abbrev pub request_text : Parts → List ℕ
request_text url = concat (request_pieces url)

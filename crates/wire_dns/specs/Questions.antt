-- The questions of a station: the address of a name, and the name of an address (RFC 1035, section 3.5).
use Rattle.std.specs.Prelude.{ℕ, ◌/◌, ◌%◌, true, List, [], ◌∷◌, ◌++◌, codes, decimal}
use Rattle.wire_dns.specs.declared.message.Query.{Query}

-- a number, and a dot
abbrev pub octet_label : ℕ → List ℕ
octet_label n = decimal n ++ (46 ∷ [])

-- the four octets of an address, the last first, and `in-addr.arpa`
unfoldable pub pointer_name : ℕ → List ℕ
pointer_name ip =
    octet_label (ip % 256) ++ octet_label (ip / 256 % 256) ++ octet_label (ip / 65536 % 256) ++ octet_label (ip / 16777216) ++ codes "in-addr.arpa"

-- the question of type A for a name
abbrev pub address_question : ℕ → List ℕ → Query
address_question id name = record { id = id; rd = true; name = name; kind = 1 }

-- the question of type PTR for an address
abbrev pub pointer_question : ℕ → ℕ → Query
pointer_question id ip = record { id = id; rd = true; name = pointer_name ip; kind = 12 }

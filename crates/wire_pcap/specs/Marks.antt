-- By what a header is known.
use Rattle.std.specs.Prelude.{◌≡◌, ℕ, List, length, take, drop}
use Rattle.wire_pcap.specs.Grammar.{Form, front_of, link_of}

-- the octets are those wanted, as far as both go
abbrev pub Agree : List ℕ → List ℕ → Type 0
Agree octets wanted = take (length wanted) octets ≡ take (length octets) wanted

-- the octets begin as a header of this form does, and have its link type, as far as they go
pub record HasMarks (form : Form) (bytes : List ℕ) : Type 0 where
  pub front : Agree bytes (front_of form)
  pub link : Agree (drop 20 bytes) (link_of form)

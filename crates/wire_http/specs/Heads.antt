-- The heads of a response (RFC 9112, section 2.1, RFC 9110, section 15.2): interim ones, and the final one. Their
-- grammar is that of the crate that parses them, in its default configuration.
use Rattle.std.specs.Prelude.{◌≡◌, ℕ, ◌+◌, ◌≤◌, Bool, ◌&&◌, ◌==◌, not, nat_le, List, ◌++◌, length, map, IsTrue}
use Rattle.std.specs.List.{flat_map, AllByRecursion}
use Rattle.httparse.specs.Grammar.{ResponseHead, IsResponseHead, print_response, status_code}
use Rattle.httparse.specs.Spans.{name_and_value}
use Rattle.wire_http.specs.Fields.{Pair}

-- the fields of a head
abbrev pub fields_of : ResponseHead → List Pair
fields_of head = map name_and_value head.fields

-- a head with at most 64 fields
pub record IsHead (head : ResponseHead) : Type 0 where
  pub valid : IsResponseHead head
  pub few : length head.fields ≤ 64

-- the octets begin with a head, and the rest follows it
pub record ReadsHead (bytes : List ℕ) (head : ResponseHead) (rest : List ℕ) : Type 0 where
  pub is_head : IsHead head
  pub text : bytes ≡ print_response head ++ rest

-- a head that another one follows: of status 100 to 199, but 101, which ends the exchange
abbrev pub is_interim : ResponseHead → Bool
is_interim head = nat_le 100 (status_code head) && (nat_le (status_code head) 199 && not (status_code head == 101))

-- the stream is interim heads, the final head, and a rest; all heads together have at most 16,384 octets
pub record HasHeads (stream : List ℕ) (interim : List ResponseHead) (final : ResponseHead) (rest : List ℕ) : Type 0 where
  pub valid : AllByRecursion IsHead interim
  pub are_interim : AllByRecursion (λ head. IsTrue (is_interim head)) interim
  pub final_valid : IsHead final
  pub is_final : IsTrue (not (is_interim final))
  pub short : length (flat_map print_response interim) + length (print_response final) ≤ 16384
  pub text : stream ≡ flat_map print_response interim ++ (print_response final ++ rest)

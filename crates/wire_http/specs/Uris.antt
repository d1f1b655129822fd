-- The URIs that a load can be asked for (RFC 9110, section 4.2.1). What the octets mean is told by the parser of the URL
-- Standard, whose definition stands in the crate that parses them. Here stands which of its URLs are taken, and why
-- another one isn't.
use Rattle.std.specs.Prelude.{◌≡◌, ◌⊎◌, ℕ, Bool, false, not, nat_eq, List, bytes_eq, codes, Option, Some, None, Result, Ok, Err, unwrap_or, if◌then◌else◌}
use Rattle.std.specs.Option.{option_eq}
use Rattle.std.specs.Str.{is_utf8}
use Rattle.std.specs.Net.Addr.{ipv4_bits}
use Rattle.url.specs.declared.error.ParseError.{ParseError}
use Rattle.url.specs.declared.error.ParseError.TheVariants.{EmptyHost, IdnaError, InvalidPort, InvalidIpv4Address, InvalidIpv6Address, InvalidDomainCharacter, RelativeUrlWithoutBase, RelativeUrlWithCannotBeABaseBase, SetHostOnCannotBeABaseUrl, Overflow, CannotSet, OutOfMemory}
use Rattle.url.specs.declared.host.Host as url_host
use Rattle.url.specs.declared.host.Host.TheVariants.{Domain, Ipv4, Ipv6}
use Rattle.url.specs.Parts.{Parts}
use Rattle.url.specs.Parser.{Parsed, parse_url}
use Rattle.wire_http.specs.declared.hosts.Host.{Host}
use Rattle.wire_http.specs.declared.hosts.Host.TheVariants.{At, Named}
use Rattle.wire_http.specs.declared.uri_fault.UriFault.{UriFault}
use Rattle.wire_http.specs.declared.uri_fault.UriFault.TheVariants as fault
use Rattle.efi_base.specs.Addresses.{is_unicast}
use Rattle.efi_base.specs.HostNames.{is_host_name}

-- a host that can be asked: a unicast IPv4 address, or a name
abbrev pub is_plain_host : Option (url_host.Host (List ℕ)) → Bool
is_plain_host None = false
is_plain_host (Some (Domain name)) = is_host_name name
is_plain_host (Some (Ipv4 address)) = is_unicast (ipv4_bits address)
is_plain_host (Some (Ipv6 address)) = false

-- why a URL isn't taken, by the first cause in this order: port 0, another scheme, another host
abbrev pub refusal_of : Parts → Option UriFault
refusal_of url =
    if option_eq nat_eq url.port (Some 0) then Some fault.Bad
    else if not (bytes_eq url.scheme (codes "http")) then Some fault.Scheme
    else if not (is_plain_host url.host) then Some fault.Host
    else None

-- the URL, unless there is a cause against it
abbrev pub unless_refused : Option UriFault → Parts → Result Parts UriFault
unless_refused None url = Ok url
unless_refused (Some cause) url = Err cause

-- the URL that was parsed, if it is taken
abbrev pub taken : Parsed Parts → Result Parts UriFault
taken (Ok url) = unless_refused (refusal_of url) url
taken (Err error) = Err fault.Bad

-- want of memory, and a URL that is longer than 32 bits count, are told as want of resources, and every other cause of
-- the parser as a bad URL
abbrev pub fault_of : ParseError → UriFault
fault_of EmptyHost = fault.Bad
fault_of IdnaError = fault.Bad
fault_of InvalidPort = fault.Bad
fault_of InvalidIpv4Address = fault.Bad
fault_of InvalidIpv6Address = fault.Bad
fault_of InvalidDomainCharacter = fault.Bad
fault_of RelativeUrlWithoutBase = fault.Bad
fault_of RelativeUrlWithCannotBeABaseBase = fault.Bad
fault_of SetHostOnCannotBeABaseUrl = fault.Bad
fault_of Overflow = fault.OutOfResources
fault_of CannotSet = fault.Bad
fault_of OutOfMemory = fault.OutOfResources

-- what is answered to what the parser made of a text
abbrev pub answer_to : Parsed Parts → Result Parts UriFault
answer_to (Ok url) = unless_refused (refusal_of url) url
answer_to (Err error) = Err (fault_of error)

-- the URI that the octets write behind a base, or why they write none; octets that aren't UTF-8 are no URL
abbrev pub uri_from : Option Parts → List ℕ → Result Parts UriFault
uri_from base text = if is_utf8 text then taken (parse_url base text) else Err fault.Bad

-- the URI that the octets write by themselves
abbrev pub uri_of : List ℕ → Result Parts UriFault
uri_of text = uri_from None text

-- the URI that a Location field names for whoever asked for the base (RFC 9110, section 10.2.2)
abbrev pub location_of : Parts → List ℕ → Result Parts UriFault
location_of base text = uri_from (Some base) text

-- the answer is this one, or that there was no memory
abbrev pub AnswersUri : Result Parts UriFault → Result Parts UriFault → Type 0
AnswersUri (Ok uri) expected = expected ≡ Ok uri
AnswersUri (Err cause) expected = (cause ≡ fault.OutOfResources) ⊎ (expected ≡ Err cause)

-- the port of the connection
abbrev pub port_of : Parts → ℕ
port_of url = unwrap_or url.port 80

-- the host: an address as a number, or a name
abbrev pub host_of : Option (url_host.Host (List ℕ)) → Option Host
host_of None = None
host_of (Some (Domain name)) = Some (Named name)
host_of (Some (Ipv4 address)) = Some (At (record { 0 = ipv4_bits address }))
host_of (Some (Ipv6 address)) = None

-- One label, a zero or a pointer, in front of the octets behind it (RFC 1035, section 4.1.4).
use Rattle.std.specs.Prelude.{◌≡◌, ℕ, zero, suc, ◌+◌, ◌<◌, ◌≤◌, List, [], ◌∷◌, ◌++◌, length, drop, Option, Some, None}
use Rattle.std.specs.Option.{option_map, option_and_then}
use Rattle.wire_dns.specs.declared.names.Part.{Part}
use Rattle.wire_dns.specs.declared.names.Part.TheVariants.{End, Label, Pointer}
use Rattle.wire_dns.specs.Names.{spelled, spelled_size, kept}

-- the zero ends the name
pub record Ends (octets : List ℕ) : Type 0 where
  pub within : 1 ≤ length octets
  pub spells : (led : ℕ → Option (List ℕ)) → spelled led zero octets ≡ Some []
  pub size : spelled_size zero octets ≡ 1

-- a label, and what follows it
pub record Begins (octets label : List ℕ) : Type 0 where
  pub within : length label < length octets
  pub spells : (led : ℕ → Option (List ℕ)) → spelled led zero octets ≡ option_map (λ text. (46 ∷ label) ++ text) (spelled led zero (drop (suc (length label)) octets))
  pub size : spelled_size zero octets ≡ suc (length label) + spelled_size zero (drop (suc (length label)) octets)

-- a pointer to the target
pub record Leads (octets : List ℕ) (target : ℕ) : Type 0 where
  pub within : 2 ≤ length octets
  pub spells : (led : ℕ → Option (List ℕ)) → spelled led zero octets ≡ led target
  pub size : spelled_size zero octets ≡ 2

-- what stands in front of the octets; nothing where none of the three does
abbrev pub IsPart : List ℕ → Option Part → Type 0
IsPart octets None = (led : ℕ → Option (List ℕ)) → spelled led zero octets ≡ None
IsPart octets (Some End) = Ends octets
IsPart octets (Some (Label label)) = Begins octets label.now
IsPart octets (Some (Pointer target)) = Leads octets target

-- what follows the labels of a run: nothing, or what stands where its pointer leads
abbrev pub tail_of : (ℕ → Option (List ℕ)) → Option ℕ → Option (List ℕ)
tail_of led None = Some []
tail_of led (Some target) = led target

-- this text, and then what follows it
abbrev pub followed : List ℕ → Option (List ℕ) → Option (List ℕ)
followed text rest = option_map (λ more. text ++ more) rest

-- too long, or not spelled at all
abbrev pub NoName : List ℕ → List ℕ → Type 0
NoName text octets = (led : ℕ → Option (List ℕ)) → option_and_then kept (followed text (spelled led zero octets)) ≡ None

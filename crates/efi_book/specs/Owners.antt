-- To whom a token belongs: a caller, or a driver above.
use Rattle.std.specs.Prelude.{ℕ, Bool, true, false, ◌==◌, ◌&&◌, if◌then◌else◌, Result, Ok, Err}
use Rattle.efi_base.specs.declared.tokens.TokenId.{TokenId}
use Rattle.efi_base.specs.declared.tokens.Owner.{Owner}
use Rattle.efi_base.specs.declared.tokens.Owner.TheVariants.{User, Upper}
use Rattle.efi_base.specs.declared.tokens.Proto.{Proto}
use Rattle.efi_base.specs.declared.tokens.Proto.TheVariants.{Mnp, Arp, Ip4, Udp4, Tcp4, Dhcp4, Dns4, Mtftp4, Http, Boot}

abbrev pub is_user : Owner → Bool
is_user (User token) = true
is_user (Upper proto ticket) = false

-- the owner is this token of a caller
abbrev pub is_users : Owner → TokenId → Bool
is_users (User t) token = t.0 == token.0
is_users (Upper proto ticket) token = false

-- a number for each protocol
abbrev pub proto_number : Proto → ℕ
proto_number Mnp = 1
proto_number Arp = 2
proto_number Ip4 = 3
proto_number Udp4 = 4
proto_number Tcp4 = 5
proto_number Dhcp4 = 6
proto_number Dns4 = 7
proto_number Mtftp4 = 8
proto_number Http = 9
proto_number Boot = 10

abbrev pub same_owner : Owner → Owner → Bool
same_owner (User t) (User u) = t.0 == u.0
same_owner (User t) (Upper q u) = false
same_owner (Upper p t) (User u) = false
same_owner (Upper p t) (Upper q u) = proto_number p == proto_number q && t.0 == u.0

-- how often this is the owner
abbrev pub counts : Owner → Owner → ℕ
counts o p = if same_owner p o then 1 else 0

-- how many tokens of this owner an answer took in, where it speaks of a token of the second owner
abbrev pub gained : {T E : Type 0} → Owner → Owner → Result T E → ℕ
gained o owner (Ok t) = counts o owner
gained o owner (Err e) = 0

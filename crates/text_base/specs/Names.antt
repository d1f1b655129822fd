-- Names of stations in a text (RFC 1123, section 2.1, but for hyphens at the ends of labels).
use Rattle.std.specs.Prelude.{ℕ, Bool, ◌&&◌, ◌||◌, ◌==◌, nat_le, List}
use Rattle.std.specs.List.{list_all}
use Rattle.std.specs.Char.{is_ascii_digit}
use Rattle.efi_base.specs.HostNames.{is_host_name}

-- a letter, a digit, a hyphen, or the dot between labels
abbrev pub is_name_octet : ℕ → Bool
is_name_octet b =
    (nat_le 97 b && nat_le b 122) || ((nat_le 65 b && nat_le b 90) || (is_ascii_digit b || ((b == 45) || (b == 46))))

-- a name of a host that is spelled with these octets alone
abbrev pub is_name : List ℕ → Bool
is_name text = is_host_name text && list_all is_name_octet text

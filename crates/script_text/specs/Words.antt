-- The words of a line, taken one by one from its front. What is left is none where the last word was taken.
use Rattle.std.specs.Prelude.{ℕ, Bool, true, false, List, bytes_eq, codes, Option, Some, None, option_map, option_and_then, if◌then◌else◌}
use Rattle.efi_base.specs.declared.plain.Addr.{Addr}
use Rattle.efi_base.specs.declared.plain.Ip4.{Ip4}
use Rattle.efi_base.specs.declared.plain.Mac.{Mac}
use Rattle.efi_base.specs.declared.plain.Peer.{Peer}
use Rattle.text_base.specs.Addresses.{ip_of, mac_of}
use Rattle.text_base.specs.Words.{front_of, rest_of}
use Rattle.session_text.specs.Names.{name_of}
use Rattle.session_text.specs.Words.{number_in}

-- go on with a value that is there
abbrev pub with : {A B : Type 0} → Option A → (A → Option B) → Option B
with found next = option_and_then next found

-- the value, where no word is left behind it
abbrev pub finished : {A : Type 0} → Option (List ℕ) → A → Option A
finished None value = Some value
finished (Some text) value = None

-- the next word, and what is left behind it
abbrev pub taken : Option (List ℕ) → Option (List ℕ × Option (List ℕ))
taken words = option_map (λ text. (front_of 32 text, rest_of 32 text)) words

-- the next word is this one
abbrev pub behind : List ℕ → Option (List ℕ) → Option (Option (List ℕ))
behind word words = with (taken words) (λ w. if bytes_eq w.0 word then Some w.1 else None)

-- the next word may be one that stands by itself
abbrev pub flag : Option (Option (List ℕ)) → Option (List ℕ) → Bool × Option (List ℕ)
flag None words = (false, words)
flag (Some left) words = (true, left)

-- the next word is a value
abbrev pub value_next : {A : Type 0} → (List ℕ → Option A) → Option (List ℕ) → Option (A × Option (List ℕ))
value_next read words = with (taken words) (λ w. option_map (λ a. (a, w.1)) (read w.0))

abbrev pub number_next : ℕ → ℕ → Option (List ℕ) → Option (ℕ × Option (List ℕ))
number_next least most words = value_next (number_in least most) words

abbrev pub ip_next : Option (List ℕ) → Option (Ip4 × Option (List ℕ))
ip_next words = value_next ip_of words

abbrev pub mac_next : Option (List ℕ) → Option (Mac × Option (List ℕ))
mac_next words = value_next mac_of words

abbrev pub name_next : Option (List ℕ) → Option (List ℕ × Option (List ℕ))
name_next words = value_next name_of words

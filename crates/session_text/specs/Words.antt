-- Words within a line, parted by single spaces, and their ranges.
use Rattle.std.specs.Prelude.{ℕ, zero, suc, ◌%◌, ◌==◌, Bool, nat_le, nat_lt, List, [], ◌∷◌, ◌++◌, length, slice_index, bytes_eq, Option, Some, None, option_map, option_and_then, if◌then◌else◌}
use Rattle.efi_base.specs.declared.plain.Ip4.{Ip4}
use Rattle.efi_base.specs.declared.plain.Mac.{Mac}
use Rattle.efi_base.specs.Addresses.{is_unicast}
use Rattle.text_base.specs.Addresses.{ip_of, mac_of}
use Rattle.text_base.specs.Numbers.{number_of}
use Rattle.text_base.specs.Words.{front_of, rest_of}

-- the value, where it passes the test
abbrev pub where_is : {A : Type 0} → (A → Bool) → Option A → Option A
where_is test found = option_and_then (λ a. if test a then Some a else None) found

-- the first word, and what stands behind its space
abbrev pub split : List ℕ → Option (List ℕ × List ℕ)
split text = option_map (λ rest. (front_of 32 text, rest)) (rest_of 32 text)

-- what stands behind this word
abbrev pub behind : List ℕ → List ℕ → Option (List ℕ)
behind word text = option_and_then (λ w. if bytes_eq w.0 word then Some w.1 else None) (split text)

-- a number within a range
abbrev pub number_in : ℕ → ℕ → List ℕ → Option ℕ
number_in least most text = where_is (nat_le least) (number_of most text)

-- an IPv4 address that one station can have
abbrev pub unicast_ip : List ℕ → Option Ip4
unicast_ip text = where_is (λ ip. is_unicast ip.0) (ip_of text)

-- an Ethernet address that one station can have: its first octet is even (IEEE 802, section 8.2)
abbrev pub mac_in : List ℕ → Option Mac
mac_in text = where_is (λ mac. slice_index mac.0 0 % 2 == 0) (mac_of text)

-- the last word, or one with others behind it
abbrev pub words_from : {A : Type 0} → (List ℕ → Option A) → (List ℕ → Option (List A)) → List ℕ → Option (List ℕ × List ℕ) → Option (List A)
words_from word more text None = option_map (λ a. a ∷ []) (word text)
words_from word more text (Some w) = option_and_then (λ a. option_map (λ later. a ∷ later) (more w.1)) (word w.0)

-- from one word up to so many
unfoldable pub few_words : {A : Type 0} → (List ℕ → Option A) → ℕ → List ℕ → Option (List A)
few_words word zero text = None
few_words word (suc n) text = words_from word (few_words word n) text (split text)

-- a word behind others, which are fewer than so many
abbrev pub put_word : {A : Type 0} → (List ℕ → Option A) → ℕ → List A → List ℕ → Option (List A)
put_word word most items text = option_and_then (λ a. if nat_lt (length items) most then Some (items ++ (a ∷ [])) else None) (word text)

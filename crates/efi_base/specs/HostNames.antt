-- The names of hosts (RFC 1035, section 2.3.4): labels joined by dots.
use Rattle.std.specs.Prelude.{ℕ, Bool, ◌&&◌, ◌==◌, nat_le, List, [], ◌∷◌, length, if◌then◌else◌}
use Rattle.std.specs.List.{list_all}

-- one octet more in front of the first
abbrev pub grow : ℕ → List (List ℕ) → List (List ℕ)
grow b [] = (b ∷ []) ∷ []
grow b (x ∷ xs) = (b ∷ x) ∷ xs

-- the labels: what stands between the dots
abbrev pub labels : List ℕ → List (List ℕ)
labels [] = [] ∷ []
labels (b ∷ bytes) = if b == 46 then [] ∷ labels bytes else grow b (labels bytes)

-- 1 to 63 octets
abbrev pub is_label_length : ℕ → Bool
is_label_length n = nat_le 1 n && nat_le n 63

abbrev pub is_label : List ℕ → Bool
is_label label = is_label_length (length label)

-- each label is one, and all with their dots are at most 253 octets
abbrev pub is_host_name : List ℕ → Bool
is_host_name text = nat_le (length text) 253 && list_all is_label (labels text)

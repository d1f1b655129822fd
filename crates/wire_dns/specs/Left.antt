-- What is left of a name while it is written, label by label.
use Rattle.std.specs.Prelude.{ℕ, ◌+◌, List, [], length, Option, Some, None}
use Rattle.std.specs.Borrow.{Bor}
use Rattle.efi_base.specs.HostNames.{labels}

-- no labels, or those of what stands behind a dot
abbrev pub labels_left : Option (Bor (List ℕ)) → List (List ℕ)
labels_left None = []
labels_left (Some text) = labels text.now

-- its octets, with the dot in front
abbrev pub size_left : Option (Bor (List ℕ)) → ℕ
size_left None = 0
size_left (Some text) = length text.now + 1

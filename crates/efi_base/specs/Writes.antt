-- What a writer of a format does.
use Rattle.std.specs.Prelude.{◌≡◌, ℕ, ◌<◌, ◌≤◌, List, ◌++◌, length, drop, Result, Ok, Err}
use Rattle.efi_base.specs.declared.fault.NoRoom.{NoRoom}

-- The writer put the text in front of the room, left what is behind it and answered the text's length; or it answered
-- that the text is longer than the room, and left all of it.
abbrev pub Writes : List ℕ → List ℕ → Result ℕ NoRoom → List ℕ → Type 0
Writes text old (Ok n) now = (n ≡ length text) × (length text ≤ length old) × (now ≡ text ++ drop (length text) old)
Writes text old (Err no_room) now = (length old < length text) × (now ≡ old)

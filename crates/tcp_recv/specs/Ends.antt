-- The stream's end, as a window tells it.
use Rattle.std.specs.Prelude.{ℕ, ◌+◌, ◌-◌, ◌^◌, Bool, true, false, ◌&&◌, List, take, drop, Option, Some, None, nat_lt, nat_le, if◌then◌else◌, is_none}
use Rattle.std.specs.List.{list_all}
use Rattle.efi_window.specs.Places.{Places}

-- those of the bytes from a place on that stand before the end
abbrev pub up_to_end : Option ℕ → ℕ → List ℕ → List ℕ
up_to_end None place bytes = bytes
up_to_end (Some end) place bytes = take (end - place) bytes

-- the end after a segment, with FIN or not, whose bytes end at the place f
abbrev pub end_heard : Places → Option ℕ → Bool → ℕ → Option ℕ
end_heard w end false f = end
end_heard w (Some end) true f = Some end
end_heard w None true f =
    if nat_le w.taken f && (nat_le f (w.taken + w.cap) && (nat_lt f (2 ^ 62) && list_all is_none (drop (f - w.taken) w.held))) then Some f
    else None

-- What a reader of a format answers.
use Rattle.std.specs.Prelude.{◌≡◌, Option, Some, None, Result, Ok, Err}
use Rattle.efi_base.specs.declared.fault.Bad.{Bad}

-- The reader answered the value that stands there, as contracts see it, and Bad exactly where none does.
abbrev pub ReadsAs : {X Y : Type 0} → (X → Y) → Result X Bad → Option Y → Type 0
ReadsAs view (Ok x) there = there ≡ Some (view x)
ReadsAs view (Err bad) there = there ≡ None

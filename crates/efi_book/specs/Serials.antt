-- Serials of children over a list of calls: the callers' children and the stack's own have one count.
use Rattle.std.specs.Prelude.{ℕ, ◌+◌, ◌==◌, nat_lt, List, [], ◌∷◌, if◌then◌else◌}
use Rattle.std.specs.List.{sum_by}
use Rattle.efi_book.specs.declared.children.Child.{Child}
use Rattle.efi_book.specs.Families.{Family}
use Rattle.efi_book.specs.Cores.{Drive}
use Rattle.efi_book.specs.Calls.{Call, Create, CreateOwn, called}

abbrev pub same_serial : ℕ → ℕ → ℕ
same_serial n m = if m == n then 1 else 0

-- how many live children have this serial, the callers' and the stack's own
abbrev pub bearers : {C : Type 0} → ℕ → Family C → ℕ
bearers {C = C} n f = sum_by (λ (c : Child C). same_serial n c.serial) f.live + sum_by (λ (c : Child C). same_serial n c.serial) f.own

module _ {C W M : Type 0} where
  -- how often a call gives this serial to a child
  abbrev pub gives : ℕ → Drive C W M → Call C W M → ℕ
  gives n s (Create key) = same_serial n s.family.next
  gives n s (CreateOwn key) = same_serial n s.family.next
  gives n s call = 0

  abbrev pub all_gives : ℕ → Drive C W M → List (Call C W M) → ℕ
  all_gives n s [] = 0
  all_gives n s (call ∷ calls) = gives n s call + all_gives n (called s call) calls

  -- whether the next serial is past this one
  abbrev pub is_past : ℕ → Drive C W M → ℕ
  is_past n s = if nat_lt n s.family.next then 1 else 0

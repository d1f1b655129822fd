-- What a contract sees of an outbox.
use Rattle.std.specs.Prelude.{ℕ, ◌-◌, List, [], ◌∷◌, ◌++◌, drop}

-- the messages that wait, the first one first, and how many more need no memory
pub record Waiting (M : Type 0) : Type 0 where
  pub messages : List M
  pub spare : ℕ

module _ {M : Type 0} where
  abbrev pub no_messages : Waiting M
  no_messages = record { messages = []; spare = 0 }

  abbrev pub with_room : Waiting M → ℕ → Waiting M
  with_room b n = record { messages = b.messages; spare = n }

  abbrev pub asked : Waiting M → M → Waiting M
  asked b m = record { messages = b.messages ++ m ∷ []; spare = b.spare }

  abbrev pub asked_spare : Waiting M → M → Waiting M
  asked_spare b m = record { messages = b.messages ++ m ∷ []; spare = b.spare - 1 }

  abbrev pub without_first : Waiting M → Waiting M
  without_first b = record { messages = drop 1 b.messages; spare = b.spare }

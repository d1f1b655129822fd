-- A command that follows a text: it reads the text to the end, does what it asks for and writes what came of it, or refuses one
-- that isn't in its grammar. What a text means, or where its first bad line begins, is told by `reads`; which text a meaning
-- has written, and with which status, by `Says`; which status it decides, by `Due`.
use Rattle.std.specs.Prelude.{◌≡◌, ◌⊎◌, ℕ, false, List, [], ◌++◌, Option, Some, Result, Ok, Err}
use Rattle.text_base.specs.declared.lines.TextFault.{TextFault}
use Rattle.text_base.specs.declared.lines.TextFault.TheVariants.{BadAt as TextBadAt, OutOfResources}
use Rattle.boot_top.specs.Extract.{bad_input_text}
use Rattle.boot_top.specs.Running.{Command, reading}
use Rattle.boot_top.specs.declared.following.Told.{Told}
use Rattle.boot_top.specs.declared.following.Told.TheVariants.{Text, NotBuilt, BadAt}

-- what was told for a text: what is written, or the line that refuses it
abbrev pub IsOneOf : (Told → Type 0) → List ℕ → Type 0
IsOneOf Is text = Is (Text text) ⊎ ((n : ℕ) × Is (BadAt n) × (text ≡ bad_input_text n))

-- a fault of a text is told; want of memory isn't
abbrev pub IsRefusedBy : TextFault → Told → Type 0
IsRefusedBy (TextBadAt n) told = told ≡ BadAt n
IsRefusedBy OutOfResources told = ⊥

module _ {T : Type 0} where
  -- the text is in the grammar, and has this written with this status
  abbrev pub IsSaid : (T → ℕ → List ℕ → Type 0) → Result T ℕ → ℕ → List ℕ → Type 0
  IsSaid Says read status text = (meaning : T) × (read ≡ Ok meaning) × Says meaning status text

  -- what came of a text: 0 where it was followed, 8 where it asks for what isn't built
  abbrev pub IsTold : (T → ℕ → List ℕ → Type 0) → Result T ℕ → Told → Type 0
  IsTold Says read (Text text) = IsSaid Says read 0 text
  IsTold Says read NotBuilt = IsSaid Says read 8 []
  IsTold Says read (BadAt n) = read ≡ Err n

  -- the line that refuses a text
  abbrev pub IsRefusalOf : Result T ℕ → List ℕ → Type 0
  IsRefusalOf read text = (n : ℕ) × (read ≡ Err n) × (text ≡ bad_input_text n)

  -- with this status, this is written for the text; there is no capture
  abbrev pub IsTextAnswer : (T → ℕ → List ℕ → Type 0) → Result T ℕ → ℕ → List ℕ → List ℕ → Type 0
  IsTextAnswer Says read status text capture = (capture ≡ []) × (IsSaid Says read status text ⊎ ((status ≡ 3) × IsRefusalOf read text))

  -- the text decides the status
  abbrev pub DecidesText : (T → ℕ → Type 0) → Result T ℕ → ℕ → Type 0
  DecidesText Due read status = ((meaning : T) × (read ≡ Ok meaning) × Due meaning status) ⊎ ((status ≡ 3) × (n : ℕ) × (read ≡ Err n))

  abbrev pub following : (List ℕ → Result T ℕ) → (T → ℕ → List ℕ → Type 0) → (T → ℕ → Type 0) → Command
  following reads Says Due =
      reading false (λ input status text capture. IsTextAnswer Says (reads input) status text capture) (λ input status. DecidesText Due (reads input) status)

  -- of a command that isn't built, whatever a text means: nothing is written
  abbrev pub IsUnbuilt : T → ℕ → List ℕ → Type 0
  IsUnbuilt meaning status text = (status ≡ 8) × (text ≡ [])

  abbrev pub IsEight : T → ℕ → Type 0
  IsEight meaning status = status ≡ 8

  -- a reader told this of octets that go on to no text of the grammar
  pub record IsRefusedAlready (reads : List ℕ → Result T ℕ) (fed : List ℕ) (fault : Option TextFault) : Type 0 where
    pub place : ℕ
    pub told : fault ≡ Some (TextBadAt place)
    pub bad : (more : List ℕ) → reads (fed ++ more) ≡ Err place

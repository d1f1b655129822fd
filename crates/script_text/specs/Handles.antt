-- Children and tokens, told by the order of the lines that create and post. `made` are the protocols of the lines
-- `create` so far, and `posts` is how many lines `post` there are.
use Rattle.std.specs.Prelude.{ℕ, ◌-◌, ◌==◌, List, [], ◌∷◌, length, slice_get, Option, Some, None, option_map, option_and_then, if◌then◌else◌}
use Rattle.efi_base.specs.declared.tokens.Proto.{Proto}
use Rattle.efi_base.specs.declared.tokens.Proto.TheVariants.{Tcp4}
use Rattle.efi_base.specs.declared.tokens.TokenId.{TokenId}
use Rattle.session_text.specs.Words.{number_in}
use Rattle.script_text.specs.Words.{with, taken}
use Rattle.script_text.specs.declared.handles.Handle.{Handle}
use Rattle.script_text.specs.declared.handles.Handle.TheVariants.{Created, Accepted}

-- a token is told by a number that was given
abbrev pub token_of : ℕ → List ℕ → Option TokenId
token_of posts word = option_map (λ n. record { 0 = n }) (number_in 1 posts word)

-- a child that a line creates has that line's protocol
abbrev pub created_of : List Proto → List ℕ → Option (Handle × Proto)
created_of made word =
    with (number_in 1 (length made) word) (λ n. option_map (λ proto. (Created n, proto)) (slice_get made (n - 1)))

-- a child that an accept token gave is a connection
abbrev pub accepted_of : ℕ → List ℕ → Option (Handle × Proto)
accepted_of posts word = option_map (λ token. (Accepted token, Tcp4)) (token_of posts word)

-- a number, or `a` and a token
abbrev pub handle_of : List Proto → ℕ → List ℕ → Option (Handle × Proto)
handle_of made posts [] = None
handle_of made posts (b ∷ rest) = if b == 97 then accepted_of posts rest else created_of made (b ∷ rest)

abbrev pub handle_next : List Proto → ℕ → Option (List ℕ) → Option (Handle × Proto × Option (List ℕ))
handle_next made posts words =
    with (taken words) (λ w. option_map (λ h. (h.0, h.1, w.1)) (handle_of made posts w.0))

-- What the words of a command line ask for: the six commands, their options and defaults.
use Rattle.std.specs.Prelude.{ℕ, ◌^◌, ◌-◌, Bool, true, false, ◌&&◌, ◌==◌, not, List, [], ◌∷◌, Option, Some, None, bytes_eq, codes, is_none, option_map, option_and_then, if◌then◌else◌}
use Rattle.efi_base.specs.declared.plain.Mac.{Mac}
use Rattle.boot_words.specs.declared.task.Emit.{Emit}
use Rattle.boot_words.specs.declared.task.Emit.TheVariants.{Report, Image}
use Rattle.boot_words.specs.declared.task.Task.{Task}
use Rattle.boot_words.specs.declared.task.Task.TheVariants.{Extract, Script, Replay, Boot, Tftp, Make}
use Rattle.boot_words.specs.Numbers.{number_of, mac_of}

-- the command, and the values of the options that stand there
pub record Given : Type 0 where
  pub command : Option (List ℕ)
  pub emit : Option (List ℕ)
  pub capture : Option (List ℕ)
  pub buffer : Option (List ℕ)
  pub seed : Option (List ℕ)
  pub mac : Option (List ℕ)

-- the option's value as it is read, or what stands for it where it isn't there
abbrev pub or_default : {T : Type 0} → (List ℕ → Option T) → T → Option (List ℕ) → Option T
or_default read default None = Some default
or_default read default (Some text) = read text

abbrev pub emit_word : List ℕ → Option Emit
emit_word text =
    if bytes_eq text (codes "report") then Some Report else if bytes_eq text (codes "image") then Some Image else None

abbrev pub emit_of : Emit → Option (List ℕ) → Option Emit
emit_of default value = or_default emit_word default value

-- the most octets of a buffer, and those of the buffer that is used where none is given
abbrev pub most_buffer : ℕ
most_buffer = 2 ^ 30

abbrev pub buffer_of : Option (List ℕ) → Option ℕ
buffer_of value = or_default (number_of most_buffer) (2 ^ 24) value

abbrev pub seed_word : List ℕ → Option ℕ
seed_word text = number_of (2 ^ 32 - 1) text

abbrev pub seed_of : Option (List ℕ) → Option ℕ
seed_of value = or_default seed_word 1 value

-- 02:00:00:00:00:01
abbrev pub own_mac : Mac
own_mac = record { 0 = 2 ∷ 0 ∷ 0 ∷ 0 ∷ 0 ∷ 1 ∷ [] }

abbrev pub mac_value : Option (List ℕ) → Option Mac
mac_value value = or_default mac_of own_mac value

-- the name of a file isn't empty, and doesn't begin with `-`
abbrev pub is_file_name : List ℕ → Bool
is_file_name [] = false
is_file_name (b ∷ rest) = not (b == 45)

abbrev pub capture_passes : Option (List ℕ) → Bool
capture_passes None = true
capture_passes (Some name) = is_file_name name

abbrev pub extract_task : Given → Option Task
extract_task g =
    if is_none g.capture && (is_none g.seed && is_none g.mac)
    then option_and_then (λ emit. option_map (λ buffer. Extract (record { emit = emit; buffer = buffer })) (buffer_of g.buffer)) (emit_of Image g.emit)
    else None

abbrev pub script_task : Given → Option Task
script_task g =
    if is_none g.emit && (is_none g.capture && (is_none g.buffer && (is_none g.seed && is_none g.mac))) then Some Script
    else None

abbrev pub replay_task : Given → Option Task
replay_task g =
    if capture_passes g.capture
    then option_and_then (λ emit. option_and_then (λ buffer. option_and_then (λ seed. option_map (λ mac.
    Replay (record { emit = emit; buffer = buffer; seed = seed; mac = mac })) (mac_value g.mac)) (seed_of g.seed)) (buffer_of g.buffer)) (emit_of Report g.emit)
    else None

-- a session document is run: no other option than these two
abbrev pub session_emit : Emit → Given → Option Emit
session_emit default g =
    if is_none g.buffer && (is_none g.seed && (is_none g.mac && capture_passes g.capture)) then emit_of default g.emit else None

abbrev pub make_task : Given → Option Task
make_task g =
    if is_none g.buffer && (is_none g.mac && capture_passes g.capture)
    then option_and_then (λ emit. option_map (λ seed. Make (record { emit = emit; seed = seed })) (option_and_then seed_word g.seed)) (emit_of Report g.emit)
    else None

abbrev pub named_task : Given → List ℕ → Option Task
named_task g word =
    if bytes_eq word (codes "extract") then extract_task g
    else if bytes_eq word (codes "script") then script_task g
    else if bytes_eq word (codes "replay") then replay_task g
    else if bytes_eq word (codes "boot") then option_map Boot (session_emit Report g)
    else if bytes_eq word (codes "tftp") then option_map Tftp (session_emit Image g)
    else if bytes_eq word (codes "make") then make_task g
    else None

-- what is asked for, where the command and its options are of the table
abbrev pub task_of : Given → Option Task
task_of g = option_and_then (named_task g) g.command

-- What the lines of a script say so far, and which line may stand behind them.
use Rattle.std.specs.Prelude.{ℕ, ◌+◌, Bool, true, false, ◌&&◌, ◌||◌, ◌==◌, not, nat_le, List, [], ◌∷◌, ◌++◌, length, bytes_eq, codes, Option, Some, None, option_map, option_and_then, if◌then◌else◌}
use Rattle.std.specs.Option.{is_none, is_some}
use Rattle.session_text.specs.Words.{mac_in, number_in, split}
use Rattle.script_text.specs.Step.{step_of}
use Rattle.script_text.specs.declared.draft.Draft.{Draft}
use Rattle.script_text.specs.declared.step.Step.{Step}
use Rattle.script_text.specs.declared.step.Step.TheVariants as step

-- no line was read
abbrev pub start : Draft
start = record { begun = false; ended = false; mac = None; seed = None; last = 0; made = []; posts = 0; steps = [] }

-- the seed and the steps are still to come
abbrev pub is_at_head : Draft → Bool
is_at_head d = is_none d.seed && length d.steps == 0

-- the station's Ethernet address, then its number, each at most once, in front of the steps
abbrev pub put_mac : Draft → List ℕ → Option Draft
put_mac d text =
    if is_some d.mac || not (is_at_head d) then None
    else option_map (λ mac. record d { mac = Some mac }) (mac_in text)

abbrev pub put_seed : Draft → List ℕ → Option Draft
put_seed d text =
    if is_at_head d then option_map (λ seed. record d { seed = Some seed }) (number_in 0 4294967295 text) else None

-- moments never fall
abbrev pub may_come : ℕ → Step → Bool
may_come last (step.Tick tick) = nat_le last tick.0
may_come last _ = true

-- what later lines are held against
abbrev pub noted : Draft → Step → Draft
noted d (step.Create proto) = record d { made = d.made ++ (proto ∷ []) }
noted d (step.Post handle work) = record d { posts = d.posts + 1 }
noted d (step.Tick tick) = record d { last = tick.0 }
noted d _ = d

abbrev pub stepped : Draft → Step → Draft
stepped d said = record d { steps = d.steps ++ (said ∷ []) }

abbrev pub put_step : Draft → Step → Option Draft
put_step d said = if may_come d.last said then Some (stepped (noted d said) said) else None

abbrev pub next_step : Draft → List ℕ → Option (List ℕ) → Option Draft
next_step d key words = option_and_then (put_step d) (step_of d.made d.posts key words)

-- a line between the first one and the last
abbrev pub line_by : Draft → List ℕ → List ℕ → Option Draft
line_by d key text =
    if bytes_eq key (codes "mac") then put_mac d text
    else if bytes_eq key (codes "seed") then put_seed d text
    else next_step d key (Some text)

abbrev pub next_line : Draft → List ℕ → Option Draft
next_line d text = option_and_then (λ w. line_by d w.0 w.1) (split text)

-- what is said behind one line more: nothing stands behind the last
unfoldable pub script_next : Draft → List ℕ → Option Draft
script_next d text =
    if d.ended then None
    else if not d.begun then (if bytes_eq text (codes "efiscript 1") then Some (record d { begun = true }) else None)
    else if bytes_eq text (codes "end") then Some (record d { ended = true })
    else next_line d text

abbrev pub is_ended : Draft → Bool
is_ended d = d.ended

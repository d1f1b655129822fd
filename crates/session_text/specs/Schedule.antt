-- The schedule: which frames are dropped, come twice or late, and which sends fail.
use Rattle.std.specs.Prelude.{ℕ, nat_lt, List, [], ◌∷◌, ◌++◌, length, bytes_eq, codes, Option, Some, None, option_map, option_and_then, if◌then◌else◌}
use Rattle.session_text.specs.Words.{where_is, split, behind, number_in}
use Rattle.session_text.specs.declared.schedule.Direction.{Direction}
use Rattle.session_text.specs.declared.schedule.Direction.TheVariants.{Down, Up}
use Rattle.session_text.specs.declared.schedule.Select.{Select}
use Rattle.session_text.specs.declared.schedule.Select.TheVariants.{One, Every}
use Rattle.session_text.specs.declared.schedule.Rule.{Rule}
use Rattle.session_text.specs.declared.schedule.Rule.TheVariants as rule

-- to the station, or to the server
abbrev pub direction_of : List ℕ → Option Direction
direction_of text = if bytes_eq text (codes "down") then Some Down else if bytes_eq text (codes "up") then Some Up else None

-- the frames whose number, divided by the first, leaves the second, which is below it
abbrev pub every_of : List ℕ → List ℕ → Option Select
every_of by left =
    option_and_then (λ k. option_map (λ r. Every k r) (where_is (λ r. nat_lt r k) (number_in 0 65536 left))) (number_in 1 65536 by)

-- the frame of this number
abbrev pub one_of : List ℕ → Option Select
one_of text = option_map One (number_in 1 18446744073709551615 text)

-- the words of frames end the line
abbrev pub select_from : Option (List ℕ) → List ℕ → Option Select
select_from None text = one_of text
select_from (Some every) text = option_and_then (λ w. every_of w.0 w.1) (split every)

abbrev pub select_of : List ℕ → Option Select
select_of text = select_from (behind (codes "every") text) text

-- frames in one word, or in three, and what stands behind them
abbrev pub one_with : List ℕ → List ℕ → Option (Select × List ℕ)
one_with first rest = option_map (λ one. (one, rest)) (one_of first)

abbrev pub every_with : List ℕ → Option (Select × List ℕ)
every_with text =
    option_and_then (λ v. option_and_then (λ w. option_map (λ every. (every, w.1)) (every_of v.0 w.0)) (split v.1)) (split text)

abbrev pub select_with : List ℕ → Option (Select × List ℕ)
select_with text =
    option_and_then (λ w. if bytes_eq w.0 (codes "every") then every_with w.1 else one_with w.0 w.1) (split text)

-- a direction, and frames
abbrev pub drop_rule : List ℕ → Option Rule
drop_rule text =
    option_and_then (λ w. option_and_then (λ d. option_map (λ s. rule.Drop d s) (select_of w.1)) (direction_of w.0)) (split text)

-- a direction, frames, and ticks
abbrev pub timed_rule : List ℕ → Option (Direction × Select × ℕ)
timed_rule text =
    option_and_then (λ w. option_and_then (λ d. option_and_then (λ s. option_map (λ t. (d, s.0, t)) (number_in 1 1000000 s.1))
    (select_with w.1)) (direction_of w.0)) (split text)

-- the line of this word, and what stands behind it
abbrev pub rule_line : List ℕ → List ℕ → Option Rule
rule_line key text =
    if bytes_eq key (codes "drop") then drop_rule text
    else if bytes_eq key (codes "dup") then option_map (λ t. rule.Dup t.0 t.1 t.2) (timed_rule text)
    else if bytes_eq key (codes "delay") then option_map (λ t. rule.Delay t.0 t.1 t.2) (timed_rule text)
    else if bytes_eq key (codes "failtx") then option_map rule.FailTx (number_in 0 18446744073709551615 text)
    else None

-- at most 1000 lines in all
abbrev pub put_rule : List Rule → Rule → Option (List Rule)
put_rule rules rule = if nat_lt (length rules) 1000 then Some (rules ++ (rule ∷ [])) else None

-- What may happen to what waits, one act after another, and what holds throughout.
use Rattle.std.specs.Prelude.{◌≡◌, ℕ, ◌+◌, ◌≤◌, Bool, true, ◌==◌, ◌&&◌, not, nat_lt, nat_le, List, [], ◌∷◌, filter, take, count_by, Option, Some, None}
use Rattle.std.specs.List.{list_any, list_all, sum_by}
use Rattle.efi_base.specs.declared.plain.Ip4.{Ip4}
use Rattle.efi_base.specs.declared.plain.Mac.{Mac}
use Rattle.efi_base.specs.declared.tokens.Ticket.{Ticket}
use Rattle.efi_base.specs.declared.tokens.Proto.{Proto}
use Rattle.ip_hops.specs.declared.round.Round.{Round}
use Rattle.ip_hops.specs.declared.round.Ask.{Ask}
use Rattle.ip_hops.specs.declared.wait.Wait.{Wait}
use Rattle.ip_hops.specs.declared.wait.Handed.{Handed}
use Rattle.ip_hops.specs.declared.wait.Handed.TheVariants.{Goes, Waits, Dropped}
use Rattle.ip_hops.specs.Rounds.{is_round_of, asks_again}
use Rattle.ip_hops.specs.Waits.{waits_for, is_owned}
use Rattle.ip_hops.specs.Unresolved.{Unresolved, handing, handed, first_for, released, withdrawn, acted, without_ask, without_ended}

-- a call, or the next tick; a call that lacks memory is no act
pub data Act (M : Type 0) : Type 0 where
  Hand : Ip4 → Ip4 → Option (Proto × Ticket) → Option Mac → M → Act M
  Release : Ip4 → Act M
  Withdraw : Proto × Ticket → Act M
  Pass : Act M
  TakeAsk : Act M
  TakeEnded : Act M

-- each next hop has one round
abbrev pub has_one_each : List Round → Bool
has_one_each [] = true
has_one_each (r ∷ rs) = not (list_any (is_round_of r.hop) rs) && has_one_each rs

-- a round began less than three seconds ago
abbrev pub is_young : ℕ → Round → Bool
is_young moment r = nat_le r.asked.0 moment && nat_lt moment (r.asked.0 + 3_000)

-- how many of these requests ask for this next hop
abbrev pub asks_for : Ip4 → List Ask → ℕ
asks_for hop qs = count_by (λ (q : Ask). q.hop.0 == hop.0) qs

-- a round of this next hop asks again at this moment
abbrev pub hop_asks_again : ℕ → List Round → Ip4 → Bool
hop_asks_again m rs hop = list_any (λ r. is_round_of hop r && asks_again m r) rs

module _ {M : Type 0} where
  abbrev pub after : Unresolved M → Act M → Unresolved M
  after s (Hand hop source owner mac m) = handed s hop source owner mac m
  after s (Release hop) = released s hop
  after s (Withdraw token) = withdrawn s token
  after s Pass = acted (s.moment + 1) s
  after s TakeAsk = without_ask s
  after s TakeEnded = without_ended s

  -- what is there after a whole list of acts
  abbrev pub runs : Unresolved M → List (Act M) → Unresolved M
  runs s [] = s
  runs s (a ∷ acts) = runs (after s a) acts

  -- the message has a round of its next hop
  abbrev pub has_round : List Round → Wait M → Bool
  has_round rs w = list_any (is_round_of w.hop) rs

  -- each next hop has one round, which is less than three seconds old; each message that waits has a round; and at most 16
  -- wait for a next hop
  pub record IsSound (s : Unresolved M) : Type 0 where
    pub one : has_one_each s.rounds ≡ true
    pub young : list_all (is_young s.moment) s.rounds ≡ true
    pub asked : list_all (has_round s.rounds) s.waits ≡ true
    pub few : (hop : Ip4) → count_by (waits_for hop) s.waits ≤ 16

  -- the weight of an answer's message, whatever messages are told apart by
  abbrev pub weight_of : (Wait M → ℕ) → Option (Wait M) → ℕ
  weight_of weigh None = 0
  weight_of weigh (Some w) = weigh w

  -- the weight of all messages that are here: that wait, or were dropped and aren't taken
  abbrev pub weight : (Wait M → ℕ) → Unresolved M → ℕ
  weight weigh s = sum_by weigh s.waits + sum_by weigh s.ended

  -- a message that is handed in comes in where it waits
  abbrev pub comes_by : (Wait M → ℕ) → Wait M → Handed M → ℕ
  comes_by weigh w (Goes m) = 0
  comes_by weigh w Waits = weigh w
  comes_by weigh w (Dropped m) = 0

  abbrev pub comes : (Wait M → ℕ) → Unresolved M → Act M → ℕ
  comes weigh s (Hand hop source owner mac m) = comes_by weigh (record { hop = hop; owner = owner; message = m }) (handing s hop mac m)
  comes weigh s (Release hop) = 0
  comes weigh s (Withdraw token) = 0
  comes weigh s Pass = 0
  comes weigh s TakeAsk = 0
  comes weigh s TakeEnded = 0

  -- it leaves by a release, by a withdrawal, or as one that was dropped
  abbrev pub leaves : (Wait M → ℕ) → Unresolved M → Act M → ℕ
  leaves weigh s (Hand hop source owner mac m) = 0
  leaves weigh s (Release hop) = weight_of weigh (first_for s hop)
  leaves weigh s (Withdraw token) = sum_by weigh (filter (is_owned token) s.waits)
  leaves weigh s Pass = 0
  leaves weigh s TakeAsk = 0
  leaves weigh s TakeEnded = sum_by weigh (take 1 s.ended)

  abbrev pub all_come : (Wait M → ℕ) → Unresolved M → List (Act M) → ℕ
  all_come weigh s [] = 0
  all_come weigh s (a ∷ acts) = comes weigh s a + all_come weigh (after s a) acts

  abbrev pub all_leave : (Wait M → ℕ) → Unresolved M → List (Act M) → ℕ
  all_leave weigh s [] = 0
  all_leave weigh s (a ∷ acts) = leaves weigh s a + all_leave weigh (after s a) acts

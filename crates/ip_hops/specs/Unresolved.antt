-- What waits for Ethernet addresses, as a whole: what each call and each moment makes of it (RFC 826; RFC 1122, section 2.3.2.2).
use Rattle.std.specs.Prelude.{ℕ, List, [], ◌∷◌, ◌++◌, map, filter, drop, slice_get, Option, Some, None, option_and_then, if◌then◌else◌}
use Rattle.std.specs.List.{list_any, position, remove}
use Rattle.efi_base.specs.declared.plain.Ip4.{Ip4}
use Rattle.efi_base.specs.declared.plain.Mac.{Mac}
use Rattle.efi_base.specs.declared.tokens.Ticket.{Ticket}
use Rattle.efi_base.specs.declared.tokens.Proto.{Proto}
use Rattle.ip_hops.specs.declared.round.Round.{Round}
use Rattle.ip_hops.specs.declared.round.Ask.{Ask}
use Rattle.ip_hops.specs.declared.wait.Wait.{Wait}
use Rattle.ip_hops.specs.declared.wait.Handed.{Handed}
use Rattle.ip_hops.specs.declared.wait.Handed.TheVariants.{Goes, Waits, Dropped}
use Rattle.ip_hops.specs.Rounds.{is_round_of, is_round_of_other, asks_again, goes_on, ask_of, next_among}
use Rattle.ip_hops.specs.Waits.{waits_for, is_not_owned, is_full, is_over, stays}

-- the rounds of requests in the order of their beginning; the messages that wait, in the order of their coming; the requests to
-- send, in the order of asking; the messages that were dropped, in the order in which they waited; and the moment, in ticks
pub record Unresolved (M : Type 0) : Type 0 where
  pub rounds : List Round
  pub waits : List (Wait M)
  pub asks : List Ask
  pub ended : List (Wait M)
  pub moment : ℕ

-- a round begins where the next hop has none, with a request
abbrev pub begun : List Round → Round → List Round
begun rs r = if list_any (is_round_of r.hop) rs then rs else rs ++ r ∷ []

abbrev pub asked : List Round → List Ask → Round → List Ask
asked rs qs r = if list_any (is_round_of r.hop) rs then qs else qs ++ ask_of r ∷ []

module _ {M : Type 0} where
  abbrev pub nothing_waits : Unresolved M
  nothing_waits = record { rounds = []; waits = []; asks = []; ended = []; moment = 0 }

  -- the round of a next hop that is asked for now
  abbrev pub round_now : Unresolved M → Ip4 → Ip4 → Round
  round_now s hop source = record { hop = hop; asked = record { 0 = s.moment }; source = source }

  -- the message waits, last, and its next hop is asked for
  abbrev pub waiting : Unresolved M → Ip4 → Ip4 → Option (Proto × Ticket) → M → Unresolved M
  waiting s hop source owner m = record {
    rounds = begun s.rounds (round_now s hop source);
    waits = s.waits ++ record { hop = hop; owner = owner; message = m } ∷ [];
    asks = asked s.rounds s.asks (round_now s hop source);
    ended = s.ended;
    moment = s.moment;
  }

  -- what becomes of a message: with the address it goes; without it waits, or it is dropped where 16 wait already
  abbrev pub handing : Unresolved M → Ip4 → Option Mac → M → Handed M
  handing s hop (Some mac) m = Goes m
  handing s hop None m = if is_full hop s.waits then Dropped m else Waits

  abbrev pub handed : Unresolved M → Ip4 → Ip4 → Option (Proto × Ticket) → Option Mac → M → Unresolved M
  handed s hop source owner (Some mac) m = s
  handed s hop source owner None m = if is_full hop s.waits then s else waiting s hop source owner m

  abbrev pub with_rounds : Unresolved M → List Round → Unresolved M
  with_rounds s rs = record { rounds = rs; waits = s.waits; asks = s.asks; ended = s.ended; moment = s.moment }

  abbrev pub with_waits : Unresolved M → List (Wait M) → Unresolved M
  with_waits s ws = record { rounds = s.rounds; waits = ws; asks = s.asks; ended = s.ended; moment = s.moment }

  -- the first message that waits for the next hop
  abbrev pub first_for : Unresolved M → Ip4 → Option (Wait M)
  first_for s hop = option_and_then (λ (k : ℕ). slice_get s.waits k) (position (waits_for hop) s.waits)

  -- it is taken out; where there is none, the round ends
  abbrev pub taken : Unresolved M → Ip4 → Option ℕ → Unresolved M
  taken s hop (Some k) = with_waits s (remove s.waits k)
  taken s hop None = with_rounds s (filter (is_round_of_other hop) s.rounds)

  abbrev pub released : Unresolved M → Ip4 → Unresolved M
  released s hop = taken s hop (position (waits_for hop) s.waits)

  -- the messages of a token are gone
  abbrev pub withdrawn : Unresolved M → Proto × Ticket → Unresolved M
  withdrawn s token = with_waits s (filter (is_not_owned token) s.waits)

  -- what is done at a moment: requests go again, and rounds end with the messages that wait for their next hops
  abbrev pub acted : ℕ → Unresolved M → Unresolved M
  acted m s = record {
    rounds = filter (goes_on m) s.rounds;
    waits = filter (stays m s.rounds) s.waits;
    asks = s.asks ++ map ask_of (filter (asks_again m) s.rounds);
    ended = s.ended ++ filter (is_over m s.rounds) s.waits;
    moment = m;
  }

  -- the same at another moment
  abbrev pub at : ℕ → Unresolved M → Unresolved M
  at m s = record { rounds = s.rounds; waits = s.waits; asks = s.asks; ended = s.ended; moment = m }

  abbrev pub moment_of : Unresolved M → ℕ
  moment_of s = s.moment

  -- the least moment to come at which something is due
  abbrev pub next_of : Unresolved M → Option ℕ
  next_of s = next_among s.moment s.rounds

  abbrev pub without_ask : Unresolved M → Unresolved M
  without_ask s = record { rounds = s.rounds; waits = s.waits; asks = drop 1 s.asks; ended = s.ended; moment = s.moment }

  abbrev pub without_ended : Unresolved M → Unresolved M
  without_ended s = record { rounds = s.rounds; waits = s.waits; asks = s.asks; ended = drop 1 s.ended; moment = s.moment }

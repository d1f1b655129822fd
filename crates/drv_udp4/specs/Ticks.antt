-- What ticks do: receive tokens end for which nothing came.
use Rattle.std.specs.Prelude.{ℕ, Bool, false, ◌==◌, nat_lt, min, List, [], ◌∷◌, Option, Some, None, if◌then◌else◌}
use Rattle.efi_base.specs.declared.plain.Tick.{Tick}
use Rattle.efi_base.specs.declared.tokens.End.TheVariants.{ReceiveTimeout}
use Rattle.efi_book.specs.Cores.{in_tokens}
use Rattle.efi_book.specs.declared.ends.Pending.{Pending}
use Rattle.efi_timer.specs.Ticking.{ticks}
use Rattle.drv_udp4.specs.declared.work.Ask.{Ask}
use Rattle.efi_book.specs.Rounds.{all_ended}
use Rattle.drv_udp4.specs.Udps.{UdpState}

abbrev pub is_until : ℕ → Option Tick → Bool
is_until m None = false
is_until m (Some t) = t.0 == m

-- the token ends at this moment
abbrev pub is_due : ℕ → Pending Ask → Bool
is_due m p = is_until m p.work.until

abbrev pub at : ℕ → UdpState → UdpState
at m s = record { drive = s.drive; seed = s.seed; tried = s.tried; home = s.home; routes = s.routes; moment = record { 0 = m } }

-- the tokens that end at this moment do
abbrev pub acted : ℕ → UdpState → UdpState
acted m s = record {
  drive = in_tokens s.drive (all_ended (is_due m) ReceiveTimeout s.drive.tokens);
  seed = s.seed;
  tried = s.tried;
  home = s.home;
  routes = s.routes;
  moment = record { 0 = m };
}

abbrev pub moment_of : UdpState → ℕ
moment_of s = s.moment.0

-- so many ticks, one after another
abbrev pub ticked : ℕ → UdpState → UdpState
ticked n s = ticks moment_of acted n s

abbrev pub least : Option ℕ → Option ℕ → Option ℕ
least None b = b
least (Some a) None = Some a
least (Some a) (Some b) = Some (min a b)

abbrev pub later_than : ℕ → Option Tick → Option ℕ
later_than moment None = None
later_than moment (Some t) = if nat_lt moment t.0 then Some t.0 else None

-- the least moment to come at which one of these tokens ends
abbrev pub next_of_all : ℕ → List (Pending Ask) → Option ℕ
next_of_all moment [] = None
next_of_all moment (p ∷ ps) = least (later_than moment p.work.until) (next_of_all moment ps)

abbrev pub next_of : UdpState → Option ℕ
next_of s = next_of_all s.moment.0 s.drive.tokens.pending

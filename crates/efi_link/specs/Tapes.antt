-- Links in memory, as others see them.
use Rattle.std.specs.Prelude.{ℕ, ◌+◌, ◌≤◌, not, List, length, take, drop, map, count_by, Some, Contains}
use Rattle.efi_base.specs.declared.plain.Record.{Record}
use Rattle.efi_link.specs.declared.tape.Try.{Try}
use Rattle.efi_link.specs.Wires.{Wire}

-- the frames that were tried, those that the link was made with, how many of these were given, and the numbers of the
-- sends that fail, counted from 1
pub record Tape : Type 0 where
  pub tries : List Try
  pub frames : List (List ℕ)
  pub given : ℕ
  pub failing : List ℕ

-- what a link in memory is made with
pub record Plan : Type 0 where
  pub frames : List (List ℕ)
  pub failing : List ℕ

abbrev pub plan_of : Tape → Plan
plan_of t = record { frames = t.frames; failing = t.failing }

-- what Ethernet can carry without its check sequence
pub record IsFrame (frame : List ℕ) : Type 0 where
  pub some : 1 ≤ length frame
  pub most : length frame ≤ 1514

abbrev pub at_once : List ℕ → Record
at_once frame = record { tick = record { 0 = 0 }; frame = frame }

-- a link in memory tells all, and its moment is 0: each frame is due at once
abbrev pub wire_of : Tape → Wire
wire_of t = record {
  tries = Some t.tries;
  given = Some (map at_once (take t.given t.frames));
  due = Some (map at_once (drop t.given t.frames));
  moment = 0;
  faults = count_by (λ (y : Try). not y.taken) t.tries;
}

-- the number of the next send is among those that fail
abbrev pub FailsNext : Tape → Type 0
FailsNext t = Contains t.failing (length t.tries + 1)

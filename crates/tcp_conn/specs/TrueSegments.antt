-- What each segment that goes is: a SYN, a true cut of what was pushed, or an acknowledgment or a RST alone.
use Rattle.std.specs.Prelude.{◌≡◌, ℕ, ◌⊎◌, List, []}
use Rattle.tcp_send.specs.declared.text.Cut.{Cut}
use Rattle.tcp_send.specs.Stream.{IsTrueCut}
use Rattle.tcp_conn.specs.declared.out.SegOut.{SegOut}
use Rattle.tcp_conn.specs.Connection.{Connection}
use Rattle.tcp_conn.specs.Owed.{syn_out, cut_out}

-- this side's SYN, with its first number
pub record IsSynOf (c : Connection) (out : SegOut) : Type 0 where
  pub number : out.seq ≡ c.sender.iss
  pub syn : out ≡ syn_out c.state c

-- an acknowledgment or a RST, without octets and FIN
pub record IsPlain (out : SegOut) : Type 0 where
  pub octets : out.payload.items ≡ []
  pub flags : (out.flags ≡ 16) ⊎ (out.flags ≡ 4)

-- a true cut of what was pushed, at its place
pub record IsPartOf (text : List ℕ) (c : Connection) (out : SegOut) : Type 0 where
  pub cut : Cut
  pub true_cut : IsTrueCut text c.sender.finished cut
  pub segment : out ≡ cut_out c cut

abbrev pub IsTrueOut : List ℕ → Connection → SegOut → Type 0
IsTrueOut text c out = IsPlain out ⊎ (IsSynOf c out ⊎ IsPartOf text c out)

-- The stage of a tap after one record more.
use Rattle.std.proofs.Common.{◌≡◌, ℕ, ◌+◌, suc, ◌<◌, Bool, List, [], ◌∷◌, ◌++◌, length, All, Option, Some, None, vec_len, sym, ap, subst, ◌∙◌, false}
use Rattle.efi_base.specs.declared.plain.Record.{Record}
use Rattle.wire_l4.specs.Segment.{Segment}
use Rattle.tcp_recv.specs.Stream.{Board, empty}
use Rattle.tap_core.specs.declared.download.Download.{Download}
use Rattle.efi_base.specs.declared.load_end.LoadEnd.{LoadEnd}
use Rattle.tap_core.specs.declared.listening.Listener.{Listener}
use Rattle.tap_core.specs.declared.opening.Syn.{Syn}
use Rattle.tap_core.specs.declared.passive.Seen.{Seen}
use Rattle.tap_core.specs.Answering.{accepting_number}
use Rattle.tap_core.specs.Connections.{accepts_at, after_heard, board_after, is_reset_at}
use Rattle.tap_core.specs.Ends.{IsFirstEnd, IsFirstEndAt}
use Rattle.tap_core.specs.Following.{Follows}
use Rattle.tap_core.specs.Openings.{Opening, openings_of, IsFirstAt}
use Rattle.tap_core.specs.Seen.{syn_seen}
use Rattle.tap_core.specs.Shows.{heard_behind, HasConnection}
use Rattle.tap_core.specs.Tapping.{Listens, IsAnswering, IsFollowing, IsEnded}
use Rattle.tap_core.specs.Watching.{IsSeenOf}
use Rattle.tap_core.proofs.Records.{asked_here, asked-first, first-next, first-within}
use Rattle.tap_core.proofs.Streams.{nothing-more, board-more}
use Rattle.tap_core.proofs.Tapped.{heard_next, nothing-accepts, answers-none, answers-first, connection-next, ends-here}

-- the record asks for a connection
pub answering-first : (records : List Record) (r : Record) (l : Listener) (o : Opening) → syn_seen l.syn ≡ o → All (λ x. x ≡ None) (openings_of records)
    → asked_here records r ≡ Some o → Listens (records ++ r ∷ []) l → IsAnswering (records ++ r ∷ []) l
answering-first records r l o e none asked listens = record {
  at = length records;
  is_first = asked-first records r (syn_seen l.syn) none (asked ∙ ap Some (sym e));
  none = nothing-accepts (syn_seen l.syn) records r;
  listens = listens;
}

-- it doesn't accept it
pub answering-next : (records : List Record) (r : Record) (l l' : Listener) → l'.syn ≡ l.syn → IsAnswering records l
    → None ≡ accepting_number (syn_seen l.syn).seq (heard_next (syn_seen l.syn) records r) → Listens (records ++ r ∷ []) l' → IsAnswering (records ++ r ∷ []) l'
answering-next records r l l' e a none listens =
    let o = syn_seen l.syn in
    record {
      at = a.at;
      is_first = subst (λ (s : Syn). IsFirstAt (openings_of (records ++ r ∷ [])) a.at (syn_seen s)) (sym e) (first-next records r a.at o a.is_first);
      none = subst (λ (s : Syn). All (λ h. accepts_at (syn_seen s).seq h ≡ false) (heard_behind (records ++ r ∷ []) a.at (syn_seen s))) (sym e)
          (answers-none o records a.at r (first-within records a.at o a.is_first) a.none none);
      listens = listens;
    }

-- it does
pub following-first : (most : ℕ) (records : List Record) (r : Record) (l l' : Listener) (irs : ℕ) (d : Download) → l'.syn ≡ l.syn → IsAnswering records l
    → Some irs ≡ accepting_number (syn_seen l.syn).seq (heard_next (syn_seen l.syn) records r) → Listens (records ++ r ∷ []) l'
    → Follows most irs empty d → 0 < vec_len d.room → IsFollowing most (records ++ r ∷ []) l' d
following-first most records r l l' irs d e a there listens follows room =
    let place = suc a.at + suc (length (heard_behind records a.at (syn_seen l.syn))) in
    record {
      irs = irs;
      place = place;
      heard = [];
      connection = subst (λ (s : Syn). HasConnection (records ++ r ∷ []) (syn_seen s) irs place []) (sym e)
          (answers-first (syn_seen l.syn) records a.at r irs a.is_first a.none there);
      nothing = tt;
      follows = follows;
      room = room;
      listens = listens;
    }

-- the first case that the next record meets
first-here : (most irs : ℕ) (board : Board) (h : Option Segment) (reset : Bool) (end : Option LoadEnd) → reset ≡ is_reset_at irs board h
    → IsFirstEnd most (after_heard irs board h) reset end → IsFirstEndAt most irs board h end
first-here most irs board h reset end e first = subst (λ b. IsFirstEnd most (after_heard irs board h) b end) e first

-- the download doesn't end at the record
pub following-next : (most : ℕ) (records : List Record) (r : Record) (l l' : Listener) (d d' : Download) (reset : Bool) → l'.syn ≡ l.syn
    → (f : IsFollowing most records l d)
    → (reset ≡ is_reset_at f.irs (board_after f.irs f.heard) (heard_next (syn_seen l.syn) records r))
    × Follows most f.irs (after_heard f.irs (board_after f.irs f.heard) (heard_next (syn_seen l.syn) records r)) d'
    → ((most irs : ℕ) (board : Board) → Follows most irs board d' → IsFirstEnd most board reset None)
    → vec_len d'.room ≡ vec_len d.room → Listens (records ++ r ∷ []) l' → IsFollowing most (records ++ r ∷ []) l' d'
following-next most records r l l' d d' reset e f step first room listens =
    let o = syn_seen l.syn in
    let h = heard_next o records r in
    let board = board_after f.irs f.heard in
    record {
      irs = f.irs;
      place = f.place;
      heard = f.heard ++ h ∷ [];
      connection = subst (λ (s : Syn). HasConnection (records ++ r ∷ []) (syn_seen s) f.irs f.place (f.heard ++ h ∷ [])) (sym e)
          (connection-next records r o f.irs f.place f.heard f.connection);
      nothing = nothing-more most f.irs empty f.heard h f.nothing
          (first-here most f.irs board h reset None step.0 (first most f.irs (after_heard f.irs board h) step.1));
      follows = subst (λ b. Follows most f.irs b d') (sym (board-more f.irs f.heard h)) step.1;
      room = subst (λ n. 0 < n) (sym room) f.room;
      listens = listens;
    }

-- it does
pub ended-first : (most : ℕ) (records : List Record) (r : Record) (l l' : Listener) (d d' : Download) (reset : Bool) (end : LoadEnd) (s : Seen) → l'.syn ≡ l.syn
    → (f : IsFollowing most records l d)
    → (reset ≡ is_reset_at f.irs (board_after f.irs f.heard) (heard_next (syn_seen l.syn) records r))
    × Follows most f.irs (after_heard f.irs (board_after f.irs f.heard) (heard_next (syn_seen l.syn) records r)) d'
    → ((most irs : ℕ) (board : Board) → Follows most irs board d' → IsFirstEnd most board reset (Some end))
    → ((irs : ℕ) (board : Board) → Follows most irs board d'
    → IsSeenOf most (record { end = end; opening = Some (syn_seen l'.syn); board = board; upto = records ++ r ∷ [] }) s)
    → IsEnded most (records ++ r ∷ []) s
ended-first most records r l l' d d' reset end s e f step first seen =
    let o = syn_seen l.syn in
    let h = heard_next o records r in
    let board = board_after f.irs f.heard in
    let follows : Follows most f.irs (board_after f.irs (f.heard ++ h ∷ [])) d' = subst (λ b. Follows most f.irs b d') (sym (board-more f.irs f.heard h)) step.1 in
    ends-here most records r o f.irs f.place f.heard end s f.connection f.nothing
    (first-here most f.irs board h reset (Some end) step.0 (first most f.irs (after_heard f.irs board h) step.1))
    (subst (λ (x : Syn). IsSeenOf most (record { end = end; opening = Some (syn_seen x); board = board_after f.irs (f.heard ++ h ∷ []); upto = records ++ r ∷ [] }) s)
    e (seen f.irs (board_after f.irs (f.heard ++ h ∷ [])) follows))

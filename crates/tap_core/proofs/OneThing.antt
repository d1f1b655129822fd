-- A capture shows one thing.
use Rattle.std.proofs.Common.{◌≡◌, ◌⊎◌, ℕ, ◌+◌, suc, List, [], ◌∷◌, ◌++◌, length, take, Option, Some, inl, inr, sym, ap, subst, ◌∙◌}
use Rattle.efi_base.specs.declared.plain.Record.{Record}
use Rattle.wire_l4.specs.Segment.{Segment}
use Rattle.tcp_recv.specs.Stream.{Board, empty}
use Rattle.efi_base.specs.declared.load_end.LoadEnd.{LoadEnd}
use Rattle.efi_base.specs.declared.load_end.LoadEnd.TheVariants.{OutOfTime, NoConnection}
use Rattle.tap_core.specs.Connections.{after_heard, board_after, is_reset_at}
use Rattle.tap_core.specs.Ends.{EndsBehind, MeetNothing}
use Rattle.tap_core.specs.Openings.{Opening, openings_of}
use Rattle.tap_core.specs.Shows.{Telling, ShowsNoOpening, ShowsNoAnswer, ShowsEnd, ShowsOutOfTime, Shows, HasConnection}
use Rattle.tap_core.proofs.OneEnd.{MeetsAt, end-one, ends-split, nothing-meets}
use Rattle.tap_core.proofs.Splits.{opening-one, opening-none, connection-one, connection-none}

-- the record at which a download ends meets a case
pub meets-at : (most irs : ℕ) (heard before : List (Option Segment)) (last : Option Segment) (end : LoadEnd) → EndsBehind most irs heard before last end
    → MeetsAt most irs (board_after irs before) last
meets-at most irs heard before last end e = (end, e.first.0)

-- a download ends at one record, with one case
ending-one : (most irs : ℕ) (heard b c : List (Option Segment)) (x y : Option Segment) (e f : LoadEnd) → EndsBehind most irs heard b x e → EndsBehind most irs heard c y f
    → (b ≡ c) × (x ≡ y) × (e ≡ f)
ending-one most irs heard b c x y e f p q =
    let same = ends-split most irs empty b c x y p.after q.after p.nothing q.nothing (meets-at most irs heard b x e p) (meets-at most irs heard c y f q)
    (sym p.parts ∙ q.parts) in
    let other : EndsBehind most irs heard b x f =
    subst (λ z. EndsBehind most irs heard b z f) (sym same.1) (subst (λ z. EndsBehind most irs heard z y f) (sym same.0) q) in
    (same.0, same.1, end-one most (after_heard irs (board_after irs b) x) (is_reset_at irs (board_after irs b) x) e f p.first other.first)

-- the same where the two connections are the same
ending-same : (most irs jrs : ℕ) (heard others b c : List (Option Segment)) (x y : Option Segment) (e f : LoadEnd) → irs ≡ jrs → heard ≡ others
    → EndsBehind most irs heard b x e → EndsBehind most jrs others c y f → (b ≡ c) × (x ≡ y) × (e ≡ f)
ending-same most irs jrs heard others b c x y e f i h p q =
    ending-one most irs heard b c x y e f p
    (subst (λ z. EndsBehind most irs z c y f) (sym h) (subst (λ z. EndsBehind most z others c y f) (sym i) q))

-- a download that ends doesn't go on
pub ends-or-not : (most irs jrs : ℕ) (heard others b : List (Option Segment)) (x : Option Segment) (e : LoadEnd) → irs ≡ jrs → heard ≡ others → EndsBehind most irs heard b x e
    → MeetNothing most jrs empty others → ⊥
ends-or-not most irs jrs heard others b x e i h p none =
    let nothing = subst (λ z. MeetNothing most z empty heard) (sym i) (subst (λ z. MeetNothing most jrs empty z) (sym h) none) in
    nothing-meets most irs empty b x p.after (subst (MeetNothing most irs empty) p.parts nothing) (meets-at most irs heard b x e p)

abbrev telling-of : LoadEnd → Option Opening → Board → List Record → Telling
telling-of end opening board upto = record { end = end; opening = opening; board = board; upto = upto }

telling-one : (e f : LoadEnd) (o p : Opening) (irs jrs n m : ℕ) (heard others : List (Option Segment)) (records : List Record) → e ≡ f → o ≡ p → irs ≡ jrs → heard ≡ others → n ≡ m
    → telling-of e (Some o) (board_after irs heard) (take n records) ≡ telling-of f (Some p) (board_after jrs others) (take m records)
telling-one e f o p irs jrs n m heard others records a b c d g =
    ap (λ z. telling-of z (Some o) (board_after irs heard) (take n records)) a
    ∙ ap (λ z. telling-of f (Some z) (board_after irs heard) (take n records)) b
    ∙ ap (λ z. telling-of f (Some p) (board_after z heard) (take n records)) c
    ∙ ap (λ z. telling-of f (Some p) (board_after jrs z) (take n records)) d
    ∙ ap (λ z. telling-of f (Some p) (board_after jrs others) (take z records)) g

late-one : (o p : Opening) (irs jrs : ℕ) (heard others : List (Option Segment)) (records : List Record) → o ≡ p → irs ≡ jrs → heard ≡ others
    → telling-of OutOfTime (Some o) (board_after irs heard) records ≡ telling-of OutOfTime (Some p) (board_after jrs others) records
late-one o p irs jrs heard others records a b c =
    ap (λ z. telling-of OutOfTime (Some z) (board_after irs heard) records) a
    ∙ ap (λ z. telling-of OutOfTime (Some p) (board_after z heard) records) b
    ∙ ap (λ z. telling-of OutOfTime (Some p) (board_after jrs z) records) c

-- the four kinds of what is shown, two of one kind
answers-one : (records : List Record) (t u : Telling) → ShowsNoAnswer records t → ShowsNoAnswer records u → t ≡ u
answers-one records t u a b =
    let same = opening-one (openings_of records) a.at b.at a.opening b.opening a.is_first b.is_first in
    a.told ∙ ap (λ z. telling-of NoConnection (Some z) empty records) same.1 ∙ sym b.told

ends-one : (most : ℕ) (records : List Record) (t u : Telling) → ShowsEnd most records t → ShowsEnd most records u → t ≡ u
ends-one most records t u a b =
    let same = connection-one records a.opening b.opening a.irs b.irs a.place b.place a.heard b.heard a.connection b.connection in
    let ends = ending-same most a.irs b.irs a.heard b.heard a.before b.before a.last b.last a.end b.end same.1 same.3 a.ends b.ends in
    a.told
    ∙ telling-one a.end b.end a.opening b.opening a.irs b.irs (a.place + suc (length a.before)) (b.place + suc (length b.before)) (a.before ++ a.last ∷ []) (b.before ++ b.last ∷ [])
    records ends.2 same.0 same.1 (ap (λ l. l ++ a.last ∷ []) ends.0 ∙ ap (λ x. b.before ++ x ∷ []) ends.1)
    (ap (λ n. n + suc (length a.before)) same.2 ∙ ap (λ l. b.place + suc (length l)) ends.0)
    ∙ sym b.told

lates-one : (most : ℕ) (records : List Record) (t u : Telling) → ShowsOutOfTime most records t → ShowsOutOfTime most records u → t ≡ u
lates-one most records t u a b =
    let same = connection-one records a.opening b.opening a.irs b.irs a.place b.place a.heard b.heard a.connection b.connection in
    a.told ∙ late-one a.opening b.opening a.irs b.irs a.heard b.heard records same.0 same.1 same.3 ∙ sym b.told

-- and two of different kinds
end-late : (most : ℕ) (records : List Record) (t u : Telling) → ShowsEnd most records t → ShowsOutOfTime most records u → ⊥
end-late most records t u a b =
    let same = connection-one records a.opening b.opening a.irs b.irs a.place b.place a.heard b.heard a.connection b.connection in
    ends-or-not most a.irs b.irs a.heard b.heard a.before a.last a.end same.1 same.3 a.ends b.nothing

unopened-connection : (records : List Record) (t : Telling) (o : Opening) (irs place : ℕ) (heard : List (Option Segment)) → ShowsNoOpening records t
    → HasConnection records o irs place heard → ⊥
unopened-connection records t o irs place heard a c = opening-none (openings_of records) c.at o a.none c.is_first

unanswered-connection : (records : List Record) (t : Telling) (o : Opening) (irs place : ℕ) (heard : List (Option Segment)) → ShowsNoAnswer records t
    → HasConnection records o irs place heard → ⊥
unanswered-connection records t o irs place heard a c = connection-none records a.at a.opening o irs place heard a.is_first a.none c

-- where there is a connection, it ends at a record, or the capture ends first
pub shows-connection : (most : ℕ) (records : List Record) (t : Telling) (o : Opening) (irs place : ℕ) (heard : List (Option Segment)) → HasConnection records o irs place heard
    → Shows most records t → ShowsEnd most records t ⊎ ShowsOutOfTime most records t
shows-connection most records t o irs place heard c (inl a) = absurd (unopened-connection records t o irs place heard a c)
shows-connection most records t o irs place heard c (inr (inl a)) = absurd (unanswered-connection records t o irs place heard a c)
shows-connection most records t o irs place heard c (inr (inr a)) = a

-- two tellings of a connection
connected-one : (most : ℕ) (records : List Record) (t u : Telling) → ShowsEnd most records t ⊎ ShowsOutOfTime most records t
    → ShowsEnd most records u ⊎ ShowsOutOfTime most records u → t ≡ u
connected-one most records t u (inl a) (inl b) = ends-one most records t u a b
connected-one most records t u (inl a) (inr b) = absurd (end-late most records t u a b)
connected-one most records t u (inr a) (inl b) = absurd (end-late most records u t b a)
connected-one most records t u (inr a) (inr b) = lates-one most records t u a b

-- where another telling has a connection, there is one
shows-beside : (most : ℕ) (records : List Record) (t u : Telling) → ShowsEnd most records u ⊎ ShowsOutOfTime most records u → Shows most records t
    → ShowsEnd most records t ⊎ ShowsOutOfTime most records t
shows-beside most records t u (inl b) s = shows-connection most records t b.opening b.irs b.place b.heard b.connection s
shows-beside most records t u (inr b) s = shows-connection most records t b.opening b.irs b.place b.heard b.connection s

pub shows-one : (most : ℕ) (records : List Record) (t u : Telling) → Shows most records t → Shows most records u → t ≡ u
shows-one most records t u (inl a) (inl b) = a.told ∙ sym b.told
shows-one most records t u (inl a) (inr (inl b)) = absurd (opening-none (openings_of records) b.at b.opening a.none b.is_first)
shows-one most records t u (inr (inl a)) (inl b) = absurd (opening-none (openings_of records) a.at a.opening b.none a.is_first)
shows-one most records t u (inr (inl a)) (inr (inl b)) = answers-one records t u a b
shows-one most records t u (inr (inr a)) b = connected-one most records t u a (shows-beside most records u t a b)
shows-one most records t u (inl a) (inr (inr b)) = connected-one most records t u (shows-beside most records t u b (inl a)) b
shows-one most records t u (inr (inl a)) (inr (inr b)) = connected-one most records t u (shows-beside most records t u b (inr (inl a))) b

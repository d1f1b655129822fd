-- There is no capture of which nothing is shown: it has a first segment that asks for a connection or none, one that accepts it or
-- none, and a record that meets a case or none. Which it is needn't be found here, so each is said by a double negation.
use Rattle.std.proofs.Common.{◌≡◌, ◌⊎◌, ℕ, zero, suc, ◌+◌, ◌<◌, ◌≤◌, Bool, true, false, List, [], ◌∷◌, ◌++◌, length, fold, take, All, Option, Some, None, inl, inr, refl, ap, arith}
use Rattle.std.proofs.lemmas.Bool.{cases_lt}
use Rattle.std.proofs.lemmas.List.Elements.{All-cons, All-nil}
use Rattle.efi_base.specs.declared.load_end.LoadEnd.{LoadEnd}
use Rattle.efi_base.specs.declared.load_end.LoadEnd.TheVariants.{OutOfTime, NoConnection}
use Rattle.efi_base.specs.declared.plain.Record.{Record}
use Rattle.wire_l4.specs.Segment.{Segment}
use Rattle.tcp_recv.specs.Stream.{Board, empty}
use Rattle.tap_core.specs.Connections.{Connects, accepts_at, after_heard, board_after, is_reset_at}
use Rattle.load_core.specs.Cases.{order}
use Rattle.tap_core.specs.Ends.{EndsBehind, IsFirstEnd, IsFirstEndAt, MeetNothing, MeetsOf}
use Rattle.tap_core.specs.Openings.{Opening, openings_of, IsFirstAt}
use Rattle.tap_core.specs.Segments.{accepts}
use Rattle.tap_core.specs.Shows.{Telling, ShowsEnd, ShowsOutOfTime, Shows, HasConnection, heard_behind}

either : (A : Type 0) → ¬ (¬ (A ⊎ (¬ A)))
either A k = k (inr (λ a. k (inl a)))

-- ---- the first case that is met

abbrev Least : (LoadEnd → Type 0) → Type 0
Least P = (e : LoadEnd) × P e × ((f : LoadEnd) → P f → order e ≤ order f)

least-below : (P : LoadEnd → Type 0) (n : ℕ) (e : LoadEnd) → P e → order e < n → ¬ (¬ (Least P))
least-below P zero e p h k = absurd (omega (arith, h))
least-below P (suc n) e p h k =
    either ((f : LoadEnd) × P f × (order f < order e)) (λ d. elim d [
      | inl there ↦ least-below P n there.0 there.1 (omega (arith, there.2, h)) k
      | inr none ↦ k (
        e,
        p,
        λ f q. elim (cases_lt (order f) (order e)) [
          | inl l ↦ absurd (none (f, q, l))
          | inr l ↦ l
        ],
      )
    ])

first-or-none : (most : ℕ) (board : Board) (reset : Bool)
    → ¬ (¬ (IsFirstEnd most board reset None ⊎ ((end : LoadEnd) × IsFirstEnd most board reset (Some end))))
first-or-none most board reset k =
    k (inl (λ e p. least-below (MeetsOf most board reset) (suc (order e)) e p (omega arith) (λ l. k (inr (l.0, (l.1, l.2))))))

-- ---- the first record that meets one

record EndsFrom (most irs : ℕ) (board : Board) (heard : List (Option Segment)) : Type 0 where
  before : List (Option Segment)
  last : Option Segment
  after : List (Option Segment)
  end : LoadEnd
  parts : heard ≡ before ++ last ∷ after
  nothing : MeetNothing most irs board before
  first : IsFirstEndAt most irs (fold (after_heard irs) board before) last (Some end)

ends-or-goes-on : (most irs : ℕ) (board : Board) (heard : List (Option Segment))
    → ¬ (¬ (MeetNothing most irs board heard ⊎ EndsFrom most irs board heard))
ends-or-goes-on most irs board [] k = k (inl tt)
ends-or-goes-on most irs board (h ∷ heard) k =
    first-or-none most (after_heard irs board h) (is_reset_at irs board h) (λ d. elim d [
      | inl none ↦ ends-or-goes-on most irs (after_heard irs board h) heard (λ rest. elim rest [
        | inl nothing ↦ k (inl (none, nothing))
        | inr ends ↦ k (inr (record {
          before = h ∷ ends.before;
          last = ends.last;
          after = ends.after;
          end = ends.end;
          parts = ap (λ l. h ∷ l) ends.parts;
          nothing = (none, ends.nothing);
          first = ends.first;
        }))
      ])
      | inr there ↦ k (inr (record { before = []; last = h; after = heard; end = there.0; parts = refl; nothing = tt; first = there.1 }))
    ])

-- ---- the first segment that asks for a connection, and the first that accepts it

asks-or-not : (list : List (Option Opening)) → All (λ o. o ≡ None) list ⊎ ((n : ℕ) × (o : Opening) × IsFirstAt list n o)
asks-or-not [] = inl (All-nil (λ (o : Option Opening). o ≡ None))
asks-or-not (Some o ∷ list) = inr (0, o, record { before = []; after = list; parts = refl; nothing = All-nil (λ (o : Option Opening). o ≡ None); place = refl })
asks-or-not (None ∷ list) = elim (asks-or-not list) [
  | inl none ↦ inl (All-cons (λ (o : Option Opening). o ≡ None) None list refl none)
  | inr there ↦ inr (
    suc there.0,
    there.1,
    record {
      before = None ∷ there.2.before;
      after = there.2.after;
      parts = ap (λ l. None ∷ l) there.2.parts;
      nothing = All-cons (λ (o : Option Opening). o ≡ None) None there.2.before refl there.2.nothing;
      place = ap suc there.2.place;
    },
  )
]

abbrev Accepted : ℕ → List (Option Segment) → Type 0
Accepted seq heard = (place : ℕ) × (answer : Segment) × (after : List (Option Segment)) × Connects seq heard place answer after

accepted-later : (seq : ℕ) (h : Option Segment) (heard : List (Option Segment)) → accepts_at seq h ≡ false → Accepted seq heard → Accepted seq (h ∷ heard)
accepted-later seq h heard e there = (
  suc there.0,
  there.1,
  there.2,
  record {
    before = h ∷ there.3.before;
    parts = ap (λ l. h ∷ l) there.3.parts;
    none = All-cons (λ h. accepts_at seq h ≡ false) h there.3.before e there.3.none;
    accepted = there.3.accepted;
    place_is = ap suc there.3.place_is;
  },
)

accepted-here : (seq : ℕ) (s : Segment) (heard : List (Option Segment)) (b : Bool) → accepts seq s ≡ b
    → (All (λ h. accepts_at seq h ≡ false) heard ⊎ Accepted seq heard) → All (λ h. accepts_at seq h ≡ false) (Some s ∷ heard) ⊎ Accepted seq (Some s ∷ heard)
accepted-here seq s heard true e rest =
    inr (0, s, heard, record { before = []; parts = refl; none = All-nil (λ h. accepts_at seq h ≡ false); accepted = e; place_is = refl })
accepted-here seq s heard false e (inl none) = inl (All-cons (λ h. accepts_at seq h ≡ false) (Some s) heard e none)
accepted-here seq s heard false e (inr there) = inr (accepted-later seq (Some s) heard e there)

accepts-or-not : (seq : ℕ) (heard : List (Option Segment)) → All (λ h. accepts_at seq h ≡ false) heard ⊎ Accepted seq heard
accepts-or-not seq [] = inl (All-nil (λ h. accepts_at seq h ≡ false))
accepts-or-not seq (Some s ∷ heard) = accepted-here seq s heard (accepts seq s) refl (accepts-or-not seq heard)
accepts-or-not seq (None ∷ heard) = elim (accepts-or-not seq heard) [
  | inl none ↦ inl (All-cons (λ h. accepts_at seq h ≡ false) None heard refl none)
  | inr there ↦ inr (accepted-later seq None heard refl there)
]

-- ---- what is shown

shown-connection : (most : ℕ) (records : List Record) (o : Opening) (irs place : ℕ) (heard : List (Option Segment)) → HasConnection records o irs place heard
    → ((t : Telling) → ¬ (Shows most records t)) → ⊥
shown-connection most records o irs place heard connection k =
    ends-or-goes-on most irs empty heard (λ d. elim d [
      | inl nothing ↦
          let t : Telling = record { end = OutOfTime; opening = Some o; board = board_after irs heard; upto = records } in
          let shows : ShowsOutOfTime most records t = record { opening = o; irs = irs; place = place; heard = heard; connection = connection; nothing = nothing; told = refl } in
          k t (inr (inr (inr shows)))
      | inr ends ↦
          let t : Telling = record {
            end = ends.end;
            opening = Some o;
            board = board_after irs (ends.before ++ ends.last ∷ []);
            upto = take (place + suc (length ends.before)) records;
          } in
          let behind : EndsBehind most irs heard ends.before ends.last ends.end =
          record { after = ends.after; parts = ends.parts; nothing = ends.nothing; first = ends.first } in
          let shows : ShowsEnd most records t = record {
            opening = o;
            irs = irs;
            place = place;
            heard = heard;
            connection = connection;
            before = ends.before;
            last = ends.last;
            end = ends.end;
            ends = behind;
            told = refl;
          } in
          k t (inr (inr (inl shows)))
    ])

shown-opening : (most : ℕ) (records : List Record) (at : ℕ) (o : Opening) → IsFirstAt (openings_of records) at o
    → ((t : Telling) → ¬ (Shows most records t)) → ⊥
shown-opening most records at o first k = elim (accepts-or-not o.seq (heard_behind records at o)) [
  | inl none ↦
      k (record { end = NoConnection; opening = Some o; board = empty; upto = records })
      (inr (inl (record { at = at; opening = o; is_first = first; none = none; told = refl })))
  | inr there ↦
      shown-connection most records o there.1.seq (suc at + suc there.0) there.2
      (record { at = at; is_first = first; answer = there.1; answer_at = there.0; connects = there.3; irs_is = refl; place_is = refl }) k
]

pub shows-some : (most : ℕ) (records : List Record) → ¬ ((t : Telling) → ¬ (Shows most records t))
shows-some most records k = elim (asks-or-not (openings_of records)) [
  | inl none ↦ k (record { end = NoConnection; opening = None; board = empty; upto = records }) (inl (record { none = none; told = refl }))
  | inr there ↦ shown-opening most records there.0 there.1 there.2 k
]

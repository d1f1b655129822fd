-- An ended connection stays as it is.
use Rattle.std.proofs.Common.{◌≡◌, Bool, true, false, ◌||◌, Option, Some, None, is_some, if◌then◌else◌, refl, ap, ◌∙◌}
use Rattle.std.proofs.lemmas.Bool.{false≢true}
use Rattle.tcp_conn.specs.declared.out.SegOut.{SegOut}
use Rattle.tcp_conn.specs.declared.state.ConnState.{ConnState}
use Rattle.tcp_conn.specs.declared.state.ConnState.TheVariants.{Closed}
use Rattle.tcp_conn.specs.Connection.{Connection, is_closed, is_over}
use Rattle.tcp_conn.specs.Owed.{due_in, after_due_in, rest_out, after_rest, segment_out, after_out}

due : (state : ConnState) (c : Connection) → is_closed state ≡ true → due_in state c ≡ None
due (Closed e) c h = refl
due other c h = absurd (false≢true h)

after-due : (state : ConnState) (c : Connection) → is_closed state ≡ true → after_due_in state c ≡ c
after-due (Closed e) c h = refl
after-due other c h = absurd (false≢true h)

first-none : (o r : Option SegOut) → o ≡ None → (if is_some o then o else r) ≡ r
first-none None r h = refl
first-none (Some out) r h = cc

after-none : (o : Option SegOut) (x y : Connection) → o ≡ None → (if is_some o then x else y) ≡ y
after-none None x y h = refl
after-none (Some out) x y h = cc

yes : {A : Type 0} (b : Bool) (x y : A) → b ≡ true → (if b then x else y) ≡ x
yes true x y h = refl
yes false x y h = absurd (false≢true h)

or-true : (a b : Bool) → b ≡ true → (a || b) ≡ true
or-true true b h = refl
or-true false b h = h

pub ended-sends : (c : Connection) → is_closed c.state ≡ true → segment_out c ≡ None
ended-sends c h =
    first-none (due_in c.state c) (rest_out (after_due_in c.state c)) (due c.state c h)
    ∙ ap rest_out (after-due c.state c h) ∙ yes (is_closed c.state) None _ h

pub ended-stays : (c : Connection) → is_closed c.state ≡ true → after_out c ≡ c
ended-stays c h =
    after-none (due_in c.state c) (record (after_due_in c.state c) { ack_owed = false }) (after_rest (after_due_in c.state c)) (due c.state c h)
    ∙ ap after_rest (after-due c.state c h) ∙ yes (is_closed c.state) c _ h

pub ended-over : (c : Connection) (other : Connection) → is_closed c.state ≡ true → (if is_over c then c else other) ≡ c
ended-over c other h = yes (is_over c) c other (or-true c.aborted (is_closed c.state) h)

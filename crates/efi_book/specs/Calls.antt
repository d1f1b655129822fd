-- What a driver does with its core, call by call, and which acts of the book each call is.
use Rattle.std.specs.Prelude.{◌≡◌, refl, ℕ, Bool, true, false, List, [], ◌∷◌, ◌++◌, Option, Some, None}
use Rattle.std.proofs.Common.{sym, ◌∙◌, ap}
use Rattle.efi_base.specs.declared.tokens.Ticket.{Ticket}
use Rattle.efi_base.specs.declared.tokens.TokenId.{TokenId}
use Rattle.efi_base.specs.declared.tokens.Owner.{Owner}
use Rattle.efi_book.specs.Books.{Tokens}
use Rattle.efi_book.specs.Outboxes.{Waiting}
use Rattle.efi_book.specs.Acts.{Act, Accepted, Stopped, Cancelled, TokenCancelled, after, runs}
use Rattle.efi_book.specs.Others.{aborts}
use Rattle.efi_book.specs.Cores.{Drive, id_of, in_tokens, in_outbox, made, own_made, destroyed, configured, drive_cancelled, drive_token_cancelled, posted}

-- an accepted call of a core, and what a driver does with it by itself; a refused call changes nothing
pub data Call (C W M : Type 0) : Type 0 where
  Create : ℕ → Call C W M
  CreateOwn : ℕ → Call C W M
  Destroy : ℕ → ℕ → Call C W M
  Configure : ℕ → ℕ → Option C → Call C W M
  Cancel : ℕ → Option Ticket → Call C W M
  CancelToken : ℕ → Option TokenId → Call C W M
  Post : ℕ → Owner → W → Call C W M
  -- a change of the book alone
  Book : Act W → Call C W M
  -- a change of the messages alone
  Messages : Waiting M → Call C W M

runs_joined : {W : Type 0} (s : Tokens W) (xs ys : List (Act W)) → runs s (xs ++ ys) ≡ runs (runs s xs) ys
runs_joined s [] ys = refl
runs_joined s (x ∷ xs) ys = runs_joined (after s x) xs ys

module _ {C W M : Type 0} where
  -- what a call leaves
  abbrev pub called : Drive C W M → Call C W M → Drive C W M
  called s (Create key) = made s key
  called s (CreateOwn key) = own_made s key
  called s (Destroy key serial) = destroyed s key serial
  called s (Configure key serial c) = configured s key serial c
  called s (Cancel serial t) = drive_cancelled s serial t
  called s (CancelToken serial t) = drive_token_cancelled s serial t
  called s (Post serial owner work) = posted s serial owner work
  called s (Book act) = in_tokens s (after s.tokens act)
  called s (Messages b) = in_outbox s b

  abbrev pub all_called : Drive C W M → List (Call C W M) → Drive C W M
  all_called s [] = s
  all_called s (call ∷ calls) = all_called (called s call) calls

  -- the acts of the book that a call is
  abbrev pub acts_of : Call C W M → List (Act W)
  acts_of (Create key) = []
  acts_of (CreateOwn key) = []
  acts_of (Destroy key serial) = Stopped (id_of serial) ∷ []
  acts_of (Configure key serial (Some c)) = []
  acts_of (Configure key serial None) = Stopped (id_of serial) ∷ []
  acts_of (Cancel serial (Some t)) = Cancelled (id_of serial) t ∷ []
  acts_of (Cancel serial None) = Stopped (id_of serial) ∷ []
  acts_of (CancelToken serial (Some t)) = TokenCancelled (id_of serial) t ∷ []
  acts_of (CancelToken serial None) = Stopped (id_of serial) ∷ []
  acts_of (Post serial owner work) = Accepted (id_of serial) owner work ∷ []
  acts_of (Book act) = act ∷ []
  acts_of (Messages b) = []

  abbrev pub all_acts : List (Call C W M) → List (Act W)
  all_acts [] = []
  all_acts (call ∷ calls) = acts_of call ++ all_acts calls

  -- the child that a call stops: a destroy, a reset, a cancel of all
  abbrev pub stopped_by : Call C W M → Option ℕ
  stopped_by (Create key) = None
  stopped_by (CreateOwn key) = None
  stopped_by (Destroy key serial) = Some serial
  stopped_by (Configure key serial (Some c)) = None
  stopped_by (Configure key serial None) = Some serial
  stopped_by (Cancel serial (Some t)) = None
  stopped_by (Cancel serial None) = Some serial
  stopped_by (CancelToken serial (Some t)) = None
  stopped_by (CancelToken serial None) = Some serial
  stopped_by (Post serial owner work) = None
  stopped_by (Book act) = None
  stopped_by (Messages b) = None

  -- a call that may end tokens as aborted
  abbrev pub call_aborts : Call C W M → Bool
  call_aborts (Create key) = false
  call_aborts (CreateOwn key) = false
  call_aborts (Destroy key serial) = true
  call_aborts (Configure key serial (Some c)) = false
  call_aborts (Configure key serial None) = true
  call_aborts (Cancel serial t) = true
  call_aborts (CancelToken serial t) = true
  call_aborts (Post serial owner work) = false
  call_aborts (Book act) = aborts act
  call_aborts (Messages b) = false

  call_acts : (s : Drive C W M) (call : Call C W M) → (called s call).tokens ≡ runs s.tokens (acts_of call)
  call_acts s (Create key) = refl
  call_acts s (CreateOwn key) = refl
  call_acts s (Destroy key serial) = refl
  call_acts s (Configure key serial (Some c)) = refl
  call_acts s (Configure key serial None) = refl
  call_acts s (Cancel serial (Some t)) = refl
  call_acts s (Cancel serial None) = refl
  call_acts s (CancelToken serial (Some t)) = refl
  call_acts s (CancelToken serial None) = refl
  call_acts s (Post serial owner work) = refl
  call_acts s (Book act) = refl
  call_acts s (Messages b) = refl

  -- over any list of calls, the book is what the acts of all calls leave
  pub calls_are_acts : (s : Drive C W M) (calls : List (Call C W M)) → (all_called s calls).tokens ≡ runs s.tokens (all_acts calls)
  calls_are_acts s [] = refl
  calls_are_acts s (call ∷ calls) =
      calls_are_acts (called s call) calls
      ∙ ap (λ t. runs t (all_acts calls)) (call_acts s call)
      ∙ sym (runs_joined s.tokens (acts_of call) (all_acts calls))

-- The law of a driver that is made of a core: what holds of a book over any list of acts holds of its tokens over any
-- list of calls.
use Rattle.std.specs.Prelude.{◌≡◌, refl, ℕ, ◌+◌, ◌≤◌, false, List, Some, None}
use Rattle.std.proofs.Common.{sym, ap, subst, arith}
use Rattle.efi_book.specs.Books.{Tokens, no_tokens_from}
use Rattle.efi_book.specs.Acts.{Accepted, Stopped, after, runs, held, all_takes, given_out}
use Rattle.efi_book.specs.ActLaws.{each_once}
use Rattle.efi_book.specs.Aborts.{Stops, stops}
use Rattle.efi_book.specs.Others.{aborted_ends, no_others}
use Rattle.efi_book.specs.Cores.{Drive, id_of, start_from}
use Rattle.efi_book.specs.Calls.{Call, Create, CreateOwn, Destroy, Configure, Cancel, CancelToken, Post, Book, Messages, called, all_called, all_acts, stopped_by, call_aborts, calls_are_acts}

module _ {C W M : Type 0} where
  -- each ticket that was given out has its token in the book, or its token was taken, once
  pub driver_once : (own serial first n : ℕ) (calls : List (Call C W M)) → first ≤ n
      → held n (all_called (start_from own serial first) calls).tokens + all_takes n (no_tokens_from first) (all_acts calls)
      ≡ given_out n (all_called (start_from own serial first) calls).tokens
  driver_once own serial first n calls up =
      let same : (all_called (start_from own serial first) calls).tokens ≡ runs (no_tokens_from first) (all_acts calls) = calls_are_acts (start_from own serial first) calls in
      let Once : Tokens W → Type 0 = λ s. held n s + all_takes n (no_tokens_from first) (all_acts calls) ≡ given_out n s in
      subst Once (sym same) (each_once n first (all_acts calls) up)

  stop-is : (s : Drive C W M) (call : Call C W M) (serial : ℕ) → stopped_by call ≡ Some serial → (called s call).tokens ≡ after s.tokens (Stopped (id_of serial))
  stop-is s (Create key) serial e = absurd (cc)
  stop-is s (CreateOwn key) serial e = absurd (cc)
  stop-is s (Destroy key n) serial e = ap (λ k. after s.tokens (Stopped (id_of k))) (cc)
  stop-is s (Configure key n (Some c)) serial e = absurd (cc)
  stop-is s (Configure key n None) serial e = ap (λ k. after s.tokens (Stopped (id_of k))) (cc)
  stop-is s (Cancel n (Some t)) serial e = absurd (cc)
  stop-is s (Cancel n None) serial e = ap (λ k. after s.tokens (Stopped (id_of k))) (cc)
  stop-is s (CancelToken n (Some t)) serial e = absurd (cc)
  stop-is s (CancelToken n None) serial e = ap (λ k. after s.tokens (Stopped (id_of k))) (cc)
  stop-is s (Post n owner work) serial e = absurd (cc)
  stop-is s (Book act) serial e = absurd (cc)
  stop-is s (Messages b) serial e = absurd (cc)

  -- a destroy, a reset or a cancel of all ends exactly the child's pending tokens, by rising ticket, as aborted
  pub driver_stops : (own serial first child : ℕ) (calls : List (Call C W M)) (call : Call C W M) → stopped_by call ≡ Some child
      → Stops first (all_called (start_from own serial first) calls).tokens (called (all_called (start_from own serial first) calls) call).tokens (id_of child)
  driver_stops own serial first child calls call e =
      let s = all_called (start_from own serial first) calls in
      let same : s.tokens ≡ runs (no_tokens_from first) (all_acts calls) = calls_are_acts (start_from own serial first) calls in
      let Ends : Tokens W → Type 0 = λ t. Stops first t (after t (Stopped (id_of child))) (id_of child) in
      let Left : Tokens W → Type 0 = λ t. Stops first s.tokens t (id_of child) in
      subst Left (sym (stop-is s call child e)) (subst Ends (sym same) (stops first (all_acts calls) (id_of child)))

  -- no other call brings an end as aborted
  pub driver_others : (s : Drive C W M) (call : Call C W M) → call_aborts call ≡ false → aborted_ends (called s call).tokens ≤ aborted_ends s.tokens
  driver_others s (Create key) h = omega arith
  driver_others s (CreateOwn key) h = omega arith
  driver_others s (Destroy key n) h = absurd (cc)
  driver_others s (Configure key n (Some c)) h = omega arith
  driver_others s (Configure key n None) h = absurd (cc)
  driver_others s (Cancel n t) h = absurd (cc)
  driver_others s (CancelToken n t) h = absurd (cc)
  driver_others s (Post n owner work) h = no_others s.tokens (Accepted (id_of n) owner work) refl
  driver_others s (Book act) h = no_others s.tokens act h
  driver_others s (Messages b) h = omega arith

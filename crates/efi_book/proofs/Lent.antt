-- What is written through a work that was lent, where its token stands.
use Rattle.std.proofs.Common.{◌≡◌, ◌⊎◌, inl, ℕ, length, get_or, Some, slice_get, slice_set, refl, ap}
use Rattle.std.proofs.Math.Path.{fun_ext}
use Rattle.std.specs.List.{position}
use Rattle.std.proofs.lemmas.Option.{slice_get_read}
use Rattle.std.proofs.lemmas.List.Quantifiers.{position-Some}
use Rattle.efi_base.specs.declared.tokens.Ticket.{Ticket}
use Rattle.efi_book.specs.declared.ends.Pending.{Pending}
use Rattle.efi_book.specs.Pendings.{is_at, with_work}
use Rattle.efi_book.specs.Books.{Tokens, work_of, work_put}

-- two lenders that end alike, whatever is written
pub ends_alike : {A B C D : Type 0} {name : A} {f g : B → C} → ((w : B) → f w ≡ g w) → ◌≡◌ {A = (A × (B → C)) ⊎ D} (inl (name, f)) (inl (name, g))
ends_alike {name = name} h = ap (λ e. inl (name, e)) (fun_ext h)

module _ {T : Type 0} (s : Tokens T) (ticket : Ticket) (i : ℕ) (p : Pending T) (e : position (is_at ticket) s.pending ≡ Some i) (r : p ≡ get_or s.pending i p) where
  stands : slice_get s.pending i ≡ Some p
  stands =
      let within = position-Some (is_at ticket) s.pending i p e in
      slice_get_read s.pending (length s.pending) i p refl within.0 r

  pub lent : (w : T) → record { pending = slice_set s.pending i (with_work p w); done = s.done; ups = s.ups; next = s.next; spare = s.spare } ≡ work_put s ticket w
  lent w = rw (e, stands) refl

  pub read : Some p.work ≡ work_of s ticket
  read = rw (e, stands) refl

-- A token that leaves by an exit is still there.
use Rattle.std.proofs.Common.{◌≡◌, ℕ, Bool, List, ◌++◌, length, get_or, Option, Some, slice_get, subst, refl, sym, ap, ◌∙◌}
use Rattle.std.specs.List.{position, remove}
use Rattle.std.proofs.lemmas.Option.{slice_get_read}
use Rattle.std.proofs.lemmas.List.Quantifiers.{position-Some}
use Rattle.efi_base.specs.declared.tokens.Owner.{Owner}
use Rattle.efi_base.specs.declared.tokens.End.{End}
use Rattle.efi_book.specs.declared.ends.Pending.{Pending}
use Rattle.efi_book.specs.declared.ends.Done.{Done}
use Rattle.efi_book.specs.declared.ends.Raised.{Raised}
use Rattle.efi_book.specs.Pendings.{to_users, to_uppers, with_work}
use Rattle.efi_book.specs.Books.{Tokens, left_at, ended_at, times}
use Rattle.efi_book.specs.Conserves.{times_ended}

module _ {T : Type 0} where
  left_times : (o : Owner) (s : Tokens T) (test : Pending T → Bool) (i : ℕ) (p : Pending T) (end : End) (change : T → T)
      → position test s.pending ≡ Some i → slice_get s.pending i ≡ Some p → times o (left_at s i (Some p) end change) ≡ times o s
  left_times o s test i p end change e f =
      let a : times o (ended_at s (Some i) end change) ≡ times o s = subst (λ (k : Option ℕ). times o (ended_at s k end change) ≡ times o s) e (times_ended o s test end change) in
      subst (λ (x : Option (Pending T)). times o (left_at s i x end change) ≡ times o s) f a

  pub left_keeps : (o : Owner) (s : Tokens T) (test : Pending T → Bool) (i : ℕ) (p : Pending T) (end : End) (work : T)
      (pending now : List (Pending T)) (done : List (Done T)) (ups : List (Raised T)) (found : Option ℕ)
      → found ≡ position test now → found ≡ Some i → now ≡ s.pending → p ≡ get_or s.pending i p → pending ≡ remove s.pending i
      → done ≡ s.done ++ to_users (with_work p work) end → ups ≡ s.ups ++ to_uppers (with_work p work) end
      → times o (record { pending = pending; done = done; ups = ups; next = s.next; spare = s.spare }) ≡ times o s
  left_keeps o s test i p end work pending now done ups found at is same read e1 e2 e3 =
      let e : position test s.pending ≡ Some i = ap (λ l. position test l) (sym same) ∙ sym at ∙ is in
      let within = position-Some test s.pending i p e in
      let f : slice_get s.pending i ≡ Some p = slice_get_read s.pending (length s.pending) i p refl within.0 read in
      ap (λ l. times o (record { pending = l; done = done; ups = ups; next = s.next; spare = s.spare })) e1
      ∙ ap (λ l. times o (record { pending = remove s.pending i; done = l; ups = ups; next = s.next; spare = s.spare })) e2
      ∙ ap (λ l. times o (record { pending = remove s.pending i; done = s.done ++ to_users (with_work p work) end; ups = l; next = s.next; spare = s.spare })) e3
      ∙ left_times o s test i p end (λ _. work) e f

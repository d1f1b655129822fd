-- What is known of a text that was read in pieces.
use Rattle.std.proofs.Common.{◌≡◌, ◌⊎◌, ℕ, List, [], ◌++◌, Option, Some, None, Result, Ok, Err, IfOk, inl, inr, sym, subst, ap, ◌∙◌}
use Rattle.std.proofs.lemmas.List.{append-nil, append_assoc}
use Rattle.efi_base.specs.declared.fault.NoMemory.{NoMemory}
use Rattle.text_base.specs.Lines.{IsCause}
use Rattle.text_base.specs.declared.lines.TextFault.{TextFault}
use Rattle.text_base.specs.declared.lines.TextFault.TheVariants.{BadAt, OutOfResources}
use Rattle.boot_top.specs.declared.following.Told.{Told}
use Rattle.boot_top.specs.declared.following.Told.TheVariants.{BadAt as ToldBadAt}
use Rattle.boot_top.specs.Texts.{IsRefusedAlready, IsRefusedBy, IsTold}

fault-one : {T : Type 0} (result : Result T TextFault) (e f : TextFault) → result ≡ Err e → result ≡ Err f → e ≡ f
fault-one result e f a b =
    let both : Err e ≡ Err f = sym a ∙ b in
    cc

module _ {Reading T : Type 0} (HasRead : List ℕ → Reading → Type 0) (reads : List ℕ → Result T ℕ) where
  -- a piece that goes on to a text
  pub fed-good : (fed piece : List ℕ) (old new : Reading) (fault later : Option TextFault) → HasRead fed old ⊎ IsRefusedAlready reads fed fault
      → (fault ≡ None) × ((fed : List ℕ) → HasRead fed old → HasRead (fed ++ piece) new)
      → HasRead (fed ++ piece) new ⊎ IsRefusedAlready reads (fed ++ piece) later
  fed-good fed piece old new fault later (inl h) on = inl (on.1 fed h)
  fed-good fed piece old new fault later (inr r) on =
      let both : Some (BadAt r.place) ≡ None = sym r.told ∙ on.0 in
      absurd (cc)

  -- and one with which it is none, or that stands behind such a one
  pub fed-bad : (fed piece : List ℕ) (old new : Reading) (fault later : Option TextFault) (result : Result Unit TextFault) (e : TextFault) (n : ℕ) (Same : Type 0) → HasRead fed old ⊎ IsRefusedAlready reads fed fault
      → e ≡ BadAt n → result ≡ Err e
      → ((fed more : List ℕ) → HasRead fed old → IsCause (reads ((fed ++ piece) ++ more)) e)
      → later ≡ Some e → ((f : TextFault) → fault ≡ Some f → (result ≡ Err f) × Same)
      → HasRead (fed ++ piece) new ⊎ IsRefusedAlready reads (fed ++ piece) later
  fed-bad fed piece old new fault later result e n Same (inl h) is answer cause now told = inr (record {
    place = n;
    told = now ∙ ap Some is;
    bad = λ more. subst (IsCause (reads ((fed ++ piece) ++ more))) is (cause fed more h);
  })
  fed-bad fed piece old new fault later result e n Same (inr r) is answer cause now told = inr (record {
    place = r.place;
    told = now ∙ ap Some (fault-one result e (BadAt r.place) answer (told (BadAt r.place) r.told).0);
    bad = λ more. subst (λ l. reads l ≡ Err r.place) (sym (append_assoc fed piece more)) (r.bad (piece ++ more));
  })

  -- all that was fed is a text
  pub good-at-end : (fed : List ℕ) (reader : Reading) (fault : Option TextFault) (meaning : T) → HasRead fed reader ⊎ IsRefusedAlready reads fed fault
      → (fault ≡ None) × ((fed : List ℕ) → HasRead fed reader → reads fed ≡ Ok meaning) → reads fed ≡ Ok meaning
  good-at-end fed reader fault meaning (inl h) whole = whole.1 fed h
  good-at-end fed reader fault meaning (inr r) whole =
      let both : Some (BadAt r.place) ≡ None = sym r.told ∙ whole.0 in
      absurd (cc)

  -- or none
  pub cause-at-end : (fed : List ℕ) (reader : Reading) (fault : Option TextFault) (result : Result T TextFault) (e : TextFault) → HasRead fed reader ⊎ IsRefusedAlready reads fed fault
      → result ≡ Err e → ((fed : List ℕ) → HasRead fed reader → IsCause (reads fed) e) → ((f : TextFault) → fault ≡ Some f → result ≡ Err f)
      → IsCause (reads fed) e
  cause-at-end fed reader fault result e (inl h) answer refused told = refused fed h
  cause-at-end fed reader fault result e (inr r) answer refused told =
      subst (IsCause (reads fed)) (fault-one result (BadAt r.place) e (told (BadAt r.place) r.told) answer)
      (subst (λ l. reads l ≡ Err r.place) (append-nil fed) (r.bad []))

module _ {T : Type 0} (Says : T → ℕ → List ℕ → Type 0) where
  -- what came of a meaning came of the texts that have it
  pub if-ok : (result : Result Told NoMemory) (read : Result T ℕ) (meaning : T) → read ≡ Ok meaning → IfOk result (IsTold Says (Ok meaning)) → IfOk result (IsTold Says read)
  if-ok result read meaning is told = subst (λ r. IfOk result (IsTold Says r)) (sym is) told

  told-refused : (told : Told) (read : Result T ℕ) (n : ℕ) → told ≡ ToldBadAt n → read ≡ Err n → IsTold Says read told
  told-refused told read n is bad = subst (IsTold Says read) (sym is) bad

  -- what came of a fault came of the texts that have it
  pub if-cause : (result : Result Told NoMemory) (read : Result T ℕ) (e : TextFault) → IsCause read e → IfOk result (IsRefusedBy e) → IfOk result (IsTold Says read)
  if-cause (Err x) read e cause refused = tt
  if-cause (Ok told) read (BadAt n) cause refused = told-refused told read n refused cause
  if-cause (Ok told) read OutOfResources cause refused = absurd refused

-- Tokens that are taken, one by one.
use Rattle.std.proofs.Common.{◌≡◌, ℕ, ◌+◌, ◌<◌, List, [], ◌∷◌, ◌++◌, map, drop, length, Option, Some, None, option_map, slice_get, refl, sym, ap, ◌∙◌, arith}
use Rattle.efi_book.specs.declared.ends.Done.{Done}
use Rattle.efi_book.specs.Books.{Tokens}
use Rattle.efi_book.specs.Cores.{in_tokens}
use Rattle.drv_mnp.specs.declared.work.MnpWork.{MnpWork}
use Rattle.drv_mnp.specs.Mnps as mnps
use Rattle.drv_arp.specs.declared.asks.Ask.{Ask}
use Rattle.drv_arp.specs.declared.asks.ArpWork.{ArpWork}
use Rattle.drv_arp.specs.Arps as arps
use Rattle.efi_stack.specs.OnMnp as on_mnp
use Rattle.efi_stack.specs.OnArp as on_arp
use Rattle.efi_stack.specs.Fires.{arp_left, first_of_these, first_fired, left, without_fired}
use Rattle.efi_stack.specs.Stacks.{with_arp, with_mnp}
use Rattle.efi_stack.specs.declared.any.Fired.{Fired}
use Rattle.efi_stack.specs.declared.stack.Stack.{Stack}
use Rattle.doc_text.specs.declared.trace.TraceLine.{TraceLine}
use Rattle.script_run.specs.Lines.{fired_line}
use Rattle.script_run.specs.Running.{fired_lines, settled}

front-some : {X : Type 0} (xs : List X) (x : X) → slice_get xs 0 ≡ Some x → xs ≡ x ∷ drop 1 xs
front-some [] x h = absurd (cc)
front-some (y ∷ ys) x h = let same : y ≡ x = cc in ap (λ z. z ∷ ys) same

front-none : {X : Type 0} (xs : List X) → slice_get xs 0 ≡ None → xs ≡ []
front-none [] h = refl
front-none (y ∷ ys) h = absurd (cc)

shorter : {X : Type 0} (xs : List X) (x : X) → slice_get xs 0 ≡ Some x → length (drop 1 xs) + 1 ≡ length xs
shorter [] x h = absurd (cc)
shorter (y ∷ ys) x h = omega arith

abbrev mnp_line : Done MnpWork → TraceLine
mnp_line d = fired_line (on_mnp.fired d)

abbrev arp_line : Done Ask → TraceLine
arp_line d = fired_line (on_arp.fired (arps.done_of d))

abbrev these : List (Done MnpWork) → List (Done Ask) → List TraceLine
these ms qs = map mnp_line ms ++ map arp_line qs

-- how many are left
abbrev pub waiting : Stack → ℕ
waiting s = length s.mnp.drive.tokens.done + length s.arp.drive.tokens.done

pub record IsTaken (s : Stack) (f : Fired) (later : Stack) : Type 0 where
  pub lines : fired_lines s ≡ fired_line f ∷ fired_lines later
  pub rest : settled later ≡ settled s
  pub fewer : waiting later < waiting s

arp-taken : (p : Option (Done Ask)) (s : Stack) (f : Fired) → slice_get s.mnp.drive.tokens.done 0 ≡ None → slice_get s.arp.drive.tokens.done 0 ≡ p
    → option_map on_arp.fired (option_map arps.done_of p) ≡ Some f → IsTaken s f (arp_left s (option_map arps.done_of p))
arp-taken None s f n e h = absurd (cc)
arp-taken (Some d) s f n e h =
    let ms = s.mnp.drive.tokens.done in
    let qs = s.arp.drive.tokens.done in
    let none : ms ≡ [] = front-none ms n in
    let split : qs ≡ d ∷ drop 1 qs = front-some qs d e in
    let same : on_arp.fired (arps.done_of d) ≡ f = cc in
    let count : length (drop 1 qs) + 1 ≡ length qs = shorter qs d e in
    record {
      lines = ap (λ x. these x qs) none ∙ ap (λ y. these [] y) split ∙ ap (λ x. fired_line x ∷ map arp_line (drop 1 qs)) same
          ∙ ap (λ x. fired_line f ∷ these x (drop 1 qs)) (sym none);
      rest = refl;
      fewer = omega (arith, count);
    }

taken-by : (o : Option (Done MnpWork)) (s : Stack) (f : Fired) → slice_get s.mnp.drive.tokens.done 0 ≡ o
    → first_of_these o (option_map arps.done_of (slice_get s.arp.drive.tokens.done 0)) ≡ Some f → IsTaken s f (left s o)
taken-by None s f e h = arp-taken (slice_get s.arp.drive.tokens.done 0) s f e refl h
taken-by (Some d) s f e h =
    let ms = s.mnp.drive.tokens.done in
    let qs = s.arp.drive.tokens.done in
    let split : ms ≡ d ∷ drop 1 ms = front-some ms d e in
    let same : on_mnp.fired d ≡ f = cc in
    let count : length (drop 1 ms) + 1 ≡ length ms = shorter ms d e in
    record {
      lines = ap (λ x. these x qs) split ∙ ap (λ x. fired_line x ∷ these (drop 1 ms) qs) same;
      rest = refl;
      fewer = omega (arith, count);
    }

-- the token that is taken has the first line, and the others have the rest
pub taken-first : (s : Stack) (f : Fired) → first_fired s ≡ Some f → IsTaken s f (without_fired s)
taken-first s f h = taken-by (slice_get s.mnp.drive.tokens.done 0) s f refl h

abbrev with_done : Stack → List (Done MnpWork) → List (Done Ask) → Stack
with_done s ms qs =
    let m = s.mnp.drive.tokens in
    let a = s.arp.drive.tokens in
    with_arp (with_mnp s (mnps.in_drive s.mnp (in_tokens s.mnp.drive (record { pending = m.pending; done = ms; ups = m.ups; next = m.next; spare = m.spare }))))
    (arps.in_drive s.arp (in_tokens s.arp.drive (record { pending = a.pending; done = qs; ups = a.ups; next = a.next; spare = a.spare })))

none-by : (o : Option (Done MnpWork)) (p : Option (Done Ask)) → first_of_these o (option_map arps.done_of p) ≡ None → (o ≡ None) × (p ≡ None)
none-by None None h = (refl, refl)
none-by None (Some d) h = absurd (cc)
none-by (Some d) p h = absurd (cc)

-- where none is there to take, no lines are left, and none is taken
pub none-left : (s : Stack) → first_fired s ≡ None → (fired_lines s ≡ []) × (s ≡ settled s) × (without_fired s ≡ s)
none-left s h =
    let ms = s.mnp.drive.tokens.done in
    let qs = s.arp.drive.tokens.done in
    let both = none-by (slice_get ms 0) (slice_get qs 0) h in
    let no_ms : ms ≡ [] = front-none ms both.0 in
    let no_qs : qs ≡ [] = front-none qs both.1 in (
      ap (λ x. these x qs) no_ms ∙ ap (λ y. these [] y) no_qs,
      ap (λ x. with_done s x qs) no_ms ∙ ap (λ y. with_done s [] y) no_qs,
      ap (left s) both.0 ∙ ap (λ p. arp_left s (option_map arps.done_of p)) both.1,
    )

-- No option takes the empty text, or one that begins with a hyphen, and no command is called so.
use Rattle.std.proofs.Common.{◌≡◌, ◌∙◌, ℕ, Bool, true, false, not, ◌&&◌, ◌==◌, ◌%◌, cond, [], ◌∷◌, length, map, Option, Some, None, codes, refl, sym, ap, subst, true≢false, arith}
use Rattle.std.specs.Prelude.{is_none, option_map, option_and_then}
use Rattle.std.specs.Str.{bytes_eq}
use Rattle.std.specs.Str.Parse.{digits_value}
use Rattle.std.specs.Prelude.{nat_le}
use Rattle.std.proofs.lemmas.Bool.{and_left, and_right}
use Rattle.clap.specs.Walk.{Text}
use Rattle.boot_words.specs.declared.task.Task.{Task}
use Rattle.boot_words.specs.declared.task.Emit.{Emit}
use Rattle.boot_words.specs.declared.task.Emit.TheVariants.{Report, Image}
use Rattle.boot_words.specs.Numbers.{number_of, mac_of, has_no_leading_zero, octet_at, octet_places}
use Rattle.boot_words.specs.declared.task.Task.TheVariants.{Boot, Tftp}
use Rattle.efi_base.specs.declared.plain.Mac.{Mac}
use Rattle.boot_words.specs.Tasks.{Given, buffer_of, capture_passes, emit_of, emit_word, extract_task, is_file_name, mac_value, make_task, named_task, replay_task, script_task, seed_of, seed_word, session_emit, task_of}
use Rattle.boot_words.specs.Grammar.{have_values, is_value, is_value_if_given}
use Rattle.boot_words.proofs.GrammarSteps.{nothing_then}

value_is : (v : Text) → is_value v ≡ is_file_name v
value_is [] = refl
value_is (b ∷ rest) = refl

by_first : (P : Text → Type 0) → P [] → ((rest : Text) → P (45 ∷ rest)) → (v : Text) → is_value v ≡ false → P v
by_first P none hyphen [] h = none
by_first P none hyphen (b ∷ rest) h = go (b == 45) refl h
  where
    is : (n : ℕ) → (n == 45) ≡ true → n ≡ 45
    is n e = grind (arith, e)

    go : (t : Bool) → (b == 45) ≡ t → not t ≡ false → P (b ∷ rest)
    go true e x = subst (λ (n : ℕ). P (n ∷ rest)) (sym (is b e)) (hyphen rest)
    go false e x = absurd (true≢false x)

emit_none : (v : Text) → is_value v ≡ false → emit_word v ≡ None
emit_none = by_first (λ v. emit_word v ≡ None) refl (λ rest. refl)

command_none : (g : Given) (v : Text) → is_value v ≡ false → named_task g v ≡ None
command_none g = by_first (λ v. named_task g v ≡ None) refl (λ rest. refl)

number_none : (most : ℕ) (v : Text) → is_value v ≡ false → number_of most v ≡ None
number_none most = by_first (λ v. number_of most v ≡ None) refl (λ rest.
    ap (λ (b : Bool). cond (b && nat_le (digits_value 10 (45 ∷ rest)) most) (Some (digits_value 10 (45 ∷ rest))) None) (and_right (has_no_leading_zero (45 ∷ rest)) _ refl))

abbrev mac_if : Text → Bool → Option Mac
mac_if text is = cond (is && octet_at text 0 % 2 == 0) (Some (record { 0 = map (octet_at text) octet_places })) None

mac_none : (v : Text) → is_value v ≡ false → mac_of v ≡ None
mac_none = by_first (λ v. mac_of v ≡ None) refl (λ rest.
    ap (mac_if (45 ∷ rest)) (and_right (length (45 ∷ rest) == 17) _ refl))

no_then : {S T : Type 0} (f : S → Option T) (o : Option S) → o ≡ None → option_and_then f o ≡ None
no_then f o e = ap (option_and_then f) e

no_map : {S T : Type 0} (f : S → T) (o : Option S) → o ≡ None → option_map f o ≡ None
no_map f o e = ap (option_map f) e

no_cond : {T : Type 0} (b : Bool) (x : Option T) → x ≡ None → cond b x None ≡ None
no_cond true x e = e
no_cond false x e = refl

cond_no : {T : Type 0} (b : Bool) (x : Option T) → b ≡ false → cond b x None ≡ None
cond_no b x e = ap (λ (t : Bool). cond t x None) e

six : (a b c d e f : Bool) (u v w x y z : Option Task) → u ≡ None → v ≡ None → w ≡ None → x ≡ None → y ≡ None → z ≡ None
    → cond a u (cond b v (cond c w (cond d x (cond e y (cond f z None))))) ≡ None
six true b c d e f u v w x y z p q r s t o = p
six false true c d e f u v w x y z p q r s t o = q
six false false true d e f u v w x y z p q r s t o = r
six false false false true e f u v w x y z p q r s t o = s
six false false false false true f u v w x y z p q r s t o = t
six false false false false false f u v w x y z p q r s t o = no_cond f z o

named_none : (g : Given) (word : Text) → extract_task g ≡ None → script_task g ≡ None → replay_task g ≡ None → ((d : Emit) → session_emit d g ≡ None) → make_task g ≡ None
    → named_task g word ≡ None
named_none g word extract script replay session make =
    six (bytes_eq word (codes "extract")) (bytes_eq word (codes "script")) (bytes_eq word (codes "replay")) (bytes_eq word (codes "boot")) (bytes_eq word (codes "tftp"))
    (bytes_eq word (codes "make")) (extract_task g) (script_task g) (replay_task g) (option_map Boot (session_emit Report g)) (option_map Tftp (session_emit Image g)) (make_task g)
    extract script replay (no_map Boot (session_emit Report g) (session Report)) (no_map Tftp (session_emit Image g) (session Image)) make

emit_bad : (g : Given) (word : Text) → ((d : Emit) → emit_of d g.emit ≡ None) → is_none g.emit ≡ false → named_task g word ≡ None
emit_bad g word e n = named_none g word
    (no_cond _ _ (no_then _ _ (e Image)))
    (cond_no _ _ (and_left _ _ n))
    (no_cond _ _ (no_then _ _ (e Report)))
    (λ d. no_cond _ _ (e d))
    (no_cond _ _ (no_then _ _ (e Report)))

capture_bad : (g : Given) (word : Text) → capture_passes g.capture ≡ false → is_none g.capture ≡ false → named_task g word ≡ None
capture_bad g word e n = named_none g word
    (cond_no _ _ (and_left _ _ n))
    (cond_no _ _ (and_right (is_none g.emit) _ (and_left _ _ n)))
    (cond_no _ _ e)
    (λ d. cond_no _ _ (and_right (is_none g.buffer) _ (and_right (is_none g.seed) _ (and_right (is_none g.mac) _ e))))
    (cond_no _ _ (and_right (is_none g.buffer) _ (and_right (is_none g.mac) _ e)))

buffer_bad : (g : Given) (word : Text) → buffer_of g.buffer ≡ None → is_none g.buffer ≡ false → named_task g word ≡ None
buffer_bad g word e n = named_none g word
    (no_cond _ _ (nothing_then _ (emit_of Image g.emit) (λ emit. no_map _ _ e)))
    (cond_no _ _ (and_right (is_none g.emit) _ (and_right (is_none g.capture) _ (and_left _ _ n))))
    (no_cond _ _ (nothing_then _ (emit_of Report g.emit) (λ emit. no_then _ _ e)))
    (λ d. cond_no _ _ (and_left _ _ n))
    (cond_no _ _ (and_left _ _ n))

seed_bad : (g : Given) (word : Text) → seed_of g.seed ≡ None → option_and_then seed_word g.seed ≡ None → is_none g.seed ≡ false → named_task g word ≡ None
seed_bad g word e w n = named_none g word
    (cond_no _ _ (and_right (is_none g.capture) _ (and_left _ _ n)))
    (cond_no _ _ (and_right (is_none g.emit) _ (and_right (is_none g.capture) _ (and_right (is_none g.buffer) _ (and_left _ _ n)))))
    (no_cond _ _ (nothing_then _ (emit_of Report g.emit) (λ emit. nothing_then _ (buffer_of g.buffer) (λ buffer. no_then _ _ e))))
    (λ d. cond_no _ _ (and_right (is_none g.buffer) _ (and_left _ _ n)))
    (no_cond _ _ (nothing_then _ (emit_of Report g.emit) (λ emit. no_map _ _ w)))

mac_bad : (g : Given) (word : Text) → mac_value g.mac ≡ None → is_none g.mac ≡ false → named_task g word ≡ None
mac_bad g word e n = named_none g word
    (cond_no _ _ (and_right (is_none g.capture) _ (and_right (is_none g.seed) _ n)))
    (cond_no _ _ (and_right (is_none g.emit) _ (and_right (is_none g.capture) _ (and_right (is_none g.buffer) _ (and_right (is_none g.seed) _ n)))))
    (no_cond _ _ (nothing_then _ (emit_of Report g.emit) (λ emit. nothing_then _ (buffer_of g.buffer) (λ buffer. nothing_then _ (seed_of g.seed) (λ seed. no_map _ _ e)))))
    (λ d. cond_no _ _ (and_right (is_none g.buffer) _ (and_right (is_none g.seed) _ (and_left _ _ n))))
    (cond_no _ _ (and_right (is_none g.buffer) _ (and_left _ _ n)))

-- a value that is none, and what is read of it
bad_value : (P : Option Text → Type 0) → ((v : Text) → is_value v ≡ false → P (Some v)) → (o : Option Text) → is_value_if_given o ≡ false → P o
bad_value P f None h = absurd (true≢false h)
bad_value P f (Some v) h = f v h

given_bad : (g : Given) (word : Text) → (a b c d e : Bool) → is_value_if_given g.emit ≡ a → is_value_if_given g.capture ≡ b → is_value_if_given g.buffer ≡ c
    → is_value_if_given g.seed ≡ d → is_value_if_given g.mac ≡ e → (a && (b && (c && (d && e)))) ≡ false → named_task g word ≡ None
given_bad g word false b c d e p q r s t h =
    let x = bad_value (λ o. ((d : Emit) → emit_of d o ≡ None) × (is_none o ≡ false)) (λ v n. ((λ d. emit_none v n), refl)) g.emit p in
    emit_bad g word x.0 x.1
given_bad g word true false c d e p q r s t h =
    let x = bad_value (λ o. (capture_passes o ≡ false) × (is_none o ≡ false)) (λ v n. (sym (value_is v) ∙ n, refl)) g.capture q in
    capture_bad g word x.0 x.1
given_bad g word true true false d e p q r s t h =
    let x = bad_value (λ o. (buffer_of o ≡ None) × (is_none o ≡ false)) (λ v n. (number_none _ v n, refl)) g.buffer r in
    buffer_bad g word x.0 x.1
given_bad g word true true true false e p q r s t h =
    let x = bad_value (λ o. (seed_of o ≡ None) × (option_and_then seed_word o ≡ None) × (is_none o ≡ false)) (λ v n. (number_none _ v n, number_none _ v n, refl)) g.seed s in
    seed_bad g word x.0 x.1 x.2
given_bad g word true true true true false p q r s t h =
    let x = bad_value (λ o. (mac_value o ≡ None) × (is_none o ≡ false)) (λ v n. (mac_none v n, refl)) g.mac t in
    mac_bad g word x.0 x.1
given_bad g word true true true true true p q r s t h = absurd (true≢false h)

-- what isn't a value asks for nothing
pub values_told : (g : Given) → have_values g ≡ false → task_of g ≡ None
values_told g h = go g.command (is_value_if_given g.command) refl h
  where
    go : (o : Option Text) (t : Bool) → is_value_if_given o ≡ t
        → (t && (is_value_if_given g.emit && (is_value_if_given g.capture && (is_value_if_given g.buffer && (is_value_if_given g.seed && is_value_if_given g.mac))))) ≡ false
        → option_and_then (named_task g) o ≡ None
    go o false e all = bad_value (λ x. option_and_then (named_task g) x ≡ None) (command_none g) o e
    go o true e all = nothing_then (named_task g) o (λ word. given_bad g word _ _ _ _ _ refl refl refl refl refl all)

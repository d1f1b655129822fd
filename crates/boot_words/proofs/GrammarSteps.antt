-- The walk over the words, one word at a time.
use Rattle.std.proofs.Common.{◌≡◌, ◌∙◌, ◌⊎◌, inl, inr, ℕ, Bool, true, false, not, ◌&&◌, ◌||◌, cond, List, [], ◌∷◌, ◌++◌, map, length, drop, Option, Some, None, refl, sym, ap, ap₂, append_assoc}
use Rattle.std.specs.Prelude.{⊤, encode_utf8, slice_get, option_map, option_and_then}
use Rattle.std.specs.Option.{option_map_or}
use Rattle.std.specs.Str.{bytes_eq, chars}
use Rattle.clap.specs.Lexer.{long_of, short_of}
use Rattle.clap.specs.Walk.{Held, Row, Rule, Text, Waiting, idle, option, Walk, after_flag, after_step, arg_by_long, long_met, long_or_other, settled, trailing, used_by_id, walked, Step, plain_word, short_or_plain}
use Rattle.clap.specs.Kinds.{Kinds, or_else}
use Rattle.clap.specs.Faults.{bundle_fault, bundle_step_fault, flag_word_fault, flags_fault, long_fault, settle_fault, short_fault, step_fault, turn_fault, use_fault}
use Rattle.clap.specs.declared.error.kind.ErrorKind.{ErrorKind}
use Rattle.clap.specs.declared.error.kind.ErrorKind.TheVariants as kind
use Rattle.boot_words.specs.Grammar.{Setting, is_option, is_set, are_set_once, settings_of}
use Rattle.boot_words.proofs.GrammarRules.{opt, rules_for, shape_for, rows_for, twice, IsKnown, text_itself, no_short}

-- nothing waits, where the last setting may not be among the rows yet; or an option waits for its value
pub data Sit : Type 0 where
  open_at : Option Setting → Sit
  waits_at : Text → Sit

abbrev pub only_rows : Option (Text × List Text) → List Row → Held
only_rows pending rows = record { rows = rows; pending = pending; skip = 0 }

abbrev pub pending_at : Sit → Option (Text × List Text)
pending_at (open_at None) = None
pending_at (open_at (Some s)) = Some (s.0, s.1 ∷ [])
pending_at (waits_at name) = Some (name, [])

abbrev pub held_at : List Setting → Sit → Held
held_at es sit = only_rows (pending_at sit) (rows_for es)

abbrev pub waiting_at : Sit → Waiting
waiting_at (open_at p) = idle
waiting_at (waits_at name) = option name

abbrev pub walk_with : Held → Waiting → ℕ → Walk
walk_with h waiting pos = record { held = h; waiting = waiting; position = pos; is_trailing = false; stopped = None }

abbrev pub walk_at : List Setting → Sit → ℕ → Walk
walk_at es sit pos = walk_with (held_at es sit) (waiting_at sit) pos

abbrev pub after : List Setting → Option Setting → List Setting
after es None = es
after es (Some s) = es ++ s ∷ []

abbrev pub with_first : Option Setting → List Setting → List Setting
with_first None ps = ps
with_first (Some s) ps = s ∷ ps

abbrev pub checked : List Setting → List Setting → Option (List Setting)
checked es ps = cond (are_set_once es ps) (Some (es ++ ps)) None

abbrev pub answer : List Text → List Setting → Sit → List Text → Option (List Setting)
answer names es (open_at p) words = option_and_then (λ ps. checked es (with_first p ps)) (settings_of names words None)
answer names es (waits_at name) words = option_and_then (checked es) (settings_of names words (Some name))

abbrev pub finish : {T : Type 0} → Kinds → Option T → Option T
finish [] r = r
finish (k ∷ ks) r = None

abbrev pub run : List Text → Walk → List Text → Option (List Row)
run names w [] = finish (settle_fault (rules_for names) false w.held) (Some (settled (rules_for names) w.held).rows)
run names w (word ∷ rest) = finish (turn_fault (shape_for names) [] w word) (run names (walked (rules_for names) [] w word) rest)

pub fault_first : {T : Type 0} (k : ErrorKind) (first then : Kinds) (r : Option T) → first ≡ k ∷ [] → finish (or_else first then) r ≡ None
fault_first k first then r e = ap (λ (f : Kinds). finish (or_else f then) r) e

pub fault_inner : {T : Type 0} (k : ErrorKind) (first then more : Kinds) (r : Option T) → first ≡ k ∷ [] → finish (or_else (or_else first then) more) r ≡ None
fault_inner k first then more r e = ap (λ (f : Kinds). finish (or_else (or_else f then) more) r) e

pub fault_only : {T : Type 0} (k : ErrorKind) (first : Kinds) (r : Option T) → first ≡ k ∷ [] → finish first r ≡ None
fault_only k first r e = ap (λ (f : Kinds). finish f r) e

-- ---- settings in turn

pub nothing_then : {S T : Type 0} (f : S → Option T) (o : Option S) → ((x : S) → f x ≡ None) → option_and_then f o ≡ None
nothing_then f None h = refl
nothing_then f (Some x) h = h x

pub same_then : {S T : Type 0} (f g : S → Option T) (o : Option S) → ((x : S) → f x ≡ g x) → option_and_then f o ≡ option_and_then g o
same_then f g None h = refl
same_then f g (Some x) h = h x

pub mapped_then : {R S T : Type 0} (f : S → Option T) (m : R → S) (o : Option R) → option_and_then f (option_map m o) ≡ option_and_then (λ x. f (m x)) o
mapped_then f m None = refl
mapped_then f m (Some x) = refl

pub set_again : (s : Setting) (es ps : List Setting) → is_set s.0 es ≡ true → checked es (s ∷ ps) ≡ None
set_again s es ps e = ap (λ (b : Bool). cond (not b && are_set_once (es ++ s ∷ []) ps) (Some (es ++ s ∷ ps)) None) e

pub set_first : (s : Setting) (es ps : List Setting) → is_set s.0 es ≡ false → checked es (s ∷ ps) ≡ checked (es ++ s ∷ []) ps
set_first s es ps e =
    ap (λ (b : Bool). cond (not b && are_set_once (es ++ s ∷ []) ps) (Some (es ++ s ∷ ps)) None) e
    ∙ ap (λ (xs : List Setting). cond (are_set_once (es ++ s ∷ []) ps) (Some xs) None) (sym (append_assoc es (s ∷ []) ps))

pub set_here : (id v : Text) (es : List Setting) → is_set id (es ++ (id, v) ∷ []) ≡ true
set_here id v [] = ap (λ (b : Bool). b || false) (text_itself id)
set_here id v (e ∷ es) = ap (λ (b : Bool). bytes_eq e.0 id || b) (set_here id v es) ∙ or_true (bytes_eq e.0 id)
  where
    or_true : (b : Bool) → (b || true) ≡ true
    or_true true = refl
    or_true false = refl

pub set_beside : (id : Text) (s : Setting) (es : List Setting) → bytes_eq s.0 id ≡ false → is_set id (es ++ s ∷ []) ≡ is_set id es
set_beside id s [] h = ap (λ (b : Bool). b || false) h
set_beside id s (e ∷ es) h = ap (λ (b : Bool). bytes_eq e.0 id || b) (set_beside id s es h)

-- ---- what is pending is used

abbrev pub Settles : List Text → List Setting → Option Setting → Type 0
Settles names es p =
    ((settle_fault (rules_for names) false (held_at es (open_at p)) ≡ kind.ArgumentConflict ∷ [])
    × ((ps : List Setting) → checked es (with_first p ps) ≡ None))
    ⊎ ((settle_fault (rules_for names) false (held_at es (open_at p)) ≡ [])
    × (settled (rules_for names) (held_at es (open_at p)) ≡ held_at (after es p) (open_at None))
    × ((ps : List Setting) → checked es (with_first p ps) ≡ checked (after es p) ps))

abbrev pub IsKnownAt : List Text → Sit → Type 0
IsKnownAt names (open_at None) = ⊤
IsKnownAt names (open_at (Some s)) = IsKnown names s.0
IsKnownAt names (waits_at name) = is_option names name ≡ true

pub settles : (names : List Text) (es : List Setting) (p : Option Setting) → IsKnownAt names (open_at p) → Settles names es p
settles names es None known = inr (refl, refl, λ ps. refl)
settles names es (Some s) known = go (is_set s.0 es) refl
  where
    fault : settle_fault (rules_for names) false (held_at es (open_at (Some s))) ≡ twice (is_set s.0 es)
    fault = ap (λ (o : Option Rule). option_map_or (λ a. use_fault false a (s.1 ∷ []) (rows_for es)) o []) known.1 ∙ known.2.0 s.1 es

    go : (b : Bool) → is_set s.0 es ≡ b → Settles names es (Some s)
    go true e = inl (fault ∙ ap twice e, λ ps. set_again s es ps e)
    go false e = inr (
      fault ∙ ap twice e,
      ap (only_rows None) (ap (λ (o : Option Rule). used_by_id o (s.1 ∷ []) (rows_for es)) known.1 ∙ known.2.1 s.1 es e),
      λ ps. set_first s es ps e,
    )

-- ---- a word

abbrev pub met : List Text → Sit → Text → Option (Text × Option Text) → Held → Held × Step
met names sit word o h = long_or_other (rules_for names) (waiting_at sit) word o h

abbrev pub met_with : Bool → List Text → Sit → ℕ → Text → Option (Text × Option Text) → Held → Held × Step
met_with b names sit pos word o h = cond b (h, trailing pos) (met names sit word o h)

abbrev pub stepped : Bool → List Text → List Setting → Sit → ℕ → Text → List Text → Option (Text × Option Text) → Option (List Row)
stepped b names es sit pos word rest o =
    let m = met_with b names sit pos word o (held_at es sit) in
    finish (or_else (cond b [] (flag_word_fault (rules_for names) false o word (held_at es sit))) (step_fault (shape_for names) pos m.0 m.1))
    (run names (after_step (rules_for names) word (walk_at es sit pos) m.0 m.1) rest)

pub step_run : (names : List Text) (es : List Setting) (sit : Sit) (pos : ℕ) (word : Text) (rest : List Text) (o : Option (Text × Option Text))
    → bytes_eq word (45 ∷ 45 ∷ []) ≡ false → long_of word ≡ o
    → run names (walk_at es sit pos) (word ∷ rest) ≡ stepped false names es sit pos word rest o
unfolding walked
step_run names es (open_at p) pos word rest o dashes long =
    ap₂ (λ (b : Bool) (x : Option (Text × Option Text)). stepped b names es (open_at p) pos word rest x) dashes long
step_run names es (waits_at name) pos word rest o dashes long =
    ap₂ (λ (b : Bool) (x : Option (Text × Option Text)). stepped b names es (waits_at name) pos word rest x) dashes long

-- by what the option's name finds
abbrev pub long_step : List Text → List Setting → Sit → ℕ → Text → List Text → Option Text → Option Rule → Option (List Row)
long_step names es sit pos word rest v found =
    let h = held_at es sit in
    let m = after_flag (rules_for names) (waiting_at sit) word (long_met (rules_for names) found v h).0 (long_met (rules_for names) found v h).1 in
    finish (or_else (long_fault (rules_for names) false found v h) (step_fault (shape_for names) pos m.0 m.1))
    (run names (after_step (rules_for names) word (walk_at es sit pos) m.0 m.1) rest)

pub long_run : (names : List Text) (es : List Setting) (sit : Sit) (pos : ℕ) (word : Text) (rest : List Text) (name : Text) (v : Option Text) (found : Option Rule)
    → bytes_eq word (45 ∷ 45 ∷ []) ≡ false → long_of word ≡ Some (name, v) → arg_by_long (map opt names) name ≡ found
    → run names (walk_at es sit pos) (word ∷ rest) ≡ long_step names es sit pos word rest v found
long_run names es sit pos word rest name v found dashes long at =
    step_run names es sit pos word rest (Some (name, v)) dashes long ∙ ap (long_step names es sit pos word rest v) at

-- a word of short flags
short_bad : (names : List Text) (es : List Setting) (sit : Sit) (word : Text) (f : ℕ) (fs : Text) (x : ℕ) → short_of word ≡ Some (f ∷ fs) → slice_get (chars (f ∷ fs)) 0 ≡ Some x
    → flag_word_fault (rules_for names) false None word (held_at es sit) ≡ kind.UnknownArgument ∷ []
unfolding flags_fault
short_bad names es sit word f fs x short first =
    let c = rules_for names in
    let h = held_at es sit in
    ap (λ (o : Option Text). option_map_or (λ flags. bundle_fault c false flags h) o []) short
    ∙ ap (λ (o : Option ℕ). bundle_step_fault c false o (f ∷ fs) 0 h (flags_fault c false (length fs))) first
    ∙ ap (λ (o : Option Rule). short_fault c false o (drop (length (encode_utf8 x)) (f ∷ fs)) h (flags_fault c false (length fs) (drop (length (encode_utf8 x)) (f ∷ fs)) 0)) (no_short names x)

pub short_run : (names : List Text) (es : List Setting) (sit : Sit) (pos : ℕ) (word : Text) (rest : List Text) (f : ℕ) (fs : Text) (x : ℕ)
    → bytes_eq word (45 ∷ 45 ∷ []) ≡ false → long_of word ≡ None → short_of word ≡ Some (f ∷ fs) → slice_get (chars (f ∷ fs)) 0 ≡ Some x
    → run names (walk_at es sit pos) (word ∷ rest) ≡ None
short_run names es sit pos word rest f fs x dashes long short first =
    step_run names es sit pos word rest None dashes long ∙ fault_first _ _ _ _ (short_bad names es sit word f fs x short first)

-- a word without a hyphen in front
abbrev pub plain_step : List Text → List Setting → Sit → ℕ → Text → List Text → Option (List Row)
plain_step names es sit pos word rest =
    let m = plain_word (rules_for names) (waiting_at sit) word (held_at es sit) in
    finish (step_fault (shape_for names) pos m.0 m.1) (run names (after_step (rules_for names) word (walk_at es sit pos) m.0 m.1) rest)

pub plain_run : (names : List Text) (es : List Setting) (sit : Sit) (pos : ℕ) (word : Text) (rest : List Text)
    → bytes_eq word (45 ∷ 45 ∷ []) ≡ false → long_of word ≡ None → short_of word ≡ None
    → run names (walk_at es sit pos) (word ∷ rest) ≡ plain_step names es sit pos word rest
plain_run names es sit pos word rest dashes long short =
    let c = rules_for names in
    let h = held_at es sit in
    step_run names es sit pos word rest None dashes long
    ∙ ap (λ (o : Option Text). finish (or_else (option_map_or (λ flags. bundle_fault c false flags h) o [])
    (step_fault (shape_for names) pos (short_or_plain c (waiting_at sit) word o h).0 (short_or_plain c (waiting_at sit) word o h).1))
    (run names (after_step c word (walk_at es sit pos) (short_or_plain c (waiting_at sit) word o h).0 (short_or_plain c (waiting_at sit) word o h).1) rest)) short

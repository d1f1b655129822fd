-- What each word does to the settings, and then all the words.
use Rattle.std.proofs.Common.{◌≡◌, ◌∙◌, inl, inr, ℕ, Bool, true, false, ◌&&◌, cond, List, [], ◌∷◌, ◌++◌, Option, Some, None, refl, sym, ap, true≢false, append-nil}
use Rattle.std.specs.Prelude.{nat_lt, option_map, option_and_then}
use Rattle.std.specs.List.{list_all, AllByRecursion}
use Rattle.std.specs.Option.{option_map_or}
use Rattle.std.specs.Str.{bytes_eq, IsUtf8}
use Rattle.std.proofs.lemmas.Bool.{and_parts}
use Rattle.clap.specs.Lexer.{long_of}
use Rattle.clap.specs.Walk.{Held, Row, Rule, Text, idle, option, is_pending, option_word, settled, pushed, used}
use Rattle.clap.specs.Kinds.{Kinds, or_else}
use Rattle.clap.specs.Faults.{positional_fault, settle_fault, stray_fault, use_fault}
use Rattle.clap.specs.declared.error.kind.ErrorKind.TheVariants as kind
use Rattle.boot_words.specs.Lines.{is_word}
use Rattle.boot_words.specs.Grammar.{Setting, and_more, begins_with_hyphen, command_name, is_option, is_set, are_set_once, settings_of, word_settings}
use Rattle.boot_words.specs.Grammar as grammar
use Rattle.boot_words.proofs.GrammarRules.{cmd, opt, rules_for, shape_for, rows_for, twice, same_text, text_itself, long_known, long_unknown, no_second, use_opt, id_is, known_opt, known_cmd}
use Rattle.boot_words.proofs.GrammarSteps.{Sit, open_at, waits_at, IsKnownAt, Settles, after, answer, checked, fault_first, fault_inner, fault_only, finish, held_at, long_run, long_step, mapped_then, nothing_then, only_rows, pending_at, plain_run, plain_step, run, same_then, set_again, set_beside, set_first, set_here, settles, short_run, walk_at, walk_with, with_first}
use Rattle.boot_words.proofs.GrammarWords.{Looks, IsLong, IsShort, IsPlain, looks, no_dashes}

abbrev pub base : List Setting → Sit → List Setting
base es (open_at p) = after es p
base es (waits_at name) = es

-- where the next positional goes
abbrev pub place : List Setting → ℕ
place es = cond (is_set command_name es) 2 1

-- the rows of the settings
abbrev pub as_rows : Option (List Setting) → Option (List Row)
as_rows o = option_map rows_for o

abbrev pub Agrees : List Text → List Setting → Sit → ℕ → List Text → Type 0
Agrees names es sit pos words = run names (walk_at es sit pos) words ≡ as_rows (answer names es sit words)

abbrev pub Later : List Text → List Text → Type 0
Later names rest = (es : List Setting) (sit : Sit) (pos : ℕ) → IsKnownAt names sit → pos ≡ place (base es sit) → Agrees names es sit pos rest

both_none : {R S : Type 0} (f : S → R) (r : Option R) (o : Option S) → r ≡ None → o ≡ None → r ≡ option_map f o
both_none f r o e h = e ∙ sym (ap (option_map f) h)

-- the answer where a setting comes next
next_answer : (es : List Setting) (p : Option Setting) (s : Setting) (o : Option (List Setting))
    → option_and_then (λ ps. checked es (with_first p ps)) (and_more s o) ≡ option_and_then (λ ps. checked es (with_first p (s ∷ ps))) o
next_answer es p s o = mapped_then (λ ps. checked es (with_first p ps)) (λ rest. s ∷ rest) o

no_value : (names : List Text) (apart : is_option names command_name ≡ false) (es : List Setting) (name : Text) → is_option names name ≡ true
    → settle_fault (rules_for names) false (held_at es (waits_at name)) ≡ kind.InvalidValue ∷ []
no_value names apart es name known = ap (λ (o : Option Rule). option_map_or (λ a. use_fault false a [] (rows_for es)) o []) (id_is names apart name known)

module _ (names : List Text) (apart : is_option names command_name ≡ false) (word : Text) (rest : List Text) (later : Later names rest)
    (dashes : bytes_eq word (45 ∷ 45 ∷ []) ≡ false) where
  beside : (name : Text) → is_option names name ≡ true → bytes_eq name command_name ≡ false
  beside name known = go (bytes_eq name command_name) refl
    where
      go : (b : Bool) → bytes_eq name command_name ≡ b → b ≡ false
      go true e = absurd (true≢false (sym known ∙ ap (is_option names) (same_text name command_name e) ∙ apart))
      go false e = refl

  -- `--name` that is no option
  unknown_long : (es : List Setting) (p : Option Setting) (pos : ℕ) (q : Text × Option Text) → long_of word ≡ Some q → is_option names q.0 ≡ false
      → Agrees names es (open_at p) pos (word ∷ rest)
  unknown_long es p pos q long unknown =
      both_none rows_for _ _
      (long_run names es (open_at p) pos word rest q.0 q.1 None dashes long (long_unknown names q.0 unknown))
      (ap (λ (o : Option (Text × Option Text)). option_and_then (λ ps. checked es (with_first p ps)) (word_settings names o word (settings_of names rest))) long
      ∙ ap (λ (b : Bool). option_and_then (λ ps. checked es (with_first p ps)) (cond b (grammar.option_word q.0 q.1 (settings_of names rest)) None)) unknown)

  -- the answer at `--name..`
  long_answer : (es : List Setting) (p : Option Setting) (q : Text × Option Text) → long_of word ≡ Some q → is_option names q.0 ≡ true
      → answer names es (open_at p) (word ∷ rest) ≡ option_and_then (λ ps. checked es (with_first p ps)) (grammar.option_word q.0 q.1 (settings_of names rest))
  long_answer es p q long known =
      ap (λ (o : Option (Text × Option Text)). option_and_then (λ ps. checked es (with_first p ps)) (word_settings names o word (settings_of names rest))) long
      ∙ ap (λ (b : Bool). option_and_then (λ ps. checked es (with_first p ps)) (cond b (grammar.option_word q.0 q.1 (settings_of names rest)) None)) known

  -- `--name`
  bare_long : (es : List Setting) (p : Option Setting) (pos : ℕ) (name : Text) → IsKnownAt names (open_at p) → pos ≡ place (after es p) → long_of word ≡ Some (name, None)
      → is_option names name ≡ true → Agrees names es (open_at p) pos (word ∷ rest)
  bare_long es p pos name known placed long is =
      start ∙ go (settles names es p known) ∙ ap as_rows (sym (long_answer es p (name, None) long is))
    where
      start : run names (walk_at es (open_at p) pos) (word ∷ rest) ≡ long_step names es (open_at p) pos word rest None (Some (opt name))
      start = long_run names es (open_at p) pos word rest name None (Some (opt name)) dashes long (long_known names name is)

      go : Settles names es p → long_step names es (open_at p) pos word rest None (Some (opt name))
          ≡ as_rows (option_and_then (λ ps. checked es (with_first p ps)) (settings_of names rest (Some name)))
      go (inl bad) = both_none rows_for _ _ (fault_first _ _ _ _ bad.0) (nothing_then _ (settings_of names rest (Some name)) bad.1)
      go (inr ok) =
          ap (λ (k : Kinds). finish (or_else k []) (run names (walk_with (record (settled (rules_for names) (held_at es (open_at p))) { pending = Some (name, []) }) (option name) pos) rest)) ok.0
          ∙ ap (λ (h : Held). run names (walk_with (record h { pending = Some (name, []) }) (option name) pos) rest) ok.1
          ∙ later (after es p) (waits_at name) pos is placed
          ∙ ap as_rows (sym (same_then _ (checked (after es p)) (settings_of names rest (Some name)) ok.2))

  -- `--name=value`
  value_long : (es : List Setting) (p : Option Setting) (pos : ℕ) (name v : Text) → IsKnownAt names (open_at p) → pos ≡ place (after es p) → long_of word ≡ Some (name, Some v)
      → is_option names name ≡ true → Agrees names es (open_at p) pos (word ∷ rest)
  value_long es p pos name v known placed long is =
      start ∙ go (settles names es p known) ∙ ap as_rows (sym (long_answer es p (name, Some v) long is ∙ next_answer es p (name, v) (settings_of names rest None)))
    where
      start : run names (walk_at es (open_at p) pos) (word ∷ rest) ≡ long_step names es (open_at p) pos word rest (Some v) (Some (opt name))
      start = long_run names es (open_at p) pos word rest name (Some v) (Some (opt name)) dashes long (long_known names name is)

      uses : (b : Bool) → is_set name (after es p) ≡ b
          → finish (or_else (twice b) []) (run names (walk_with (only_rows None (used (opt name) (v ∷ []) (rows_for (after es p)))) idle pos) rest)
          ≡ as_rows (option_and_then (λ ps. checked (after es p) ((name, v) ∷ ps)) (settings_of names rest None))
      uses true e = both_none rows_for _ _ refl (nothing_then _ (settings_of names rest None) (λ ps. set_again (name, v) (after es p) ps e))
      uses false e =
          ap (λ (rows : List Row). run names (walk_with (only_rows None rows) idle pos) rest) ((use_opt name).1 v (after es p) e)
          ∙ later (after es p ++ (name, v) ∷ []) (open_at None) pos tt (placed ∙ ap (λ (b : Bool). cond b 2 1) (sym (set_beside command_name (name, v) (after es p) (beside name is))))
          ∙ ap as_rows (sym (same_then _ (checked (after es p ++ (name, v) ∷ [])) (settings_of names rest None) (λ ps. set_first (name, v) (after es p) ps e)))

      go : Settles names es p → long_step names es (open_at p) pos word rest (Some v) (Some (opt name))
          ≡ as_rows (option_and_then (λ ps. checked es (with_first p ((name, v) ∷ ps))) (settings_of names rest None))
      go (inl bad) = both_none rows_for _ _ (fault_inner _ _ _ _ _ bad.0) (nothing_then _ (settings_of names rest None) (λ ps. bad.1 ((name, v) ∷ ps)))
      go (inr ok) =
          ap (λ (k : Kinds). finish (or_else (or_else k (use_fault false (opt name) (v ∷ []) (settled (rules_for names) (held_at es (open_at p))).rows)) [])
          (run names (walk_with (record (held_at es (open_at p)) { rows = used (opt name) (v ∷ []) (settled (rules_for names) (held_at es (open_at p))).rows; pending = None }) idle pos) rest)) ok.0
          ∙ ap (λ (h : Held). finish (or_else (use_fault false (opt name) (v ∷ []) h.rows) []) (run names (walk_with (only_rows None (used (opt name) (v ∷ []) h.rows)) idle pos) rest)) ok.1
          ∙ ap (λ (k : Kinds). finish (or_else k []) (run names (walk_with (only_rows None (used (opt name) (v ∷ []) (rows_for (after es p)))) idle pos) rest)) ((use_opt name).0 v (after es p))
          ∙ uses (is_set name (after es p)) refl
          ∙ ap as_rows (sym (same_then _ _ (settings_of names rest None) (λ ps. ok.2 ((name, v) ∷ ps))))

  -- a word of its own
  plain_answer : (es : List Setting) (p : Option Setting) → long_of word ≡ None → begins_with_hyphen word ≡ false
      → answer names es (open_at p) (word ∷ rest) ≡ option_and_then (λ ps. checked es (with_first p ((command_name, word) ∷ ps))) (settings_of names rest None)
  plain_answer es p long hyphen =
      ap (λ (o : Option (Text × Option Text)). option_and_then (λ ps. checked es (with_first p ps)) (word_settings names o word (settings_of names rest))) long
      ∙ ap (λ (b : Bool). option_and_then (λ ps. checked es (with_first p ps)) (cond b None (and_more (command_name, word) (settings_of names rest None)))) hyphen
      ∙ next_answer es p (command_name, word) (settings_of names rest None)

  second : (es : List Setting) (p : Option Setting) → Settles names es p → is_set command_name (after es p) ≡ true → (ps : List Setting)
      → checked es (with_first p ((command_name, word) ∷ ps)) ≡ None
  second es p (inl bad) e ps = bad.1 ((command_name, word) ∷ ps)
  second es p (inr ok) e ps = ok.2 ((command_name, word) ∷ ps) ∙ set_again (command_name, word) (after es p) ps e

  and_none : (b : Bool) → (b && false) ≡ false
  and_none true = refl
  and_none false = refl

  plain_open : (es : List Setting) (p : Option Setting) (pos : ℕ) → IsKnownAt names (open_at p) → pos ≡ place (after es p) → IsPlain word → Agrees names es (open_at p) pos (word ∷ rest)
  plain_open es p pos known placed is =
      plain_run names es (open_at p) pos word rest dashes is.0 is.1
      ∙ by (is_set command_name (after es p)) refl
      ∙ ap as_rows (sym (plain_answer es p is.0 is.2))
    where
      later_on : Settles names es p → is_set command_name (after es p) ≡ false
          → finish (settle_fault (rules_for names) false (held_at es (open_at p))) (run names (walk_with (pushed command_name word (settled (rules_for names) (held_at es (open_at p)))) idle 2) rest)
          ≡ as_rows (option_and_then (λ ps. checked es (with_first p ((command_name, word) ∷ ps))) (settings_of names rest None))
      later_on (inl bad) e = both_none rows_for _ _ (fault_only _ _ _ bad.0) (nothing_then _ (settings_of names rest None) (λ ps. bad.1 ((command_name, word) ∷ ps)))
      later_on (inr ok) e =
          ap (λ (k : Kinds). finish k (run names (walk_with (pushed command_name word (settled (rules_for names) (held_at es (open_at p)))) idle 2) rest)) ok.0
          ∙ ap (λ (h : Held). run names (walk_with (pushed command_name word h) idle 2) rest) ok.1
          ∙ later (after es p) (open_at (Some (command_name, word))) 2 (known_cmd names) (ap (λ (b : Bool). cond b 2 1) (sym (set_here command_name word (after es p))))
          ∙ ap as_rows (sym (same_then _ _ (settings_of names rest None) (λ ps. ok.2 ((command_name, word) ∷ ps))))

      by : (b : Bool) → is_set command_name (after es p) ≡ b
          → plain_step names es (open_at p) pos word rest ≡ as_rows (option_and_then (λ ps. checked es (with_first p ((command_name, word) ∷ ps))) (settings_of names rest None))
      by true e = both_none rows_for _ _
          (ap (λ (n : ℕ). plain_step names es (open_at p) n word rest) (placed ∙ ap (λ (b : Bool). cond b 2 1) e)
          ∙ fault_only kind.UnknownArgument _ _ (ap (λ (o : Option Rule). option_map_or (λ a. positional_fault (rules_for names) false a (held_at es (open_at p))) o (stray_fault (shape_for names))) (no_second names)))
          (nothing_then _ (settings_of names rest None) (second es p (settles names es p known) e))
      by false e =
          ap (λ (n : ℕ). plain_step names es (open_at p) n word rest) (placed ∙ ap (λ (b : Bool). cond b 2 1) e)
          ∙ ap (λ (b : Bool). finish (cond b [] (settle_fault (rules_for names) false (held_at es (open_at p))))
          (run names (walk_with (pushed command_name word (cond b (held_at es (open_at p)) (settled (rules_for names) (held_at es (open_at p))))) idle 2) rest))
          (and_none (is_pending cmd (pending_at (open_at p))))
          ∙ later_on (settles names es p known) e

  -- `-..`
  short_open : (es : List Setting) (p : Option Setting) (pos : ℕ) → IsShort word → Agrees names es (open_at p) pos (word ∷ rest)
  short_open es p pos is = both_none rows_for _ _
      (short_run names es (open_at p) pos word rest is.0 is.1 is.2 dashes is.3.0 is.3.1 is.3.2)
      (ap (λ (o : Option (Text × Option Text)). option_and_then (λ ps. checked es (with_first p ps)) (word_settings names o word (settings_of names rest))) is.3.0
      ∙ ap (λ (b : Bool). option_and_then (λ ps. checked es (with_first p ps)) (cond b None (and_more (command_name, word) (settings_of names rest None)))) is.3.3)

  -- ---- an option waits

  waits_none : (es : List Setting) (name : Text) → begins_with_hyphen word ≡ true → answer names es (waits_at name) (word ∷ rest) ≡ None
  waits_none es name hyphen = ap (λ (b : Bool). option_and_then (checked es) (cond b None (and_more (name, word) (settings_of names rest None)))) hyphen

  waits_long : (es : List Setting) (name : Text) (pos : ℕ) → is_option names name ≡ true → IsLong word → Agrees names es (waits_at name) pos (word ∷ rest)
  waits_long es name pos known is = both_none rows_for _ _ (by (is_option names is.0.0) refl) (waits_none es name is.1.1)
    where
      with_value : (v : Option Text) → long_step names es (waits_at name) pos word rest v (Some (opt is.0.0)) ≡ None
      with_value None = fault_first _ _ _ _ (no_value names apart es name known)
      with_value (Some v) = fault_inner _ _ _ _ _ (no_value names apart es name known)

      by : (b : Bool) → is_option names is.0.0 ≡ b → run names (walk_at es (waits_at name) pos) (word ∷ rest) ≡ None
      by true e = long_run names es (waits_at name) pos word rest is.0.0 is.0.1 (Some (opt is.0.0)) dashes is.1.0 (long_known names is.0.0 e) ∙ with_value is.0.1
      by false e = long_run names es (waits_at name) pos word rest is.0.0 is.0.1 None dashes is.1.0 (long_unknown names is.0.0 e)

  waits_short : (es : List Setting) (name : Text) (pos : ℕ) → IsShort word → Agrees names es (waits_at name) pos (word ∷ rest)
  waits_short es name pos is = both_none rows_for _ _
      (short_run names es (waits_at name) pos word rest is.0 is.1 is.2 dashes is.3.0 is.3.1 is.3.2) (waits_none es name is.3.3)

  waits_plain : (es : List Setting) (name : Text) (pos : ℕ) → is_option names name ≡ true → pos ≡ place es → IsPlain word → Agrees names es (waits_at name) pos (word ∷ rest)
  waits_plain es name pos known placed is =
      plain_run names es (waits_at name) pos word rest dashes is.0 is.1
      ∙ ap (λ (o : Option Rule). run names (walk_with (option_word o name word (held_at es (waits_at name))).0 (option_word o name word (held_at es (waits_at name))).1 pos) rest) (id_is names apart name known)
      ∙ ap (λ (b : Bool). run names (walk_with (pushed name word (held_at es (waits_at name))) (cond (nat_lt (cond b 1 0) 1) (option name) idle) pos) rest) (text_itself name)
      ∙ later es (open_at (Some (name, word))) pos (known_opt names apart name known) (placed ∙ ap (λ (b : Bool). cond b 2 1) (sym (set_beside command_name (name, word) es (beside name known))))
      ∙ ap as_rows (sym (ap (λ (b : Bool). option_and_then (checked es) (cond b None (and_more (name, word) (settings_of names rest None)))) is.2
      ∙ mapped_then (checked es) (λ ps. (name, word) ∷ ps) (settings_of names rest None)))

  long_open : (es : List Setting) (p : Option Setting) (pos : ℕ) (q : Text × Option Text) → IsKnownAt names (open_at p) → pos ≡ place (after es p) → long_of word ≡ Some q
      → (b : Bool) → is_option names q.0 ≡ b → Agrees names es (open_at p) pos (word ∷ rest)
  long_open es p pos q known placed long false e = unknown_long es p pos q long e
  long_open es p pos (name, None) known placed long true e = bare_long es p pos name known placed long e
  long_open es p pos (name, Some v) known placed long true e = value_long es p pos name v known placed long e

  pub turn : (es : List Setting) (sit : Sit) (pos : ℕ) → IsKnownAt names sit → pos ≡ place (base es sit) → Looks word → Agrees names es sit pos (word ∷ rest)
  turn es (open_at p) pos known placed (inl is) = long_open es p pos is.0 known placed is.1.0 (is_option names is.0.0) refl
  turn es (open_at p) pos known placed (inr (inl is)) = short_open es p pos is
  turn es (open_at p) pos known placed (inr (inr is)) = plain_open es p pos known placed is
  turn es (waits_at name) pos known placed (inl is) = waits_long es name pos known is
  turn es (waits_at name) pos known placed (inr (inl is)) = waits_short es name pos is
  turn es (waits_at name) pos known placed (inr (inr is)) = waits_plain es name pos known placed is

-- the end of the words
ends : (names : List Text) (apart : is_option names command_name ≡ false) (es : List Setting) (sit : Sit) (pos : ℕ) → IsKnownAt names sit → Agrees names es sit pos []
ends names apart es (waits_at name) pos known = both_none rows_for _ _ (fault_only _ _ _ (no_value names apart es name known)) refl
ends names apart es (open_at p) pos known = go (settles names es p known)
  where
    all_done : (es : List Setting) → Some (rows_for es) ≡ as_rows (checked es [])
    all_done es = ap (λ (xs : List Setting). Some (rows_for xs)) (sym (append-nil es))

    go : Settles names es p → Agrees names es (open_at p) pos []
    go (inl bad) = both_none rows_for _ _ (fault_only _ _ _ bad.0) (bad.1 [])
    go (inr ok) =
        ap (λ (k : Kinds). finish k (Some (settled (rules_for names) (held_at es (open_at p))).rows)) ok.0
        ∙ ap (λ (h : Held). Some h.rows) ok.1
        ∙ all_done (after es p)
        ∙ ap as_rows (sym (ok.2 []))

pub runs : (names : List Text) (apart : is_option names command_name ≡ false) (words : List Text) → AllByRecursion IsUtf8 words → list_all is_word words ≡ true → Later names words
runs names apart [] texts h es sit pos known placed = ends names apart es sit pos known
runs names apart (word ∷ rest) texts h es sit pos known placed =
    let parts = and_parts (is_word word) (list_all is_word rest) h in
    turn names apart word rest (runs names apart rest texts.1 parts.1) (no_dashes word parts.0) es sit pos known placed (looks word texts.0 parts.0)

-- The program's rules by the names of its options, and what a use of one does.
use Rattle.std.proofs.Common.{◌≡◌, ◌∙◌, ℕ, Bool, true, false, not, ◌&&◌, ◌||◌, cond, List, [], ◌∷◌, ◌++◌, map, Some, None, refl, sym, ap, true≢false}
use Rattle.std.specs.Str.{bytes_eq}
use Rattle.std.proofs.lemmas.Bool.{or_parts}
use Rattle.std.proofs.lemmas.Slice.Eq.{bytes_eq-Decides}
use Rattle.clap.specs.Walk.{Row, Rule, Text, arg_by_id, arg_by_index, arg_by_long, arg_by_short, has_row, reading_by, used, with_values, without}
use Rattle.clap.specs.Simple.{Shape, built, filled, with_index}
use Rattle.clap.specs.Kinds.{Kinds, or_else}
use Rattle.clap.specs.Faults.{use_fault}
use Rattle.clap.specs.declared.error.kind.ErrorKind.TheVariants as kind
use Rattle.clap.specs.declared.parser.matches.ValueSource.TheVariants.{CommandLine}
use Rattle.boot_words.specs.Shape.{bare, command_rule, option_rule, program}
use Rattle.boot_words.specs.Grammar.{Setting, command_name, is_option, is_set, option_names}

abbrev pub cmd : Rule
cmd = with_index 1 (filled command_rule)

abbrev pub opt : Text → Rule
opt name = filled (option_rule name)

abbrev pub rules_for : List Text → List Rule
rules_for names = cmd ∷ map opt names

abbrev pub shape_for : List Text → Shape
shape_for names = record (built bare).top { rules = rules_for names }

pub program_shape : (built program).top ≡ shape_for option_names
program_shape = refl

pub same_text : (x y : Text) → bytes_eq x y ≡ true → x ≡ y
same_text x y e = (bytes_eq-Decides x y).0 e

pub text_itself : (x : Text) → bytes_eq x x ≡ true
text_itself x = (bytes_eq-Decides x x).1 refl

pub long_known : (names : List Text) (name : Text) → is_option names name ≡ true → arg_by_long (map opt names) name ≡ Some (opt name)
long_known [] name h = absurd (true≢false (sym h))
long_known (n ∷ ns) name h = go (bytes_eq n name) refl h (long_known ns name)
  where
    go : (b : Bool) → bytes_eq n name ≡ b → (b || is_option ns name) ≡ true → (is_option ns name ≡ true → arg_by_long (map opt ns) name ≡ Some (opt name))
        → cond (b || false) (Some (opt n)) (arg_by_long (map opt ns) name) ≡ Some (opt name)
    go true e t later = ap (λ (x : Text). Some (opt x)) (same_text n name e)
    go false e t later = later t

pub long_unknown : (names : List Text) (name : Text) → is_option names name ≡ false → arg_by_long (map opt names) name ≡ None
long_unknown [] name h = refl
long_unknown (n ∷ ns) name h = go (bytes_eq n name) h (long_unknown ns name)
  where
    go : (b : Bool) → (b || is_option ns name) ≡ false → (is_option ns name ≡ false → arg_by_long (map opt ns) name ≡ None)
        → cond (b || false) (Some (opt n)) (arg_by_long (map opt ns) name) ≡ None
    go true t later = absurd (true≢false t)
    go false t later = later t

id_known : (names : List Text) (name : Text) → is_option names name ≡ true → arg_by_id (map opt names) name ≡ Some (opt name)
id_known [] name h = absurd (true≢false (sym h))
id_known (n ∷ ns) name h = go (bytes_eq n name) refl h (id_known ns name)
  where
    go : (b : Bool) → bytes_eq n name ≡ b → (b || is_option ns name) ≡ true → (is_option ns name ≡ true → arg_by_id (map opt ns) name ≡ Some (opt name))
        → cond b (Some (opt n)) (arg_by_id (map opt ns) name) ≡ Some (opt name)
    go true e t later = ap (λ (x : Text). Some (opt x)) (same_text n name e)
    go false e t later = later t

pub no_short : (names : List Text) (x : ℕ) → arg_by_short (rules_for names) x ≡ None
no_short [] x = refl
no_short (n ∷ ns) x = no_short ns x

pub no_second : (names : List Text) → arg_by_index (rules_for names) 2 ≡ None
no_second [] = refl
no_second (n ∷ ns) = no_second ns

-- ---- rows

abbrev pub row_for : Setting → Row
row_for s = record { id = s.0; values = s.1 ∷ []; count = None; source = Some CommandLine; reading = reading_by cmd }

abbrev pub rows_for : List Setting → List Row
rows_for settings = map row_for settings

pub row_set : (id : Text) (es : List Setting) → has_row id (rows_for es) ≡ is_set id es
row_set id [] = refl
row_set id (e ∷ es) = ap (λ (b : Bool). bytes_eq e.0 id || b) (row_set id es)

pub row_left : (id : Text) (es : List Setting) → is_set id es ≡ false → without id (rows_for es) ≡ rows_for es
row_left id [] h = refl
row_left id (e ∷ es) h =
    let parts = or_parts (bytes_eq e.0 id) (is_set id es) h in
    ap (λ (b : Bool). cond b (rows_for es) (row_for e ∷ without id (rows_for es))) parts.0 ∙ ap (λ (rs : List Row). row_for e ∷ rs) (row_left id es parts.1)

pub row_added : (s : Setting) (es : List Setting) → is_set s.0 es ≡ false
    → with_values s.0 (reading_by cmd) CommandLine (s.1 ∷ []) (rows_for es) ≡ rows_for (es ++ s ∷ [])
row_added s [] h = refl
row_added s (e ∷ es) h =
    let parts = or_parts (bytes_eq e.0 s.0) (is_set s.0 es) h in
    ap (λ (b : Bool). cond b (record (row_for e) { values = e.1 ∷ s.1 ∷ [] } ∷ rows_for es) (row_for e ∷ with_values s.0 (reading_by cmd) CommandLine (s.1 ∷ []) (rows_for es))) parts.0
    ∙ ap (λ (rs : List Row). row_for e ∷ rs) (row_added s es parts.1)

-- ---- a use

abbrev pub twice : Bool → Kinds
twice true = kind.ArgumentConflict ∷ []
twice false = []

abbrev pub IsUse : Rule → Text → Type 0
IsUse a id = ((v : Text) (es : List Setting) → use_fault false a (v ∷ []) (rows_for es) ≡ twice (is_set id es))
    × ((v : Text) (es : List Setting) → is_set id es ≡ false → used a (v ∷ []) (rows_for es) ≡ rows_for (es ++ (id, v) ∷ []))

use_twice : (b : Bool) → or_else (cond (b && not false) (kind.ArgumentConflict ∷ []) []) [] ≡ twice b
use_twice true = refl
use_twice false = refl

pub use_cmd : IsUse cmd command_name
use_cmd = (
  λ v es. use_twice (has_row command_name (rows_for es)) ∙ ap twice (row_set command_name es),
  λ v es h. ap (with_values command_name (reading_by cmd) CommandLine (v ∷ [])) (row_left command_name es h) ∙ row_added (command_name, v) es h,
)

pub use_opt : (name : Text) → IsUse (opt name) name
use_opt name = (
  λ v es. use_twice (has_row name (rows_for es)) ∙ ap twice (row_set name es),
  λ v es h. ap (with_values name (reading_by cmd) CommandLine (v ∷ [])) (row_left name es h) ∙ row_added (name, v) es h,
)

abbrev pub IsKnown : List Text → Text → Type 0
IsKnown names id = (a : Rule) × (arg_by_id (rules_for names) id ≡ Some a) × IsUse a id

pub known_cmd : (names : List Text) → IsKnown names command_name
known_cmd names = (cmd, refl, use_cmd)

module _ (names : List Text) (apart : is_option names command_name ≡ false) where
  pub not_command : (name : Text) → is_option names name ≡ true → bytes_eq command_name name ≡ false
  not_command name h = go (bytes_eq command_name name) refl
    where
      go : (b : Bool) → bytes_eq command_name name ≡ b → b ≡ false
      go true e = absurd (true≢false (sym h ∙ ap (is_option names) (sym (same_text command_name name e)) ∙ apart))
      go false e = refl

  pub id_is : (name : Text) → is_option names name ≡ true → arg_by_id (rules_for names) name ≡ Some (opt name)
  id_is name h = ap (λ (b : Bool). cond b (Some cmd) (arg_by_id (map opt names) name)) (not_command name h) ∙ id_known names name h

  pub known_opt : (name : Text) → is_option names name ≡ true → IsKnown names name
  known_opt name h = (opt name, id_is name h, use_opt name)

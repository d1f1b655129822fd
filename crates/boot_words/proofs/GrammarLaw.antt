-- What the program's shape makes of the words is what the grammar says of them.
use Rattle.std.proofs.Common.{◌≡◌, ◌∙◌, Bool, true, false, not, ◌&&◌, ◌||◌, cond, List, [], ◌∷◌, map, fold, length, Option, Some, None, codes, refl, sym, ap, arith}
use Rattle.std.specs.Prelude.{option_map, option_and_then, slice_get}
use Rattle.std.specs.List.{list_all, list_any, find, AllByRecursion}
use Rattle.std.proofs.lemmas.Str.{IsUtf8-string_bytes}
use Rattle.std.specs.Prelude.{String, string_bytes}
use Rattle.std.specs.Str.{bytes_eq, IsUtf8}
use Rattle.clap.specs.Walk.{Held, Row, Rule, Text, Walk, first_of, has_row, is_empty, nothing_held, rows_after, settled, walk, walk_from, walked, with_default}
use Rattle.clap.specs.Kinds.{Kinds, or_else}
use Rattle.clap.specs.Takes.{is_given}
use Rattle.clap.specs.Faults.{check_fault, defaults_fault, level_fault, settle_fault, turn_fault, walk_fault}
use Rattle.clap.specs.Simple.{built, matches_of}
use Rattle.std.proofs.lemmas.Bool.{ne_eqb}
use Rattle.clap.specs.declared.error.kind.ErrorKind.{ErrorKind}
use Rattle.clap.specs.declared.error.kind.ErrorKind.TheVariants as kind
use Rattle.clap.proofs.FaultLemmas.{leaf_fault}
use Rattle.boot_words.specs.declared.task.Task.{Task}
use Rattle.boot_words.specs.Shape.{program}
use Rattle.boot_words.specs.Tasks.{task_of}
use Rattle.boot_words.specs.Lines.{fits, given_in, is_word, line_task}
use Rattle.boot_words.specs.Grammar.{Setting, command_name, given_from, grammar_task, is_option, is_set, are_set_once, option_names, settings_of, settings_task, value_of}
use Rattle.boot_words.proofs.GrammarRules.{cmd, opt, row_for, rows_for, rules_for, shape_for}
use Rattle.boot_words.proofs.GrammarSteps.{checked, finish, open_at, run}
use Rattle.boot_words.proofs.GrammarValues.{values_told}
use Rattle.boot_words.specs.Grammar.{have_values}
use Rattle.boot_words.proofs.GrammarCases.{as_rows, runs}

-- ---- rows and settings

first_value : (id : Text) (es : List Setting) → first_of id (rows_for es) ≡ value_of id es
first_value id [] = refl
first_value id (e ∷ es) = go (bytes_eq e.0 id) (first_value id es)
  where
    go : (b : Bool) → first_of id (rows_for es) ≡ value_of id es
        → option_and_then (λ (r : Row). slice_get r.values 0) (cond b (Some (row_for e)) (find (λ r. bytes_eq r.id id) (rows_for es)))
        ≡ option_map (λ (s : Setting). s.1) (cond b (Some e) (find (λ s. bytes_eq s.0 id) es))
    go true h = refl
    go false h = h

given_rows : (es : List Setting) → given_in (rows_for es) ≡ given_from es
given_rows es = λ i. record {
  command = first_value (codes "command") es i;
  emit = first_value (codes "emit") es i;
  capture = first_value (codes "capture") es i;
  buffer = first_value (codes "buffer") es i;
  seed = first_value (codes "seed") es i;
  mac = first_value (codes "mac") es i;
}

given_set : (id : Text) (es : List Setting) → is_given id (rows_for es) ≡ is_set id es
given_set id [] = refl
given_set id (e ∷ es) = go (bytes_eq e.0 id) (given_set id es)
  where
    go : (b : Bool) → is_given id (rows_for es) ≡ is_set id es
        → Rattle.std.specs.Option.option_map_or (λ (r : Row). Rattle.clap.specs.Facts.explicit_source r.source) (cond b (Some (row_for e)) (find (λ r. bytes_eq r.id id) (rows_for es))) false ≡ (b || is_set id es)
    go true h = refl
    go false h = h

-- ---- after the walk

default_nothing : (b : Bool) (rows : List Row) → cond b rows rows ≡ rows
default_nothing true rows = refl
default_nothing false rows = refl

no_fault : (b : Bool) (k : Kinds) → cond (b || true) [] k ≡ []
no_fault true k = refl
no_fault false k = refl

opts_default : (names : List Text) (rows : List Row) → fold with_default rows (map opt names) ≡ rows
opts_default [] rows = refl
opts_default (n ∷ ns) rows = ap (λ (rs : List Row). fold with_default rs (map opt ns)) (default_nothing (has_row n rows) rows) ∙ opts_default ns rows

rules_default : (names : List Text) (rows : List Row) → fold with_default rows (rules_for names) ≡ rows
rules_default names rows = ap (λ (rs : List Row). fold with_default rs (map opt names)) (default_nothing (has_row command_name rows) rows) ∙ opts_default names rows

opts_fault : (names : List Text) (rows : List Row) → defaults_fault rows (map opt names) ≡ []
unfolding defaults_fault
opts_fault [] rows = refl
opts_fault (n ∷ ns) rows =
    ap (λ (k : Kinds). or_else k (defaults_fault (with_default rows (opt n)) (map opt ns))) (no_fault (has_row n rows) _)
    ∙ opts_fault ns (with_default rows (opt n))

rules_fault : (names : List Text) (rows : List Row) → defaults_fault rows (rules_for names) ≡ []
unfolding defaults_fault
rules_fault names rows =
    ap (λ (k : Kinds). or_else k (defaults_fault (with_default rows cmd) (map opt names))) (no_fault (has_row command_name rows) _)
    ∙ opts_fault names (with_default rows cmd)

none_required : (names : List Text) (rows : List Row) → list_any (λ (a : Rule). a.required && not (is_given a.id rows)) (map opt names) ≡ false
none_required [] rows = refl
none_required (n ∷ ns) rows = none_required ns rows

abbrev missing : Bool → Kinds
missing is = cond (not is || false) (kind.MissingRequiredArgument ∷ []) []

check_is : (names : List Text) (rows : List Row) → check_fault (shape_for names) rows false ≡ missing (is_given command_name rows)
check_is names rows = ap (λ (b : Bool). cond (not (is_given command_name rows) || b) (kind.MissingRequiredArgument ∷ []) []) (none_required names rows)

-- ---- the walk, and then its end

or_else_in : (a b d : Kinds) → or_else (or_else a b) d ≡ or_else a (or_else b d)
or_else_in [] b d = refl
or_else_in (k ∷ ks) b d = refl

finish_both : {T : Type 0} (a b : Kinds) (r : Option T) → finish (or_else a b) r ≡ finish a (finish b r)
finish_both [] b r = refl
finish_both (k ∷ ks) b r = refl

abbrev end_of : List Text → Walk → List Text → Held
end_of names w words = (fold (walked (rules_for names) []) w words).held

run_is : (names : List Text) (w : Walk) (words : List Text)
    → finish (or_else (walk_fault (shape_for names) [] w words) (settle_fault (rules_for names) false (end_of names w words)))
    (Some (settled (rules_for names) (end_of names w words)).rows) ≡ run names w words
unfolding walk_fault
run_is names w [] = refl
run_is names w (word ∷ rest) =
    let turn = turn_fault (shape_for names) [] w word in
    let then = walked (rules_for names) [] w word in
    ap (λ (k : Kinds). finish k (Some (settled (rules_for names) (end_of names then rest)).rows))
    (or_else_in turn (walk_fault (shape_for names) [] then rest) (settle_fault (rules_for names) false (end_of names then rest)))
    ∙ finish_both turn _ _
    ∙ ap (finish turn) (run_is names then rest)

-- what comes of the words at this level
abbrev task_by : Kinds → List Row → Option Task
task_by k rows = cond (is_empty k) (task_of (given_in rows)) None

some_fault : (k : ErrorKind) (ks : Kinds) → is_empty (k ∷ ks) ≡ false
some_fault k ks = ne_eqb (length (k ∷ ks)) 0 (λ e. omega (arith, e))

level_task : (names words : List Text)
    → task_by (level_fault (shape_for names) [] nothing_held words false []) (rows_after (rules_for names) [] words)
    ≡ option_and_then (λ rs. task_by (missing (is_given command_name rs)) rs) (run names (walk_from nothing_held) words)
level_task names words =
    let end = (walk (rules_for names) [] nothing_held words).held in
    let rows = (settled (rules_for names) end).rows in
    let walked_fault = walk_fault (shape_for names) [] (walk_from nothing_held) words in
    let last_fault = settle_fault (rules_for names) false end in
    ap (λ (rs : List Row). task_by (or_else walked_fault (or_else last_fault (or_else (defaults_fault rows (rules_for names)) (check_fault (shape_for names) rs false)))) rs) (rules_default names rows)
    ∙ ap (λ (k : Kinds). task_by (or_else walked_fault (or_else last_fault (or_else k (check_fault (shape_for names) rows false)))) rows) (rules_fault names rows)
    ∙ ap (λ (k : Kinds). task_by (or_else walked_fault (or_else last_fault k)) rows) (check_is names rows)
    ∙ ap (λ (k : Kinds). task_by k rows) (sym (or_else_in walked_fault last_fault (missing (is_given command_name rows))))
    ∙ by_last (or_else walked_fault last_fault) rows
    ∙ ap (option_and_then (λ rs. task_by (missing (is_given command_name rs)) rs)) (run_is names (walk_from nothing_held) words)
  where
    by_last : (a : Kinds) (rows : List Row) → task_by (or_else a (missing (is_given command_name rows))) rows
        ≡ option_and_then (λ rs. task_by (missing (is_given command_name rs)) rs) (finish a (Some rows))
    by_last [] rows = refl
    by_last (k ∷ ks) rows = ap (λ (b : Bool). cond b (task_of (given_in rows)) None) (some_fault k ks)

-- ---- the settings

settings_done : (o : Option (List Setting))
    → option_and_then (λ rs. task_by (missing (is_given command_name rs)) rs) (as_rows (option_and_then (checked []) o)) ≡ option_and_then settings_task o
settings_done None = refl
settings_done (Some es) = go (are_set_once [] es)
  where
    told : (b : Bool) → have_values (given_from es) ≡ b → task_of (given_from es) ≡ cond b (task_of (given_from es)) None
    told true e = refl
    told false e = values_told (given_from es) e

    done : (t : Bool) → is_given command_name (rows_for es) ≡ t → task_by (missing t) (rows_for es) ≡ cond (t && have_values (given_from es)) (task_of (given_from es)) None
    done true e = ap task_of (given_rows es) ∙ told (have_values (given_from es)) refl
    done false e = refl

    go : (b : Bool) → option_and_then (λ rs. task_by (missing (is_given command_name rs)) rs) (as_rows (cond b (Some es) None))
        ≡ cond (b && (is_set command_name es && have_values (given_from es))) (task_of (given_from es)) None
    go true =
        ap (λ (t : Bool). task_by (missing t) (rows_for es)) (given_set command_name es)
        ∙ done (is_set command_name es) (given_set command_name es)
    go false = refl

apart : is_option option_names command_name ≡ false
apart = refl

words_task : (words : List Text) → AllByRecursion IsUtf8 words → list_all is_word words ≡ true
    → cond (fits words) (task_of (given_in (matches_of program words))) None ≡ option_and_then settings_task (settings_of option_names words None)
words_task words texts h =
    ap (λ (k : Kinds). task_by k (matches_of program words)) (leaf_fault (built program) nothing_held words refl)
    ∙ level_task option_names words
    ∙ ap (option_and_then (λ rs. task_by (missing (is_given command_name rs)) rs)) (runs option_names apart words texts h [] (open_at None) 1 tt refl)
    ∙ settings_done (settings_of option_names words None)

pub law : (words : List Text) → AllByRecursion IsUtf8 words → line_task words ≡ grammar_task words
law words texts = go (list_all is_word words) refl
  where
    go : (b : Bool) → list_all is_word words ≡ b
        → cond (b && fits words) (task_of (given_in (matches_of program words))) None ≡ cond b (option_and_then settings_task (settings_of option_names words None)) None
    go true e = words_task words texts e
    go false e = refl

texts_of : {Z : Type 0} (words : List (String Z)) → AllByRecursion IsUtf8 (map string_bytes words)
texts_of [] = tt
texts_of (word ∷ rest) = (IsUtf8-string_bytes word, texts_of rest)

-- the words that a program is given are texts
pub string_law : {Z : Type 0} (words : List (String Z)) → line_task (map string_bytes words) ≡ grammar_task (map string_bytes words)
string_law words = law (map string_bytes words) (texts_of words)

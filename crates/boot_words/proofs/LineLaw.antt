-- What the steps of reading tell of the words.
use Rattle.std.proofs.Common.{◌≡◌, ◌≢◌, ◌⊎◌, inl, inr, ⊎_elim, Bool, true, false, ◌&&◌, cond, List, [], ◌∷◌, length, map, Option, Some, None, Result, Ok, Err, IfOk, MatchResult, codes, refl, sym, ap, ◌∙◌, arith}
use Rattle.std.proofs.lemmas.Bool.{and_left, and_right, ne_eqb}
use Rattle.std.specs.List.{list_all}
use Rattle.clap.specs.Words.{Text, fault_of, found_of, matches_of, rows_of}
use Rattle.clap.specs.Walk.{is_empty}
use Rattle.clap.specs.Kinds.{Kinds}
use Rattle.clap.specs.declared.parser.matches.ArgMatches.{ArgMatches}
use Rattle.clap.proofs.WalkLemmas.{first_value-rows}
use Rattle.boot_words.specs.declared.task.Task.{Task}
use Rattle.boot_words.specs.declared.line.WordsFault.{WordsFault}
use Rattle.boot_words.specs.declared.line.WordsFault.TheVariants.{Bad, OutOfResources}
use Rattle.boot_words.specs.Shape.{program}
use Rattle.boot_words.specs.Tasks.{task_of}
use Rattle.boot_words.specs.Lines.{AnswersLine, fits, given_by, given_in, is_word, line_task}

pub list_all-map : {X Y : Type 0} (f : X → Y) (test : Y → Bool) (xs : List X) → list_all (λ x. test (f x)) xs ≡ list_all test (map f xs)
list_all-map f test [] = refl
list_all-map f test (x ∷ xs) = ap (λ (t : Bool). test (f x) && t) (list_all-map f test xs)

given_rows : (m : ArgMatches) → given_by m ≡ given_in (rows_of (found_of m))
given_rows m = λ i. record {
  command = first_value-rows (found_of m) (codes "command") i;
  emit = first_value-rows (found_of m) (codes "emit") i;
  capture = first_value-rows (found_of m) (codes "capture") i;
  buffer = first_value-rows (found_of m) (codes "buffer") i;
  seed = first_value-rows (found_of m) (codes "seed") i;
  mac = first_value-rows (found_of m) (codes "mac") i;
}

none_empty : (kinds : Kinds) → kinds ≡ [] → is_empty kinds ≡ true
none_empty kinds h = ap is_empty h

some_not_empty : (kinds : Kinds) → kinds ≢ [] → is_empty kinds ≡ false
some_not_empty [] h = absurd (h refl)
some_not_empty (k ∷ ks) h = ne_eqb (length (k ∷ ks)) 0 (λ e. omega (arith, e))

choose : {T : Type 0} (a b : Bool) (x y : T) → a ≡ true → b ≡ true → cond (a && b) x y ≡ x
choose true true x y = λ _ _. refl
choose true false x y = λ _ no. cc
choose false b x y = λ no _. cc

-- the words fit, and were matched
pub line_read : (words : List Text) (m : ArgMatches) → list_all is_word words ≡ true → fault_of program words ≡ []
    → rows_of (found_of m) ≡ matches_of program words → line_task words ≡ task_of (given_by m)
line_read words m plain none rows =
    choose (list_all is_word words) (fits words) (task_of (given_in (matches_of program words))) None plain (none_empty _ none)
    ∙ sym (ap task_of (given_rows m ∙ ap given_in rows))

pub line_strange : (words : List Text) → list_all is_word words ≡ false → line_task words ≡ None
line_strange words strange =
    ap (λ (t : Bool). cond t (task_of (given_in (matches_of program words))) None) (and_left (list_all is_word words) (fits words) strange)

pub line_unfit : (words : List Text) → fault_of program words ≢ [] → line_task words ≡ None
line_unfit words some =
    ap (λ (t : Bool). cond t (task_of (given_in (matches_of program words))) None) (and_right (list_all is_word words) (fits words) (some_not_empty _ some))

pub read_by : (answer : Result Task WordsFault) (asked : Option Task) → AnswersLine answer asked → IfOk answer (λ task. asked ≡ Some task)
read_by (Ok task) asked h = h
read_by (Err fault) asked h = tt

pub refused_by : (answer : Result Task WordsFault) (asked : Option Task) → AnswersLine answer asked → answer ≡ Err Bad → asked ≡ None
refused_by (Ok task) asked h is = grind (arith, is)
refused_by (Err fault) asked h is = ⊎_elim (λ memory. grind (arith, memory, is)) (λ bad. bad.1) h

pub asked_by : (answer : Result Task WordsFault) (asked : Option Task) → AnswersLine answer asked → (task : Task) → asked ≡ Some task
    → MatchResult answer (λ read. read ≡ task) (λ fault. fault ≡ OutOfResources)
asked_by (Ok read) asked h task is = grind (arith, h, is)
asked_by (Err fault) asked h task is = ⊎_elim (λ memory. memory) (λ bad. grind (arith, bad.1, is)) h

pub bad_by : (answer : Result Task WordsFault) (asked : Option Task) → AnswersLine answer asked → asked ≡ None
    → MatchResult answer (λ read. ⊥) (λ fault. (fault ≡ Bad) ⊎ (fault ≡ OutOfResources))
bad_by (Ok read) asked h is = grind (arith, h, is)
bad_by (Err fault) asked h is = ⊎_elim (λ memory. inr memory) (λ bad. inl bad.0) h

-- What is written in parts is read as their settings.
use Rattle.std.proofs.Common.{◌≡◌, ◌∙◌, Bool, true, false, not, ◌&&◌, ◌||◌, cond, List, [], ◌∷◌, ◌++◌, map, Option, Some, None, codes, refl, sym, ap, subst, true≢false}
use Rattle.std.specs.List.{list_all}
use Rattle.std.specs.Str.{bytes_eq}
use Rattle.std.proofs.lemmas.Bool.{and_parts}
use Rattle.clap.specs.Lexer.{long_of}
use Rattle.clap.specs.Walk.{Text}
use Rattle.boot_words.specs.Grammar.{Setting, and_more, begins_with_hyphen, command_name, is_option, option_names, option_word, settings_of, word_settings}
use Rattle.boot_words.specs.Parts.{Part, command, spaced, joined, is_part, line_of, setting_of}
use Rattle.boot_words.proofs.GrammarRules.{same_text}
use Rattle.boot_words.proofs.GrammarWords.{not_true}

-- a fact about each of the five names
five : (P : Text → Type 0) → P (codes "emit") → P (codes "capture") → P (codes "buffer") → P (codes "seed") → P (codes "mac")
    → (name : Text) → is_option option_names name ≡ true → P name
five P emit capture buffer seed mac name h =
    go (bytes_eq (codes "emit") name) (bytes_eq (codes "capture") name) (bytes_eq (codes "buffer") name) (bytes_eq (codes "seed") name) (bytes_eq (codes "mac") name)
    refl refl refl refl refl h
  where
    go : (a b c d e : Bool) → bytes_eq (codes "emit") name ≡ a → bytes_eq (codes "capture") name ≡ b → bytes_eq (codes "buffer") name ≡ c → bytes_eq (codes "seed") name ≡ d
        → bytes_eq (codes "mac") name ≡ e → (a || (b || (c || (d || (e || false))))) ≡ true → P name
    go true b c d e p q r s t all = subst P (same_text _ _ p) emit
    go false true c d e p q r s t all = subst P (same_text _ _ q) capture
    go false false true d e p q r s t all = subst P (same_text _ _ r) buffer
    go false false false true e p q r s t all = subst P (same_text _ _ s) seed
    go false false false false true p q r s t all = subst P (same_text _ _ t) mac
    go false false false false false p q r s t all = absurd (true≢false (sym all))

spaced_long : (name : Text) → is_option option_names name ≡ true → long_of (codes "--" ++ name) ≡ Some (name, None)
spaced_long = five (λ name. long_of (codes "--" ++ name) ≡ Some (name, None)) refl refl refl refl refl

joined_long : (value name : Text) → is_option option_names name ≡ true → long_of (codes "--" ++ (name ++ (codes "=" ++ value))) ≡ Some (name, Some value)
joined_long value = five (λ name. long_of (codes "--" ++ (name ++ (codes "=" ++ value))) ≡ Some (name, Some value)) refl refl refl refl refl

plain_long : (word : Text) → begins_with_hyphen word ≡ false → long_of word ≡ None
plain_long [] h = refl
plain_long (b ∷ rest) h = rw h refl

-- the rest was read
more : (names : List Text) (s : Setting) (rest : List Text) (ss : List Setting) → settings_of names rest None ≡ Some ss → and_more s (settings_of names rest None) ≡ Some (s ∷ ss)
more names s rest ss h = ap (and_more s) h

long_read : (word : Text) (rest : List Text) (name : Text) (v : Option Text) → is_option option_names name ≡ true → long_of word ≡ Some (name, v)
    → settings_of option_names (word ∷ rest) None ≡ option_word name v (settings_of option_names rest)
long_read word rest name v known long =
    ap (λ (o : Option (Text × Option Text)). word_settings option_names o word (settings_of option_names rest)) long
    ∙ ap (λ (b : Bool). cond b (option_word name v (settings_of option_names rest)) None) known

pub parts_read : (parts : List Part) → list_all is_part parts ≡ true → settings_of option_names (line_of parts) None ≡ Some (map setting_of parts)
parts_read [] h = refl
parts_read (command word ∷ rest) h =
    let both = and_parts (not (begins_with_hyphen word)) (list_all is_part rest) h in
    let plain = not_true (begins_with_hyphen word) both.0 in
    ap (λ (o : Option (Text × Option Text)). word_settings option_names o word (settings_of option_names (line_of rest))) (plain_long word plain)
    ∙ ap (λ (b : Bool). cond b None (and_more (command_name, word) (settings_of option_names (line_of rest) None))) plain
    ∙ more option_names (command_name, word) (line_of rest) (map setting_of rest) (parts_read rest both.1)
parts_read (spaced name value ∷ rest) h =
    let both = and_parts (is_option option_names name && not (begins_with_hyphen value)) (list_all is_part rest) h in
    let own = and_parts (is_option option_names name) (not (begins_with_hyphen value)) both.0 in
    long_read (codes "--" ++ name) (value ∷ line_of rest) name None own.0 (spaced_long name own.0)
    ∙ ap (λ (b : Bool). cond b None (and_more (name, value) (settings_of option_names (line_of rest) None))) (not_true (begins_with_hyphen value) own.1)
    ∙ more option_names (name, value) (line_of rest) (map setting_of rest) (parts_read rest both.1)
parts_read (joined name value ∷ rest) h =
    let both = and_parts (is_option option_names name) (list_all is_part rest) h in
    long_read (codes "--" ++ (name ++ (codes "=" ++ value))) (line_of rest) name (Some value) both.0 (joined_long value name both.0)
    ∙ more option_names (name, value) (line_of rest) (map setting_of rest) (parts_read rest both.1)

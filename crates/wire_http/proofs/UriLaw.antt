-- What an answer to a text tells of it.
use Rattle.std.proofs.Common.{◌≡◌, ◌≢◌, ◌⊎◌, Bool, true, false, cond, List, ℕ, Result, Ok, Err, IfOk, IfErr, MatchResult, Option, IsUtf8, refl, ap, inl, inr, ⊎_elim, arith}
use Rattle.std.specs.Str.{is_utf8}
use Rattle.std.proofs.lemmas.Str.{IsUtf8-from_is_utf8, is_utf8-from_IsUtf8}
use Rattle.url.specs.Parts.{Parts}
use Rattle.url.specs.Parser.{parse_url}
use Rattle.wire_http.specs.declared.uri_fault.UriFault.{UriFault}
use Rattle.wire_http.specs.declared.uri_fault.UriFault.TheVariants as fault
use Rattle.wire_http.specs.Uris.{AnswersUri, uri_from, taken}

pub refused_by : (answer expected : Result Parts UriFault) → AnswersUri answer expected
    → IfErr answer (λ cause. cause ≢ fault.OutOfResources → expected ≡ Err cause)
refused_by (Ok uri) expected h = tt
refused_by (Err cause) expected h = λ other. ⊎_elim (λ lack. absurd (other lack)) (λ same. same) h

pub taken_by : (answer expected : Result Parts UriFault) → AnswersUri answer expected → IfOk answer (λ uri. expected ≡ Ok uri)
taken_by (Ok uri) expected h = h
taken_by (Err cause) expected h = tt

pub given_good : (answer expected : Result Parts UriFault) → AnswersUri answer expected → (uri : Parts) → expected ≡ Ok uri
    → MatchResult answer (λ read. read ≡ uri) (λ cause. cause ≡ fault.OutOfResources)
given_good (Ok read) expected h uri good = grind (arith, h, good)
given_good (Err cause) expected h uri good = ⊎_elim (λ lack. lack) (λ same. grind (arith, same, good)) h

pub given_bad : (answer expected : Result Parts UriFault) → AnswersUri answer expected → (cause : UriFault) → expected ≡ Err cause
    → MatchResult answer (λ read. ⊥) (λ told. (told ≡ fault.OutOfResources) ⊎ (told ≡ cause))
given_bad (Ok read) expected h cause bad = grind (arith, h, bad)
given_bad (Err told) expected h cause bad = ⊎_elim (λ lack. inl lack) (λ same. inr (grind (arith, same, bad))) h

pub text_of : (base : Option Parts) (text : List ℕ) → IsUtf8 text → uri_from base text ≡ taken (parse_url base text)
text_of base text valid =
    ap (λ (t : Bool). cond t (taken (parse_url base text)) (Err fault.Bad)) (is_utf8-from_IsUtf8 text valid)

pub valid_is_text : (text : List ℕ) → IsUtf8 text → ¬ (is_utf8 text ≡ false)
valid_is_text text valid wrong = grind (arith, is_utf8-from_IsUtf8 text valid, wrong)

pub no_text : (base : Option Parts) (text : List ℕ) → ¬ (IsUtf8 text) → uri_from base text ≡ Err fault.Bad
no_text base text wrong = by_test (is_utf8 text) refl
  where
    by_test : (t : Bool) → is_utf8 text ≡ t → cond t (taken (parse_url base text)) (Err fault.Bad) ≡ Err fault.Bad
    by_test true is = absurd (wrong (IsUtf8-from_is_utf8 text is))
    by_test false is = refl

-- Fields of a message and the options in them.
use Rattle.std.proofs.Common.{◌≡◌, ◌≢◌, ℕ, zero, suc, ◌+◌, ◌≤◌, ◌<◌, ◌==◌, Bool, true, false, ◌&&◌, nat_le, List, [], ◌∷◌, ◌++◌, length, get_or, take, filter, Option, Some, None, option_map, refl, sym, ap, ◌∙◌, zero-add, subst, cond, arith}
use Rattle.std.proofs.lemmas.Bool.Decides.{nat_tests}
use Rattle.wire_dhcp.specs.Filling.{Holds, filled}
use Rattle.wire_dhcp.specs.Message.{until_zero, options_field, file_options, sname_options, items_of, option_of, is_readable, has_front, octet_of}
use Rattle.wire_dhcp.specs.Options.{Item, items_in, count_of, value_of, continued}
use Rattle.wire_dhcp.proofs.Joins.{value_append, holds-nothing}

-- the first zero stands at n
pub text-cut : (field : List ℕ) (n : ℕ) → n < length field → ((k : ℕ) → k < n → get_or field k 0 ≢ 0) → get_or field n 0 ≡ 0
    → take n field ≡ until_zero field
text-cut [] n h none at = absurd (omega arith)
text-cut (zero ∷ field) zero h none at = refl
text-cut (zero ∷ field) (suc n) h none at = absurd (none 0 (omega arith) refl)
text-cut (suc c ∷ field) zero h none at = absurd (omega arith)
text-cut (suc c ∷ field) (suc n) h none at = ap (λ l. suc c ∷ l) (text-cut field n (omega arith) (λ k l. none (suc k) (omega arith)) at)

-- there is none
pub text-whole : (field : List ℕ) → ((k : ℕ) → k < length field → get_or field k 0 ≢ 0) → field ≡ until_zero field
text-whole [] none = refl
text-whole (zero ∷ field) none = absurd (none 0 (omega arith) refl)
text-whole (suc c ∷ field) none = ap (λ l. suc c ∷ l) (text-whole field (λ k l. none (suc k) (omega arith)))

pub count_append : (code : ℕ) (a b : List Item) → count_of code (a ++ b) ≡ count_of code a + count_of code b
count_append code [] b = sym (zero-add (count_of code b))
count_append code (i ∷ a) b = step (i.code == code) (count_append code a b)
  where
    step : (same : Bool) → count_of code (a ++ b) ≡ count_of code a + count_of code b
        → length (cond same (i ∷ filter (λ item. item.code == code) (a ++ b)) (filter (λ item. item.code == code) (a ++ b)))
        ≡ length (cond same (i ∷ filter (λ item. item.code == code) a) (filter (λ item. item.code == code) a)) + count_of code b
    step true e = omega (arith, e)
    step false e = e

-- the options of all fields are counted
pub count-fields : (code main file sname : ℕ) (octets : List ℕ) → main ≡ count_of code (items_in (options_field octets))
    → file ≡ count_of code (items_in (file_options octets)) → sname ≡ count_of code (items_in (sname_options octets))
    → main + file + sname ≡ count_of code (items_of octets)
count-fields code main file sname octets m f s =
    let one = count_append code (items_in (options_field octets) ++ items_in (file_options octets)) (items_in (sname_options octets)) in
    let two = count_append code (items_in (options_field octets)) (items_in (file_options octets)) in
    omega (arith, one, two, m, f, s)

-- the values of all fields are joined
pub join-fields : (code : ℕ) (main file all : Option ℕ) (octets before one two three : List ℕ)
    → ((value : Option (List ℕ)) → (base : List ℕ) → Holds value None base before → Holds (continued value (value_of code (items_in (options_field octets)))) main base one)
    → ((value : Option (List ℕ)) → (base : List ℕ) → Holds value main base one → Holds (continued value (value_of code (items_in (file_options octets)))) file base two)
    → ((value : Option (List ℕ)) → (base : List ℕ) → Holds value file base two → Holds (continued value (value_of code (items_in (sname_options octets)))) all base three)
    → Holds (option_of code octets) all before three
join-fields code main file all octets before one two three m f s =
    let whole : continued (continued (value_of code (items_in (options_field octets))) (value_of code (items_in (file_options octets)))) (value_of code (items_in (sname_options octets)))
    ≡ option_of code octets =
    ap (λ v. continued v (value_of code (items_in (sname_options octets)))) (sym (value_append code (items_in (options_field octets)) (items_in (file_options octets))))
    ∙ sym (value_append code (items_in (options_field octets) ++ items_in (file_options octets)) (items_in (sname_options octets))) in
    subst (λ v. Holds v all before three) whole (s _ before (f _ before (m None before (holds-nothing before))))

both-left : (a b : Bool) → (a && b) ≡ true → a ≡ true
both-left true b h = refl
both-left false b h = absurd (cc)

-- what can be read has all fixed fields
pub readable_length : (octets : List ℕ) → is_readable octets ≡ true → 240 ≤ length octets
unfolding is_readable
readable_length octets h =
    let front : has_front octets ≡ true = both-left (has_front octets) _ h in
    let long : nat_le 240 (length octets) ≡ true = both-left (nat_le 240 (length octets)) _ front in
    grind (arith, nat_tests)

-- a value of one octet fills a room of one
pub octet-read : (value : Option (List ℕ)) (size octet : ℕ) → Some size ≡ option_map length value → size ≡ 1 → octet ≡ get_or (filled value (0 ∷ [])) 0 0 → octet ≡ octet_of value
octet-read None size octet s one e = absurd (cc)
octet-read (Some []) size octet s one e = absurd (cc)
octet-read (Some (x ∷ [])) size octet s one e = e
octet-read (Some (x ∷ y ∷ v)) size octet s one e = absurd (cc)

pub octet-other : (value : Option (List ℕ)) (size : ℕ) → Some size ≡ option_map length value → size ≢ 1 → 0 ≡ octet_of value
octet-other None size s h = absurd (cc)
octet-other (Some []) size s h = refl
octet-other (Some (x ∷ [])) size s h = absurd (h (some-same s))
  where
    some-same : {a b : ℕ} → Some a ≡ Some b → a ≡ b
    some-same e = cc
octet-other (Some (x ∷ y ∷ v)) size s h = refl

pub octet-none : (value : Option (List ℕ)) → None ≡ option_map length value → 0 ≡ octet_of value
octet-none None s = refl
octet-none (Some v) s = absurd (cc)

-- a field in two spellings
pub joins-as : (code : ℕ) (found next : Option ℕ) (before later here field : List ℕ) → here ≡ field
    → ((value : Option (List ℕ)) → (base : List ℕ) → Holds value found base before → Holds (continued value (value_of code (items_in here))) next base later)
    → (value : Option (List ℕ)) → (base : List ℕ) → Holds value found base before → Holds (continued value (value_of code (items_in field))) next base later
joins-as code found next before later here field e step value base h =
    subst (λ f. Holds (continued value (value_of code (items_in f))) next base later) e (step value base h)

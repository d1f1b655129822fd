-- Steps of a walk over the fields.
use Rattle.std.proofs.Common.{◌≡◌, ℕ, ◌+◌, ◌<◌, Bool, true, false, ◌&&◌, List, [], ◌∷◌, ◌++◌, append-nil, length, get_or, take, map, filter, refl, sym, ap, ◌∙◌, cond, Option, Some, None}
use Rattle.std.specs.List.{flat_map, list_all}
use Rattle.std.specs.Option.{option_and_then}
use Rattle.std.proofs.lemmas.Bool.{cond-true, cond-false}
use Rattle.std.proofs.lemmas.List.{map-append, map_more}
use Rattle.std.proofs.lemmas.List.Elements.{filter-append}
use Rattle.std.proofs.lemmas.Grind.{flat_map-append}
use Rattle.httparse.specs.declared.spans.HeaderSpan.{HeaderSpan}
use Rattle.httparse.specs.Spans.{span_bytes, header_bytes}
use Rattle.wire_http.specs.declared.head.Framing.{Framing}
use Rattle.wire_http.specs.declared.head.Framing.TheVariants.{Length, Close, BadLength}
use Rattle.wire_http.specs.Fields.{Pair, is_same, values, elements, length_number, length_framing, writes, agreed_number, framing_by_lengths}
use Rattle.wire_http.specs.Walk.{fields_at, joined, joined_all}
use Rattle.wire_http.proofs.Texts.{parts_some}
use Rattle.httparse.specs.Grammar.{trim_ows}

pub joined_all-append : (f : Framing) (xs ys : List (List ℕ)) → joined_all f (xs ++ ys) ≡ joined_all (joined_all f xs) ys
joined_all-append f [] ys = refl
joined_all-append f (x ∷ xs) ys = joined_all-append (joined f x) xs ys

pub joined_all_bad : (xs : List (List ℕ)) → joined_all BadLength xs ≡ BadLength
joined_all_bad [] = refl
joined_all_bad (x ∷ xs) = joined_all_bad xs

-- a number, and texts that shall write it too
joined_all_number : (n : ℕ) (xs : List (List ℕ))
    → length_framing (cond (list_all (writes n) xs) (Some n) None) ≡ joined_all (Length n) xs
joined_all_number n [] = refl
joined_all_number n (x ∷ xs) = by_test (joined_all_number n xs) (writes n x)
  where
    by_test : length_framing (cond (list_all (writes n) xs) (Some n) None) ≡ joined_all (Length n) xs → (b : Bool)
        → length_framing (cond (b && list_all (writes n) xs) (Some n) None)
        ≡ joined_all (cond b (Length n) BadLength) xs
    by_test later true = later
    by_test later false = sym (joined_all_bad xs)

agreed_is : (x : List ℕ) (xs : List (List ℕ)) → length_framing (agreed_number (x ∷ xs)) ≡ joined_all Close (x ∷ xs)
agreed_is x xs = by_number (length_number x)
  where
    by_number : (o : Option ℕ)
        → length_framing (option_and_then (λ n. cond (list_all (writes n) xs) (Some n) None) o)
        ≡ joined_all (length_framing o) xs
    by_number None = sym (joined_all_bad xs)
    by_number (Some n) = joined_all_number n xs

-- what the values say is what their elements say one after the other
pub framing_joined : (vs : List (List ℕ)) → framing_by_lengths vs ≡ joined_all Close (flat_map elements vs)
framing_joined [] = refl
framing_joined (v ∷ vs) =
    let some = parts_some v in
    let first : elements v ≡ trim_ows some.0 ∷ map trim_ows some.1 = ap (map trim_ows) some.2 in
    let all : flat_map elements (v ∷ vs) ≡ trim_ows some.0 ∷ (map trim_ows some.1 ++ flat_map elements vs) =
    ap (λ (xs : List (List ℕ)). xs ++ flat_map elements vs) first in
    ap (λ (xs : List (List ℕ)). length_framing (agreed_number xs)) all
    ∙ agreed_is (trim_ows some.0) (map trim_ows some.1 ++ flat_map elements vs)
    ∙ sym (ap (joined_all Close) all)

-- one more value
pub framing_more : (vs : List (List ℕ)) (v : List ℕ)
    → framing_by_lengths (vs ++ v ∷ []) ≡ joined_all (framing_by_lengths vs) (elements v)
framing_more vs v =
    framing_joined (vs ++ v ∷ [])
    ∙ ap (joined_all Close) (flat_map-append elements vs (v ∷ []) ∙ ap (λ (xs : List (List ℕ)). flat_map elements vs ++ xs) (append-nil (elements v)))
    ∙ joined_all-append Close (flat_map elements vs) (elements v)
    ∙ ap (λ (f : Framing). joined_all f (elements v)) (sym (framing_joined vs))

-- a field of the name
pub values_yes : (name : List ℕ) (fs : List Pair) (f : Pair) → true ≡ is_same f.0 name
    → values name (fs ++ f ∷ []) ≡ values name fs ++ f.1 ∷ []
values_yes name fs f same =
    ap (map (λ (f : Pair). f.1)) (filter-append (λ (f : Pair). is_same f.0 name) fs (f ∷ []))
    ∙ map-append (λ (f : Pair). f.1) (filter (λ (f : Pair). is_same f.0 name) fs) (filter (λ (f : Pair). is_same f.0 name) (f ∷ []))
    ∙ ap (λ (xs : List Pair). values name fs ++ map (λ (f : Pair). f.1) xs) (cond-true _ _ _ (sym same))

-- a field of another name
pub values_no : (name : List ℕ) (fs : List Pair) (f : Pair) → false ≡ is_same f.0 name
    → values name (fs ++ f ∷ []) ≡ values name fs
values_no name fs f other =
    ap (map (λ (f : Pair). f.1)) (filter-append (λ (f : Pair). is_same f.0 name) fs (f ∷ []))
    ∙ ap (λ (xs : List Pair). map (λ (f : Pair). f.1) (filter (λ (f : Pair). is_same f.0 name) fs ++ xs)) (cond-false _ _ _ (sym other))
    ∙ ap (map (λ (f : Pair). f.1)) (append-nil (filter (λ (f : Pair). is_same f.0 name) fs))

-- one more field of the name
pub stated_yes : (name buf key value : List ℕ) (spans : List HeaderSpan) (i : ℕ) (d : HeaderSpan) (stated new : Framing)
    → i < length spans
    → key ≡ span_bytes buf (get_or spans i d).name → true ≡ is_same key name
    → value ≡ span_bytes buf (get_or spans i d).value → new ≡ joined_all stated (elements value)
    → stated ≡ framing_by_lengths (values name (fields_at buf (take i spans)))
    → new ≡ framing_by_lengths (values name (fields_at buf (take (i + 1) spans)))
stated_yes name buf key value spans i d stated new h key_is same value_is new_is so_far =
    let field = header_bytes buf (get_or spans i d) in
    let before = fields_at buf (take i spans) in
    let match : true ≡ is_same field.0 name = same ∙ ap (λ (k : List ℕ). is_same k name) key_is in
    let vs : values name (fields_at buf (take (i + 1) spans)) ≡ values name before ++ field.1 ∷ [] =
    ap (values name) (map_more (header_bytes buf) spans i d h) ∙ values_yes name before field match in
    new_is
    ∙ ap (λ (v : List ℕ). joined_all stated (elements v)) value_is
    ∙ ap (λ (f : Framing). joined_all f (elements field.1)) so_far
    ∙ sym (framing_more (values name before) field.1)
    ∙ ap framing_by_lengths (sym vs)

-- one more field of another name
pub stated_no : (name buf key : List ℕ) (spans : List HeaderSpan) (i : ℕ) (d : HeaderSpan) (stated : Framing)
    → i < length spans
    → key ≡ span_bytes buf (get_or spans i d).name → false ≡ is_same key name
    → stated ≡ framing_by_lengths (values name (fields_at buf (take i spans)))
    → stated ≡ framing_by_lengths (values name (fields_at buf (take (i + 1) spans)))
stated_no name buf key spans i d stated h key_is other so_far =
    let field = header_bytes buf (get_or spans i d) in
    let before = fields_at buf (take i spans) in
    let no_match : false ≡ is_same field.0 name = other ∙ ap (λ (k : List ℕ). is_same k name) key_is in
    so_far ∙ ap framing_by_lengths
    (sym (ap (values name) (map_more (header_bytes buf) spans i d h) ∙ values_no name before field no_match))

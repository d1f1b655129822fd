-- Values of one code, joined in a room.
use Rattle.std.proofs.Common.{◌≡◌, ℕ, zero, suc, ◌+◌, ◌-◌, ◌≤◌, ◌==◌, ◌≢◌, true, false, List, [], ◌∷◌, ◌++◌, length, take, drop, Option, Some, None, refl, sym, ap, ◌∙◌, append_assoc, length-append, subst, unwrap_or, arith, min, zero-add}
use Rattle.std.proofs.lemmas.Bool.Decides.{nat_tests}
use Rattle.std.proofs.lemmas.List.{length-take-le}
use Rattle.wire_dhcp.specs.Filling.{Holds, laid_at}
use Rattle.wire_dhcp.specs.Options.{Item, items_in, continued, own_value, value_of}

-- what was found so far, and what the options left add to it
pub record IsOnTheWay (code : ℕ) (value : Option (List ℕ)) (base : List ℕ) (found : Option ℕ) (room : List ℕ) (left all : List Item) : Type 0 where
  pub so_far : Option (List ℕ)
  pub holds : Holds so_far found base room
  pub joined : continued so_far (value_of code left) ≡ continued value (value_of code all)

pub continued_nothing : (value : Option (List ℕ)) → continued value None ≡ value
continued_nothing None = refl
continued_nothing (Some v) = refl

pub continued_assoc : (a b c : Option (List ℕ)) → continued (continued a b) c ≡ continued a (continued b c)
continued_assoc None b c = refl
continued_assoc (Some v) None None = refl
continued_assoc (Some v) None (Some y) = refl
continued_assoc (Some v) (Some x) None = refl
continued_assoc (Some v) (Some x) (Some y) = ap (λ l. Some l) (append_assoc v x y)

pub value_append : (code : ℕ) (a b : List Item) → value_of code (a ++ b) ≡ continued (value_of code a) (value_of code b)
value_append code [] b = refl
value_append code (i ∷ a) b =
    ap (continued (own_value code i)) (value_append code a b) ∙ sym (continued_assoc (own_value code i) (value_of code a) (value_of code b))

-- one option more
pub way-more : (code : ℕ) (value : Option (List ℕ)) (base : List ℕ) (found next : Option ℕ) (room later : List ℕ) (item : Item) (here left all : List Item)
    → here ≡ item ∷ left → IsOnTheWay code value base found room here all
    → ((v : Option (List ℕ)) → (b : List ℕ) → Holds v found b room → Holds (continued v (own_value code item)) next b later)
    → IsOnTheWay code value base next later left all
way-more code value base found next room later item here left all e way step = record {
  so_far = continued way.so_far (own_value code item);
  holds = step way.so_far base way.holds;
  joined = continued_assoc way.so_far (own_value code item) (value_of code left)
      ∙ ap (λ items. continued way.so_far (value_of code items)) (sym e) ∙ way.joined;
}

-- no more options
pub way-end : (code : ℕ) (value : Option (List ℕ)) (base : List ℕ) (found : Option ℕ) (room : List ℕ) (left all : List Item)
    → left ≡ [] → IsOnTheWay code value base found room left all → Holds (continued value (value_of code all)) found base room
way-end code value base found room left all e way =
    subst (λ v. Holds v found base room)
    (sym (continued_nothing way.so_far) ∙ ap (λ items. continued way.so_far (value_of code items)) (sym e) ∙ way.joined) way.holds

pub laid_nothing : (place : ℕ) (room : List ℕ) → laid_at place [] room ≡ room
laid_nothing place [] = refl
laid_nothing zero (r ∷ room) = refl
laid_nothing (suc place) (r ∷ room) = ap (λ l. r ∷ l) (laid_nothing place room)

-- octets behind those that lie in front
pub laid_more : (v w room : List ℕ) → laid_at (length v) w (laid_at 0 v room) ≡ laid_at 0 (v ++ w) room
laid_more [] w [] = refl
laid_more (x ∷ v) w [] = refl
laid_more [] w (r ∷ room) = refl
laid_more (x ∷ v) w (r ∷ room) = ap (λ l. x ∷ l) (laid_more v w room)

laid-front : (count : ℕ) (octets room : List ℕ) → count ≡ min (length octets) (length room) → take count octets ++ drop count room ≡ laid_at 0 octets room
laid-front zero [] [] e = refl
laid-front zero [] (r ∷ room) e = refl
laid-front zero (x ∷ octets) [] e = refl
laid-front zero (x ∷ octets) (r ∷ room) e = absurd (omega arith)
laid-front (suc count) [] room e = absurd (omega arith)
laid-front (suc count) (x ∷ octets) [] e = absurd (omega arith)
laid-front (suc count) (x ∷ octets) (r ∷ room) e = ap (λ l. x ∷ l) (laid-front count octets room (omega arith))

-- a copy into the room
pub laid-copy : (place count : ℕ) (octets room : List ℕ) → place ≤ length room → count ≡ min (length octets) (length room - place)
    → (take place room ++ take count octets) ++ drop (place + count) room ≡ laid_at place octets room
laid-copy zero count octets room h e = rw zero-add (laid-front count octets room (omega arith))
laid-copy (suc place) count octets [] h e = absurd (omega arith)
laid-copy (suc place) count octets (r ∷ room) h e =
    let next : suc place + count ≡ suc (place + count) = omega arith in
    rw next (ap (λ l. r ∷ l) (laid-copy place count octets room (omega arith) (omega arith)))

pub laid-copied : (place count : ℕ) (octets room later : List ℕ) → place ≤ length room → count ≡ min (length octets) (length room - place)
    → later ≡ (take place room ++ take count octets) ++ drop (place + length (take count octets)) room → later ≡ laid_at place octets room
laid-copied place count octets room later h e p =
    p ∙ ap (λ n. (take place room ++ take count octets) ++ drop (place + n) room) (length-take-le count octets (omega arith)) ∙ laid-copy place count octets room h e

-- past the room
pub laid-past : (place : ℕ) (octets room : List ℕ) → length room ≤ place → room ≡ laid_at place octets room
laid-past place octets [] h = refl
laid-past zero octets (r ∷ room) h = absurd (omega arith)
laid-past (suc place) octets (r ∷ room) h = ap (λ l. r ∷ l) (laid-past place octets room (omega arith))

pub holds-nothing : (room : List ℕ) → Holds None None room room
holds-nothing room = record { size = refl; text = refl }

-- the value of one option behind what was found
pub holds-more : (code place : ℕ) (value : Option (List ℕ)) (found : Option ℕ) (item : Item) (base room later : List ℕ)
    → Holds value found base room → item.code ≡ code → place ≡ unwrap_or found 0 → later ≡ laid_at place item.value room
    → Holds (continued value (own_value code item)) (Some (place + length item.value)) base later
holds-more code place None found item base room later h same p e =
    let own : (item.code == code) ≡ true = grind (arith, nat_tests) in
    let front : place ≡ 0 = p ∙ ap (λ f. unwrap_or f 0) h.size in
    rw own (record {
      size = ap (λ n. Some n) (ap (λ n. n + length item.value) front ∙ zero-add (length item.value));
      text = e ∙ ap (λ n. laid_at n item.value room) front ∙ ap (laid_at 0 item.value) h.text;
    })
holds-more code place (Some v) found item base room later h same p e =
    let own : (item.code == code) ≡ true = grind (arith, nat_tests) in
    let behind : place ≡ length v = p ∙ ap (λ f. unwrap_or f 0) h.size in
    rw own (record {
      size = ap (λ n. Some n) (ap (λ n. n + length item.value) behind ∙ sym (length-append v item.value));
      text = e ∙ ap (λ n. laid_at n item.value room) behind ∙ ap (laid_at (length v) item.value) h.text ∙ laid_more v item.value base;
    })

-- an option of another code
pub holds-other : (code : ℕ) (value : Option (List ℕ)) (found : Option ℕ) (item : Item) (base room : List ℕ)
    → Holds value found base room → item.code ≢ code → Holds (continued value (own_value code item)) found base room
holds-other code value found item base room h other =
    let differs : (item.code == code) ≡ false = grind (arith, nat_tests) in
    rw (differs, continued_nothing) h

pub way-start : (code : ℕ) (value : Option (List ℕ)) (base : List ℕ) (found : Option ℕ) (room : List ℕ) (all : List Item)
    → Holds value found base room → IsOnTheWay code value base found room all all
way-start code value base found room all h = record { so_far = value; holds = h; joined = refl }

pub empty-items : (octets : List ℕ) → length octets ≤ 0 → items_in octets ≡ []
empty-items [] h = refl
empty-items (octet ∷ octets) h = absurd (omega arith)

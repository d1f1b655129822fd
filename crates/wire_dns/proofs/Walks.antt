-- Records and rows, one after the other.
use Rattle.std.proofs.Common.{◌≡◌, ℕ, zero, suc, ◌+◌, ◌-◌, ◌<◌, ◌≤◌, ◌&&◌, true, false, List, [], Option, Some, None, is_some, refl, sym, ap, ◌∙◌, arith}
use Rattle.std.specs.Option.{option_map, unwrap_or}
use Rattle.wire_dns.specs.declared.entry.Entry.{Entry}
use Rattle.wire_dns.specs.declared.row.Row.{Row}
use Rattle.wire_dns.specs.declared.row.RowValue.{RowValue}
use Rattle.wire_dns.specs.Found.{of_name, alias_in, reached}
use Rattle.wire_dns.specs.Rows.{entry_at, value_of, row_of, in_front, rows_in, are_within, are_answers, behind_entry}

one-less : (n : ℕ) → n ≡ suc n - 1
one-less n = omega arith

module _ (msg : List ℕ) (place : ℕ) where
  pub within-none : (left : ℕ) → 0 < left → None ≡ entry_at msg place → are_within msg left place ≡ false
  unfolding are_within
  within-none zero h e = absurd (omega arith)
  within-none (suc left) h e = ap (λ o. unwrap_or (option_map (λ e. are_within msg left (behind_entry e)) o) false) (sym e)

  pub within-step : (left : ℕ) (entry : Entry) → 0 < left → Some entry ≡ entry_at msg place
      → are_within msg left place ≡ are_within msg (left - 1) (entry.from + entry.size)
  unfolding are_within
  within-step zero entry h e = absurd (omega arith)
  within-step (suc left) entry h e =
      ap (λ o. unwrap_or (option_map (λ e. are_within msg left (behind_entry e)) o) false) (sym e) ∙ ap (λ n. are_within msg n (entry.from + entry.size)) (one-less left)

  pub within-end : (left : ℕ) → left ≤ 0 → are_within msg left place ≡ true
  unfolding are_within
  within-end zero h = refl
  within-end (suc left) h = absurd (omega arith)

  pub answers-none : (others left : ℕ) → 0 < left → None ≡ entry_at msg place → are_answers msg others left place ≡ false
  unfolding are_answers
  answers-none others zero h e = absurd (omega arith)
  answers-none others (suc left) h e =
      ap (λ o. unwrap_or (option_map (λ e. is_some (value_of msg e) && are_answers msg others left (behind_entry e)) o) false) (sym e)

  answers-next : (others left : ℕ) (entry : Entry) → 0 < left → Some entry ≡ entry_at msg place
      → are_answers msg others left place ≡ (is_some (value_of msg entry) && are_answers msg others (left - 1) (entry.from + entry.size))
  unfolding are_answers
  answers-next others zero entry h e = absurd (omega arith)
  answers-next others (suc left) entry h e =
      ap (λ o. unwrap_or (option_map (λ e. is_some (value_of msg e) && are_answers msg others left (behind_entry e)) o) false) (sym e)
      ∙ ap (λ n. is_some (value_of msg entry) && are_answers msg others n (entry.from + entry.size)) (one-less left)

  pub answers-bad : (others left : ℕ) (entry : Entry) → 0 < left → Some entry ≡ entry_at msg place → value_of msg entry ≡ None
      → are_answers msg others left place ≡ false
  answers-bad others left entry h e none =
      answers-next others left entry h e ∙ ap (λ o. is_some o && are_answers msg others (left - 1) (entry.from + entry.size)) none

  pub answers-step : (others left : ℕ) (entry : Entry) (value : Option RowValue) → 0 < left → Some entry ≡ entry_at msg place → value_of msg entry ≡ Some value
      → are_answers msg others left place ≡ are_answers msg others (left - 1) (entry.from + entry.size)
  answers-step others left entry value h e some =
      answers-next others left entry h e ∙ ap (λ o. is_some o && are_answers msg others (left - 1) (entry.from + entry.size)) some

  pub answers-end : (others left : ℕ) → left ≤ 0 → are_answers msg others left place ≡ are_within msg others place
  unfolding are_answers
  answers-end others zero h = refl
  answers-end others (suc left) h = absurd (omega arith)

  pub rows-none : (left : ℕ) → None ≡ entry_at msg place → rows_in msg left place ≡ []
  unfolding rows_in
  rows-none zero e = refl
  rows-none (suc left) e = ap (λ o. unwrap_or (option_map (λ e. in_front (row_of msg e) (rows_in msg left (behind_entry e))) o) []) (sym e)

  pub rows-step : (left : ℕ) (entry : Entry) (row : Option Row) → 0 < left → Some entry ≡ entry_at msg place → row ≡ row_of msg entry
      → rows_in msg left place ≡ in_front row (rows_in msg (left - 1) (entry.from + entry.size))
  unfolding rows_in
  rows-step zero entry row h e r = absurd (omega arith)
  rows-step (suc left) entry row h e r =
      ap (λ o. unwrap_or (option_map (λ e. in_front (row_of msg e) (rows_in msg left (behind_entry e))) o) []) (sym e)
      ∙ ap (λ n. in_front (row_of msg entry) (rows_in msg n (entry.from + entry.size))) (one-less left)
      ∙ ap (λ r. in_front r (rows_in msg (suc left - 1) (entry.from + entry.size))) (sym r)

  pub rows-end : (left : ℕ) → left ≤ 0 → rows_in msg left place ≡ []
  unfolding rows_in
  rows-end zero h = refl
  rows-end (suc left) h = absurd (omega arith)

-- no row says of which name it is an alias
pub stays : (steps : ℕ) (rows : List Row) (name : List ℕ) → None ≡ of_name alias_in name rows → reached steps rows name ≡ name
unfolding reached
stays zero rows name e = refl
stays (suc steps) rows name e = ap (λ o. unwrap_or (option_map (λ next. reached steps rows next) o) name) (sym e)

-- one does
pub leads-on : (steps : ℕ) (rows : List Row) (name next : List ℕ) → 0 < steps → Some next ≡ of_name alias_in name rows
    → reached (steps - 1) rows next ≡ reached steps rows name
unfolding reached
leads-on zero rows name next h e = absurd (omega arith)
leads-on (suc steps) rows name next h e =
    ap (λ n. reached n rows next) (sym (one-less steps)) ∙ ap (λ o. unwrap_or (option_map (λ next. reached steps rows next) o) name) e

pub arrives : (steps : ℕ) (rows : List Row) (name : List ℕ) → steps ≤ 0 → reached steps rows name ≡ name
unfolding reached
arrives zero rows name h = refl
arrives (suc steps) rows name h = absurd (omega arith)

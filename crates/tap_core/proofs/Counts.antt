-- Counts of records that pass a test.
use Rattle.std.proofs.Common.{◌≡◌, ℕ, suc, ◌+◌, ◌-◌, Bool, true, false, not, List, [], ◌∷◌, ◌++◌, length, filter, slice_get, Some, cond, unwrap_or, refl, sym, ap, ◌∙◌, arith, if◌then◌else◌}
use Rattle.std.specs.Option.{option_map_or}
use Rattle.std.proofs.lemmas.List.{length-append}
use Rattle.std.proofs.lemmas.List.Elements.{filter-append}
use Rattle.std.specs.Bool.{Decides}
use Rattle.std.specs.BTreeMap.{BTreeMap, get}
use Rattle.std.specs.Cmp.Lexicographic.{slice_cmp}
use Rattle.std.specs.Ordering.{is_eq, nat_cmp}
use Rattle.std.specs.Str.{bytes_eq}
use Rattle.std.proofs.lemmas.Map.Text.{is_eq-slice_cmp}
use Rattle.std.proofs.lemmas.Slice.Eq.{bytes_eq-Decides}
use Rattle.efi_base.specs.declared.plain.Record.{Record}
use Rattle.efi_base.specs.declared.plain.Tick.{Tick}
use Rattle.tap_core.specs.declared.tally.Tally.{Tally}
use Rattle.tap_core.specs.declared.telling.Counts.{Counts}
use Rattle.tap_core.specs.Counting.{Counted, Tallies, sent_of}
use Rattle.tap_core.specs.Openings.{Opening}
use Rattle.tap_core.specs.Shown.{last_tick, sent_by, heard_by}

parts-step : (b : Bool) (x : Record) (ys zs : List Record) (n : ℕ) → length ys + length zs ≡ n
    → length (if b then x ∷ ys else ys) + length (if not b then x ∷ zs else zs) ≡ suc n
parts-step true x ys zs n h = omega (arith, h)
parts-step false x ys zs n h = omega (arith, h)

-- each of them passes or doesn't
pub count-parts : (p : Record → Bool) (records : List Record) → length (filter p records) + length (filter (λ r. not (p r)) records) ≡ length records
count-parts p [] = refl
count-parts p (r ∷ records) =
    parts-step (p r) r (filter p records) (filter (λ x. not (p x)) records) (length records) (count-parts p records)

one-more : (p : Record → Bool) (r : Record) (b : Bool) → p r ≡ b → length (filter p (r ∷ [])) ≡ (if b then 1 else 0)
one-more p r true e = rw e refl
one-more p r false e = rw e refl

-- the count with one record more
count-next : (p : Record → Bool) (records : List Record) (r : Record) (b : Bool) → p r ≡ b
    → length (filter p (records ++ r ∷ [])) ≡ length (filter p records) + (if b then 1 else 0)
count-next p records r b e =
    let both : length (filter p (records ++ r ∷ [])) ≡ length (filter p records ++ filter p (r ∷ [])) = ap length (filter-append p records (r ∷ [])) in
    omega (arith, both, length-append (filter p records) (filter p (r ∷ [])), one-more p r b e)

get-last : (records : List Record) (r : Record) → slice_get (records ++ r ∷ []) (length records) ≡ Some r
get-last [] r = refl
get-last (x ∷ records) r = get-last records r

pub tick-next : (records : List Record) (r : Record) → last_tick (records ++ r ∷ []) ≡ r.tick.0
tick-next records r =
    let place : length (records ++ r ∷ []) - 1 ≡ length records = omega (arith, length-append records (r ∷ [])) in
    ap (λ n. option_map_or (λ (x : Record). x.tick.0) (slice_get (records ++ r ∷ []) n) 0) place
    ∙ ap (λ s. option_map_or (λ (x : Record). x.tick.0) s 0) (get-last records r)

-- the counts of a station, by those of all
pub counted-tally : (records : List Record) (o : Opening) (station : List ℕ) (t : Tally) (c : Counts) → Tallies records t → o.station ≡ station
    → c.sent ≡ sent_of t.sent station → c.heard ≡ t.all - c.sent → c.tick ≡ t.tick → Counted (Some o) records c
counted-tally records o station t c tally e sent_is heard_is tick_is =
    let here : c.sent ≡ length (filter (sent_by o.station) records) = sent_is ∙ tally.sent_is station ∙ ap (λ s. length (filter (sent_by s) records)) (sym e) in
    let parts : length (filter (sent_by o.station) records) + length (filter (heard_by o.station) records) ≡ length records = count-parts (sent_by o.station) records in
    record {
      sent_is = here;
      heard_is = omega (arith, parts, here, heard_is, tally.all_is);
      tick_is = ap (λ (t : Tick). t.0) tick_is ∙ tally.tick_is;
    }

-- the counts of all with one record more
pub tallied-next : (records : List Record) (r : Record) (t t' : Tally) → Tallies records t → t'.all ≡ t.all + 1 → t'.tick ≡ r.tick
    → ((station : List ℕ) → sent_of t'.sent station ≡ sent_of t.sent station + (if sent_by station r then 1 else 0)) → Tallies (records ++ r ∷ []) t'
tallied-next records r t t' tally all tick sent = record {
  sent_is = λ station. omega (arith, sent station, tally.sent_is station, count-next (sent_by station) records r (sent_by station r) refl);
  all_is = omega (arith, all, tally.all_is, length-append records (r ∷ []));
  tick_is = ap (λ (t : Tick). t.0) tick ∙ sym (tick-next records r);
}

added-step : (m n : BTreeMap (List ℕ) ℕ) (station other : List ℕ) (count : ℕ) (same : Bool) → Decides same (station ≡ other) → count ≡ sent_of m station + 1
    → get (slice_cmp nat_cmp) n other ≡ cond same (Some count) (get (slice_cmp nat_cmp) m other)
    → sent_of n other ≡ sent_of m other + (if same then 1 else 0)
added-step m n station other count true d e is = ap (λ x. unwrap_or x 0) is ∙ e ∙ ap (λ s. sent_of m s + 1) (d.0 refl)
added-step m n station other count false d e is = omega (arith, ap (λ x. unwrap_or x 0) is)

-- the counts of senders with one record more of one
pub added-one : (m n : BTreeMap (List ℕ) ℕ) (station other : List ℕ) (count : ℕ) → count ≡ sent_of m station + 1
    → get (slice_cmp nat_cmp) n other ≡ cond (is_eq (slice_cmp nat_cmp station other)) (Some count) (get (slice_cmp nat_cmp) m other)
    → sent_of n other ≡ sent_of m other + (if bytes_eq station other then 1 else 0)
added-one m n station other count e is =
    added-step m n station other count (bytes_eq station other) (bytes_eq-Decides station other) e
    (is ∙ ap (λ b. cond b (Some count) (get (slice_cmp nat_cmp) m other)) (is_eq-slice_cmp station other))

-- one record more that the station sent
pub counted-sent : (records : List Record) (r : Record) (o : Opening) (c c' : Counts) → Counted (Some o) records c → sent_by o.station r ≡ true
    → c'.sent ≡ c.sent + 1 → c'.heard ≡ c.heard → c'.tick.0 ≡ r.tick.0 → Counted (Some o) (records ++ r ∷ []) c'
counted-sent records r o c c' counted h sent_is heard_is tick_is = record {
  sent_is = omega (arith, sent_is, counted.sent_is, count-next (sent_by o.station) records r true h);
  heard_is = omega (arith, heard_is, counted.heard_is, count-next (heard_by o.station) records r false (ap not h));
  tick_is = tick_is ∙ sym (tick-next records r);
}

-- one that it heard
pub counted-heard : (records : List Record) (r : Record) (o : Opening) (c c' : Counts) → Counted (Some o) records c → sent_by o.station r ≡ false
    → c'.sent ≡ c.sent → c'.heard ≡ c.heard + 1 → c'.tick.0 ≡ r.tick.0 → Counted (Some o) (records ++ r ∷ []) c'
counted-heard records r o c c' counted h sent_is heard_is tick_is = record {
  sent_is = omega (arith, sent_is, counted.sent_is, count-next (sent_by o.station) records r false h);
  heard_is = omega (arith, heard_is, counted.heard_is, count-next (heard_by o.station) records r true (ap not h));
  tick_is = tick_is ∙ sym (tick-next records r);
}

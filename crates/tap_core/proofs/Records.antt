-- What records ask for that are looked at one after the other, by the pools of octets that the code keeps.
use Rattle.std.proofs.Common.{◌≡◌, ℕ, suc, ◌<◌, List, [], ◌∷◌, ◌++◌, length, map, fold, Option, Some, None, All, refl, sym, ap, subst, ◌∙◌, arith}
use Rattle.std.proofs.lemmas.List.{append_assoc, length-append}
use Rattle.std.proofs.lemmas.List.Elements.{All-append, All-cons, All-nil}
use Rattle.efi_base.specs.declared.plain.Record.{Record}
use Rattle.ip_core.specs.Pools.{Pool}
use Rattle.ip_core.specs.Bytes.{Bytes, bytes_kept}
use Rattle.ip_core.specs.Datagrams.{event_datagram, event_datagrams, after_event}
use Rattle.ip_core.specs.Frames.{event_of}
use Rattle.ip_core.proofs.Standings.{datagrams-same}
use Rattle.tap_core.specs.Frames.{any_packet}
use Rattle.tap_core.specs.Hearing.{pools_sent}
use Rattle.tap_core.specs.Openings.{Opening, opening_at, openings_with, openings_of, IsFirstAt}

-- what is asked for at each of the records, with these pools before them
abbrev asked_from : List (Pool Bytes) → List Record → List (Option Opening)
asked_from pools [] = []
asked_from pools (r ∷ records) =
    opening_at r (event_datagram bytes_kept pools (event_of any_packet r)) ∷ asked_from (after_event bytes_kept pools (event_of any_packet r)) records

asked-with : (pools : List (Pool Bytes)) (records : List Record)
    → openings_with records (event_datagrams bytes_kept pools (map (event_of any_packet) records)) ≡ asked_from pools records
asked-with pools [] = refl
asked-with pools (r ∷ records) =
    ap (λ l. opening_at r (event_datagram bytes_kept pools (event_of any_packet r)) ∷ l) (asked-with (after_event bytes_kept pools (event_of any_packet r)) records)

-- that is what the definition says
asked-openings : (records : List Record) → openings_of records ≡ asked_from [] records
asked-openings records = ap (openings_with records) (sym (datagrams-same (map (event_of any_packet) records))) ∙ asked-with [] records

asked-append : (pools : List (Pool Bytes)) (before after : List Record)
    → asked_from pools (before ++ after) ≡ asked_from pools before ++ asked_from (fold (after_event bytes_kept) pools (map (event_of any_packet) before)) after
asked-append pools [] after = refl
asked-append pools (r ∷ before) after =
    ap (λ l. opening_at r (event_datagram bytes_kept pools (event_of any_packet r)) ∷ l) (asked-append (after_event bytes_kept pools (event_of any_packet r)) before after)

asked-length : (pools : List (Pool Bytes)) (records : List Record) → length (asked_from pools records) ≡ length records
asked-length pools [] = refl
asked-length pools (r ∷ records) = ap suc (asked-length (after_event bytes_kept pools (event_of any_packet r)) records)

-- what is asked for at a record
abbrev pub asked_here : List Record → Record → Option Opening
asked_here before r = opening_at r (event_datagram bytes_kept (pools_sent before) (event_of any_packet r))

pub openings-next : (records : List Record) (r : Record) → openings_of (records ++ r ∷ []) ≡ openings_of records ++ asked_here records r ∷ []
openings-next records r =
    asked-openings (records ++ r ∷ []) ∙ asked-append [] records (r ∷ []) ∙ ap (λ l. l ++ asked_here records r ∷ []) (sym (asked-openings records))

openings-length : (records : List Record) → length (openings_of records) ≡ length records
openings-length records = ap length (asked-openings records) ∙ asked-length [] records

pub nothing-asked : All (λ o. o ≡ None) (openings_of [])
nothing-asked = All-nil (λ (o : Option Opening). o ≡ None)

-- no record asked for a connection, and one more doesn't
pub asked-none : (records : List Record) (r : Record) → All (λ o. o ≡ None) (openings_of records) → asked_here records r ≡ None
    → All (λ o. o ≡ None) (openings_of (records ++ r ∷ []))
asked-none records r before none =
    subst (All (λ o. o ≡ None)) (sym (openings-next records r))
    (All-append (λ o. o ≡ None) (openings_of records) (asked_here records r ∷ []) before
    (All-cons (λ o. o ≡ None) (asked_here records r) [] none (All-nil (λ (o : Option Opening). o ≡ None))))

-- the first that does
pub asked-first : (records : List Record) (r : Record) (x : Opening) → All (λ o. o ≡ None) (openings_of records) → asked_here records r ≡ Some x
    → IsFirstAt (openings_of (records ++ r ∷ [])) (length records) x
asked-first records r x before here = record {
  before = openings_of records;
  after = [];
  parts = openings-next records r ∙ ap (λ o. openings_of records ++ o ∷ []) here;
  nothing = before;
  place = sym (openings-length records);
}

first-longer : (list more : List (Option Opening)) (n : ℕ) (x : Opening) → IsFirstAt list n x → IsFirstAt (list ++ more) n x
first-longer list more n x f = record {
  before = f.before;
  after = f.after ++ more;
  parts = ap (λ l. l ++ more) f.parts ∙ append_assoc f.before (Some x ∷ f.after) more;
  nothing = f.nothing;
  place = f.place;
}

-- one record more leaves it the first
pub first-next : (records : List Record) (r : Record) (n : ℕ) (x : Opening) → IsFirstAt (openings_of records) n x → IsFirstAt (openings_of (records ++ r ∷ [])) n x
first-next records r n x f =
    subst (λ l. IsFirstAt l n x) (sym (openings-next records r)) (first-longer (openings_of records) (asked_here records r ∷ []) n x f)

pub first-within : (records : List Record) (n : ℕ) (x : Opening) → IsFirstAt (openings_of records) n x → n < length records
first-within records n x f =
    omega (arith, openings-length records, ap length f.parts, length-append f.before (Some x ∷ f.after), f.place)

-- What is kept of a stream stands for it after each piece.
use Rattle.std.proofs.Common.{◌≡◌, ℕ, suc, ◌+◌, ◌-◌, ◌<◌, ◌≤◌, min, List, [], ◌∷◌, ◌++◌, length, take, drop, refl, sym, ap, ◌∙◌, subst, arith, length-append, length-take, length-drop, take-append-drop, inl, inr, Option, None, Some, zero-add, Bool, true, false, ◌==◌, cond}
use Rattle.std.specs.Prelude.{◌&&◌, is_none}
use Rattle.std.proofs.lemmas.Bool.{cases_lt}
use Rattle.std.proofs.lemmas.Bool.Decides.{nat_tests}
use Rattle.std.proofs.lemmas.List.{take_all, take_rest, drop_all}
use Rattle.std.specs.List.{flat_map}
use Rattle.httparse.specs.Grammar.{ResponseHead, print_response, status_code}
use Rattle.efi_base.specs.declared.response.CodingField.{CodingField}
use Rattle.wire_http.specs.declared.head.Framing.{Framing}
use Rattle.wire_http.specs.declared.head.Framing.TheVariants as framing
use Rattle.wire_http.specs.declared.head.HeadInfo.{HeadInfo}
use Rattle.wire_http.specs.declared.stage.Stage.{Stage as BodyStage}
use Rattle.wire_http.specs.Body.{HoldsBody, HoldsSoFar}
use Rattle.wire_http.specs.Fields.{coding_of, framing_of}
use Rattle.wire_http.specs.Heads.{fields_of, HasHeads}
use Rattle.wire_http.specs.Info.{IsInfo}
use Rattle.wire_http.specs.Response.{IsWhole, HasNoHeads, HasBadHead, HasBadHeads}
use Rattle.wire_http.specs.Stages.{walk, start}
use Rattle.wire_http.proofs.RunLaws.{walk_done, walk_until_end, walk_left}
use Rattle.wire_http.proofs.ChunkedWalks.{chunked_walk}
use Rattle.wire_http.proofs.PieceLaws.{so_far_is, so_far_unique}
use Rattle.wire_http.proofs.ResponseLaws.{heads_unique, heads_not_bad}
use Rattle.load_core.specs.declared.load.Stage.{Stage}
use Rattle.load_core.specs.declared.load.Stage.TheVariants.{Heads, BadHead, Behind}
use Rattle.load_core.specs.declared.reading.Reading.{Reading}
use Rattle.load_core.specs.Final.{IsFinal}
use Rattle.load_core.specs.Cases.{HasLoadSoFar, HasNoLoad}
use Rattle.load_core.specs.Taken.{room_of, Reads, ReadsOn, AtHeads, IsBehind, StandsAt}
use Rattle.load_core.proofs.HeadRuns.{heads-append, bad_heads-append}

-- ---- a piece in front of which the final head isn't whole

drop_behind : (xs ys : List ℕ) (n k : ℕ) → n ≡ length xs + k → drop n (xs ++ ys) ≡ drop k ys
drop_behind [] ys n k e = ap (λ (m : ℕ). drop m ys) (e ∙ zero-add k)
drop_behind (x ∷ xs) ys n k e =
    let on : n ≡ suc (length xs + k) = omega arith in
    ap (λ (m : ℕ). drop m (x ∷ xs ++ ys)) on ∙ drop_behind xs ys (length xs + k) k refl

-- what was kept is within the limit
pub kept_now : (kept placed stream : List ℕ) → AtHeads kept placed stream → kept ≡ take 16384 stream
kept_now kept placed stream h =
    let short = h.short in
    h.kept_is ∙ sym (take_all 16384 stream (omega arith))

pub kept_short : (kept stream piece : List ℕ) → kept ≡ take 16384 (stream ++ piece) → length kept ≤ 16384
kept_short kept stream piece k =
    let long = ap length k ∙ length-take 16384 (stream ++ piece) in
    omega (arith, long)

-- as many octets of the piece were kept as the limit leaves
abbrev pub IsTaken : List ℕ → List ℕ → List ℕ → ℕ → Type 0
IsTaken stream piece kept taken = taken ≡ min (length kept - length stream) (length piece)

pub kept_all : (stream piece kept : List ℕ) (taken : ℕ) → length stream < 16384 → kept ≡ take 16384 (stream ++ piece)
    → IsTaken stream piece kept taken → stream ++ piece ≡ kept ++ drop taken piece
kept_all stream piece kept taken short k t =
    sym (take-append-drop 16384 (stream ++ piece))
    ∙ ap (λ (u : List ℕ). u ++ drop 16384 (stream ++ piece)) (sym k)
    ∙ ap (λ (u : List ℕ). kept ++ u) (drop_behind stream piece 16384 (16384 - length stream) (omega arith) ∙ same)
  where
    long : length kept ≡ min 16384 (length stream + length piece)
    long = ap length k ∙ length-take 16384 (stream ++ piece) ∙ ap (min 16384) (length-append stream piece)

    same : drop (16384 - length stream) piece ≡ drop taken piece
    same = elim (cases_lt (16384 - length stream) (length piece)) [
      | inl cut ↦
          let e : 16384 - length stream ≡ taken = omega (arith, long, t) in
          ap (λ (n : ℕ). drop n piece) e
      | inr all ↦
          drop_all (16384 - length stream) piece (omega (arith, all)) ∙ sym (drop_all taken piece (omega (arith, all, long, t)))
    ]

pub kept_bound : (stream piece kept : List ℕ) (taken len most : ℕ) → stream ++ piece ≡ kept ++ drop taken piece
    → length stream + length piece ≤ most
    → length (take (length kept - len) (drop len kept)) + length (take (length piece - taken) (drop taken piece)) ≤ most
kept_bound stream piece kept taken len most e bound =
    let all = ap length e in
    omega (
      arith,
      all,
      length-append stream piece,
      length-append kept (drop taken piece),
      ap length (take_rest kept len),
      ap length (take_rest piece taken),
      length-drop len kept,
    )

pub heads-final : (stream piece kept placed : List ℕ) (taken len most : ℕ) (r : Reading) (info : HeadInfo)
    → stream ++ piece ≡ kept ++ drop taken piece → IsFinal kept info len → r.info ≡ info
    → ReadsOn r (room_of info most) placed (take (length kept - len) (drop len kept) ++ take (length piece - taken) (drop taken piece)) []
    → IsBehind r placed most (stream ++ piece)
heads-final stream piece kept placed taken len most r info all f same on =
    let rest : take (length kept - len) (drop len kept) ++ take (length piece - taken) (drop taken piece) ≡ drop len kept ++ drop taken piece =
    ap (λ (t : List ℕ). t ++ take (length piece - taken) (drop taken piece)) (take_rest kept len)
    ∙ ap (λ (t : List ℕ). drop len kept ++ t) (take_rest piece taken) in
    record {
      interim = f.interim;
      final = f.final;
      rest = drop len kept ++ drop taken piece;
      heads = subst (λ (t : List ℕ). HasHeads t f.interim f.final (drop len kept ++ drop taken piece)) (sym all)
          (heads-append kept (drop taken piece) f.interim f.final (drop len kept) f.heads);
      says = subst (λ (i : HeadInfo). IsInfo i (status_code f.final) (fields_of f.final)) (sym same) f.says;
      octets = on.0;
      reads = subst (λ (t : List ℕ). Reads r t on.0) rest on.1;
      placed_is = on.2 ∙ ap (λ (i : HeadInfo). take (room_of i most) on.0) (sym same);
    }

pub heads-more : (stream piece kept placed : List ℕ) → kept ≡ take 16384 (stream ++ piece) → length kept < 16384
    → HasNoHeads kept → ¬ (HasBadHead kept) → placed ≡ [] → AtHeads kept placed (stream ++ piece)
heads-more stream piece kept placed k short none may p =
    let long = ap length k ∙ length-take 16384 (stream ++ piece) in
    let same : kept ≡ stream ++ piece = k ∙ take_all 16384 (stream ++ piece) (omega (arith, long, short)) in
    record {
      kept_is = same;
      short = subst (λ (t : List ℕ). length t < 16384) same short;
      none = subst HasNoHeads same none;
      may = subst (λ (t : List ℕ). ¬ (HasBadHead t)) same may;
      placed_is = p;
    }

pub heads-bad : (stream piece kept : List ℕ) (taken : ℕ) → stream ++ piece ≡ kept ++ drop taken piece → HasBadHeads kept
    → HasBadHeads (stream ++ piece)
heads-bad stream piece kept taken all bad = subst HasBadHeads (sym all) (bad_heads-append kept (drop taken piece) bad)

-- ---- a piece behind the final head

pub behind-on : (r now : Reading) (placed after : List ℕ) (most : ℕ) (stream piece : List ℕ) (h : IsBehind r placed most stream)
    → now.info ≡ r.info → ReadsOn now (room_of r.info most) after (h.rest ++ piece) h.octets → IsBehind now after most (stream ++ piece)
behind-on r now placed after most stream piece h same on = record {
  interim = h.interim;
  final = h.final;
  rest = h.rest ++ piece;
  heads = heads-append stream piece h.interim h.final h.rest h.heads;
  says = subst (λ (i : HeadInfo). IsInfo i (status_code h.final) (fields_of h.final)) (sym same) h.says;
  octets = h.octets ++ on.0;
  reads = on.1;
  placed_is = on.2 ∙ ap (λ (i : HeadInfo). take (room_of i most) (h.octets ++ on.0)) (sym same);
}

-- ---- the octets that were placed

-- a whole body is what came
pub whole_is : (f : Framing) (fin : Bool) (rest body : List ℕ) → HoldsBody f fin rest body → body ≡ (walk (start f) rest).0
whole_is framing.Empty fin rest body h = h ∙ sym (ap (λ (w : List ℕ × BodyStage). w.0) (walk_done rest))
whole_is (framing.Length n) fin rest body h = h.1 ∙ sym (ap (λ (w : List ℕ × BodyStage). w.0) (walk_left n rest))
whole_is framing.Chunked fin rest body h = sym (ap (λ (w : List ℕ × BodyStage). w.0) (chunked_walk rest body h))
whole_is framing.Close fin rest body h = h.1 ∙ sym (ap (λ (w : List ℕ × BodyStage). w.0) (walk_until_end rest))
whole_is framing.BadLength fin rest body h = absurd h

pub room_is : (info : HeadInfo) (most : ℕ) → info.status ≡ 200 → info.coding ≡ None → room_of info most ≡ most
room_is info most status coding = rw (status, coding) refl

pub same_framing : (r : Reading) (final : ResponseHead) → IsInfo r.info (status_code final) (fields_of final) → status_code final ≡ 200
    → r.info.framing ≡ framing_of 200 (fields_of final)
same_framing r final says status = says.framing_is ∙ ap (λ (n : ℕ). framing_of n (fields_of final)) status

pub placed-so_far : (stage : Stage) (kept placed : List ℕ) (most : ℕ) (stream octets : List ℕ) → StandsAt stage kept placed most stream
    → HasLoadSoFar stream octets → placed ≡ take most octets
placed-so_far Heads kept placed most stream octets s l = absurd (s.none l.0 l.1 l.2 l.3)
placed-so_far BadHead kept placed most stream octets s l = absurd (heads_not_bad stream l.0 l.1 l.2 l.3 s.0)
placed-so_far (Behind r) kept placed most stream octets s l =
    let same = heads_unique stream s.interim l.0 s.final l.1 s.rest l.2 s.heads l.3 in
    let status : status_code s.final ≡ 200 = ap status_code same.0 ∙ l.4.0 in
    let coding : coding_of (fields_of s.final) ≡ None = ap (λ (h : ResponseHead). coding_of (fields_of h)) same.0 ∙ l.4.1 in
    let f : framing_of 200 (fields_of l.1) ≡ r.info.framing =
    ap (λ (h : ResponseHead). framing_of 200 (fields_of h)) (sym same.0) ∙ sym (same_framing r s.final s.says status) in
    let here = subst (λ (t : List ℕ). HoldsSoFar r.info.framing t octets) (sym same.1)
    (subst (λ (g : Framing). HoldsSoFar g l.2 octets) f l.4.2) in
    let octets_are : s.octets ≡ octets =
    so_far_unique r.info.framing s.rest s.octets s.reads.so_far ∙ sym (so_far_unique r.info.framing s.rest octets here) in
    s.placed_is ∙ ap (λ (n : ℕ). take n s.octets) (room_is r.info most (s.says.status_is ∙ status) (s.says.coding_is ∙ coding))
    ∙ ap (take most) octets_are

pub placed-whole : (stage : Stage) (kept placed : List ℕ) (most : ℕ) (stream : List ℕ) (fin : Bool) (body : List ℕ)
    → StandsAt stage kept placed most stream → IsWhole stream fin 200 body → length body ≤ most → placed ≡ body
placed-whole stage kept placed most stream fin body s w fits =
    let f = framing_of 200 (fields_of w.final) in
    let so_far = subst (HoldsSoFar f w.rest) (sym (whole_is f fin w.rest body w.holds)) (so_far_is f w.rest) in
    placed-so_far stage kept placed most stream body s (w.interim, w.final, w.rest, w.heads, (sym w.status_is, w.uncoded, so_far))
    ∙ take_all most body fits

ok_is : (status : ℕ) → (status == 200) ≡ true → status ≡ 200
ok_is status h = grind (arith, nat_tests)

-- there is no room for what isn't a load's
room_none : (status : ℕ) (coding : Option CodingField) (most : ℕ) → (status ≡ 200 → coding ≡ None → ⊥)
    → cond (status == 200 && is_none coding) most 0 ≡ 0
room_none status None most other = by_test (status == 200) refl
  where
    by_test : (b : Bool) → (status == 200) ≡ b → cond (b && true) most 0 ≡ 0
    by_test true e = absurd (other (ok_is status e) refl)
    by_test false e = refl
room_none status (Some field) most other = by_test (status == 200)
  where
    by_test : (b : Bool) → cond (b && false) most 0 ≡ 0
    by_test true = refl
    by_test false = refl

behind-load : (r : Reading) (placed : List ℕ) (most : ℕ) (stream : List ℕ) (h : IsBehind r placed most stream)
    → r.info.status ≡ 200 → r.info.coding ≡ None → HasLoadSoFar stream h.octets
behind-load r placed most stream h status coding =
    let ok : status_code h.final ≡ 200 = sym h.says.status_is ∙ status in
    let so_far = subst (λ (f : Framing). HoldsSoFar f h.rest h.octets) (same_framing r h.final h.says ok) h.reads.so_far in
    (h.interim, h.final, h.rest, h.heads, (ok, sym h.says.coding_is ∙ coding, so_far))

pub placed-none : (stage : Stage) (kept placed : List ℕ) (most : ℕ) (stream : List ℕ) → StandsAt stage kept placed most stream
    → HasNoLoad stream → placed ≡ []
placed-none Heads kept placed most stream s none = s.placed_is
placed-none BadHead kept placed most stream s none = s.1
placed-none (Behind r) kept placed most stream s none =
    let empty : room_of r.info most ≡ 0 =
    room_none r.info.status r.info.coding most (λ status coding. none s.octets (behind-load r placed most stream s status coding)) in
    s.placed_is ∙ ap (λ (n : ℕ). take n s.octets) empty

-- ---- by the stage

pub feed-heads : (stage : Stage) (kept placed : List ℕ) (most : ℕ) (stream : List ℕ) → stage ≡ Heads
    → StandsAt stage kept placed most stream → AtHeads kept placed stream
feed-heads stage kept placed most stream e s = subst (λ (t : Stage). StandsAt t kept placed most stream) e s

pub feed-bad : (stage : Stage) (kept placed : List ℕ) (most : ℕ) (stream piece : List ℕ) → stage ≡ BadHead
    → StandsAt stage kept placed most stream → HasBadHeads (stream ++ piece) × (placed ≡ [])
feed-bad stage kept placed most stream piece e s =
    let bad = subst (λ (t : Stage). StandsAt t kept placed most stream) e s in (bad_heads-append stream piece bad.0, bad.1)

pub feed-behind : (stage : Stage) (r : Reading) (kept placed : List ℕ) (most : ℕ) (stream : List ℕ) → stage ≡ Behind r
    → StandsAt stage kept placed most stream → IsBehind r placed most stream
feed-behind stage r kept placed most stream e s = subst (λ (t : Stage). StandsAt t kept placed most stream) e s

-- what stands in front is no more than all
pub behind-bound : (r : Reading) (placed : List ℕ) (most : ℕ) (stream piece : List ℕ) (limit : ℕ) (h : IsBehind r placed most stream)
    → length stream + length piece ≤ limit → length h.rest + length piece ≤ limit
behind-bound r placed most stream piece limit h bound =
    let long = ap length h.heads.text in
    omega (
      arith,
      long,
      length-append (flat_map print_response h.interim) (print_response h.final ++ h.rest),
      length-append (print_response h.final) h.rest,
    )

pub feed-bad-head : (stage : Stage) (kept placed : List ℕ) (most : ℕ) (stream : List ℕ) → stage ≡ BadHead
    → StandsAt stage kept placed most stream → HasBadHeads stream
feed-bad-head stage kept placed most stream e s = (subst (λ (t : Stage). StandsAt t kept placed most stream) e s).0

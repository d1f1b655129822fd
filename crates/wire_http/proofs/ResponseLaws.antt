-- A response is one, and stays the same when the stream grows.
use Rattle.std.proofs.Common.{◌≡◌, ℕ, Bool, true, false, not, List, [], ◌∷◌, ◌++◌, length, refl, sym, ap, ◌∙◌, subst, arith, append_assoc, append-nil, length-append, inl, inr, IsTrue}
use Rattle.std.specs.List.{flat_map, AllByRecursion}
use Rattle.std.proofs.lemmas.List.{take-append-le}
use Rattle.httparse.specs.Grammar.{ResponseHead, print_response, status_code}
use Rattle.httparse.proofs.GrammarLemmas.{response_unique}
use Rattle.wire_http.specs.declared.head.Framing.{Framing}
use Rattle.wire_http.specs.declared.head.Framing.TheVariants as framing
use Rattle.efi_base.specs.declared.response.Part.{Part}
use Rattle.efi_base.specs.declared.response.Part.TheVariants as part
use Rattle.wire_http.specs.declared.stage.Stage.{Stage}
use Rattle.wire_http.specs.declared.bodies.BodyState.TheVariants as state
use Rattle.wire_http.specs.Body.{HoldsBody, HoldsSoFar, IsBadBody}
use Rattle.wire_http.specs.Fields.{framing_of}
use Rattle.wire_http.specs.Heads.{fields_of, IsHead, is_interim, HasHeads}
use Rattle.wire_http.specs.Info.{NeverHasHead}
use Rattle.wire_http.specs.Response.{IsWhole, IsBodySoFar, IsBad, HasBadBody, HasBadHeads}
use Rattle.wire_http.proofs.ChunkedWalks.{chunked_walk}
use Rattle.wire_http.proofs.ChunkedSeen.{chunks_more, trailer_more}
use Rattle.wire_http.proofs.BodyLaws.{chunked_state}
use Rattle.wire_http.proofs.PieceLaws.{so_far_is, so_far_unique}

-- ---- it stays

heads_stay : (stream more : List ℕ) (interim : List ResponseHead) (final : ResponseHead) (rest : List ℕ)
    → HasHeads stream interim final rest → HasHeads (stream ++ more) interim final (rest ++ more)
heads_stay stream more interim final rest h = record {
  valid = h.valid;
  are_interim = h.are_interim;
  final_valid = h.final_valid;
  is_final = h.is_final;
  short = h.short;
  text = ap (λ (t : List ℕ). t ++ more) h.text ∙ regroup (flat_map print_response interim) (print_response final) rest more;
}
  where
    regroup : (a b c d : List ℕ) → (a ++ (b ++ c)) ++ d ≡ a ++ (b ++ (c ++ d))
    regroup a b c d = simp append_assoc

body_stays : (f : Framing) (fin later : Bool) (rest more body : List ℕ) → (fin ≡ true → (more ≡ []) × (later ≡ true))
    → HoldsBody f fin rest body → HoldsBody f later (rest ++ more) body
body_stays framing.Empty fin later rest more body end h = h
body_stays (framing.Length n) fin later rest more body end h =
    (omega (arith, h.0, length-append rest more), h.1 ∙ sym (take-append-le n rest more h.0))
body_stays framing.Chunked fin later rest more body end h =
    (h.0 ++ more, chunks_more rest body h.0 more h.1, trailer_more h.0 more h.2)
body_stays framing.Close fin later rest more body end h =
    let at_end = end h.0 in
    (at_end.1, h.1 ∙ sym (append-nil rest) ∙ ap (λ (t : List ℕ). rest ++ t) (sym at_end.0))
body_stays framing.BadLength fin later rest more body end h = h

pub stays : (stream more body : List ℕ) (fin later : Bool) (status : ℕ) → IsWhole stream fin status body
    → (fin ≡ true → (more ≡ []) × (later ≡ true)) → IsWhole (stream ++ more) later status body
stays stream more body fin later status h end = record {
  interim = h.interim;
  final = h.final;
  rest = h.rest ++ more;
  heads = heads_stay stream more h.interim h.final h.rest h.heads;
  status_is = h.status_is;
  uncoded = h.uncoded;
  holds = body_stays (framing_of status (fields_of h.final)) fin later h.rest more body end h.holds;
}

-- nothing stands behind what is all
none_behind : (xs ys : List ℕ) → xs ≡ xs ++ ys → ys ≡ []
none_behind xs [] e = refl
none_behind xs (y ∷ ys) e =
    let long = ap length e in
    absurd (omega (arith, long, length-append xs (y ∷ ys)))

pub front_whole : (front more stream body : List ℕ) (fin : Bool) (status : ℕ) → stream ≡ front ++ more → (fin ≡ true → front ≡ stream)
    → IsWhole front fin status body → IsWhole stream true status body
front_whole front more stream body fin status e end h =
    subst (λ (t : List ℕ). IsWhole t true status body) (sym e)
    (stays front more body fin true status h (λ at_end. (none_behind front more (end at_end ∙ e), refl)))

-- ---- it is one

not_both : (f : ResponseHead) → IsTrue (is_interim f) → IsTrue (not (is_interim f)) → ⊥
not_both f is_one isnt = by (is_interim f) is_one isnt
  where
    by : (t : Bool) → IsTrue t → IsTrue (not t) → ⊥
    by true a b = cc
    by false a b = cc

heads_one : (i j : List ResponseHead) (f g : ResponseHead) (r q : List ℕ) → AllByRecursion IsHead i → AllByRecursion IsHead j
    → AllByRecursion (λ head. IsTrue (is_interim head)) i → AllByRecursion (λ head. IsTrue (is_interim head)) j
    → IsHead f → IsHead g → IsTrue (not (is_interim f)) → IsTrue (not (is_interim g))
    → flat_map print_response i ++ (print_response f ++ r) ≡ flat_map print_response j ++ (print_response g ++ q) → (f ≡ g) × (r ≡ q)
heads_one [] [] f g r q vi vj ii ij vf vg ff fg e =
    response_unique (print_response f ++ r) f g r q (vf.valid, refl) (vg.valid, e)
heads_one [] (k ∷ j) f g r q vi vj ii ij vf vg ff fg e =
    let rest = flat_map print_response j ++ (print_response g ++ q) in
    let same = response_unique (print_response f ++ r) f k r rest (vf.valid, refl)
    (vj.0.valid, e ∙ append_assoc (print_response k) (flat_map print_response j) (print_response g ++ q)) in
    absurd (not_both f (subst (λ (h : ResponseHead). IsTrue (is_interim h)) (sym same.0) ij.0) ff)
heads_one (h ∷ i) [] f g r q vi vj ii ij vf vg ff fg e =
    let rest = flat_map print_response i ++ (print_response f ++ r) in
    let same = response_unique (print_response g ++ q) g h q rest (vg.valid, refl)
    (vi.0.valid, sym e ∙ append_assoc (print_response h) (flat_map print_response i) (print_response f ++ r)) in
    absurd (not_both g (subst (λ (h : ResponseHead). IsTrue (is_interim h)) (sym same.0) ii.0) fg)
heads_one (h ∷ i) (k ∷ j) f g r q vi vj ii ij vf vg ff fg e =
    let a = flat_map print_response i ++ (print_response f ++ r) in
    let b = flat_map print_response j ++ (print_response g ++ q) in
    let same = response_unique (print_response h ++ a) h k a b (vi.0.valid, refl) (
      vj.0.valid,
      sym (append_assoc (print_response h) (flat_map print_response i) (print_response f ++ r)) ∙ e
          ∙ append_assoc (print_response k) (flat_map print_response j) (print_response g ++ q),
    ) in
    heads_one i j f g r q vi.1 vj.1 ii.1 ij.1 vf vg ff fg same.1

pub heads_unique : (stream : List ℕ) (i j : List ResponseHead) (f g : ResponseHead) (r q : List ℕ) → HasHeads stream i f r
    → HasHeads stream j g q → (f ≡ g) × (r ≡ q)
heads_unique stream i j f g r q a b =
    heads_one i j f g r q a.valid b.valid a.are_interim b.are_interim a.final_valid b.final_valid a.is_final b.is_final (sym a.text ∙ b.text)

body_one : (f : Framing) (fin : Bool) (rest a b : List ℕ) → HoldsBody f fin rest a → HoldsBody f fin rest b → a ≡ b
body_one framing.Empty fin rest a b x y = x ∙ sym y
body_one (framing.Length n) fin rest a b x y = x.1 ∙ sym y.1
body_one framing.Chunked fin rest a b x y =
    ap (λ (w : List ℕ × Stage). w.0) (sym (chunked_walk rest a x) ∙ chunked_walk rest b y)
body_one framing.Close fin rest a b x y = x.1 ∙ sym y.1
body_one framing.BadLength fin rest a b x y = absurd x

pub one_whole : (stream a b : List ℕ) (fin : Bool) (s t : ℕ) → IsWhole stream fin s a → IsWhole stream fin t b → (s ≡ t) × (a ≡ b)
one_whole stream a b fin s t x y =
    let same = heads_unique stream x.interim y.interim x.final y.final x.rest y.rest x.heads y.heads in
    let status : s ≡ t = x.status_is ∙ ap status_code same.0 ∙ sym y.status_is in
    let framing_same : framing_of t (fields_of y.final) ≡ framing_of s (fields_of x.final) =
    ap (λ (n : ℕ). framing_of n (fields_of y.final)) (sym status) ∙ ap (λ (h : ResponseHead). framing_of s (fields_of h)) (sym same.0) in
    let other : HoldsBody (framing_of s (fields_of x.final)) fin x.rest b =
    subst (λ (r : List ℕ). HoldsBody (framing_of s (fields_of x.final)) fin r b) (sym same.1)
    (subst (λ (f : Framing). HoldsBody f fin y.rest b) framing_same y.holds) in
    (status, body_one (framing_of s (fields_of x.final)) fin x.rest a b x.holds other)

pub one_so_far : (stream a b : List ℕ) → IsBodySoFar stream a → IsBodySoFar stream b → a ≡ b
one_so_far stream a b (inl x) (inl y) = x.1 ∙ sym y.1
one_so_far stream a b (inl x) (inr y) = absurd (x.0 y.interim y.final y.rest y.heads)
one_so_far stream a b (inr x) (inl y) = absurd (y.0 x.interim x.final x.rest x.heads)
one_so_far stream a b (inr x) (inr y) =
    let same = heads_unique stream x.interim y.interim x.final y.final x.rest y.rest x.heads y.heads in
    let framing_same : framing_of (status_code y.final) (fields_of y.final) ≡ framing_of (status_code x.final) (fields_of x.final) =
    ap (λ (h : ResponseHead). framing_of (status_code h) (fields_of h)) (sym same.0) in
    let f = framing_of (status_code x.final) (fields_of x.final) in
    let other : HoldsSoFar f x.rest b =
    subst (λ (r : List ℕ). HoldsSoFar f r b) (sym same.1) (subst (λ (f : Framing). HoldsSoFar f y.rest b) framing_same y.holds) in
    so_far_unique f x.rest a x.holds ∙ sym (so_far_unique f x.rest b other)

-- ---- a whole body is what is there of it

body_so_far : (f : Framing) (fin : Bool) (rest body : List ℕ) → HoldsBody f fin rest body → HoldsSoFar f rest body
body_so_far framing.Empty fin rest body h = h
body_so_far (framing.Length n) fin rest body h = h.1
body_so_far framing.Chunked fin rest body h =
    subst (HoldsSoFar framing.Chunked rest) (ap (λ (w : List ℕ × Stage). w.0) (chunked_walk rest body h)) (so_far_is framing.Chunked rest)
body_so_far framing.Close fin rest body h = h.1
body_so_far framing.BadLength fin rest body h = absurd h

pub whole_so_far : (stream body : List ℕ) (fin : Bool) (status : ℕ) → IsWhole stream fin status body → IsBodySoFar stream body
whole_so_far stream body fin status h =
    let same : framing_of status (fields_of h.final) ≡ framing_of (status_code h.final) (fields_of h.final) =
    ap (λ (n : ℕ). framing_of n (fields_of h.final)) h.status_is in
    let holds = body_so_far (framing_of status (fields_of h.final)) fin h.rest body h.holds in
    inr (record {
      interim = h.interim;
      final = h.final;
      rest = h.rest;
      heads = h.heads;
      holds = subst (λ (f : Framing). HoldsSoFar f h.rest body) same holds;
    })

-- ---- what is whole isn't bad

body_not_bad : (f : Framing) (fin : Bool) (rest body : List ℕ) (p : Part) → HoldsBody f fin rest body → IsBadBody f rest p → ⊥
body_not_bad framing.Empty fin rest body p h bad = bad
body_not_bad (framing.Length n) fin rest body p h bad = bad
body_not_bad framing.Chunked fin rest body p h bad =
    let s = chunked_state fin rest in
    let both : state.Whole ≡ state.Bad p = sym (s.is_whole body h) ∙ s.is_bad p bad in
    cc
body_not_bad framing.Close fin rest body p h bad = bad
body_not_bad framing.BadLength fin rest body p h bad = h

-- interim heads in front, and no head behind them
no_bad_head : (i j : List ResponseHead) (f : ResponseHead) (r q : List ℕ) → AllByRecursion IsHead i → AllByRecursion IsHead j
    → AllByRecursion (λ head. IsTrue (is_interim head)) j → IsHead f → IsTrue (not (is_interim f)) → NeverHasHead q
    → flat_map print_response i ++ (print_response f ++ r) ≡ flat_map print_response j ++ q → ⊥
no_bad_head [] [] f r q vi vj ij vf ff never e =
    never [] f r (record { is_head = vf; text = append-nil q ∙ sym e })
no_bad_head [] (k ∷ j) f r q vi vj ij vf ff never e =
    let rest = flat_map print_response j ++ q in
    let same = response_unique (print_response f ++ r) f k r rest (vf.valid, refl)
    (vj.0.valid, e ∙ append_assoc (print_response k) (flat_map print_response j) q) in
    not_both f (subst (λ (h : ResponseHead). IsTrue (is_interim h)) (sym same.0) ij.0) ff
no_bad_head (h ∷ i) [] f r q vi vj ij vf ff never e =
    let rest = flat_map print_response i ++ (print_response f ++ r) in
    never [] h rest (record {
      is_head = vi.0;
      text = append-nil q ∙ sym e ∙ append_assoc (print_response h) (flat_map print_response i) (print_response f ++ r);
    })
no_bad_head (h ∷ i) (k ∷ j) f r q vi vj ij vf ff never e =
    let a = flat_map print_response i ++ (print_response f ++ r) in
    let b = flat_map print_response j ++ q in
    let same = response_unique (print_response h ++ a) h k a b (vi.0.valid, refl) (
      vj.0.valid,
      sym (append_assoc (print_response h) (flat_map print_response i) (print_response f ++ r)) ∙ e
          ∙ append_assoc (print_response k) (flat_map print_response j) q,
    ) in
    no_bad_head i j f r q vi.1 vj.1 ij.1 vf ff never same.1

bad_body : (stream body : List ℕ) (fin : Bool) (status : ℕ) (p : Part) → IsWhole stream fin status body → HasBadBody stream p → ⊥
bad_body stream body fin status p x y =
    let same = heads_unique stream x.interim y.interim x.final y.final x.rest y.rest x.heads y.heads in
    let framing_same : framing_of (status_code y.final) (fields_of y.final) ≡ framing_of status (fields_of x.final) =
    ap (λ (h : ResponseHead). framing_of (status_code h) (fields_of h)) (sym same.0)
    ∙ ap (λ (n : ℕ). framing_of n (fields_of x.final)) (sym x.status_is) in
    let f = framing_of status (fields_of x.final) in
    let bad : IsBadBody f x.rest p =
    subst (λ (r : List ℕ). IsBadBody f r p) (sym same.1) (subst (λ (f : Framing). IsBadBody f y.rest p) framing_same y.is_bad) in
    body_not_bad f fin x.rest body p x.holds bad

-- a stream with a final head has no bad heads
pub heads_not_bad : (stream : List ℕ) (i : List ResponseHead) (f : ResponseHead) (r : List ℕ) → HasHeads stream i f r
    → ¬ (HasBadHeads stream)
heads_not_bad stream i f r x (inl bad) =
    no_bad_head i bad.interim f r bad.rest x.valid bad.valid bad.are_interim x.final_valid x.is_final bad.never (sym x.text ∙ bad.text)
heads_not_bad stream i f r x (inr bad) = bad.1 i f r x

pub whole_not_bad : (stream body : List ℕ) (fin : Bool) (status : ℕ) (p : Part) → IsWhole stream fin status body → IsBad stream p → ⊥
whole_not_bad stream body fin status part.Head x y = heads_not_bad stream x.interim x.final x.rest x.heads y
whole_not_bad stream body fin status part.Length x y = bad_body stream body fin status part.Length x y
whole_not_bad stream body fin status part.Chunk x y = bad_body stream body fin status part.Chunk x y
whole_not_bad stream body fin status part.Trailer x y = bad_body stream body fin status part.Trailer x y

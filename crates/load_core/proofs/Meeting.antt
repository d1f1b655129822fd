-- Which case comes first.
use Rattle.std.proofs.Common.{◌≡◌, ◌≢◌, ◌⊎◌, ℕ, ◌<◌, ◌≤◌, Bool, true, false, ◌==◌, nat_lt, cond, List, length, length-take-le, refl, sym, ap, ◌∙◌, subst, arith, inl, inr, Option, Some, None}
use Rattle.std.specs.Prelude.{⊤}
use Rattle.std.proofs.lemmas.Bool.Decides.{nat_tests}
use Rattle.httparse.specs.Grammar.{ResponseHead, status_code}
use Rattle.wire_http.specs.declared.bodies.BodyState.{BodyState}
use Rattle.wire_http.specs.declared.bodies.BodyState.TheVariants as state
use Rattle.efi_base.specs.declared.response.CodingField.{CodingField}
use Rattle.wire_http.specs.declared.head.Framing.{Framing}
use Rattle.wire_http.specs.declared.head.Framing.TheVariants as framing
use Rattle.wire_http.specs.declared.head.HeadInfo.{HeadInfo}
use Rattle.efi_base.specs.declared.response.Part.{Part}
use Rattle.efi_base.specs.declared.response.Part.TheVariants as part
use Rattle.wire_http.specs.Body.{HoldsBody, HoldsSoFar, IsBadBody}
use Rattle.wire_http.specs.Feeding.{IsState}
use Rattle.wire_http.specs.Fields.{coding_of, framing_of}
use Rattle.wire_http.specs.Heads.{fields_of, HasHeads}
use Rattle.wire_http.specs.Response.{HasBadBody, HasBadHeads}
use Rattle.wire_http.proofs.PieceLaws.{so_far_unique}
use Rattle.wire_http.proofs.ResponseLaws.{heads_unique, heads_not_bad}
use Rattle.efi_base.specs.declared.load_end.LoadEnd.{LoadEnd}
use Rattle.efi_base.specs.declared.load_end.LoadEnd.TheVariants.{Success, BadResponse, HttpStatus, Coding, BufferTooSmall, Truncated, Reset}
use Rattle.load_core.specs.declared.reading.Reading.{Reading}
use Rattle.load_core.specs.Cases.{HasFinal, IsLengthSoFar, IsLength, Meets, IsFirstCase, order}
use Rattle.load_core.specs.Taken.{AtHeads, IsBehind, length_by, case_by_length, case_by_coding, case_of, case_without}
use Rattle.load_core.proofs.Standing.{whole_is}

-- ---- without a final head

bad_body_heads : (stream : List ℕ) (p : Part) → HasBadBody stream p → HasFinal stream (λ head rest. ⊤)
bad_body_heads stream p b = (b.interim, b.final, b.rest, b.heads, tt)

-- a case of the response that isn't a bad head has a final head, and the other ones say so of the end
met_heads : (most : ℕ) (stream : List ℕ) (fin reset : Bool) (m : LoadEnd) → Meets most stream fin reset m
    → ((m ≡ BadResponse part.Head) × HasBadHeads stream) ⊎ (HasFinal stream (λ head rest. ⊤) ⊎ (5 ≤ order m))
met_heads most stream fin reset (Success n) h = inr (inl (h.1.interim, h.1.final, h.1.rest, h.1.heads, tt))
met_heads most stream fin reset (BadResponse part.Head) h = inl (refl, h)
met_heads most stream fin reset (BadResponse part.Length) h = inr (inl (bad_body_heads stream part.Length h))
met_heads most stream fin reset (BadResponse part.Chunk) h = inr (inl (bad_body_heads stream part.Chunk h))
met_heads most stream fin reset (BadResponse part.Trailer) h = inr (inl (bad_body_heads stream part.Trailer h))
met_heads most stream fin reset (HttpStatus s) h = inr (inl (h.0, h.1, h.2, h.3, tt))
met_heads most stream fin reset (Coding f) h = inr (inl (h.0, h.1, h.2, h.3, tt))
met_heads most stream fin reset (BufferTooSmall n) h = inr (inl (h.0, h.1, h.2, h.3, tt))
met_heads most stream fin reset (Truncated n) h = inr (inr (omega arith))
met_heads most stream fin reset Reset h = inr (inr (omega arith))
met_heads most stream fin reset other h = absurd h

-- ---- where the response has no case

not-both : (b : Bool) → b ≡ true → b ≡ false → ⊥
not-both b t f = let both : true ≡ false = sym t ∙ f in absurd (cc)

-- each case that is met is one of the stream's end or of the connection's
abbrev OnlyLate : ℕ → List ℕ → Bool → Bool → Type 0
OnlyLate most stream fin reset = (case : LoadEnd) → Meets most stream fin reset case → 5 ≤ order case

behind-end : (most : ℕ) (stream : List ℕ) (fin reset : Bool) → fin ≡ false → OnlyLate most stream fin reset → (case : LoadEnd)
    → Meets most stream fin reset case → (6 ≤ order case) × (reset ≡ true)
behind-end most stream fin reset f late (Success n) h = let l = late (Success n) h in absurd (omega (arith, l))
behind-end most stream fin reset f late (BadResponse p) h = let l = late (BadResponse p) h in absurd (omega (arith, l))
behind-end most stream fin reset f late (HttpStatus s) h = let l = late (HttpStatus s) h in absurd (omega (arith, l))
behind-end most stream fin reset f late (Coding g) h = let l = late (Coding g) h in absurd (omega (arith, l))
behind-end most stream fin reset f late (BufferTooSmall n) h = let l = late (BufferTooSmall n) h in absurd (omega (arith, l))
behind-end most stream fin reset f late (Truncated n) h = absurd (not-both fin h.0 f)
behind-end most stream fin reset f late Reset h = (omega arith, h)
behind-end most stream fin reset f late other h = absurd h

first-without : (most : ℕ) (stream : List ℕ) (fin reset : Bool) (taken : ℕ) → taken ≡ length stream → OnlyLate most stream fin reset
    → IsFirstCase most stream fin reset (case_without fin taken reset)
first-without most stream true reset taken e late = ((refl, e), late)
first-without most stream false true taken e late = (refl, λ case h. (behind-end most stream false true refl late case h).0)
first-without most stream false false taken e late = λ case h. not-both false (behind-end most stream false false refl late case h).1 refl

pub first-at-heads : (kept placed : List ℕ) (most : ℕ) (stream : List ℕ) (fin reset : Bool) (taken : ℕ) → AtHeads kept placed stream
    → taken ≡ length stream → IsFirstCase most stream fin reset (case_without fin taken reset)
first-at-heads kept placed most stream fin reset taken h e = first-without most stream fin reset taken e late
  where
    late : OnlyLate most stream fin reset
    late other m = elim (met_heads most stream fin reset other m) [
      | inl bad ↦ (elim bad.1 [
        | inl b ↦ absurd (h.may b)
        | inr long ↦ (let short = h.short in absurd (omega (arith, long.0, short)))
      ])
      | inr w ↦ (elim w [
        | inl f ↦ absurd (h.none f.0 f.1 f.2 f.3)
        | inr l ↦ l
      ])
    ]

one-late : (m : LoadEnd) → 5 ≤ order m → 1 ≤ order m
one-late m h = omega (arith, h)

pub bad-head-first : (most : ℕ) (stream : List ℕ) (fin reset : Bool) → HasBadHeads stream
    → IsFirstCase most stream fin reset (Some (BadResponse part.Head))
bad-head-first most stream fin reset bad = (
  bad,
  λ other m. elim (met_heads most stream fin reset other m) [
    | inl same ↦ (let e = ap order same.0 in omega (arith, e))
    | inr w ↦ (elim w [
      | inl f ↦ absurd (heads_not_bad stream f.0 f.1 f.2 f.3 bad)
      | inr l ↦ one-late other l
    ])
  ],
)

-- ---- what a case says of what is kept

-- what the final head and the body tell, where so many octets of the body and of the stream came
record Known : Type 0 where
  pub status : ℕ
  pub coding : Option CodingField
  pub len : ℕ
  pub most : ℕ
  pub count : ℕ
  pub fin : Bool
  pub reset : Bool
  pub taken : ℕ

abbrev Told : Known → BodyState → LoadEnd → Type 0
Told k st (Success n) = (st ≡ state.Whole) × (k.status ≡ 200) × (k.coding ≡ None) × (k.len ≤ k.most) × (n ≡ k.count)
Told k st (BadResponse p) = st ≡ state.Bad p
Told k st (HttpStatus n) = (n ≡ k.status) × (n ≢ 200)
Told k st (Coding f) = (k.status ≡ 200) × (k.coding ≡ Some f)
Told k st (BufferTooSmall n) = (k.status ≡ 200) × (k.coding ≡ None) × (n ≡ k.len) × (k.most < n)
Told k st (Truncated n) = (k.fin ≡ true) × (n ≡ k.taken)
Told k st Reset = k.reset ≡ true
Told k st other = ⊥

-- the first case that is told
abbrev FirstTold : Known → BodyState → Option LoadEnd → Type 0
FirstTold k st None = (other : LoadEnd) → ¬ (Told k st other)
FirstTold k st (Some m) = Told k st m × ((other : LoadEnd) → Told k st other → order m ≤ order other)

eq_true : (n m : ℕ) → (n == m) ≡ true → n ≡ m
eq_true n m h = grind (arith, nat_tests)

eq_false : (n m : ℕ) → (n == m) ≡ false → n ≢ m
eq_false n m h e = grind (arith, nat_tests)

lt_true : (n m : ℕ) → nat_lt n m ≡ true → n < m
lt_true n m h = grind (arith, nat_tests)

lt_false : (n m : ℕ) → nat_lt n m ≡ false → m ≤ n
lt_false n m h = grind (arith, nat_tests)

-- the body isn't bad
abbrev NotBad : BodyState → Type 0
NotBad st = (p : Part) → ¬ (st ≡ state.Bad p)

by_length : (k : Known) (st : BodyState) (o : Option LoadEnd) → NotBad st → k.status ≡ 200 → k.coding ≡ None
    → (k.len ≤ k.most → FirstTold k st o) → FirstTold k st (case_by_length k.len k.most o)
by_length k st o not_bad ok none otherwise = by_test (nat_lt k.most k.len) refl
  where
    by_test : (b : Bool) → nat_lt k.most k.len ≡ b → FirstTold k st (cond b (Some (BufferTooSmall k.len)) o)
    by_test true e = (
      (ok, none, refl, lt_true k.most k.len e),
      λ other t. later other t,
    )
      where
        later : (other : LoadEnd) → Told k st other → 4 ≤ order other
        later (Success n) t = let over = lt_true k.most k.len e in let fits = t.3 in absurd (omega (arith, over, fits))
        later (BadResponse p) t = absurd (not_bad p t)
        later (HttpStatus n) t = absurd (t.1 (t.0 ∙ ok))
        later (Coding f) t = let e : None ≡ Some f = sym none ∙ t.1 in absurd (cc)
        later (BufferTooSmall n) t = omega arith
        later (Truncated n) t = omega arith
        later Reset t = omega arith
        later other t = absurd t
    by_test false e = otherwise (lt_false k.most k.len e)

by_coding : (k : Known) (coding : Option CodingField) (st : BodyState) (o : Option LoadEnd) → NotBad st → k.status ≡ 200 → k.coding ≡ coding
    → (k.coding ≡ None → k.len ≤ k.most → FirstTold k st o) → FirstTold k st (case_by_coding coding k.len k.most o)
by_coding k None st o not_bad ok is otherwise = by_length k st o not_bad ok is (otherwise is)
by_coding k (Some field) st o not_bad ok is otherwise = ((ok, is), λ other t. later other t)
  where
    later : (other : LoadEnd) → Told k st other → 3 ≤ order other
    later (Success n) t = let e : Some field ≡ None = sym is ∙ t.2 in absurd (cc)
    later (BadResponse p) t = absurd (not_bad p t)
    later (HttpStatus n) t = absurd (t.1 (t.0 ∙ ok))
    later (Coding f) t = omega arith
    later (BufferTooSmall n) t = omega arith
    later (Truncated n) t = omega arith
    later Reset t = omega arith
    later other t = absurd t

by_status : (k : Known) (st : BodyState) (o : Option LoadEnd) → NotBad st
    → (k.status ≡ 200 → k.coding ≡ None → k.len ≤ k.most → FirstTold k st o)
    → FirstTold k st (cond (k.status == 200) (case_by_coding k.coding k.len k.most o) (Some (HttpStatus k.status)))
by_status k st o not_bad otherwise = by_test (k.status == 200) refl
  where
    by_test : (b : Bool) → (k.status == 200) ≡ b
        → FirstTold k st (cond b (case_by_coding k.coding k.len k.most o) (Some (HttpStatus k.status)))
    by_test true e =
        let ok = eq_true k.status 200 e in
        by_coding k k.coding st o not_bad ok refl (λ none fits. otherwise ok none fits)
    by_test false e = ((refl, eq_false k.status 200 e), λ other t. later other t)
      where
        later : (other : LoadEnd) → Told k st other → 2 ≤ order other
        later (Success n) t = absurd (eq_false k.status 200 e t.1)
        later (BadResponse p) t = absurd (not_bad p t)
        later (HttpStatus n) t = omega arith
        later (Coding f) t = omega arith
        later (BufferTooSmall n) t = omega arith
        later (Truncated n) t = omega arith
        later Reset t = omega arith
        later other t = absurd t

-- what is known of a body behind a final head
abbrev known : HeadInfo → ℕ → ℕ → Bool → Bool → ℕ → Known
known info count most fin reset taken = record {
  status = info.status;
  coding = info.coding;
  len = length_by info.framing count;
  most = most;
  count = count;
  fin = fin;
  reset = reset;
  taken = taken;
}

-- only the stream's end and the connection's are told
without : (k : Known) → k.status ≡ 200 → k.coding ≡ None → k.len ≤ k.most → FirstTold k state.More (case_without k.fin k.taken k.reset)
without k ok none fits = by k.fin k.reset refl refl
  where
    early : (other : LoadEnd) → Told k state.More other → 5 ≤ order other
    early (Success n) t = let e : state.More ≡ state.Whole = t.0 in absurd (cc)
    early (BadResponse p) t = let e : state.More ≡ state.Bad p = t in absurd (cc)
    early (HttpStatus n) t = absurd (t.1 (t.0 ∙ ok))
    early (Coding f) t = let e : None ≡ Some f = sym none ∙ t.1 in absurd (cc)
    early (BufferTooSmall n) t = let same = t.2 in let over = t.3 in absurd (omega (arith, same, over, fits))
    early (Truncated n) t = omega arith
    early Reset t = omega arith
    early other t = absurd t

    reset-only : k.fin ≡ false → (other : LoadEnd) → Told k state.More other → (6 ≤ order other) × (k.reset ≡ true)
    reset-only f (Success n) t = let l = early (Success n) t in absurd (omega (arith, l))
    reset-only f (BadResponse p) t = let l = early (BadResponse p) t in absurd (omega (arith, l))
    reset-only f (HttpStatus n) t = let l = early (HttpStatus n) t in absurd (omega (arith, l))
    reset-only f (Coding g) t = let l = early (Coding g) t in absurd (omega (arith, l))
    reset-only f (BufferTooSmall n) t = let l = early (BufferTooSmall n) t in absurd (omega (arith, l))
    reset-only f (Truncated n) t = absurd (not-both k.fin t.0 f)
    reset-only f Reset t = (omega arith, t)
    reset-only f other t = absurd t

    by : (fin reset : Bool) → k.fin ≡ fin → k.reset ≡ reset → FirstTold k state.More (case_without fin k.taken reset)
    by true reset f r = ((f, refl), early)
    by false true f r = (r, λ other t. (reset-only f other t).0)
    by false false f r = λ other t. not-both k.reset (reset-only f other t).1 r

first_told : (st : BodyState) (info : HeadInfo) (count most : ℕ) (fin reset : Bool) (taken : ℕ)
    → FirstTold (known info count most fin reset taken) st (case_of st info count most (case_without fin taken reset))
first_told (state.Bad p) info count most fin reset taken = (refl, λ other t. later other t)
  where
    later : (other : LoadEnd) → Told (known info count most fin reset taken) (state.Bad p) other → 1 ≤ order other
    later (Success n) t = let e : state.Bad p ≡ state.Whole = t.0 in absurd (cc)
    later (BadResponse q) t = omega arith
    later (HttpStatus n) t = omega arith
    later (Coding f) t = omega arith
    later (BufferTooSmall n) t = omega arith
    later (Truncated n) t = omega arith
    later Reset t = omega arith
    later other t = absurd t
first_told state.More info count most fin reset taken =
    let k = known info count most fin reset taken in
    by_status k state.More (case_without fin taken reset) (λ p e. cc) (without k)
first_told state.Whole info count most fin reset taken =
    by_status (known info count most fin reset taken) state.Whole (Some (Success count)) (λ p e. cc)
    (λ ok none fits. ((refl, ok, none, fits, refl), λ other t. omega arith))

-- ---- lengths

-- the length is one of the framing, where the framing says so
len_is : (f : Framing) (rest octets : List ℕ) (count : ℕ) → HoldsSoFar f rest octets → count ≡ length octets
    → IsLength f rest (length_by f count)
len_is framing.Empty rest octets count h e = (octets, h, e)
len_is (framing.Length n) rest octets count h e = refl
len_is framing.Chunked rest octets count h e = (octets, h, e)
len_is framing.Close rest octets count h e = (octets, h, e)
len_is framing.BadLength rest octets count h e = (octets, h, e)

so_far_len : (f : Framing) (rest octets : List ℕ) (count n : ℕ) → HoldsSoFar f rest octets → count ≡ length octets
    → IsLengthSoFar f rest n → n ≡ count
so_far_len f rest octets count n h e w =
    w.2 ∙ ap length (so_far_unique f rest w.0 w.1 ∙ sym (so_far_unique f rest octets h)) ∙ sym e

len_unique : (f : Framing) (rest octets : List ℕ) (count n : ℕ) → HoldsSoFar f rest octets → count ≡ length octets
    → IsLength f rest n → n ≡ length_by f count
len_unique framing.Empty rest octets count n h e w = so_far_len framing.Empty rest octets count n h e w
len_unique (framing.Length k) rest octets count n h e w = w
len_unique framing.Chunked rest octets count n h e w = so_far_len framing.Chunked rest octets count n h e w
len_unique framing.Close rest octets count n h e w = so_far_len framing.Close rest octets count n h e w
len_unique framing.BadLength rest octets count n h e w = so_far_len framing.BadLength rest octets count n h e w

-- the body's length is the length, where it is whole
body_len : (f : Framing) (fin : Bool) (rest body octets : List ℕ) (count : ℕ) → HoldsBody f fin rest body → HoldsSoFar f rest octets
    → count ≡ length octets → length body ≡ length_by f count
body_len f fin rest body octets count b h e = by f b (ap length (whole_is f fin rest body b ∙ sym (so_far_unique f rest octets h)) ∙ sym e)
  where
    by : (f : Framing) → HoldsBody f fin rest body → length body ≡ count → length body ≡ length_by f count
    by framing.Empty b same = same
    by (framing.Length n) b same = ap length b.1 ∙ length-take-le n rest b.0
    by framing.Chunked b same = same
    by framing.Close b same = same
    by framing.BadLength b same = same

-- ---- behind the final head

not_head : (f : Framing) (rest : List ℕ) → ¬ (IsBadBody f rest part.Head)
not_head framing.Empty rest h = h
not_head (framing.Length n) rest h = h
not_head framing.Chunked rest h = h
not_head framing.Close rest h = h
not_head framing.BadLength rest h = let e : part.Head ≡ part.Length = h in absurd (cc)

-- the octets of a whole body that came
body_count : (f : Framing) (fin : Bool) (rest body octets : List ℕ) (count : ℕ) → HoldsBody f fin rest body → HoldsSoFar f rest octets
    → count ≡ length octets → count ≡ length body
body_count f fin rest body octets count b h e =
    e ∙ sym (ap length (whole_is f fin rest body b ∙ sym (so_far_unique f rest octets h)))

module _ (r : Reading) (placed : List ℕ) (most : ℕ) (stream : List ℕ) (fin reset : Bool) (taken : ℕ) (st : BodyState)
    (s : IsBehind r placed most stream) (t : IsState st r.info.framing fin s.rest) (all : taken ≡ length stream) where
  abbrev k : Known
  k = known r.info r.count most fin reset taken

  at_same : (i : List ResponseHead) (f : ResponseHead) (q : List ℕ) → HasHeads stream i f q
      → (P : ResponseHead → List ℕ → Type 0) → P f q → P s.final s.rest
  at_same i f q h P x =
      let same = heads_unique stream s.interim i s.final f s.rest q s.heads h in
      subst (P s.final) (sym same.1) (subst (λ (k : ResponseHead). P k q) (sym same.0) x)

  -- the framing of a status that is 200
  framing_200 : status_code s.final ≡ 200 → framing_of 200 (fields_of s.final) ≡ r.info.framing
  framing_200 ok = sym (s.says.framing_is ∙ ap (λ (n : ℕ). framing_of n (fields_of s.final)) ok)

  info_200 : status_code s.final ≡ 200 → r.info.status ≡ 200
  info_200 ok = s.says.status_is ∙ ok

  code_200 : r.info.status ≡ 200 → status_code s.final ≡ 200
  code_200 ok = sym s.says.status_is ∙ ok

  to_bad : (p : Part) → HasBadBody stream p → st ≡ state.Bad p
  to_bad p b =
      let at = at_same b.interim b.final b.rest b.heads (λ head rest. IsBadBody (framing_of (status_code head) (fields_of head)) rest p) b.is_bad in
      t.is_bad p (subst (λ (f : Framing). IsBadBody f s.rest p) (sym s.says.framing_is) at)

  to_success : (n : ℕ) → Meets most stream fin reset (Success n) → Told k st (Success n)
  to_success n m =
      let body = m.0 in
      let w = m.1 in
      let at = at_same w.interim w.final w.rest w.heads
      (λ head rest. (200 ≡ status_code head) × (coding_of (fields_of head) ≡ None) × HoldsBody (framing_of 200 (fields_of head)) fin rest body)
      (w.status_is, w.uncoded, w.holds) in
      let ok : status_code s.final ≡ 200 = sym at.0 in
      let holds = subst (λ (f : Framing). HoldsBody f fin s.rest body) (framing_200 ok) at.2 in
      let same = body_len r.info.framing fin s.rest body s.octets r.count holds s.reads.so_far s.reads.count in
      let count = body_count r.info.framing fin s.rest body s.octets r.count holds s.reads.so_far s.reads.count in
      (t.is_whole body holds, info_200 ok, s.says.coding_is ∙ at.1, subst (λ (n : ℕ). n ≤ most) same m.3, m.2 ∙ sym count)

  to_small : (n : ℕ) → Meets most stream fin reset (BufferTooSmall n) → Told k st (BufferTooSmall n)
  to_small n m =
      let at = at_same m.0 m.1 m.2 m.3
      (λ head rest. (status_code head ≡ 200) × (coding_of (fields_of head) ≡ None) × IsLength (framing_of 200 (fields_of head)) rest n × (most < n))
      m.4 in
      let is = subst (λ (f : Framing). IsLength f s.rest n) (framing_200 at.0) at.2 in
      (info_200 at.0, s.says.coding_is ∙ at.1, len_unique r.info.framing s.rest s.octets r.count n s.reads.so_far s.reads.count is, at.3)

  to_told : (m : LoadEnd) → Meets most stream fin reset m → Told k st m
  to_told (Success n) m = to_success n m
  to_told (BadResponse part.Head) m = absurd (heads_not_bad stream s.interim s.final s.rest s.heads m)
  to_told (BadResponse part.Length) m = to_bad part.Length m
  to_told (BadResponse part.Chunk) m = to_bad part.Chunk m
  to_told (BadResponse part.Trailer) m = to_bad part.Trailer m
  to_told (HttpStatus n) m =
      let at = at_same m.0 m.1 m.2 m.3 (λ head rest. (n ≡ status_code head) × (n ≢ 200)) m.4 in
      (at.0 ∙ sym s.says.status_is, at.1)
  to_told (Coding f) m =
      let at = at_same m.0 m.1 m.2 m.3 (λ head rest. (status_code head ≡ 200) × (coding_of (fields_of head) ≡ Some f)) m.4 in
      (info_200 at.0, s.says.coding_is ∙ at.1)
  to_told (BufferTooSmall n) m = to_small n m
  to_told (Truncated n) m = (m.0, m.1 ∙ sym all)
  to_told Reset m = m
  to_told other m = absurd m

  from_bad : (p : Part) → IsBadBody r.info.framing s.rest p → HasBadBody stream p
  from_bad p b = record {
    interim = s.interim;
    final = s.final;
    rest = s.rest;
    heads = s.heads;
    is_bad = subst (λ (f : Framing). IsBadBody f s.rest p) s.says.framing_is b;
  }

  from_success : (n : ℕ) → Told k st (Success n) → Meets most stream fin reset (Success n)
  from_success n w =
      let body = t.whole w.0 in
      let ok = code_200 w.1 in
      let same = body_len r.info.framing fin s.rest body.0 s.octets r.count body.1 s.reads.so_far s.reads.count in
      let count = body_count r.info.framing fin s.rest body.0 s.octets r.count body.1 s.reads.so_far s.reads.count in (
        body.0,
        record {
          interim = s.interim;
          final = s.final;
          rest = s.rest;
          heads = s.heads;
          status_is = sym ok;
          uncoded = sym s.says.coding_is ∙ w.2;
          holds = subst (λ (f : Framing). HoldsBody f fin s.rest body.0) (sym (framing_200 ok)) body.1;
        },
        w.4 ∙ count,
        subst (λ (n : ℕ). n ≤ most) (sym same) w.3,
      )

  from_told : (m : LoadEnd) → Told k st m → Meets most stream fin reset m
  from_told (Success n) w = from_success n w
  from_told (BadResponse part.Head) w = absurd (not_head r.info.framing s.rest (t.bad part.Head w))
  from_told (BadResponse part.Length) w = from_bad part.Length (t.bad part.Length w)
  from_told (BadResponse part.Chunk) w = from_bad part.Chunk (t.bad part.Chunk w)
  from_told (BadResponse part.Trailer) w = from_bad part.Trailer (t.bad part.Trailer w)
  from_told (HttpStatus n) w = (s.interim, s.final, s.rest, s.heads, (w.0 ∙ s.says.status_is, w.1))
  from_told (Coding f) w = (s.interim, s.final, s.rest, s.heads, (code_200 w.0, sym s.says.coding_is ∙ w.1))
  from_told (BufferTooSmall n) w =
      let ok = code_200 w.0 in
      let is = subst (IsLength r.info.framing s.rest) (sym w.2) (len_is r.info.framing s.rest s.octets r.count s.reads.so_far s.reads.count) in (
        s.interim,
        s.final,
        s.rest,
        s.heads,
        (ok, sym s.says.coding_is ∙ w.1, subst (λ (f : Framing). IsLength f s.rest n) (sym (framing_200 ok)) is, w.3),
      )
  from_told (Truncated n) w = (w.0, w.1 ∙ all)
  from_told Reset w = w
  from_told other w = absurd w

  pub first-behind : IsFirstCase most stream fin reset (case_of st r.info r.count most (case_without fin taken reset))
  first-behind = by (case_of st r.info r.count most (case_without fin taken reset)) (first_told st r.info r.count most fin reset taken)
    where
      by : (o : Option LoadEnd) → FirstTold k st o → IsFirstCase most stream fin reset o
      by None h = λ other m. h other (to_told other m)
      by (Some m) h = (from_told m h.0, λ other x. h.1 other (to_told other x))

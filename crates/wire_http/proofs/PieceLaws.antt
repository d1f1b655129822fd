-- What a piece brings, told of all octets read.
use Rattle.std.proofs.Common.{◌≡◌, ◌≢◌, ℕ, zero, suc, ◌-◌, ◌<◌, Bool, true, false, not, ◌==◌, List, [], ◌∷◌, ◌++◌, length, refl, sym, ap, ◌∙◌, subst, arith, append-nil, length-append, inl, inr}
use Rattle.std.proofs.lemmas.Bool.Decides.{nat_tests}
use Rattle.wire_http.specs.declared.head.Framing.{Framing}
use Rattle.wire_http.specs.declared.head.Framing.TheVariants as framing
use Rattle.wire_http.specs.declared.bodies.BodyState.{BodyState}
use Rattle.wire_http.specs.declared.bodies.BodyState.TheVariants as state
use Rattle.efi_base.specs.declared.response.Part.TheVariants as part
use Rattle.wire_http.specs.declared.stage.Stage.{Stage}
use Rattle.wire_http.specs.declared.stage.Stage.TheVariants.{Done, Bad, Left, UntilEnd, Line, Octets, Return, Feed, Trailer}
use Rattle.wire_http.specs.Body.{HoldsSoFar}
use Rattle.wire_http.specs.Feeding.{IsState, IsNextOctet, answer, answer_at_end}
use Rattle.wire_http.specs.Stages.{walk, step, start, wants_octets, has_octets, is_ended, left_stage, put_front}
use Rattle.wire_http.proofs.RunLaws.{prepend, walk-append, walk_done, walk_bad, walk_until_end, walk_left, left_some}
use Rattle.wire_http.proofs.ChunkedWalks.{at_line, shown_walk}
use Rattle.wire_http.proofs.ChunkedSeen.{Seen, seen_all, seen_shows}
use Rattle.wire_http.proofs.BodyLaws.{state_is, end_is, empty_state, left_state, chunked_state, bad_length_state}

-- ---- the octets so far

pub so_far_is : (f : Framing) (rest : List ℕ) → HoldsSoFar f rest (walk (start f) rest).0
so_far_is framing.Empty rest = ap (λ (w : List ℕ × Stage). w.0) (walk_done rest)
so_far_is (framing.Length n) rest = ap (λ (w : List ℕ × Stage). w.0) (walk_left n rest)
so_far_is framing.Chunked rest = record {
  shown = seen_shows (walk at_line rest).1 rest (walk at_line rest).0 (seen_all rest);
  most = λ o h. shown_walk rest o h;
}
so_far_is framing.Close rest = ap (λ (w : List ℕ × Stage). w.0) (walk_until_end rest)
so_far_is framing.BadLength rest = ap (λ (w : List ℕ × Stage). w.0) (walk_bad part.Length rest)

both_fronts : (a b x y : List ℕ) → a ≡ b ++ x → b ≡ a ++ y → a ≡ b
both_fronts a b [] y e f = e ∙ append-nil b
both_fronts a b (c ∷ x) y e f =
    let one : length a ≡ length (b ++ c ∷ x) = ap length e in
    let two : length b ≡ length (a ++ y) = ap length f in
    absurd (omega (arith, length-append b (c ∷ x), length-append a y))

pub so_far_unique : (f : Framing) (rest octets : List ℕ) → HoldsSoFar f rest octets → octets ≡ (walk (start f) rest).0
so_far_unique framing.Empty rest octets h = h ∙ sym (so_far_is framing.Empty rest)
so_far_unique (framing.Length n) rest octets h = h ∙ sym (so_far_is (framing.Length n) rest)
so_far_unique framing.Chunked rest octets h =
    let here = so_far_is framing.Chunked rest in
    let one = h.most (walk at_line rest).0 here.shown in
    let two = here.most octets h.shown in
    both_fronts octets (walk at_line rest).0 one.0 two.0 one.1 two.1
so_far_unique framing.Close rest octets h = h ∙ sym (so_far_is framing.Close rest)
so_far_unique framing.BadLength rest octets h = h ∙ sym (so_far_is framing.BadLength rest)

-- ---- at the end

not_until_end : (f : Framing) (rest : List ℕ) → f ≢ framing.Close → (walk (start f) rest).1 ≡ UntilEnd → ⊥
not_until_end framing.Empty rest other e = let both : Done ≡ UntilEnd = sym (ap (λ (w : List ℕ × Stage). w.1) (walk_done rest)) ∙ e in cc
not_until_end (framing.Length n) rest other e = by (n - length rest) (sym (ap (λ (w : List ℕ × Stage). w.1) (walk_left n rest)) ∙ e)
  where
    by : (k : ℕ) → left_stage k ≡ UntilEnd → ⊥
    by zero e = cc
    by (suc k) e = let both : Left (suc k) ≡ UntilEnd = sym (left_some k) ∙ e in cc
not_until_end framing.Chunked rest other e = subst (λ (s : Stage). Seen s rest (walk at_line rest).0) e (seen_all rest)
not_until_end framing.Close rest other e = other refl
not_until_end framing.BadLength rest other e =
    let both : Bad part.Length ≡ UntilEnd = sym (ap (λ (w : List ℕ × Stage). w.1) (walk_bad part.Length rest)) ∙ e in cc

at_end : (f : Framing) (rest : List ℕ) → f ≢ framing.Close → IsState (answer (walk (start f) rest).1) f true rest
    → IsState (answer_at_end (walk (start f) rest).1) f true rest
at_end f rest other h =
    elim (end_is (walk (start f) rest).1) [
      | inl w ↦ absurd (not_until_end f rest other w.0)
      | inr same ↦ subst (λ (a : BodyState). IsState a f true rest) (sym same) h
    ]

pub end_state_is : (f : Framing) (rest : List ℕ) → IsState (answer_at_end (walk (start f) rest).1) f true rest
end_state_is framing.Empty rest = at_end framing.Empty rest (λ e. cc) (empty_state true rest)
end_state_is (framing.Length n) rest = at_end (framing.Length n) rest (λ e. cc) (left_state n true rest)
end_state_is framing.Chunked rest = at_end framing.Chunked rest (λ e. cc) (chunked_state true rest)
end_state_is framing.BadLength rest = at_end framing.BadLength rest (λ e. cc) (bad_length_state true rest)
end_state_is framing.Close rest =
    let e : answer_at_end (walk UntilEnd rest).1 ≡ state.Whole = ap (λ (w : List ℕ × Stage). answer_at_end w.1) (walk_until_end rest) in
    record {
      whole = λ w. (rest, (refl, refl));
      is_whole = λ body h. e;
      bad = λ p b. let both : state.Whole ≡ state.Bad p = sym e ∙ b in cc;
      is_bad = λ p h. absurd h;
    }

-- ---- where octets of the body are next, some are

some_left : (n : ℕ) → 0 < n → not (n == 0) ≡ true
some_left n h = grind (arith, nat_tests)

chunked_wants : (s : Stage) (rest octets : List ℕ) → Seen s rest octets → wants_octets s ≡ true → has_octets s ≡ true
chunked_wants Done rest octets h w = absurd (cc)
chunked_wants (Bad p) rest octets h w = absurd (cc)
chunked_wants (Left n) rest octets h w = absurd h
chunked_wants UntilEnd rest octets h w = refl
chunked_wants (Line p s l) rest octets h w = absurd (cc)
chunked_wants (Octets n) rest octets h w = some_left n h.some
chunked_wants Return rest octets h w = absurd (cc)
chunked_wants Feed rest octets h w = absurd (cc)
chunked_wants (Trailer p f l) rest octets h w = absurd (cc)

wants_by : (s t : Stage) → s ≡ t → (wants_octets t ≡ true → has_octets t ≡ true) → wants_octets s ≡ true → has_octets s ≡ true
wants_by s t e h w = ap has_octets e ∙ h (sym (ap wants_octets e) ∙ w)

pub wants_some : (f : Framing) (rest : List ℕ) → wants_octets (walk (start f) rest).1 ≡ true → has_octets (walk (start f) rest).1 ≡ true
wants_some framing.Empty rest w =
    wants_by (walk Done rest).1 Done (ap (λ (w : List ℕ × Stage). w.1) (walk_done rest)) (λ e. absurd (cc)) w
wants_some (framing.Length n) rest w =
    wants_by (walk (left_stage n) rest).1 (left_stage (n - length rest)) (ap (λ (w : List ℕ × Stage). w.1) (walk_left n rest)) (by (n - length rest)) w
  where
    by : (k : ℕ) → wants_octets (left_stage k) ≡ true → has_octets (left_stage k) ≡ true
    by zero w = absurd (cc)
    by (suc k) w = ap has_octets (left_some k) ∙ some_left (suc k) (omega arith)
wants_some framing.Chunked rest w = chunked_wants (walk at_line rest).1 rest (walk at_line rest).0 (seen_all rest) w
wants_some framing.Close rest w =
    wants_by (walk UntilEnd rest).1 UntilEnd (ap (λ (w : List ℕ × Stage). w.1) (walk_until_end rest)) (λ e. refl) w
wants_some framing.BadLength rest w =
    wants_by (walk (Bad part.Length) rest).1 (Bad part.Length) (ap (λ (w : List ℕ × Stage). w.1) (walk_bad part.Length rest)) (λ e. absurd (cc)) w

-- the next octet is then one of the body
pub next_is : (f : Framing) (rest : List ℕ) (b : ℕ) → wants_octets (walk (start f) rest).1 ≡ true → IsNextOctet f rest b
next_is f rest b w =
    let s = (walk (start f) rest).1 in
    let front : (walk s (b ∷ [])).0 ≡ b ∷ [] = ap (λ (t : Bool). (put_front t b ([], step s b)).0) w in
    let placed : (walk (start f) (rest ++ b ∷ [])).0 ≡ (walk (start f) rest).0 ++ b ∷ [] =
    ap (λ (w : List ℕ × Stage). w.0) (walk-append (start f) rest (b ∷ []))
    ∙ ap (λ (t : List ℕ). (walk (start f) rest).0 ++ t) front in
    ((walk (start f) rest).0, so_far_is f rest, subst (HoldsSoFar f (rest ++ b ∷ [])) placed (so_far_is f (rest ++ b ∷ [])))

-- ---- a piece

module _ (f : Framing) (read : List ℕ) (s : Stage) (has : (walk (start f) read).1 ≡ s) where
  on : (xs : List ℕ) → walk (start f) (read ++ xs) ≡ prepend (walk (start f) read).0 (walk s xs)
  on xs = walk-append (start f) read xs ∙ ap (λ (t : Stage). prepend (walk (start f) read).0 (walk t xs)) has

  pub early_is : (xs : List ℕ) → is_ended (walk s xs).1 ≡ false → IsState state.More f false (read ++ xs)
  early_is xs goes =
      let same : answer (walk (start f) (read ++ xs)).1 ≡ state.More =
      ap (λ (w : List ℕ × Stage). answer w.1) (on xs) ∙ goes_on (walk s xs).1 goes in
      subst (λ (a : BodyState). IsState a f false (read ++ xs)) same (state_is f (read ++ xs))
    where
      goes_on : (s : Stage) → is_ended s ≡ false → answer s ≡ state.More
      goes_on Done e = absurd (cc)
      goes_on (Bad p) e = absurd (cc)
      goes_on (Left n) e = refl
      goes_on UntilEnd e = refl
      goes_on (Line p s l) e = refl
      goes_on (Octets n) e = refl
      goes_on Return e = refl
      goes_on Feed e = refl
      goes_on (Trailer p f l) e = refl

  module _ (xs placed : List ℕ) (t : Stage) (walked : walk s xs ≡ (placed, t)) where
    all : walk (start f) (read ++ xs) ≡ ((walk (start f) read).0 ++ placed, t)
    all = on xs ∙ ap (prepend (walk (start f) read).0) walked

    pub stage_is : (walk (start f) (read ++ xs)).1 ≡ t
    stage_is = ap (λ (w : List ℕ × Stage). w.1) all

    pub piece_state : IsState (answer t) f false (read ++ xs)
    piece_state = subst (λ (t : Stage). IsState (answer t) f false (read ++ xs)) stage_is (state_is f (read ++ xs))

    pub piece_placed : (before : List ℕ) → HoldsSoFar f read before → HoldsSoFar f (read ++ xs) (before ++ placed)
    piece_placed before h =
        subst (HoldsSoFar f (read ++ xs))
        (ap (λ (w : List ℕ × Stage). w.0) all ∙ ap (λ (b : List ℕ). b ++ placed) (sym (so_far_unique f read before h)))
        (so_far_is f (read ++ xs))

    pub piece_wants : wants_octets t ≡ true → has_octets t ≡ true
    piece_wants = wants_by t (walk (start f) (read ++ xs)).1 (sym stage_is) (wants_some f (read ++ xs))

    pub piece_next : (b : ℕ) → wants_octets t ≡ true → IsNextOctet f (read ++ xs) b
    piece_next b w = next_is f (read ++ xs) b (ap wants_octets stage_is ∙ w)

-- an ended stage is whole or bad
pub ended_is : (s : Stage) → is_ended s ≡ true → answer s ≢ state.More
ended_is Done e w = cc
ended_is (Bad p) e w = cc
ended_is (Left n) e w = cc
ended_is UntilEnd e w = cc
ended_is (Line p s l) e w = cc
ended_is (Octets n) e w = cc
ended_is Return e w = cc
ended_is Feed e w = cc
ended_is (Trailer p f l) e w = cc

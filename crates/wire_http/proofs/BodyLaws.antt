-- What is kept of a body tells what the octets read are by the grammar.
use Rattle.std.proofs.Common.{◌≡◌, ℕ, zero, suc, ◌-◌, ◌⊎◌, Bool, true, false, List, [], ◌++◌, length, take, refl, sym, ap, ◌∙◌, subst, arith, append-nil, inl, inr}
use Rattle.wire_http.specs.declared.head.Framing.{Framing}
use Rattle.wire_http.specs.declared.head.Framing.TheVariants as framing
use Rattle.wire_http.specs.declared.bodies.BodyState.TheVariants as state
use Rattle.efi_base.specs.declared.response.Part.{Part}
use Rattle.efi_base.specs.declared.response.Part.TheVariants as part
use Rattle.wire_http.specs.declared.stage.Stage.{Stage}
use Rattle.wire_http.specs.declared.stage.Stage.TheVariants.{Done, Bad, Left, UntilEnd, Line, Octets, Return, Feed, Trailer}
use Rattle.wire_http.specs.Body.{IsBadChunked}
use Rattle.wire_http.specs.Chunked.{HasChunks, HasTrailer, IsChunked, NeverHasChunks, NeverHasTrailer}
use Rattle.wire_http.specs.Feeding.{IsState, answer, answer_at_end}
use Rattle.wire_http.specs.Stages.{walk, start, is_ended, left_stage}
use Rattle.wire_http.proofs.RunLaws.{walk-append, walk_done, walk_bad, walk_until_end, walk_left, left_some}
use Rattle.wire_http.proofs.ChunkedWalks.{at_line, at_trailer, lines_walk, chunked_walk}
use Rattle.wire_http.proofs.ChunkedSeen.{Seen, AtTrailer, seen_all, trailer_at_walk, chunks_more}
use Rattle.wire_http.proofs.ChunkedEnds.{seen_can}
use Rattle.wire_http.proofs.TrailerSeen.{can_end, trailer_start}

-- ---- chunked: bad

-- behind the chunks the stage is one of the trailer's
trailer_stage : (rest body after : List ℕ) → HasChunks rest body after → AtTrailer (walk at_line rest).1 after
trailer_stage rest body after h =
    let here = trailer_at_walk at_trailer [] after trailer_start in
    subst (λ (w : List ℕ × Stage). AtTrailer w.1 after) (sym (lines_walk rest body after h)) here

-- a bad stage stays
stays_bad : (p : Part) (rest more : List ℕ) → (walk at_line rest).1 ≡ Bad p → (walk at_line (rest ++ more)).1 ≡ Bad p
stays_bad p rest more bad =
    ap (λ (w : List ℕ × Stage). w.1) (walk-append at_line rest more)
    ∙ ap (λ (s : Stage). (walk s more).1) bad
    ∙ ap (λ (w : List ℕ × Stage). w.1) (walk_bad p more)

bad_chunks : (rest : List ℕ) → (walk at_line rest).1 ≡ Bad part.Chunk → NeverHasChunks rest
bad_chunks rest bad more body after h =
    subst (λ (s : Stage). AtTrailer s after) (stays_bad part.Chunk rest more bad) (trailer_stage (rest ++ more) body after h)

not_both : (p : Part) (s : Stage) → s ≡ Bad p → s ≡ Done → ⊥
not_both p s bad whole = let e : Bad p ≡ Done = sym bad ∙ whole in cc

bad_trailer : (rest octets : List ℕ) → (walk at_line rest).1 ≡ Bad part.Trailer → Seen (Bad part.Trailer) rest octets → NeverHasTrailer rest
bad_trailer rest octets bad seen = (
  octets,
  seen.0,
  seen.1,
  λ more h.
      let whole = ap (λ (w : List ℕ × Stage). w.1) (chunked_walk (rest ++ more) octets (seen.0 ++ more, chunks_more rest octets seen.0 more seen.1, h)) in
      not_both part.Trailer (walk at_line (rest ++ more)).1 (stays_bad part.Trailer rest more bad) whole,
)

pub tells_bad : (p : Part) (rest : List ℕ) → (walk at_line rest).1 ≡ Bad p → IsBadChunked p rest
tells_bad part.Head rest bad = subst (λ (s : Stage). Seen s rest (walk at_line rest).0) bad (seen_all rest)
tells_bad part.Length rest bad = subst (λ (s : Stage). Seen s rest (walk at_line rest).0) bad (seen_all rest)
tells_bad part.Chunk rest bad = bad_chunks rest bad
tells_bad part.Trailer rest bad =
    bad_trailer rest (walk at_line rest).0 bad (subst (λ (s : Stage). Seen s rest (walk at_line rest).0) bad (seen_all rest))

-- the parts by the stage
is_bad_at : (p : Part) (s : Stage) (rest octets : List ℕ) → (walk at_line rest).1 ≡ s → Seen s rest octets → IsBadChunked p rest
    → answer s ≡ state.Bad p
is_bad_at part.Head s rest octets at seen bad = absurd bad
is_bad_at part.Length s rest octets at seen bad = absurd bad
is_bad_at part.Chunk s rest octets at seen bad = by s at seen
  where
    nothing : (body after : List ℕ) → HasChunks rest body after → ⊥
    nothing body after h = bad [] body after (subst (λ (r : List ℕ). HasChunks r body after) (sym (append-nil rest)) h)

    going : (s : Stage) → Seen s rest octets → is_ended s ≡ false → ⊥
    going s seen on = let c = seen_can s rest octets seen on in bad c.0 c.1 c.2.0 c.2.1

    by : (s : Stage) → (walk at_line rest).1 ≡ s → Seen s rest octets → answer s ≡ state.Bad part.Chunk
    by Done at seen = absurd (nothing octets seen.0 seen.1)
    by (Bad part.Head) at seen = absurd seen
    by (Bad part.Length) at seen = absurd seen
    by (Bad part.Chunk) at seen = refl
    by (Bad part.Trailer) at seen = absurd (nothing octets seen.0 seen.1)
    by (Left n) at seen = absurd seen
    by UntilEnd at seen = absurd seen
    by (Line p s l) at seen = absurd (going (Line p s l) seen refl)
    by (Octets n) at seen = absurd (going (Octets n) seen refl)
    by Return at seen = absurd (going Return seen refl)
    by Feed at seen = absurd (going Feed seen refl)
    by (Trailer p f l) at seen = absurd (going (Trailer p f l) seen refl)
is_bad_at part.Trailer s rest octets at seen bad =
    by s (subst (λ (s : Stage). AtTrailer s bad.1) at (trailer_stage rest bad.0 bad.1 bad.2))
  where
    by : (s : Stage) → AtTrailer s bad.1 → answer s ≡ state.Bad part.Trailer
    by Done here = absurd (bad.3 [] (subst HasTrailer (sym (append-nil bad.1)) here))
    by (Bad part.Head) here = absurd here
    by (Bad part.Length) here = absurd here
    by (Bad part.Chunk) here = absurd here
    by (Bad part.Trailer) here = refl
    by (Left n) here = absurd here
    by UntilEnd here = absurd here
    by (Line p s l) here = absurd here
    by (Octets n) here = absurd here
    by Return here = absurd here
    by Feed here = absurd here
    by (Trailer p f l) here =
        let e = can_end p f l bad.1 here in
        absurd (bad.3 e.0 (bad.1 ++ e.0, [], e.1, sym (append-nil (bad.1 ++ e.0))))

-- ---- what the answers tell of the stage

answer_whole : (s : Stage) → answer s ≡ state.Whole → s ≡ Done
answer_whole Done e = refl
answer_whole (Bad p) e = absurd (cc)
answer_whole (Left n) e = absurd (cc)
answer_whole UntilEnd e = absurd (cc)
answer_whole (Line p s l) e = absurd (cc)
answer_whole (Octets n) e = absurd (cc)
answer_whole Return e = absurd (cc)
answer_whole Feed e = absurd (cc)
answer_whole (Trailer p f l) e = absurd (cc)

answer_bad : (s : Stage) (q : Part) → answer s ≡ state.Bad q → s ≡ Bad q
answer_bad Done q e = absurd (cc)
answer_bad (Bad p) q e = cc
answer_bad (Left n) q e = absurd (cc)
answer_bad UntilEnd q e = absurd (cc)
answer_bad (Line p s l) q e = absurd (cc)
answer_bad (Octets n) q e = absurd (cc)
answer_bad Return q e = absurd (cc)
answer_bad Feed q e = absurd (cc)
answer_bad (Trailer p f l) q e = absurd (cc)

pub end_is : (s : Stage) → ((s ≡ UntilEnd) × (answer_at_end s ≡ state.Whole)) ⊎ (answer_at_end s ≡ answer s)
end_is Done = inr refl
end_is (Bad p) = inr refl
end_is (Left n) = inr refl
end_is UntilEnd = inl (refl, refl)
end_is (Line p s l) = inr refl
end_is (Octets n) = inr refl
end_is Return = inr refl
end_is Feed = inr refl
end_is (Trailer p f l) = inr refl

-- ---- chunked

chunked_whole : (rest : List ℕ) → (walk at_line rest).1 ≡ Done → IsChunked rest (walk at_line rest).0
chunked_whole rest whole =
    let h = subst (λ (s : Stage). Seen s rest (walk at_line rest).0) whole (seen_all rest) in
    (h.0, h.1, h.2)

pub chunked_state : (fin : Bool) (rest : List ℕ) → IsState (answer (walk at_line rest).1) framing.Chunked fin rest
chunked_state fin rest = record {
  whole = λ e. ((walk at_line rest).0, chunked_whole rest (answer_whole (walk at_line rest).1 e));
  is_whole = λ body h. ap (λ (w : List ℕ × Stage). answer w.1) (chunked_walk rest body h);
  bad = λ p e. tells_bad p rest (answer_bad (walk at_line rest).1 p e);
  is_bad = λ p h. is_bad_at p (walk at_line rest).1 rest (walk at_line rest).0 refl (seen_all rest) h;
}

-- ---- the other framings

pub empty_state : (fin : Bool) (rest : List ℕ) → IsState (answer (walk Done rest).1) framing.Empty fin rest
empty_state fin rest =
    let e : answer (walk Done rest).1 ≡ state.Whole = ap (λ (w : List ℕ × Stage). answer w.1) (walk_done rest) in
    record {
      whole = λ w. ([], refl);
      is_whole = λ body h. e;
      bad = λ p b. let both : state.Whole ≡ state.Bad p = sym e ∙ b in cc;
      is_bad = λ p h. absurd h;
    }

pub left_state : (n : ℕ) (fin : Bool) (rest : List ℕ) → IsState (answer (walk (left_stage n) rest).1) (framing.Length n) fin rest
left_state n fin rest = by (n - length rest) refl
  where
    at : (k : ℕ) → n - length rest ≡ k → answer (walk (left_stage n) rest).1 ≡ answer (left_stage k)
    at k e = ap (λ (w : List ℕ × Stage). answer w.1) (walk_left n rest) ∙ ap (λ (k : ℕ). answer (left_stage k)) e

    by : (k : ℕ) → n - length rest ≡ k → IsState (answer (walk (left_stage n) rest).1) (framing.Length n) fin rest
    by zero e = record {
      whole = λ w. (take n rest, (omega (arith, e), refl));
      is_whole = λ body h. at zero e;
      bad = λ p b. let both : state.Whole ≡ state.Bad p = sym (at zero e) ∙ b in cc;
      is_bad = λ p h. absurd h;
    }
    by (suc k) e =
        let more : answer (walk (left_stage n) rest).1 ≡ state.More = at (suc k) e ∙ ap answer (left_some k) in
        record {
          whole = λ w. let both : state.More ≡ state.Whole = sym more ∙ w in absurd (cc);
          is_whole = λ body h. absurd (omega (arith, e, h.0));
          bad = λ p b. let both : state.More ≡ state.Bad p = sym more ∙ b in cc;
          is_bad = λ p h. absurd h;
        }

close_state : (rest : List ℕ) → IsState (answer (walk UntilEnd rest).1) framing.Close false rest
close_state rest =
    let e : answer (walk UntilEnd rest).1 ≡ state.More = ap (λ (w : List ℕ × Stage). answer w.1) (walk_until_end rest) in
    record {
      whole = λ w. let both : state.More ≡ state.Whole = sym e ∙ w in absurd (cc);
      is_whole = λ body h. let both : false ≡ true = h.0 in absurd (cc);
      bad = λ p b. let both : state.More ≡ state.Bad p = sym e ∙ b in cc;
      is_bad = λ p h. absurd h;
    }

pub bad_length_state : (fin : Bool) (rest : List ℕ) → IsState (answer (walk (Bad part.Length) rest).1) framing.BadLength fin rest
bad_length_state fin rest =
    let e : answer (walk (Bad part.Length) rest).1 ≡ state.Bad part.Length = ap (λ (w : List ℕ × Stage). answer w.1) (walk_bad part.Length rest) in
    record {
      whole = λ w. let both : state.Bad part.Length ≡ state.Whole = sym e ∙ w in absurd (cc);
      is_whole = λ body h. absurd h;
      bad = λ p b. let both : state.Bad part.Length ≡ state.Bad p = sym e ∙ b in cc;
      is_bad = λ p h. e ∙ ap (λ (p : Part). state.Bad p) (sym h);
    }

-- ---- all framings

pub state_is : (f : Framing) (rest : List ℕ) → IsState (answer (walk (start f) rest).1) f false rest
state_is framing.Empty rest = empty_state false rest
state_is (framing.Length n) rest = left_state n false rest
state_is framing.Chunked rest = chunked_state false rest
state_is framing.Close rest = close_state rest
state_is framing.BadLength rest = bad_length_state false rest

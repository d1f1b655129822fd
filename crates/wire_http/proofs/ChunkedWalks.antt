-- Whole chunks, a last line and a trailer are read to their end.
use Rattle.std.proofs.Common.{◌≡◌, ℕ, zero, suc, ◌-◌, ◌<◌, ◌≤◌, Bool, false, ◌==◌, cond, List, [], ◌∷◌, ◌++◌, length, refl, sym, ap, ◌∙◌, arith, append_assoc, append-nil, inl, inr}
use Rattle.std.specs.List.{flat_map, AllByRecursion}
use Rattle.std.proofs.lemmas.Bool.Decides.{nat_tests}
use Rattle.httparse.specs.Grammar.{ChunkLine, chunk_size, print_chunk_line}
use Rattle.wire_http.specs.declared.stage.Stage.{Stage}
use Rattle.wire_http.specs.declared.stage.Stage.TheVariants.{Done, Line, Octets, Trailer}
use Rattle.wire_http.specs.declared.chunk_line.LinePlace.TheVariants as line
use Rattle.wire_http.specs.declared.trailer.FieldPlace.TheVariants as field
use Rattle.wire_http.specs.Chunked.{IsLine, Chunk, IsChunk, chunk_text, octets_of, HasChunks, HasTrailer, IsChunked, ShowsOctets}
use Rattle.wire_http.specs.Stages.{walk, line_done, octets_stage}
use Rattle.wire_http.proofs.LineWalks.{line_walk}
use Rattle.wire_http.proofs.RunLaws.{prepend, walk-append, walk_done, walk_octets, octets_some}
use Rattle.wire_http.proofs.TrailerWalks.{trailer_walk}

-- in front of a chunk line
abbrev pub at_line : Stage
at_line = Line line.Start 0 0

-- in front of the trailer
abbrev pub at_trailer : Stage
at_trailer = Trailer field.Start 0 0

prepend_twice : (a b : List ℕ) (w : List ℕ × Stage) → prepend a (prepend b w) ≡ prepend (a ++ b) w
prepend_twice a b w = ap (λ (t : List ℕ). (t, w.1)) (sym (append_assoc a b w.0))

pub done_some : (n : ℕ) → 0 < n → line_done n ≡ octets_stage n
done_some zero h = absurd (omega arith)
done_some (suc n) h =
    let not_zero : (suc n == 0) ≡ false = grind (arith, nat_tests) in
    ap (λ (t : Bool). cond t at_trailer (Octets (suc n))) not_zero ∙ sym (octets_some n)

-- the first octets of a chunk
pub part_walk : (k : ChunkLine) (front t : List ℕ) → IsLine k → length front ≤ chunk_size k → 0 < chunk_size k
    → walk at_line (print_chunk_line k ++ (front ++ t)) ≡ prepend front (walk (octets_stage (chunk_size k - length front)) t)
part_walk k front t valid within some =
    line_walk k (front ++ t) valid
    ∙ ap (λ (s : Stage). walk s (front ++ t)) (done_some (chunk_size k) some)
    ∙ walk-append (octets_stage (chunk_size k)) front t
    ∙ ap (λ (w : List ℕ × Stage). prepend w.0 (walk w.1 t)) (walk_octets (chunk_size k) front within)

pub chunk_walk : (c : Chunk) (t : List ℕ) → IsChunk c → walk at_line (chunk_text c ++ t) ≡ prepend c.bytes (walk at_line t)
chunk_walk c t valid =
    let none : chunk_size c.line - length c.bytes ≡ 0 = omega (arith, valid.count) in
    ap (walk at_line) (regroup (print_chunk_line c.line) c.bytes t)
    ∙ part_walk c.line c.bytes (13 ∷ 10 ∷ t) valid.line (omega (arith, valid.count)) (omega (arith, valid.count, valid.some))
    ∙ ap (λ (n : ℕ). prepend c.bytes (walk (octets_stage n) (13 ∷ 10 ∷ t))) none
  where
    regroup : (a b t : List ℕ) → (a ++ (b ++ (13 ∷ 10 ∷ []))) ++ t ≡ a ++ (b ++ (13 ∷ 10 ∷ t))
    regroup a b t = simp append_assoc

pub chunks_walk : (cs : List Chunk) (t : List ℕ) → AllByRecursion IsChunk cs
    → walk at_line (flat_map chunk_text cs ++ t) ≡ prepend (octets_of cs) (walk at_line t)
chunks_walk [] t each = refl
chunks_walk (c ∷ cs) t each =
    ap (walk at_line) (append_assoc (chunk_text c) (flat_map chunk_text cs) t)
    ∙ chunk_walk c (flat_map chunk_text cs ++ t) each.0
    ∙ ap (prepend c.bytes) (chunks_walk cs t each.1)
    ∙ prepend_twice c.bytes (octets_of cs) (walk at_line t)

-- chunks and a last line
pub lines_walk : (rest body after : List ℕ) → HasChunks rest body after → walk at_line rest ≡ prepend body (walk at_trailer after)
lines_walk rest body after h =
    ap (walk at_line) h.text
    ∙ chunks_walk h.chunks (print_chunk_line h.last ++ after) h.each
    ∙ ap (prepend (octets_of h.chunks)) (line_walk h.last after h.last_valid ∙ ap (λ (n : ℕ). walk (line_done n) after) h.last_size)
    ∙ ap (λ (b : List ℕ). prepend b (walk at_trailer after)) (sym h.body_is)

pub has_trailer_walk : (after : List ℕ) → HasTrailer after → walk at_trailer after ≡ ([], Done)
has_trailer_walk after h = ap (walk at_trailer) h.3 ∙ trailer_walk h.0 h.1 h.2 ∙ walk_done h.1

-- a whole body in chunks
pub chunked_walk : (rest body : List ℕ) → IsChunked rest body → walk at_line rest ≡ (body, Done)
chunked_walk rest body h =
    lines_walk rest body h.0 h.1
    ∙ ap (prepend body) (has_trailer_walk h.0 h.2)
    ∙ ap (λ (t : List ℕ). (t, Done)) (append-nil body)

-- octets that stand in front are placed
pub shown_walk : (rest octets : List ℕ) → ShowsOctets rest octets → (later : List ℕ) × ((walk at_line rest).0 ≡ octets ++ later)
shown_walk rest octets (inl h) = (
  (walk at_line h.more).0,
  ap (λ (t : List ℕ). (walk at_line t).0) h.text
      ∙ ap (λ (w : List ℕ × Stage). w.0) (chunks_walk h.chunks h.more h.each)
      ∙ ap (λ (o : List ℕ). o ++ (walk at_line h.more).0) (sym h.octets_are),
)
shown_walk rest octets (inr h) = by (chunk_size h.line) refl
  where
    empty : (xs : List ℕ) → length xs ≤ 0 → xs ≡ []
    empty [] h = refl
    empty (x ∷ xs) h = absurd (omega arith)

    by : (n : ℕ) → chunk_size h.line ≡ n → (later : List ℕ) × ((walk at_line rest).0 ≡ octets ++ later)
    by zero e =
        let none : h.front ≡ [] = empty h.front (omega (arith, h.within, e)) in
        let t = print_chunk_line h.line ++ (h.front ++ h.more) in (
          (walk at_line t).0,
          ap (λ (t : List ℕ). (walk at_line t).0) h.text
              ∙ ap (λ (w : List ℕ × Stage). w.0) (chunks_walk h.chunks t h.each)
              ∙ ap (λ (o : List ℕ). o ++ (walk at_line t).0)
              (sym (append-nil (octets_of h.chunks)) ∙ ap (λ (f : List ℕ). octets_of h.chunks ++ f) (sym none) ∙ sym h.octets_are),
        )
    by (suc n) e =
        let s = octets_stage (chunk_size h.line - length h.front) in (
          (walk s h.more).0,
          ap (λ (t : List ℕ). (walk at_line t).0) h.text
              ∙ ap (λ (w : List ℕ × Stage). w.0) (chunks_walk h.chunks (print_chunk_line h.line ++ (h.front ++ h.more)) h.each)
              ∙ ap (λ (w : List ℕ × Stage). octets_of h.chunks ++ w.0) (part_walk h.line h.front h.more h.valid h.within (omega (arith, e)))
              ∙ sym (append_assoc (octets_of h.chunks) h.front (walk s h.more).0)
              ∙ ap (λ (o : List ℕ). o ++ (walk s h.more).0) (sym h.octets_are),
        )

-- What isn't bad can become whole.
use Rattle.std.proofs.Common.{◌≡◌, ℕ, zero, suc, ◌+◌, false, List, [], ◌∷◌, ◌++◌, length, replicate, refl, sym, ap, ◌∙◌, subst, arith, append_assoc, append-nil, length-append}
use Rattle.std.specs.List.{flat_map, AllByRecursion}
use Rattle.std.proofs.lemmas.List.{length-replicate}
use Rattle.std.proofs.lemmas.List.Elements.{All-nil}
use Rattle.httparse.specs.Grammar.{ChunkLine, chunk_size, print_chunk_line, IsField, lf}
use Rattle.wire_http.specs.declared.stage.Stage.{Stage}
use Rattle.wire_http.specs.declared.stage.Stage.TheVariants.{Done, Bad, Left, UntilEnd, Line, Octets, Return, Feed, Trailer}
use Rattle.wire_http.specs.Chunked.{IsLine, Chunk, IsChunk, chunk_text, octets_of, IsTrailer, IsChunked}
use Rattle.wire_http.specs.Stages.{is_ended}
use Rattle.wire_http.proofs.LineSeen.{Ending, ending, zero_ending}
use Rattle.wire_http.proofs.TrailerSeen.{can_end}
use Rattle.wire_http.proofs.ChunkedSeen.{Seen, AtTail, chunks_more, each_more, text_more}

-- some octets can follow that make it whole
abbrev pub CanBeWhole : List ℕ → Type 0
CanBeWhole rest = (more : List ℕ) × (body : List ℕ) × IsChunked (rest ++ more) body

empty_trailer : IsTrailer (10 ∷ [])
empty_trailer = record { fields = []; valid = All-nil IsField; few = omega arith; last = lf; text_is = refl; short = omega arith }

-- a last chunk line ends the chunks
with_last : (cs : List Chunk) (x q rest : List ℕ) (k : ChunkLine) → AllByRecursion IsChunk cs → IsLine k → chunk_size k ≡ 0
    → print_chunk_line k ≡ x ++ q → rest ≡ flat_map chunk_text cs ++ x → CanBeWhole rest
with_last cs x q rest k each valid none text rest_is = (
  q ++ 10 ∷ [],
  octets_of cs,
  (
    10 ∷ [],
    record {
      chunks = cs;
      each = each;
      last = k;
      last_valid = valid;
      last_size = none;
      text = ap (λ (t : List ℕ). t ++ (q ++ 10 ∷ [])) rest_is
          ∙ regroup (flat_map chunk_text cs) x q (10 ∷ [])
          ∙ ap (λ (t : List ℕ). flat_map chunk_text cs ++ (t ++ 10 ∷ [])) (sym text);
      body_is = refl;
    },
    (10 ∷ [], [], empty_trailer, refl),
  ),
)
  where
    regroup : (a b c d : List ℕ) → (a ++ b) ++ (c ++ d) ≡ a ++ ((b ++ c) ++ d)
    regroup a b c d = simp append_assoc

-- the rest of a chunk can follow
with_chunk : (cs : List Chunk) (c : Chunk) (rest q : List ℕ) → AllByRecursion IsChunk cs → IsChunk c
    → rest ++ q ≡ flat_map chunk_text cs ++ chunk_text c → CanBeWhole rest
with_chunk cs c rest q each valid text =
    let e = zero_ending in
    let whole = with_last (cs ++ c ∷ []) [] e.rest (rest ++ q) e.whole (each_more cs c each valid) e.is_line e.size e.text
    (text ∙ sym (text_more cs c) ∙ sym (append-nil (flat_map chunk_text (cs ++ c ∷ [])))) in
    (q ++ whole.0, whole.1, subst (λ (t : List ℕ). IsChunked t whole.1) (append_assoc rest q whole.0) whole.2)

line_can : (s : ℕ) (rest octets x : List ℕ) (cs : List Chunk) → AllByRecursion IsChunk cs → rest ≡ flat_map chunk_text cs ++ x
    → Ending s x → CanBeWhole rest
line_can zero rest octets x cs each text e = with_last cs x e.rest rest e.whole each e.is_line e.size e.text text
line_can (suc n) rest octets x cs each text e =
    let zeros : List ℕ = replicate (suc n) 0 in
    let c : Chunk = record { line = e.whole; bytes = zeros } in
    let count : length zeros ≡ suc n = length-replicate (suc n) 0 in
    with_chunk cs c rest (e.rest ++ (zeros ++ 13 ∷ 10 ∷ [])) each
    (record { line = e.is_line; some = omega arith; count = omega (arith, e.size) })
    (ap (λ (t : List ℕ). t ++ (e.rest ++ (zeros ++ 13 ∷ 10 ∷ []))) text
    ∙ regroup (flat_map chunk_text cs) x e.rest (zeros ++ 13 ∷ 10 ∷ [])
    ∙ ap (λ (t : List ℕ). flat_map chunk_text cs ++ (t ++ (zeros ++ 13 ∷ 10 ∷ []))) (sym e.text))
  where
    regroup : (a b c d : List ℕ) → (a ++ b) ++ (c ++ d) ≡ a ++ ((b ++ c) ++ d)
    regroup a b c d = simp append_assoc

tail_can : (tail q rest octets : List ℕ) → AtTail tail rest octets → tail ++ q ≡ 13 ∷ 10 ∷ [] → CanBeWhole rest
tail_can tail q rest octets h tail_is =
    with_chunk h.chunks h.chunk rest q h.each h.valid
    (ap (λ (t : List ℕ). t ++ q) h.text
    ∙ regroup (flat_map chunk_text h.chunks) (print_chunk_line h.chunk.line) h.chunk.bytes tail q
    ∙ ap (λ (t : List ℕ). flat_map chunk_text h.chunks ++ (print_chunk_line h.chunk.line ++ (h.chunk.bytes ++ t))) tail_is)
  where
    regroup : (a b c d e : List ℕ) → (a ++ (b ++ (c ++ d))) ++ e ≡ a ++ (b ++ (c ++ (d ++ e)))
    regroup a b c d e = simp append_assoc

pub seen_can : (s : Stage) (rest octets : List ℕ) → Seen s rest octets → is_ended s ≡ false → CanBeWhole rest
seen_can Done rest octets h on = absurd (cc)
seen_can (Bad p) rest octets h on = absurd (cc)
seen_can (Left n) rest octets h on = absurd h
seen_can UntilEnd rest octets h on = absurd h
seen_can (Line p s l) rest octets h on = line_can s rest octets h.here h.chunks h.each h.text (ending p s l h.here h.seen)
seen_can (Octets n) rest octets h on =
    let zeros : List ℕ = replicate n 0 in
    let count : length zeros ≡ n = length-replicate n 0 in
    let total : length (h.front ++ zeros) ≡ length h.front + length zeros = length-append h.front zeros in
    let c : Chunk = record { line = h.line; bytes = h.front ++ zeros } in
    with_chunk h.chunks c rest (zeros ++ 13 ∷ 10 ∷ []) h.each
    (record { line = h.valid; some = omega (arith, h.some); count = omega (arith, h.count) })
    (ap (λ (t : List ℕ). t ++ (zeros ++ 13 ∷ 10 ∷ [])) h.text
    ∙ regroup (flat_map chunk_text h.chunks) (print_chunk_line h.line) h.front zeros (13 ∷ 10 ∷ []))
  where
    regroup : (a b c d e : List ℕ) → (a ++ (b ++ c)) ++ (d ++ e) ≡ a ++ (b ++ ((c ++ d) ++ e))
    regroup a b c d e = simp append_assoc
seen_can Return rest octets h on = tail_can [] (13 ∷ 10 ∷ []) rest octets h refl
seen_can Feed rest octets h on = tail_can (13 ∷ []) (10 ∷ []) rest octets h refl
seen_can (Trailer p f l) rest octets h on =
    let e = can_end p f l h.0 h.2 in (
      e.0,
      octets,
      (h.0 ++ e.0, chunks_more rest octets h.0 e.0 h.1, (h.0 ++ e.0, [], e.1, sym (append-nil (h.0 ++ e.0)))),
    )

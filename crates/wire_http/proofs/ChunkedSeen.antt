-- What has been read of a body in chunks, by the stage behind it.
use Rattle.std.proofs.Common.{◌≡◌, ℕ, zero, suc, ◌+◌, ◌-◌, ◌<◌, Bool, true, false, ◌==◌, cond, List, [], ◌∷◌, ◌++◌, length, refl, sym, ap, ◌∙◌, subst, arith, append_assoc, append-nil, length-append, Option, Some, None, inl, inr}
use Rattle.std.specs.List.{flat_map, AllByRecursion}
use Rattle.std.proofs.lemmas.Grind.{flat_map-append}
use Rattle.std.proofs.lemmas.Bool.Decides.{nat_tests}
use Rattle.httparse.specs.Grammar.{ChunkLine, chunk_size, print_chunk_line}
use Rattle.efi_base.specs.declared.response.Part.TheVariants as part
use Rattle.wire_http.specs.declared.stage.Stage.{Stage}
use Rattle.wire_http.specs.declared.stage.Stage.TheVariants.{Done, Bad, Left, UntilEnd, Line, Octets, Return, Feed, Trailer}
use Rattle.wire_http.specs.declared.chunk_line.LinePlace.{LinePlace}
use Rattle.wire_http.specs.declared.trailer.FieldPlace.{FieldPlace}
use Rattle.wire_http.specs.Chunked.{IsLine, Chunk, IsChunk, chunk_text, octets_of, HasChunks, HasTrailer, ShowsOctets}
use Rattle.wire_http.specs.Stages.{walk, step, put_front, wants_octets, line_done, octets_stage, kept_line, kept_trailer, fits_line, fits_trailer, next_place, next_size, ends_line, next_field_place, next_fields, ends_trailer}
use Rattle.wire_http.proofs.LineSeen.{SeenLine, seen_step, ended_by}
use Rattle.wire_http.proofs.RunLaws.{octets_some}
use Rattle.wire_http.proofs.ChunkedWalks.{done_some, at_line}
use Rattle.wire_http.proofs.TrailerSeen.{SeenTrailer, trailer_step, trailer_ended, trailer_start}

-- in a chunk line
pub record AtLine (p : LinePlace) (s l : ℕ) (rest octets : List ℕ) : Type 0 where
  pub chunks : List Chunk
  pub each : AllByRecursion IsChunk chunks
  pub here : List ℕ
  pub seen : SeenLine p s l here
  pub text : rest ≡ flat_map chunk_text chunks ++ here
  pub octets_are : octets ≡ octets_of chunks

-- among the octets of a chunk, of which n are missing
pub record AtOctets (n : ℕ) (rest octets : List ℕ) : Type 0 where
  pub chunks : List Chunk
  pub each : AllByRecursion IsChunk chunks
  pub line : ChunkLine
  pub valid : IsLine line
  pub front : List ℕ
  pub count : length front + n ≡ chunk_size line
  pub some : 0 < n
  pub text : rest ≡ flat_map chunk_text chunks ++ (print_chunk_line line ++ front)
  pub octets_are : octets ≡ octets_of chunks ++ front

-- behind the octets of a chunk and a tail
pub record AtTail (tail rest octets : List ℕ) : Type 0 where
  pub chunks : List Chunk
  pub each : AllByRecursion IsChunk chunks
  pub chunk : Chunk
  pub valid : IsChunk chunk
  pub text : rest ≡ flat_map chunk_text chunks ++ (print_chunk_line chunk.line ++ (chunk.bytes ++ tail))
  pub octets_are : octets ≡ octets_of chunks ++ chunk.bytes

-- in a trailer, or behind it
abbrev pub AtTrailer : Stage → List ℕ → Type 0
AtTrailer Done after = HasTrailer after
AtTrailer (Bad part.Head) after = ⊥
AtTrailer (Bad part.Length) after = ⊥
AtTrailer (Bad part.Chunk) after = ⊥
AtTrailer (Bad part.Trailer) after = Unit {0}
AtTrailer (Left n) after = ⊥
AtTrailer UntilEnd after = ⊥
AtTrailer (Line p s l) after = ⊥
AtTrailer (Octets n) after = ⊥
AtTrailer Return after = ⊥
AtTrailer Feed after = ⊥
AtTrailer (Trailer p f l) after = SeenTrailer p f l after

abbrev pub BehindChunks : Stage → List ℕ → List ℕ → Type 0
BehindChunks s rest octets = (after : List ℕ) × HasChunks rest octets after × AtTrailer s after

-- what was read, and the octets placed
abbrev pub Seen : Stage → List ℕ → List ℕ → Type 0
Seen Done rest octets = BehindChunks Done rest octets
Seen (Bad part.Head) rest octets = ⊥
Seen (Bad part.Length) rest octets = ⊥
Seen (Bad part.Chunk) rest octets = ShowsOctets rest octets
Seen (Bad part.Trailer) rest octets = BehindChunks (Bad part.Trailer) rest octets
Seen (Left n) rest octets = ⊥
Seen UntilEnd rest octets = ⊥
Seen (Line p s l) rest octets = AtLine p s l rest octets
Seen (Octets n) rest octets = AtOctets n rest octets
Seen Return rest octets = AtTail [] rest octets
Seen Feed rest octets = AtTail (13 ∷ []) rest octets
Seen (Trailer p f l) rest octets = BehindChunks (Trailer p f l) rest octets

-- ---- more octets behind

pub chunks_more : (rest body after more : List ℕ) → HasChunks rest body after → HasChunks (rest ++ more) body (after ++ more)
chunks_more rest body after more h = record {
  chunks = h.chunks;
  each = h.each;
  last = h.last;
  last_valid = h.last_valid;
  last_size = h.last_size;
  text = ap (λ (t : List ℕ). t ++ more) h.text ∙ regroup (flat_map chunk_text h.chunks) (print_chunk_line h.last) after more;
  body_is = h.body_is;
}
  where
    regroup : (a b c d : List ℕ) → (a ++ (b ++ c)) ++ d ≡ a ++ (b ++ (c ++ d))
    regroup a b c d = simp append_assoc

pub trailer_more : (after more : List ℕ) → HasTrailer after → HasTrailer (after ++ more)
trailer_more after more h = (h.0, h.1 ++ more, h.2, ap (λ (t : List ℕ). t ++ more) h.3 ∙ append_assoc h.0 h.1 more)

pub shows_more : (rest octets more : List ℕ) → ShowsOctets rest octets → ShowsOctets (rest ++ more) octets
shows_more rest octets more (inl h) = inl (record {
  chunks = h.chunks;
  each = h.each;
  more = h.more ++ more;
  text = ap (λ (t : List ℕ). t ++ more) h.text ∙ append_assoc (flat_map chunk_text h.chunks) h.more more;
  octets_are = h.octets_are;
})
shows_more rest octets more (inr h) = inr (record {
  chunks = h.chunks;
  each = h.each;
  line = h.line;
  valid = h.valid;
  front = h.front;
  within = h.within;
  more = h.more ++ more;
  text = ap (λ (t : List ℕ). t ++ more) h.text ∙ regroup (flat_map chunk_text h.chunks) (print_chunk_line h.line) h.front h.more more;
  octets_are = h.octets_are;
})
  where
    regroup : (a b c d e : List ℕ) → (a ++ (b ++ (c ++ d))) ++ e ≡ a ++ (b ++ (c ++ (d ++ e)))
    regroup a b c d e = simp append_assoc

-- ---- octets that stand in front

shows_tail : (rest octets after : List ℕ) → HasChunks rest octets after → ShowsOctets rest octets
shows_tail rest octets after h = inl (record {
  chunks = h.chunks;
  each = h.each;
  more = print_chunk_line h.last ++ after;
  text = h.text;
  octets_are = h.body_is;
})

shows_chunk : (tail rest octets : List ℕ) → AtTail tail rest octets → ShowsOctets rest octets
shows_chunk tail rest octets h = inr (record {
  chunks = h.chunks;
  each = h.each;
  line = h.chunk.line;
  valid = h.valid.line;
  front = h.chunk.bytes;
  within = omega (arith, h.valid.count);
  more = tail;
  text = h.text;
  octets_are = h.octets_are;
})

pub seen_shows : (s : Stage) (rest octets : List ℕ) → Seen s rest octets → ShowsOctets rest octets
seen_shows Done rest octets h = shows_tail rest octets h.0 h.1
seen_shows (Bad part.Head) rest octets h = absurd h
seen_shows (Bad part.Length) rest octets h = absurd h
seen_shows (Bad part.Chunk) rest octets h = h
seen_shows (Bad part.Trailer) rest octets h = shows_tail rest octets h.0 h.1
seen_shows (Left n) rest octets h = absurd h
seen_shows UntilEnd rest octets h = absurd h
seen_shows (Line p s l) rest octets h =
    inl (record { chunks = h.chunks; each = h.each; more = h.here; text = h.text; octets_are = h.octets_are })
seen_shows (Octets n) rest octets h = inr (record {
  chunks = h.chunks;
  each = h.each;
  line = h.line;
  valid = h.valid;
  front = h.front;
  within = omega (arith, h.count);
  more = [];
  text = h.text ∙ ap (λ (t : List ℕ). flat_map chunk_text h.chunks ++ (print_chunk_line h.line ++ t)) (sym (append-nil h.front));
  octets_are = h.octets_are;
})
seen_shows Return rest octets h = shows_chunk [] rest octets h
seen_shows Feed rest octets h = shows_chunk (13 ∷ []) rest octets h
seen_shows (Trailer p f l) rest octets h = shows_tail rest octets h.0 h.1

-- ---- one more octet

kept_at_trailer : (o : Option FieldPlace) (f l : ℕ) (after : List ℕ)
    → ((q : FieldPlace) → o ≡ Some q → fits_trailer q f l ≡ true → SeenTrailer q f l after) → AtTrailer (kept_trailer o f l) after
kept_at_trailer None f l after goes_on = tt
kept_at_trailer (Some q) f l after goes_on = by (fits_trailer q f l) refl
  where
    by : (t : Bool) → fits_trailer q f l ≡ t → AtTrailer (cond t (Trailer q f l) (Bad part.Trailer)) after
    by true e = goes_on q refl e
    by false e = tt

pub trailer_at_step : (s : Stage) (b : ℕ) (after : List ℕ) → AtTrailer s after → AtTrailer (step s b) (after ++ b ∷ [])
trailer_at_step Done b after h = trailer_more after (b ∷ []) h
trailer_at_step (Bad part.Head) b after h = absurd h
trailer_at_step (Bad part.Length) b after h = absurd h
trailer_at_step (Bad part.Chunk) b after h = absurd h
trailer_at_step (Bad part.Trailer) b after h = tt
trailer_at_step (Left n) b after h = absurd h
trailer_at_step UntilEnd b after h = absurd h
trailer_at_step (Line p s l) b after h = absurd h
trailer_at_step (Octets n) b after h = absurd h
trailer_at_step Return b after h = absurd h
trailer_at_step Feed b after h = absurd h
trailer_at_step (Trailer p f l) b after h = by (ends_trailer p b) refl
  where
    by : (t : Bool) → ends_trailer p b ≡ t
        → AtTrailer (cond t Done (kept_trailer (next_field_place p b) (next_fields p f b) (l + 1))) (after ++ b ∷ [])
    by true e = (after ++ b ∷ [], [], trailer_ended p f l b after h e, sym (append-nil (after ++ b ∷ [])))
    by false e =
        kept_at_trailer (next_field_place p b) (next_fields p f b) (l + 1) (after ++ b ∷ [])
        (λ q next fits. trailer_step p q f l b after h next fits)

same_stage : (t : Bool) (b : ℕ) (w : List ℕ × Stage) → (put_front t b w).1 ≡ w.1
same_stage true b w = refl
same_stage false b w = refl

pub trailer_at_walk : (s : Stage) (after xs : List ℕ) → AtTrailer s after → AtTrailer (walk s xs).1 (after ++ xs)
trailer_at_walk s after [] h = subst (AtTrailer s) (sym (append-nil after)) h
trailer_at_walk s after (x ∷ xs) h =
    let later = trailer_at_walk (step s x) (after ++ x ∷ []) xs (trailer_at_step s x after h) in
    subst (λ (t : Stage). AtTrailer t (after ++ x ∷ xs)) (sym (same_stage (wants_octets s) x (walk (step s x) xs)))
    (subst (AtTrailer (walk (step s x) xs).1) (append_assoc after (x ∷ []) xs) later)

-- the octet of the body that this one is, if it is one
abbrev pub one : Bool → ℕ → List ℕ
one true b = b ∷ []
one false b = []

behind_step : (s : Stage) (b : ℕ) (rest octets : List ℕ) → BehindChunks s rest octets
    → BehindChunks (step s b) (rest ++ b ∷ []) (octets ++ [])
behind_step s b rest octets h = (
  h.0 ++ b ∷ [],
  subst (λ (o : List ℕ). HasChunks (rest ++ b ∷ []) o (h.0 ++ b ∷ [])) (sym (append-nil octets)) (chunks_more rest octets h.0 (b ∷ []) h.1),
  trailer_at_step s b h.0 h.2,
)

-- the stages behind the last chunk line
pub from_behind : (s : Stage) (rest octets after : List ℕ) → HasChunks rest octets after → AtTrailer s after → Seen s rest octets
from_behind Done rest octets after h t = (after, h, t)
from_behind (Bad part.Head) rest octets after h t = absurd t
from_behind (Bad part.Length) rest octets after h t = absurd t
from_behind (Bad part.Chunk) rest octets after h t = absurd t
from_behind (Bad part.Trailer) rest octets after h t = (after, h, t)
from_behind (Left n) rest octets after h t = absurd t
from_behind UntilEnd rest octets after h t = absurd t
from_behind (Line p s l) rest octets after h t = absurd t
from_behind (Octets n) rest octets after h t = absurd t
from_behind Return rest octets after h t = absurd t
from_behind Feed rest octets after h t = absurd t
from_behind (Trailer p f l) rest octets after h t = (after, h, t)

behind_seen : (s : Stage) (b : ℕ) (rest octets : List ℕ) → BehindChunks s rest octets → Seen (step s b) (rest ++ b ∷ []) (octets ++ [])
behind_seen s b rest octets h =
    let next = behind_step s b rest octets h in
    from_behind (step s b) (rest ++ b ∷ []) (octets ++ []) next.0 next.1 next.2

-- nothing of the body came
shows_on : (rest octets : List ℕ) (b : ℕ) → ShowsOctets rest octets → ShowsOctets (rest ++ b ∷ []) (octets ++ [])
shows_on rest octets b h = subst (ShowsOctets (rest ++ b ∷ [])) (sym (append-nil octets)) (shows_more rest octets (b ∷ []) h)

kept_seen : (o : Option LinePlace) (s l : ℕ) (rest octets : List ℕ) → ShowsOctets rest octets
    → ((q : LinePlace) → o ≡ Some q → fits_line q s l ≡ true → AtLine q s l rest octets) → Seen (kept_line o s l) rest octets
kept_seen None s l rest octets shown goes_on = shown
kept_seen (Some q) s l rest octets shown goes_on = by (fits_line q s l) refl
  where
    by : (t : Bool) → fits_line q s l ≡ t → Seen (cond t (Line q s l) (Bad part.Chunk)) rest octets
    by true e = goes_on q refl e
    by false e = shown

line_end_seen : (p : LinePlace) (s l b : ℕ) (rest octets : List ℕ) → AtLine p s l rest octets → ends_line p b ≡ true
    → Seen (line_done s) (rest ++ b ∷ []) (octets ++ [])
line_end_seen p s l b rest octets h ends =
    let k = ended_by p s l b h.here h.seen ends in
    let text : rest ++ b ∷ [] ≡ flat_map chunk_text h.chunks ++ print_chunk_line k.0 =
    ap (λ (t : List ℕ). t ++ b ∷ []) h.text ∙ append_assoc (flat_map chunk_text h.chunks) h.here (b ∷ [])
    ∙ ap (λ (t : List ℕ). flat_map chunk_text h.chunks ++ t) (sym k.3) in
    let octets_same : octets ++ [] ≡ octets_of h.chunks = append-nil octets ∙ h.octets_are in
    by s k.0 k.1 k.2 text octets_same
  where
    by : (s : ℕ) (k : ChunkLine) → IsLine k → chunk_size k ≡ s → rest ++ b ∷ [] ≡ flat_map chunk_text h.chunks ++ print_chunk_line k
        → octets ++ [] ≡ octets_of h.chunks → Seen (line_done s) (rest ++ b ∷ []) (octets ++ [])
    by zero k valid size text same = (
      [],
      record {
        chunks = h.chunks;
        each = h.each;
        last = k;
        last_valid = valid;
        last_size = size;
        text = text ∙ ap (λ (t : List ℕ). flat_map chunk_text h.chunks ++ t) (sym (append-nil (print_chunk_line k)));
        body_is = same;
      },
      trailer_start,
    )
    by (suc n) k valid size text same =
        let stage : line_done (suc n) ≡ Octets (suc n) = done_some (suc n) (omega arith) ∙ octets_some n in
        let here : AtOctets (suc n) (rest ++ b ∷ []) (octets ++ []) = record {
          chunks = h.chunks;
          each = h.each;
          line = k;
          valid = valid;
          front = [];
          count = omega (arith, size);
          some = omega arith;
          text = text ∙ ap (λ (t : List ℕ). flat_map chunk_text h.chunks ++ t) (sym (append-nil (print_chunk_line k)));
          octets_are = same ∙ sym (append-nil (octets_of h.chunks));
        } in
        subst (λ (s : Stage). Seen s (rest ++ b ∷ []) (octets ++ [])) (sym stage) here

line_seen : (p : LinePlace) (s l b : ℕ) (rest octets : List ℕ) → AtLine p s l rest octets
    → Seen (step (Line p s l) b) (rest ++ b ∷ []) (octets ++ [])
line_seen p s l b rest octets h = by (ends_line p b) refl
  where
    by : (t : Bool) → ends_line p b ≡ t
        → Seen (cond t (line_done s) (kept_line (next_place p b) (next_size p s b) (l + 1))) (rest ++ b ∷ []) (octets ++ [])
    by true e = line_end_seen p s l b rest octets h e
    by false e =
        kept_seen (next_place p b) (next_size p s b) (l + 1) (rest ++ b ∷ []) (octets ++ [])
        (shows_on rest octets b (seen_shows (Line p s l) rest octets h))
        (λ q next fits. record {
          chunks = h.chunks;
          each = h.each;
          here = h.here ++ b ∷ [];
          seen = seen_step p q s l b h.here h.seen next fits;
          text = ap (λ (t : List ℕ). t ++ b ∷ []) h.text ∙ append_assoc (flat_map chunk_text h.chunks) h.here (b ∷ []);
          octets_are = append-nil octets ∙ h.octets_are;
        })

octets_seen : (n b : ℕ) (rest octets : List ℕ) → AtOctets n rest octets
    → Seen (octets_stage (n - 1)) (rest ++ b ∷ []) (octets ++ b ∷ [])
octets_seen zero b rest octets h = absurd (omega (arith, h.some))
octets_seen (suc n) b rest octets h =
    let less : suc n - 1 ≡ n = omega arith in
    subst (λ (m : ℕ). Seen (octets_stage m) (rest ++ b ∷ []) (octets ++ b ∷ [])) (sym less) (by n (omega (arith, h.count)))
  where
    text : rest ++ b ∷ [] ≡ flat_map chunk_text h.chunks ++ (print_chunk_line h.line ++ (h.front ++ b ∷ []))
    text = ap (λ (t : List ℕ). t ++ b ∷ []) h.text ∙ regroup (flat_map chunk_text h.chunks) (print_chunk_line h.line) h.front (b ∷ [])
      where
        regroup : (a b c d : List ℕ) → (a ++ (b ++ c)) ++ d ≡ a ++ (b ++ (c ++ d))
        regroup a b c d = simp append_assoc

    octets_same : octets ++ b ∷ [] ≡ octets_of h.chunks ++ (h.front ++ b ∷ [])
    octets_same = ap (λ (t : List ℕ). t ++ b ∷ []) h.octets_are ∙ append_assoc (octets_of h.chunks) h.front (b ∷ [])

    by : (m : ℕ) → length h.front + suc m ≡ chunk_size h.line → Seen (octets_stage m) (rest ++ b ∷ []) (octets ++ b ∷ [])
    by zero count = record {
      chunks = h.chunks;
      each = h.each;
      chunk = record { line = h.line; bytes = h.front ++ b ∷ [] };
      valid = record {
        line = h.valid;
        some = omega (arith, length-append h.front (b ∷ []));
        count = omega (arith, length-append h.front (b ∷ []));
      };
      text = text ∙ ap (λ (t : List ℕ). flat_map chunk_text h.chunks ++ (print_chunk_line h.line ++ t)) (sym (append-nil (h.front ++ b ∷ [])));
      octets_are = octets_same;
    }
    by (suc m) count =
        let here : AtOctets (suc m) (rest ++ b ∷ []) (octets ++ b ∷ []) = record {
          chunks = h.chunks;
          each = h.each;
          line = h.line;
          valid = h.valid;
          front = h.front ++ b ∷ [];
          count = omega (arith, length-append h.front (b ∷ []));
          some = omega arith;
          text = text;
          octets_are = octets_same;
        } in
        subst (λ (s : Stage). Seen s (rest ++ b ∷ []) (octets ++ b ∷ [])) (sym (octets_some m)) here

is : (b c : ℕ) → (b == c) ≡ true → b ≡ c
is b c e = grind (arith, nat_tests)

return_seen : (b : ℕ) (rest octets : List ℕ) → AtTail [] rest octets → Seen (step Return b) (rest ++ b ∷ []) (octets ++ [])
return_seen b rest octets h = by (b == 13) refl
  where
    by : (t : Bool) → (b == 13) ≡ t → Seen (cond t Feed (Bad part.Chunk)) (rest ++ b ∷ []) (octets ++ [])
    by true e = record {
      chunks = h.chunks;
      each = h.each;
      chunk = h.chunk;
      valid = h.valid;
      text = ap (λ (t : List ℕ). t ++ b ∷ []) h.text
          ∙ regroup (flat_map chunk_text h.chunks) (print_chunk_line h.chunk.line) h.chunk.bytes (b ∷ [])
          ∙ ap (λ (c : ℕ). flat_map chunk_text h.chunks ++ (print_chunk_line h.chunk.line ++ (h.chunk.bytes ++ c ∷ []))) (is b 13 e);
      octets_are = append-nil octets ∙ h.octets_are;
    }
      where
        regroup : (a b c d : List ℕ) → (a ++ (b ++ (c ++ []))) ++ d ≡ a ++ (b ++ (c ++ d))
        regroup a b c d = simp (append_assoc, append-nil)
    by false e = shows_on rest octets b (shows_chunk [] rest octets h)

pub each_more : (cs : List Chunk) (c : Chunk) → AllByRecursion IsChunk cs → IsChunk c → AllByRecursion IsChunk (cs ++ c ∷ [])
each_more [] c each valid = (valid, tt)
each_more (d ∷ cs) c each valid = (each.0, each_more cs c each.1 valid)

pub text_more : (cs : List Chunk) (c : Chunk) → flat_map chunk_text (cs ++ c ∷ []) ≡ flat_map chunk_text cs ++ chunk_text c
text_more cs c =
    flat_map-append chunk_text cs (c ∷ []) ∙ ap (λ (t : List ℕ). flat_map chunk_text cs ++ t) (append-nil (chunk_text c))

octets_more : (cs : List Chunk) (c : Chunk) → octets_of (cs ++ c ∷ []) ≡ octets_of cs ++ c.bytes
octets_more cs c =
    flat_map-append (λ (c : Chunk). c.bytes) cs (c ∷ []) ∙ ap (λ (t : List ℕ). octets_of cs ++ t) (append-nil c.bytes)

feed_seen : (b : ℕ) (rest octets : List ℕ) → AtTail (13 ∷ []) rest octets → Seen (step Feed b) (rest ++ b ∷ []) (octets ++ [])
feed_seen b rest octets h = by (b == 10) refl
  where
    by : (t : Bool) → (b == 10) ≡ t → Seen (cond t at_line (Bad part.Chunk)) (rest ++ b ∷ []) (octets ++ [])
    by true e = record {
      chunks = h.chunks ++ h.chunk ∷ [];
      each = each_more h.chunks h.chunk h.each h.valid;
      here = [];
      seen = record { count = refl; fits = refl; shape = (refl, refl) };
      text = ap (λ (t : List ℕ). t ++ b ∷ []) h.text
          ∙ regroup (flat_map chunk_text h.chunks) (print_chunk_line h.chunk.line) h.chunk.bytes (b ∷ [])
          ∙ ap (λ (c : ℕ). flat_map chunk_text h.chunks ++ (print_chunk_line h.chunk.line ++ (h.chunk.bytes ++ (13 ∷ c ∷ [])))) (is b 10 e)
          ∙ sym (text_more h.chunks h.chunk)
          ∙ sym (append-nil (flat_map chunk_text (h.chunks ++ h.chunk ∷ [])));
      octets_are = append-nil octets ∙ h.octets_are ∙ sym (octets_more h.chunks h.chunk);
    }
      where
        regroup : (a b c d : List ℕ) → (a ++ (b ++ (c ++ 13 ∷ []))) ++ d ≡ a ++ (b ++ (c ++ (13 ∷ d)))
        regroup a b c d = simp append_assoc
    by false e = shows_on rest octets b (shows_chunk (13 ∷ []) rest octets h)

pub seen_more : (s : Stage) (b : ℕ) (rest octets : List ℕ) → Seen s rest octets
    → Seen (step s b) (rest ++ b ∷ []) (octets ++ one (wants_octets s) b)
seen_more Done b rest octets h = behind_seen Done b rest octets h
seen_more (Bad part.Head) b rest octets h = absurd h
seen_more (Bad part.Length) b rest octets h = absurd h
seen_more (Bad part.Chunk) b rest octets h = shows_on rest octets b h
seen_more (Bad part.Trailer) b rest octets h = behind_seen (Bad part.Trailer) b rest octets h
seen_more (Left n) b rest octets h = absurd h
seen_more UntilEnd b rest octets h = absurd h
seen_more (Line p s l) b rest octets h = line_seen p s l b rest octets h
seen_more (Octets n) b rest octets h = octets_seen n b rest octets h
seen_more Return b rest octets h = return_seen b rest octets h
seen_more Feed b rest octets h = feed_seen b rest octets h
seen_more (Trailer p f l) b rest octets h = behind_seen (Trailer p f l) b rest octets h

pub seen_walk : (s : Stage) (rest octets xs : List ℕ) → Seen s rest octets → Seen (walk s xs).1 (rest ++ xs) (octets ++ (walk s xs).0)
seen_walk s rest octets [] h =
    subst (λ (r : List ℕ). Seen s r (octets ++ [])) (sym (append-nil rest)) (subst (Seen s rest) (sym (append-nil octets)) h)
seen_walk s rest octets (x ∷ xs) h =
    by (wants_octets s) (seen_walk (step s x) (rest ++ x ∷ []) (octets ++ one (wants_octets s) x) xs (seen_more s x rest octets h))
  where
    by : (t : Bool) → Seen (walk (step s x) xs).1 ((rest ++ x ∷ []) ++ xs) ((octets ++ one t x) ++ (walk (step s x) xs).0)
        → Seen (put_front t x (walk (step s x) xs)).1 (rest ++ x ∷ xs) (octets ++ (put_front t x (walk (step s x) xs)).0)
    by true later =
        subst (λ (r : List ℕ). Seen (walk (step s x) xs).1 r (octets ++ (x ∷ (walk (step s x) xs).0))) (append_assoc rest (x ∷ []) xs)
        (subst (Seen (walk (step s x) xs).1 ((rest ++ x ∷ []) ++ xs)) (append_assoc octets (x ∷ []) (walk (step s x) xs).0) later)
    by false later =
        subst (λ (r : List ℕ). Seen (walk (step s x) xs).1 r (octets ++ (walk (step s x) xs).0)) (append_assoc rest (x ∷ []) xs)
        (subst (λ (o : List ℕ). Seen (walk (step s x) xs).1 ((rest ++ x ∷ []) ++ xs) (o ++ (walk (step s x) xs).0)) (append-nil octets) later)

-- from the start
pub seen_all : (rest : List ℕ) → Seen (walk at_line rest).1 rest (walk at_line rest).0
seen_all rest =
    seen_walk at_line [] [] rest
    (record { chunks = []; each = tt; here = []; seen = record { count = refl; fits = refl; shape = (refl, refl) }; text = refl; octets_are = refl })

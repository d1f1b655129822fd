use Rattle.std.proofs.Common.{◌∙◌, ◌≡◌, ◌+◌, ◌-◌, ◌%◌, ◌<◌, ◌≤◌, ℕ, false, min, max, length, get_or, ap, refl, arith}
use Rattle.efi_window.specs.Kept.{is_kept, slots}
use Rattle.efi_window.specs.Places.{put}
use Rattle.std.specs.Vec.{with_items}
use Rattle.std.proofs.lemmas.List.{with_items_is}
use Rattle.efi_window.proofs.Parts.{put-window, part-length, part-some, part-none}
use Rattle.efi_window.proofs.Rounds.{placed-as}
use Rattle.efi_window.proofs.Words.{same-longer, kept-longer}
use Rattle.efi_window.proofs.Cells.{slots-put, slots-longer, free-put, last-put}
use Rattle.efi_window.proofs.by_place.Window.put.Goals as goal

pub lengthen-requires-then-not-is_empty : goal.lengthen-requires-then-not-is_empty
lengthen-requires-then-not-is_empty c = c.words_for.ensures.least _ (omega (arith, c.reach-used.ensures, c.self.invariant.words_memory))

pub invariant_of-self : goal.invariant_of-self
invariant_of-self c =
    let base : ℕ = c.self.inside.taken - c.self.inside.origin in
    let at : ℕ = c.max-first.result - c.self.inside.origin in
    let some = part-some _ _ c.is_empty.ensures c.if-not-is_empty.true in
    let most : length c.within-bytes.result.now ≤ c.saturating_sub.result =
    part-length c.saturating_sub.result (c.max-first.result - c.args.place) c.args.bytes.now c.within-bytes.result.now c.within-bytes.ensures in
    let p = placed-as c.self.inside.room at c.within-bytes.result.now c.deref_mut.result.now c.deref_mut-then-not-is_empty.result.now c.put.new.ring c.put.new.words
    c.lengthen.new.list.items c.lengthen-then-not-is_empty.new.list.items c.deref_mut.ensures.value c.deref_mut-then-not-is_empty.ensures.value c.put.ensures in
    let bytes = with_items_is c.lengthen.new.list c.put.new.ring (c.put.ensures.ring_len ∙ c.deref_mut.ensures.len) in
    let bits = with_items_is c.lengthen-then-not-is_empty.new.list c.put.new.words (c.put.ensures.words_len ∙ c.deref_mut-then-not-is_empty.ensures.len) in
    let ring : length c.put.new.ring ≡ length c.lengthen.new.list.items = c.put.ensures.ring_len ∙ ap length c.deref_mut.ensures.value in
    let first : c.self.inside.taken ≤ c.max-first.result = omega (arith, c.max-first.ensures) in
    let order : base ≤ at = omega (arith, c.self.invariant.origin) in
    let ahead : at - base ≡ c.max-first.result - c.self.inside.taken = omega (arith, c.self.invariant.origin) in
    let fits : c.max-first.result - c.self.inside.taken + length c.within-bytes.result.now ≤ c.self.inside.cap =
    omega (arith, c.saturating_sub.ensures, c.min-edge.ensures) in
    let more : (i : ℕ) → is_kept c.lengthen-then-not-is_empty.new.list.items i ≡ is_kept c.self.inside.words.items i =
    λ i. ap (λ w. is_kept w i) c.lengthen-then-not-is_empty.ensures.items ∙ kept-longer _ _ i in
    let free : (j : ℕ) → c.self.inside.span ≤ j → j < c.self.inside.room → is_kept c.lengthen-then-not-is_empty.new.list.items ((base + j) % c.self.inside.room) ≡ false =
    λ j h k. more _ ∙ c.self.invariant.free j h k in
    let within : at - base + length c.within-bytes.result.now ≤ c.self.inside.room = omega (arith, c.self.invariant.cap) in
    let words = ap length c.deref_mut-then-not-is_empty.ensures.value in
    let below : c.max-first.result + length c.within-bytes.result.now ≤ 4611686018427387904 =
    omega (arith, c.saturating_sub.ensures, c.min-edge.ensures) in
    let used : min (base + c.max-self-inside.result) c.self.inside.room ≤ max (min (base + c.self.inside.span) c.self.inside.room) (min (at + length c.within-bytes.result.now) c.self.inside.room) =
    omega (arith, c.max-self-inside.ensures, ahead, order) in
    record {
      cap = c.self.invariant.cap;
      ring = omega (arith, used, ap length bytes, ring, c.reach-used.ensures, c.lengthen.ensures.len, c.lengthen.new.list.ok.0, c.self.invariant.ring);
      words = omega (arith, used, ap length bits, c.put.ensures.words_len, words, c.reach-used.ensures, c.words_for.ensures.enough, c.lengthen-then-not-is_empty.ensures.len, c.lengthen-then-not-is_empty.new.list.ok.0, c.self.invariant.words);
      ring_memory = omega (arith, c.lengthen.ensures.capacity, c.self.invariant.ring_memory);
      words_memory = omega (arith, c.lengthen-then-not-is_empty.ensures.capacity, c.self.invariant.words_memory);
      span = omega (arith, c.max-self-inside.ensures, c.self.invariant.span);
      taken = omega (arith, c.max-self-inside.ensures, c.self.invariant.taken);
      origin = c.self.invariant.origin;
      free = λ i h k. ap (λ w. is_kept w ((base + i) % c.self.inside.room)) bits ∙ free-put base at c.self.inside.room c.within-bytes.result.now c.lengthen.new.list.items c.lengthen-then-not-is_empty.new.list.items
          c.put.new.ring c.put.new.words order within p c.self.inside.span i free (omega (arith, c.max-self-inside.ensures)) k;
      last = λ _. ap (λ w. is_kept w ((base + (c.max-self-inside.result - 1)) % c.self.inside.room)) bits
          ∙ ap (λ n. is_kept c.put.new.words ((base + (n - 1)) % c.self.inside.room)) (omega (arith, c.max-self-inside.ensures, ahead))
          ∙ last-put base at c.self.inside.room c.self.inside.span c.within-bytes.result.now c.lengthen.new.list.items c.lengthen-then-not-is_empty.new.list.items
          c.put.new.ring c.put.new.words order some p (λ l. more _ ∙ c.self.invariant.last l);
    }

pub returns-then-not-is_empty : goal.returns-then-not-is_empty
returns-then-not-is_empty c =
    let base : ℕ = c.self.inside.taken - c.self.inside.origin in
    let at : ℕ = c.max-first.result - c.self.inside.origin in
    let some = part-some _ _ c.is_empty.ensures c.if-not-is_empty.true in
    let most : length c.within-bytes.result.now ≤ c.saturating_sub.result =
    part-length c.saturating_sub.result (c.max-first.result - c.args.place) c.args.bytes.now c.within-bytes.result.now c.within-bytes.ensures in
    let p = placed-as c.self.inside.room at c.within-bytes.result.now c.deref_mut.result.now c.deref_mut-then-not-is_empty.result.now c.put.new.ring c.put.new.words
    c.lengthen.new.list.items c.lengthen-then-not-is_empty.new.list.items c.deref_mut.ensures.value c.deref_mut-then-not-is_empty.ensures.value c.put.ensures in
    let bytes = with_items_is c.lengthen.new.list c.put.new.ring (c.put.ensures.ring_len ∙ c.deref_mut.ensures.len) in
    let bits = with_items_is c.lengthen-then-not-is_empty.new.list c.put.new.words (c.put.ensures.words_len ∙ c.deref_mut-then-not-is_empty.ensures.len) in
    let ring : length c.put.new.ring ≡ length c.lengthen.new.list.items = c.put.ensures.ring_len ∙ ap length c.deref_mut.ensures.value in
    let first : c.self.inside.taken ≤ c.max-first.result = omega (arith, c.max-first.ensures) in
    let order : base ≤ at = omega (arith, c.self.invariant.origin) in
    let ahead : at - base ≡ c.max-first.result - c.self.inside.taken = omega (arith, c.self.invariant.origin) in
    let fits : c.max-first.result - c.self.inside.taken + length c.within-bytes.result.now ≤ c.self.inside.cap =
    omega (arith, c.saturating_sub.ensures, c.min-edge.ensures) in
    let more : (i : ℕ) → is_kept c.lengthen-then-not-is_empty.new.list.items i ≡ is_kept c.self.inside.words.items i =
    λ i. ap (λ w. is_kept w i) c.lengthen-then-not-is_empty.ensures.items ∙ kept-longer _ _ i in
    let free : (j : ℕ) → c.self.inside.span ≤ j → j < c.self.inside.room → is_kept c.lengthen-then-not-is_empty.new.list.items ((base + j) % c.self.inside.room) ≡ false =
    λ j h k. more _ ∙ c.self.invariant.free j h k in
    let within : at - base + length c.within-bytes.result.now ≤ c.self.inside.room = omega (arith, c.self.invariant.cap) in
    let put-here = slots-put base at c.self.inside.room c.within-bytes.result.now c.lengthen.new.list.items c.lengthen-then-not-is_empty.new.list.items
    c.put.new.ring c.put.new.words order within p c.self.inside.span some (omega (arith, c.self.invariant.span, c.self.invariant.cap)) free in
    let was = slots-longer c.self.inside.room c.self.inside.ring.items c.lengthen.new.list.items c.self.inside.words.items c.lengthen-then-not-is_empty.new.list.items base c.self.inside.span
    (λ i. ap (λ l. get_or l i 0) c.lengthen.ensures.items ∙ same-longer c.self.inside.ring.items 0 (c.reach-used.result - c.self.inside.ring.len) i) more in
    rw (← c.self.view_is)
    (put-window c.self.inside.room c.self.inside.cap c.self.inside.taken c.args.place c.max-first.result c.min-edge.result c.saturating_sub.result c.args.bytes.now c.within-bytes.result.now _ _
    c.max-first.ensures c.min-edge.ensures c.saturating_sub.ensures c.within-bytes.ensures
    (ap (λ l. slots c.self.inside.room l (with_items c.lengthen-then-not-is_empty.new.list c.put.new.words).items base c.max-self-inside.result) bytes
    ∙ ap (λ w. slots c.self.inside.room c.put.new.ring w base c.max-self-inside.result) bits
    ∙ ap (λ n. slots c.self.inside.room c.put.new.ring c.put.new.words base n) c.max-self-inside.ensures
    ∙ rw ahead at put-here
    ∙ ap (λ l. put (c.max-first.result - c.self.inside.taken) c.within-bytes.result.now l) was))

pub returns-else-not-is_empty : goal.returns-else-not-is_empty
returns-else-not-is_empty c =
    let none = part-none _ _ c.is_empty.ensures c.if-not-is_empty.false in
    rw (← c.self.view_is)
    (put-window _ _ _ _ _ _ _ _ _ _ _ c.max-first.ensures c.min-edge.ensures c.saturating_sub.ensures c.within-bytes.ensures
    (rw none refl))

use Rattle.std.proofs.Common.{inl, inr, ◌∙◌, ◌≡◌, ◌+◌, ◌-◌, ◌%◌, ◌<◌, ◌≤◌, ℕ, true, length, get_or, ap, sym, arith}
use Rattle.efi_window.specs.Kept.{is_kept, slots}
use Rattle.efi_window.proofs.Cells.{ready-slots, taken-bytes, slots-moved, free-moved, last-moved}
use Rattle.efi_window.proofs.Parts.{taken-window}
use Rattle.efi_window.proofs.Rounds.{up-to}
use Rattle.std.proofs.lemmas.Bool.{cases_lt}
use Rattle.std.proofs.lemmas.List.{with_items_is}
use Rattle.efi_window.proofs.by_place.Window.take.Goals as goal

pub invariant_of-self : goal.invariant_of-self
invariant_of-self c =
    let base : ℕ = c.self.inside.taken - c.self.inside.origin in
    let to : ℕ = c.self.inside.taken + c.min-count.result - c.front_of-self-inside.result in
    let old = ap length c.deref_mut.ensures.value in
    let others : (i : ℕ) → c.min-count.result ≤ i → i < c.self.inside.room
    → is_kept c.free.new.words ((base + i) % c.self.inside.room) ≡ is_kept c.self.inside.words.items ((base + i) % c.self.inside.room) =
    λ i h k. c.free.ensures.others i h k ∙ ap (λ w. is_kept w ((base + i) % c.self.inside.room)) c.deref_mut.ensures.value in
    let bits = with_items_is c.self.inside.words c.free.new.words (c.free.ensures.len ∙ c.deref_mut.ensures.len) in
    let count : c.min-count.result ≤ c.self.inside.span = omega (arith, c.min-count.ensures, c.run-ready.ensures.most) in
    let span : c.self.inside.span ≤ c.self.inside.room = omega (arith, c.self.invariant.span, c.self.invariant.cap) in
    let moved : 0 < c.self.inside.span - c.min-count.result → to ≡ base + c.min-count.result =
    λ l. omega (arith, c.front_of-self-inside.ensures.stays l, c.self.invariant.origin) in
    let used : to + (c.self.inside.span - c.min-count.result) ≤ base + c.self.inside.span = elim (cases_lt 0 (c.self.inside.span - c.min-count.result)) [
      | inl l ↦ omega (arith, moved l)
      | inr l ↦ omega (arith, c.front_of-self-inside.ensures.moves (omega arith))
    ] in
    record {
      cap = c.self.invariant.cap;
      ring = omega (arith, c.self.invariant.ring, used);
      words = omega (arith, c.self.invariant.words, used, ap length bits, c.free.ensures.len, old);
      ring_memory = c.self.invariant.ring_memory;
      words_memory = c.self.invariant.words_memory;
      span = omega (arith, c.self.invariant.span);
      taken = omega (arith, c.self.invariant.taken);
      origin = elim (cases_lt 0 (c.self.inside.span - c.min-count.result)) [
        | inl l ↦ omega (arith, c.front_of-self-inside.ensures.stays l, c.self.invariant.origin)
        | inr l ↦ omega (arith, c.front_of-self-inside.ensures.moves (omega arith))
      ];
      free = λ i h k. ap (λ w. is_kept w ((to + i) % c.self.inside.room)) bits
          ∙ free-moved c.self.inside.room c.self.inside.words.items c.free.new.words base to c.min-count.result c.self.inside.span i
          count span c.self.invariant.free c.free.ensures.freed others moved h k;
      last = λ l. ap (λ w. is_kept w ((to + (c.self.inside.span - c.min-count.result - 1)) % c.self.inside.room)) bits
          ∙ last-moved c.self.inside.room c.self.inside.words.items c.free.new.words base to c.min-count.result c.self.inside.span
          span others c.self.invariant.last l (moved l);
    }

pub copy-requires-clause-enough : goal.copy-requires-clause-enough
copy-requires-clause-enough c = λ _.
    let base : ℕ = c.self.inside.taken - c.self.inside.origin in
    let len : length c.deref-2.result.now ≡ length c.self.inside.ring.items = ap length c.deref-2.ensures.value in
    rw len (up-to base c.self.inside.room c.min-count.result (length c.self.inside.ring.items)
    (omega (arith, c.min-count.ensures, c.run-ready.ensures.most, c.self.invariant.ring)))

pub returns-clause-count : goal.returns-clause-count
returns-clause-count c =
    let base : ℕ = c.self.inside.taken - c.self.inside.origin in
    let ready = ready-slots c.self.inside.room c.self.inside.ring.items c.self.inside.words.items base c.self.inside.span c.run-ready.result c.run-ready.ensures.most
    (λ i h. ap (λ w. is_kept w ((base + i) % c.self.inside.room)) (sym c.deref.ensures.value) ∙ c.run-ready.ensures.alike i h)
    (λ h. ap (λ w. is_kept w ((base + c.run-ready.result) % c.self.inside.room)) (sym c.deref.ensures.value) ∙ c.run-ready.ensures.ends h) in
    rw (← c.self.view_is) (omega (arith, c.min-count.ensures, ready))

pub returns-clause-bytes : goal.returns-clause-bytes
returns-clause-bytes c =
    let base : ℕ = c.self.inside.taken - c.self.inside.origin in
    let kept : (i : ℕ) → i < c.run-ready.result → is_kept c.self.inside.words.items ((base + i) % c.self.inside.room) ≡ true =
    λ i h. ap (λ w. is_kept w ((base + i) % c.self.inside.room)) (sym c.deref.ensures.value) ∙ c.run-ready.ensures.alike i h in
    let ready = ready-slots c.self.inside.room c.self.inside.ring.items c.self.inside.words.items base c.self.inside.span c.run-ready.result c.run-ready.ensures.most
    kept
    (λ h. ap (λ w. is_kept w ((base + c.run-ready.result) % c.self.inside.room)) (sym c.deref.ensures.value) ∙ c.run-ready.ensures.ends h) in
    rw (← c.self.view_is)
    (taken-bytes c.self.inside.room c.self.inside.ring.items c.self.inside.words.items base c.self.inside.span c.run-ready.result c.min-count.result
    c.copy.new.out c.args.room.now ready c.run-ready.ensures.most (omega (arith, c.min-count.ensures)) c.copy.ensures.len (omega (arith, c.min-count.ensures)) kept
    (λ i h. c.copy.ensures.bytes i h
    ∙ ap (λ l. get_or l ((base + i) % c.self.inside.room) 0) c.deref-2.ensures.value)
    c.copy.ensures.rest)

pub returns-clause-window : goal.returns-clause-window
returns-clause-window c =
    let base : ℕ = c.self.inside.taken - c.self.inside.origin in
    let to : ℕ = c.self.inside.taken + c.min-count.result - c.front_of-self-inside.result in
    let others : (i : ℕ) → c.min-count.result ≤ i → i < c.self.inside.room
    → is_kept c.free.new.words ((base + i) % c.self.inside.room) ≡ is_kept c.self.inside.words.items ((base + i) % c.self.inside.room) =
    λ i h k. c.free.ensures.others i h k ∙ ap (λ w. is_kept w ((base + i) % c.self.inside.room)) c.deref_mut.ensures.value in
    let bits = with_items_is c.self.inside.words c.free.new.words (c.free.ensures.len ∙ c.deref_mut.ensures.len) in
    let moved : 0 < c.self.inside.span - c.min-count.result → to ≡ base + c.min-count.result =
    λ l. omega (arith, c.front_of-self-inside.ensures.stays l, c.self.invariant.origin) in
    rw (← c.self.view_is)
    (taken-window c.self.inside.room c.self.inside.cap c.self.inside.taken c.min-count.result _ _
    (ap (λ w. slots c.self.inside.room c.self.inside.ring.items w to (c.self.inside.span - c.min-count.result)) bits
    ∙ slots-moved c.self.inside.room c.self.inside.ring.items c.self.inside.words.items c.free.new.words base to c.min-count.result c.self.inside.span
    (omega (arith, c.min-count.ensures, c.run-ready.ensures.most)) (omega (arith, c.self.invariant.span, c.self.invariant.cap)) others moved))

pub returns-clause-bound : goal.returns-clause-bound
returns-clause-bound c =
    let base : ℕ = c.self.inside.taken - c.self.inside.origin in
    let ready = ready-slots c.self.inside.room c.self.inside.ring.items c.self.inside.words.items base c.self.inside.span c.run-ready.result c.run-ready.ensures.most
    (λ i h. ap (λ w. is_kept w ((base + i) % c.self.inside.room)) (sym c.deref.ensures.value) ∙ c.run-ready.ensures.alike i h)
    (λ h. ap (λ w. is_kept w ((base + c.run-ready.result) % c.self.inside.room)) (sym c.deref.ensures.value) ∙ c.run-ready.ensures.ends h) in
    rw (← c.self.view_is) (omega (arith, ready, c.run-ready.ensures.most, c.self.invariant.taken))

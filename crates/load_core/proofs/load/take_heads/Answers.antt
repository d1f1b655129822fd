-- Heads, and what follows them, told of the whole stream.
use Rattle.std.proofs.Common.{◌≤◌, ◌<◌, ℕ, List, length, arith, inl, inr, refl, sym, ap, ◌∙◌, subst}
use Rattle.wire_http.specs.Response.{HasNoHeads, HasBadHead}
use Rattle.load_core.proofs.Standing.{kept_now, kept_short, kept_all, kept_bound, heads-final, heads-more, heads-bad}
use Rattle.load_core.proofs.load.take_heads.Goals as goal

pub returns-in-Ok-clause-stands : goal.returns-in-Ok-clause-stands
returns-in-Ok-clause-stands c stream h bound =
    let piece = c.args.piece.now in
    let kept = c.keep.new.kept.items in
    let k = c.in_ok-keep.ensures.kept stream (kept_now c.args.kept.now.items c.args.placed.now.items stream h) in
    let heads = c.most_heads-heads.result.now in
    let whole = c.most_heads-heads.ensures.all
    (subst (λ (t : List ℕ). length t ≤ 16384) (sym c.as_slice.ensures.value) (kept_short kept stream piece k)) ∙ c.as_slice.ensures.value in
    let taken = c.min-taken.result in
    let all = kept_all stream piece heads taken h.short (whole ∙ k)
    (omega (arith, c.min-taken.ensures, c.saturating_sub.ensures, c.len.ensures, c.len-before.ensures, ap length whole, ap length h.kept_is)) in
    heads-final stream piece heads c.read_first.new.placed.items taken c.in-Final.len c.args.most c.in-Ok.reading c.in-Final.info all
    c.in-Final.ensures.last c.in-Ok.ensures.info
    (c.in-Ok.ensures.reads h.placed_is (kept_bound stream piece heads taken c.in-Final.len _ all bound))

pub returns-in-More-clause-stands : goal.returns-in-More-clause-stands
returns-in-More-clause-stands c stream h bound =
    let piece = c.args.piece.now in
    let kept = c.keep.new.kept.items in
    let k = c.in_ok-keep.ensures.kept stream (kept_now c.args.kept.now.items c.args.placed.now.items stream h) in
    let whole = c.most_heads-heads.ensures.all
    (subst (λ (t : List ℕ). length t ≤ 16384) (sym c.as_slice.ensures.value) (kept_short kept stream piece k)) ∙ c.as_slice.ensures.value in
    let none = subst HasNoHeads whole (c.in-More.ensures.no refl) in
    let may = subst (λ (t : List ℕ). ¬ (HasBadHead t)) whole (c.in-More.ensures.more refl) in
    let short = subst (λ (t : List ℕ). length t < 16384) whole c.if-heads-lt-MOST_HEAD.true in
    heads-more stream piece kept c.args.placed.now.items k short none may h.placed_is

pub returns-in-More-2-clause-stands : goal.returns-in-More-2-clause-stands
returns-in-More-2-clause-stands c stream h bound =
    let piece = c.args.piece.now in
    let kept = c.keep.new.kept.items in
    let k = c.in_ok-keep.ensures.kept stream (kept_now c.args.kept.now.items c.args.placed.now.items stream h) in
    let heads = c.most_heads-heads.result.now in
    let whole = c.most_heads-heads.ensures.all
    (subst (λ (t : List ℕ). length t ≤ 16384) (sym c.as_slice.ensures.value) (kept_short kept stream piece k)) ∙ c.as_slice.ensures.value in
    let taken = c.min-taken.result in
    let all = kept_all stream piece heads taken h.short (whole ∙ k)
    (omega (arith, c.min-taken.ensures, c.saturating_sub.ensures, c.len.ensures, c.len-before.ensures, ap length whole, ap length h.kept_is)) in
    (heads-bad stream piece heads taken all (inr (c.if-heads-lt-MOST_HEAD.false, c.in-More.ensures.no refl)), h.placed_is)

pub returns-in-Bad-clause-stands : goal.returns-in-Bad-clause-stands
returns-in-Bad-clause-stands c stream h bound =
    let piece = c.args.piece.now in
    let kept = c.keep.new.kept.items in
    let k = c.in_ok-keep.ensures.kept stream (kept_now c.args.kept.now.items c.args.placed.now.items stream h) in
    let heads = c.most_heads-heads.result.now in
    let whole = c.most_heads-heads.ensures.all
    (subst (λ (t : List ℕ). length t ≤ 16384) (sym c.as_slice.ensures.value) (kept_short kept stream piece k)) ∙ c.as_slice.ensures.value in
    let taken = c.min-taken.result in
    let all = kept_all stream piece heads taken h.short (whole ∙ k)
    (omega (arith, c.min-taken.ensures, c.saturating_sub.ensures, c.len.ensures, c.len-before.ensures, ap length whole, ap length h.kept_is)) in
    (heads-bad stream piece heads taken all (inl (c.in-Bad.ensures.bad refl)), h.placed_is)

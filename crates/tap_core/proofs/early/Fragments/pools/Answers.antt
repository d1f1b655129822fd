-- Each fragment adds its packet to the pools that the ticks before it left open.
use Rattle.std.proofs.Common.{◌+◌, ◌∙◌, [], fold, take, sym, ap}
use Rattle.ip_core.specs.Bytes.{bytes_kept}
use Rattle.ip_core.specs.Datagrams.{after_event}
use Rattle.ip_core.specs.Pools.{open_at}
use Rattle.tap_core.specs.Early.{after_kept}
use Rattle.tap_core.specs.Hearing.{event_heard}
use Rattle.tap_core.specs.Seen.{syn_seen}
use Rattle.tap_core.proofs.Kept.{kept-more}
use Rattle.tap_core.proofs.early.Fragments.pools.Goals as goal

pub loop-fragment-preserved : goal.loop-fragment-preserved
loop-fragment-preserved c =
    let o = syn_seen c.args.syn.now in
    let f = c.fragment-item.result in
    let i = c.loop-fragment.fragment-index in
    let items = c.deref-fragment-items.result.now in
    let before = c.loop-fragment.invariant ∙ ap (λ l. fold (after_kept o) [] (take i l)) (sym c.deref-fragment-items.ensures.value) in
    c.pass.ensures
    ∙ ap (λ p. after_event bytes_kept p (event_heard o f.«record»)) (c.tick.ensures ∙ ap (open_at f.passed.0) before)
    ∙ sym (kept-more o items i f c.loop-fragment-test.true c.fragment-item.is)
    ∙ ap (λ l. fold (after_kept o) [] (take (i + 1) l)) c.deref-fragment-items.ensures.value

-- What a piece took joins what was taken before it, and at the source's end that is all.
use Rattle.std.proofs.Common.{rules, ◌≤◌, ◌+◌, arith}
use Rattle.std.proofs.lemmas.List.{length-take}
use Rattle.efi_outside.proofs.Known.{TakesAtMost-more}
use Rattle.efi_feed.proofs.Inputs.{more-fed}
use Rattle.efi_feed.proofs.feeding.feed_all.Goals as goal

pub returns-in_err-read-clause-taken : goal.returns-in_err-read-clause-taken
returns-in_err-read-clause-taken g c =
    let h = c.loop-count.invariant.fed in
    TakesAtMost-more _ _ _ h.octets _ _ h.taken c.read_piece.ensures.taken
    (omega (arith, h.count, length-take c.min-free.result c.deref_mut.result.now))

pub loop-count-preserved : goal.loop-count-preserved
loop-count-preserved g c =
    let within : c.loop-count.count + c.in_ok-read.read ≤ 2147483649 = omega (arith, c.in_ok-read.ensures.bound, length-take c.min-free.result c.deref_mut.result.now) in
    record {
      room = search rules;
      within = within;
      fed = more-fed _ _ _ _ _ _ _ _ _ c.loop-count.invariant.fed c.in_ok-read.ensures.piece;
      faults = search rules;
    }

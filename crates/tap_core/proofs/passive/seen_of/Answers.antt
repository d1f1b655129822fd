-- The counts are those of the records, the rest is told by what is followed.
use Rattle.std.proofs.Common.{Some, subst}
use Rattle.tcp_recv.specs.Stream.{is_over}
use Rattle.tap_core.specs.Seen.{syn_seen}
use Rattle.tap_core.specs.Shown.{Tells}
use Rattle.tap_core.proofs.passive.seen_of.Goals as goal

pub returns : goal.returns
returns c = λ most irs board upto f counted.
    let o = Some (syn_seen c.args.syn.now) in
    record {
      tells = subst (λ n. Tells c.args.end o n (is_over board) upto c.shown_with.result) (c.accepted.ensures most irs board f)
          (subst (λ b. Tells c.args.end o c.accepted.result b upto c.shown_with.result) (c.ended.ensures most irs board f) (c.shown_with.ensures upto counted));
      body = λ n e body whole le. c.into_body.ensures.whole most irs board f body whole le;
      so_far = λ octets so_far. c.into_body.ensures.so_far most irs board f octets so_far;
      none = λ none. c.into_body.ensures.none most irs board f none;
    }

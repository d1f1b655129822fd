use Rattle.std.proofs.Common.{List, ℕ, ◌-◌, length, take, drop, subst}
use Rattle.std.proofs.lemmas.List.{take_rest}
use Rattle.wire_pcap.specs.Grammar.{link_of}
use Rattle.wire_pcap.specs.Marks.{Agree}
use Rattle.wire_pcap.proofs.Headers.{marks_short}
use Rattle.wire_pcap.proofs.header.has_marks.Goals as goal

pub returns-then-bytes-le-LINK_AT-clause-right : goal.returns-then-bytes-le-LINK_AT-clause-right
returns-then-bytes-le-LINK_AT-clause-right c = λ yes. marks_short c.args.form c.args.bytes.now c.if-bytes-le-LINK_AT.true
    (subst (λ (t : List ℕ). Agree c.args.bytes.now t) c.front_of.ensures (c.agree.ensures.right c.if-not-agree.false))

pub returns-clause-right : goal.returns-clause-right
returns-clause-right c = λ yes.
    let bytes = c.args.bytes.now in
    let tail : List ℕ = take (length bytes - 20) (drop 20 bytes) in
    let link : List ℕ = link_of c.args.form in
    let there : Agree tail link = subst (λ (t : List ℕ). Agree tail t) c.link_of.ensures (c.agree-2.ensures.right yes) in
    record {
      front = subst (λ (t : List ℕ). Agree bytes t) c.front_of.ensures (c.agree.ensures.right c.if-not-agree.false);
      link = subst (λ (t : List ℕ). Agree t link) (take_rest bytes 20) there;
    }

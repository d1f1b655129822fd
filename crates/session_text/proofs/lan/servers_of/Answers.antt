-- Each word is read in its turn, and there are few.
use Rattle.std.proofs.Common.{◌≡◌, ◌+◌, ◌-◌, length, arith}
use Rattle.text_base.specs.Addresses.{ip_of}
use Rattle.session_text.proofs.FewWords.{few_start, none_left, put_bad, put_bad_last, put_last, put_longer, put_more}
use Rattle.session_text.proofs.lan.servers_of.Goals as goal

pub loop-left-init : goal.loop-left-init
loop-left-init c = few_start ip_of 3 c.args.text.now _ c.new-servers.ensures

pub returns-then-put_server : goal.returns-then-put_server
returns-then-put_server c =
    let more : c.loop-left.left ≡ c.loop-left.left - 1 + 1 = omega arith in
    put_last ip_of 3 c.loop-left.left (c.loop-left.left - 1) c.loop-left.rest.now c.loop-left.servers c.put_server.new.servers _ more c.in_default.ensures c.if-put_server.ensures c.loop-left.invariant.0

pub returns-in_default : goal.returns-in_default
returns-in_default c =
    let more : c.loop-left.left ≡ c.loop-left.left - 1 + 1 = omega arith in
    put_bad_last ip_of 3 c.loop-left.left (c.loop-left.left - 1) c.loop-left.rest.now c.loop-left.servers _ more c.in_default.ensures c.if-put_server.ensures (omega arith) c.loop-left.invariant.0

pub returns-then-not-put_server : goal.returns-then-not-put_server
returns-then-not-put_server c =
    let more : c.loop-left.left ≡ c.loop-left.left - 1 + 1 = omega arith in
    put_bad ip_of 3 c.loop-left.left (c.loop-left.left - 1) c.loop-left.rest.now c.in-Some.word.now c.in-Some.behind.now c.loop-left.servers _ more c.in-Some.ensures c.if-not-put_server.ensures (omega arith) c.loop-left.invariant.0

pub loop-left-preserved : goal.loop-left-preserved
loop-left-preserved c =
    let more : c.loop-left.left ≡ c.loop-left.left - 1 + 1 = omega arith in
    let longer : length c.put_server-in-loop-left.new.servers ≡ length c.loop-left.servers + 1 =
    put_longer ip_of 3 c.loop-left.servers c.put_server-in-loop-left.new.servers c.in-Some.word.now c.if-not-put_server.ensures in (
      put_more ip_of 3 c.loop-left.left (c.loop-left.left - 1) c.loop-left.rest.now c.in-Some.word.now c.in-Some.behind.now c.loop-left.servers c.put_server-in-loop-left.new.servers _ more c.in-Some.ensures c.if-not-put_server.ensures c.loop-left.invariant.0,
      omega (arith, longer, c.loop-left.invariant.1),
    )

pub returns : goal.returns
returns c = none_left ip_of c.loop-left.left c.loop-left.rest.now c.loop-left.servers _ (omega arith) c.loop-left.invariant.0

-- Each word is read in its turn, and there are few.
use Rattle.std.proofs.Common.{◌≡◌, ◌+◌, ◌-◌, length, arith}
use Rattle.session_text.specs.Lan.{offer_of}
use Rattle.session_text.proofs.FewWords.{few_start, none_left, put_bad, put_bad_last, put_last, put_longer, put_more}
use Rattle.session_text.proofs.lan.offers_of.Goals as goal

pub loop-left-init : goal.loop-left-init
loop-left-init c = few_start offer_of 8 c.args.text.now _ c.new-offers.ensures

pub returns-then-put_offer : goal.returns-then-put_offer
returns-then-put_offer c =
    let more : c.loop-left.left ≡ c.loop-left.left - 1 + 1 = omega arith in
    put_last offer_of 8 c.loop-left.left (c.loop-left.left - 1) c.loop-left.rest.now c.loop-left.offers c.put_offer.new.offers _ more c.in_default.ensures c.if-put_offer.ensures c.loop-left.invariant.0

pub returns-in_default : goal.returns-in_default
returns-in_default c =
    let more : c.loop-left.left ≡ c.loop-left.left - 1 + 1 = omega arith in
    put_bad_last offer_of 8 c.loop-left.left (c.loop-left.left - 1) c.loop-left.rest.now c.loop-left.offers _ more c.in_default.ensures c.if-put_offer.ensures (omega arith) c.loop-left.invariant.0

pub returns-then-not-put_offer : goal.returns-then-not-put_offer
returns-then-not-put_offer c =
    let more : c.loop-left.left ≡ c.loop-left.left - 1 + 1 = omega arith in
    put_bad offer_of 8 c.loop-left.left (c.loop-left.left - 1) c.loop-left.rest.now c.in-Some.word.now c.in-Some.behind.now c.loop-left.offers _ more c.in-Some.ensures c.if-not-put_offer.ensures (omega arith) c.loop-left.invariant.0

pub loop-left-preserved : goal.loop-left-preserved
loop-left-preserved c =
    let more : c.loop-left.left ≡ c.loop-left.left - 1 + 1 = omega arith in
    let longer : length c.put_offer-in-loop-left.new.offers ≡ length c.loop-left.offers + 1 =
    put_longer offer_of 8 c.loop-left.offers c.put_offer-in-loop-left.new.offers c.in-Some.word.now c.if-not-put_offer.ensures in (
      put_more offer_of 8 c.loop-left.left (c.loop-left.left - 1) c.loop-left.rest.now c.in-Some.word.now c.in-Some.behind.now c.loop-left.offers c.put_offer-in-loop-left.new.offers _ more c.in-Some.ensures c.if-not-put_offer.ensures c.loop-left.invariant.0,
      omega (arith, longer, c.loop-left.invariant.1),
    )

pub returns : goal.returns
returns c = none_left offer_of c.loop-left.left c.loop-left.rest.now c.loop-left.offers _ (omega arith) c.loop-left.invariant.0

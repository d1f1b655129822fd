-- Each digit counts ten times as much as those behind it.
use Rattle.std.proofs.Common.{◌≡◌, ◌≤◌, ◌<◌, ◌*◌, ◌+◌, ◌^◌, true, sym, ◌∙◌, get_or, take, arith}
use Rattle.std.proofs.lemmas.Bool.Decides.{nat_tests}
use Rattle.std.proofs.lemmas.Int.Digits.{digits_value_more}
use Rattle.std.specs.Char.{is_ascii_digit}
use Rattle.std.specs.Str.Parse.{digits_value}
use Rattle.wire_tftp.proofs.Numbers.{digit-more, digits-more, too-large, whole-number}
use Rattle.wire_tftp.proofs.options.read_number.Goals as goal

pub returns-in_default : goal.returns-in_default
returns-in_default c =
    let i = c.loop-digit.digit-index in
    let step = digits_value_more 10 c.args.text.now i c.loop-digit-test.true in
    too-large c.args.text.now (i + 1) (omega (arith, step, c.in_default.ensures, c.loop-digit.invariant.0))

pub returns-in_default-checked_add : goal.returns-in_default-checked_add
returns-in_default-checked_add c =
    let i = c.loop-digit.digit-index in
    let test : is_ascii_digit (get_or c.args.text.now i 0) ≡ true = sym c.is_ascii_digit.ensures.value ∙ c.if-not-is_ascii_digit.false in
    let step = digit-more c.args.text.now i c.in-Some.tens (c.in-Some.tens + c.from.result) c.loop-digit-test.true test (omega (arith, c.in-Some.ensures, c.loop-digit.invariant.0)) (omega (arith, c.from.ensures)) in
    too-large c.args.text.now (i + 1) (omega (arith, step, c.in_default-checked_add.ensures))

pub loop-digit-preserved : goal.loop-digit-preserved
loop-digit-preserved c =
    let i = c.loop-digit.digit-index in
    let test : is_ascii_digit (get_or c.args.text.now i 0) ≡ true = sym c.is_ascii_digit.ensures.value ∙ c.if-not-is_ascii_digit.false in (
      digit-more c.args.text.now i c.in-Some.tens _ c.loop-digit-test.true test (omega (arith, c.in-Some.ensures, c.loop-digit.invariant.0))
          (omega (arith, c.from.ensures, c.in-Some-checked_add.ensures)),
      digits-more c.args.text.now i c.loop-digit-test.true test c.loop-digit.invariant.1,
      omega (arith, c.in-Some-checked_add.ensures),
    )

pub returns : goal.returns
returns c =
    whole-number c.args.text.now c.loop-digit.digit-index c.loop-digit.number c.loop-digit-test.false (grind (arith, nat_tests, c.is_empty.ensures, c.if-is_empty.false)) c.loop-digit.invariant.0 c.loop-digit.invariant.1 c.loop-digit.invariant.2

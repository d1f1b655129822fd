use Rattle.std.proofs.Common.{◌≡◌, ◌<◌, ◌-◌, Bool, true, ◌&&◌, sym, ap, ◌∙◌, get_or, arith}
use Rattle.std.proofs.lemmas.Int.Digits.{digits_value_more}
use Rattle.std.proofs.lemmas.List.Folds.{list_all_more}
use Rattle.std.specs.Char.{is_ascii_digit}
use Rattle.wire_http.proofs.Texts.{digit_fits, digit_below, digit_from_test}
use Rattle.wire_http.proofs.lengths.length_number.Goals as goal

pub overflow_mul-number : goal.overflow_mul-number
overflow_mul-number c =
    let few : c.loop-digit.digit-index < 19 = omega arith in
    omega (arith, digit_fits _ _ 0 c.loop-digit.invariant.2 few (omega arith))

pub overflow_add-number : goal.overflow_add-number
overflow_add-number c =
    let few : c.loop-digit.digit-index < 19 = omega arith in
    let byte = get_or c.args.text.now c.loop-digit.digit-index 0 in
    let digit = digit_from_test byte (sym c.is_ascii_digit.ensures.value ∙ c.if-not-is_ascii_digit.false) in
    let fits = digit_fits c.loop-digit.number c.loop-digit.digit-index (byte - 48) c.loop-digit.invariant.2 few digit.0 in
    omega (arith, c.from.ensures)

pub loop-digit-preserved : goal.loop-digit-preserved
loop-digit-preserved c =
    let h = c.loop-digit-test.true in
    let byte = get_or c.args.text.now c.loop-digit.digit-index 0 in
    let test : is_ascii_digit byte ≡ true = sym c.is_ascii_digit.ensures.value ∙ c.if-not-is_ascii_digit.false in
    let digit = digit_from_test byte test in
    let more = digits_value_more 10 c.args.text.now c.loop-digit.digit-index h in
    let all = list_all_more is_ascii_digit c.args.text.now c.loop-digit.digit-index 0 h in
    let below = digit_below c.loop-digit.number c.loop-digit.digit-index (byte - 48) c.loop-digit.invariant.2 digit.0 in (
      cc (digit.1, c.from.ensures),
      all ∙ ap (λ (b : Bool). b && is_ascii_digit byte) c.loop-digit.invariant.1 ∙ test,
      omega (arith, c.from.ensures),
    )

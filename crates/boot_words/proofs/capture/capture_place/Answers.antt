use Rattle.std.proofs.Common.{◌+◌, ◌<◌, ◌∙◌, length, string_bytes, ap, sym, arith}
use Rattle.boot_words.proofs.CaptureLaw.{later_place, next_there}
use Rattle.boot_words.proofs.capture.capture_place.Goals as goal

pub returns-then-is_capture : goal.returns-then-is_capture
returns-then-is_capture c =
    let word = c.as_str-word.ensures.value ∙ ap string_bytes c.index-words-place.is in
    let more : c.loop-place.place + 1 < length c.args.words.now = omega (arith, c.if-place-words.false, c.loop-place-test.true) in
    sym (next_there string_bytes c.args.words.now c.loop-place.place c.index-words-place.result c.as_str-word.result.now c.loop-place-test.true word (sym c.is_capture.ensures ∙ c.if-is_capture.true) more)
    ∙ c.loop-place.invariant

pub loop-place-preserved : goal.loop-place-preserved
loop-place-preserved c =
    let word = c.as_str-word.ensures.value ∙ ap string_bytes c.index-words-place.is in
    sym (later_place string_bytes c.args.words.now c.loop-place.place c.index-words-place.result c.as_str-word.result.now c.loop-place-test.true word (sym c.is_capture.ensures ∙ c.if-is_capture.false) (sym c.is_capture_with_name.ensures ∙ c.if-is_capture_with_name.false))
    ∙ c.loop-place.invariant

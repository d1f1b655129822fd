use Rattle.std.proofs.Common.{◌∙◌, inr, refl, sym, map, string_bytes}
use Rattle.boot_words.specs.Lines.{is_word}
use Rattle.boot_words.proofs.LineLaw.{line_read, line_strange, list_all-map}
use Rattle.boot_words.proofs.line.read.Goals as goal

pub returns-then-not-are_words : goal.returns-then-not-are_words
returns-then-not-are_words c =
    inr (refl, line_strange (map string_bytes c.args.words.now) (sym (list_all-map string_bytes is_word c.args.words.now) ∙ sym c.are_words.ensures ∙ c.if-not-are_words.true))

pub returns-in-Some : goal.returns-in-Some
returns-in-Some c =
    let plain = sym (list_all-map string_bytes is_word c.args.words.now) ∙ sym c.are_words.ensures ∙ c.if-not-are_words.false in
    line_read _ c.in-Ok.matches plain c.in-Ok.ensures.0 c.in-Ok.ensures.1 ∙ sym c.task.ensures ∙ c.in-Some.is

pub returns-in-Ok : goal.returns-in-Ok
returns-in-Ok c =
    let plain = sym (list_all-map string_bytes is_word c.args.words.now) ∙ sym c.are_words.ensures ∙ c.if-not-are_words.false in
    inr (refl, line_read _ c.in-Ok.matches plain c.in-Ok.ensures.0 c.in-Ok.ensures.1 ∙ sym c.task.ensures ∙ c.in-None.is)

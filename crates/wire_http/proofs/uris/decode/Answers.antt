use Rattle.std.proofs.Common.{inr, refl, None}
use Rattle.wire_http.proofs.UriLaw.{text_of, no_text, valid_is_text}
use Rattle.wire_http.proofs.uris.decode.Goals as goal

pub returns-in-Ok-clause-answers : goal.returns-in-Ok-clause-answers
returns-in-Ok-clause-answers c =
    rw (text_of None c.args.text.now c.in-Ok.ensures.cases.1) (rw c.in-Ok.ensures.cases.0 at c.parse.ensures)

pub returns-in-Ok-clause-no_text : goal.returns-in-Ok-clause-no_text
returns-in-Ok-clause-no_text c = λ wrong. absurd (valid_is_text c.args.text.now c.in-Ok.ensures.cases.1 wrong)

pub returns-in-Err-clause-answers : goal.returns-in-Err-clause-answers
returns-in-Err-clause-answers c = inr (no_text None c.args.text.now c.in-Err.ensures.cases.0)

pub returns-in-Err-clause-no_text : goal.returns-in-Err-clause-no_text
returns-in-Err-clause-no_text c = λ wrong. refl

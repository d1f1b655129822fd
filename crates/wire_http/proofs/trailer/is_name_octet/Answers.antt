use Rattle.std.proofs.Common.{◌≡◌, true, false, refl}
use Rattle.httparse.specs.Grammar.{is_token_byte}
use Rattle.wire_http.proofs.trailer.is_name_octet.Goals as goal

pub returns-then-is_ascii_alphanumeric : goal.returns-then-is_ascii_alphanumeric
unfolding is_token_byte
returns-then-is_ascii_alphanumeric c =
    let yes : c.is_ascii_alphanumeric.result ≡ true = c.if-is_ascii_alphanumeric.true in
    rw (← c.is_ascii_alphanumeric.ensures.value, yes) refl

pub returns-else-is_ascii_alphanumeric : goal.returns-else-is_ascii_alphanumeric
unfolding is_token_byte
returns-else-is_ascii_alphanumeric c =
    let no : c.is_ascii_alphanumeric.result ≡ false = c.if-is_ascii_alphanumeric.false in
    rw (← c.is_ascii_alphanumeric.ensures.value, no) c.contains.ensures.value

-- A header and a question that were written are read again.
use Rattle.std.proofs.Common.{◌≡◌, ℕ, ◌+◌, ◌/◌, ◌%◌, ◌^◌, ◌<◌, ◌≤◌, ◌==◌, ◌&&◌, Bool, true, false, nat_le, List, [], ◌++◌, length, drop, Some, refl, sym, ap, ◌∙◌, append_assoc, arith}
use Rattle.std.proofs.lemmas.Bool.Decides.{nat_tests}
use Rattle.std.proofs.lemmas.List.{append-nil, length-drop}
use Rattle.std.specs.Option.{option_map, option_and_then}
use Rattle.byteorder.specs.Endian.{big_bytes}
use Rattle.wire_dns.specs.declared.message.Query.{Query}
use Rattle.wire_dns.specs.Messages.{word_at, rd_in, has_header, asked, question_in, query_from, query_of}
use Rattle.wire_dns.specs.Spelling.{name_text, is_name, header_text, flag, question_text, query_text}
use Rattle.wire_dns.proofs.Again.{name-again, word-again, further}
use Rattle.wire_dns.proofs.Options.{if-true}

both : (a b : Bool) → a ≡ true → b ≡ true → (a && b) ≡ true
both a b e f = cc

is-same : (a b : ℕ) → a ≡ b → (a == b) ≡ true
is-same a b e = grind (arith, nat_tests)

pub flags-again : (id flags answers : ℕ) (rest : List ℕ) → flags < 2 ^ 16 → word_at (header_text id flags answers ++ rest) 2 ≡ flags
flags-again id flags answers rest h =
    word-again (big_bytes 2 1 ++ (big_bytes 2 answers ++ (big_bytes 4 0 ++ rest))) (header_text id flags answers ++ rest) 2 flags refl h

header-again : (id flags answers top : ℕ) (rest : List ℕ) → flags < 2 ^ 16 → flags / 2048 ≡ top → has_header top (header_text id flags answers ++ rest) ≡ true
header-again id flags answers top rest h t =
    both (nat_le 12 (length (header_text id flags answers ++ rest))) _ (grind (arith, nat_tests))
    (both (word_at (header_text id flags answers ++ rest) 2 / 2048 == top) _ (is-same _ _ (ap (λ n. n / 2048) (flags-again id flags answers rest h) ∙ t)) refl)

-- the question stands behind the header
module _ (q : Query) (msg back : List ℕ) (here : drop 12 msg ≡ question_text q ++ back) (name : is_name q.name ≡ true) (kind : q.kind < 2 ^ 16) where
  name-here : drop 12 msg ≡ name_text q.name ++ ((big_bytes 2 q.kind ++ big_bytes 2 1) ++ back)
  name-here = here ∙ append_assoc (name_text q.name) (big_bytes 2 q.kind ++ big_bytes 2 1) back

  kind-here : drop (12 + length (name_text q.name)) msg ≡ big_bytes 2 q.kind ++ (big_bytes 2 1 ++ back)
  kind-here = further (name_text q.name) ((big_bytes 2 q.kind ++ big_bytes 2 1) ++ back) msg 12 _ name-here refl

  class-here : drop (12 + length (name_text q.name) + 2) msg ≡ big_bytes 2 1 ++ back
  class-here = further (big_bytes 2 q.kind) (big_bytes 2 1 ++ back) msg (12 + length (name_text q.name)) _ kind-here refl

  pub kind-again : word_at msg (12 + length (name_text q.name)) ≡ q.kind
  kind-again = word-again (big_bytes 2 1 ++ back) msg (12 + length (name_text q.name)) q.kind kind-here kind

  pub rest-here : drop (12 + length (name_text q.name) + 4) msg ≡ back
  rest-here = further (big_bytes 2 q.kind ++ big_bytes 2 1) back msg (12 + length (name_text q.name)) _ kind-here refl

  asked-again : asked msg (q.name, 12 + length (name_text q.name)) ≡ Some (q.name, 12 + length (name_text q.name))
  asked-again =
      let long : length (drop (12 + length (name_text q.name)) msg) ≡ length (big_bytes 2 q.kind ++ (big_bytes 2 1 ++ back)) = ap length kind-here in
      let within : 12 + length (name_text q.name) + 4 ≤ length msg = omega (arith, long, length-drop (12 + length (name_text q.name)) msg) in
      if-true (nat_le (12 + length (name_text q.name) + 4) (length msg) && word_at msg (12 + length (name_text q.name) + 2) == 1) _ _
      (both (nat_le (12 + length (name_text q.name) + 4) (length msg)) _ (grind (arith, nat_tests))
      (is-same (word_at msg (12 + length (name_text q.name) + 2)) 1 (word-again back msg (12 + length (name_text q.name) + 2) 1 class-here (omega arith))))

  pub question-again : (top : ℕ) → has_header top msg ≡ true → question_in top msg ≡ Some (q.name, 12 + length (name_text q.name))
  unfolding question_in
  question-again top header =
      if-true (has_header top msg) _ _ header
      ∙ ap (option_and_then (asked msg)) (name-again q.name ((big_bytes 2 q.kind ++ big_bytes 2 1) ++ back) msg 12 name-here name) ∙ asked-again

rd-alone : (rd : Bool) → (flag rd 256 / 256 % 2 == 1) ≡ rd
rd-alone true = refl
rd-alone false = refl

flag-small : (rd : Bool) → flag rd 256 < 2 ^ 16
flag-small true = omega arith
flag-small false = omega arith

flag-top : (rd : Bool) → flag rd 256 / 2048 ≡ 0
flag-top true = refl
flag-top false = refl

same-query : (q : Query) (id kind : ℕ) (rd : Bool) → id ≡ q.id → rd ≡ q.rd → kind ≡ q.kind
    → Some (record q { id = id; rd = rd; kind = kind }) ≡ Some q
same-query q id kind rd e f g =
    ap (λ i. Some (record q { id = i; rd = rd; kind = kind })) e ∙ ap (λ r. Some (record q { rd = r; kind = kind })) f ∙ ap (λ k. Some (record q { kind = k })) g

pub query-again : (q : Query) → is_name q.name ≡ true → q.id < 2 ^ 16 → q.kind < 2 ^ 16 → query_of (query_text q) ≡ Some q
unfolding query_text
query-again q name id kind =
    let msg = header_text q.id (flag q.rd 256) 0 ++ question_text q in
    let here : drop 12 msg ≡ question_text q ++ [] = sym (append-nil (question_text q)) in
    let flags = flags-again q.id (flag q.rd 256) 0 (question_text q) (flag-small q.rd) in
    ap (option_map (query_from msg)) (question-again q msg [] here name kind 0 (header-again q.id (flag q.rd 256) 0 0 (question_text q) (flag-small q.rd) (flag-top q.rd)))
    ∙ same-query q (word_at msg 0) (word_at msg (12 + length (name_text q.name))) (rd_in msg) (word-again (drop 2 msg) msg 0 q.id refl id)
    (ap (λ n. n / 256 % 2 == 1) flags ∙ rd-alone q.rd) (kind-again q msg [] here name kind)

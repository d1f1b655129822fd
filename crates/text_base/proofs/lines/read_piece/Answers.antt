use Rattle.std.proofs.Common.{ℕ, List, Ok, ◌≡◌, ◌++◌, ◌+◌, [], length, drop, sym, ap, subst, ◌∙◌, arith}
use Rattle.std.proofs.lemmas.List.{length-drop}
use Rattle.text_base.specs.Lines.{IsCause, IsPart, read_on}
use Rattle.text_base.proofs.LineLaw.{kept_read}
use Rattle.text_base.proofs.lines.read_piece.Goals as goal

pub returns-in-Ok-read_lines : goal.returns-in-Ok-read_lines
returns-in-Ok-read_lines g c =
    let all : c.as_slice.result.now ≡ c.args.kept.now.items ++ c.args.piece.now = c.as_slice.ensures.value ∙ c.in-Ok.ensures.items in
    let left : c.drop_front.new.octets.items ≡ drop c.in-Ok-read_lines.used c.as_slice.result.now =
    c.drop_front.ensures ∙ ap (λ (xs : List ℕ). drop c.in-Ok-read_lines.used xs) (sym c.as_slice.ensures.value) in
    let reads = c.in-Ok-read_lines.ensures in
    record {
      part = subst IsPart (sym left) reads.rest;
      fits = omega (arith, ap length left, length-drop c.in-Ok-read_lines.used c.as_slice.result.now, c.in-Some.ensures, c.len.ensures, ap length c.as_slice.ensures.value, reads.within);
      read =
          kept_read g.S.Said.next c.args.said.now c.args.at c.args.kept.now.items c.args.piece.now c.requires
          ∙ ap (λ (xs : List ℕ). read_on g.S.Said.next (record { said = c.args.said.now; at = c.args.at; rest = [] }) xs) (sym all)
          ∙ reads.read
          ∙ ap (λ (xs : List ℕ). Ok (record { said = c.read_lines.new.said; at = c.args.at + c.in-Ok-read_lines.used; rest = xs })) (sym left);
    }

pub returns-in-Err : goal.returns-in-Err
returns-in-Err g c =
    let all : c.as_slice.result.now ≡ c.args.kept.now.items ++ c.args.piece.now = c.as_slice.ensures.value ∙ c.in-Ok.ensures.items in
    let same =
    kept_read g.S.Said.next c.args.said.now c.args.at c.args.kept.now.items c.args.piece.now c.requires
    ∙ ap (λ (xs : List ℕ). read_on g.S.Said.next (record { said = c.args.said.now; at = c.args.at; rest = [] }) xs) (sym all) in
    subst (λ r. IsCause r c.in-Err.fault) (sym same) c.in-Err.ensures

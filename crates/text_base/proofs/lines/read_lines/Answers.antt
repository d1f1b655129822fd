use Rattle.std.proofs.Common.{ℕ, List, Option, Some, None, ◌≡◌, ◌+◌, ◌-◌, ◌≤◌, true, length, take, drop, sym, ap, ◌∙◌, arith}
use Rattle.std.proofs.lemmas.List.{length-drop}
use Rattle.std.specs.List.{list_all}
use Rattle.text_base.specs.Lines.{IsLine, is_plain}
use Rattle.text_base.proofs.LineLaw.{line_over, line_bad, line_good, rest_over, rest_kept, moved_on}
use Rattle.text_base.proofs.lines.read_lines.Goals as goal

-- the octets of the line
line_is : {D : Type 0} (next : D → List ℕ → Option D) (said : D) (octets : List ℕ) (start n : ℕ) (found : Option D)
    → next said (take (start + n - start) octets) ≡ found → next said (take n octets) ≡ found
line_is next said octets start n found is =
    let same : start + n - start ≡ n = omega arith in
    sym (ap (λ (k : ℕ). next said (take k octets)) same) ∙ is

pub returns-then-length-gt-LINE_MAX : goal.returns-then-length-gt-LINE_MAX
returns-then-length-gt-LINE_MAX g c =
    let rest : List ℕ = drop c.loop-length.start c.args.octets.now in
    let line : IsLine rest c.in-Some.length = c.in-Some.ensures in
    c.loop-length.invariant.1
    ∙ line_over g.S.Said.next c.loop-length.said (c.args.at + c.loop-length.start) rest c.in-Some.length line c.if-length-gt-LINE_MAX.true

pub returns-in-Ok-false : goal.returns-in-Ok-false
returns-in-Ok-false g c =
    let rest : List ℕ = drop c.loop-length.start c.args.octets.now in
    let line : IsLine rest c.in-Some.length = c.in-Some.ensures in
    c.loop-length.invariant.1
    ∙ line_bad g.S.Said.next c.loop-length.said (c.args.at + c.loop-length.start) rest c.in-Some.length line c.if-length-gt-LINE_MAX.false (line_is g.S.Said.next c.loop-length.said rest c.loop-length.start c.in-Some.length None (rw c.in-Ok-false.field-0-test at c.in-Ok-false.ensures))

pub loop-length-preserved : goal.loop-length-preserved
loop-length-preserved g c =
    let rest : List ℕ = drop c.loop-length.start c.args.octets.now in
    let line : IsLine rest c.in-Some.length = c.in-Some.ensures in (
      omega (arith, line.within, length-drop c.loop-length.start c.args.octets.now),
      c.loop-length.invariant.1
          ∙ line_good g.S.Said.next c.loop-length.said c.read.new.self (c.args.at + c.loop-length.start) rest c.in-Some.length line c.if-length-gt-LINE_MAX.false (line_is g.S.Said.next c.loop-length.said rest c.loop-length.start c.in-Some.length (Some c.read.new.self) (rw c.in-Ok-true.field-0-test at c.in-Ok-true.ensures))
          ∙ moved_on g.S.Said.next c.read.new.self c.args.at c.loop-length.start (c.in-Some.length + 1) c.args.octets.now,
    )

pub returns-then-octets-start-gt-LINE_MAX : goal.returns-then-octets-start-gt-LINE_MAX
returns-then-octets-start-gt-LINE_MAX g c =
    let rest : List ℕ = drop c.loop-length.start c.args.octets.now in
    let plain : list_all is_plain rest ≡ true = c.in_default.ensures in
    c.loop-length.invariant.1
    ∙ rest_over g.S.Said.next c.loop-length.said (c.args.at + c.loop-length.start) rest plain (omega (arith, length-drop c.loop-length.start c.args.octets.now))

pub returns : goal.returns
returns g c =
    let rest : List ℕ = drop c.loop-length.start c.args.octets.now in
    let plain : list_all is_plain rest ≡ true = c.in_default.ensures in
    let few : length rest ≤ 65536 = omega (arith, length-drop c.loop-length.start c.args.octets.now) in
    record {
      within = c.loop-length.invariant.0;
      rest = record { plain = plain; few = few };
      read = c.loop-length.invariant.1 ∙ rest_kept g.S.Said.next c.loop-length.said (c.args.at + c.loop-length.start) rest plain few;
    }

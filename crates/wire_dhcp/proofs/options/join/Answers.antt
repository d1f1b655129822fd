-- Each option continues what was found before.
use Rattle.std.proofs.Common.{arith}
use Rattle.wire_dhcp.specs.Walk.{item_seen}
use Rattle.wire_dhcp.proofs.Joins.{way-start, way-more, way-end, empty-items}
use Rattle.wire_dhcp.proofs.Walking.{none-there}
use Rattle.wire_dhcp.proofs.options.join.Goals as goal

pub loop-rest-init : goal.loop-rest-init
loop-rest-init c = (λ value base h. way-start c.args.code value base c.args.before c.args.room.now _ h, omega arith)

pub loop-rest-preserved : goal.loop-rest-preserved
loop-rest-preserved c =
    let step = c.in-Whole.ensures in (
      λ value base h. way-more c.args.code value base c.loop-rest.found c.with_value-found.result c.loop-rest.room c.with_value-found.new.room
          (item_seen c.in-Whole.option) _ _ _ step.items (c.loop-rest.invariant.0 value base h) c.with_value-found.ensures.joined,
      omega (arith, step.shorter, c.with_value-found.ensures.bound, c.loop-rest.invariant.1),
    )

pub with_value-found-requires : goal.with_value-found-requires
with_value-found-requires c = let step = c.in-Whole.ensures in omega (arith, step.shorter, c.loop-rest.invariant.1, c.requires)

pub returns-in_default : goal.returns-in_default
returns-in_default c = record {
  joined = λ value base h. way-end c.args.code value base c.loop-rest.found c.loop-rest.room _ _
      (none-there c.loop-rest.rest.now c.step_at.result c.step_at.ensures c.in_default.not-Whole) (c.loop-rest.invariant.0 value base h);
  bound = omega (arith, c.loop-rest.invariant.1);
}

pub returns : goal.returns
returns c = record {
  joined = λ value base h. way-end c.args.code value base c.loop-rest.found c.loop-rest.room _ _ (empty-items _ c.loop-rest-test.false) (c.loop-rest.invariant.0 value base h);
  bound = omega (arith, c.loop-rest.invariant.1);
}

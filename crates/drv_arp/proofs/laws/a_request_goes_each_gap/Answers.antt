use Rattle.std.proofs.Common.{◌+◌, ◌*◌, refl}
use Rattle.drv_arp.proofs.Gaps.{gap_due, due_gap, last_is, same_is}
use Rattle.drv_arp.proofs.laws.a_request_goes_each_gap.Goals as goal

pub returns-clause-due : goal.returns-clause-due
returns-clause-due c = λ now s w k h le. gap_due now.0 s.gap s.tries k h le

pub returns-clause-only : goal.returns-clause-only
returns-clause-only c = λ now s w m h. due_gap now.0 s.gap s.tries m h

pub returns-clause-ends : goal.returns-clause-ends
returns-clause-ends c = λ now s w m h. last_is (now.0 + s.tries * s.gap) m h

pub returns-clause-last : goal.returns-clause-last
returns-clause-last c = λ now s w. same_is (now.0 + s.tries * s.gap) (now.0 + s.tries * s.gap) refl

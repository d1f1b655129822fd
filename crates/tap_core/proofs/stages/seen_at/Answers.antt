-- What is seen at each stage.
use Rattle.std.proofs.Common.{[], subst, rules, refl}
use Rattle.load_core.proofs.HeadRuns.{nothing-no}
use Rattle.tap_core.specs.Connections.{board_after}
use Rattle.tap_core.specs.Seen.{syn_seen}
use Rattle.tap_core.specs.Tapping.{StandsFor}
use Rattle.tap_core.proofs.Tapped.{seen-unopened, seen-unanswered, seen-late, seen-end}
use Rattle.tap_core.proofs.stages.seen_at.Goals as goal

pub returns-in-Opening-clause-seen : goal.returns-in-Opening-clause-seen
returns-in-Opening-clause-seen c = λ most records st.
    let w = subst (StandsFor most records) c.in-Opening.is st in
    seen-unopened most records _ w.none
    (record { tells = c.shown.ensures records w.tally; body = λ n e. search rules; so_far = λ octets so_far. absurd (nothing-no so_far.0 so_far.1 so_far.2 so_far.3); none = λ none. c.new.ensures })

pub returns-in-Answering-clause-seen : goal.returns-in-Answering-clause-seen
returns-in-Answering-clause-seen c = λ most records st.
    let a = subst (StandsFor most records) c.in-Answering.is st in
    seen-unanswered most records (syn_seen c.in-Answering.listener.syn) a.at _ a.is_first a.none
    (record { tells = c.shown_with.ensures records a.listens.counts; body = λ n e. search rules; so_far = λ octets so_far. absurd (nothing-no so_far.0 so_far.1 so_far.2 so_far.3); none = λ none. c.new-in-Answering.ensures })

pub returns-in-Following-clause-seen : goal.returns-in-Following-clause-seen
returns-in-Following-clause-seen c = λ most records st.
    let f = subst (StandsFor most records) c.in-Following.is st in
    seen-late most records (syn_seen c.in-Following.listener.syn) f.irs f.place f.heard _ f.connection f.nothing
    (c.seen_of.ensures most f.irs (board_after f.irs f.heard) records f.follows f.listens.counts)

pub returns-in-Ended-clause-seen : goal.returns-in-Ended-clause-seen
returns-in-Ended-clause-seen c = λ most records st. seen-end most records c.in-Ended.seen (subst (StandsFor most records) c.in-Ended.is st)

pub returns-in-Broken-clause-broken : goal.returns-in-Broken-clause-broken
returns-in-Broken-clause-broken c = λ e. (c.shown_without.ensures [] refl refl, c.new-in-Broken.ensures)

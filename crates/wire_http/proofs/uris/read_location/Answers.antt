use Rattle.wire_http.proofs.UriLaw.{refused_by, taken_by, given_good, given_bad}
use Rattle.wire_http.proofs.uris.read_location.Goals as goal

pub returns-clause-taken : goal.returns-clause-taken
returns-clause-taken c = taken_by _ _ c.decode_location.ensures.answers

pub returns-clause-refused : goal.returns-clause-refused
returns-clause-refused c = refused_by _ _ c.decode_location.ensures.answers

pub returns-clause-good : goal.returns-clause-good
returns-clause-good c = given_good _ _ c.decode_location.ensures.answers

pub returns-clause-bad : goal.returns-clause-bad
returns-clause-bad c = given_bad _ _ c.decode_location.ensures.answers

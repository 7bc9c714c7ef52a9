-- `base_ascii::search::is_kind` meets its contract.
-- Assumes nothing.
use Rattle.base_ascii.proofs.Searching.{by_kind}
use Rattle.base_ascii.proofs.search.is_kind.Goals as goal

pub returns-in-Is : goal.returns-in-Is
returns-in-Is c = search by_kind

pub returns-in-Digit : goal.returns-in-Digit
returns-in-Digit c = search by_kind

pub returns-in-Space : goal.returns-in-Space
returns-in-Space c = search by_kind

pub returns-in-White : goal.returns-in-White
returns-in-White c = search by_kind

pub returns-in-Blank : goal.returns-in-Blank
returns-in-Blank c = search by_kind

pub returns-in-Mark : goal.returns-in-Mark
returns-in-Mark c = search by_kind

-- `guess_places::place::aside` meets its contract.
-- Assumes nothing.
use Rattle.guess_places.proofs.Places.{behind_quoted, data_quote, data_colon, behind_quoted_data, still_quoted, still_data, still_quoted_data, still_plain}
use Rattle.guess_places.proofs.place.aside.Goals as goal

pub returns-in-Quoted-eq34 : goal.returns-in-Quoted-eq34
returns-in-Quoted-eq34 c = search behind_quoted

pub returns-in-Data-eq34 : goal.returns-in-Data-eq34
returns-in-Data-eq34 c = search data_quote

pub returns-in-Data-eq58 : goal.returns-in-Data-eq58
returns-in-Data-eq58 c = search data_colon

pub returns-in-QuotedData-eq34 : goal.returns-in-QuotedData-eq34
returns-in-QuotedData-eq34 c = search behind_quoted_data

pub returns-in_default : goal.returns-in_default
returns-in_default c = search (still_quoted, c.in_default.is-1)

pub returns-in_default-2 : goal.returns-in_default-2
returns-in_default-2 c = search (still_data, c.in_default.is-1)

pub returns-in_default-3 : goal.returns-in_default-3
returns-in_default-3 c = search (still_quoted_data, c.in_default.is-1)

pub returns-in_default-4 : goal.returns-in_default-4
returns-in_default-4 c = still_plain _ _ c.in_default.not-Quoted-0 c.in_default.not-Data-0 c.in_default.not-QuotedData-0

-- Where the scans of the dialect guess stand in a line (document 01, "Guessing the dialect": "Both scans are defined step for step from
-- source.rs"). The Rust keeps three flags, in_string, in_data and at_stmt_start; the last is false wherever one of the first two is true.
-- Assumes nothing.
use Rattle.std.specs.Prelude.{ℕ, Bool, true, false, cond, eqb}
use Rattle.guess_places.specs.declared.place.Place.{Place}
use Rattle.guess_places.specs.declared.place.Place.TheVariants.{Start, Within, Quoted, Data, QuotedData}

-- neither in a string nor in DATA
unfoldable pub is_plain : Place → Bool
is_plain Start = true
is_plain Within = true
is_plain Quoted = false
is_plain Data = false
is_plain QuotedData = false

unfoldable pub is_start : Place → Bool
is_start Start = true
is_start Within = false
is_start Quoted = false
is_start Data = false
is_start QuotedData = false

-- the place behind a byte of a string or of DATA: a quote opens and ends a string, and outside a string a colon ends DATA
unfoldable pub aside : Place → ℕ → Place
aside Start b = Start
aside Within b = Within
aside Quoted b = cond (eqb b 0x22) Within Quoted
aside Data b = cond (eqb b 0x22) QuotedData (cond (eqb b 0x3A) Start Data)
aside QuotedData b = cond (eqb b 0x22) Data QuotedData

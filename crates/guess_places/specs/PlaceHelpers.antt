-- For helpers of both scans alone: bytes that a scan may pass at once, and bytes behind which no word is looked up.
-- Assumes nothing.
use Rattle.std.specs.Prelude.{ℕ, ◌-◌, ◌/◌, ◌%◌, ◌^◌, Bool, false, not, ◌&&◌, eqb, leb}
use Rattle.base_ascii.specs.Bytes.{upper}
use Rattle.guess_places.specs.declared.place.Place.{Place}
use Rattle.guess_places.specs.declared.place.Place.TheVariants.{Start, Within, Quoted, Data, QuotedData}

-- a byte of a string or of DATA behind which the scan stands in the same place
unfoldable pub stays : Place → ℕ → Bool
stays Start b = false
stays Within b = false
stays Quoted b = not (eqb b 0x22)
stays Data b = not (eqb b 0x22) && not (eqb b 0x3A)
stays QuotedData b = not (eqb b 0x22)

-- a byte in capitals is one of !ACEFGHILMNOPRSTUX, the second bytes of the TSB words: a bit for each byte from 20 on
unfoldable pub is_second : ℕ → Bool
is_second c = leb 0x20 c && (leb c 0x5F && eqb (0x13DF3EA00000002 / 2 ^ (c - 0x20) % 2) 1)

-- a byte may be the second one of a TSB word
unfoldable pub may_second : ℕ → Bool
unfolding is_second
may_second b = is_second (upper b)

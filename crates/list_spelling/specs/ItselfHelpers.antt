-- For helpers of listing, and for no promise of a public call: the bytes that are listed as themselves, whatever the mode and whatever stands
-- behind them, and that change no mode. proofs/Itself.antt has the law of the unit.
-- Assumes nothing.
use Rattle.std.specs.Prelude.{ℕ, Bool, false, cond, eqb}
use Rattle.base_ascii.specs.Bytes.{between}

-- 20 to 5F but the quote, which toggles quoting, and the colon, which ends DATA
unfoldable pub lists_as_itself : ℕ → Bool
unfolding between
lists_as_itself b =
    cond (eqb b 0x22) false
    (cond (eqb b 0x3A) false
    (between 0x20 0x5F b))

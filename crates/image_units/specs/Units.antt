-- What the bytes of a body are, one unit after the other (document 01, "Reading and listing": "A quote toggles quoting. Unquoted 64 and
-- a next byte, even a quote, are a TSB word .. a last 64 is `{64}`. Unquoted 80 and above is from the 128 texts"). What a walk heeds
-- beyond that is data (`Rules`). Document 02, No. 6 and 12, heed remarks ("After an unquoted 8F that isn't the second byte of a TSB
-- pair"); No. 13 heeds remarks and DATA, and in DATA an 8F opens no remark. Under BasicV2 No. 6 heeds no prefix. No. 5 heeds no prefix
-- either, but the tokens of BASIC 3.5.
-- Assumes nothing.
use Rattle.std.specs.Prelude.{ℕ, suc, cond, List, [], ◌∷◌, eqb, leb, length, drop}
use Rattle.base_steps.specs.Again.{again}
use Rattle.image_units.specs.declared.Mode.{Mode}
use Rattle.image_units.specs.declared.Mode.TheVariants.{Plain, Quoted, Remark, Data, QuotedData}
use Rattle.image_units.specs.declared.Rules.{Rules}
use Rattle.image_units.specs.declared.Taken.{Taken}
use Rattle.image_units.specs.declared.Unit.{Unit}
use Rattle.image_units.specs.declared.Unit.TheVariants.{Char, Token, Token35, Pair, Lone, Remarked}

-- the mode behind a quote; in a remark quotes change nothing
unfoldable pub toggled_mode : Mode → Mode
toggled_mode Plain = Quoted
toggled_mode Quoted = Plain
toggled_mode Remark = Remark
toggled_mode Data = QuotedData
toggled_mode QuotedData = Data

-- the mode behind an unquoted byte that is neither a quote nor a prefix
unfoldable pub mode_behind : Rules → Mode → ℕ → Mode
mode_behind rules Plain b =
    cond (eqb b 0x8F) (cond rules.remarks Remark Plain)
    (cond (eqb b 0x83) (cond rules.items Data Plain)
    Plain)
mode_behind rules Quoted b = Quoted
mode_behind rules Remark b = Remark
mode_behind rules Data b = cond (eqb b 0x3A) Plain Data
mode_behind rules QuotedData b = QuotedData

-- a unit of one byte
abbrev pub one_unit : Unit → Mode → Taken
one_unit unit mode = record { unit = unit; used = 1; mode = mode }

-- an unquoted byte of 80 or above
abbrev pub token_unit : Rules → ℕ → Unit
token_unit rules b = cond rules.basic35 (Token35 b) (Token b)

-- the prefix 64, and what follows it
abbrev pub prefixed_unit : Mode → List ℕ → Taken
prefixed_unit mode [] = one_unit Lone mode
prefixed_unit mode (b ∷ rest) = record { unit = Pair b; used = 2; mode = mode }

-- an unquoted byte, and what follows it
unfoldable pub unquoted_unit : Rules → Mode → ℕ → List ℕ → Taken
unfolding toggled_mode mode_behind
unquoted_unit rules mode b rest =
    cond (eqb b 0x22) (one_unit (Char b) (toggled_mode mode))
    (cond (eqb b 0x64) (cond rules.prefix (prefixed_unit mode rest) (one_unit (Char b) mode))
    (one_unit (cond (leb 0x80 b) (token_unit rules b) (Char b)) (mode_behind rules mode b)))

-- a quoted byte
unfoldable pub quoted_unit : Mode → ℕ → Taken
unfolding toggled_mode
quoted_unit mode b = one_unit (Char b) (cond (eqb b 0x22) (toggled_mode mode) mode)

-- a byte of a body, and what follows it
unfoldable pub unit_at : Rules → Mode → ℕ → List ℕ → Taken
unfolding unquoted_unit quoted_unit
unit_at rules Plain b rest = unquoted_unit rules Plain b rest
unit_at rules Quoted b rest = quoted_unit Quoted b
unit_at rules Remark b rest = one_unit (Remarked b) Remark
unit_at rules Data b rest = unquoted_unit rules Data b rest
unit_at rules QuotedData b rest = quoted_unit QuotedData b

-- the unit that the bytes s begin with in a mode, and what f gives behind it
abbrev pub unit_on : Rules → (Mode × List ℕ → List Unit) → Mode → List ℕ → List Unit
unit_on rules f mode [] = []
unit_on rules f mode (b ∷ rest) =
    let t = unit_at rules mode b rest in
    t.unit ∷ f (t.mode, drop t.used (b ∷ rest))

-- the units of bytes, from a mode on; `units_more` (proofs/Walking.antt) is the equation without the count
unfoldable pub units_from : Rules → Mode → List ℕ → List Unit
unfolding again unit_at
units_from rules mode s = again [] (λ f x. unit_on rules f x.0 x.1) (suc (length s)) (mode, s)

-- the units of a body
abbrev pub units_of : Rules → List ℕ → List Unit
units_of rules body = units_from rules Plain body

-- For helpers of crunching alone: the bytes that give one byte by themselves, whatever stands behind them. proofs/ShortSteps.antt has the
-- law of the step.
-- Assumes nothing.
use Rattle.std.specs.Prelude.{ℕ, Bool, true, false, cond, not, ◌&&◌, ◌||◌, List, [], ◌∷◌, eqb}
use Rattle.base_ascii.specs.Bytes.{upper, between, is_letter}
use Rattle.word_search.specs.Find.{word_in}
use Rattle.std.specs.Prelude.{Some, None}
use Rattle.word_tables.specs.Rom.{operators}
use Rattle.body_rules.specs.Lexicon.{Lexicon}
use Rattle.body_rules.specs.Steps.{first, lettered, plain_step, string_step}
use Rattle.body_rules.specs.declared.Mode.{Mode}
use Rattle.body_rules.specs.declared.Mode.TheVariants.{Plain, String, Remark, Data, DataQuote}
use Rattle.body_rules.specs.declared.Move.{Move}

-- in plain mode all but letters and the first byte of pi, in a string all but {
unfoldable pub is_short : Mode → ℕ → Bool
unfolding upper between
is_short Plain b = not (eqb b 0xCF) && not (is_letter b)
is_short String b = not (eqb b 0x7B)
is_short Remark b = true
is_short Data b = true
is_short DataQuote b = true

-- in plain mode: an operator's token, 99 for ?, or the byte
unfoldable pub plain_byte : ℕ → ℕ
unfolding word_in operators
plain_byte b = elim (word_in operators (b ∷ [])) [ Some m ↦ m.token | None ↦ cond (eqb b 0x3F) 0x99 b ]

-- what such a byte gives
unfoldable pub short_byte : Mode → ℕ → ℕ
unfolding plain_byte lettered upper
short_byte Plain b = plain_byte b
short_byte String b = lettered b
short_byte Remark b = b
short_byte Data b = upper b
short_byte DataQuote b = upper b

-- the mode behind it
unfoldable pub short_mode : Mode → ℕ → Mode
short_mode Plain b = cond (eqb b 0x22) String Plain
short_mode String b = cond (eqb b 0x22) Plain String
short_mode Remark b = Remark
short_mode Data b = cond (eqb b 0x22) DataQuote (cond (eqb b 0x3A) Plain Data)
short_mode DataQuote b = cond (eqb b 0x22) Data DataQuote

-- ---- the other bytes: in plain mode a letter or the first byte of pi, in a string {

unfoldable pub is_long : ℕ → Bool
unfolding upper between
is_long b = is_letter b || (eqb b 0xCF || eqb b 0x7B)

unfoldable pub long_step : Lexicon → List ℕ → Move
unfolding plain_step string_step
long_step l t = elim (eqb (first t) 0x7B) [ true ↦ string_step t | false ↦ plain_step l t ]

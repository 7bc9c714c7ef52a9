-- One step of crunching a body: what the front of the text left gives in each mode (document 01, "Crunching one body"; document 02, No. 5).
-- Assumes nothing.
use Rattle.std.specs.Prelude.{ℕ, ◌+◌, ◌-◌, Bool, true, false, cond, ◌&&◌, List, [], ◌∷◌, length, get_or, take, eqb, ltb}
use Rattle.base_ascii.specs.Bytes.{between, upper}
use Rattle.word_search.specs.Find.{word_in}
use Rattle.std.specs.Prelude.{Option, Some, None}
use Rattle.escape_bytes.specs.Escape.{escape_of}
use Rattle.base_ascii.specs.Search.{equals, before}
use Rattle.escape_bytes.specs.declared.Escape.{Escape}
use Rattle.std.specs.Prelude.{Option, Some, None}
use Rattle.word_match.specs.Sets.{live_word, plain_word}
use Rattle.body_short_forms.specs.Forms.{form_word}
use Rattle.body_rules.specs.Lexicon.{Lexicon}
use Rattle.body_rules.specs.declared.Mode.{Mode}
use Rattle.body_rules.specs.declared.Mode.TheVariants.{Plain, String, Remark, Data, DataQuote}
use Rattle.body_rules.specs.declared.Move.{Move}

-- the first byte of the text left
abbrev pub first : List ℕ → ℕ
first t = get_or t 0 0

-- a byte of the text gives a byte
abbrev pub one : ℕ → Mode → Move
one b m = record { prefixed = false; byte = b; count = 1; mode = m; used = 1 }

-- a word gives its token, a TSB word with 64 in front
abbrev pub token : Bool → ℕ → Mode → ℕ → Move
token prefixed k m used = record { prefixed = prefixed; byte = k; count = 1; mode = m; used = used }

-- ---- plain

-- the mode behind a word: 8F opens remark, 83 data
unfoldable pub opened : ℕ → Mode
opened k = cond (eqb k 0x8F) Remark (cond (eqb k 0x83) Data Plain)

-- pi, CF 80, gives FF; ? gives 99; a-z raised; else copied
unfoldable pub other_step : List ℕ → Move
unfolding upper
other_step t =
    elim (eqb (first t) 0xCF && eqb (get_or t 1 0) 0x80) [
      | true ↦ token false 0xFF Plain 2
      | false ↦ elim (eqb (first t) 0x3F) [ true ↦ one 0x99 Plain | false ↦ one (upper (first t)) Plain ]
    ]

-- an operator, or another byte
unfoldable pub sign_step : Lexicon → List ℕ → Move
unfolding word_in other_step
sign_step l t = elim (word_in l.operators t) [ Some m ↦ token false m.token Plain m.used | None ↦ other_step t ]

-- where no whole word stands: a short form of a V2 word (document 02, No. 7), or one of these
unfoldable pub form_step : Lexicon → List ℕ → Move
unfolding form_word opened sign_step
form_step l t = elim (form_word l.sets l.tsb l.v2 t) [ Some m ↦ token false m.token (opened m.token) m.used | None ↦ sign_step l t ]

-- first that applies: a quote, a live TSB word, a V2 word or one of BASIC 3.5, a short form of a V2 word, an operator, another byte
unfoldable pub plain_step : Lexicon → List ℕ → Move
unfolding live_word plain_word opened form_step
plain_step l t =
    elim (eqb (first t) 0x22) [
      | true ↦ one 0x22 String
      | false ↦ elim (live_word l.sets l.tsb t) [
        | Some m ↦ token true m.token Plain m.used
        | None ↦ elim (plain_word l.sets l.v2 l.basic35 t) [
          | Some m ↦ token false m.token (opened m.token) m.used
          | None ↦ form_step l t
        ]
      ]
    ]

-- ---- string

-- a-z become 41 to 5A, A-Z become C1 to DA
unfoldable pub lettered : ℕ → ℕ
unfolding between
lettered b = cond (between 97 122 b) (b - 32) (cond (between 65 90 b) (b + 0x80) b)

-- a quote in the text ends the mode
unfoldable pub string_byte : ℕ → Move
unfolding lettered
string_byte b = elim (eqb b 0x22) [ true ↦ one 0x22 Plain | false ↦ one (lettered b) String ]

-- a brace, and the escape of the n bytes behind it; where that is unknown the brace is a byte like others
unfoldable pub escaped : ℕ → Option Escape → Move
unfolding string_byte
escaped n (Some e) = record { prefixed = false; byte = e.byte; count = e.count; mode = String; used = n + 2 }
escaped n None = string_byte 0x7B

-- a brace and the text behind it, n bytes of which stand in front of the first closing brace
unfoldable pub braced : List ℕ → ℕ → Move
unfolding escaped escape_of string_byte
braced s n = elim (ltb n (length s)) [ true ↦ escaped n (escape_of (take n s)) | false ↦ string_byte 0x7B ]

unfoldable pub string_step : List ℕ → Move
unfolding braced string_byte before
string_step [] = string_byte 0
string_step (b ∷ s) = elim (eqb b 0x7B) [ true ↦ braced s (before (equals 0x7D) s) | false ↦ string_byte b ]

-- ---- data

-- a quote opens a quoted part, a colon returns to plain, a-z raised
unfoldable pub data_step : ℕ → Move
unfolding upper
data_step b =
    elim (eqb b 0x22) [
      | true ↦ one 0x22 DataQuote
      | false ↦ elim (eqb b 0x3A) [ true ↦ one 0x3A Plain | false ↦ one (upper b) Data ]
    ]

-- copied through its closing quote, with a-z raised
unfoldable pub data_quote_step : ℕ → Move
unfolding upper
data_quote_step b = elim (eqb b 0x22) [ true ↦ one 0x22 Data | false ↦ one (upper b) DataQuote ]

-- ---- all modes; in a remark all is copied

unfoldable pub crunch_step : Lexicon → Mode → List ℕ → Move
unfolding plain_step string_step data_step data_quote_step
crunch_step l Plain t = plain_step l t
crunch_step l String t = string_step t
crunch_step l Remark t = one (first t) Remark
crunch_step l Data t = data_step (first t)
crunch_step l DataQuote t = data_quote_step (first t)

-- What stands where a text has a byte that is not in the domain (document 01, "What the build covers"). UTF-8 is RFC 3629's: a first byte C2 to DF, E0
-- to EF or F0 to F4 is followed by one, two or three bytes from 80 to BF. Single bytes are those of Windows-1252, where they are told apart.
-- Assumes nothing.
use Rattle.std.specs.Prelude.{ℕ, ◌+◌, Bool, true, false, cond, ◌&&◌, ◌||◌, List, [], ◌∷◌, leb, ltb, length, get_or, drop, Option, Some, None, Result, Ok, Err}
use Rattle.base_ascii.specs.Bytes.{between}
use Rattle.word_search.specs.Compare.{begins}
use Rattle.text_domain.specs.Domain.{domain_length}
use Rattle.editor_strange_bytes.specs.declared.Foreign.{Foreign}
use Rattle.editor_strange_bytes.specs.declared.Foreign.TheVariants.{OrderMark, CurlyQuote, NoBreakSpace, LongDash, Character, LoneByte}
use Rattle.editor_strange_bytes.specs.declared.Stranger.{Stranger}
use Rattle.editor_strange_bytes.specs.declared.TooLong.{TooLong}

-- ---- how many bytes a character of UTF-8 takes

-- a byte within one, and not in front
abbrev pub is_inner : ℕ → Bool
is_inner b = between 0x80 0xBF b

-- how many such bytes stand behind the first one, up to three
unfoldable pub inner_behind : List ℕ → ℕ
unfolding between
inner_behind t = cond (is_inner (get_or t 1 0)) (cond (is_inner (get_or t 2 0)) (cond (is_inner (get_or t 3 0)) 3 2) 1) 0

-- how many a first byte asks for
unfoldable pub inner_asked : ℕ → ℕ
unfolding between
inner_asked b = cond (between 0xC2 0xDF b) 1 (cond (between 0xE0 0xEF b) 2 (cond (between 0xF0 0xF4 b) 3 0))

-- the bytes of the character in front; 1 where there is none
unfoldable pub width_of : List ℕ → ℕ
unfolding inner_behind inner_asked
width_of t = cond (leb (inner_asked (get_or t 0 0)) (inner_behind t)) (inner_asked (get_or t 0 0) + 1) 1

-- ---- what it is

-- a byte order mark of UTF-16 in front of a text
unfoldable pub is_utf16 : List ℕ → Bool
unfolding begins
is_utf16 t = begins (0xFF ∷ 0xFE ∷ []) t || begins (0xFE ∷ 0xFF ∷ []) t

-- that of UTF-8
unfoldable pub is_mark_of_order : List ℕ → Bool
unfolding begins
is_mark_of_order t = begins (0xEF ∷ 0xBB ∷ 0xBF ∷ []) t

-- U+2018 to U+201F, or 91 to 94
unfoldable pub is_curly_quote : List ℕ → Bool
unfolding begins between
is_curly_quote t = cond (begins (0xE2 ∷ 0x80 ∷ []) t) (between 0x98 0x9F (get_or t 2 0)) (between 0x91 0x94 (get_or t 0 0))

-- U+00A0, or A0
unfoldable pub is_no_break_space : List ℕ → Bool
unfolding begins
is_no_break_space t = begins (0xC2 ∷ 0xA0 ∷ []) t || begins (0xA0 ∷ []) t

-- U+2012 to U+2015
unfoldable pub is_long_dash : List ℕ → Bool
unfolding begins between
is_long_dash t = begins (0xE2 ∷ 0x80 ∷ []) t && between 0x92 0x95 (get_or t 2 0)

unfoldable pub kind_of : List ℕ → Foreign
unfolding is_mark_of_order is_curly_quote is_no_break_space is_long_dash width_of
kind_of t =
    cond (is_mark_of_order t) OrderMark
    (cond (is_curly_quote t) CurlyQuote
    (cond (is_no_break_space t) NoBreakSpace
    (cond (is_long_dash t) LongDash
    (cond (ltb 1 (width_of t)) Character LoneByte))))

-- ---- where the first one stands

-- from a place on, in what is left of a text
unfoldable pub stranger_in : ℕ → List ℕ → Result (Option Stranger) TooLong
unfolding domain_length kind_of width_of
stranger_in from s =
    elim (leb (length s) 1048576) [
      | true ↦
          elim (ltb (domain_length s) (length s)) [
            | true ↦
                Ok (Some (record { offset = from + domain_length s; kind = kind_of (drop (domain_length s) s); used = width_of (drop (domain_length s) s) }))
            | false ↦ Ok None
          ]
      | false ↦ Err (record {})
    ]

unfoldable pub first_stranger : List ℕ → ℕ → Result (Option Stranger) TooLong
unfolding stranger_in
first_stranger t from = stranger_in from (drop from t)

-- Texts under the machine profile, as a table about the definitions.
-- Assumes nothing.
use Rattle.std.specs.Prelude.{ℕ, ◌≡◌, true, false, List, [], ◌∷◌, ◌++◌, length, replicate}
use Prim.Native.String.{String}
use Rattle.base_refusals.specs.Answer.{Answer, done, refused, map_done}
use Rattle.base_refusals.specs.Numbers.{address_overflow}
use Rattle.word_search.specs.Spelling.{bytes_of}
use Rattle.word_dialects.specs.declared.Dialect.TheVariants.{Auto}
use Rattle.image_readers.specs.NumberedBody.{NumberedBody}
use Rattle.crunch_rules.specs.Crunched.{crunched_lines}

infix 60 ◌profiled_at◌
abbrev pub ◌profiled_at◌ : List ℕ → ℕ → Answer (List NumberedBody)
text profiled_at load = crunched_lines (record { load = load; dialect = Auto; profile = true; forms = false }) text

-- two text lines
abbrev pub two_texts : String → String → List ℕ
two_texts a b = bytes_of a ++ 0x0A ∷ bytes_of b

-- a line 10 whose body is a quote and so many letters
abbrev pub quote_and : ℕ → List ℕ
quote_and n = bytes_of "10 \"" ++ replicate n 0x41

-- a refusal's number, and the one value that it carries
abbrev pub refused_with : ℕ → ℕ → Answer (List NumberedBody)
refused_with number k = refused (record { number = number; carries = k ∷ [] })

abbrev pub ProfileTable : Type 0
ProfileTable =
    -- 63999 is the last number
    (bytes_of "63999 A" profiled_at 0x0801 ≡ done (record { number = 63999; body = 0x41 ∷ [] } ∷ []))
    × (bytes_of "64000 A" profiled_at 0x0801 ≡ refused_with 15 1)
    -- numbers ascend, from any number on: what does not is told at its own line
    × (bytes_of "0 A" profiled_at 0x0801 ≡ done (record { number = 0; body = 0x41 ∷ [] } ∷ []))
    × (two_texts "10 A" "10 B" profiled_at 0x0801 ≡ refused_with 16 2)
    -- the accident
    × (bytes_of "10 PRINT \"{0}\"" profiled_at 0x0801 ≡ refused_with 17 1)
    -- behind a body that is too long a zero is still 17, and without it the body is 18
    × (bytes_of "1 \"{red*300}{0}" profiled_at 0x0801 ≡ refused_with 17 1)
    × (bytes_of "1 \"{red*300}" profiled_at 0x0801 ≡ refused_with 18 1)
    -- a body of 0 bytes, of 250, of 251
    × (bytes_of "10" profiled_at 0x0801 ≡ refused_with 18 1)
    × (map_done length (quote_and 249 profiled_at 0x0801) ≡ done 1)
    × (quote_and 250 profiled_at 0x0801 ≡ refused_with 18 1)
    -- 5 comes last at each line, and a 5 at line 1 before a 15 at line 2
    × (bytes_of "64000 A" profiled_at 0xFFFA ≡ refused_with 15 1)
    × (two_texts "10 A" "64000 A" profiled_at 0xFFFA ≡ refused address_overflow)

-- Which texts are taken (document 01, "What the build covers": "a text has at most 1,048,576 bytes, each below 0x80, except that the
-- pair CF 80 (the letter pi in UTF-8) may stand anywhere"; "Numbers of refusal": 1 and 2).
-- Assumes nothing.
use Rattle.std.specs.Prelude.{ℕ, suc, Bool, true, false, ◌&&◌, List, [], ◌∷◌, leb, ltb, length, drop}
use Rattle.base_ascii.specs.Search.{starts_with}
use Rattle.base_refusals.specs.Numbers.{text_too_long, bad_byte}
use Rattle.base_refusals.specs.Answer.{Answer, done, refused}

-- the text begins with the pair CF 80
unfoldable pub is_pi : List ℕ → Bool
unfolding starts_with
is_pi t = starts_with 0xCF t && starts_with 0x80 (drop 1 t)

-- how many bytes in front lie in the domain: where that is not all of them, it is the offset of the first byte outside
unfoldable pub domain_length : List ℕ → ℕ
unfolding is_pi
domain_length [] = 0
domain_length (b ∷ []) = elim (ltb b 0x80) [ true ↦ 1 | false ↦ 0 ]
domain_length (b ∷ c ∷ s) =
    elim (ltb b 0x80) [ true ↦ suc (domain_length (c ∷ s)) | false ↦ elim (is_pi (b ∷ c ∷ s)) [ true ↦ suc (suc (domain_length s)) | false ↦ 0 ] ]

-- the text is taken, or refused: its length comes first
unfoldable pub checked_text : List ℕ → Answer (Unit {0})
unfolding domain_length
checked_text t =
    elim (leb (length t) 1048576) [
      | true ↦ elim (ltb (domain_length t) (length t)) [ true ↦ refused (bad_byte (domain_length t)) | false ↦ done tt ]
      | false ↦ refused (text_too_long (length t))
    ]

-- Where both modes list alike (document 02, No. 6: "Where no body holds 64 and no byte 61 to 7A or of 80 and above follows an unquoted 8F").
-- Assumes nothing.
use Rattle.std.specs.Prelude.{ℕ, Bool, false, not, cond, ◌&&◌, ◌||◌, ◌≡◌, List, [], ◌∷◌, eqb, leb}
use Rattle.base_ascii.specs.Bytes.{between}
use Rattle.base_steps.specs.Each.{Each}

-- what follows the first unquoted 8F, where bytes begin quoted or not; nothing where there is none
unfoldable pub behind_remark : Bool → List ℕ → List ℕ
behind_remark quoted [] = []
behind_remark quoted (b ∷ rest) =
    cond (eqb b 0x22) (behind_remark (not quoted) rest)
    (cond (eqb b 0x8F && not quoted) rest
    (behind_remark quoted rest))

-- a byte that the modes list apart behind a remark's token
abbrev pub lists_apart : ℕ → Bool
lists_apart b = between 0x61 0x7A b || leb 0x80 b

-- a body that both modes list alike
pub record ListsAlike (body : List ℕ) : Type 0 where
  pub no_prefix : Each (λ b. eqb b 0x64 ≡ false) body
  pub no_others : Each (λ b. lists_apart b ≡ false) (behind_remark false body)

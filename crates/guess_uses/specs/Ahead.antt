-- What the scans of the dialect guess look for behind a TSB word (document 01, "Guessing the dialect"; source.rs,
-- tsb_statement_evidence and tsb_words_used_as_variables).
-- Assumes nothing.
use Rattle.std.specs.Prelude.{ℕ, zero, suc, Bool, true, false, List, [], ◌∷◌, eqb, drop}
use Rattle.base_ascii.specs.Search.{of_kind, starts_with, front, past}
use Rattle.base_ascii.specs.declared.search.Kind.{Kind}

-- how many bytes a list takes behind its opening parenthesis, so many lists being open within it: through the closing one, or to the
-- end; quotes count for nothing
unfoldable pub closing : ℕ → List ℕ → ℕ
closing depth [] = 0
closing depth (b ∷ s) =
    elim (eqb b 0x29) [
      | true ↦ elim depth [ zero ↦ 1 | suc d ↦ suc (closing d s) ]
      | false ↦ elim (eqb b 0x28) [ true ↦ suc (closing (suc depth) s) | false ↦ suc (closing depth s) ]
    ]

-- what follows the list in parentheses that a text begins with
unfoldable pub behind_list : List ℕ → List ℕ
unfolding closing
behind_list t = drop (suc (closing 0 (drop 1 t))) t

-- an assignment follows a name: =, or a list in parentheses and =, with blanks before each
unfoldable pub assigns : Kind → List ℕ → Bool
unfolding starts_with front behind_list
assigns blank t =
    let r = past (of_kind blank) t in
    elim (starts_with 0x28 r) [ true ↦ starts_with 0x3D (past (of_kind blank) (behind_list r)) | false ↦ starts_with 0x3D r ]

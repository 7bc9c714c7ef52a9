-- Text in quotes as bytes, an entry of a word list written as a line, "END" is 0x80, and a name with what it means, "tsb" means Tsb.
-- Assumes nothing.
use Rattle.std.specs.Prelude.{ℕ, List, [], ◌∷◌}
use Prim.Native.Char.{code}
use Prim.Native.String.{String, [] as []ˢ, ◌∷◌ as ◌∷ˢ◌}
use Rattle.word_search.specs.Find.{Entry, Name}

abbrev pub bytes_of : String → List ℕ
bytes_of []ˢ = []
bytes_of (c ∷ˢ s) = code c ∷ bytes_of s

infix 80 ◌is◌
abbrev pub ◌is◌ : String → ℕ → Entry
w is t = record { word = bytes_of w; token = t }

infix 80 ◌means◌
abbrev pub ◌means◌ : {A : Type 0} → String → A → Name A
w means a = record { name = bytes_of w; means = a }

-- What an author has put between braces where it is no escape. Crunching looks for a } to the end of the body (document 01, "Crunching one
-- body"), also behind the quote that ends the string; an author closes a brace before that quote, and soon.
-- Assumes nothing.
use Rattle.std.specs.Prelude.{ℕ, cond, List, ltb, take}
use Rattle.base_ascii.specs.Search.{equals, before}
use Rattle.editor_findings.specs.declared.braces.Inside.{Inside}
use Rattle.editor_findings.specs.declared.braces.Inside.TheVariants.{Closed, Unclosed, Long}

-- how many bytes stand in front of the first }, and of the first quote or the end
unfoldable pub inside_by : ℕ → ℕ → Inside
inside_by closing quote = cond (ltb closing quote) (Closed closing) (cond (ltb quote 64) (Unclosed quote) Long)

-- how many bytes stand behind the {: in front of the }, or, where a quote or the end comes first, in front of that; 64 or more are long
unfoldable pub inside_of : List ℕ → Inside
unfolding before inside_by
inside_of t = inside_by (before (equals 0x7D) (take 64 t)) (before (equals 0x22) (take 64 t))

-- Examples of the dialect guess, proved by computation: what the Rust answers under Auto.
-- Assumes nothing.
use Prim.Native.Nat.{ℕ}
use mathlib.Core.Path.{◌≡◌, refl}
use mathlib.Core.Bool.{Bool, true, false}
use mathlib.Core.List.{List, [], ◌∷◌, ◌++◌}
use Rattle.base_ascii.specs.Bytes.{between, upper}
use Rattle.word_search.specs.Find.{Entry}
use Rattle.base_refusals.specs.Answer.{done}
use Rattle.word_search.specs.Spelling.{bytes_of}
use Rattle.word_tables.specs.Tsb.{tsb_words}
use Rattle.word_dialects.specs.declared.Dialect.TheVariants.{Auto, BasicV2, Tsb}
use Rattle.text_lines.specs.declared.LineRule.TheVariants.{AsGiven, AfterCr}
use Rattle.guess.specs.Guess.{evidence, resolved, word_sets}

-- the words of a list that a set holds
unfoldable pub held : List Bool → List Entry → List (List ℕ)
held [] es = []
held (b ∷ bs) [] = []
held (b ∷ bs) (e ∷ es) = elim b [ true ↦ e.word ∷ held bs es | false ↦ held bs es ]

-- the words that Auto demotes
unfoldable pub demoted_words : List ℕ → List (List ℕ)
unfolding held tsb_words word_sets
demoted_words t = held (word_sets Auto t).demoted tsb_words

-- a word behind THEN proves nothing, unless it is called
behind_then : resolved Auto (bytes_of "1IFATHENDO") ≡ done BasicV2
unfolding resolved between upper
behind_then = refl

called_behind_then : resolved Auto (bytes_of "1IFATHENDO(") ≡ done Tsb
unfolding resolved between upper
called_behind_then = refl

-- REM is found wherever its letters stand
remark_within : resolved Auto (bytes_of "1FOREM:DO") ≡ done BasicV2
unfolding resolved between upper
remark_within = refl

-- behind a word that proves nothing the scan goes on at the next byte
else_within : resolved Auto (bytes_of "1ANGELSEX") ≡ done Tsb
unfolding resolved between upper
else_within = refl

else_assigned : evidence AsGiven (bytes_of "1ELSE=1") ≡ true
unfolding evidence between upper
else_assigned = refl

else_demoted : demoted_words (bytes_of "1ELSE=1") ≡ bytes_of "ELSE" ∷ []
unfolding demoted_words between upper
else_demoted = refl

-- the parenthesis belongs to the word AT(
at_assigned : evidence AsGiven (bytes_of "1AT(1)=2") ≡ true
unfolding evidence between upper
at_assigned = refl

at_not_demoted : demoted_words (bytes_of "1AT(1)=2") ≡ []
unfolding demoted_words between upper
at_not_demoted = refl

-- the first name behind DIM alone
dim_first : demoted_words (bytes_of "1DIMMAP(3)") ≡ bytes_of "MAP" ∷ []
unfolding demoted_words between upper
dim_first = refl

dim_second : demoted_words (bytes_of "1DIMA,MAP(3)") ≡ []
unfolding demoted_words between upper
dim_second = refl

-- the variable scan knows no tab
tab_before_equals : demoted_words (bytes_of "1MAP" ++ (0x09 ∷ bytes_of "=1:ELSE")) ≡ []
unfolding demoted_words between upper
tab_before_equals = refl

-- the vertical tab is no white space
vertical_tab : evidence AsGiven (bytes_of "1MAP" ++ (0x0B ∷ bytes_of "=1")) ≡ true
unfolding evidence between upper
vertical_tab = refl

-- a CR alone ends a line when the text is crunched, and none when its dialect is asked
string_over_cr : resolved Auto (0x31 ∷ 0x22 ∷ 0x0D ∷ bytes_of "2DO") ≡ done BasicV2
unfolding resolved between upper
string_over_cr = refl

string_at_cr : evidence AfterCr (0x31 ∷ 0x22 ∷ 0x0D ∷ bytes_of "2DO") ≡ true
unfolding evidence between upper
string_at_cr = refl

remark_over_cr : resolved Auto (bytes_of "10 REM A" ++ (0x0D ∷ bytes_of "20 HIRES 0,1")) ≡ done BasicV2
unfolding resolved between upper
remark_over_cr = refl

remark_at_cr : evidence AfterCr (bytes_of "10 REM A" ++ (0x0D ∷ bytes_of "20 HIRES 0,1")) ≡ true
unfolding evidence between upper
remark_at_cr = refl

-- document 01's own example
dir_demoted : demoted_words (bytes_of "10 DIR=5:HIRES 0,1") ≡ bytes_of "DIR" ∷ []
unfolding demoted_words between upper
dir_demoted = refl

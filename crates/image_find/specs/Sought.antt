-- A line by its number (document 02, No. 4: "a call that follows links and stops at the first line with that number. The answer carries
-- the number of line headers visited"), over the lines before the fault and what stands behind them.
-- Assumes nothing.
use Rattle.std.specs.Prelude.{ℕ, Result, Ok, Err, ◌+◌, cond, List, [], ◌∷◌, eqb, leb, ltb, length}
use Rattle.base_refusals.specs.Numbers.{Numbered}
use Rattle.base_refusals.specs.declared.Refusal.{Refusal}
use Rattle.base_refusals.specs.Answer.{Answer, done, refused, numbered}
use Rattle.image_readers.specs.Bodies.{body_of}
use Rattle.image_readers.specs.declared.Line.{Line}
use Rattle.image_readers.specs.Image.{sized}
use Rattle.image_readers.specs.Lined.{Ending, ended, faulted, lined_from}
use Rattle.image_readers.specs.Links.{link_step}
use Rattle.image_find.specs.declared.Sought.{Sought}
use Rattle.image_find.specs.declared.Sought.TheVariants.{Found, Nowhere, LimitReached}

-- "19 LimitReached", which carries nothing
abbrev pub limit_reached : Numbered
limit_reached = record { number = 19; carries = [] }

-- the headers visited, and the line with the number, if there is one
pub data Visit : Type 0 where
  at : ℕ → Line → Visit
  nowhere : ℕ → Visit

-- "a search of the full list": the first line with the number, with its place from 1, v lines being before these; or the count of all
unfoldable pub first_in : ℕ → ℕ → List Line → Visit
first_in number v [] = nowhere v
first_in number v (l ∷ ls) = cond (eqb l.number number) (at (v + 1) l) (first_in number (v + 1) ls)

-- "the first match among the lines before the fault, else the fault's refusal"
abbrev pub or_fault : Numbered → Visit → Answer Visit
or_fault n (at v l) = done (at v l)
or_fault n (nowhere v) = refused n

-- the search over at most so many headers, v being visited: "19 LimitReached, given exactly when that many headers were visited without a
-- match and the end marker isn't next; then 10 to 13"
unfoldable pub within : ℕ → ℕ → ℕ → List Line → Ending → Answer Visit
within number limit v [] ended = done (nowhere v)
within number limit v [] (faulted n) = cond (leb limit v) (refused limit_reached) (refused n)
within number limit v (l ∷ ls) e =
    cond (leb limit v) (refused limit_reached)
    (cond (eqb l.number number) (done (at (v + 1) l))
    (within number limit (v + 1) ls e))

-- "Refusals: 7 and 8 as before", then the headers from the first on
unfoldable pub line_sought : ℕ → ℕ → List ℕ → Answer Visit
unfolding within lined_from link_step
line_sought number limit s = sized s (within number limit 0 (lined_from link_step s 2).lines (lined_from link_step s 2).ending)

-- what is found, or the refusal, as document 02 numbers them
abbrev pub sought_answer : Result Sought Refusal → Answer Visit
sought_answer (Ok (Found visited l)) = done (at visited l)
sought_answer (Ok (Nowhere visited)) = done (nowhere visited)
sought_answer (Ok LimitReached) = refused limit_reached
sought_answer (Err r) = refused (numbered r)

-- the body of a line, and nothing where it does not lie in the image
unfoldable pub body_in : List ℕ → Line → List ℕ
body_in s l = cond (ltb (length s) l.to) [] (cond (ltb l.to l.from) [] (body_of s l))

-- How tight the promises are (document 01): any two results that meet one are equal.
-- Assumes nothing.
use Prim.Native.Nat.{ℕ}
use mathlib.Core.Path.{◌≡◌, refl, sym, ap, ◌∙◌}
use mathlib.Core.List.{List}
use Rattle.base_refusals.specs.Answer.{Answer, done, refused}
use Rattle.base_refusals.proofs.Tight.{named, named_numbered, tells_apart}
use Rattle.count_images.specs.declared.Carried.{Carried}
use Rattle.count_images.specs.declared.Carried.TheVariants.{Taken, Apart, Refused, NoTotals}
use Rattle.count_images.specs.Carried.{Fate, counted, counted_apart, no_totals, Kept, carried_answer, carried}

carried_of : Answer Fate → Carried
carried_of (done counted) = Taken
carried_of (done (counted_apart n)) = Apart (named n)
carried_of (done no_totals) = NoTotals
carried_of (refused n) = Refused (named n)

carried_back : (r : Carried) → carried_of (carried_answer r) ≡ r
unfolding carried_of
carried_back Taken = refl
carried_back (Apart r) = ap Apart (named_numbered r)
carried_back (Refused r) = ap Refused (named_numbered r)
carried_back NoTotals = refl

-- `add_image` and `join`: an answer and the totals afterwards
pub carried_tight : (k : Kept) (a b : Carried) (t u : List ℕ) → carried a t ≡ k → carried b u ≡ k → (a ≡ b) × (t ≡ u)
carried_tight k a b t u d e =
    (tells_apart carried_answer carried_of carried_back a b (ap (λ (x : Kept). x.answer) (d ∙ sym e)), ap (λ (x : Kept). x.totals) (d ∙ sym e))

-- How tight the promise is (document 01): any two results that meet it are equal.
-- Assumes nothing.
use Prim.Native.Nat.{ℕ}
use mathlib.Core.Path.{◌≡◌, refl, sym, ap, ◌∙◌}
use mathlib.Core.List.{List}
use Rattle.std.specs.Prelude.{Result, Ok, Err}
use Rattle.base_refusals.specs.declared.Refusal.{Refusal}
use Rattle.base_refusals.specs.Answer.{Answer, done, refused}
use Rattle.base_refusals.proofs.Tight.{named, named_numbered, tells_apart}
use Rattle.image_relink.specs.declared.Relinked.{Relinked}
use Rattle.image_relink.specs.declared.Relinked.TheVariants.{Same, Changed, Leaves, Endless}
use Rattle.image_relink.specs.Relinking.{Relinking, same, changed, leaves, endless, relinking, relinked_answer}

relinked_of : Answer Relinking → Result Relinked Refusal
relinked_of (done same) = Ok Same
relinked_of (done (changed offset link)) = Ok (Changed offset link)
relinked_of (done leaves) = Ok Leaves
relinked_of (done endless) = Ok Endless
relinked_of (refused n) = Err (named n)

relinked_back : (r : Result Relinked Refusal) → relinked_of (relinked_answer r) ≡ r
unfolding relinked_of
relinked_back (Ok Same) = refl
relinked_back (Ok (Changed offset link)) = refl
relinked_back (Ok Leaves) = refl
relinked_back (Ok Endless) = refl
relinked_back (Err r) = ap Err (named_numbered r)

-- `relink`
pub relinked_tight : (s : List ℕ) (a b : Result Relinked Refusal) → relinked_answer a ≡ relinking s → relinked_answer b ≡ relinking s → a ≡ b
relinked_tight s a b d e = tells_apart relinked_answer relinked_of relinked_back a b (d ∙ sym e)

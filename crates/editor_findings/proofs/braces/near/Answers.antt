-- `editor_findings::braces::near` meets its contract.
-- Assumes nothing.
use Prim.Native.Nat.{ℕ, ◌≤◌, ◌<◌, min}
use mathlib.Core.Path.{◌≡◌, refl, sym, ap, ◌∙◌}
use mathlib.Core.Bool.{Bool, true, false}
use mathlib.Core.List.{List}
use native.Mathlib.Omega.{arith}
use lib.Dec.{leb}
use lib.ListN.{length, take}
use lib.Seq.{take_all}
use borrow.Author.Tests.{leb-true, leb-false}
use Rattle.editor_findings.proofs.braces.near.Goals as goal

near_taken : (t : List ℕ) {m : ℕ} → m ≡ min (length t) 64 → take m t ≡ take 64 t
near_taken t {m} e = go (leb (length t) 64) refl
  where
    go : (r : Bool) → leb (length t) 64 ≡ r → take m t ≡ take 64 t
    go true q =
        let h : length t ≤ 64 = leb-true _ _ q in
        let k : m ≡ length t = omega (arith, e) in
        ap (λ (n : ℕ). take n t) k ∙ take_all (length t) t (omega arith) ∙ sym (take_all 64 t h)
    go false q =
        let h : 64 < length t = leb-false _ _ q in
        let k : m ≡ 64 = omega (arith, e) in
        ap (λ (n : ℕ). take n t) k

pub returns : goal.returns
returns c = near_taken _ c.min.ensures

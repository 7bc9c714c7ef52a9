-- What a call stored lies within the buffer that it was lent.
-- Assumes nothing.
use Prim.Native.Nat.{ℕ, ◌≤◌}
use mathlib.Core.Path.{◌≡◌, refl, sym, subst}
use mathlib.Core.Bool.{Bool, true, false, cond}
use mathlib.Core.List.{List}
use native.Mathlib.Omega.{arith}
use lib.Dec.{leb}
use lib.ListN.{length}
use lib.Seq.{sets, length-sets}
use borrow.Author.Tests.{leb-true}
use Rattle.base_refusals.specs.Answer.{Answer, done, refused}
use Rattle.base_refusals.specs.Numbers.{no_room}
use Rattle.base_lent.specs.Lent.{Lent, into_buffer, left}
use Rattle.desk.specs.ResultHelpers.{Holds}
use Rattle.std.specs.Prelude.{Result, Ok, Err}
use Rattle.base_refusals.specs.declared.Refusal.{Refusal}

-- a length that was answered, and none that was refused
held : Lent → Type 0
held l = elim l.answer [ done n ↦ n ≤ length l.buffer | refused m ↦ Unit {0} ]

into_held : (a : Answer (List ℕ)) (buffer : List ℕ) → held (into_buffer a buffer)
unfolding held into_buffer
into_held (refused n) buffer = tt
into_held (done bytes) buffer = go (leb (length bytes) (length buffer)) refl
  where
    go : (b : Bool) → leb (length bytes) (length buffer) ≡ b
        → held (cond b (record { answer = done (length bytes); buffer = sets buffer 0 bytes }) (record { answer = refused (no_room (length bytes)); buffer = buffer }))
    go true e = let h : length bytes ≤ length buffer = leb-true _ _ e in omega (arith, length-sets buffer 0 bytes)
    go false e = tt

pub result_held : (a : Answer (List ℕ)) (buffer : List ℕ) (r : Result ℕ Refusal) {after : List ℕ} → left r after ≡ into_buffer a buffer → Holds r after
unfolding held
result_held a buffer (Ok count) {after} e = subst held (sym e) (into_held a buffer)
result_held a buffer (Err m) e = tt

pub result_count : (bytes : List ℕ) {r : (Result ℕ Refusal)} {n : ℕ} → r ≡ Ok n → Holds r bytes → n ≤ length bytes
result_count bytes e h = subst (λ (r : Result ℕ Refusal). Holds r bytes) e h

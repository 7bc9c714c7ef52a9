-- A result stored in a lent buffer, or not: the three cases of `into_buffer` (specs/Lent.antt).
-- Assumes nothing.
use Prim.Native.Nat.{ℕ, ◌≤◌, ◌<◌}
use mathlib.Core.Path.{◌≡◌, ap}
use mathlib.Core.List.{List}
use native.Mathlib.Omega.{arith}
use lib.ListN.{length}
use borrow.Author.Tests.{le-leb, lt-leb}
use Rattle.base_refusals.specs.Answer.{Answer, done, refused}
use Rattle.base_refusals.specs.Numbers.{Numbered, no_room}
use Rattle.base_lent.specs.Lent.{Lent, into_buffer, room_for}
use Rattle.base_lent.specs.Stores.{Put, HasRoom}

module _ (buffer : List ℕ) where
  pub has_room : (a : Answer (List ℕ)) {n : ℕ} → done n ≡ room_for a → n ≤ length buffer → HasRoom buffer a
  has_room (done bytes) {n} e h = let l : n ≡ length bytes = cc in record { room = omega arith }
  has_room (refused m) e h = let z : ◌≡◌ {A = ℕ} 0 1 = cc in absurd (omega arith)

  pub into_refused : (a : Answer (List ℕ)) {n : Numbered} → refused n ≡ room_for a → ◌≡◌ {A = Lent} (record { answer = refused n; buffer = buffer }) (into_buffer a buffer)
  unfolding into_buffer
  into_refused (done bytes) e = let z : ◌≡◌ {A = ℕ} 0 1 = cc in absurd (omega arith)
  into_refused (refused m) e = ap (λ (x : Answer ℕ). record { answer = x; buffer = buffer }) e

  pub into_none : (a : Answer (List ℕ)) {n : ℕ} → done n ≡ room_for a → length buffer < n → ◌≡◌ {A = Lent} (record { answer = refused (no_room n); buffer = buffer }) (into_buffer a buffer)
  unfolding into_buffer
  into_none (done bytes) {n} e h =
      let l : n ≡ length bytes = cc in
      let short : length buffer < length bytes = omega arith in
      rw l (simp (lt-leb _ _ short))
  into_none (refused m) e h = let z : ◌≡◌ {A = ℕ} 0 1 = cc in absurd (omega arith)

  pub into_done : (a : Answer (List ℕ)) {bytes : List ℕ} {n : ℕ} {after : List ℕ} → done bytes ≡ a → HasRoom buffer a → Put buffer 0 bytes n after
      → ◌≡◌ {A = Lent} (record { answer = done n; buffer = after }) (into_buffer a buffer)
  unfolding into_buffer
  into_done (done other) {bytes} {n} e r p =
      let same : bytes ≡ other = cc in
      let size : n ≡ length bytes = omega (arith, p.ends) in
      let fits : length other ≤ length buffer = omega (arith, r.room) in
      rw (size, p.stored, same) (simp (le-leb _ _ fits))
  into_done (refused m) e r p = absurd r

-- A text put together part by part, in a buffer of any length; and the whole text lent.
-- Assumes nothing.
use Prim.Native.Nat.{ℕ, suc, ◌+◌, ◌*◌, ◌≤◌, ◌<◌}
use mathlib.Core.Path.{◌≡◌, refl, sym, ap, ◌∙◌}
use mathlib.Core.List.{List, [], ◌∷◌}
use native.Mathlib.Omega.{arith}
use lib.ListN.{length, take}
use lib.Seq.{sets, set_out}
use mir.Syntax.{w64}
use mir.Val.{Fits}
use Rattle.base_refusals.specs.Answer.{Answer, done, refused}
use Rattle.base_refusals.specs.Numbers.{no_room}
use Rattle.base_lent.specs.Lent.{Lent, into_buffer, room_for}
use Rattle.base_lent.proofs.Outcomes.{into_none, into_done}
use Rattle.say_put.specs.Clipped.{Clipped}
use Rattle.say_put.specs.Rows.{filled}
use Rattle.say_put.proofs.Filling.{filled_short}
use Rattle.say_put.proofs.Lending.{lent_there, stored_taken}
use Rattle.image_rows.specs.PartHelpers.{Adds, Stores, IsText}

-- nothing is stored beyond the end
sets_out : (l : List ℕ) (i : ℕ) (vs : List ℕ) → length l ≤ i → sets l i vs ≡ l
sets_out l i [] h = refl
sets_out l i (v ∷ vs) h = ap (λ (m : List ℕ). sets m (suc i) vs) (set_out l i v h) ∙ sets_out l (suc i) vs (omega arith)

module _ {buffer text : List ℕ} {at : ℕ} where
  pub adds_nothing : length text ≤ 2560 → length buffer ≤ at → Adds buffer at text (at + length text) buffer
  adds_nothing s h = record { put = record { ends = refl; stored = sym (sets_out buffer at text h) }; near = omega arith }

  pub adds_stored : {n : ℕ} {after : List ℕ} → length text ≤ 2560 → Clipped buffer at text n after → Adds buffer at text (at + length text) after
  adds_stored s p = record { put = record { ends = refl; stored = p.stored }; near = omega arith }

module _ (row : List ℕ) {x y z : ℕ} {buffer line out after : List ℕ} {n at behind : ℕ} where
  pub adds_row : Fits w64 x → Fits w64 y → Fits w64 z → length row ≤ 128 → length buffer ≡ 2560 → Clipped buffer 0 (filled row x y z) n line
      → Adds out at (take n line) behind after → Adds out at (filled row x y z) behind after
  adds_row p q r f g c a =
      let short : length (filled row x y z) ≤ 20 * length row = filled_short row p q r in
      rw (lent_there (filled row x y z) (omega arith) c) at a

pub taken_few : {buffer text line : List ℕ} {n : ℕ} → length buffer ≡ 2560 → Clipped buffer 0 text n line → length (take n line) ≤ 2560
taken_few g c = omega (arith, c.ends, stored_taken c)

-- ---- the whole, lent: measured in a buffer of its own, then stored

module _ (a : Answer (List ℕ)) (out : List ℕ) {small small' : List ℕ} {n : ℕ} where
  pub lends_none : IsText a → Stores a small n small' → length out < n → ◌≡◌ {A = Lent} (record { answer = refused (no_room n); buffer = out }) (into_buffer a out)
  lends_none i s h = go a refl i
    where
      go : (b : Answer (List ℕ)) → a ≡ b → IsText b → ◌≡◌ {A = Lent} (record { answer = refused (no_room n); buffer = out }) (into_buffer a out)
      go (done t) e i = let size : n ≡ length t = omega (arith, (s.stores t e).ends) in into_none out a (ap done size ∙ sym (ap (λ (b : Answer (List ℕ)). room_for b) e)) h
      go (refused x) e i = absurd i

  pub lends_all : IsText a → Stores a small n small' → n ≤ length out → {m : ℕ} {after : List ℕ} → Stores a out m after → ◌≡◌ {A = Lent} (record { answer = done m; buffer = after }) (into_buffer a out)
  lends_all i s h {m} {after} r = go a refl i
    where
      go : (b : Answer (List ℕ)) → a ≡ b → IsText b → ◌≡◌ {A = Lent} (record { answer = done m; buffer = after }) (into_buffer a out)
      go (done t) e i =
          let size : n ≡ length t = omega (arith, (s.stores t e).ends) in
          rw e (into_done out (done t) refl (record { room = omega arith }) (r.stores t e))
      go (refused x) e i = absurd i

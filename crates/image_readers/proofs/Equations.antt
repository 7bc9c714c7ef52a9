-- What both readers keep to, and from that the equations of `lines_from`, which hide its count.
-- Assumes nothing.
use Prim.Native.Nat.{ℕ, suc, ◌+◌, ◌-◌, ◌≤◌, ◌<◌}
use mathlib.Core.Path.{◌≡◌, refl, ap, ◌∙◌}
use mathlib.Core.List.{List, [], ◌∷◌}
use native.Mathlib.Omega.{arith}
use lib.ListN.{length}
use Rattle.base_steps.proofs.Nearer.{Nearer, again_once, by_nearer}
use Rattle.base_refusals.specs.Numbers.{Numbered}
use Rattle.base_refusals.specs.Answer.{Answer, done, refused, map_done}
use Rattle.image_readers.specs.declared.Line.{Line}
use Rattle.image_bytes.specs.ImageBytes.{low_first_at, address_at}
use Rattle.image_readers.specs.Lines.{Reader, onward, read_on, lines_from}
use Rattle.std.specs.Prelude.{Option, Some, None}

-- a line found at p lies behind p and within the image
pub record LiesAt (s : List ℕ) (p : ℕ) (l : Line) : Type 0 where
  pub address : l.address ≡ address_at s p
  pub link : l.link ≡ low_first_at s p
  pub number : l.number ≡ low_first_at s (p + 2)
  pub starts : l.from ≡ p + 4
  pub runs : l.from ≤ l.to
  pub ends : l.to ≤ l.next
  pub within : l.next ≤ length s

-- what is found is found in an image of a right length, and a line lies within it
pub record Sound (step : Reader) : Type 0 where
  pub long_enough : (s : List ℕ) (p : ℕ) {f : (Option Line)} → step s p ≡ done f → 2 ≤ length s
  pub not_too_long : (s : List ℕ) (p : ℕ) {f : (Option Line)} → step s p ≡ done f → length s ≤ 1048576
  pub lies : (s : List ℕ) (p : ℕ) {l : Line} → step s p ≡ done (Some l) → LiesAt s p l

module _ {step : Reader} (sound : Sound step) (s : List ℕ) where
  -- the next offset is nearer to the image's end
  pub next_nearer : (p : ℕ) {l : Line} → step s p ≡ done (Some l) → length s - l.next < length s - p
  next_nearer p {l} e = let d : LiesAt s p l = sound.lies s p e in omega arith

  nearer : Nearer (λ p. length s - p) (read_on step s)
  nearer p f g alike = go (step s p) refl
    where
      go : (r : Answer (Option Line)) → step s p ≡ r → onward f r ≡ onward g r
      go (done (Some l)) e = ap (map_done (λ ls. l ∷ ls)) (alike l.next (next_nearer p e))
      go (done None) e = refl
      go (refused n) e = refl

  -- reading on: the lines from p on are the step at p, and the lines from the next offset on
  pub lines_from_lem : (p : ℕ) → lines_from step s p ≡ onward (lines_from step s) (step s p)
  unfolding lines_from
  lines_from_lem p = again_once nearer (done []) (suc (length s)) p (omega arith)

  pub lines_line : (p : ℕ) {l : Line} → step s p ≡ done (Some l) → lines_from step s p ≡ map_done (λ ls. l ∷ ls) (lines_from step s l.next)
  lines_line p e = lines_from_lem p ∙ ap (onward (lines_from step s)) e

  -- what holds at an offset whenever it holds at the next offset of the Some there, holds at every offset
  pub by_lines : (P : ℕ → Type 0) → ((p : ℕ) → ((l : Line) → step s p ≡ done (Some l) → P l.next) → P p) → (p : ℕ) → P p
  by_lines P f = by_nearer (λ p. length s - p) P (λ p ih. f p (λ l e. ih l.next (next_nearer p e)))

-- where no line is, one step says all
module _ (step : Reader) (s : List ℕ) (p : ℕ) where
  pub lines_end : step s p ≡ done None → lines_from step s p ≡ done []
  unfolding lines_from
  lines_end e = rw e

  pub lines_refused : {n : Numbered} → step s p ≡ refused n → lines_from step s p ≡ refused n
  unfolding lines_from
  lines_refused e = rw e

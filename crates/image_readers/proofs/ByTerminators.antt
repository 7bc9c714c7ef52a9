-- The step by terminators: a law for each answer, and what is known of a line that was found.
-- Assumes nothing.
use Prim.Native.Nat.{ℕ, ◌+◌, ◌-◌, ◌≤◌, ◌<◌}
use mathlib.Core.Path.{◌≡◌, refl}
use mathlib.Core.List.{List}
use native.Mathlib.Omega.{arith}
use lib.ListN.{length, get_or}
use lib.Dec.{leb, ltb, eqb}
use borrow.Author.Tests.{le-leb, lt-leb, le-ltb, lt-ltb, eq-eqb, ne_eqb, ltb-false, eqb-false}
use Rattle.image_bytes.proofs.Zeros.{body_end_within}
use Rattle.base_refusals.specs.Answer.{done, refused}
use Rattle.base_refusals.specs.Numbers.{image_too_long, too_short, unexpected_eof}
use Rattle.image_readers.specs.declared.Line.{Line}
use Rattle.image_readers.proofs.Equations.{LiesAt, Sound}
use Rattle.image_readers.specs.Terminators.{terminated_line, terminator_step}
use Rattle.image_readers.proofs.Finding.{sized_long, sized_short, Knows, cond_by, sized_knows, knows_length, knows_line}
use Rattle.std.specs.Prelude.{Some, None}

-- ---- the answers

module _ (s : List ℕ) (p : ℕ) where
  pub terminator_long : 1048576 < length s → refused (image_too_long (length s)) ≡ terminator_step s p
  unfolding terminator_step
  terminator_long h = sized_long s _ h

  pub terminator_short : length s < 2 → refused too_short ≡ terminator_step s p
  unfolding terminator_step
  terminator_short h = sized_short s _ h

  -- an image of a right length
  module _ (long : length s ≤ 1048576) (short : 2 ≤ length s) where
    pub terminator_beyond : length s ≤ p → done None ≡ terminator_step s p
    unfolding terminator_step
    terminator_beyond h = simp (le-ltb _ _ long, le-ltb _ _ short, le-leb _ _ h)

    -- an offset within it
    module _ (h : p < length s) where
      pub terminator_lone : length s - p < 2 → refused unexpected_eof ≡ terminator_step s p
      unfolding terminator_step
      terminator_lone l = let g : length s < p + 2 = omega arith in simp (le-ltb _ _ long, le-ltb _ _ short, lt-leb _ _ h, lt-ltb _ _ g)

      module _ (l : 2 ≤ length s - p) where
        two : p + 2 ≤ length s
        two = omega arith

        pub terminator_end : get_or s (p + 1) 0 ≡ 0 → done None ≡ terminator_step s p
        unfolding terminator_step
        terminator_end e = simp (le-ltb _ _ long, le-ltb _ _ short, lt-leb _ _ h, le-ltb _ _ two, eq-eqb _ _ e)

        module _ (e : get_or s (p + 1) 0 ≡ 0 → ⊥) where
          pub terminator_cut : length s - p < 4 → refused unexpected_eof ≡ terminator_step s p
          unfolding terminator_step
          terminator_cut n =
              let g : length s < p + 4 = omega arith in
              simp (le-ltb _ _ long, le-ltb _ _ short, lt-leb _ _ h, le-ltb _ _ two, ne_eqb _ _ e, lt-ltb _ _ g)

          pub terminator_line : 4 ≤ length s - p → {f : Line} → f ≡ terminated_line s p → done (Some f) ≡ terminator_step s p
          unfolding terminator_step
          terminator_line n is =
              let g : p + 4 ≤ length s = omega arith in
              rw is (simp (le-ltb _ _ long, le-ltb _ _ short, lt-leb _ _ h, le-ltb _ _ two, ne_eqb _ _ e, le-ltb _ _ g))

-- ---- what was found

-- what is known of a line that was found at p
pub record TerminatedAt (s : List ℕ) (p : ℕ) (l : Line) : Type 0 where
  pub left : p + 4 ≤ length s
  pub no_end : get_or s (p + 1) 0 ≡ 0 → ⊥
  pub is : l ≡ terminated_line s p

terminator_knows : (s : List ℕ) (p : ℕ) → Knows (TerminatedAt s p) s (terminator_step s p)
unfolding terminator_step
terminator_knows s p =
    let K = Knows (TerminatedAt s p) s in
    sized_knows (TerminatedAt s p) s _ (λ right.
    cond_by K (leb (length s) p) (λ _. right) (λ _.
    cond_by K (ltb (length s) (p + 2)) (λ _. tt) (λ _.
    cond_by K (eqb (get_or s (p + 1) 0) 0) (λ _. right) (λ no_end.
    cond_by K (ltb (length s) (p + 4)) (λ _. tt)
    (λ left. (right, record { left = ltb-false _ _ left; no_end = eqb-false _ _ no_end; is = refl }))))))

pub terminator_found : (s : List ℕ) (p : ℕ) {l : Line} → terminator_step s p ≡ done (Some l) → TerminatedAt s p l
terminator_found s p e = knows_line (TerminatedAt s p) s e (terminator_knows s p)

terminated_lies : {s : List ℕ} {p : ℕ} {l : Line} → TerminatedAt s p l → LiesAt s p l
terminated_lies {s} {p} k = rw k.is (omega (arith, body_end_within s p k.left))

pub terminator_sound : Sound terminator_step
terminator_sound = record {
  long_enough = λ s p {f} e. (knows_length (TerminatedAt s p) s f e (terminator_knows s p)).short;
  not_too_long = λ s p {f} e. (knows_length (TerminatedAt s p) s f e (terminator_knows s p)).long;
  lies = λ s p e. terminated_lies (terminator_found s p e);
}

-- The step by links: a law for each of its answers, and what is known of a line that it found.
-- Assumes nothing.
use Prim.Native.Nat.{ℕ, ◌+◌, ◌-◌, ◌≤◌, ◌<◌}
use mathlib.Core.Path.{◌≡◌, refl}
use mathlib.Core.List.{List}
use native.Mathlib.Omega.{arith}
use lib.ListN.{length, get_or}
use lib.Dec.{ltb, eqb}
use borrow.Author.Tests.{le-ltb, lt-ltb, eq-eqb, ne_eqb, ltb-false, eqb-true, eqb-false}
use Rattle.image_bytes.specs.ImageBytes.{target_at}
use Rattle.base_refusals.specs.Answer.{done, refused}
use Rattle.base_refusals.specs.Numbers.{image_too_long, too_short, missing_end, link_backward, link_outside, link_no_end}
use Rattle.image_readers.specs.declared.Line.{Line}
use Rattle.image_readers.proofs.Equations.{LiesAt, Sound}
use Rattle.image_readers.specs.Links.{linked_line, follow, link_step}
use Rattle.image_readers.proofs.Finding.{sized_long, sized_short, Knows, cond_by, sized_knows, knows_length, knows_line}
use Rattle.std.specs.Prelude.{Some, None}

module _ (s : List ℕ) (p : ℕ) where
  pub link_long : 1048576 < length s → refused (image_too_long (length s)) ≡ link_step s p
  unfolding link_step
  link_long h = sized_long s _ h

  pub link_short : length s < 2 → refused too_short ≡ link_step s p
  unfolding link_step
  link_short h = sized_short s _ h

  -- an image of a right length
  module _ (long : length s ≤ 1048576) (short : 2 ≤ length s) where
    pub link_missing : length s - 2 < p → refused (missing_end p) ≡ link_step s p
    unfolding link_step
    link_missing h = let g : length s < p + 2 = omega arith in simp (le-ltb _ _ long, le-ltb _ _ short, lt-ltb _ _ g)

    pub link_end : p ≤ length s - 2 → get_or s (p + 1) 0 ≡ 0 → done None ≡ link_step s p
    unfolding link_step
    link_end h e = let g : p + 2 ≤ length s = omega arith in simp (le-ltb _ _ long, le-ltb _ _ short, le-ltb _ _ g, eq-eqb _ _ e)

    -- a link that is not the end's
    module _ (h : p ≤ length s - 2) (e : get_or s (p + 1) 0 ≡ 0 → ⊥) {t : ℕ} where
      link_follow : t ≡ target_at s p → follow s p t ≡ link_step s p
      unfolding link_step
      link_follow target =
          let g : p + 2 ≤ length s = omega arith in simp (le-ltb _ _ long, le-ltb _ _ short, le-ltb _ _ g, ne_eqb _ _ e, target)

      pub link_backward_lem : t < p + 5 → t ≡ target_at s p → refused (link_backward p) ≡ link_step s p
      link_backward_lem b target = simp (← link_follow target, lt-ltb _ _ b)

      pub link_outside_lem : p + 5 ≤ t → length s < t → t ≡ target_at s p → refused (link_outside p) ≡ link_step s p
      link_outside_lem b f target = simp (← link_follow target, le-ltb _ _ b, lt-ltb _ _ f)

      pub link_no_end_lem : p + 5 ≤ t → t ≤ length s → (get_or s (t - 1) 0 ≡ 0 → ⊥) → t ≡ target_at s p → refused (link_no_end p) ≡ link_step s p
      link_no_end_lem b f z target = simp (← link_follow target, le-ltb _ _ b, le-ltb _ _ f, ne_eqb _ _ z)

      pub link_line : p + 5 ≤ t → t ≤ length s → get_or s (t - 1) 0 ≡ 0 → t ≡ target_at s p → {l : Line} → l ≡ linked_line s p t → done (Some l) ≡ link_step s p
      link_line b f z target is = rw is (simp (← link_follow target, le-ltb _ _ b, le-ltb _ _ f, eq-eqb _ _ z))

-- ---- what was found

-- what is known of a line that was found at p
pub record LinkedAt (s : List ℕ) (p : ℕ) (l : Line) : Type 0 where
  pub left : p + 2 ≤ length s
  pub no_end : get_or s (p + 1) 0 ≡ 0 → ⊥
  pub forward : p + 5 ≤ target_at s p
  pub inside : target_at s p ≤ length s
  pub closes : get_or s (target_at s p - 1) 0 ≡ 0
  pub is : l ≡ linked_line s p (target_at s p)

link_knows : (s : List ℕ) (p : ℕ) → Knows (LinkedAt s p) s (link_step s p)
unfolding link_step
link_knows s p =
    let K = Knows (LinkedAt s p) s in
    let t = target_at s p in
    sized_knows (LinkedAt s p) s _ (λ right.
    cond_by K (ltb (length s) (p + 2)) (λ _. tt) (λ left.
    cond_by K (eqb (get_or s (p + 1) 0) 0) (λ _. right) (λ no_end.
    cond_by K (ltb t (p + 5)) (λ _. tt) (λ forward.
    cond_by K (ltb (length s) t) (λ _. tt) (λ inside.
    cond_by K (eqb (get_or s (t - 1) 0) 0)
    (λ closes. (
      right,
      record {
        left = ltb-false _ _ left;
        no_end = eqb-false _ _ no_end;
        forward = ltb-false _ _ forward;
        inside = ltb-false _ _ inside;
        closes = eqb-true _ _ closes;
        is = refl;
      },
    ))
    (λ _. tt))))))

pub link_found : (s : List ℕ) (p : ℕ) {l : Line} → link_step s p ≡ done (Some l) → LinkedAt s p l
link_found s p e = knows_line (LinkedAt s p) s e (link_knows s p)

linked_lies : {s : List ℕ} {p : ℕ} {l : Line} → LinkedAt s p l → LiesAt s p l
linked_lies {s} {p} k = rw k.is (omega (arith, k.forward, k.inside))

pub link_sound : Sound link_step
link_sound = record {
  long_enough = λ s p {f} e. (knows_length (LinkedAt s p) s f e (link_knows s p)).short;
  not_too_long = λ s p {f} e. (knows_length (LinkedAt s p) s f e (link_knows s p)).long;
  lies = λ s p e. linked_lies (link_found s p e);
}

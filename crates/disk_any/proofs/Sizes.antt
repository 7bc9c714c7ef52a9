-- What an image is by its length.
-- Assumes nothing.
use Prim.Native.Nat.{ℕ, ◌≤◌}
use mathlib.Core.Path.{◌≡◌, refl, sym, subst, ◌∙◌}
use mathlib.Core.Bool.{Bool, true, false, cond}
use mathlib.Core.List.{List}
use lib.Dec.{eqb}
use lib.ListN.{length}
use native.Mathlib.Omega.{arith}
use borrow.Author.Tests.{eqb-true, ne_eqb}
use Rattle.disk_rules.specs.Places.{sectors_before}
use Rattle.disk_any.specs.Any.{disk_kind}
use Rattle.disk_any.specs.AnyHelpers.{Holds}
use Rattle.disk_any.specs.declared.DiskKind.{DiskKind}
use Rattle.disk_any.specs.declared.DiskKind.TheVariants.{D64, D71, D81, Other}

module _ (n : ℕ) where
  pub kind_1 : n ≡ 174848 → D64 35 ≡ disk_kind n
  kind_1 e = rw e

  pub kind_2 : n ≡ 175531 → D64 35 ≡ disk_kind n
  kind_2 e = rw e

  pub kind_3 : n ≡ 196608 → D64 40 ≡ disk_kind n
  kind_3 e = rw e

  pub kind_4 : n ≡ 197376 → D64 40 ≡ disk_kind n
  kind_4 e = rw e

  pub kind_5 : n ≡ 349696 → D71 ≡ disk_kind n
  kind_5 e = rw e

  pub kind_6 : n ≡ 351062 → D71 ≡ disk_kind n
  kind_6 e = rw e

  pub kind_7 : n ≡ 819200 → D81 ≡ disk_kind n
  kind_7 e = rw e

  pub kind_8 : n ≡ 822400 → D81 ≡ disk_kind n
  kind_8 e = rw e

  pub kind_9 : (n ≡ 174848 → ⊥) → (n ≡ 175531 → ⊥) → (n ≡ 196608 → ⊥) → (n ≡ 197376 → ⊥) → (n ≡ 349696 → ⊥) → (n ≡ 351062 → ⊥) → (n ≡ 819200 → ⊥) → (n ≡ 822400 → ⊥) → Other ≡ disk_kind n
  kind_9 a b c d e f g h =
      simp (ne_eqb n 174848 a, ne_eqb n 175531 b, ne_eqb n 196608 c, ne_eqb n 197376 d, ne_eqb n 349696 e, ne_eqb n 351062 f, ne_eqb n 819200 g, ne_eqb n 822400 h)

-- ---- an image of some tracks holds their sectors

module _ (d : List ℕ) where
  tracks_35 : {t : ℕ} → D64 35 ≡ D64 t → 174848 ≤ length d → Holds d t
  unfolding sectors_before
  tracks_35 {t} e h =
      let f : 35 ≡ t = cc in subst (λ (k : ℕ). Holds d k) f (record { low = omega arith; high = omega arith; size = omega arith; few = omega arith })

  tracks_40 : {t : ℕ} → D64 40 ≡ D64 t → 196608 ≤ length d → Holds d t
  unfolding sectors_before
  tracks_40 {t} e h =
      let f : 40 ≡ t = cc in subst (λ (k : ℕ). Holds d k) f (record { low = omega arith; high = omega arith; size = omega arith; few = omega arith })

  -- by one test: either this kind, or one of the rest
  by_test : {t : ℕ} (q : Bool) (a : ℕ) → eqb (length d) a ≡ q → (k rest : DiskKind) → (k ≡ D64 t → length d ≡ a → Holds d t) → (rest ≡ D64 t → Holds d t) → cond q k rest ≡ D64 t → Holds d t
  by_test true a e k rest f g h = f h (eqb-true (length d) a e)
  by_test false a e k rest f g h = g h

  pub kind_holds : {t : ℕ} {k : DiskKind} → k ≡ D64 t → k ≡ disk_kind (length d) → Holds d t
  kind_holds {t} e g =
      by_test (eqb (length d) 174848) 174848 refl (D64 35) _ (λ x y. tracks_35 x (omega arith))
      (by_test (eqb (length d) 175531) 175531 refl (D64 35) _ (λ x y. tracks_35 x (omega arith))
      (by_test (eqb (length d) 196608) 196608 refl (D64 40) _ (λ x y. tracks_40 x (omega arith))
      (by_test (eqb (length d) 197376) 197376 refl (D64 40) _ (λ x y. tracks_40 x (omega arith))
      (by_test (eqb (length d) 349696) 349696 refl D71 _ (λ x y. never x)
      (by_test (eqb (length d) 351062) 351062 refl D71 _ (λ x y. never x)
      (by_test (eqb (length d) 819200) 819200 refl D81 _ (λ x y. never' x)
      (by_test (eqb (length d) 822400) 822400 refl D81 Other (λ x y. never' x) (λ x. never'' x)))))))) (sym g ∙ e) where
        never : D71 ≡ D64 t → Holds d t
        never x = absurd (let z : ◌≡◌ {A = ℕ} 0 1 = cc in omega arith)

        never' : D81 ≡ D64 t → Holds d t
        never' x = absurd (let z : ◌≡◌ {A = ℕ} 0 1 = cc in omega arith)

        never'' : Other ≡ D64 t → Holds d t
        never'' x = absurd (let z : ◌≡◌ {A = ℕ} 0 1 = cc in omega arith)

-- The four zones of a disk: what is chosen by them, and what a track and a sector link to.
-- Assumes nothing.
use Prim.Native.Nat.{ℕ, ◌+◌, ◌≤◌, ◌<◌}
use mathlib.Core.Path.{◌≡◌, refl, ◌∙◌}
use mathlib.Core.Bool.{cond}
use lib.Dec.{ltb}
use borrow.Author.Tests.{lt-ltb, le-ltb, lt-leb, le-leb, eq-eqb, ne_eqb}
use native.Mathlib.Omega.{arith}
use Rattle.disk_rules.specs.Places.{sectors_on, sectors_before}
use Rattle.disk_rules.specs.Links.{link_to, link_on}
use Rattle.disk_rules.specs.declared.Link.TheVariants.{Last, To, Astray}

-- one of four by three bounds
module _ {A : Type 0} (x p q r : ℕ) (a b c d : A) where
  pub zone_1 : x < p → a ≡ cond (ltb x p) a (cond (ltb x q) b (cond (ltb x r) c d))
  zone_1 h = simp (lt-ltb x p h)

  pub zone_2 : p ≤ x → x < q → b ≡ cond (ltb x p) a (cond (ltb x q) b (cond (ltb x r) c d))
  zone_2 g h = simp (le-ltb x p g, lt-ltb x q h)

  pub zone_3 : p ≤ x → q ≤ x → x < r → c ≡ cond (ltb x p) a (cond (ltb x q) b (cond (ltb x r) c d))
  zone_3 g h i = simp (le-ltb x p g, le-ltb x q h, lt-ltb x r i)

  pub zone_4 : p ≤ x → q ≤ x → r ≤ x → d ≡ cond (ltb x p) a (cond (ltb x q) b (cond (ltb x r) c d))
  zone_4 g h i = simp (le-ltb x p g, le-ltb x q h, le-ltb x r i)

module _ (tracks t s : ℕ) where
  pub link_last : t < 1 → Last s ≡ link_on tracks t s
  unfolding link_on
  link_last h = let z : t ≡ 0 = omega arith in simp (eq-eqb t 0 z)

  pub link_far : 1 ≤ t → {t' : ℕ} → t' ≡ t → tracks < t' → Astray ≡ link_on tracks t s
  unfolding link_on
  link_far g e h =
      let z : t ≡ 0 → ⊥ = λ e. omega arith in let i : tracks < t = omega arith in simp (ne_eqb t 0 z, le-leb 1 t g, lt-leb t tracks i)

  module _ (g : 1 ≤ t) {t' s' : ℕ} (a : t' ≡ t) (b : s' ≡ s) (h : t' ≤ tracks) {n : ℕ} (e : n ≡ sectors_on t') where
    pub link_none : n ≤ s' → Astray ≡ link_on tracks t s
    unfolding link_on
    link_none i =
        let z : t ≡ 0 → ⊥ = λ e. omega arith in
        let k : t ≤ tracks = omega arith in
        let f : n ≡ sectors_on t = rw a at e in
        let j : sectors_on t ≤ s = omega arith in
        simp (ne_eqb t 0 z, le-leb 1 t g, le-leb t tracks k, le-ltb s (sectors_on t) j)

    pub link_to_lem : s' < n → {m : ℕ} → m ≡ sectors_before t' → To (m + s') ≡ link_on tracks t s
    unfolding link_on
    link_to_lem i {m} f =
        let z : t ≡ 0 → ⊥ = λ e. omega arith in
        let k : t ≤ tracks = omega arith in
        let l : n ≡ sectors_on t = rw a at e in
        let j : s < sectors_on t = omega arith in
        let o : m ≡ sectors_before t = rw a at f in
        rw (o, b) (simp (ne_eqb t 0 z, le-leb 1 t g, le-leb t tracks k, lt-ltb s (sectors_on t) j))

-- a disk of 35 tracks
pub link_35 : (t s : ℕ) → link_on 35 t s ≡ link_to t s
unfolding link_on link_to
link_35 t s = refl

pub link_on_lem : (t s : ℕ) → 1 ≤ t → t ≤ 35 → {n : ℕ} → n ≡ sectors_on t → s < n → {m : ℕ} → m ≡ sectors_before t → To (m + s) ≡ link_to t s
link_on_lem t s g h e i f = link_to_lem 35 t s g refl refl h e i f ∙ link_35 t s

-- The domain of a text: the loop over its bytes, and what is answered.
-- Assumes nothing.
use Prim.Native.Nat.{ℕ, zero, suc, ◌+◌, ◌-◌, ◌≤◌, ◌<◌, max}
use mathlib.Core.Path.{◌≡◌, refl, sym, ap, ◌∙◌}
use mathlib.Core.Bool.{Bool, true, false, ◌&&◌, false≢true}
use mathlib.Core.List.{List, [], ◌∷◌}
use native.Mathlib.Omega.{arith}
use lib.Dec.{eqb, ltb}
use lib.ListN.{length, get_or, take, drop, drop_of_length-le}
use lib.Seq.{drop-drop}
use borrow.Author.Tests.{lt-ltb, le-ltb, le-leb, lt-leb, ltb-true, eq-eqb, ne_eqb, eqb-true, eqb-false}
use Rattle.std.specs.List.{starts_with as begins}
use Rattle.base_ascii.specs.Search.{starts_with, front}
use Rattle.base_ascii.proofs.Searching.{Onward, onward_by, onward_end, passes_all, tail, here, front_le, front_drop}
use Rattle.base_refusals.specs.Numbers.{text_too_long, bad_byte}
use Rattle.base_refusals.specs.Answer.{done, refused}
use Rattle.text_domain.specs.Domain.{is_pi, domain_length, checked_text}
use Rattle.text_domain.specs.DomainHelpers.{is_low}
use Rattle.base_ascii.proofs.Choice.{taken, left}
use Rattle.text_domain.specs.EightHelpers.{Tops}
use Rattle.text_domain.proofs.EachOfEight.{each_of}

-- ---- one character of the domain in front

below : (b : ℕ) (s : List ℕ) → b < 0x80 → domain_length (b ∷ s) ≡ suc (domain_length s)
unfolding domain_length
below b [] h = taken _ _ (lt-ltb _ _ h)
below b (c ∷ s) h = taken _ _ (lt-ltb _ _ h)

outside : (b : ℕ) (s : List ℕ) → 0x80 ≤ b → is_pi (b ∷ s) ≡ false → domain_length (b ∷ s) ≡ 0
unfolding domain_length
outside b [] h p = left _ _ (le-ltb _ _ h)
outside b (c ∷ s) h p = left _ _ (le-ltb _ _ h) ∙ left _ _ p

-- the pair takes two bytes
pi_long : (t : List ℕ) → is_pi t ≡ true → 2 ≤ length t
unfolding is_pi starts_with
pi_long [] p = absurd (false≢true p)
pi_long (b ∷ []) p = go (eqb b 0xCF) p
  where
    go : (r : Bool) → (r && false) ≡ true → 2 ≤ length (b ∷ [])
    go true e = absurd (false≢true e)
    go false e = absurd (false≢true e)
pi_long (b ∷ c ∷ s) p = omega arith

eqb_back : (a b : ℕ) → eqb a b ≡ eqb b a
eqb_back a b = go (eqb b a) refl
  where
    go : (r : Bool) → eqb b a ≡ r → eqb a b ≡ eqb b a
    go true e = rw e (eq-eqb a b (sym (eqb-true b a e)))
    go false e = rw e (ne_eqb a b (λ q. eqb-false b a e (sym q)))

pub pi_begins : (t : List ℕ) → begins eqb t (0xCF ∷ 0x80 ∷ []) ≡ is_pi t
unfolding is_pi starts_with
pi_begins [] = refl
pi_begins (b ∷ []) = rw (eqb_back 0xCF b, starts_with) refl
pi_begins (b ∷ c ∷ s) = rw (eqb_back 0xCF b, eqb_back 0x80 c, starts_with) (go (eqb b 0xCF) (eqb c 0x80))
  where
    go : (x y : Bool) → (x && (y && true)) ≡ (x && y)
    go true true = refl
    go true false = refl
    go false y = refl

pair : (b : ℕ) (s : List ℕ) → 0x80 ≤ b → is_pi (b ∷ s) ≡ true → domain_length (b ∷ s) ≡ suc (suc (domain_length (drop 1 s)))
unfolding domain_length
pair b [] h p = absurd (omega (arith, pi_long (b ∷ []) p))
pair b (c ∷ s) h p = left _ _ (le-ltb _ _ h) ∙ taken _ _ p

-- ---- the loop

pi_at : (s : List ℕ) (i : ℕ) {r : Bool} → r ≡ is_pi (take (length s - i) (drop i s)) → i < length s → is_pi (get_or s i 0 ∷ drop (i + 1) s) ≡ r
pi_at s i q h = sym (q ∙ ap is_pi (tail s i ∙ here s i h))

module _ {s : List ℕ} {i : ℕ} where
  pub domain_end : length s ≤ i → Onward domain_length s 0 i → i ≡ domain_length s
  unfolding domain_length
  domain_end h o = let e : domain_length (drop i s) ≡ 0 = rw (drop_of_length-le s h) in omega (arith, onward_end o e)

  pub domain_byte : get_or s i 0 < 0x80 → i < length s → Onward domain_length s 0 i → Onward domain_length s 0 (i + 1)
  domain_byte l h o = let e : domain_length (drop i s) ≡ suc (domain_length (drop (i + 1) s)) = rw (here s i h) (below _ _ l) in onward_by o 1 (omega arith)

  module _ {r : Bool} where
    pub domain_pi : r ≡ true → r ≡ is_pi (take (length s - i) (drop i s)) → 0x80 ≤ get_or s i 0 → i < length s → Onward domain_length s 0 i → Onward domain_length s 0 (i + 2)
    domain_pi t q l h o =
        let two : i + 1 + 1 ≡ i + 2 = omega arith in
        let n : drop 1 (drop (i + 1) s) ≡ drop (i + 2) s = drop-drop 1 (i + 1) s ∙ ap (λ (j : ℕ). drop j s) two in
        let e : domain_length (drop i s) ≡ suc (suc (domain_length (drop (i + 2) s))) = rw (here s i h, ← n) (pair _ _ l (pi_at s i q h ∙ t)) in
        onward_by o 2 (omega arith)

    pub domain_stop : r ≡ false → r ≡ is_pi (take (length s - i) (drop i s)) → 0x80 ≤ get_or s i 0 → i < length s → Onward domain_length s 0 i → i ≡ domain_length s
    domain_stop t q l h o =
        let e : domain_length (drop i s) ≡ 0 = rw (here s i h) (outside _ _ l (pi_at s i q h ∙ t)) in omega (arith, onward_end o e)

-- ---- bytes below 80 in front

-- eight, none above one that is below 80
low_eight : {s : List ℕ} {i r : ℕ} → i ≤ front is_low s → 8 ≤ length s - i → Tops s i r → r < 0x80 → i + 8 ≤ front is_low s
low_eight {s} {i} f h t l =
    let o : Onward (front is_low) s 0 i = record { gives = omega (arith, front_drop is_low i s f) } in
    omega (arith, (passes_all is_low 8 (λ k m. lt-ltb (get_or s (i + k) 0) 0x80 (omega (arith, each_of t k m))) (omega arith) o).gives)

pub low_sixteen : {s : List ℕ} {i a b r : ℕ} → r < 0x80 → r ≡ max a b → Tops s i a → Tops s (i + 8) b → 16 ≤ length s - i → i ≤ front is_low s → i + 16 ≤ front is_low s
low_sixteen l m t u h f = omega (arith, low_eight (low_eight f (omega arith) t (omega arith)) (omega arith) u (omega arith))

pub low_within : (s : List ℕ) {i : ℕ} → i ≤ front is_low s → i ≤ length s
low_within s f = omega (arith, front_le is_low s)

-- they lie in the domain
low_length : (s : List ℕ) (i : ℕ) → i ≤ front is_low s → i + domain_length (drop i s) ≡ domain_length s
unfolding front
low_length s zero f = omega arith
low_length [] (suc i) f = absurd (omega arith)
low_length (b ∷ s) (suc i) f = by (is_low b) refl f (low_length s i)
  where
    by : (r : Bool) → is_low b ≡ r → suc i ≤ elim r [ true ↦ suc (front is_low s) | false ↦ 0 ] → (i ≤ front is_low s → i + domain_length (drop i s) ≡ domain_length s)
        → suc i + domain_length (drop i s) ≡ domain_length (b ∷ s)
    by true q g w =
        let m : i + domain_length (drop i s) ≡ domain_length s = w (omega arith) in
        omega (arith, below b s (ltb-true b 0x80 q))
    by false q g w = absurd (omega arith)

pub domain_low : (s : List ℕ) {i : ℕ} → i ≤ front is_low s → Onward domain_length s 0 i
domain_low s {i} f = record { gives = omega (arith, low_length s i f) }

-- ---- the answer

module _ (t : List ℕ) where
  pub text_long : 1048576 < length t → refused (text_too_long (length t)) ≡ checked_text t
  unfolding checked_text
  text_long h = rw (checked_text, lt-leb _ _ h)

  module _ {n : ℕ} (h : length t ≤ 1048576) (q : n ≡ domain_length t) where
    pub text_bad : n < length t → refused (bad_byte n) ≡ checked_text t
    unfolding checked_text
    text_bad l = ap (λ (m : ℕ). refused (bad_byte m)) q ∙ sym (taken _ _ (le-leb _ _ h) ∙ taken _ _ (ap (λ (m : ℕ). ltb m (length t)) (sym q) ∙ lt-ltb _ _ l))

    pub text_fine : length t ≤ n → done tt ≡ checked_text t
    unfolding checked_text
    text_fine l = rw (checked_text, le-leb _ _ h, ← q, le-ltb _ _ l)

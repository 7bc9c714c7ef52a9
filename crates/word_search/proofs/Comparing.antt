-- The loops that compare a word with a text: their invariant, a turn, and their ends; and a word and its capitals.
-- Assumes nothing.
use Prim.Native.Nat.{ℕ, zero, suc, ◌+◌, ◌-◌, ◌≤◌, ◌<◌}
use mathlib.Core.Path.{◌≡◌, refl, sym, ap, ◌∙◌}
use mathlib.Core.Bool.{Bool, true, false, ◌&&◌, false≢true}
use mathlib.Core.List.{List, [], ◌∷◌, map}
use native.Mathlib.Nat.{le_of_suc-le-suc}
use native.Mathlib.Numerals.{add-one}
use native.Mathlib.Omega.{arith}
use lib.Dec.{T, eqb, ltb}
use lib.ListN.{length, get_or, take, drop, drop_of_length-le, length-map}
use lib.Seq.{drop-cons}
use Rattle.std.specs.Prelude.{zip}
use Rattle.std.specs.List.{list_all}
use borrow.Author.Tests.{eq-eqb, ne_eqb, eqb-true, lt-leb, lt-ltb, le-ltb}
use Rattle.base_ascii.specs.Bytes.{between, upper}
use Rattle.base_ascii.proofs.Ranges.{between_in}
use Rattle.word_search.specs.Compare.{begins, alike, same, shortens, passes}
use Rattle.word_search.specs.declared.Test.{Test}
use Rattle.word_search.specs.declared.Test.TheVariants.{Begins, Alike, Same, Shortens}
use Rattle.word_search.specs.RunHelpers.{raised, Ready}
use Rattle.word_search.proofs.Search.{and_left, and_right}
use Rattle.word_search.proofs.Sameness.{T_true}

-- a word that is no longer than the text begins it just where their letters agree, pair by pair; a longer one begins it never
pub begins_zip : (w t : List ℕ) → length w ≤ length t → list_all (λ p. eqb (upper p.0) (upper p.1)) (zip w t) ≡ begins w t
unfolding begins
begins_zip [] t h = refl
begins_zip (x ∷ w) [] h = absurd (omega arith)
begins_zip (x ∷ w) (y ∷ t) h = go (eqb (upper x) (upper y)) (begins_zip w t (le_of_suc-le-suc h))
  where
    go : (b : Bool) → list_all (λ p. eqb (upper p.0) (upper p.1)) (zip w t) ≡ begins w t → (b && list_all (λ p. eqb (upper p.0) (upper p.1)) (zip w t)) ≡ elim b [ true ↦ begins w t | false ↦ false ]
    go true e = e
    go false e = refl

pub begins_long : (w t : List ℕ) → length t < length w → false ≡ begins w t
unfolding begins
begins_long [] t h = absurd (omega arith)
begins_long (x ∷ w) [] h = refl
begins_long (x ∷ w) (y ∷ t) h = go (eqb (upper x) (upper y)) (begins_long w t (le_of_suc-le-suc h))
  where
    go : (b : Bool) → false ≡ begins w t → false ≡ elim b [ true ↦ begins w t | false ↦ false ]
    go true e = e
    go false e = refl

-- what is left of the word begins what is left of the text just where the whole does
pub record Compared (w t : List ℕ) (i : ℕ) : Type 0 where
  pub within : i ≤ length w
  pub gives : begins (drop i w) (drop i t) ≡ begins w t

module _ {w t : List ℕ} {i : ℕ} where
  compared_end : length w ≤ i → Compared w t i → true ≡ begins w t
  unfolding begins
  compared_end h k = rw (drop_of_length-le w h) at k.gives

  compared_short : length t ≤ i → i < length w → Compared w t i → false ≡ begins w t
  unfolding begins
  compared_short l h k = rw (drop-cons w i 0 h, drop_of_length-le t l) at k.gives

  agree : upper (get_or w i 0) ≡ upper (get_or t i 0) → i < length t → i < length w → Compared w t i → Compared w t (i + 1)
  unfolding begins
  agree e l h k =
      let s : begins (drop i w) (drop i t) ≡ begins (drop (i + 1) w) (drop (i + 1) t) = rw (add-one, drop-cons w i 0 h, drop-cons t i 0 l, eq-eqb _ _ e, begins) in
      record { within = omega arith; gives = sym s ∙ k.gives }

  differ : (upper (get_or w i 0) ≡ upper (get_or t i 0) → ⊥) → i < length t → i < length w → Compared w t i → false ≡ begins w t
  unfolding begins
  differ n l h k =
      let s : begins (drop i w) (drop i t) ≡ false = rw (drop-cons w i 0 h, drop-cons t i 0 l, ne_eqb _ _ n, begins) in
      sym s ∙ k.gives

-- ---- a word in capitals

raised_at : (w : List ℕ) → T (raised w) → (i : ℕ) → i < length w → upper (get_or w i 0) ≡ get_or w i 0
unfolding raised
raised_at [] r i h = absurd (omega arith)
raised_at (x ∷ w) r zero h = eqb-true _ _ (T_true _ (and_left (eqb (upper x) x) _ r))
raised_at (x ∷ w) r (suc i) h = raised_at w (and_right (eqb (upper x) x) _ r) i (le_of_suc-le-suc h)

-- what is known to agree need not be compared
known_agrees : (w t : List ℕ) (n : ℕ) → n ≤ length w → begins (take n w) t ≡ true → begins (drop n w) (drop n t) ≡ begins w t
unfolding begins
known_agrees w t zero h e = refl
known_agrees [] t (suc n) h e = absurd (omega arith)
known_agrees (x ∷ w) [] (suc n) h e = absurd (false≢true e)
known_agrees (x ∷ w) (y ∷ t) (suc n) h e = go (eqb (upper x) (upper y)) e (known_agrees w t n (le_of_suc-le-suc h))
  where
    go : (b : Bool) → elim b [ true ↦ begins (take n w) t | false ↦ false ] ≡ true → (begins (take n w) t ≡ true → begins (drop n w) (drop n t) ≡ begins w t)
        → begins (drop n w) (drop n t) ≡ elim b [ true ↦ begins w t | false ↦ false ]
    go true g f = f g
    go false g f = absurd (false≢true g)

-- such a word, of which i bytes were compared
pub record Going (w t : List ℕ) (i : ℕ) : Type 0 where
  pub compared : Compared w t i
  pub capital : T (raised w)

module _ {w t : List ℕ} where
  pub going_start : {known : ℕ} → Ready w t known → Going w t known
  going_start {known} r = record { compared = record { within = r.long; gives = known_agrees w t known r.long r.agrees }; capital = r.capital }

  module _ {i : ℕ} where
    pub going_short : length t ≤ i → i < length w → Going w t i → false ≡ begins w t
    going_short l h g = compared_short l h g.compared

    pub going_end : length w ≤ i → Going w t i → true ≡ begins w t
    going_end h g = compared_end h g.compared

    module _ {b : ℕ} where
      pub going_turn : get_or w i 0 ≡ b → b ≡ upper (get_or t i 0) → i < length t → i < length w → Going w t i → Going w t (i + 1)
      going_turn e q l h g = record { compared = agree (raised_at w g.capital i h ∙ e ∙ q) l h g.compared; capital = g.capital }

      pub going_other : (get_or w i 0 ≡ b → ⊥) → b ≡ upper (get_or t i 0) → i < length t → i < length w → Going w t i → false ≡ begins w t
      going_other n q l h g = differ (λ e. n (sym (raised_at w g.capital i h) ∙ e ∙ sym q)) l h g.compared

-- ---- a word and its capitals

upper_small : (x : ℕ) → between 97 122 x ≡ true → upper x ≡ x - 32
unfolding upper
upper_small x e = simp e

upper_other : (x : ℕ) → between 97 122 x ≡ false → upper x ≡ x
unfolding upper
upper_other x e = simp e

below_small : (y : ℕ) → y < 97 → between 97 122 y ≡ false
unfolding between
below_small y h = rw (lt-leb 97 y h)

upper_upper : (x : ℕ) → upper (upper x) ≡ upper x
upper_upper x = go (between 97 122 x) refl
  where
    go : (r : Bool) → between 97 122 x ≡ r → upper (upper x) ≡ upper x
    go true e = rw (upper_small x e) (upper_other (x - 32) (below_small (x - 32) (omega (arith, between_in 97 122 x e))))
    go false e = ap upper (upper_other x e)

pub raise_raised : (w : List ℕ) → T (raised (map upper w))
unfolding raised
raise_raised [] = tt
raise_raised (x ∷ w) = rw (upper_upper x, eq-eqb (upper x) (upper x) refl) (raise_raised w)

pub raise_begins : (w t : List ℕ) → begins (map upper w) t ≡ begins w t
unfolding begins
raise_begins [] t = refl
raise_begins (x ∷ w) [] = refl
raise_begins (x ∷ w) (y ∷ t) = rw (begins, upper_upper x) (go (eqb (upper x) (upper y)) (raise_begins w t))
  where
    go : (r : Bool) → begins (map upper w) t ≡ begins w t → ◌≡◌ {A = Bool} (elim r [ true ↦ begins (map upper w) t | false ↦ false ]) (elim r [ true ↦ begins w t | false ↦ false ])
    go true e = e
    go false e = refl

pub raise_alike : (w t : List ℕ) → alike (map upper w) t ≡ alike w t
unfolding alike
raise_alike w t = rw (length-map w upper, raise_begins w t)

raise_begun : (w t : List ℕ) → begins t (map upper w) ≡ begins t w
unfolding begins
raise_begun w [] = refl
raise_begun [] (y ∷ t) = refl
raise_begun (x ∷ w) (y ∷ t) = rw (begins, upper_upper x) (go (eqb (upper y) (upper x)) (raise_begun w t))
  where
    go : (r : Bool) → begins t (map upper w) ≡ begins t w → ◌≡◌ {A = Bool} (elim r [ true ↦ begins t (map upper w) | false ↦ false ]) (elim r [ true ↦ begins t w | false ↦ false ])
    go true e = e
    go false e = refl

pub raise_shortens : (w t : List ℕ) → shortens (map upper w) t ≡ shortens w t
unfolding shortens
raise_shortens w t = rw (length-map w upper, raise_begun w t)

-- ---- a word and a text that may be a beginning of it

module _ (w t : List ℕ) where
  pub shortens_none : length t ≡ 0 → false ≡ shortens w t
  unfolding shortens
  shortens_none e = rw (shortens, e)

  pub shortens_long : length w ≤ length t → false ≡ shortens w t
  unfolding shortens
  shortens_long h = rw (shortens, le-ltb _ _ h) (off (ltb 0 (length t)))
    where
      off : (b : Bool) → false ≡ ((b && false) && begins t w)
      off true = refl
      off false = refl

  pub shortens_begun : {r : Bool} → r ≡ begins t w → length t < length w → (length t ≡ 0 → ⊥) → r ≡ shortens w t
  unfolding shortens
  shortens_begun q h n = let some : 0 < length t = omega arith in rw (shortens, lt-ltb _ _ some, lt-ltb _ _ h) q

-- ---- each test

module _ (w t : List ℕ) {test : Test} where
  pub passes_begins : {r : Bool} → r ≡ begins w t → test ≡ Begins → r ≡ passes test w t
  unfolding passes
  passes_begins q e = rw e q

  pub passes_alike : {r : Bool} → r ≡ begins w t → length w ≡ length t → test ≡ Alike → r ≡ passes test w t
  unfolding passes alike
  passes_alike q l e = rw (e, passes, alike, eq-eqb _ _ l) q

  pub passes_longer : (length w ≡ length t → ⊥) → test ≡ Alike → false ≡ passes test w t
  unfolding passes alike
  passes_longer n e = rw (e, passes, alike, ne_eqb _ _ n)

  pub passes_same : {r : Bool} → r ≡ same w t → test ≡ Same → r ≡ passes test w t
  unfolding passes
  passes_same q e = rw e q

  pub passes_shortens : {r : Bool} → r ≡ shortens w t → test ≡ Shortens → r ≡ passes test w t
  unfolding passes
  passes_shortens q e = rw e q

-- The name that a text stands for.
-- Assumes nothing.
use Prim.Native.Nat.{ℕ, zero, suc, ◌+◌, ◌-◌, ◌*◌, ◌≤◌, ◌<◌}
use mathlib.Core.Path.{◌≡◌, refl, sym, ap, ◌∙◌}
use mathlib.Core.Bool.{Bool, true, false, cond, ◌&&◌}
use mathlib.Core.List.{List, [], ◌∷◌}
use native.Mathlib.Omega.{arith}
use lib.Dec.{leb, eqb}
use lib.ListN.{length, get_or, take, drop, length-drop, drop_of_length-le}
use lib.Seq.{drop-drop}
use borrow.Author.Tests.{eq-eqb, ne_eqb, le-leb, lt-leb, leb-true}
use Rattle.base_ascii.specs.Bytes.{between, upper, is_digit}
use Rattle.base_ascii.proofs.Ranges.{between_in}
use Rattle.base_ascii.proofs.Searching.{tail, here}
use Rattle.say_put.specs.Clipped.{Clipped}
use Rattle.say_put.proofs.Clipping.{Owes, owes_all, owes_less, owes_none}
use Rattle.disk_names.specs.Names.{digit_value, byte_form, character_byte, name_behind, name_given}
use Rattle.std.specs.Prelude.{Option, Some, None}

-- ---- digits and characters

pub letter_above : {u : ℕ} {s : Bool} → s ≡ true → s ≡ between 65 70 u → 55 ≤ u
letter_above {u} is e = omega (arith, between_in 65 70 u (sym e ∙ is))

module _ (b : ℕ) {r : Bool} where
  pub digit_above : r ≡ true → r ≡ is_digit b → 48 ≤ b
  digit_above is e = omega (arith, between_in 48 57 b (sym e ∙ is))

  pub digit_is : r ≡ true → r ≡ is_digit b → b - 48 ≡ digit_value b
  unfolding digit_value
  digit_is is e = simp (sym e ∙ is)

  module _ {u : ℕ} {s : Bool} where
    pub letter_is : s ≡ true → s ≡ between 65 70 u → u ≡ upper b → r ≡ false → r ≡ is_digit b → u - 55 ≡ digit_value b
    unfolding digit_value
    letter_is is e c not-one d = let f : between 65 70 (upper b) ≡ true = ap (between 65 70) (sym c) ∙ sym e ∙ is in rw c (simp (sym d ∙ not-one, f))

    pub no_digit : s ≡ false → s ≡ between 65 70 u → u ≡ upper b → r ≡ false → r ≡ is_digit b → 16 ≡ digit_value b
    unfolding digit_value
    no_digit is e c not-one d = let f : between 65 70 (upper b) ≡ false = ap (between 65 70) (sym c) ∙ sym e ∙ is in simp (sym d ∙ not-one, f)

module _ (b : ℕ) {u : ℕ} {s : Bool} where
  pub character_is : s ≡ true → s ≡ between 0x20 0x5F u → u ≡ upper b → u ≡ character_byte b
  unfolding character_byte
  character_is is e c = let f : between 0x20 0x5F (upper b) ≡ true = ap (between 0x20 0x5F) (sym c) ∙ sym e ∙ is in c ∙ simp f

  pub character_none : s ≡ false → s ≡ between 0x20 0x5F u → u ≡ upper b → 0xA0 ≡ character_byte b
  unfolding character_byte
  character_none is e c = let f : between 0x20 0x5F (upper b) ≡ false = ap (between 0x20 0x5F) (sym c) ∙ sym e ∙ is in simp f

-- ---- two hex digits between braces

module _ (s : List ℕ) where
  pub form_short : length s < 4 → None ≡ byte_form s
  unfolding byte_form
  form_short h = simp (lt-leb 4 (length s) h)

  module _ (h : 4 ≤ length s) where
    pub form_open : (get_or s 0 0 ≡ 0x7B → ⊥) → None ≡ byte_form s
    unfolding byte_form
    form_open n = simp (le-leb 4 (length s) h, ne_eqb _ _ n)

    module _ (o : get_or s 0 0 ≡ 0x7B) where
      pub form_close : (get_or s 3 0 ≡ 0x7D → ⊥) → None ≡ byte_form s
      unfolding byte_form
      form_close n = simp (le-leb 4 (length s) h, eq-eqb _ _ o, ne_eqb _ _ n)

      module _ (e : get_or s 3 0 ≡ 0x7D) {high : ℕ} (g : high ≡ digit_value (get_or s 1 0)) where
        pub form_high : 15 < high → None ≡ byte_form s
        unfolding byte_form
        form_high n = let m : 15 < digit_value (get_or s 1 0) = rw g at n in simp (le-leb 4 (length s) h, eq-eqb _ _ o, eq-eqb _ _ e, lt-leb _ _ m)

        module _ (small : high ≤ 15) {low : ℕ} (l : low ≡ digit_value (get_or s 2 0)) where
          pub form_low : 15 < low → None ≡ byte_form s
          unfolding byte_form
          form_low n =
              let m : 15 < digit_value (get_or s 2 0) = rw l at n in
              let k : digit_value (get_or s 1 0) ≤ 15 = rw g at small in
              simp (le-leb 4 (length s) h, eq-eqb _ _ o, eq-eqb _ _ e, le-leb _ _ k, lt-leb _ _ m)

          pub form_byte : low ≤ 15 → Some (16 * high + low) ≡ byte_form s
          unfolding byte_form
          form_byte n =
              let m : digit_value (get_or s 2 0) ≤ 15 = rw l at n in
              let k : digit_value (get_or s 1 0) ≤ 15 = rw g at small in
              rw (g, l) (simp (le-leb 4 (length s) h, eq-eqb _ _ o, eq-eqb _ _ e, le-leb _ _ k, le-leb _ _ m))

-- it takes four characters
form_long : (s : List ℕ) {v : ℕ} → byte_form s ≡ Some v → 4 ≤ length s
unfolding byte_form
form_long s {v} e = go (leb 4 (length s)) refl e
  where
    go : (b : Bool) → leb 4 (length s) ≡ b
        → cond (b && eqb (get_or s 0 0) 0x7B && eqb (get_or s 3 0) 0x7D && leb (digit_value (get_or s 1 0)) 15 && leb (digit_value (get_or s 2 0)) 15)
        (Some (16 * digit_value (get_or s 1 0) + digit_value (get_or s 2 0))) None ≡ Some v
        → 4 ≤ length s
    go true q f = leb-true _ _ q
    go false q f = let z : ◌≡◌ {A = ℕ} 0 1 = cc in absurd (omega arith)

-- ---- the loop over a text

behind_drop : (k : ℕ) (s : List ℕ) → name_behind k s ≡ name_behind 0 (drop k s)
unfolding name_behind
behind_drop zero s = refl
behind_drop (suc k) [] = refl
behind_drop (suc k) (b ∷ s) = behind_drop k s

-- of a text i characters are passed, and the name of the rest is owed
pub record Giving (text buffer out : List ℕ) (i to : ℕ) : Type 0 where
  pub few : i ≤ length text
  pub owes : Owes buffer 0 (name_given text) out to (name_behind 0 (drop i text))

pub giving_start : (text buffer : List ℕ) → Giving text buffer buffer 0 0
giving_start text buffer = record { few = omega arith; owes = owes_all (name_given text) (omega arith) }

module _ {text buffer out : List ℕ} {i to : ℕ} {f : Option ℕ} (k : Giving text buffer out i to) (h : i < length text)
    (e : f ≡ byte_form (take (length text - i) (drop i text))) where
  form_here : f ≡ byte_form (drop i text)
  form_here = e ∙ ap byte_form (tail text i)

  pub form_room : {v : ℕ} → f ≡ Some v → i + 4 ≤ length text
  form_room q = omega (arith, form_long (drop i text) (sym form_here ∙ q), length-drop i text)

  pub giving_form : {v mid : ℕ} {half : List ℕ} → f ≡ Some v → Clipped out to (v ∷ []) mid half → Giving text buffer half (i + 4) mid
  unfolding name_behind
  giving_form {v} q p =
      let g : byte_form (get_or text i 0 ∷ drop (i + 1) text) ≡ Some v = ap byte_form (sym (here text i h)) ∙ sym form_here ∙ q in
      let n : i + 1 + 3 ≡ i + 4 = omega arith in
      let d : name_behind 3 (drop (i + 1) text) ≡ name_behind 0 (drop (i + 4) text) = behind_drop 3 (drop (i + 1) text) ∙ rw (drop-drop, n) in
      record { few = form_room q; owes = owes_less (v ∷ []) (name_behind 0 (drop (i + 4) text)) k.owes (rw (here text i h) (rw (name_behind, g) (ap (λ (l : List ℕ). v ∷ l) d))) p }

  pub giving_character : {b mid : ℕ} {half : List ℕ} → f ≡ None → b ≡ character_byte (get_or text i 0) → Clipped out to (b ∷ []) mid half
      → Giving text buffer half (i + 1) mid
  unfolding name_behind
  giving_character {b} q c p =
      let g : byte_form (get_or text i 0 ∷ drop (i + 1) text) ≡ None = ap byte_form (sym (here text i h)) ∙ sym form_here ∙ q in
      record { few = omega arith; owes = owes_less (b ∷ []) (name_behind 0 (drop (i + 1) text)) k.owes (rw (here text i h) (rw (name_behind, g, c))) p }

pub giving_end : {text buffer out : List ℕ} {i to : ℕ} → Giving text buffer out i to → length text ≤ i → Clipped buffer 0 (name_given text) to out
unfolding name_behind
giving_end {text} k h = owes_none k.owes (rw (drop_of_length-le text h))

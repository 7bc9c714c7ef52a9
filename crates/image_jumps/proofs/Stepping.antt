-- The steps over a body: one byte of a list, one unit of the text, and the loop over them.
-- Assumes nothing.
use Prim.Native.Nat.{ℕ, ◌+◌, ◌-◌, ◌*◌, ◌≤◌, ◌<◌}
use mathlib.Core.Path.{◌≡◌, refl, sym, ap, ◌∙◌}
use mathlib.Core.Bool.{Bool, true, false, cond}
use mathlib.Core.List.{List, [], ◌∷◌, ◌++◌, map, map-append, append-nil}
use native.Mathlib.Omega.{arith}
use mir.Syntax.{w64}
use mir.Val.{Fits}
use lib.ListN.{length, get_or, drop, drop_of_length-le}
use lib.Seq.{drop-drop}
use Rattle.base_ascii.specs.Bytes.{is_digit}
use Rattle.base_ascii.proofs.Ranges.{between_in}
use Rattle.base_ascii.proofs.Searching.{here}
use Rattle.image_units.specs.declared.Mode.{Mode}
use Rattle.image_units.specs.declared.Mode.TheVariants.{Plain}
use Rattle.image_units.specs.declared.Rules.{Rules}
use Rattle.image_units.specs.declared.Taken.{Taken}
use Rattle.image_units.specs.Units.{unit_at}
use Rattle.image_units.proofs.Walking.{unit_some, unit_within}
use Rattle.image_jumps.specs.declared.Cursor.{Cursor}
use Rattle.image_jumps.specs.declared.Jump.{Jump}
use Rattle.image_jumps.specs.declared.Moved.{Moved}
use Rattle.image_jumps.specs.Jumps.{with_digit, jump_told, targets_from, opened_list, heeded, jumps_from, low}
use Rattle.image_jumps.specs.JumpHelpers.{low_part, left_from, left_of, distance, Moves, JumpsTo, NextIs, Begins}
use Rattle.image_jumps.proofs.Targets.{targets_none, targets_digit, targets_space, targets_comma, targets_other, low_early}
use Rattle.image_jumps.proofs.Walking.{Inert, jumps_none, jumps_more, jumps_pass}
use Rattle.std.specs.Prelude.{Option, Some, None}

-- ---- a digit

-- a digit more
pub digit_first : {part : Option ℕ} (d : ℕ) → part ≡ None → d < 256 → Some d ≡ low_part (with_digit part d)
digit_first d e h = rw e (ap Some (omega arith))

module _ {part : Option ℕ} {v : ℕ} (d : ℕ) (e : part ≡ Some v) where
  pub digit_cut : 6553 < v → Some 65536 ≡ low_part (with_digit part d)
  digit_cut h = rw e (ap Some (omega arith))

  pub digit_more : {n : ℕ} → n ≡ low (v * 10 + d) → Some n ≡ low_part (with_digit part d)
  digit_more is = rw e (ap Some is)

pub digit_low : (b : ℕ) {r : Bool} → r ≡ is_digit b → r ≡ true → 48 ≤ b
digit_low b e t = (between_in 48 57 b (sym e ∙ t)).0

-- ---- what is left

-- what a list has left, and the jumps behind it
abbrev cut : List ℕ → List ℕ
cut = map low

low_told : (p : Option ℕ) (ts : List ℕ) → cut (jump_told p ts) ≡ jump_told (low_part p) (cut ts)
low_told None ts = refl
low_told (Some v) ts = refl

told_then : (p : Option ℕ) (ts us : List ℕ) → jump_told p ts ++ us ≡ jump_told p (ts ++ us)
told_then None ts us = refl
told_then (Some v) ts us = refl

module _ (body : List ℕ) (c : Cursor) where
  pub left_text : c.listed ≡ false → left_of body c ≡ cut (jumps_from c.mode (drop c.at body))
  unfolding left_of
  left_text e = ap (λ (t : Bool). cut (left_from t c.part c.mode (drop c.at body))) e

  pub left_list : c.listed ≡ true → left_of body c ≡ cut (targets_from c.part (drop c.at body)) ++ cut (jumps_from c.mode (drop c.at body))
  unfolding left_of
  left_list e =
      ap (λ (t : Bool). cut (left_from t c.part c.mode (drop c.at body))) e
      ∙ map-append low (targets_from c.part (drop c.at body)) (jumps_from c.mode (drop c.at body))

-- ---- a byte of a list

-- the byte at a place
abbrev byte_at : List ℕ → Cursor → ℕ
byte_at body c = get_or body c.at 0

module _ (body : List ℕ) (c : Cursor) (listed : c.listed ≡ true) (h : c.at < length body) where
  one : ◌≡◌ {A = ℕ} (cond c.listed 1 0) 1
  one = ap (λ (t : Bool). cond t 1 0) listed

  s : List ℕ
  s = drop (c.at + 1) body

  byte : drop c.at body ≡ byte_at body c ∷ s
  unfolding s
  byte = here body c.at h

  jumps : List ℕ → List ℕ
  jumps x = cut (jumps_from c.mode x)

  split : left_of body c ≡ cut (targets_from c.part (byte_at body c ∷ s)) ++ jumps (byte_at body c ∷ s)
  unfolding jumps
  split = left_list body c listed ∙ ap (λ (x : List ℕ). cut (targets_from c.part x) ++ cut (jumps_from c.mode x)) byte

  -- a digit, a space or a comma is passed by the text
  pass : Inert (byte_at body c) → jumps (byte_at body c ∷ s) ≡ jumps s
  unfolding jumps
  pass i = ap cut (jumps_pass (byte_at body c) s i c.mode)

  pub list_digit : {t : Bool} {q : Option ℕ} {r : Moved} → t ≡ is_digit (byte_at body c) → t ≡ true → q ≡ low_part (with_digit c.part (byte_at body c - 48))
      → r ≡ record { told = None; cursor = record { at = c.at + 1; mode = c.mode; listed = true; part = q } } → Moves body c r
  unfolding jumps s
  list_digit {t} {q} {r} u v f g =
      let e : is_digit (byte_at body c) ≡ true = sym u ∙ v in
      let i : Inert (byte_at body c) = omega (arith, between_in 48 57 (byte_at body c) e) in
      let d : Cursor = record { at = c.at + 1; mode = c.mode; listed = true; part = q } in
      rw g (record {
        same =
            split ∙ ap (λ (x : List ℕ). cut x ++ jumps (byte_at body c ∷ s)) (targets_digit c.part (byte_at body c) s e)
            ∙ ap (λ (x : List ℕ). cut (targets_from (with_digit c.part (byte_at body c - 48)) s) ++ x) (pass i)
            ∙ ap (λ (x : List ℕ). x ++ jumps s) (sym (low_early s (with_digit c.part (byte_at body c - 48))))
            ∙ ap (λ (x : Option ℕ). cut (targets_from x s) ++ jumps s) (sym f)
            ∙ sym (left_list body d refl);
        nearer = omega (arith, one);
      })

  module _ {t : Bool} (u : t ≡ is_digit (byte_at body c)) (v : t ≡ false) where
    e : is_digit (byte_at body c) ≡ false
    e = sym u ∙ v

    pub list_space : {r : Moved} → byte_at body c ≡ 0x20 → r ≡ record { told = None; cursor = record { at = c.at + 1; mode = c.mode; listed = true; part = c.part } } → Moves body c r
    unfolding jumps s
    list_space f g =
        let d : Cursor = record { at = c.at + 1; mode = c.mode; listed = true; part = c.part } in
        rw g (record {
          same =
              split ∙ ap (λ (x : List ℕ). cut x ++ jumps (byte_at body c ∷ s)) (targets_space c.part (byte_at body c) s e f)
              ∙ ap (λ (x : List ℕ). cut (targets_from c.part s) ++ x) (pass (omega arith))
              ∙ sym (left_list body d refl);
          nearer = omega (arith, one);
        })

    pub list_comma : {r : Moved} → byte_at body c ≡ 0x2C → r ≡ record { told = c.part; cursor = record { at = c.at + 1; mode = c.mode; listed = true; part = None } } → Moves body c r
    unfolding jumps s
    list_comma f g =
        let d : Cursor = record { at = c.at + 1; mode = c.mode; listed = true; part = None } in
        rw g (record {
          same =
              split ∙ ap (λ (x : List ℕ). cut x ++ jumps (byte_at body c ∷ s)) (targets_comma c.part (byte_at body c) s e f)
              ∙ ap (λ (x : List ℕ). cut (jump_told c.part (targets_from None s)) ++ x) (pass (omega arith))
              ∙ ap (λ (x : List ℕ). x ++ jumps s) (low_told c.part (targets_from None s))
              ∙ told_then (low_part c.part) (cut (targets_from None s)) (jumps s)
              ∙ ap (jump_told (low_part c.part)) (sym (left_list body d refl));
          nearer = omega (arith, one);
        })

    pub list_other : {r : Moved} → (byte_at body c ≡ 0x20 → ⊥) → (byte_at body c ≡ 0x2C → ⊥) → r ≡ record { told = c.part; cursor = record { at = c.at; mode = c.mode; listed = false; part = None } } → Moves body c r
    unfolding jumps s
    list_other f k g =
        let d : Cursor = record { at = c.at; mode = c.mode; listed = false; part = None } in
        rw g (record {
          same =
              split ∙ ap (λ (x : List ℕ). cut x ++ jumps (byte_at body c ∷ s)) (targets_other c.part (byte_at body c) s e f k)
              ∙ ap (λ (x : List ℕ). x ++ jumps (byte_at body c ∷ s)) (low_told c.part [])
              ∙ told_then (low_part c.part) [] (jumps (byte_at body c ∷ s))
              ∙ ap (λ (x : List ℕ). jump_told (low_part c.part) (cut (jumps_from c.mode x))) (sym byte)
              ∙ ap (jump_told (low_part c.part)) (sym (left_text body d refl));
          nearer = omega (arith, one);
        })

-- ---- a unit of the text

pub unit_fits : (body : List ℕ) (at : ℕ) (mode : Mode) {t : Taken} (rules : Rules) → at < length body → t ≡ unit_at rules mode (get_or body at 0) (drop (at + 1) body)
    → Fits w64 (length body) → Fits w64 (at + t.used)
unit_fits body at mode {t} rules h e f = record { fits = omega (arith, unit_within rules mode body at h e, f.fits) }

pub unit_moves : {body : List ℕ} {at : ℕ} {mode : Mode} {t : Taken} {r : Moved} {rules : Rules} → at < length body → rules ≡ heeded
    → t ≡ unit_at rules mode (get_or body at 0) (drop (at + 1) body)
    → targets_from None (opened_list mode (get_or body at 0) (drop (at + 1) body)) ≡ []
    → r ≡ record { told = None; cursor = record { at = at + t.used; mode = t.mode; listed = false; part = None } }
    → Moves body (record { at = at; mode = mode; listed = false; part = None }) r
unit_moves {body} {at} {mode} {t} {r} {rules} h u e none g =
    let b = get_or body at 0 in
    let s = drop (at + 1) body in
    let is : t ≡ unit_at heeded mode b s = e ∙ ap (λ (x : Rules). unit_at x mode b s) u in
    let d : Cursor = record { at = at + t.used; mode = t.mode; listed = false; part = None } in
    rw g (record {
      same =
          left_text body (record { at = at; mode = mode; listed = false; part = None }) refl
          ∙ ap (λ (x : List ℕ). cut (jumps_from mode x)) (here body at h) ∙ ap cut (jumps_more mode b s)
          ∙ ap (λ (x : List ℕ). cut (x ++ jumps_from (unit_at heeded mode b s).mode (drop (unit_at heeded mode b s).used (b ∷ s)))) none
          ∙ ap (λ (x : Taken). cut (jumps_from x.mode (drop x.used (b ∷ s)))) (sym is)
          ∙ ap (λ (x : List ℕ). cut (jumps_from t.mode (drop t.used x))) (sym (here body at h))
          ∙ ap (λ (x : List ℕ). cut (jumps_from t.mode x)) (drop-drop t.used at body)
          ∙ sym (left_text body d refl);
      nearer = omega (arith, unit_some heeded mode body at h is, unit_within heeded mode body at h is);
    })

module _ (body : List ℕ) (c : Cursor) (text : c.listed ≡ false) where
  none_more : ◌≡◌ {A = ℕ} (cond c.listed 1 0) 0
  none_more = ap (λ (t : Bool). cond t 1 0) text

  pub text_unit : {r : Moved} → Moves body (record { at = c.at; mode = c.mode; listed = false; part = None }) r → Moves body c r
  text_unit m =
      record {
        same = left_text body c text ∙ sym (left_text body (record { at = c.at; mode = c.mode; listed = false; part = None }) refl) ∙ m.same;
        nearer = omega (arith, none_more, m.nearer);
      }

  pub text_list : {from : ℕ} {r : Moved} → c.at < length body → Begins body c.at c.mode from
      → r ≡ record { told = None; cursor = record { at = from; mode = Plain; listed = true; part = None } } → Moves body c r
  text_list {from} h k g =
      rw g (record {
        same =
            left_text body c text ∙ ap (λ (m : Mode). cut (jumps_from m (drop c.at body))) k.plain ∙ ap cut k.gives
            ∙ map-append low (targets_from None (drop from body)) (jumps_from Plain (drop from body))
            ∙ sym (left_list body (record { at = from; mode = Plain; listed = true; part = None }) refl);
        nearer = omega (arith, none_more, k.behind);
      })

-- ---- the loop over a body

-- what is left now is what was left
pub record Onwards (body : List ℕ) (c₀ c : Cursor) : Type 0 where
  pub same : left_of body c₀ ≡ left_of body c
  pub near : distance body c ≤ distance body c₀

pub onwards_start : (body : List ℕ) (c : Cursor) → Onwards body c c
onwards_start body c = record { same = refl; near = omega arith }

module _ {body : List ℕ} {c₀ c : Cursor} (o : Onwards body c₀ c) {m : Moved} (k : Moves body c m) where
  pub onwards_turn : m.told ≡ None → Onwards body c₀ m.cursor
  onwards_turn e =
      record { same = o.same ∙ k.same ∙ ap (λ (p : Option ℕ). jump_told (low_part p) (left_of body m.cursor)) e; near = omega (arith, o.near, k.nearer) }

  pub next_told : {target t : ℕ} → m.told ≡ Some target → t ≡ low target → JumpsTo body c₀ t m.cursor
  next_told e is =
      record {
        same = o.same ∙ k.same ∙ ap (λ (p : Option ℕ). jump_told (low_part p) (left_of body m.cursor)) e ∙ rw is;
        nearer = omega (arith, o.near, k.nearer);
      }

pub next_last : {body : List ℕ} {c₀ c : Cursor} → Onwards body c₀ c → (r : Option Jump) → NextIs body c r → NextIs body c₀ r
next_last o (Some j) k = record { same = o.same ∙ k.same; nearer = omega (arith, o.near, k.nearer) }
next_last o None k = o.same ∙ k

-- at the end
module _ (body : List ℕ) (c : Cursor) (h : length body ≤ c.at) where
  pub last_text : c.listed ≡ false → left_of body c ≡ []
  last_text e = left_text body c e ∙ ap (λ (x : List ℕ). cut (jumps_from c.mode x)) (drop_of_length-le body h) ∙ ap cut (jumps_none c.mode)

  last_list : c.listed ≡ true → left_of body c ≡ jump_told (low_part c.part) []
  last_list e =
      left_list body c e ∙ ap (λ (x : List ℕ). cut (targets_from c.part x) ++ cut (jumps_from c.mode x)) (drop_of_length-le body h)
      ∙ ap (λ (x : List ℕ). cut x ++ cut (jumps_from c.mode [])) (targets_none c.part)
      ∙ ap (λ (x : List ℕ). cut (jump_told c.part []) ++ cut x) (jumps_none c.mode)
      ∙ append-nil (cut (jump_told c.part [])) ∙ low_told c.part []

  pub last_none : c.part ≡ None → left_of body c ≡ []
  last_none f = go c.listed refl
    where
      go : (t : Bool) → c.listed ≡ t → left_of body c ≡ []
      go false e = last_text e
      go true e = last_list e ∙ ap (λ (p : Option ℕ). jump_told (low_part p) []) f

  pub last_worth : c.listed ≡ true → {target t : ℕ} → c.part ≡ Some target → t ≡ low target
      → JumpsTo body c t (record { at = c.at; mode = c.mode; listed = false; part = None })
  last_worth e {t = t} f is =
      record {
        same =
            last_list e ∙ ap (λ (p : Option ℕ). jump_told (low_part p) []) f ∙ ap (λ (n : ℕ). n ∷ []) (sym is)
            ∙ ap (λ (x : List ℕ). t ∷ x) (sym (left_text body d refl ∙ ap (λ (x : List ℕ). cut (jumps_from c.mode x)) (drop_of_length-le body h) ∙ ap cut (jumps_none c.mode)));
        nearer = let z : ◌≡◌ {A = ℕ} (cond c.listed 1 0) 1 = ap (λ (t : Bool). cond t 1 0) e in omega arith;
      }
    where
      d : Cursor
      d = record { at = c.at; mode = c.mode; listed = false; part = None }

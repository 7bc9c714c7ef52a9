-- Walking over a body: the jumps of bytes are those of the list that the first unit opens, and those of what is left behind the unit;
-- and a byte that opens nothing, quotes nothing and ends nothing may be passed.
-- Assumes nothing.
use Prim.Native.Nat.{ℕ, suc, ◌<◌}
use mathlib.Core.Path.{◌≡◌, refl, sym, ap, ◌∙◌}
use mathlib.Core.Bool.{Bool, true, false}
use mathlib.Core.List.{List, [], ◌∷◌, ◌++◌}
use native.Mathlib.Omega.{arith}
use lib.Dec.{eqb}
use lib.ListN.{length, drop, length-drop}
use borrow.Author.Tests.{ne_eqb, eqb-true}
use Rattle.base_steps.proofs.Nearer.{Nearer, again_on}
use Rattle.base_ascii.specs.Search.{equals, front, past}
use Rattle.base_ascii.proofs.Searching.{front_more, front_none}
use Rattle.image_units.specs.declared.Mode.{Mode}
use Rattle.image_units.specs.declared.Mode.TheVariants.{Plain, Quoted, Remark, Data, QuotedData}
use Rattle.image_units.specs.declared.Taken.{Taken}
use Rattle.image_units.specs.Units.{mode_behind, unit_at}
use Rattle.image_units.proofs.Walking.{unit_takes}
use Rattle.image_jumps.specs.Jumps.{targets_from, opened_list, heeded, jumps_on, jumps_from}
use Rattle.image_jumps.proofs.Targets.{targets_none}
use Rattle.std.specs.Prelude.{None}

nearer : Nearer (λ (x : Mode × List ℕ). length x.1) (λ f x. jumps_on f x.0 x.1)
nearer x f g alike = go x.1 alike
  where
    go : (s : List ℕ) → ((y : Mode × List ℕ) → length y.1 < length s → f y ≡ g y) → jumps_on f x.0 s ≡ jumps_on g x.0 s
    go [] h = refl
    go (b ∷ rest) h =
        let t = unit_at heeded x.0 b rest in
        ap (λ (js : List ℕ). targets_from None (opened_list x.0 b rest) ++ js)
        (h (t.mode, drop t.used (b ∷ rest)) (omega (arith, length-drop t.used (b ∷ rest), (unit_takes heeded x.0 b rest).0)))

pub jumps_none : (mode : Mode) → jumps_from mode [] ≡ []
unfolding jumps_from
jumps_none mode = refl

pub jumps_more : (mode : Mode) (b : ℕ) (rest : List ℕ)
    → jumps_from mode (b ∷ rest) ≡ targets_from None (opened_list mode b rest) ++ jumps_from (unit_at heeded mode b rest).mode (drop (unit_at heeded mode b rest).used (b ∷ rest))
unfolding jumps_from
jumps_more mode b rest = again_on nearer [] (λ x. suc (length x.1)) (λ y. omega arith) (mode, b ∷ rest)

-- ---- bytes that may be passed

-- no quote, prefix, remark, DATA, colon, and nothing that opens a list
pub record Inert (b : ℕ) : Type 0 where
  pub quote : b ≡ 0x22 → ⊥
  pub prefix : b ≡ 0x64 → ⊥
  pub remark : b ≡ 0x8F → ⊥
  pub items : b ≡ 0x83 → ⊥
  pub colon : b ≡ 0x3A → ⊥
  pub goto : b ≡ 0x89 → ⊥
  pub gosub : b ≡ 0x8D → ⊥
  pub then : b ≡ 0xA7 → ⊥
  pub go : b ≡ 0xCB → ⊥

-- a unit of one byte that leaves the mode as it is
record Stays (mode : Mode) (t : Taken) : Type 0 where
  one : t.used ≡ 1
  same : t.mode ≡ mode

module _ (b : ℕ) (s : List ℕ) (i : Inert b) where
  stays : (mode : Mode) → Stays mode (unit_at heeded mode b s)
  unfolding unit_at mode_behind
  stays Plain =
      record {
        one = simp (ne_eqb b 0x22 i.quote, ne_eqb b 0x64 i.prefix);
        same = simp (ne_eqb b 0x22 i.quote, ne_eqb b 0x64 i.prefix, ne_eqb b 0x8F i.remark, ne_eqb b 0x83 i.items);
      }
  stays Quoted = record { one = refl; same = simp (ne_eqb b 0x22 i.quote) }
  stays Remark = record { one = refl; same = refl }
  stays Data =
      record {
        one = simp (ne_eqb b 0x22 i.quote, ne_eqb b 0x64 i.prefix);
        same = simp (ne_eqb b 0x22 i.quote, ne_eqb b 0x64 i.prefix, ne_eqb b 0x3A i.colon);
      }
  stays QuotedData = record { one = refl; same = simp (ne_eqb b 0x22 i.quote) }

  opens_none : (mode : Mode) → opened_list mode b s ≡ []
  unfolding opened_list
  opens_none Plain = simp (ne_eqb b 0x89 i.goto, ne_eqb b 0x8D i.gosub, ne_eqb b 0xA7 i.then, ne_eqb b 0xCB i.go)
  opens_none Quoted = refl
  opens_none Remark = refl
  opens_none Data = refl
  opens_none QuotedData = refl

  pub jumps_pass : (mode : Mode) → jumps_from mode (b ∷ s) ≡ jumps_from mode s
  jumps_pass mode =
      let k = stays mode in
      jumps_more mode b s ∙ ap (λ (ts : List ℕ). targets_from None ts ++ jumps_from (unit_at heeded mode b s).mode (drop (unit_at heeded mode b s).used (b ∷ s))) (opens_none mode)
      ∙ ap (λ (ts : List ℕ). ts ++ jumps_from (unit_at heeded mode b s).mode (drop (unit_at heeded mode b s).used (b ∷ s))) (targets_none None)
      ∙ ap (λ (m : Mode). jumps_from m (drop (unit_at heeded mode b s).used (b ∷ s))) k.same ∙ ap (λ (n : ℕ). jumps_from mode (drop n (b ∷ s))) k.one

-- spaces are passed
pub jumps_spaces : (mode : Mode) (s : List ℕ) → jumps_from mode s ≡ jumps_from mode (past (equals 0x20) s)
unfolding front
jumps_spaces mode [] = refl
jumps_spaces mode (b ∷ s) = go (eqb b 0x20) refl (jumps_spaces mode s)
  where
    go : (t : Bool) → eqb b 0x20 ≡ t → jumps_from mode s ≡ jumps_from mode (past (equals 0x20) s) → jumps_from mode (b ∷ s) ≡ jumps_from mode (past (equals 0x20) (b ∷ s))
    go true e ih =
        let z : b ≡ 0x20 = eqb-true b 0x20 e in
        jumps_pass b s (omega arith) mode ∙ ih ∙ ap (λ (n : ℕ). jumps_from mode (drop n (b ∷ s))) (sym (front_more (equals 0x20) b s e))
    go false e ih = ap (λ (n : ℕ). jumps_from mode (drop n (b ∷ s))) (sym (front_none (equals 0x20) b s e))

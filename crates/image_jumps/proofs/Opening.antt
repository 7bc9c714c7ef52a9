-- What opens a list: GOTO, GOSUB, THEN; and GO, spaces, TO.
-- Assumes nothing.
use Prim.Native.Nat.{ℕ, ◌+◌, ◌-◌, ◌≤◌, ◌<◌}
use mathlib.Core.Logic.{◌⊎◌, inl, inr}
use mathlib.Core.Path.{◌≡◌, refl, sym, ap, ◌∙◌, subst}
use mathlib.Core.List.{List, [], ◌∷◌, ◌++◌}
use native.Mathlib.Omega.{arith}
use mir.Syntax.{w64}
use mir.Val.{Fits}
use lib.ListN.{length, get_or, take, drop, length-drop, drop_of_length-le}
use lib.Seq.{drop-drop}
use borrow.Author.Tests.{eq-eqb, ne_eqb}
use Rattle.base_ascii.specs.Search.{equals, front, past}
use Rattle.base_ascii.proofs.Searching.{here, tail, front_le}
use Rattle.image_units.specs.declared.Mode.{Mode}
use Rattle.image_units.specs.declared.Mode.TheVariants.{Plain, Quoted, Remark, Data, QuotedData}
use Rattle.image_units.specs.Units.{mode_behind, unit_at}
use Rattle.image_jumps.specs.Jumps.{targets_from, behind_to, list_behind, opened_list, heeded, jumps_from}
use Rattle.image_jumps.specs.JumpHelpers.{Begins, Opens, GoesTo, BehindGo}
use Rattle.image_jumps.proofs.Targets.{targets_none}
use Rattle.image_jumps.proofs.Walking.{jumps_more, jumps_pass, jumps_spaces}
use Rattle.std.specs.Prelude.{Option, Some, None}

-- ---- GO, spaces, TO

module _ (body : List ℕ) {from n : ℕ} (h : from ≤ length body) (e : n ≡ front (equals 0x20) (take (length body - from) (drop from body))) where
  counted : n ≡ front (equals 0x20) (drop from body)
  counted = e ∙ ap (front (equals 0x20)) (tail body from)

  spaces_within : from + n ≤ length body
  spaces_within = omega (arith, front_le (equals 0x20) (drop from body), counted, length-drop from body)

  pub spaces_fit : Fits w64 (length body) → Fits w64 (from + n)
  spaces_fit f = record { fits = omega (arith, spaces_within, f.fits) }

  behind : past (equals 0x20) (drop from body) ≡ drop (from + n) body
  behind = ap (λ (m : ℕ). drop m (drop from body)) (sym counted) ∙ drop-drop n from body

  pub goes_to_lem : from + n < length body → get_or body (from + n) 0 ≡ 0xA4 → GoesTo body from (from + n + 1)
  goes_to_lem l t =
      let at : drop (from + n) body ≡ get_or body (from + n) 0 ∷ drop (from + n + 1) body = here body (from + n) l in
      record {
        behind = omega arith;
        list = ap behind_to (behind ∙ at) ∙ simp (eq-eqb _ _ t);
        none =
            jumps_spaces Plain (drop from body) ∙ ap (jumps_from Plain) (behind ∙ at)
            ∙ jumps_pass (get_or body (from + n) 0) (drop (from + n + 1) body) (omega arith) Plain;
      }

  pub goes_elsewhere : from + n < length body → (get_or body (from + n) 0 ≡ 0xA4 → ⊥) → behind_to (past (equals 0x20) (drop from body)) ≡ []
  goes_elsewhere l t = ap behind_to (behind ∙ here body (from + n) l) ∙ simp (ne_eqb _ _ t)

  pub goes_nowhere : length body ≤ from + n → behind_to (past (equals 0x20) (drop from body)) ≡ []
  goes_nowhere l = ap behind_to (behind ∙ drop_of_length-le body l)

-- ---- a byte of plain text

opened_plain : (b : ℕ) (s : List ℕ) → opened_list Plain b s ≡ list_behind b s
unfolding opened_list
opened_plain b s = refl

module _ (body : List ℕ) (i : ℕ) (h : i < length body) where
  -- a token that is neither a remark's nor DATA's
  token_opens : 0x84 ≤ get_or body i 0 → (get_or body i 0 ≡ 0x8F → ⊥)
      → jumps_from Plain (drop i body) ≡ targets_from None (list_behind (get_or body i 0) (drop (i + 1) body)) ++ jumps_from Plain (drop (i + 1) body)
  token_opens l r =
      let b = get_or body i 0 in
      let s = drop (i + 1) body in
      ap (jumps_from Plain) (here body i h) ∙ jumps_more Plain b s ∙ ap (λ (ts : List ℕ). ts ++ jumps_from (unit_at heeded Plain b s).mode (drop (unit_at heeded Plain b s).used (b ∷ s))) opens
      ∙ ap (λ (m : Mode). targets_from None (list_behind b s) ++ jumps_from m (drop (unit_at heeded Plain b s).used (b ∷ s))) mode
      ∙ ap (λ (n : ℕ). targets_from None (list_behind b s) ++ jumps_from Plain (drop n (b ∷ s))) one
    where
      quote : get_or body i 0 ≡ 0x22 → ⊥
      quote = λ q. omega arith

      prefix : get_or body i 0 ≡ 0x64 → ⊥
      prefix = λ q. omega arith

      items : get_or body i 0 ≡ 0x83 → ⊥
      items = λ q. omega arith

      opens : targets_from None (opened_list Plain (get_or body i 0) (drop (i + 1) body)) ≡ targets_from None (list_behind (get_or body i 0) (drop (i + 1) body))
      opens = ap (targets_from None) (opened_plain (get_or body i 0) (drop (i + 1) body))

      mode : (unit_at heeded Plain (get_or body i 0) (drop (i + 1) body)).mode ≡ Plain
      mode = unfold unit_at mode_behind in simp (ne_eqb _ 0x22 quote, ne_eqb _ 0x64 prefix, ne_eqb _ 0x8F r, ne_eqb _ 0x83 items)

      one : (unit_at heeded Plain (get_or body i 0) (drop (i + 1) body)).used ≡ 1
      one = unfold unit_at in simp (ne_eqb _ 0x22 quote, ne_eqb _ 0x64 prefix)

  -- GOTO, GOSUB, THEN
  module _ {mode : Mode} (plain : mode ≡ Plain) where
    opens_here : 0x84 ≤ get_or body i 0 → (get_or body i 0 ≡ 0x8F → ⊥) → list_behind (get_or body i 0) (drop (i + 1) body) ≡ drop (i + 1) body → Begins body i mode (i + 1)
    opens_here l r e =
        record {
          plain = plain;
          behind = omega arith;
          gives = token_opens l r ∙ ap (λ (ts : List ℕ). targets_from None ts ++ jumps_from Plain (drop (i + 1) body)) e;
        }

    opens_goto : get_or body i 0 ≡ 0x89 → Begins body i mode (i + 1)
    unfolding list_behind
    opens_goto e = opens_here (omega arith) (λ q. omega arith) (simp (eq-eqb _ _ e))

    opens_gosub : get_or body i 0 ≡ 0x8D → Begins body i mode (i + 1)
    unfolding list_behind
    opens_gosub e = let n : get_or body i 0 ≡ 0x89 → ⊥ = λ q. omega arith in opens_here (omega arith) (λ q. omega arith) (simp (ne_eqb _ _ n, eq-eqb _ _ e))

    opens_then : get_or body i 0 ≡ 0xA7 → Begins body i mode (i + 1)
    unfolding list_behind
    opens_then e =
        let n : get_or body i 0 ≡ 0x89 → ⊥ = λ q. omega arith in
        let m : get_or body i 0 ≡ 0x8D → ⊥ = λ q. omega arith in
        opens_here (omega arith) (λ q. omega arith) (simp (ne_eqb _ _ n, ne_eqb _ _ m, eq-eqb _ _ e))

    pub opens_at_once : (get_or body i 0 ≡ 0x89) ⊎ ((get_or body i 0 ≡ 0x8D) ⊎ (get_or body i 0 ≡ 0xA7)) → Begins body i mode (i + 1)
    opens_at_once (inl e) = opens_goto e
    opens_at_once (inr (inl e)) = opens_gosub e
    opens_at_once (inr (inr e)) = opens_then e

  -- GO
  module _ (e : get_or body i 0 ≡ 0xCB) where
    go_behind : list_behind (get_or body i 0) (drop (i + 1) body) ≡ behind_to (past (equals 0x20) (drop (i + 1) body))
    unfolding list_behind
    go_behind =
        let n : get_or body i 0 ≡ 0x89 → ⊥ = λ q. omega arith in
        let m : get_or body i 0 ≡ 0x8D → ⊥ = λ q. omega arith in
        let k : get_or body i 0 ≡ 0xA7 → ⊥ = λ q. omega arith in
        simp (ne_eqb _ _ n, ne_eqb _ _ m, ne_eqb _ _ k, eq-eqb _ _ e)

    pub opens_go : (r : Option ℕ) → BehindGo body (i + 1) r → Opens body i Plain r
    opens_go (Some from) g =
        record {
          plain = refl;
          behind = omega (arith, g.behind);
          gives =
              token_opens (omega arith) (λ q. omega arith) ∙ ap (λ (ts : List ℕ). targets_from None ts ++ jumps_from Plain (drop (i + 1) body)) (go_behind ∙ g.list)
              ∙ ap (λ (js : List ℕ). targets_from None (drop from body) ++ js) g.none;
        }
    opens_go None g = ap (targets_from None) (opened_plain (get_or body i 0) (drop (i + 1) body) ∙ go_behind ∙ g) ∙ targets_none None

  -- any other byte
  pub opens_nothing : (get_or body i 0 ≡ 0x89 → ⊥) → (get_or body i 0 ≡ 0x8D → ⊥) → (get_or body i 0 ≡ 0xA7 → ⊥) → (get_or body i 0 ≡ 0xCB → ⊥)
      → targets_from None (opened_list Plain (get_or body i 0) (drop (i + 1) body)) ≡ []
  unfolding opened_list
  opens_nothing n m k g = ap (targets_from None) (simp (ne_eqb _ _ n, ne_eqb _ _ m, ne_eqb _ _ k, ne_eqb _ _ g)) ∙ targets_none None

-- ---- where no list is opened at all

pub opens_in : (body : List ℕ) (i : ℕ) {mode x : Mode} (r : Option ℕ) → mode ≡ x → Opens body i x r → Opens body i mode r
opens_in body i r e k = rw e k

pub opens_elsewhere : (mode : Mode) (b : ℕ) (s : List ℕ) → (mode ≡ Plain → ⊥) → targets_from None (opened_list mode b s) ≡ []
unfolding opened_list
opens_elsewhere Plain b s n = absurd (n refl)
opens_elsewhere Quoted b s n = targets_none None
opens_elsewhere Remark b s n = targets_none None
opens_elsewhere Data b s n = targets_none None
opens_elsewhere QuotedData b s n = targets_none None

-- what is known once a list was looked for
module _ (body : List ℕ) (i : ℕ) (mode : Mode) {r : Option ℕ} where
  pub opens_told : r ≡ None → Opens body i mode r → targets_from None (opened_list mode (get_or body i 0) (drop (i + 1) body)) ≡ []
  opens_told e k = subst (Opens body i mode) e k

  pub begins_told : {from : ℕ} → r ≡ Some from → Opens body i mode r → Begins body i mode from
  begins_told e k = subst (Opens body i mode) e k

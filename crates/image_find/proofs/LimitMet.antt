-- The answer is 19 exactly when the limit is met (document 02, No. 4).
-- Assumes nothing.
use Prim.Native.Nat.{ℕ, ◌+◌, ◌-◌, ◌≤◌, ◌<◌}
use mathlib.Core.Path.{◌≡◌, refl, sym, ap, ◌∙◌}
use mathlib.Core.Bool.{Bool, true, false, cond}
use mathlib.Core.List.{List, [], ◌∷◌}
use mathlib.Core.Logic.{◌↔◌}
use native.Mathlib.Omega.{arith}
use lib.Dec.{eqb, leb, ltb}
use lib.ListN.{length, get_or}
use borrow.Author.Tests.{ltb-false, leb-true, leb-false, eqb-false, le-leb, lt-leb, ne_eqb}
use Rattle.base_steps.specs.Each.{Each}
use Rattle.base_refusals.specs.Numbers.{Numbered, image_too_long, too_short}
use Rattle.base_refusals.specs.Answer.{Answer, done, refused}
use Rattle.image_bytes.specs.ImageBytes.{target_at}
use Rattle.image_readers.specs.declared.Line.{Line}
use Rattle.image_readers.specs.Chain.{Chain, here, on, Leads}
use Rattle.image_readers.specs.Lined.{Ending, ended, faulted, Lined}
use Rattle.image_readers.specs.Lines.{lines_of}
use Rattle.image_readers.specs.Links.{link_step}
use Rattle.image_readers.proofs.ByLinks.{link_sound}
use Rattle.image_readers.proofs.Finding.{sized_right}
use Rattle.image_readers.proofs.Lined.{lined_line, lined_end, lined_refused, chain_lined}
use Rattle.image_readers.proofs.Reading.{lines_lead}
use Rattle.image_find.specs.LimitMet.{LimitMet}
use Rattle.image_find.specs.Sought.{limit_reached, Visit, at, within, line_sought}
use Rattle.image_find.proofs.Seeking.{sought_from}
use Rattle.std.specs.Prelude.{Option, Some, None}

-- ---- no step answers 19

abbrev code : {A : Type 0} → Answer A → ℕ
code (done a) = 0
code (refused n) = n.number

either : (b : Bool) (x y : Answer (Option Line)) → (code x ≡ 19 → ⊥) → (code y ≡ 19 → ⊥) → code (cond b x y) ≡ 19 → ⊥
either true x y p q = p
either false x y p q = q

step_other : (s : List ℕ) (p : ℕ) → code (link_step s p) ≡ 19 → ⊥
unfolding link_step
step_other s p =
    either (ltb 1048576 (length s)) _ _ (λ e. omega arith)
    (either (ltb (length s) 2) _ _ (λ e. omega arith)
    (either (ltb (length s) (p + 2)) _ _ (λ e. omega arith)
    (either (eqb (get_or s (p + 1) 0) 0) _ _ (λ e. omega arith)
    (either (ltb (target_at s p) (p + 5)) _ _ (λ e. omega arith)
    (either (ltb (length s) (target_at s p)) _ _ (λ e. omega arith)
    (either (eqb (get_or s (target_at s p - 1) 0) 0) _ _ (λ e. omega arith) (λ e. omega arith)))))))

-- ---- 19, so the limit is met

module _ (number limit : ℕ) (s : List ℕ) where
  -- the same from p on, v headers being visited
  record MetFrom (p v : ℕ) : Type 0 where
    visited : List Line
    next : ℕ
    lead : Chain (link_step s) p visited next
    many : v + length visited ≡ limit
    others : Each (λ l. l.number ≡ number → ⊥) visited
    more : link_step s next ≡ done None → ⊥

  met_here : {p v : ℕ} → v ≤ limit → leb limit v ≡ true → (link_step s p ≡ done None → ⊥) → MetFrom p v
  met_here {p} {v} h e n = record { visited = []; next = p; lead = here; many = omega (arith, leb-true limit v e); others = tt; more = n }

  met : (v : ℕ) {p q : ℕ} {ls : List Line} (e : Ending) → ((n : Numbered) → e ≡ faulted n → link_step s q ≡ refused n) → Chain (link_step s) p ls q → v ≤ limit
      → within number limit v ls e ≡ refused limit_reached → MetFrom p v
  unfolding within
  met v ended f here h w = let z : ◌≡◌ {A = ℕ} 0 19 = ap code w in absurd (omega arith)
  met v {p} (faulted n) f here h w = go (leb limit v) refl w
    where
      go : (b : Bool) → leb limit v ≡ b → ◌≡◌ {A = Answer Visit} (cond b (refused limit_reached) (refused n)) (refused limit_reached) → MetFrom p v
      go true e g = met_here h e (λ z. let o : ◌≡◌ {A = ℕ} 0 1 = cc (f n refl) in omega arith)
      go false e g = absurd (step_other s p (ap code (f n refl) ∙ ap code g))
  met v {p} e f (on {l = x} {ls = ls} k c) h w = go (λ m g. met (v + 1) e f c m g) (leb limit v) refl (eqb x.number number) refl w
    where
      go : (v + 1 ≤ limit → within number limit (v + 1) ls e ≡ refused limit_reached → MetFrom x.next (v + 1)) → (b : Bool) → leb limit v ≡ b → (d : Bool) → eqb x.number number ≡ d
          → cond b (refused limit_reached) (cond d (done (at (v + 1) x)) (within number limit (v + 1) ls e)) ≡ refused limit_reached → MetFrom p v
      go behind true i d j g = met_here h i (λ z. let o : ◌≡◌ {A = ℕ} 0 1 = cc in omega arith)
      go behind false i true j g = let z : ◌≡◌ {A = ℕ} 0 19 = ap code g in absurd (omega arith)
      go behind false i false j g =
          let m : MetFrom x.next (v + 1) = behind (omega (arith, leb-false limit v i)) g in
          record {
            visited = x ∷ m.visited;
            next = m.next;
            lead = on k m.lead;
            many = omega (arith, m.many);
            others = (eqb-false x.number number j, m.others);
            more = m.more;
          }

  met_from : sought_from number limit s 2 0 ≡ refused limit_reached → MetFrom 2 0
  met_from w = go (lines_of link_step s) (lines_lead link_sound s 2)
    where
      go : (a : Answer (List Line)) → Leads link_step s 2 a → MetFrom 2 0
      go (done ls) k =
          met 0 ended (λ n z. let o : ◌≡◌ {A = ℕ} 0 1 = cc in absurd (omega arith)) k.1 (omega arith)
          (ap (λ (x : Lined). within number limit 0 x.lines x.ending) (sym (chain_lined link_sound s k.1 (lined_end link_sound s k.0 k.2))) ∙ w)
      go (refused n) k =
          met 0 (faulted n) (λ m z. let o : n ≡ m = cc in k.3 ∙ ap refused o) k.2 (omega arith)
          (ap (λ (x : Lined). within number limit 0 x.lines x.ending) (sym (chain_lined link_sound s k.2 (lined_refused link_sound s k.1 k.3))) ∙ w)

  reached_met : line_sought number limit s ≡ refused limit_reached → LimitMet number limit s
  unfolding line_sought
  reached_met w = go (ltb 1048576 (length s)) refl (ltb (length s) 2) refl w
    where
      go : (b : Bool) → ltb 1048576 (length s) ≡ b → (d : Bool) → ltb (length s) 2 ≡ d
          → cond b (refused (image_too_long (length s))) (cond d (refused too_short) (sought_from number limit s 2 0)) ≡ refused limit_reached → LimitMet number limit s
      go true i d j g = let z : ◌≡◌ {A = ℕ} 7 19 = ap code g in absurd (omega arith)
      go false i true j g = let z : ◌≡◌ {A = ℕ} 8 19 = ap code g in absurd (omega arith)
      go false i false j g =
          let m : MetFrom 2 0 = met_from g in
          record {
            few = ltb-false 1048576 (length s) i;
            some = ltb-false (length s) 2 j;
            visited = m.visited;
            next = m.next;
            lead = m.lead;
            many = omega (arith, m.many);
            others = m.others;
            more = m.more;
          }

  -- ---- the limit is met, so 19

  reached_here : (p v : ℕ) → limit ≤ v → (link_step s p ≡ done None → ⊥) → sought_from number limit s p v ≡ refused limit_reached
  unfolding within
  reached_here p v h n = go (link_step s p) refl
    where
      go : (a : Answer (Option Line)) → link_step s p ≡ a → sought_from number limit s p v ≡ refused limit_reached
      go (done (Some l)) e = ap (λ (x : Lined). within number limit v x.lines x.ending) (lined_line link_sound s p e) ∙ simp (le-leb _ _ h)
      go (done None) e = absurd (n e)
      go (refused r) e = ap (λ (x : Lined). within number limit v x.lines x.ending) (lined_refused link_sound s p e) ∙ simp (le-leb _ _ h)

  reached_from : (v : ℕ) {p q : ℕ} {ls : List Line} → Chain (link_step s) p ls q → v + length ls ≡ limit → Each (λ l. l.number ≡ number → ⊥) ls → (link_step s q ≡ done None → ⊥)
      → sought_from number limit s p v ≡ refused limit_reached
  unfolding within
  reached_from v {p} here m o n = reached_here p v (omega arith) n
  reached_from v (on {p = p} {l = x} k c) m o n =
      let below : v < limit = omega arith in
      ap (λ (y : Lined). within number limit v y.lines y.ending) (lined_line link_sound s p k)
      ∙ simp (lt-leb _ _ below, ne_eqb _ _ o.0) (reached_from (v + 1) c (omega arith) o.1 n)

  met_reached : LimitMet number limit s → line_sought number limit s ≡ refused limit_reached
  unfolding line_sought
  met_reached m = sym (sized_right s _ m.few m.some) ∙ reached_from 0 m.lead (omega (arith, m.many)) m.others m.more

  pub limit_reached_lem : (line_sought number limit s ≡ refused limit_reached) ↔ LimitMet number limit s
  limit_reached_lem = (reached_met, met_reached)

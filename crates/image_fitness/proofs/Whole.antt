-- The whole walk: in an image that the reader by links accepts, over its own marks, the walk from the first place on tells its faults.
-- Assumes nothing.
use Prim.Native.Nat.{ℕ, ◌+◌}
use mathlib.Core.Path.{◌≡◌, refl, sym, ap, ◌∙◌}
use mathlib.Core.Bool.{Bool, true, false}
use mathlib.Core.List.{List, [], ◌∷◌, ◌++◌, map}
use native.Mathlib.Omega.{arith}
use lib.ListN.{replicate}
use Rattle.base_refusals.specs.Answer.{done, map_done}
use Rattle.image_readers.specs.declared.Line.{Line}
use Rattle.image_readers.specs.Bodies.{body_of}
use Rattle.image_readers.specs.Lines.{lines_of}
use Rattle.image_readers.specs.Links.{link_step}
use Rattle.image_readers.specs.Lined.{Lined, lined_from}
use Rattle.image_readers.proofs.ByLinks.{link_sound}
use Rattle.image_readers.proofs.Lined.{accepted}
use Rattle.image_marks.specs.Marks.{line_marks, has_mark}
use Rattle.image_marks.proofs.Numbers.{numbers_marked}
use Rattle.image_jumps.specs.Jumps.{jumps_of, low}
use Rattle.image_faults.specs.declared.Fault.{Fault}
use Rattle.image_faults.specs.declared.Fault.TheVariants.{NoTarget}
use Rattle.image_fitness.specs.declared.Stage.TheVariants.{Memory}
use Rattle.image_faults.specs.Faults.{memory_faults, relink_faults, number_faults, order_faults, zero_faults, length_faults, unmet, jump_faults, line_faults, lines_faults, has_target, faults_in, fitness}
use Rattle.image_fitness.specs.FaultHelpers.{rest_from, stage_faults, faults_at}

-- ---- the marks tell the numbers

numbers_tell : (ls : List Line) (t : ℕ) → has_mark (line_marks (replicate 65536 0) ls) t ≡ has_target ls t
unfolding has_target
numbers_tell ls t = numbers_marked ls t

-- ---- tests that agree find the same faults

module _ (f g : ℕ → Bool) (alike : (t : ℕ) → f t ≡ g t) where
  unmet_alike : (ts : List ℕ) → unmet f ts ≡ unmet g ts
  unfolding unmet
  unmet_alike [] = refl
  unmet_alike (t ∷ ts) = go (unmet_alike ts) (f t) (g t) (alike t)
    where
      go : unmet f ts ≡ unmet g ts → (b c : Bool) → b ≡ c
          → ◌≡◌ {A = List ℕ} (elim b [ true ↦ unmet f ts | false ↦ t ∷ unmet f ts ]) (elim c [ true ↦ unmet g ts | false ↦ t ∷ unmet g ts ])
      go ih true true e = ih
      go ih false false e = ap (λ (us : List ℕ). t ∷ us) ih
      go ih true false e = let z : ◌≡◌ {A = ℕ} 0 1 = cc in absurd (omega arith)
      go ih false true e = let z : ◌≡◌ {A = ℕ} 0 1 = cc in absurd (omega arith)

  line_alike : (s : List ℕ) (least : ℕ) (l : Line) → line_faults f s least l ≡ line_faults g s least l
  unfolding line_faults jump_faults
  line_alike s least l =
      ap (λ (ts : List ℕ). number_faults l ++ (order_faults least l ++ (zero_faults s l ++ (length_faults s l ++ map (NoTarget l.number) ts))))
      (unmet_alike (map low (jumps_of (body_of s l))))

  lines_alike : (s : List ℕ) (least : ℕ) (ls : List Line) → lines_faults f s least ls ≡ lines_faults g s least ls
  unfolding lines_faults
  lines_alike s least [] = refl
  lines_alike s least (l ∷ ls) = rw (line_alike s least l, lines_alike s (l.number + 1) ls)

-- ---- the walk

-- after `image_marks::mark_numbers` over blank marks, what is left at `first` is what makes the image unfit
pub faults_walked : (s : List ℕ) {ls : List Line} {marked : List ℕ} → lines_of link_step s ≡ done ls
    → marked ≡ line_marks (replicate 65536 0) (lined_from link_step s 2).lines
    → done (faults_at (has_mark marked) s (record { stage = Memory; offset = 2; least = 0 })) ≡ fitness s
unfolding stage_faults rest_from fitness faults_in
faults_walked s {ls} {marked} e m =
    let lines : (lined_from link_step s 2).lines ≡ ls = ap (λ (x : Lined). x.lines) (accepted link_sound s e) in
    let own : marked ≡ line_marks (replicate 65536 0) ls = m ∙ ap (line_marks (replicate 65536 0)) lines in
    ap (λ (ks : List Line). done (memory_faults s ++ (lines_faults (has_mark marked) s 0 ks ++ relink_faults s))) lines
    ∙ ap (λ (n : List ℕ). done (memory_faults s ++ (lines_faults (has_mark n) s 0 ls ++ relink_faults s))) own
    ∙ ap (λ (fs : List Fault). done (memory_faults s ++ (fs ++ relink_faults s)))
    (lines_alike (has_mark (line_marks (replicate 65536 0) ls)) (has_target ls) (numbers_tell ls) s 0 ls)
    ∙ ap (map_done (faults_in s)) (sym e)

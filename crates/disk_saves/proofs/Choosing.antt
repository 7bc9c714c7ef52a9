-- How many sectors an image takes, and the lowest free ones.
-- Assumes nothing.
use Prim.Native.Nat.{ℕ, ◌≤◌, ◌<◌}
use mathlib.Core.Path.{◌≡◌, sym, ap, ◌∙◌}
use mathlib.Core.Bool.{Bool, cond}
use mathlib.Core.List.{List}
use lib.ListN.{length, take}
use lib.Seq.{take-take, get_or-take, length-take-le}
use native.Mathlib.Omega.{arith}
use borrow.Author.Tests.{lt-ltb, le-ltb}
use Rattle.base_steps.specs.Each.{Each}
use Rattle.base_steps.proofs.Each.{each_at}
use Rattle.base_refusals.specs.Numbers.{disk_full}
use Rattle.base_refusals.specs.Answer.{refused}
use Rattle.disk_rules.specs.Lists.{numbers_from, those}
use Rattle.disk_rules.specs.Map.{is_free}
use Rattle.disk_rules.specs.Free.{free_sectors}
use Rattle.disk_rules.specs.Calls.{sectors_for, taken, After, onto_disk, with_file}
use Rattle.disk_rules.proofs.Counting.{numbers_long}
use Rattle.disk_chains.specs.ChainHelpers.{Lists}
use Rattle.disk_check.proofs.Looking.{each_those, numbers_each, Sector, those_few, listed_start}
use Rattle.disk_saves.specs.FileHelpers.{Chosen}
use Rattle.disk_saves.specs.SaveHelpers.{saved_new}

pub free_each : (d : List ℕ) → Each Sector (free_sectors d)
unfolding free_sectors
free_each d = each_those Sector (is_free d) (numbers_from 0 683) (numbers_each Sector 0 683 (λ n a b. omega arith))

run_few : (test : ℕ → Bool) (from k : ℕ) → length (those test (numbers_from from k)) ≤ k
run_few test from k = omega (arith, those_few test (numbers_from from k), numbers_long from k)

pub free_few : (d : List ℕ) → length (free_sectors d) ≤ 683
unfolding free_sectors
free_few d = run_few (is_free d) 0 683

pub listed_few : (d : List ℕ) {buffer after : List ℕ} {count : ℕ} → Lists (free_sectors d) buffer count after → count ≤ 683
listed_few d l = omega (arith, l.counts, free_few d)

module _ (d image : List ℕ) {buffer after : List ℕ} {count needed : ℕ} (l : Lists (free_sectors d) buffer count after) (e : needed ≡ sectors_for image) where
  pub too_few : (name : List ℕ) → count < needed → ◌≡◌ {A = After} (record { answer = refused disk_full; disk = d }) (onto_disk (saved_new d name image) d)
  unfolding saved_new
  too_few name h =
      let g : length (free_sectors d) < sectors_for image = omega (arith, l.counts) in
      ap (λ (t : Bool). onto_disk (cond t (refused disk_full) (with_file d name image (taken d image))) d) (sym (lt-ltb (length (free_sectors d)) (sectors_for image) g))

  module _ (b : length buffer ≡ 683) (h : needed ≤ count) where
    chosen_are : take needed after ≡ taken d image
    chosen_are =
        sym (take-take needed count after h) ∙ ap (take needed) (listed_start l (omega (arith, free_few d))) ∙ ap (λ (k : ℕ). take k (free_sectors d)) e

    chosen_long : length (take needed after) ≡ needed
    chosen_long = rw chosen_are (length-take-le (sectors_for image) (free_sectors d) (omega (arith, l.counts)) ∙ sym e)

    pub chosen_good : Chosen (take needed after) image
    chosen_good =
        record {
          are = record { below = λ i g. rw chosen_are (rw (get_or-take (sectors_for image) (free_sectors d) i 0 (omega (arith, chosen_long))) (each_at Sector 0 (free_sectors d) (free_each d) i (omega (arith, chosen_long, l.counts)))) };
          some = omega (arith, chosen_long);
          few = omega (arith, chosen_long, free_few d, l.counts);
          low = omega (arith, chosen_long);
          high = omega (arith, chosen_long);
        }

    pub enough : {r : After} (name : List ℕ) → r ≡ onto_disk (with_file d name image (take needed after)) d → r ≡ onto_disk (saved_new d name image) d
    unfolding saved_new
    enough name g =
        let i : sectors_for image ≤ length (free_sectors d) = omega (arith, l.counts) in
        g ∙ ap (λ (x : List ℕ). onto_disk (with_file d name image x) d) chosen_are
        ∙ ap (λ (t : Bool). onto_disk (cond t (refused disk_full) (with_file d name image (taken d image))) d) (sym (le-ltb (length (free_sectors d)) (sectors_for image) i))

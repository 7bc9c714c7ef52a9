-- The check, test by test.
-- Assumes nothing.
use Prim.Native.Nat.{ℕ}
use mathlib.Core.Path.{◌≡◌, refl, sym, ◌∙◌}
use mathlib.Core.Bool.{Bool, true, false, ◌&&◌}
use mathlib.Core.List.{List}
use lib.Dec.{eqb}
use lib.ListN.{length, get_or, take}
use borrow.Author.Tests.{eq-eqb}
use Rattle.disk_rules.specs.Lists.{is_in, none_twice}
use Rattle.disk_rules.specs.Chains.{Chain}
use Rattle.disk_rules.specs.Free.{map_agrees}
use Rattle.disk_rules.specs.Entries.{entries_good}
use Rattle.disk_chains.specs.ChainHelpers.{Traces}
use Rattle.disk_chains.specs.declared.Traced.{Traced}
use Rattle.disk_check.proofs.Looking.{logged_start}
use Rattle.disk_rules.specs.CountedHelpers.{directory_within, listed_within, chains_within, sound_within}

-- a test that was made where those before it held
pub and_made : {v w x y : Bool} → v ≡ true → w ≡ x → x ≡ y → w ≡ (v && y)
and_made e f g = rw (e, f, g)

pub and_left_out : {v w : Bool} (y : Bool) → v ≡ false → w ≡ v → w ≡ (v && y)
and_left_out y e f = rw (f, e)

regrouped : (a b c d : Bool) → (a && (b && (c && d))) ≡ (a && b && c && d)
regrouped false b c d = refl
regrouped true false c d = refl
regrouped true true c d = refl

-- what the chains of files tell
abbrev pub chains_told : List ℕ → List ℕ → Bool
chains_told d files =
    (chains_within 683 d files).ends && (none_twice (chains_within 683 d files).sectors && map_agrees d (is_in (chains_within 683 d files).sectors))

pub all_held : (d sectors files : List ℕ) → length d ≡ 174848 → sectors ≡ (directory_within 18 d).sectors → files ≡ listed_within 18 d → {v w x y r ends : Bool}
    → ends ≡ (directory_within 18 d).ends → v ≡ (eqb (get_or d 91392 0) 18 && eqb (get_or d 91393 0) 1) → w ≡ (v && ends) → x ≡ (w && none_twice sectors)
    → y ≡ (x && entries_good d files) → r ≡ (y && chains_told d files) → r ≡ sound_within 18 683 d
unfolding sound_within
all_held d sectors files s i j k a b c e f =
    let dir : Chain = directory_within 18 d in
    let met : Chain = chains_within 683 d (listed_within 18 d) in
    simp (eq-eqb (length d) 174848 s)
    (rw (f, e, c, b, a, k, i, j)
    (regrouped (eqb (get_or d 91392 0) 18 && eqb (get_or d 91393 0) 1 && dir.ends && none_twice dir.sectors && entries_good d (listed_within 18 d)) met.ends (none_twice met.sectors) (map_agrees d (is_in met.sectors))))

pub chains_met : (d files : List ℕ) {log : List ℕ} {t : Traced} {after : List ℕ} → Traces (chains_within 683 d files) log 0 t after → t.ends ≡ true → {q : Bool}
    → q ≡ (none_twice (take t.to after) && map_agrees d (is_in (take t.to after))) → q ≡ chains_told d files
chains_met d files t e f =
    let g : (chains_within 683 d files).ends ≡ true = sym t.ends ∙ e in rw g (rw (logged_start t) at f)

-- Saving, test by test.
-- Assumes nothing.
use Prim.Native.Nat.{ℕ, ◌≤◌, ◌<◌}
use mathlib.Core.Path.{◌≡◌, refl, sym, ap, ◌∙◌}
use mathlib.Core.Bool.{Bool, true, false, cond}
use mathlib.Core.List.{List}
use lib.Dec.{leb}
use lib.ListN.{length}
use native.Mathlib.Omega.{arith}
use borrow.Author.Tests.{le-leb, lt-leb}
use Rattle.base_refusals.specs.Numbers.{name_taken, directory_full}
use Rattle.base_refusals.specs.Answer.{Answer, refused, numbered}
use Rattle.base_refusals.specs.declared.Refusal.{Refusal}
use Rattle.disk_rules.specs.Lists.{some}
use Rattle.disk_rules.specs.Entries.{listed, is_named}
use Rattle.disk_rules.specs.Calls.{on_sound, saved, After, onto_disk}
use Rattle.disk_entries.proofs.Finding.{found_some}
use Rattle.disk_saves.specs.SaveHelpers.{saved_new}
use Rattle.disk.specs.LocateHelpers.{Known, Seeks}
use Rattle.disk.specs.declared.Sought.{Sought}
use Rattle.std.specs.Option.{is_some}
use Rattle.std.specs.Prelude.{Result, Ok, Err}
use Rattle.disk.proofs.Locating.{sought, sought_on, sought_not}

-- 22 and 24, and what is answered behind them
abbrev behind : Bool → Bool → Answer (List ℕ) → Answer (List ℕ)
behind taken full a = cond taken (refused name_taken) (cond full (refused directory_full) a)

module _ (d name image : List ℕ) where
  abbrev is_taken : Bool
  is_taken = some (is_named d name) (listed d)

  abbrev is_full : Bool
  is_full = leb 144 (length (listed d))

  abbrev tested : Answer (List ℕ)
  tested = behind is_taken is_full (saved_new d name image)

  saved_is : on_sound d name tested ≡ saved d name image
  unfolding saved saved_new
  saved_is = refl

  module _ {m : Result Sought Refusal} {a : List ℕ} (s : Seeks d name m a) where
    pub save_refused : {r : Refusal} → m ≡ Err r → ◌≡◌ {A = After} (record { answer = refused (numbered r); disk = d }) (onto_disk (saved d name image) d)
    save_refused e = ap (λ (x : Answer (List ℕ)). onto_disk x d) (sought_not s tested e ∙ saved_is)

    module _ {k : Sought} (e : m ≡ Ok k) where
      abbrev known : Known d name k a
      known = sought s e

      -- from what the two tests say
      told : {t u : Bool} → is_taken ≡ t → is_full ≡ u → onto_disk (behind t u (saved_new d name image)) d ≡ onto_disk (saved d name image) d
      told {t} {u} g h =
          ap (λ (x : Bool). onto_disk (behind x u (saved_new d name image)) d) (sym g)
          ∙ ap (λ (x : Bool). onto_disk (behind is_taken x (saved_new d name image)) d) (sym h)
          ∙ ap (λ (x : Answer (List ℕ)). onto_disk x d) (sought_on s tested e ∙ saved_is)

      taken_is : {q : Bool} → q ≡ is_some k.entry → is_taken ≡ q
      taken_is f = sym (f ∙ ap is_some known.first ∙ found_some (is_named d name) (listed d))

      pub save_taken : {q : Bool} → q ≡ is_some k.entry → q ≡ true → ◌≡◌ {A = After} (record { answer = refused name_taken; disk = d }) (onto_disk (saved d name image) d)
      save_taken f g = told (taken_is f ∙ g) refl

      module _ {q : Bool} (f : q ≡ is_some k.entry) (g : q ≡ false) where
        pub save_full : 143 < k.files → ◌≡◌ {A = After} (record { answer = refused directory_full; disk = d }) (onto_disk (saved d name image) d)
        save_full h = told (taken_is f ∙ g) (le-leb 144 (length (listed d)) (omega (arith, known.counts)))

        pub save_on : {r : After} → k.files ≤ 143 → r ≡ onto_disk (saved_new d name image) d → r ≡ onto_disk (saved d name image) d
        save_on h i = i ∙ told (taken_is f ∙ g) (lt-leb 144 (length (listed d)) (omega (arith, known.counts)))

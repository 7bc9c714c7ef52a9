-- What is answered of the entry at a place.
-- Assumes nothing.
use Prim.Native.Nat.{ℕ, ◌+◌, ◌*◌, ◌≤◌}
use mathlib.Core.Path.{◌≡◌, refl, sym, ap, ◌∙◌}
use mathlib.Core.List.{List}
use lib.ListN.{length, get_or, take}
use Rattle.disk_rules.specs.Entries.{name_at}
use Rattle.disk_any.specs.Any.{disk_kind, directory_on, stop_by, any_listed, any_spot, entry_on, entry_told, name_of, file_on, ReadInto, read_by, read_at, any_file}
use Rattle.disk_ways.specs.declared.Stop.{Stop}
use Rattle.disk_any.specs.AnyHelpers.{Placed}
use Rattle.disk_any.specs.declared.DiskKind.{DiskKind}
use Rattle.disk_any.specs.declared.DiskKind.TheVariants.{D64, D71, D81, Other}
use Rattle.std.specs.Prelude.{Option, Some, None, Result, Ok, Err}
use Rattle.disk_any.specs.declared.Entry.{Entry}
use Rattle.disk_any.specs.declared.Unread.{Unread}
use Rattle.disk_any.specs.declared.Unread.TheVariants.{NoEntry, Stopped}

pub described_as : (d : List ℕ) (q : ℕ) {n m : ℕ} → n ≡ get_or d (q + 28) 0 → m ≡ get_or d (q + 29) 0
    → ◌≡◌ {A = Entry} (record { kind = get_or d q 0; track = get_or d (q + 1) 0; sector = get_or d (q + 2) 0; sectors = n + 256 * m }) (entry_on d q)
described_as d q f g = rw (f, g)

module _ (d : List ℕ) (place : ℕ) {s : Option ℕ} (p : Placed d (any_listed d) place s) where
  is : {t : Option ℕ} → s ≡ t → t ≡ any_spot d place
  unfolding any_spot
  is e = sym e ∙ p.is

  pub on_within : {q : ℕ} → s ≡ Some q → q + 30 ≤ length d
  on_within {q} e = p.within q e

  pub on_entry : {q : ℕ} {r : Entry} → s ≡ Some q → r ≡ entry_on d q → Some r ≡ entry_told d (any_spot d place)
  on_entry e f = ap Some f ∙ ap (entry_told d) (is e)

  pub off_entry : s ≡ None → None ≡ entry_told d (any_spot d place)
  off_entry e = ap (entry_told d) (is e)

  pub on_name : {q : ℕ} {n : List ℕ} → s ≡ Some q → n ≡ name_at d q → n ≡ name_of d (any_spot d place)
  on_name e f = f ∙ ap (name_of d) (is e)

  pub off_name : s ≡ None → take 0 d ≡ name_of d (any_spot d place)
  off_name e = ap (name_of d) (is e)

  module _ (out : List ℕ) {k : DiskKind} (f : k ≡ disk_kind (length d)) where
    by_kind : {j : DiskKind} {t : Option ℕ} → k ≡ j → s ≡ t → read_at d j t out ≡ any_file d place out
    unfolding any_file
    by_kind {j} {t} g e = ap (λ (x : DiskKind). read_at d x t out) (sym g ∙ f) ∙ ap (λ (x : Option ℕ). read_at d (disk_kind (length d)) x out) (is e)

    pub file_on_lem : {tracks q : ℕ} {r : Result ℕ Unread} {after : List ℕ} → k ≡ D64 tracks → s ≡ Some q → ◌≡◌ {A = ReadInto} (record { answer = r; buffer = after }) (read_by d (file_on tracks d q) out)
        → ◌≡◌ {A = ReadInto} (record { answer = r; buffer = after }) (any_file d place out)
    file_on_lem g e h = h ∙ by_kind g e

    pub file_off : {tracks : ℕ} → k ≡ D64 tracks → s ≡ None → ◌≡◌ {A = ReadInto} (record { answer = Err NoEntry; buffer = out }) (any_file d place out)
    file_off g e = by_kind g e

module _ (d : List ℕ) (place : ℕ) (out : List ℕ) {k : DiskKind} (f : k ≡ disk_kind (length d)) where
  pub file_none : ((tracks : ℕ) → k ≡ D64 tracks → ⊥) → ◌≡◌ {A = ReadInto} (record { answer = Err NoEntry; buffer = out }) (any_file d place out)
  unfolding any_file
  file_none h = go k f h where
    go : (x : DiskKind) → x ≡ disk_kind (length d) → ((tracks : ℕ) → x ≡ D64 tracks → ⊥)
        → ◌≡◌ {A = ReadInto} (record { answer = Err NoEntry; buffer = out }) (read_at d (disk_kind (length d)) (any_spot d place) out)
    go (D64 tracks) g h = absurd (h tracks refl)
    go D71 g h = ap (λ (x : DiskKind). read_at d x (any_spot d place) out) g
    go D81 g h = ap (λ (x : DiskKind). read_at d x (any_spot d place) out) g
    go Other g h = ap (λ (x : DiskKind). read_at d x (any_spot d place) out) g

-- how the directory's chain stops

module _ (d : List ℕ) {k : DiskKind} (f : k ≡ disk_kind (length d)) where
  pub stop_told : {tracks : ℕ} {s : Stop} → k ≡ D64 tracks → s ≡ (directory_on tracks d).stop → Some s ≡ stop_by d (disk_kind (length d))
  stop_told g e = ap Some e ∙ ap (stop_by d) (sym g ∙ f)

  pub stop_none : ((tracks : ℕ) → k ≡ D64 tracks → ⊥) → None ≡ stop_by d (disk_kind (length d))
  stop_none h = go k f h where
    go : (x : DiskKind) → x ≡ disk_kind (length d) → ((tracks : ℕ) → x ≡ D64 tracks → ⊥) → None ≡ stop_by d (disk_kind (length d))
    go (D64 tracks) g h = absurd (h tracks refl)
    go D71 g h = ap (stop_by d) g
    go D81 g h = ap (stop_by d) g
    go Other g h = ap (stop_by d) g

-- What is told: an outcome as a code, with the buffer that was left.
-- Assumes nothing.
use Prim.Native.Nat.{ℕ, ◌+◌, min}
use native.Mathlib.Omega.{arith}
use mathlib.Core.Path.{◌≡◌, sym, ap, ◌∙◌}
use mathlib.Core.List.{List}
use lib.ListN.{length}
use Rattle.base_refusals.specs.Numbers.{bad_disk}
use Rattle.base_refusals.specs.Answer.{Answer, done, refused, numbered, answered}
use Rattle.base_refusals.specs.Code.{code_of, length_code}
use Rattle.base_lent.specs.Lent.{Lent, into_buffer, room_for, left}
use Rattle.base_refusals.specs.declared.Code.{Code}
use Rattle.base_refusals.specs.declared.Refusal.{Refusal}
use Rattle.disk_rules.specs.Calls.{After, leaving}
use Rattle.disk_rules.specs.declared.Holding.{Holding}
use Rattle.disk_directory.specs.Listing.{directory_text, Shows}
use Rattle.image_index_entries.specs.declared.Numbers.{Numbers}
use Rattle.image_relink.specs.Relinking.{Relinking, relinked_answer}
use Rattle.image_relink.specs.declared.Relinked.{Relinked}
use Rattle.image_relink.specs.declared.Relinked.TheVariants.{Changed as RelinkedAsChanged}
use Rattle.count_images.specs.Carried.{Kept, carried_answer, carried}
use Rattle.count_images.specs.declared.Carried.{Carried}
use Rattle.count_images.specs.declared.Carried.TheVariants.{Apart}
use Rattle.moldthatch.specs.Told.{Told, told_code, bare_code, told_disk, holding_code, shown_directory, held_code, relinking_code, fate_code, told_totals}
use Rattle.std.specs.Prelude.{Option, Result, Ok, Err}

module _ (o : Result ℕ Refusal) {c : Code} (code : c ≡ length_code (answered o)) where
  pub tells : {b : List ℕ} {l : Lent} → left o b ≡ l → ◌≡◌ {A = Told} (record { code = c; buffer = b }) (told_code l)
  tells {b} q = ap (λ (x : Code). record { code = x; buffer = b }) code ∙ ap told_code q

  pub tells_room : {a : Answer ℕ} → answered o ≡ a → c ≡ length_code a
  tells_room q = code ∙ ap length_code q

-- a result that is refused before anything is stored
module _ (r : Refusal) {c : Code} (code : c ≡ code_of (numbered r)) where
  pub tells_refused : (buffer : List ℕ) {a : Answer (List ℕ)} → refused (numbered r) ≡ a → ◌≡◌ {A = Told} (record { code = c; buffer = buffer }) (told_code (into_buffer a buffer))
  unfolding into_buffer
  tells_refused buffer q = ap (λ (x : Code). record { code = x; buffer = buffer }) code ∙ ap (λ (x : Answer (List ℕ)). told_code (into_buffer x buffer)) q

  pub tells_refused_room : {a : Answer (List ℕ)} → refused (numbered r) ≡ a → c ≡ length_code (room_for a)
  tells_refused_room q = code ∙ ap (λ (x : Answer (List ℕ)). length_code (room_for x)) q

-- ---- disks

pub tells_disk : (r : Result (Unit {0}) Refusal) {c : Code} → c ≡ bare_code (answered r) → {d : List ℕ} {a : After} → leaving r d ≡ a → ◌≡◌ {A = Told} (record { code = c; buffer = d }) (told_disk a)
tells_disk r code {d} q = ap (λ (x : Code). record { code = x; buffer = d }) code ∙ ap told_disk q

pub tells_changed : (r : Result (Unit {0}) Refusal) {m : (Result (Unit {0}) Refusal)} → r ≡ m → {c : Code} → c ≡ bare_code (answered m) → c ≡ bare_code (answered r)
tells_changed r e code = code ∙ ap (λ (x : Result (Unit {0}) Refusal). bare_code (answered x)) (sym e)

pub tells_holding : (r : Result Holding Refusal) {m : Result Holding Refusal} → r ≡ m → {a : Answer Holding} → answered r ≡ a → {c : Code} → c ≡ holding_code (answered m) → c ≡ holding_code a
tells_holding r e q code = code ∙ ap (λ (x : Result Holding Refusal). holding_code (answered x)) (sym e) ∙ ap holding_code q

-- a text at a buffer's start
clipped_length : {n : ℕ} (m k : ℕ) → n ≡ min (0 + m) k → n ≡ min m k
clipped_length m k e = e ∙ ap (λ (x : ℕ). min x k) zero_front
  where
    zero_front : 0 + m ≡ m
    zero_front = omega arith

pub tells_directory : (o : Result ℕ Refusal) {c : Code} → c ≡ length_code (answered o) → (disk buffer : List ℕ) {b : List ℕ} → Shows disk buffer o b → ◌≡◌ {A = Told} (record { code = c; buffer = b }) (shown_directory disk buffer)
tells_directory (Ok n) code disk buffer {b} shows =
    ap (λ (x : Code). record { code = x; buffer = b }) (code ∙ ap (λ (x : ℕ). length_code (done x)) (clipped_length _ _ shows.1.ends))
    ∙ ap (λ (x : List ℕ). record { code = length_code (done (min (length (directory_text disk)) (length buffer))); buffer = x }) shows.1.stored
    ∙ simp shows.0
tells_directory (Err r) code disk buffer {b} shows =
    ap (λ (x : Code). record { code = x; buffer = b }) (code ∙ ap code_of shows.1)
    ∙ ap (λ (x : List ℕ). record { code = code_of bad_disk; buffer = x }) shows.2
    ∙ simp shows.0

-- ---- indexes, relinking, counts

pub tells_held : (r : Option Numbers) {m : Option Numbers} → r ≡ m → {c : Code} → c ≡ held_code m → c ≡ held_code r
tells_held r e code = code ∙ ap held_code (sym e)

pub tells_entry : (r : Option Numbers) {c : Code} → c ≡ held_code r → {h : Option Numbers} → r ≡ h → c ≡ held_code h
tells_entry r code q = code ∙ ap held_code q

pub tells_relinked : (r : Result Relinked Refusal) {m : Result Relinked Refusal} → r ≡ m → {a : Answer Relinking} → relinked_answer r ≡ a → {c : Code} → c ≡ relinking_code (relinked_answer m) → c ≡ relinking_code a
tells_relinked r e q code = code ∙ ap (λ (x : Result Relinked Refusal). relinking_code (relinked_answer x)) (sym e) ∙ ap relinking_code q

pub tells_fate : (r : Carried) {m : Carried} → r ≡ m → {c : Code} → c ≡ fate_code (carried_answer m) → c ≡ fate_code (carried_answer r)
tells_fate r e code = code ∙ ap (λ (x : Carried). fate_code (carried_answer x)) (sym e)

pub tells_totals : (r : Carried) {c : Code} → c ≡ fate_code (carried_answer r) → {t : List ℕ} {k : Kept} → carried r t ≡ k → ◌≡◌ {A = Told} (record { code = c; buffer = t }) (told_totals k)
tells_totals r code {t} q = ap (λ (x : Code). record { code = x; buffer = t }) code ∙ ap told_totals q

-- an image counted apart, by the number of its refusal
pub tells_apart : (r : Carried) {f : Refusal} → r ≡ Apart f → {q : Code} → q ≡ code_of (numbered f) → {n : ℕ} → n ≡ q.number
    → {c : Code} → c ≡ record { number = 0; count = 1; first = n; second = 0 } → c ≡ fate_code (carried_answer r)
tells_apart r e code number made = made ∙ ap (λ (x : ℕ). record { number = 0; count = 1; first = x; second = 0 }) (number ∙ ap (λ (x : Code). x.number) code) ∙ ap (λ (x : Carried). fate_code (carried_answer x)) (sym e)

-- a link that is changed
pub tells_link : (r : Result Relinked Refusal) {offset link : ℕ} → r ≡ Ok (RelinkedAsChanged offset link) → {n : ℕ} → n ≡ link → {a : Answer Relinking} → relinked_answer r ≡ a
    → record { number = 0; count = 2; first = offset; second = n } ≡ relinking_code a
tells_link r {offset} e number q = tells_relinked r e q (ap (λ (x : ℕ). record { number = 0; count = 2; first = offset; second = x }) number)

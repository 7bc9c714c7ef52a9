-- A file's entry put together, the directory's growth, and the disk's length kept.
-- Assumes nothing.
use Prim.Native.Nat.{ℕ, ◌+◌, ◌-◌, ◌*◌, ◌/◌, ◌%◌, ◌≤◌, ◌<◌}
use mathlib.Core.Path.{◌≡◌, ap, ◌∙◌}
use mathlib.Core.Bool.{false}
use mathlib.Core.List.{List, [], ◌∷◌, ◌++◌, append_assoc}
use lib.ListN.{length, get_or, drop, set, replicate, length-append, length-replicate, length-set}
use lib.Seq.{sets, sets-eq, length-sets}
use native.Mathlib.Numerals.{add-one}
use native.Mathlib.Omega.{arith}
use Rattle.disk_rules.specs.Places.{track_of, sector_of}
use Rattle.disk_rules.specs.Map.{marked}
use Rattle.disk_rules.specs.Free.{marked_all}
use Rattle.disk_rules.specs.Calls.{sector_bytes, entry_bytes, grown}
use Rattle.disk_chains.specs.ChainHelpers.{Sectors}
use Rattle.disk_chains.proofs.Marking.{marked_long}
use Rattle.disk_bytes.proofs.Laying.{drop_replicate}

-- ---- an entry

padded_name : (name : List ℕ) {padded : List ℕ} → length name ≤ 16 → padded ≡ sets (replicate 16 0xA0) 0 name
    → padded ≡ name ++ replicate (16 - length name) 0xA0
padded_name name h e =
    let z : 0 + length name ≡ length name = omega arith in
    e ∙ sets-eq name (replicate 16 0xA0) 0 (omega arith)
    ∙ ap (λ (k : ℕ). name ++ drop k (replicate 16 0xA0)) z
    ∙ ap (λ (r : List ℕ). name ++ r) (drop_replicate (length name) 16 0xA0)

padded_long : (name : List ℕ) {padded : List ℕ} → length name ≤ 16 → padded ≡ name ++ replicate (16 - length name) 0xA0 → length padded ≡ 16
padded_long name h e =
    omega (arith, ap length e, length-append name (replicate (16 - length name) 0xA0), length-replicate {A = ℕ} (16 - length name) 0xA0)

entry_made : (name list : List ℕ) {padded entry : List ℕ} {t s : ℕ} → length name ≤ 16 → padded ≡ sets (replicate 16 0xA0) 0 name
    → t ≡ track_of (get_or list 0 0) → s ≡ sector_of (get_or list 0 0)
    → entry ≡ sets (set (set (set (set (set (replicate 30 0) 0 0x82) 1 t) 2 s) 28 (length list % 256)) 29 (length list / 256)) 3 padded
    → entry ≡ entry_bytes name list
entry_made name list {padded} {entry} {t} {s} h e a b f =
    let p : padded ≡ name ++ replicate (16 - length name) 0xA0 = padded_name name h e in
    let l : length padded ≡ 16 = padded_long name h p in
    let blank : List ℕ = set (set (set (set (set (replicate 30 0) 0 0x82) 1 t) 2 s) 28 (length list % 256)) 29 (length list / 256) in
    let k : 3 + length padded ≡ 19 = omega arith in
    f ∙ sets-eq padded blank 3 (omega arith)
    ∙ ap (λ (j : ℕ). 0x82 ∷ t ∷ s ∷ padded ++ drop j blank) k
    ∙ rw (p, a, b) (simp append_assoc)

pub entry_put : (d : List ℕ) (p : ℕ) (name list : List ℕ) {padded entry : List ℕ} {t s : ℕ} {d' : List ℕ} → length name ≤ 16 → padded ≡ sets (replicate 16 0xA0) 0 name
    → t ≡ track_of (get_or list 0 0) → s ≡ sector_of (get_or list 0 0)
    → entry ≡ sets (set (set (set (set (set (replicate 30 0) 0 0x82) 1 t) 2 s) 28 (length list % 256)) 29 (length list / 256)) 3 padded
    → d' ≡ sets d p entry → d' ≡ sets d p (entry_bytes name list)
entry_put d p name list h e a b f g = g ∙ ap (λ (x : List ℕ). sets d p x) (entry_made name list h e a b f)

pub first_below : {list : List ℕ} → Sectors list → 1 ≤ length list → get_or list 0 0 < 683
first_below s h = s.below 0 h

-- ---- the directory's growth

pub grow_made : (d : List ℕ) (last n : ℕ) {t s : ℕ} {d₁ d' : List ℕ} → d₁ ≡ sets d (256 * n) (sector_bytes 0 0xFF [])
    → t ≡ track_of n → s ≡ sector_of n → d' ≡ marked (set (set d₁ (256 * last) t) (256 * last + 1) s) n false → d' ≡ grown d last n
grow_made d last n e a b f = rw (e, a, b, add-one (256 * last)) at f

pub grow_long : (d : List ℕ) (last n t s : ℕ) {d₁ d' : List ℕ} → d₁ ≡ sets d (256 * n) (sector_bytes 0 0xFF [])
    → d' ≡ marked (set (set d₁ (256 * last) t) (256 * last + 1) s) n false → length d' ≡ length d
grow_long d last n t s {d₁} e f =
    ap length f
    ∙ marked_long (set (set d₁ (256 * last) t) (256 * last + 1) s) n false
    ∙ simp length-set (ap length e ∙ length-sets d (256 * n) (sector_bytes 0 0xFF []))

-- ---- a file

pub file_put : {d₁ d₂ : List ℕ} (x : List ℕ) (p : ℕ) {d' : List ℕ} → d₁ ≡ d₂ → d' ≡ sets d₁ p x → d' ≡ sets d₂ p x
file_put x p e f = rw e at f

pub file_grown : {d₁ d₂ : List ℕ} (x : List ℕ) (last n p : ℕ) {d' d'' : List ℕ} → d₁ ≡ d₂ → d' ≡ grown d₁ last n → d'' ≡ sets d' p x → d'' ≡ sets (grown d₂ last n) p x
file_grown x last n p e f g = rw (f, e) at g

pub bytes_put : {d₁ d₂ d' : List ℕ} (list : List ℕ) → d₁ ≡ d₂ → d' ≡ marked_all d₁ list false → d' ≡ marked_all d₂ list false
bytes_put list e f = rw e at f

-- A digest is 32 bytes long; stored at a buffer's start, or not.
-- Assumes nothing.
use Prim.Native.Nat.{ℕ, ◌+◌, ◌≤◌, ◌<◌}
use mathlib.Core.Path.{◌≡◌, refl, sym, ap, ap₂, ◌∙◌}
use mathlib.Core.List.{List, ◌++◌, flat_map}
use native.Mathlib.Omega.{arith}
use lib.ListN.{length, drop}
use lib.Seq.{sets-eq}
use Rattle.base_refusals.specs.Answer.{done, refused}
use Rattle.base_refusals.specs.Numbers.{no_room}
use Rattle.base_lent.specs.Lent.{Lent, into_buffer}
use Rattle.base_lent.proofs.Outcomes.{into_none, into_done}
use Rattle.digest_sha256.specs.Sha256.{big_endian, digest_of}

pub digest_long : (m : List ℕ) → 32 ≡ length (digest_of m)
unfolding digest_of flat_map big_endian
digest_long m = refl

pub no_room_lem : (m out : List ℕ) → length out < 32 → ◌≡◌ {A = Lent} (record { answer = refused (no_room 32); buffer = out }) (into_buffer (done (digest_of m)) out)
no_room_lem m out h = into_none out (done (digest_of m)) (ap done (digest_long m)) h

pub digest_put : (m out : List ℕ) {d part : List ℕ} → d ≡ digest_of m → part ≡ d → 32 ≤ length out
    → ◌≡◌ {A = Lent} (record { answer = done 32; buffer = part ++ drop 32 out }) (into_buffer (done (digest_of m)) out)
digest_put m out {d} {part} e p h =
    let fits : 0 + length (digest_of m) ≤ length out = omega (arith, digest_long m) in
    let sum : length (digest_of m) ≡ 0 + length (digest_of m) = omega arith in
    let long : 32 ≡ length (digest_of m) = digest_long m in
    into_done out (done (digest_of m)) refl (record { room = fits })
    (record {
      ends = digest_long m ∙ sum;
      stored = ap₂ (λ (l : List ℕ) (k : ℕ). l ++ drop k out) (p ∙ e) (long ∙ sum) ∙ sym (sets-eq (digest_of m) out 0 fits);
    })

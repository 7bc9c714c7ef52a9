-- Texts stored one behind the other: what is still owed. The whole is stored once what is left is.
-- Assumes nothing.
use Prim.Native.Nat.{ℕ, ◌+◌, ◌≤◌}
use mathlib.Core.Path.{◌≡◌, refl, sym, ap, ◌∙◌}
use mathlib.Core.List.{List, [], ◌++◌}
use native.Mathlib.Omega.{arith}
use lib.ListN.{length, length-append}
use lib.Seq.{sets}
use Rattle.base_lent.specs.Stores.{Room, Put}
use Rattle.base_lent.proofs.Storing.{put_long, sets_append}

-- with what is left stored from `to` on, the whole is stored from `at` on
pub record Owed (buffer : List ℕ) (at : ℕ) (whole out : List ℕ) (to : ℕ) (left : List ℕ) : Type 0 where
  pub fits : at + length whole ≤ length buffer
  pub long : length out ≡ length buffer
  pub ends : to + length left ≡ at + length whole
  pub gives : sets out to left ≡ sets buffer at whole

pub owed_start : {buffer : List ℕ} {at : ℕ} {whole : List ℕ} → Room buffer at whole → Owed buffer at whole buffer at whole
owed_start r = record { fits = r.room; long = refl; ends = refl; gives = refl }

module _ {buffer : List ℕ} {at : ℕ} {whole out : List ℕ} {to : ℕ} {left : List ℕ} (o : Owed buffer at whole out to left) where
  module _ (text rest : List ℕ) (parts : left ≡ text ++ rest) where
    pub owed_room : Room out to text
    owed_room = record { room = omega (arith, ap length parts, length-append text rest, o.fits, o.long, o.ends) }

    pub owed_turn : {to' : ℕ} {out' : List ℕ} → Put out to text to' out' → Owed buffer at whole out' to' rest
    owed_turn {to'} p =
        record {
          fits = o.fits;
          long = put_long p ∙ o.long;
          ends = omega (arith, ap length parts, length-append text rest, o.ends, p.ends);
          gives =
              rw (p.stored, p.ends) (sym (sets_append out to text rest) ∙ ap (sets out to) (sym parts) ∙ o.gives);
        }

  pub owed_end : left ≡ [] → Put buffer at whole to out
  owed_end none = record { ends = omega (arith, ap length none, o.ends); stored = rw none at o.gives }

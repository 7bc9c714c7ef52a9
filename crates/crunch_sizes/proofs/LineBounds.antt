-- The bound of an address behind a text line.
-- Assumes nothing.
use Prim.Native.Nat.{ℕ, ◌+◌, ◌-◌, ◌≤◌, min}
use mathlib.Core.Path.{◌≡◌, refl, sym, ap, ◌∙◌}
use mathlib.Core.List.{List, []}
use native.Mathlib.Omega.{arith}
use lib.ListN.{length, take, drop}
use Rattle.base_refusals.specs.Answer.{Answer, done}
use Rattle.text_numbers.specs.declared.Numbering.{Numbering}
use Rattle.text_numbers.specs.declared.Numbering.TheVariants.{Blank, Numbered}
use Rattle.text_numbers.specs.NumberHelpers.{numbering}
use Rattle.body.specs.Body.{crunched_body}
use Rattle.body_rules.specs.Lexicon.{Lexicon}
use Rattle.image_readers.specs.NumberedBody.{NumberedBody}
use Rattle.image_layout.specs.Layout.{end_address}
use Rattle.crunch_rules.specs.Crunched.{text_line}
use Rattle.crunch_rules.specs.PassesHelpers.{given}
use Rattle.crunch_sizes.specs.SizeHelpers.{LineSized, Bounded}
use Rattle.crunch_rules.proofs.Lining.{read_as}
use Rattle.crunch_sizes.proofs.Sizing.{line_of, line_fits}

given_done : {a : Answer (List NumberedBody)} {ls : List NumberedBody} → a ≡ done ls → a ≡ done (given a)
given_done e = e ∙ ap done (sym (ap given e))

-- no bound
pub bounded_not : (words : Lexicon) (line : List ℕ) {address : ℕ} → address ≤ 0xFFFF → Bounded words address line 0x10000
bounded_not words line h = record { low = omega arith; gives = λ q k. absurd (omega arith); below = λ q. absurd (omega arith) }

module _ (words : Lexicon) (line : List ℕ) {m : Numbering} {address : ℕ} where
  pub bounded_blank : m ≡ Blank → m ≡ numbering line → Bounded words address line address
  unfolding end_address
  bounded_blank t e =
      let blank : (k : ℕ) → text_line words k line ≡ done [] = λ k. sym (read_as words k line t e) in
      record { low = omega arith; gives = λ h k. given_done (blank k); below = λ h. omega (arith, ap (λ (a : Answer (List NumberedBody)). end_address address (given a)) (blank 0)) }

  module _ {number from to n : ℕ} (b : min (length (crunched_body words (take (to - from) (drop from line)))) 65536 ≤ n) (t : m ≡ Numbered number from to) (e : m ≡ numbering line) where
    sized : address + 5 + n ≤ 0xFFFF → (k : ℕ)
        → LineSized address (text_line words k line) number (address + 5 + min (length (crunched_body words (take (to - from) (drop from line)))) 65536)
    sized h k = line_fits address (line_of words line number from to) (sym (read_as words k line t e)) refl (omega (arith, b))

    pub bounded_line : Bounded words address line (address + 5 + n)
    unfolding end_address
    bounded_line =
        record {
          low = omega arith;
          gives = λ h k. given_done (sized h k).gives;
          below = λ h. omega (arith, ap (λ (a : Answer (List NumberedBody)). end_address address (given a)) (sized h 0).gives, (sized h 0).behind_is, b);
        }

-- What a text line comes to, case by case.
-- Assumes nothing.
use Prim.Native.Nat.{ℕ, ◌+◌, ◌-◌, ◌≤◌, ◌<◌, min}
use mathlib.Core.Path.{◌≡◌, refl, sym, ap, ◌∙◌, subst}
use mathlib.Core.Bool.{Bool, true, false, cond}
use mathlib.Core.List.{List, [], ◌∷◌}
use native.Mathlib.Omega.{arith}
use lib.Dec.{ltb}
use lib.ListN.{length, take, drop}
use borrow.Author.Tests.{ltb-true, ltb-false}
use Rattle.base_refusals.specs.Numbers.{Numbered as RefusalAsNumbered, address_overflow}
use Rattle.base_refusals.specs.Answer.{Answer, done, refused, map_done, and_then, answered}
use Rattle.base_refusals.specs.declared.Refusal.{Refusal}
use Rattle.base_refusals.specs.declared.Refusal.TheVariants.{MissingLineNumber, LineNumberOutOfRange, AddressOverflow}
use Rattle.text_numbers.specs.declared.Numbering.{Numbering}
use Rattle.text_numbers.specs.declared.Numbering.TheVariants.{Blank, Missing, OutOfRange, Numbered}
use Rattle.text_numbers.specs.NumberHelpers.{numbering, told}
use Rattle.body_rules.specs.Lexicon.{Lexicon}
use Rattle.body.specs.Body.{crunched_body}
use Rattle.body.specs.Zero.{holds_zero}
use Rattle.image_readers.specs.NumberedBody.{NumberedBody}
use Rattle.image_layout.specs.Layout.{end_address}
use Rattle.crunch_profile.specs.Profile.{profile_says, line_allowed, allowed}
use Rattle.crunch_profile.proofs.Asking.{says_cut}
use Rattle.crunch_rules.specs.Crunched.{lines_read, line_under, last_link}
use Rattle.crunch_sizes.specs.SizeHelpers.{LineSized, SizedAs, sized_at}
use Rattle.crunch_sizes.specs.declared.SizedLine.{SizedLine}
use Rattle.crunch_rules.proofs.Lining.{link_fits, link_over, read_as, under_as, Taken}
use Rattle.std.specs.Prelude.{Some, None, Result, Ok, Err}

-- the line that a numbered text line gives
abbrev pub line_of : Lexicon → List ℕ → ℕ → ℕ → ℕ → NumberedBody
line_of words line number from to = record { number = number; body = crunched_body words (take (to - from) (drop from line)) }

-- such a line at an address, its body measured up to 65,536
module _ (address : ℕ) (l : NumberedBody) {a : Answer (List NumberedBody)} (gives : a ≡ done (l ∷ [])) {n : ℕ} (is : n ≡ min (length l.body) 65536) where
  pub line_fits : address + 5 + n ≤ 0xFFFF → LineSized address a l.number (address + 5 + n)
  line_fits h = record { body = l.body; gives = gives; behind_is = omega (arith, is); high = h }

  line_over : 0xFFFF < address + 5 + n → and_then a (last_link address) ≡ refused address_overflow
  unfolding end_address
  line_over h =
      let over : 0xFFFF < address + 5 + length l.body = omega arith in
      ap (λ (x : Answer (List NumberedBody)). and_then x (last_link address)) gives ∙ link_over address (l ∷ []) over

  module _ {r : Result SizedLine Refusal} (z : r ≡ sized_at address l.number n) where
    line_some : {x : SizedLine} → r ≡ Ok x → SizedAs address a (Ok (Some x))
    unfolding SizedAs
    line_some {x} t = go (ltb 0xFFFF (address + 5 + n)) refl (sym z ∙ t)
      where
        go : (b : Bool) → ltb 0xFFFF (address + 5 + n) ≡ b → cond {A = Result SizedLine Refusal} b (Err AddressOverflow) (Ok (record { number = l.number; behind = address + 5 + n })) ≡ Ok x
            → SizedAs address a (Ok (Some x))
        go true p q = let y : ◌≡◌ {A = ℕ} 0 1 = cc in absurd (omega arith)
        go false p q =
            let y : ◌≡◌ {A = SizedLine} (record { number = l.number; behind = address + 5 + n }) x = cc in
            subst (λ (v : SizedLine). SizedAs address a (Ok (Some v))) y (line_fits (omega (arith, ltb-false 0xFFFF (address + 5 + n) p)))

    line_not : {x : Refusal} → r ≡ Err x → SizedAs address a (Err x)
    unfolding SizedAs
    line_not {x} t = go (ltb 0xFFFF (address + 5 + n)) refl (sym z ∙ t)
      where
        go : (b : Bool) → ltb 0xFFFF (address + 5 + n) ≡ b → cond {A = Result SizedLine Refusal} b (Err AddressOverflow) (Ok (record { number = l.number; behind = address + 5 + n })) ≡ Err x
            → SizedAs address a (Err x)
        go true p q =
            let y : AddressOverflow ≡ x = cc in
            subst (λ (v : Refusal). SizedAs address a (Err v)) y (line_over (ltb-true 0xFFFF (address + 5 + n) p))
        go false p q = let y : ◌≡◌ {A = ℕ} 0 1 = cc in absurd (omega arith)

-- ---- under the profile, if it is asked

module _ (profile : Bool) (words : Lexicon) (k least : ℕ) (line : List ℕ) (address : ℕ) {m : Numbering} where
  refused_as : {x : Numbering} {n : RefusalAsNumbered} → lines_read words k (told line x) ≡ refused n → m ≡ x → m ≡ numbering line
      → and_then (line_under profile words k least line) (last_link address) ≡ refused n
  refused_as {x} {n} r t e = sym (ap (λ (a : Answer (List NumberedBody)). and_then a (last_link address)) (under_as profile words k least line (sym r ∙ read_as words k line t e)))

  pub sized_blank : m ≡ Blank → m ≡ numbering line → SizedAs address (line_under profile words k least line) (Ok None)
  unfolding SizedAs
  sized_blank t e = sym (under_as profile words k least line (read_as words k line t e)) ∙ go profile
    where
      go : (b : Bool) → map_done {B = List NumberedBody} (λ _. []) (cond b (allowed k least []) (done tt)) ≡ done []
      go true = refl
      go false = refl

  pub sized_missing : m ≡ Missing → m ≡ numbering line → SizedAs address (line_under profile words k least line) (Err (MissingLineNumber k))
  unfolding SizedAs
  sized_missing t e = refused_as refl t e

  pub sized_range : {v : ℕ} → m ≡ OutOfRange v → m ≡ numbering line → SizedAs address (line_under profile words k least line) (Err (LineNumberOutOfRange k v))
  unfolding SizedAs
  sized_range t e = refused_as refl t e

  -- a numbered line
  module _ {number from to n : ℕ} (is : n ≡ min (length (crunched_body words (take (to - from) (drop from line)))) 65536)
      (t : m ≡ Numbered number from to) (e : m ≡ numbering line) where
    abbrev here : NumberedBody
    here = line_of words line number from to

    -- what the profile says, if it is asked
    abbrev says : Answer (Unit {0})
    says = cond profile (allowed k least (here ∷ [])) (done tt)

    under_says : {b : Answer (Unit {0})} → says ≡ b → line_under profile words k least line ≡ map_done (λ _. here ∷ []) b
    under_says q = sym (under_as profile words k least line (read_as words k line t e)) ∙ ap (map_done (λ _. here ∷ [])) q

    module _ (q : says ≡ done tt) {r : Result SizedLine Refusal} where
      pub sized_some : {x : SizedLine} → r ≡ Ok x → r ≡ sized_at address number n → SizedAs address (line_under profile words k least line) (Ok (Some x))
      sized_some y z = line_some address here (under_says q) is z y

      pub sized_over : {x : Refusal} → r ≡ Err x → r ≡ sized_at address number n → SizedAs address (line_under profile words k least line) (Err x)
      sized_over y z = line_not address here (under_says q) is z y

    -- it is not asked
    pub says_plain : profile ≡ false → says ≡ done tt
    says_plain f = ap (λ (b : Bool). cond b (allowed k least (here ∷ [])) (done tt)) f

    -- it is asked
    module _ (p : profile ≡ true) {zero : Bool} (zero_is : zero ≡ holds_zero (crunched_body words (take (to - from) (drop from line)))) (x : Result (Unit {0}) Refusal)
        (told_is : answered x ≡ profile_says k least number zero n) where
      line_says : answered x ≡ line_allowed k least here
      unfolding line_allowed
      line_says =
          told_is ∙ ap (λ (b : Bool). profile_says k least number b n) zero_is ∙ ap (profile_says k least number (holds_zero here.body)) is
          ∙ says_cut k least number (holds_zero here.body) (length here.body)

      says_is : says ≡ and_then (answered x) (λ _. done tt)
      says_is =
          ap (λ (b : Bool). cond b (allowed k least (here ∷ [])) (done tt)) p
          ∙ ap (λ (b : Answer (Unit {0})). and_then b (λ _. done tt)) (sym line_says)

      pub says_allowed : x ≡ Ok tt → says ≡ done tt
      says_allowed y = says_is ∙ ap (λ (v : Result (Unit {0}) Refusal). and_then (answered v) (λ _. done tt)) y

      pub sized_not : {v : Refusal} → x ≡ Err v → SizedAs address (line_under profile words k least line) (Err v)
      unfolding SizedAs
      sized_not y =
          ap (λ (a : Answer (List NumberedBody)). and_then a (last_link address))
          (under_says (says_is ∙ ap (λ (v : Result (Unit {0}) Refusal). and_then (answered v) (λ _. done tt)) y))

-- a line that was measured is taken
unfoldable pub taken_line : {profile : Bool} {words : Lexicon} {k least address : ℕ} {line : List ℕ} {number behind : ℕ} (s : LineSized address (line_under profile words k least line) number behind)
    → Taken profile words k least address line behind
unfolding end_address
taken_line {address = address} {number = number} s =
    let new : List NumberedBody = record { number = number; body = s.body } ∷ [] in
    record {
      new = new;
      line_is = s.gives;
      link_is = link_fits address new (omega (arith, s.behind_is, s.high)) ∙ ap done (sym s.behind_is);
      next_is = s.behind_is;
      high = s.high;
    }
